-- What a read group refuses leaves no trace: its reading, and a reader's list, are those of what it took and what else befell it.
use Rattle.std.proofs.Common.{◌≡◌, refl, sym, ap, ◌∙◌, ℕ, Bool, true, false, List, [], ◌∷◌, Result, Ok, Err}
use Rattle.std.specs.Prelude.{◌==◌, slice_index_or}
use Rattle.pubsub_model.specs.declared.reading.Why.TheVariants.{Timeout}
use Rattle.message_guard.specs.Acceptance.{Accepted}
use Rattle.message_guard.specs.Modes.{is_secured}
use Rattle.ps_config.specs.declared.parts.Config.{Config}
use Rattle.reader_group.specs.declared.refusal.Refusal.{Refusal}
use Rattle.reader_group.specs.Agreeing.{AreRestarts}
use Rattle.reader_group.specs.Arrivals.{Mark, Way, accepted, arrivals_in, cut_on, marks, runs_out, taken_in}
use Rattle.reader_group.specs.Opening.{Opened, verdict}
use Rattle.reader_group.specs.Plain.{Setting, PlainGroup, Event, Got, Expired, Stopped, plain, step, taken_on, verdict_in}
use Rattle.reader_group.specs.Signed.{TakesSignedAlone}
use Rattle.reader_group.proofs.Accepting.{plain-accepted}
use Rattle.writer_group.specs.Turns.{GroupDeed}
use Rattle.session_laws.specs.Pasts.{CameAsMade, IsMade}
use Rattle.session_laws.specs.Readers.{IsMadeFor, Making, SignedAreMade}
use Rattle.turn_laws.specs.Makers.{SignedWereMade, TakenAreMade}

-- a secured group takes only what is signed, so where all that came signed was made, what it took was
pub taken-were-made : TakesSignedAlone → (setting : Setting) (config : Config) (pasts : ℕ → List GroupDeed) (events : List Event) → is_secured setting.setup.mode ≡ true → SignedWereMade setting config pasts events
    → CameAsMade setting config pasts events
taken-were-made signed setting config pasts [] secured so = tt
taken-were-made signed setting config pasts (Got moment on datagram ∷ before) secured so =
    ((λ opened e. so.0 (signed setting.group setting.setup (accepted setting before) datagram opened e secured)), taken-were-made signed setting config pasts before secured so.1)
taken-were-made signed setting config pasts (Expired moment ∷ before) secured so = taken-were-made signed setting config pasts before secured so
taken-were-made signed setting config pasts (Stopped reader why ∷ before) secured so = taken-were-made signed setting config pasts before secured so

module _ (setting : Setting) (config : Config) (pasts : ℕ → List GroupDeed) (m : Making) (way : Way) (made_for : (datagram : List ℕ) → IsMade config pasts datagram → IsMadeFor m setting way datagram) where
  pub taken-made : (events : List Event) → CameAsMade setting config pasts events → TakenAreMade m setting way events
  taken-made [] came = tt
  taken-made (Got moment on datagram ∷ before) came = ((λ opened e. made_for datagram (came.0 opened e)), taken-made before came.1)
  taken-made (Expired moment ∷ before) came = taken-made before came
  taken-made (Stopped reader why ∷ before) came = taken-made before came

  pub signed-made : (events : List Event) → SignedWereMade setting config pasts events → SignedAreMade m setting way events
  signed-made [] came = tt
  signed-made (Got moment on datagram ∷ before) came = ((λ signed. made_for datagram (came.0 signed)), signed-made before came.1)
  signed-made (Expired moment ∷ before) came = signed-made before came
  signed-made (Stopped reader why ∷ before) came = signed-made before came

  -- events without the datagrams that were refused
  pub record HasTaken (events : List Event) : Type 0 where
    pub taken : List Event
    pub value_is : plain setting taken ≡ plain setting events
    pub list_is : marks setting way taken ≡ marks setting way events
    pub made : SignedAreMade m setting way taken
    pub restarts : AreRestarts events → AreRestarts taken

  module _ (moment : ℕ) (on : List Bool) (datagram : List ℕ) (before : List Event) where
    abbrev enabled : Bool
    enabled = slice_index_or on way.index false

    abbrev pairs : Accepted
    pairs = accepted setting before

    abbrev event : Event
    event = Got moment on datagram

    -- what the group made of it
    value-by : (answer : Result Opened Refusal) → verdict setting.group setting.setup pairs datagram ≡ answer → plain setting (event ∷ before) ≡ taken_on setting (plain setting before) moment on answer
    value-by answer e =
        ap (taken_on setting (plain setting before) moment on) (ap (λ (known : Accepted). verdict setting.group setting.setup known datagram) (plain-accepted setting before) ∙ e)

    list-by : (answer : Result Opened Refusal) → verdict setting.group setting.setup pairs datagram ≡ answer → marks setting way (event ∷ before) ≡ taken_in setting way moment enabled pairs (marks setting way before) answer
    list-by answer e = ap (taken_in setting way moment enabled pairs (marks setting way before)) e

    got-taken : (answer : Result Opened Refusal) → verdict setting.group setting.setup pairs datagram ≡ answer
        → ((opened : Opened) → verdict setting.group setting.setup pairs datagram ≡ Ok opened → IsMade config pasts datagram) → HasTaken before → HasTaken (event ∷ before)
    got-taken (Err refusal) e so h = record {
      taken = h.taken;
      value_is = h.value_is ∙ sym (value-by (Err refusal) e);
      list_is = h.list_is ∙ sym (list-by (Err refusal) e);
      made = h.made;
      restarts = h.restarts;
    }
    got-taken (Ok opened) e so h =
        let pairs_are : accepted setting h.taken ≡ pairs = sym (plain-accepted setting h.taken) ∙ ap (λ (v : PlainGroup). v.accepted) h.value_is ∙ plain-accepted setting before in
        record {
          taken = event ∷ h.taken;
          value_is = ap (λ (v : PlainGroup). taken_on setting v moment on (verdict_in setting v datagram)) h.value_is;
          list_is = ap (λ (known : Accepted). taken_in setting way moment enabled known (marks setting way h.taken) (verdict setting.group setting.setup known datagram)) pairs_are
              ∙ ap (λ (l : List Mark). taken_in setting way moment enabled pairs l (verdict setting.group setting.setup pairs datagram)) h.list_is;
          made = ((λ signed. made_for datagram (so opened e)), h.made);
          restarts = h.restarts;
        }

  pub has-taken : (events : List Event) → CameAsMade setting config pasts events → HasTaken events
  has-taken [] came = record { taken = []; value_is = refl; list_is = refl; made = tt; restarts = λ restarts. restarts }
  has-taken (Got moment on datagram ∷ before) came = got-taken moment on datagram before (verdict setting.group setting.setup (accepted setting before) datagram) refl came.0 (has-taken before came.1)
  has-taken (Expired moment ∷ before) came =
      let h = has-taken before came in
      record {
        taken = Expired moment ∷ h.taken;
        value_is = ap (λ (v : PlainGroup). step setting v (Expired moment)) h.value_is;
        list_is = ap (λ (l : List Mark). cut_on (runs_out way moment (arrivals_in l)) Timeout l) h.list_is;
        made = h.made;
        restarts = h.restarts;
      }
  has-taken (Stopped reader why ∷ before) came =
      let h = has-taken before came in
      record {
        taken = Stopped reader why ∷ h.taken;
        value_is = ap (λ (v : PlainGroup). step setting v (Stopped reader why)) h.value_is;
        list_is = ap (cut_on (reader == way.index) why) h.list_is;
        made = h.made;
        restarts = λ restarts. (restarts.0, h.restarts restarts.1);
      }
