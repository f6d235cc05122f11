-- The turns of a session of however many ticks are those of the definitions, where they hold; and each turn of a life is one of the configuration with a ring of its
-- sender's keys alone.
use Rattle.std.proofs.Common.{◌≡◌, refl, sym, ap, subst, arith, ℕ, ◌+◌, ◌<◌, ◌^◌, Bool, true, List, [], ◌∷◌, length, Option, Some, IfSome}
use Rattle.std.specs.Prelude.{option_map}
use Rattle.std.proofs.lemmas.List.FromFn.{length-map-range_with_len}
use Rattle.std.proofs.lemmas.Option.{slice_get-get_or}
use Rattle.group_keys.specs.declared.key_set.KeySet.{KeySet}
use Rattle.config_tables.specs.declared.words.Layout.{Layout}
use Rattle.config_tables.specs.declared.words.Layout.TheVariants as layouts
use Rattle.ps_config.specs.declared.parts.Config.{Config}
use Rattle.ps_config.specs.declared.parts.GroupPart.{GroupPart}
use Rattle.ps_config.specs.declared.parts.KeyGroupPart.{KeyGroupPart}
use Rattle.ps_config.specs.FixedSound.{IsFixedSound}
use Rattle.ps_config.specs.Headers.{is_secured}
use Rattle.ps_config.specs.Sound.{IsKeyed, IsSound}
use Rattle.pubsub_states.specs.declared.component.Component.TheVariants.{Writer}
use Rattle.reader_group.specs.Settings.{keygroup_at}
use Rattle.group_laws.specs.Matching.{IsSenderOf, MaySend}
use Rattle.group_laws.specs.TurnReading.{IsSampled}
use Rattle.writer_group.specs.declared.sampled.Sampled.{Sampled}
use Rattle.writer_group.specs.Parts.{group_at, no_group}
use Rattle.writer_group.specs.Payloads.{Spelled, payloads_by, payloads_of}
use Rattle.writer_group.specs.Sealing.{AreWritten, Payload, datagrams_from}
use Rattle.writer_group.specs.Turns.{GroupDeed, GroupTurn, TurnInput, envelope_of, frames_in, turns_from}
use Rattle.writer_group.proofs.SomeDatagrams.{turn-count}
use Rattle.session_model.specs.Deeds.{Deed, deeds, group_past, has_turn, sender_after, turn_input, turn_of, works}
use Rattle.session_model.specs.Keeping.{AreStepsOf, IsPlan}
use Rattle.session_model.specs.Steps.{Plan, Step, Enable, Disable, Append, Tick, Pump, moment_of}
use Rattle.session_model.specs.Turns.{HoldsTurn, TurnsHold}
use Rattle.session_laws.specs.Below.{RingLaw, WordLaws}
use Rattle.session_laws.proofs.Versions.Distinct.{IsAt, at-contains}
use Rattle.session_laws.proofs.Versions.Metas.{meta-of}
use Rattle.session_laws.proofs.Versions.Rowing.{as-many, fit-at, meta-is, turn-is}
use Rattle.session_laws.proofs.Versions.Senders.{SendHolds, group-keyed, left-by, not-spent, send-holds}
use Rattle.turn_laws.specs.Makers.{AreOwnTurns}
use Rattle.turn_laws.proofs.LifeKeys.{Fits, HasKeysOf}
use Rattle.turn_laws.proofs.OneKey.{one-fixed, one-sender, one-sound, one_keys}
use Rattle.turn_laws.proofs.Rings.{IsRingTurn, IsWrittenTurn, with_rings}

-- ---- a session

own-sends : (words : WordLaws) (most : ℕ) (p : Plan) (before : List Step) (now : ℕ) (closing : Bool) (samples : List Sampled) → IsPlan p → AreStepsOf most p before → SendHolds p before now closing samples (AreOwnTurns p.config)
own-sends words most p before now closing samples plan are = record {
  came = λ earlier h. h;
  fresh = λ g earlier h. h;
  turn = λ g earlier there holds h. (record { is = turn-is most words p before now closing samples earlier g plan are there holds; sender = refl }, h);
}

pub own-turns : RingLaw → WordLaws → (most : ℕ) (p : Plan) (steps : List Step) → IsPlan p → AreStepsOf most p steps → TurnsHold p steps → AreOwnTurns p.config (deeds p steps)
own-turns ring words most p [] plan are hold = tt
own-turns ring words most p (Enable id ∷ before) plan are hold = own-turns ring words most p before plan are.1 hold
own-turns ring words most p (Disable id ∷ before) plan are hold = own-turns ring words most p before plan are.1 hold
own-turns ring words most p (Append set field ∷ before) plan are hold = own-turns ring words most p before plan are.1 hold
own-turns ring words most p (Tick ms closing samples done ∷ before) plan are hold =
    send-holds ring p before (moment_of before + ms) closing samples (AreOwnTurns p.config) plan (own-sends words most p before (moment_of before + ms) closing samples plan are.1) hold.0 hold.1
    (own-turns ring words most p before plan are.1 hold.1)
own-turns ring words most p (Pump entries ∷ before) plan are hold = own-turns ring words most p before plan are.1 hold

-- ---- a turn, of the configuration with other rings

-- payloads don't hang on the rings
same-payloads : (layout : Layout) (config : Config) (rings : List KeyGroupPart) (group : GroupPart) (frames : List Spelled) → payloads_by layout (with_rings config rings) group frames ≡ payloads_by layout config group frames
same-payloads layouts.Dynamic config rings group frames = refl
same-payloads layouts.Fixed config rings group frames = refl

module _ (words : WordLaws) (most : ℕ) (p : Plan) (before : List Step) (now : ℕ) (closing : Bool) (samples : List Sampled) (earlier : List Deed) (g : ℕ) (plan : IsPlan p) (are : AreStepsOf most p before) (there : g < length p.config.group) where
  abbrev group : GroupPart
  group = group_at p.config g

  abbrev past : List GroupDeed
  past = group_past p.config g earlier

  abbrev input : TurnInput
  input = turn_input p before now closing samples earlier g

  abbrev payloads : List Payload
  payloads = payloads_of p.config group (frames_in group past input)

  at : IsAt p.config g group
  at = slice_get-get_or p.config.group g no_group there

  sampled : HoldsTurn p.config group past input → (writer : ℕ) → writer < length group.writer → IsSampled group past input writer
  sampled holds writer within = record { meta = meta-is most words p before plan are g group at writer within; frame = holds.answers writer }

  abbrev turned_with : List Payload → GroupTurn
  turned_with list = record {
    moment = input.told.moment;
    closing = input.told.closing;
    took = turns_from group input.told 0 input.on;
    made = datagrams_from (envelope_of p.config group past) input.sender 0 list;
  }

  ring-turn : (rings : List KeyGroupPart) → IsSound (with_rings p.config rings) → IsFixedSound (with_rings p.config rings) → HoldsTurn p.config group past input → MaySend (with_rings p.config rings) group (length payloads) input.sender
      → IsRingTurn p.config g earlier (turn_of p before now closing samples earlier g)
  ring-turn rings sound fixed holds may =
      let ringed = with_rings p.config rings in
      let same : payloads ≡ payloads_of ringed group (frames_in group past input) = sym (same-payloads group.layout p.config rings group (frames_in group past input)) in
      record {
        rings = rings;
        is = record {
          input = input;
          is = ap turned_with same;
          may = record {
            sound = sound;
            group_is = at-contains p.config g group at;
            on = let many = length-map-range_with_len (λ w. works p.config before earlier (Writer g w)) 0 (length group.writer) in omega (arith, many);
            sender = subst (λ (list : List Payload). MaySend ringed group (length list) input.sender) same may;
            written = subst (λ (list : List Payload). AreWritten (envelope_of p.config group past) input.sender 0 list) same holds.written;
          };
          sampled = sampled holds;
          metas = λ writer within. (meta-of most p g group writer before are at within).reads;
          majors = λ writer within. (meta-of most p g group writer before are at within).major;
          fixed = λ layout. record {
            fixed = fixed;
            metas = record {
              count = as-many most p before plan are;
              fixed = λ is writer within. (meta-of most p g group writer before are at within).fixed is;
              room = (fit-at most p before plan are).room g no_group there;
            };
            sampled = sampled holds;
          };
        };
        sender = refl;
      }

  -- of a group whose sender has keys that fit its policy
  pub keyed-turn : (P : KeySet → Type 0) (k : ℕ) → ((set : KeySet) → P set → Fits p.config k set) → HoldsTurn p.config group past input → has_turn p before now closing earlier g ≡ true → group.keygroup ≡ Some k
      → HasKeysOf P (keygroup_at p.config k) (sender_after p.config k earlier) → IsRingTurn p.config g earlier (turn_of p before now closing samples earlier g)
  keyed-turn P k fits holds has keyed from =
      let s = sender_after p.config k earlier in
      let policy = (keygroup_at p.config k).policy in
      let fit = fits from.set from.of in
      let rings = one_keys p.config policy from.set in
      let ringed = with_rings p.config rings in
      let its = subst (IsKeyed p.config (is_secured group.security)) keyed (group-keyed p.config g plan.good.sound there) in
      let few = holds.few in
      let count = turn-count p.config group past input in
      let left : s.used + length payloads < 2 ^ 32 = left-by p.config g k (length payloads) earlier keyed (not-spent p before now closing earlier g has) (omega (arith, few, count)) in
      let of : IsSenderOf (keygroup_at ringed k) s = one-sender p.config policy from.set fit k s its.there (record { random = from.random; used = omega (arith, left) }) from.keys from.first_block in
      let may : MaySend ringed group (length payloads) (Some s) = (its.keyed, left, subst (λ (o : Option ℕ). IfSome o (λ index. IsSenderOf (keygroup_at ringed index) s)) (sym keyed) of) in
      ring-turn rings (one-sound p.config policy from.set fit plan.good.sound) (one-fixed p.config policy from.set fit plan.good.fixed) holds
      (subst (λ (o : Option ℕ). MaySend ringed group (length payloads) (option_map (λ (n : ℕ). sender_after p.config n earlier) o)) (sym keyed) may)

  -- of any its headers can be written
  pub written-turn : HoldsTurn p.config group past input → IsWrittenTurn p.config group past (turn_of p before now closing samples earlier g)
  written-turn holds = record { input = input; is = refl; written = holds.written }
