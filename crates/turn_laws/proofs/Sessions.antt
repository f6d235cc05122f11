-- A session: what a read group took was made by its turns, where it was sent before; and what came signed was, where the link delivers nothing else that is.
use Rattle.std.proofs.Common.{◌≡◌, sym, ap, subst, arith, ℕ, zero, suc, ◌<◌, List, [], ◌∷◌, ◌++◌, length, map, Some, Contains}
use Rattle.std.specs.Prelude.{slice_get}
use Rattle.std.proofs.lemmas.List.{length-map}
use Rattle.std.proofs.lemmas.List.Elements.{Contains-append_left, Contains-append_right}
use Rattle.std.proofs.lemmas.Option.{slice_get-get_or}
use Rattle.ua_base.specs.Journal.{Entry, Sent, Got}
use Rattle.reader_group.specs.Agreeing.{IsWayOf}
use Rattle.reader_group.specs.Members.{no_seat, seat_at}
use Rattle.reader_group.specs.Plain.{Event, Setting}
use Rattle.reader_group.specs.Settings.{group_at as read_group_at, seat_in, setting_of}
use Rattle.reader_group.specs.Signed.{IsSignedBy}
use Rattle.writer_group.specs.Parts.{no_group}
use Rattle.writer_group.specs.Turns.{GroupDeed}
use Rattle.session_model.specs.Deeds.{component_at, deeds}
use Rattle.session_model.specs.Events.{events, reader_indexes, readers_on, receives}
use Rattle.session_model.specs.Sends.{IsRun, journal, send_entries, sends_of}
use Rattle.session_model.specs.Steps.{Plan, Step, Enable, Disable, Append, Tick, Pump, moment_of}
use Rattle.session_laws.specs.Below.{Laws}
use Rattle.session_laws.specs.Pasts.{IsMade}
use Rattle.session_laws.specs.Sessions.{IsHonestFor, pasts_at}
use Rattle.session_laws.proofs.HeldRows.Sending.{all-restarts, came-as-made, sent-made}
use Rattle.turn_laws.specs.Makers.{HasItsRecords, IsSignedSession, IsSigning, SignedWereMade, its_setting, its_way, signed_session, signing_of}
use Rattle.turn_laws.specs.Sent.{NamesPlaces, place_near, sends_in}
use Rattle.turn_laws.proofs.Befalling.{got-if, stopped-keeps}
use Rattle.turn_laws.proofs.Naming.{near-names, near-numbers}
use Rattle.turn_laws.proofs.Sharing.{steps-rise}
use Rattle.turn_laws.proofs.Signed.{SignedLaw, signed-member}
use Rattle.turn_laws.proofs.Turns.{own-turns}

-- ---- what came

split-at : (entries : List Entry) (entry : Entry) → Contains entries entry → (before : List Entry) × (after : List Entry) × (entries ≡ before ++ entry ∷ after)
split-at [] entry has = absurd (let below = has.1 in omega (arith, below))
split-at (other ∷ entries) entry (zero, below, same) = ([], entries, ap (λ (e : Entry). e ∷ entries) same)
split-at (other ∷ entries) entry (suc k, below, same) =
    let rest = split-at entries entry (k, omega (arith, below), same) in (other ∷ rest.0, rest.1, ap (λ (l : List Entry). other ∷ l) rest.2)

-- what came signed was sent before, and so made
honest-made : (p : Plan) (r : ℕ) (steps : List Step) → IsRun p steps → IsHonestFor (setting_of p.config r) (journal p steps) → (datagram : List ℕ) → Contains (journal p steps) (Got datagram)
    → IsSignedBy (setting_of p.config r).setup.keys datagram → IsMade p.config (pasts_at p steps) datagram
honest-made p r steps run honest datagram has signed =
    let at = split-at (journal p steps) (Got datagram) has in
    let sent : Contains at.0 (Sent datagram) = honest at.0 at.1 datagram at.2 (λ secured. signed) in
    sent-made p steps datagram run (subst (λ (l : List Entry). Contains l (Sent datagram)) (sym at.2) (Contains-append_left at.0 (Got datagram ∷ at.1) (Sent datagram) sent))

module _ (p : Plan) (r : ℕ) (pasts : ℕ → List GroupDeed) where
  abbrev setting : Setting
  setting = setting_of p.config r

  abbrev IsSo : List ℕ → Type 0
  IsSo datagram = IsSignedBy setting.setup.keys datagram → IsMade p.config pasts datagram

  abbrev AreSo : List Event → Type 0
  AreSo befell = SignedWereMade setting p.config pasts befell

  steps-so : (steps : List Step) → ((datagram : List ℕ) → Contains (journal p steps) (Got datagram) → IsSo datagram) → AreSo (events p.config r steps)
  steps-so [] so = tt
  steps-so (Enable id ∷ before) so = steps-so before so
  steps-so (Disable id ∷ before) so = stopped-keeps AreSo (λ i earlier h. h) (component_at p.config id) r (reader_indexes p.config r) (events p.config r before) (steps-so before so)
  steps-so (Append set field ∷ before) so = steps-so before so
  steps-so (Tick ms closing samples done ∷ before) so =
      steps-so before (λ datagram has. so datagram (Contains-append_left (journal p before) (send_entries (sends_of p (Tick ms closing samples done ∷ before)) done) (Got datagram) has))
  steps-so (Pump entries ∷ before) so =
      got-if AreSo (receives p.config before r) (moment_of before) (readers_on p.config before r) entries (events p.config r before) (λ datagram has earlier h. (so datagram (Contains-append_right (journal p before) entries (Got datagram) has), h))
      (steps-so before (λ datagram has. so datagram (Contains-append_left (journal p before) entries (Got datagram) has)))

-- ---- the session

-- each datagram that came signed was made, where the link delivers nothing else that is
pub session-signed : (p : Plan) (r : ℕ) (steps : List Step) → IsRun p steps → IsHonestFor (setting_of p.config r) (journal p steps) → SignedWereMade (setting_of p.config r) p.config (pasts_at p steps) (events p.config r steps)
session-signed p r steps run honest = steps-so p r (pasts_at p steps) steps (honest-made p r steps run honest)

pub session-signing : Laws → (most : ℕ) (p : Plan) (r i g w k : ℕ) (steps : List Step) (place : ℕ → ℕ → ℕ → ℕ) → NamesPlaces place (sends_in p.config k g w (deeds p steps)) → IsSignedSession most p r i g w k steps
    → IsSigning (signing_of p r i g w k steps place)
session-signing laws most p r i g w k steps place names is = record {
  sound = is.plan.good.sound;
  there = slice_get-get_or p.config.group g no_group is.under.there;
  keyed = is.under.keyed;
  turns = own-turns laws.ring laws.words most p steps is.plan is.steps_are is.turns;
  matched = is.matched;
  numbered = is.numbered;
  names = names;
  came = came-as-made p r steps is.run is.takes;
}

-- ---- a reader of it

pub seat-there : (p : Plan) (r i : ℕ) → i < length (read_group_at p.config r).reader → slice_get (setting_of p.config r).seats i ≡ Some (seat_at (setting_of p.config r).seats i)
seat-there p r i within =
    let readers = (read_group_at p.config r).reader in
    slice_get-get_or (map (seat_in p.config) readers) i no_seat (omega (arith, within, length-map readers (seat_in p.config)))

pub session-member : Laws → SignedLaw → (most : ℕ) (p : Plan) (r i g w k : ℕ) (steps : List Step) → IsSignedSession most p r i g w k steps → HasItsRecords (signed_session p r i g w k steps)
session-member laws law most p r i g w k steps is =
    let sent = sends_in p.config k g w (deeds p steps) in
    let names = near-names sent (steps-rise p k g w steps is.plan is.under) in
    let s = signed_session p r i g w k steps in
    let way_of : IsWayOf (its_setting s) (its_way s) s.events = record {
      seat = seat-there p r i is.matched.within;
      numbers = λ token number own. near-numbers sent token number own;
      restarts = all-restarts p.config r steps;
    } in
    signed-member laws.turns law s (session-signing laws most p r i g w k steps (place_near sent) names is) way_of
