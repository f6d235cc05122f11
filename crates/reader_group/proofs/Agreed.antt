-- Over all that befell a read group, what its plain reading keeps for a reader is what Arrivals and Records have of it.
use Rattle.std.proofs.Common.{◌≡◌, refl, sym, ap, ◌∙◌, arith, ℕ, ◌+◌, Bool, true, false, not, ◌&&◌, ◌||◌, List, [], ◌∷◌, Option, Some, None, subst}
use Rattle.std.specs.Prelude.{nat_le, ◌==◌, fold, Result, Ok, Err, slice_get, slice_index_or, if◌then◌else◌}
use Rattle.std.specs.Option.{option_map_or}
use Rattle.std.proofs.lemmas.Bool.Decides.{nat_tests}
use Rattle.std.proofs.lemmas.List.{get_or-map}
use Rattle.std.proofs.lemmas.Option.{slice_get_within, get_or_from_slice_get}
use Rattle.pubsub_model.specs.declared.reading.Why.{Why}
use Rattle.pubsub_model.specs.declared.reading.Why.TheVariants.{NewToken, Timeout, Restarted}
use Rattle.pubsub_model.specs.Records.{Arrival, Cut, since_cut, last_counting}
use Rattle.dataset_reader.specs.Kept.{Kept, fresh, cut_kept}
use Rattle.dataset_reader.specs.Keeping.{KeepsBy}
use Rattle.receive_timer.specs.Told.{last_seen, is_due}
use Rattle.chunker.specs.Joining.{empty}
use Rattle.chunker.specs.Joins.{JoinsOver}
use Rattle.message_guard.specs.Acceptance.{Accepted}
use Rattle.config_tables.specs.declared.words.NumberingWord.{NumberingWord}
use Rattle.config_tables.specs.declared.words.NumberingWord.TheVariants as words
use Rattle.reader_group.specs.declared.refusal.Refusal.{Refusal}
use Rattle.reader_group.specs.Members.{Seat, seat_at, no_seat, MemberValue, new_member, cut_member, expired, numbering_of}
use Rattle.reader_group.specs.Opening.{Opened, verdict}
use Rattle.reader_group.specs.Payloads.{Piece, pieces}
use Rattle.reader_group.specs.Arrivals.{Way, Mark, Arrived, is_numbered, goes_by_numbers, arrivals_in, clears, cut_on, piece_on, taken_in, told_of, runs_out, marks, arrivals, accepted, ends_readiness, is_timeout, is_late, is_ready}
use Rattle.reader_group.specs.Agreeing.{AreRestarts, IsWay, Agrees}
use Rattle.reader_group.specs.Plain.{Setting, PlainGroup, Event, Got, Expired, Stopped, Fed, unfed, fed_on, fed_by, cut_if, stopped_if, member_at, all_expired, one_stopped, opening, plain, taken_on, is_raised, stamp_by, receipt_of}
use Rattle.reader_group.proofs.Each.{each-at, fed_member-at}
use Rattle.reader_group.proofs.Accepting.{plain-accepted}
use Rattle.reader_group.proofs.Answered.{MemberAt, StepKeeps}
use Rattle.reader_group.proofs.Nearness.{Nears, nears-tail, nears-pieces}
use Rattle.reader_group.proofs.Framing.{Places, receipt_at}
use Rattle.reader_group.proofs.Marking.{member-pieces}

-- ---- cuts

joins-none : JoinsOver [] empty
joins-none = record { current = refl; whole = refl; laid_in = λ _. refl; total = refl }

keeps_cut : (word : NumberingWord) (arrivals : List Arrival) (k : Kept) (why : Why) → KeepsBy (numbering_of word) arrivals k → KeepsBy (numbering_of word) (Cut why ∷ arrivals) (cut_kept why k)
keeps_cut words.Message arrivals k why h =
    record { over = record { last = refl; number = refl; row = refl; why = λ e. refl; count = h.over.count; recent = h.over.recent }; stamp = refl }
keeps_cut words.None arrivals k why h = record { row = refl; why = refl; number = refl; breaks = h.breaks; recent = h.recent }

-- a cut of any reason but Jump
member-cut : (word : NumberingWord) (before : List Mark) (m : MemberValue) (why : Why) (late ready : Bool) → clears why ≡ true
    → late ≡ (is_timeout why || is_late (is_numbered word) (arrivals_in before)) → ready ≡ (not (ends_readiness why) && is_ready (is_numbered word) (arrivals_in before))
    → MemberAt word before m → MemberAt word (Arrived (Cut why) ∷ before) (record (cut_member why m) { late = late; ready = ready })
member-cut word before m why late ready clear late_is ready_is h = record {
  keeps = keeps_cut word (arrivals_in before) m.kept why h.keeps;
  joins = rw clear joins-none;
  seen = refl;
  late = late_is;
  ready = ready_is;
}

member_raised : (word : NumberingWord) (raised : Bool) (before : List Mark) (m : MemberValue) → MemberAt word before m
    → MemberAt word (cut_on raised NewToken before) (cut_if raised NewToken m)
member_raised word true before m h = member-cut word before m NewToken m.late m.ready refl h.late h.ready h
member_raised word false before m h = h

nears_cut : (word : NumberingWord) (cuts : Bool) (why : Why) (before : List Mark) → Nears word (cut_on cuts why before) → Nears word before
nears_cut word true why before h = nears-tail word (Arrived (Cut why)) before h
nears_cut word false why before h = h

-- ---- a datagram

-- whether the reader is enabled
member_enabled : StepKeeps → (enabled : Bool) (way : Way) (place : ℕ → ℕ) (before : List Mark) (m : MemberValue) (now : ℕ) (s : Option ℕ) (parts : List Piece)
    → Places place → Nears way.seat.part.numbering (fold (piece_on way place now s) before (if enabled then parts else [])) → MemberAt way.seat.part.numbering before m
    → MemberAt way.seat.part.numbering (fold (piece_on way place now s) before (if enabled then parts else []))
    (if enabled then fold (fed_on way.seat (receipt_at now s)) (unfed m) parts else unfed m).member
member_enabled laws true way place before m now s parts is near h = member-pieces laws way.seat.part.numbering way place before (unfed m) now s parts is refl near h
member_enabled laws false way place before m now s parts is near h = h

-- the reader is where its list has it
abbrev IsAt : Way → List Mark → List MemberValue → Type 0
IsAt way list members = MemberAt way.seat.part.numbering list (member_at members way.index)

seat-here : (seats : List Seat) (way : Way) → slice_get seats way.index ≡ Some way.seat → seat_at seats way.index ≡ way.seat
seat-here seats way e = get_or_from_slice_get seats way.index way.seat no_seat e

taken-at : StepKeeps → (setting : Setting) (way : Way) (list : List Mark) (group : PlainGroup) (now : ℕ) (on : List Bool) (answer : Result Opened Refusal)
    → slice_get setting.seats way.index ≡ Some way.seat → IsWay way
    → Nears way.seat.part.numbering (taken_in setting way now (slice_index_or on way.index false) group.accepted list answer) → IsAt way list group.members
    → IsAt way (taken_in setting way now (slice_index_or on way.index false) group.accepted list answer) (taken_on setting group now on answer).members
taken-at laws setting way list group now on (Err refusal) seat is near h = h
taken-at laws setting way list group now on (Ok opened) seat is near h =
    let word = way.seat.part.numbering in
    let raised = is_raised setting group.accepted opened in
    let receipt = receipt_of setting now opened in
    let enabled = slice_index_or on way.index false in
    let m = member_at group.members way.index in
    let f : ℕ → Seat → MemberValue → Fed = λ k seat member. fed_by seat receipt raised (slice_index_or on k false) opened.payload member in
    let place = way.place opened.pass.token opened.pass.number in
    let s = stamp_by setting.setup.mode opened.pass.number in
    let new = taken_in setting way now enabled group.accepted list (Ok opened) in
    let fed : MemberAt word new (fed_by way.seat receipt raised enabled opened.payload m).member =
    member_enabled laws enabled way place (cut_on raised NewToken list) (cut_if raised NewToken m) now s (pieces way.seat.part opened.payload) (λ n. is opened.pass.token opened.pass.number n) near
    (member_raised word raised list m h) in
    let at : MemberAt word new (fed_by (seat_at setting.seats way.index) receipt raised enabled opened.payload m).member =
    subst (λ (seat : Seat). MemberAt word new (fed_by seat receipt raised enabled opened.payload m).member) (sym (seat-here setting.seats way seat)) fed in
    subst (MemberAt word new) (sym (fed_member-at setting.seats group.members f way.index (slice_get_within setting.seats way.index way.seat seat))) at

nears_taken : (word : NumberingWord) (setting : Setting) (way : Way) (now : ℕ) (enabled : Bool) (pairs : Accepted) (list : List Mark) (answer : Result Opened Refusal)
    → Nears word (taken_in setting way now enabled pairs list answer) → Nears word list
nears_taken word setting way now enabled pairs list (Err refusal) h = h
nears_taken word setting way now enabled pairs list (Ok opened) h =
    nears_cut word (is_raised setting pairs opened) NewToken list
    (nears-pieces word way (way.place opened.pass.token opened.pass.number) now (stamp_by setting.setup.mode opened.pass.number) (cut_on (is_raised setting pairs opened) NewToken list)
    (if enabled then pieces way.seat.part opened.payload else []) h)

-- ---- a look at the timers, and a cut by hand

due_on : (word : NumberingWord) (due : Bool) (before : List Mark) (m : MemberValue) → MemberAt word before m
    → MemberAt word (cut_on due Timeout before) (if due then record (cut_member Timeout m) { late = true; ready = false } else m)
due_on word true before m h = member-cut word before m Timeout true false refl refl refl h
due_on word false before m h = h

told-last : (o : Option ℕ) → last_seen (told_of o) ≡ o
told-last None = refl
told-last (Some moment) = refl

member_expired : (way : Way) (before : List Mark) (m : MemberValue) (now : ℕ) → MemberAt way.seat.part.numbering before m
    → MemberAt way.seat.part.numbering (cut_on (runs_out way now (arrivals_in before)) Timeout before) (expired way.seat.part.timeout now m)
member_expired way before m now h =
    let word = way.seat.part.numbering in
    let limit = way.seat.part.timeout in
    let last = last_counting (goes_by_numbers way) (since_cut (arrivals_in before)) in
    let due : is_due limit m.told now ≡ runs_out way now (arrivals_in before) =
    ap (λ (o : Option ℕ). not (limit == 0) && option_map_or (λ (moment : ℕ). nat_le (moment + limit) now) o false) (h.seen ∙ sym (told-last last)) in
    subst (λ (b : Bool). MemberAt word (cut_on (runs_out way now (arrivals_in before)) Timeout before) (if b then record (cut_member Timeout m) { late = true; ready = false } else m))
    (sym due) (due_on word (runs_out way now (arrivals_in before)) before m h)

stopped_on : (word : NumberingWord) (stops : Bool) (why : Why) (before : List Mark) (m : MemberValue) → why ≡ Restarted → MemberAt word before m
    → MemberAt word (cut_on stops why before) (stopped_if stops why m)
stopped_on word true why before m restarted h =
    subst (λ (w : Why). MemberAt word (cut_on true w before) (stopped_if true w m)) (sym restarted) (member-cut word before m Restarted m.late false refl h.late refl h)
stopped_on word false why before m restarted h = h

expired-at : (seats : List Seat) (way : Way) (list : List Mark) (members : List MemberValue) (now : ℕ) → slice_get seats way.index ≡ Some way.seat → IsAt way list members
    → IsAt way (cut_on (runs_out way now (arrivals_in list)) Timeout list) (all_expired seats now members)
expired-at seats way list members now seat h =
    let word = way.seat.part.numbering in
    let new = cut_on (runs_out way now (arrivals_in list)) Timeout list in
    let m = member_at members way.index in
    let at : MemberAt word new (expired (seat_at seats way.index).part.timeout now m) =
    subst (λ (seat : Seat). MemberAt word new (expired seat.part.timeout now m)) (sym (seat-here seats way seat)) (member_expired way list m now h) in
    subst (MemberAt word new) (sym (each-at seats members (λ k seat member. expired seat.part.timeout now member) way.index new_member (slice_get_within seats way.index way.seat seat))) at

stopped-at : (seats : List Seat) (way : Way) (list : List Mark) (members : List MemberValue) (reader : ℕ) (why : Why) → slice_get seats way.index ≡ Some way.seat → why ≡ Restarted
    → IsAt way list members → IsAt way (cut_on (reader == way.index) why list) (one_stopped seats reader why members)
stopped-at seats way list members reader why seat restarted h =
    let word = way.seat.part.numbering in
    let new = cut_on (reader == way.index) why list in
    let m = member_at members way.index in
    let same : (way.index == reader) ≡ (reader == way.index) = grind (arith, nat_tests) in
    let at : MemberAt word new (stopped_if (way.index == reader) why m) =
    subst (λ (b : Bool). MemberAt word new (stopped_if b why m)) (sym same) (stopped_on word (reader == way.index) why list m restarted h) in
    subst (MemberAt word new) (sym (each-at seats members (λ k seat member. stopped_if (k == reader) why member) way.index new_member (slice_get_within seats way.index way.seat seat))) at

-- ---- before anything

keeps_new : (word : NumberingWord) → KeepsBy (numbering_of word) [] fresh
keeps_new words.Message = record { over = record { last = refl; number = refl; row = refl; why = λ _. refl; count = refl; recent = refl }; stamp = refl }
keeps_new words.None = record { row = refl; why = refl; number = refl; breaks = refl; recent = refl }

new-member : (word : NumberingWord) → MemberAt word [] new_member
new-member word = record { keeps = keeps_new word; joins = joins-none; seen = refl; late = refl; ready = refl }

new-at : (setting : Setting) (way : Way) → slice_get setting.seats way.index ≡ Some way.seat → IsAt way [] (opening setting).members
new-at setting way seat =
    let within = slice_get_within setting.seats way.index way.seat seat in
    subst (MemberAt way.seat.part.numbering []) (sym (get_or-map (λ (seat : Seat). new_member) setting.seats way.index no_seat new_member within)) (new-member way.seat.part.numbering)

-- ---- all events

pub at-all : StepKeeps → (setting : Setting) (way : Way) (events : List Event) → slice_get setting.seats way.index ≡ Some way.seat → IsWay way → AreRestarts events
    → Nears way.seat.part.numbering (marks setting way events) → IsAt way (marks setting way events) (plain setting events).members
at-all laws setting way [] seat is restarts near = new-at setting way seat
at-all laws setting way (Got now on datagram ∷ before) seat is restarts near =
    let word = way.seat.part.numbering in
    let list = marks setting way before in
    let group = plain setting before in
    let enabled = slice_index_or on way.index false in
    let after : Accepted → List Mark = λ pairs. taken_in setting way now enabled pairs list (verdict setting.group setting.setup pairs datagram) in
    let same = plain-accepted setting before in
    let h = at-all laws setting way before seat is restarts (nears_taken word setting way now enabled (accepted setting before) list (verdict setting.group setting.setup (accepted setting before) datagram) near) in
    subst (λ (pairs : Accepted). Nears word (after pairs) → IsAt way (after pairs) (taken_on setting group now on (verdict setting.group setting.setup group.accepted datagram)).members) same
    (λ near. taken-at laws setting way list group now on (verdict setting.group setting.setup group.accepted datagram) seat is near h) near
at-all laws setting way (Expired now ∷ before) seat is restarts near =
    let list = marks setting way before in
    expired-at setting.seats way list (plain setting before).members now seat
    (at-all laws setting way before seat is restarts (nears_cut way.seat.part.numbering (runs_out way now (arrivals_in list)) Timeout list near))
at-all laws setting way (Stopped reader why ∷ before) seat is restarts near =
    let list = marks setting way before in
    stopped-at setting.seats way list (plain setting before).members reader why seat restarts.0
    (at-all laws setting way before seat is restarts.1 (nears_cut way.seat.part.numbering (reader == way.index) why list near))

-- THE LAW
pub agrees : StepKeeps → (setting : Setting) (way : Way) (events : List Event) → Agrees setting way events
agrees laws setting way events h near chunks =
    let at = at-all laws setting way events h.seat h.numbers h.restarts (record { items = near; chunks = chunks }) in
    record { keeps = at.keeps; joins = at.joins; seen = at.seen; late = at.late; ready = at.ready }
