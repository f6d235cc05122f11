-- A reader reads by *Records* where its places are near, whichever place each part of a datagram has that has its 16 bits.
use Rattle.std.proofs.Common.{◌≡◌, refl, sym, ap, ◌∙◌, subst, arith, ℕ, ◌+◌, Bool, true, false, not, ◌&&◌, ◌||◌, List, [], ◌∷◌, Option, Some, None}
use Rattle.std.specs.Prelude.{nat_le, ◌==◌, fold, Result, Ok, Err, slice_get, slice_index_or, if◌then◌else◌}
use Rattle.std.specs.Option.{option_map_or}
use Rattle.std.proofs.lemmas.Bool.Decides.{nat_tests}
use Rattle.std.proofs.lemmas.List.{get_or-map}
use Rattle.std.proofs.lemmas.Option.{get_or_from_slice_get, slice_get_within}
use Rattle.seq_number.specs.Numbers.{number_of_place, place_from}
use Rattle.pubsub_model.specs.declared.reading.Why.{Why}
use Rattle.pubsub_model.specs.declared.reading.Why.TheVariants.{NewToken, Restarted, Timeout}
use Rattle.pubsub_model.specs.Records.{Arrival, Cut, last_counting, since_cut}
use Rattle.dataset_reader.specs.Keeping.{KeepsBy}
use Rattle.dataset_reader.specs.Kept.{Kept, cut_kept, fresh}
use Rattle.receive_timer.specs.Told.{is_due, last_seen}
use Rattle.chunker.specs.Joining.{empty}
use Rattle.chunker.specs.Joins.{JoinsOver}
use Rattle.message_guard.specs.Acceptance.{Accepted}
use Rattle.config_tables.specs.declared.words.NumberingWord.{NumberingWord}
use Rattle.config_tables.specs.declared.words.NumberingWord.TheVariants as words
use Rattle.reader_group.specs.Agreeing.{AreRestarts}
use Rattle.reader_group.specs.Arrivals.{Arrived, Mark, Way, arrivals_in, clears, cut_on, ends_readiness, goes_by_numbers, is_late, is_numbered, is_ready, is_timeout, piece_on, runs_out, taken_in, told_of}
use Rattle.reader_group.specs.Members.{MemberValue, Seat, cut_member, expired, new_member, no_seat, numbering_of, seat_at}
use Rattle.reader_group.specs.Opening.{Opened, verdict}
use Rattle.reader_group.specs.Payloads.{Piece, pieces}
use Rattle.reader_group.specs.Plain.{Event, Expired, Fed, Got, PlainGroup, Setting, Stopped, all_expired, cut_if, fed_by, fed_on, is_raised, member_at, one_stopped, opening, plain, receipt_of, stamp_by, stopped_if, taken_on, unfed}
use Rattle.reader_group.specs.declared.refusal.Refusal.{Refusal}
use Rattle.reader_group.proofs.Accepting.{plain-accepted}
use Rattle.reader_group.proofs.Answered.{MemberAt, StepKeeps}
use Rattle.reader_group.proofs.Each.{each-at, fed_member-at}
use Rattle.reader_group.proofs.Framing.{receipt_at}
use Rattle.reader_group.proofs.Marking.{member-pieces}
use Rattle.reader_group.proofs.Nearness.{Nears, nears-pieces, nears-tail}
use Rattle.device_laws.specs.Placed.{ComesPlaced, placed_from}

from-numbers : (first n : ℕ) → number_of_place (place_from first n) ≡ number_of_place n
from-numbers first n = omega arith

-- ---- cuts

no-chunks : JoinsOver [] empty
no-chunks = record { current = refl; whole = refl; laid_in = λ _. refl; total = refl }

cut-keeps : (word : NumberingWord) (arrivals : List Arrival) (k : Kept) (why : Why) → KeepsBy (numbering_of word) arrivals k → KeepsBy (numbering_of word) (Cut why ∷ arrivals) (cut_kept why k)
cut-keeps words.Message arrivals k why h =
    record { over = record { last = refl; number = refl; row = refl; why = λ e. refl; count = h.over.count; recent = h.over.recent }; stamp = refl }
cut-keeps words.None arrivals k why h = record { row = refl; why = refl; number = refl; breaks = h.breaks; recent = h.recent }

cut-member : (word : NumberingWord) (before : List Mark) (m : MemberValue) (why : Why) (late ready : Bool) → clears why ≡ true → late ≡ (is_timeout why || is_late (is_numbered word) (arrivals_in before))
    → ready ≡ (not (ends_readiness why) && is_ready (is_numbered word) (arrivals_in before)) → MemberAt word before m → MemberAt word (Arrived (Cut why) ∷ before) (record (cut_member why m) { late = late; ready = ready })
cut-member word before m why late ready clear late_is ready_is h =
    record { keeps = cut-keeps word (arrivals_in before) m.kept why h.keeps; joins = rw clear no-chunks; seen = refl; late = late_is; ready = ready_is }

raised-member : (word : NumberingWord) (raised : Bool) (before : List Mark) (m : MemberValue) → MemberAt word before m → MemberAt word (cut_on raised NewToken before) (cut_if raised NewToken m)
raised-member word true before m h = cut-member word before m NewToken m.late m.ready refl h.late h.ready h
raised-member word false before m h = h

due-member : (word : NumberingWord) (due : Bool) (before : List Mark) (m : MemberValue) → MemberAt word before m → MemberAt word (cut_on due Timeout before) (if due then record (cut_member Timeout m) { late = true; ready = false } else m)
due-member word true before m h = cut-member word before m Timeout true false refl refl refl h
due-member word false before m h = h

stopped-member : (word : NumberingWord) (stops : Bool) (before : List Mark) (m : MemberValue) → MemberAt word before m → MemberAt word (cut_on stops Restarted before) (stopped_if stops Restarted m)
stopped-member word true before m h = cut-member word before m Restarted m.late false refl h.late refl h
stopped-member word false before m h = h

last-told : (o : Option ℕ) → last_seen (told_of o) ≡ o
last-told None = refl
last-told (Some moment) = refl

near-uncut : (word : NumberingWord) (cuts : Bool) (why : Why) (before : List Mark) → Nears word (cut_on cuts why before) → Nears word before
near-uncut word true why before h = nears-tail word (Arrived (Cut why)) before h
near-uncut word false why before h = h

-- ---- the parts of a datagram

module _ (laws : StepKeeps) (setting : Setting) (way : Way) (seat : slice_get setting.seats way.index ≡ Some way.seat) where
  abbrev word : NumberingWord
  word = way.seat.part.numbering

  abbrev its : List MemberValue → MemberValue
  its members = member_at members way.index

  here : seat_at setting.seats way.index ≡ way.seat
  here = get_or_from_slice_get setting.seats way.index way.seat no_seat seat

  enabled-read : (enabled : Bool) (from now : ℕ) (s : Option ℕ) (parts : List Piece) (before : List Mark) (m : MemberValue) → Nears word (fold (piece_on (placed_from way from) (place_from from) now s) before (if enabled then parts else []))
      → MemberAt word before m → MemberAt word (fold (piece_on (placed_from way from) (place_from from) now s) before (if enabled then parts else [])) (if enabled then fold (fed_on way.seat (receipt_at now s)) (unfed m) parts else unfed m).member
  enabled-read true from now s parts before m near h = member-pieces laws word (placed_from way from) (place_from from) before (unfed m) now s parts (from-numbers from) refl near h
  enabled-read false from now s parts before m near h = h

  taken-read : (group : PlainGroup) (from now : ℕ) (on : List Bool) (answer : Result Opened Refusal) (before list : List Mark) → list ≡ taken_in setting (placed_from way from) now (slice_index_or on way.index false) group.accepted before answer
      → Nears word list → (Nears word before → MemberAt word before (its group.members)) → MemberAt word list (its (taken_on setting group now on answer).members)
  taken-read group from now on (Err refusal) before list is near h =
      subst (λ (l : List Mark). MemberAt word l (its group.members)) (sym is) (h (subst (Nears word) is near))
  taken-read group from now on (Ok opened) before list is near h =
      let raised = is_raised setting group.accepted opened in
      let receipt = receipt_of setting now opened in
      let enabled = slice_index_or on way.index false in
      let s = stamp_by setting.setup.mode opened.pass.number in
      let parts = pieces way.seat.part opened.payload in
      let m = its group.members in
      let own = placed_from way from in
      let place = place_from from in
      let cut = cut_on raised NewToken before in
      let f : ℕ → Seat → MemberValue → Fed = λ k seat member. fed_by seat receipt raised (slice_index_or on k false) opened.payload member in
      let after : Nears word (fold (piece_on own place now s) cut (if enabled then parts else [])) = subst (Nears word) is near in
      let earlier : Nears word before = near-uncut word raised NewToken before (nears-pieces word own place now s cut (if enabled then parts else []) after) in
      let fed : MemberAt word (fold (piece_on own place now s) cut (if enabled then parts else [])) (fed_by way.seat receipt raised enabled opened.payload m).member =
      enabled-read enabled from now s parts cut (cut_if raised NewToken m) after (raised-member word raised before m (h earlier)) in
      let at : MemberAt word list (fed_by (seat_at setting.seats way.index) receipt raised enabled opened.payload m).member =
      subst (λ (seat : Seat). MemberAt word list (fed_by seat receipt raised enabled opened.payload m).member) (sym here)
      (subst (λ (l : List Mark). MemberAt word l (fed_by way.seat receipt raised enabled opened.payload m).member) (sym is) fed) in
      subst (MemberAt word list) (sym (fed_member-at setting.seats group.members f way.index (slice_get_within setting.seats way.index way.seat seat))) at

  -- ---- a look at the timers, and a cut by hand

  expired-read : (members : List MemberValue) (now : ℕ) (before list : List Mark) → list ≡ cut_on (runs_out way now (arrivals_in before)) Timeout before → MemberAt word before (its members) → MemberAt word list (its (all_expired setting.seats now members))
  expired-read members now before list is h =
      let m = its members in
      let limit = way.seat.part.timeout in
      let runs = runs_out way now (arrivals_in before) in
      let last = last_counting (goes_by_numbers way) (since_cut (arrivals_in before)) in
      let due : is_due limit m.told now ≡ runs = ap (λ (o : Option ℕ). not (limit == 0) && option_map_or (λ (moment : ℕ). nat_le (moment + limit) now) o false) (h.seen ∙ sym (last-told last)) in
      let own : MemberAt word (cut_on runs Timeout before) (expired limit now m) =
      subst (λ (b : Bool). MemberAt word (cut_on runs Timeout before) (if b then record (cut_member Timeout m) { late = true; ready = false } else m)) (sym due) (due-member word runs before m h) in
      let at : MemberAt word list (expired (seat_at setting.seats way.index).part.timeout now m) =
      subst (λ (seat : Seat). MemberAt word list (expired seat.part.timeout now m)) (sym here) (subst (λ (l : List Mark). MemberAt word l (expired limit now m)) (sym is) own) in
      subst (MemberAt word list) (sym (each-at setting.seats members (λ k seat member. expired seat.part.timeout now member) way.index new_member (slice_get_within setting.seats way.index way.seat seat))) at

  stopped-read : (members : List MemberValue) (reader : ℕ) (why : Why) (before list : List Mark) → why ≡ Restarted → list ≡ cut_on (reader == way.index) why before → MemberAt word before (its members) → MemberAt word list (its (one_stopped setting.seats reader why members))
  stopped-read members reader why before list restarted is h =
      let m = its members in
      let same : (way.index == reader) ≡ (reader == way.index) = grind (arith, nat_tests) in
      let own : MemberAt word (cut_on (reader == way.index) why before) (stopped_if (reader == way.index) why m) =
      subst (λ (w : Why). MemberAt word (cut_on (reader == way.index) w before) (stopped_if (reader == way.index) w m)) (sym restarted) (stopped-member word (reader == way.index) before m h) in
      let at : MemberAt word list (stopped_if (way.index == reader) why m) =
      subst (λ (b : Bool). MemberAt word list (stopped_if b why m)) (sym same) (subst (λ (l : List Mark). MemberAt word l (stopped_if (reader == way.index) why m)) (sym is) own) in
      subst (MemberAt word list) (sym (each-at setting.seats members (λ k seat member. stopped_if (k == reader) why member) way.index new_member (slice_get_within setting.seats way.index way.seat seat))) at

  -- ---- before anything, and over all that befell the group

  new-keeps : (w : NumberingWord) → KeepsBy (numbering_of w) [] fresh
  new-keeps words.Message = record { over = record { last = refl; number = refl; row = refl; why = λ _. refl; count = refl; recent = refl }; stamp = refl }
  new-keeps words.None = record { row = refl; why = refl; number = refl; breaks = refl; recent = refl }

  new-read : MemberAt word [] (its (opening setting).members)
  new-read =
      subst (MemberAt word []) (sym (get_or-map (λ (seat : Seat). new_member) setting.seats way.index no_seat new_member (slice_get_within setting.seats way.index way.seat seat)))
      (record { keeps = new-keeps word; joins = no-chunks; seen = refl; late = refl; ready = refl })

  pub placed-read : (events : List Event) (list : List Mark) → AreRestarts events → ComesPlaced setting way events list → Nears word list → MemberAt word list (its (plain setting events).members)
  placed-read [] list restarts placed near = subst (λ (l : List Mark). MemberAt word l (its (opening setting).members)) (sym placed) new-read
  placed-read (Got now on datagram ∷ before) list restarts placed near =
      let group = plain setting before in
      let taken =
      subst (λ (pairs : Accepted). list ≡ taken_in setting (placed_from way placed.1) now (slice_index_or on way.index false) pairs placed.0 (verdict setting.group setting.setup pairs datagram)) (sym (plain-accepted setting before)) placed.3 in
      taken-read group placed.1 now on (verdict setting.group setting.setup group.accepted datagram) placed.0 list taken near (placed-read before placed.0 restarts placed.2)
  placed-read (Expired now ∷ before) list restarts placed near =
      expired-read (plain setting before).members now placed.0 list placed.2
      (placed-read before placed.0 restarts placed.1 (near-uncut word (runs_out way now (arrivals_in placed.0)) Timeout placed.0 (subst (Nears word) placed.2 near)))
  placed-read (Stopped reader why ∷ before) list restarts placed near =
      stopped-read (plain setting before).members reader why placed.0 list restarts.0 placed.2
      (placed-read before placed.0 restarts.1 placed.1 (near-uncut word (reader == way.index) why placed.0 (subst (Nears word) placed.2 near)))
