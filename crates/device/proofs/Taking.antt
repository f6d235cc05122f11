-- A datagram that comes to all read groups: one after another.
use Rattle.std.proofs.Common.{◌≡◌, ◌≢◌, ℕ, zero, suc, ◌+◌, ◌<◌, ◌≤◌, Bool, true, false, List, [], ◌∷◌, length, get_or, set, refl, sym, ap, subst, arith, ◌∙◌}
use Rattle.std.specs.Prelude.{Option, None, Result}
use Rattle.std.specs.List.{HoldsAt}
use Rattle.std.proofs.lemmas.Bool.{false≢true}
use Rattle.std.proofs.lemmas.List.{get_or-set_other, get_or-set_same, get_or_read, length-set}
use Rattle.reader_group.specs.Filter.{takes_number}
use Rattle.reader_group.specs.Groups as reads
use Rattle.reader_group.specs.Plain.{Got}
use Rattle.reader_group.specs.declared.refusal.Refusal.{Refusal}
use Rattle.reader_group.specs.declared.refusal.Taken.{Taken}
use Rattle.device.specs.Sides.{HasListened, NotesRefusal}
use Rattle.device.specs.Takings.{AnswersNoOthers, HasTaken, HaveTaken}
use Rattle.device.specs.declared.listening.Listening.{Listening}
use Rattle.device.specs.declared.subscriber.Subscriber.{Subscriber}

-- ---- one read group

pub listened-so : (group now : ℕ) (datagram left : List ℕ) (old new : Subscriber) (was is : Listening) (answer : Result Taken Refusal) → group < length old.groups.items
    → was ≡ get_or old.groups.items group was → new.groups.items ≡ set old.groups.items group is → new.config ≡ old.config
    → reads.HadIf (takes_number was.number datagram) old.config was.group is.group now was.on.items datagram left answer → NotesRefusal answer datagram was is
    → is ≡ record was { group = is.group } → HasListened group now datagram left old new answer
listened-so group now datagram left old new was is answer low was_is new_is config had refused rest = by_number (takes_number was.number datagram) refl had
  where
    there : (d : Listening) → was ≡ get_or old.groups.items group d
    there d = get_or_read old.groups.items group was low was_is d

    here : (e : Listening) → is ≡ get_or new.groups.items group e
    here e = sym (ap (λ (l : List Listening). get_or l group e) new_is ∙ get_or-set_same old.groups.items group is e low)

    one : (P : Listening → Type 0) → P was → HoldsAt P old.groups.items group
    one P holds = λ d. subst P (there d) holds

    both : (P : Listening → Listening → Type 0) → P was is → HoldsAt (λ w. HoldsAt (P w) new.groups.items group) old.groups.items group
    both P holds = λ d e. subst (λ (w : Listening). P w (get_or new.groups.items group e)) (there d) (subst (P was) (here e) holds)

    others : HoldsAt (λ i. new.groups.items ≡ set old.groups.items group i) new.groups.items group
    others = λ e. new_is ∙ ap (λ (i : Listening). set old.groups.items group i) (here e)

    number : (b : Bool) → HoldsAt (λ listening. takes_number listening.number datagram ≡ b) old.groups.items group → takes_number was.number datagram ≡ b
    number b holds = subst (λ (l : Listening). takes_number l.number datagram ≡ b) (sym (there was)) (holds was)

    by_number : (b : Bool) → takes_number was.number datagram ≡ b → reads.HadIf b old.config was.group is.group now was.on.items datagram left answer
        → HasListened group now datagram left old new answer
    by_number true takes had = record {
      within = low;
      step = λ _. both (λ w i. reads.StepsBy old.config (Got now w.on.items datagram) w.group i.group) had.step;
      answer_is = λ _. one (λ w. reads.IsAnswer old.config w.group now w.on.items datagram answer) had.answer;
      bytes = λ _. one (λ w. reads.AreLeft old.config w.group datagram left) had.bytes_left;
      notices = λ _. both (λ w i. reads.AreNoticed old.config w.group now w.on.items datagram i.group) had.notices;
      passed = λ passes. absurd (false≢true (sym (number false passes) ∙ takes));
      refused = both (λ w i. NotesRefusal answer datagram w i) refused;
      rest = both (λ w i. i ≡ record w { group = i.group }) rest;
      others = others;
      config = config;
    }
    by_number false passes had = record {
      within = low;
      step = λ takes. absurd (false≢true (sym passes ∙ number true takes));
      answer_is = λ takes. absurd (false≢true (sym passes ∙ number true takes));
      bytes = λ takes. absurd (false≢true (sym passes ∙ number true takes));
      notices = λ takes. absurd (false≢true (sym passes ∙ number true takes));
      passed = λ _. both (λ w i. reads.PassedDatagram w.group i.group datagram left answer) had;
      refused = both (λ w i. NotesRefusal answer datagram w i) refused;
      rest = both (λ w i. i ≡ record w { group = i.group }) rest;
      others = others;
      config = config;
    }

-- ---- all

-- answers of those behind leave those in front
taken-set : (count now : ℕ) (datagram : List ℕ) (answers : List (Option (Result Taken Refusal))) (i : ℕ) (x : Option (Result Taken Refusal)) (old new : Subscriber) → count ≤ i
    → HaveTaken count now datagram answers old new → HaveTaken count now datagram (set answers i x) old new
taken-set zero now datagram answers i x old new low have = have
taken-set (suc count) now datagram answers i x old new low (mid, (have, taken)) =
    let differs : count ≢ i = λ same. absurd (omega (arith, low, same)) in (
      mid,
      (
        taken-set count now datagram answers i x old mid (omega (arith, low)) have,
        subst (λ (o : Option (Result Taken Refusal)). HasTaken count now datagram mid new o) (sym (get_or-set_other answers i count x None differs)) taken,
      ),
    )

pub taken-more : (count now : ℕ) (datagram : List ℕ) (answers : List (Option (Result Taken Refusal))) (x : Option (Result Taken Refusal)) (old mid new : Subscriber) → count < length answers
    → HaveTaken count now datagram answers old mid → HasTaken count now datagram mid new x → HaveTaken (count + 1) now datagram (set answers count x) old new
taken-more count now datagram answers x old mid new low have taken =
    let more : suc count ≡ count + 1 = omega arith in
    subst (λ (n : ℕ). HaveTaken n now datagram (set answers count x) old new) more (
      mid,
      (
        taken-set count now datagram answers count x old mid (omega arith) have,
        subst (λ (o : Option (Result Taken Refusal)). HasTaken count now datagram mid new o) (sym (get_or-set_same answers count x None low)) taken,
      ),
    )

pub others-more : (count : ℕ) (answers : List (Option (Result Taken Refusal))) (x : Option (Result Taken Refusal)) → AnswersNoOthers count answers → AnswersNoOthers (count + 1) (set answers count x)
others-more count answers x others = λ group low.
    let differs : group ≢ count = λ same. absurd (omega (arith, low, same)) in
    get_or-set_other answers count group x None differs ∙ others group (omega (arith, low))

pub taken-count : (group now : ℕ) (datagram : List ℕ) (old new : Subscriber) (x : Option (Result Taken Refusal)) → HasTaken group now datagram old new x
    → (d : Listening) → length new.groups.items ≡ length old.groups.items
taken-count group now datagram old new x taken d =
    ap (λ (l : List Listening). length l) (taken.listened.others d) ∙ length-set old.groups.items group (get_or new.groups.items group d)

pub some-listening : (groups : List Listening) (k : ℕ) → k < length groups → Listening
some-listening [] k low = absurd (omega (arith, low))
some-listening (group ∷ groups) k low = group
