-- A puller whose clock stood at some moment when it was answered uses the keys that it uses where it stood at 0.
use Rattle.std.proofs.Common.{◌≡◌, ℕ, zero, suc, ◌+◌, ◌-◌, ◌*◌, ◌≤◌, ◌==◌, Bool, true, false, cond, List, [], ◌∷◌, ◌++◌, Option, Some, None, refl, sym, ap, subst, ◌∙◌, arith}
use Rattle.std.specs.Prelude.{find, nat_le, reverse, if◌then◌else◌}
use Rattle.std.proofs.lemmas.Bool.Decides.{nat_tests}
use Rattle.std.proofs.lemmas.List.{reverse-append}
use Rattle.group_keys.specs.declared.key_set.KeySet.{KeySet}
use Rattle.group_keys.specs.KeySets.{current}
use Rattle.key_service.specs.declared.service.Keys.{Keys}
use Rattle.key_service.specs.Laws.{UsesKeysLater}
use Rattle.key_service.specs.Pulled.{from_moment, later, moment_of, pulled_sets, timed_from}
use Rattle.key_service.proofs.Pullable.{moment_later}

-- what comes by the last of a list, where the others have none
abbrev or_last : Option KeySet → Bool → KeySet → Option KeySet
or_last (Some found) here last = Some found
or_last None true last = Some last
or_last None false last = None

find_last : (p : KeySet → Bool) (sets : List KeySet) (set : KeySet) → find p (sets ++ set ∷ []) ≡ or_last (find p sets) (p set) set
find_last p [] set = by_test (p set)
  where
    by_test : (b : Bool) → cond b (Some set) None ≡ or_last None b set
    by_test true = refl
    by_test false = refl
find_last p (first ∷ sets) set = by_test (p first) (find_last p sets set)
  where
    by_test : (b : Bool) → find p (sets ++ set ∷ []) ≡ or_last (find p sets) (p set) set
        → cond b (Some first) (find p (sets ++ set ∷ [])) ≡ or_last (cond b (Some first) (find p sets)) (p set) set
    by_test true rest = refl
    by_test false rest = rest

last_come : (p : KeySet → Bool) (sets : List KeySet) (set : KeySet) → find p (reverse (set ∷ sets)) ≡ or_last (find p (reverse sets)) (p set) set
last_come p sets set = ap (find p) (reverse-append (set ∷ []) sets) ∙ find_last p (reverse sets) set

-- the second is the first from another moment, if there is a first
abbrev IsLater : Option KeySet → Option KeySet → Type 0
IsLater None other = other ≡ None
IsLater (Some set) other = (from : ℕ) × (other ≡ Some (from_moment set from))

later_last : (found other : Option KeySet) (b c : Bool) (set : KeySet) (from : ℕ) → c ≡ b → IsLater found other → IsLater (or_last found b set) (or_last other c (from_moment set from))
later_last None other true c set from same none = (from, ap (λ (o : Option KeySet). or_last o c (from_moment set from)) none ∙ ap (λ (b : Bool). or_last None b (from_moment set from)) same)
later_last None other false c set from same none = ap (λ (o : Option KeySet). or_last o c (from_moment set from)) none ∙ ap (λ (b : Bool). or_last None b (from_moment set from)) same
later_last (Some found) other b c set from same is = (is.0, ap (λ (o : Option KeySet). or_last o c (from_moment set from)) is.1)

-- a moment that comes so much later than on the other clock has come there too
same_test : (next lifetime clock span index : ℕ)
    → nat_le (moment_of (clock + next) lifetime index) (clock + span) ≡ nat_le (moment_of next lifetime index) span
same_test next lifetime clock span zero = grind (arith, nat_tests)
same_test next lifetime clock span (suc k) =
    let there = moment_later (clock + next) lifetime k in
    let here = moment_later next lifetime k in
    ap (λ (n : ℕ). nat_le n (clock + span)) there ∙ tests (k * lifetime) ∙ ap (λ (n : ℕ). nat_le n span) (sym here)
  where
    tests : (n : ℕ) → nat_le (clock + next + n) (clock + span) ≡ nat_le (next + n) span
    tests n = grind (arith, nat_tests)

used_from : (next lifetime clock span index : ℕ) (sets : List KeySet)
    → IsLater (current (timed_from next lifetime index sets) span) (current (timed_from (clock + next) lifetime index sets) (clock + span))
used_from next lifetime clock span index [] = refl
used_from next lifetime clock span index (set ∷ sets) =
    let here = λ (set : KeySet). nat_le set.from span in
    let there = λ (set : KeySet). nat_le set.from (clock + span) in
    let one = from_moment set (moment_of next lifetime index) in
    let other = from_moment set (moment_of (clock + next) lifetime index) in
    let rest = used_from next lifetime clock span (index + 1) sets in
    subst (λ (o : Option KeySet). IsLater o (current (timed_from (clock + next) lifetime index (set ∷ sets)) (clock + span)))
    (sym (last_come here (timed_from next lifetime (index + 1) sets) one))
    (subst (λ (o : Option KeySet). IsLater (or_last (current (timed_from next lifetime (index + 1) sets) span) (here one) one) o)
    (sym (last_come there (timed_from (clock + next) lifetime (index + 1) sets) other))
    (later_last (current (timed_from next lifetime (index + 1) sets) span) (current (timed_from (clock + next) lifetime (index + 1) sets) (clock + span)) (here one) (there other) one
    (moment_of (clock + next) lifetime index) (same_test next lifetime clock span index) rest))

by_found : (found other : Option KeySet) → IsLater found other → (set : KeySet) → found ≡ Some set → (from : ℕ) × (other ≡ Some (from_moment set from))
by_found None other is set e = absurd (cc)
by_found (Some found) other is set e =
    let same : found ≡ set = cc in
    subst (λ (s : KeySet). (from : ℕ) × (other ≡ Some (from_moment s from))) same is

pub uses_later : (keys : Keys) (clock : ℕ) → UsesKeysLater keys clock
uses_later keys clock span set is =
    by_found (current (pulled_sets keys) span) (current (pulled_sets (later clock keys)) (clock + span)) (used_from keys.next keys.lifetime clock span 0 keys.keys.items) set is
