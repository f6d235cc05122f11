-- A datagram that comes to all read groups comes to each of them, which no other call of it changes.
use Rattle.std.proofs.Common.{◌≡◌, ◌≢◌, refl, sym, ap, ◌∙◌, subst, arith, ℕ, zero, suc, ◌<◌, ◌≤◌, List, [], ◌∷◌, get_or, set, inl, inr, Option, Some, None}
use Rattle.std.specs.Prelude.{◌⊎◌, slice_get, slice_index_or, Result, Ok, Err}
use Rattle.std.proofs.lemmas.Bool.{cases_lt}
use Rattle.reader_group.specs.declared.refusal.Refusal.{Refusal}
use Rattle.reader_group.specs.declared.refusal.Taken.{Taken}
use Rattle.device.specs.declared.listening.Listening.{Listening}
use Rattle.device.specs.declared.subscriber.Subscriber.{Subscriber}
use Rattle.device.specs.Sides.{HasListened}
use Rattle.device.specs.Takings.{HasTaken, HaveTaken}
use Rattle.device_laws.specs.Subscribing.{Came, IfTaken, IsTaken}

-- the read group with index r stands as it did, in a subscriber of the same configuration
pub record StandsSame (r : ℕ) (old new : Subscriber) : Type 0 where
  pub at : slice_get new.groups.items r ≡ slice_get old.groups.items r
  pub config : new.config ≡ old.config

-- the datagram came to the read group with index r alone, which nothing changed before or after
pub record CameAlone (r now : ℕ) (datagram : List ℕ) (answers : List (Option (Result Taken Refusal))) (old new : Subscriber) : Type 0 where
  pub mid : Subscriber
  pub next : Subscriber
  pub left : List ℕ
  pub given : Result Taken Refusal
  pub answer_is : slice_index_or answers r None ≡ Some given
  pub before : StandsSame r old mid
  pub listened : HasListened r now datagram left mid next given
  pub after : StandsSame r next new

other-get : (items : List Listening) (k j : ℕ) (y : Listening) → j ≢ k → slice_get (set items k y) j ≡ slice_get items j
other-get [] k j y differ = refl
other-get (x ∷ items) zero zero y differ = absurd (differ refl)
other-get (x ∷ items) zero (suc j) y differ = refl
other-get (x ∷ items) (suc k) zero y differ = refl
other-get (x ∷ items) (suc k) (suc j) y differ = other-get items k j y (λ same. differ (ap suc same))

-- one of another read group
other-same : (count now r : ℕ) (datagram : List ℕ) (mid new : Subscriber) (answer : Option (Result Taken Refusal)) (l : Listening) → r ≢ count → HasTaken count now datagram mid new answer → StandsSame r mid new
other-same count now r datagram mid new answer l differ has = record {
  at = ap (λ (items : List Listening). slice_get items r) (has.listened.others l) ∙ other-get mid.groups.items count r (get_or new.groups.items count l) differ;
  config = has.listened.config;
}

same-same : (r : ℕ) (a b c : Subscriber) → StandsSame r a b → StandsSame r b c → StandsSame r a c
same-same r a b c one two = record { at = two.at ∙ one.at; config = two.config ∙ one.config }

-- those of the first read groups leave the others
above-same : (count now r : ℕ) (datagram : List ℕ) (answers : List (Option (Result Taken Refusal))) (old new : Subscriber) (l : Listening) → count ≤ r → HaveTaken count now datagram answers old new → StandsSame r old new
above-same zero now r datagram answers old new l le have = record { at = ap (λ (items : List Listening). slice_get items r) have.0; config = have.1 }
above-same (suc count) now r datagram answers old new l le (mid, (early, last)) =
    same-same r old mid new (above-same count now r datagram answers old mid l (omega (arith, le)) early)
    (other-same count now r datagram mid new (slice_index_or answers count None) l (λ same. omega (arith, le, same)) last)

pub came-alone : (count now r : ℕ) (datagram : List ℕ) (answers : List (Option (Result Taken Refusal))) (old new : Subscriber) (l : Listening) → r < count → HaveTaken count now datagram answers old new → CameAlone r now datagram answers old new
came-alone zero now r datagram answers old new l low have = absurd (omega (arith, low))
came-alone (suc count) now r datagram answers old new l low (mid, (early, last)) = on (λ less. came-alone count now r datagram answers old mid l less early) (cases_lt r count)
  where
    on : (r < count → CameAlone r now datagram answers old mid) → (r < count) ⊎ (count ≤ r) → CameAlone r now datagram answers old new
    on alone (inl less) =
        let c = alone less in
        record {
          mid = c.mid;
          next = c.next;
          left = c.left;
          given = c.given;
          answer_is = c.answer_is;
          before = c.before;
          listened = c.listened;
          after = same-same r c.next mid new c.after (other-same count now r datagram mid new (slice_index_or answers count None) l (λ same. omega (arith, less, same)) last);
        }
    on alone (inr more) =
        let same : count ≡ r = omega (arith, low, more) in
        let own : HasTaken r now datagram mid new (slice_index_or answers r None) = subst (λ (k : ℕ). HasTaken k now datagram mid new (slice_index_or answers k None)) same last in
        record {
          mid = mid;
          next = new;
          left = own.left;
          given = own.given;
          answer_is = own.answer_is;
          before = above-same count now r datagram answers old mid l more early;
          listened = own.listened;
          after = record { at = refl; config = refl };
        }

-- what it took, as a call of its own has it
pub as-came : (r now : ℕ) (datagram : List ℕ) (answer : Option (Result Taken Refusal)) (given : Result Taken Refusal) (P : List ℕ → Type 0) → answer ≡ Some given → IfTaken answer (P datagram) → IsTaken (Came r now datagram given) r P
as-came r now datagram answer given P is taken = on given (subst (λ (a : Option (Result Taken Refusal)). IfTaken a (P datagram)) is taken)
  where
    on : (g : Result Taken Refusal) → IfTaken (Some g) (P datagram) → IsTaken (Came r now datagram g) r P
    on (Ok t) has = λ same. has
    on (Err refusal) has = tt
