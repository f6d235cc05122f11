-- What befalls a secured read group that names its writer's group: the closing frame stands in a reader's list once a datagram brought it.
use Rattle.std.proofs.Common.{◌≡◌, refl, sym, ap, ◌∙◌, subst, arith, ℕ, zero, suc, ◌+◌, ◌<◌, ◌≤◌, ◌⊎◌, inl, inr, Bool, true, false, not, List, [], ◌∷◌, map, Option, Some, None, Contains, Result, Ok, Err}
use Rattle.std.specs.Prelude.{◌&&◌, ◌||◌, ◌==◌, filter, fold, is_some, nat_le, nat_lt, if◌then◌else◌}
use Rattle.std.specs.List.{cons_option}
use Rattle.std.proofs.lemmas.Bool.Decides.{nat_tests}
use Rattle.seq_number.specs.Numbers.{greatest}
use Rattle.pubsub_model.specs.declared.reading.Why.TheVariants.{Jump}
use Rattle.pubsub_model.specs.Frames.{PlacedFrame, place_of}
use Rattle.pubsub_model.specs.Records.{Came, Cut, Item, is_nothing, place_in, since_cut}
use Rattle.dataset_reader.specs.Keeping.{jumps, stamps}
use Rattle.message_guard.specs.Acceptance.{Accepted, highest, is_acceptable, numbers_of, raises}
use Rattle.message_guard.specs.declared.keys.TokenKeys.{TokenKeys}
use Rattle.message_guard.specs.Modes.{is_secured}
use Rattle.message_guard.specs.Protection.{keys_with}
use Rattle.replay_window.specs.Taken.{greatest as highest_of, is_taken, is_too_old}
use Rattle.reader_group.specs.declared.refusal.Refusal.{Refusal}
use Rattle.reader_group.specs.Arrivals.{Mark, Way, Arrived, accepted, accepted_with, arrivals_in, comes, goes_by_numbers, item_of, piece_on}
use Rattle.reader_group.specs.Opening.{Opened, verdict}
use Rattle.reader_group.specs.Payloads.{Piece}
use Rattle.reader_group.specs.Plain.{Event, Got, Expired, Setting, Stopped}
use Rattle.reader_group.proofs.KeptParts.{IsKept, keep-pieces}
use Rattle.ps_config.specs.declared.parts.Config.{Config}
use Rattle.writer_group.specs.Turns.{GroupDeed}
use Rattle.session_laws.specs.Pasts.{CameAsMade}

-- ---- an item at a place with such a number

abbrev IsFrom : ℕ → Option ℕ → Type 0
IsFrom low None = ⊥
IsFrom low (Some n) = low ≤ n

abbrev pub HasItemFrom : ℕ → ℕ → List Item → Type 0
HasItemFrom low place [] = ⊥
HasItemFrom low place (item ∷ before) = ((place_in item ≡ place) × IsFrom low item.stamp) ⊎ HasItemFrom low place before

abbrev pub StandsFrom : ℕ → ℕ → List Mark → Type 0
StandsFrom low place list = HasItemFrom low place (since_cut (arrivals_in list))

stamps-step : (low place : ℕ) (item : Item) (items : List Item) (o : Option ℕ) → (HasItemFrom low place items → low ≤ greatest (stamps items)) → ((place_in item ≡ place) × IsFrom low o) ⊎ HasItemFrom low place items
    → low ≤ greatest (cons_option o (stamps items))
stamps-step low place item items None rest (inl here) = absurd here.1
stamps-step low place item items None rest (inr more) = rest more
stamps-step low place item items (Some n) rest (inl here) = let le = here.1 in omega (arith, le)
stamps-step low place item items (Some n) rest (inr more) = let le = rest more in omega (arith, le)

stamps-from : (low place : ℕ) (items : List Item) → HasItemFrom low place items → low ≤ greatest (stamps items)
stamps-from low place [] none = absurd none
stamps-from low place (item ∷ items) h = stamps-step low place item items item.stamp (stamps-from low place items) h

pub late-none : (a b : Bool) → b ≡ false → (a && b) ≡ false
late-none true b e = e
late-none false b e = refl

-- no number near to it jumps
no-jump : (low place n : ℕ) (items : List Item) → HasItemFrom low place items → n < low + 16384 → jumps items (Some n) ≡ false
no-jump low place n items h near =
    let le = stamps-from low place items h in
    let far : nat_le (greatest (stamps items) + 16384) n ≡ false = grind (arith, nat_tests, le, near) in
    late-none (not (is_nothing (stamps items))) (nat_le (greatest (stamps items) + 16384) n) far

abbrev cut_if : Bool → Item → List Mark → List Mark
cut_if jump item before = if jump then Arrived (Came item) ∷ Arrived (Cut Jump) ∷ before else Arrived (Came item) ∷ before

behind-if : (low place : ℕ) (item : Item) (before : List Mark) (jump : Bool) → jump ≡ false → StandsFrom low place before → StandsFrom low place (cut_if jump item before)
behind-if low place item before true e h = absurd (cc)
behind-if low place item before false e h = inr h

new-if : (low place : ℕ) (item : Item) (before : List Mark) (jump : Bool) → place_in item ≡ place → IsFrom low item.stamp → StandsFrom low place (cut_if jump item before)
new-if low place item before true at from = inl (at, from)
new-if low place item before false at from = inl (at, from)

pub from-kept : (low place : ℕ) (way : Way) (now n : ℕ) → n < low + 16384 → IsKept (StandsFrom low place) way now (Some n)
from-kept low place way now n near = record {
  item = λ before frame h.
      let items = since_cut (arrivals_in before) in
      behind-if low place (item_of now (Some n) frame) before (goes_by_numbers way && jumps items (Some n)) (late-none (goes_by_numbers way) (jumps items (Some n)) (no-jump low place n items h near)) h;
  chunk = λ before c h. h;
}

pub from-parts : (low place : ℕ) (way : Way) (at : ℕ → ℕ) (now n : ℕ) → n < low + 16384 → (parts : List Piece) (before : List Mark) → StandsFrom low place before → StandsFrom low place (fold (piece_on way at now (Some n)) before parts)
from-parts low place way at now n near parts before h = keep-pieces (StandsFrom low place) way at now (Some n) (from-kept low place way now n near) parts before h

pub from-new : (low place : ℕ) (way : Way) (now n : ℕ) (before : List Mark) (frame : PlacedFrame) → place_of frame ≡ place → low ≤ n → StandsFrom low place (comes way before (item_of now (Some n) frame))
from-new low place way now n before frame at le = new-if low place (item_of now (Some n) frame) before (goes_by_numbers way && jumps (since_cut (arrivals_in before)) (Some n)) at le

pub from-among : (low place : ℕ) (way : Way) (at : ℕ → ℕ) (now n : ℕ) → n < low + 16384 → (piece : Piece) → ((before : List Mark) → StandsFrom low place (piece_on way at now (Some n) before piece)) → (parts : List Piece) (before : List Mark) → Contains parts piece
    → StandsFrom low place (fold (piece_on way at now (Some n)) before parts)
from-among low place way at now n near piece reads [] before has = absurd (let below = has.1 in omega (arith, below))
from-among low place way at now n near piece reads (x ∷ parts) before (zero, below, same) =
    from-parts low place way at now n near parts (piece_on way at now (Some n) before x) (subst (λ (y : Piece). StandsFrom low place (piece_on way at now (Some n) before y)) (sym same) (reads before))
from-among low place way at now n near piece reads (x ∷ parts) before (suc k, below, same) =
    from-among low place way at now n near piece reads parts (piece_on way at now (Some n) before x) (k, omega (arith, below), same)

-- ---- accepted pairs

abbrev pub HasPair : ℕ → ℕ → Accepted → Type 0
HasPair token number [] = ⊥
HasPair token number (pair ∷ before) = ((pair.0 ≡ token) × (pair.1 ≡ number)) ⊎ HasPair token number before

-- each pair is of a lower token, or of the token with a number up to this one
abbrev pub AreUpTo : ℕ → ℕ → Accepted → Type 0
AreUpTo token most [] = Unit {0}
AreUpTo token most (pair ∷ before) = ((pair.0 < token) ⊎ ((pair.0 ≡ token) × (pair.1 ≤ most))) × AreUpTo token most before

pub none-above : (token most number : ℕ) (list : Accepted) → AreUpTo token most list → most < number → HasPair token number list → ⊥
none-above token most number [] are above has = has
none-above token most number (pair ∷ before) (inl lower, rest) above (inl here) = let same = here.0 in omega (arith, lower, same)
none-above token most number (pair ∷ before) (inr upto, rest) above (inl here) = let le = upto.1 in let same = here.1 in omega (arith, le, same, above)
none-above token most number (pair ∷ before) (one, rest) above (inr more) = none-above token most number before rest above more

highest-most : (token most : ℕ) (list : Accepted) → AreUpTo token most list → highest list ≤ token
highest-most token most [] are = omega arith
highest-most token most (pair ∷ before) (inl lower, rest) = let le = highest-most token most before rest in omega (arith, lower, le)
highest-most token most (pair ∷ before) (inr upto, rest) = let le = highest-most token most before rest in let same = upto.0 in omega (arith, same, le)

highest-least : (token number : ℕ) (list : Accepted) → HasPair token number list → token ≤ highest list
highest-least token number [] has = absurd has
highest-least token number (pair ∷ before) (inl here) = let same = here.0 in omega (arith, same)
highest-least token number (pair ∷ before) (inr more) = let le = highest-least token number before more in omega (arith, le)

numbers-cons : (token : ℕ) (pair : ℕ × ℕ) (before : Accepted) (b : Bool) → (pair.0 == token) ≡ b → numbers_of (pair ∷ before) token ≡ (if b then pair.1 ∷ numbers_of before token else numbers_of before token)
numbers-cons token pair before true e = ap (λ (b : Bool). map (λ (pair : ℕ × ℕ). pair.1) (if b then pair ∷ filter (λ (pair : ℕ × ℕ). pair.0 == token) before else filter (λ (pair : ℕ × ℕ). pair.0 == token) before)) e
numbers-cons token pair before false e = ap (λ (b : Bool). map (λ (pair : ℕ × ℕ). pair.1) (if b then pair ∷ filter (λ (pair : ℕ × ℕ). pair.0 == token) before else filter (λ (pair : ℕ × ℕ). pair.0 == token) before)) e

greatest-one : (token most : ℕ) (pair : ℕ × ℕ) (before : Accepted) (b : Bool) → (pair.0 == token) ≡ b → ((pair.0 < token) ⊎ ((pair.0 ≡ token) × (pair.1 ≤ most))) → highest_of (numbers_of before token) ≤ most → highest_of (numbers_of (pair ∷ before) token) ≤ most
greatest-one token most pair before true e (inl lower) rest = absurd (let same : pair.0 ≡ token = grind (arith, nat_tests) in omega (arith, lower, same))
greatest-one token most pair before true e (inr upto) rest =
    subst (λ (l : List ℕ). highest_of l ≤ most) (sym (numbers-cons token pair before true e)) (let le = upto.1 in omega (arith, le, rest))
greatest-one token most pair before false e one rest = subst (λ (l : List ℕ). highest_of l ≤ most) (sym (numbers-cons token pair before false e)) rest

greatest-most : (token most : ℕ) (list : Accepted) → AreUpTo token most list → highest_of (numbers_of list token) ≤ most
greatest-most token most [] are = omega arith
greatest-most token most (pair ∷ before) are = greatest-one token most pair before (pair.0 == token) refl are.0 (greatest-most token most before are.1)

taken-one : (token number : ℕ) (pair : ℕ × ℕ) (before : Accepted) (b : Bool) → (pair.0 == token) ≡ b → is_taken (numbers_of (pair ∷ before) token) number ≡ true → (is_taken (numbers_of before token) number ≡ true → HasPair token number before)
    → HasPair token number (pair ∷ before)
taken-one token number pair before false e is rest = inr (rest (sym (ap (λ (l : List ℕ). is_taken l number) (numbers-cons token pair before false e)) ∙ is))
taken-one token number pair before true e is rest = on (pair.1 == number) refl (sym (ap (λ (l : List ℕ). is_taken l number) (numbers-cons token pair before true e)) ∙ is)
  where
    on : (b : Bool) → (pair.1 == number) ≡ b → ((pair.1 == number) || is_taken (numbers_of before token) number) ≡ true → HasPair token number (pair ∷ before)
    on true same is = inl (grind (arith, nat_tests), grind (arith, nat_tests))
    on false other is = inr (rest (sym (ap (λ (b : Bool). b || is_taken (numbers_of before token) number) other) ∙ is))

taken-pair : (token number : ℕ) (list : Accepted) → is_taken (numbers_of list token) number ≡ true → HasPair token number list
taken-pair token number [] is = absurd (cc)
taken-pair token number (pair ∷ before) is = taken-one token number pair before (pair.0 == token) refl is (taken-pair token number before)

-- it is accepted, or was before
pub acceptable-or-had : (keys : List TokenKeys) (list : Accepted) (token most number : ℕ) (k : TokenKeys) → keys_with keys token ≡ Some k → AreUpTo token most list → most < number + 1024 → (is_acceptable keys list token number ≡ true) ⊎ HasPair token number list
acceptable-or-had keys list token most number k known are near = on (is_taken (numbers_of list token) number) refl
  where
    on : (b : Bool) → is_taken (numbers_of list token) number ≡ b → (is_acceptable keys list token number ≡ true) ⊎ HasPair token number list
    on true e = inr (taken-pair token number list e)
    on false e =
        let high = highest-most token most list are in
        let great = greatest-most token most list are in
        let low : nat_lt token (highest list) ≡ false = grind (arith, nat_tests, high) in
        let old : is_too_old (numbers_of list token) number ≡ false = grind (arith, nat_tests, great, near) in
        inl (ap (λ (o : Option TokenKeys). is_some o && not (nat_lt token (highest list)) && not (is_taken (numbers_of list token) number) && not (is_too_old (numbers_of list token) number)) known
        ∙ ap (λ (b : Bool). not b && not (is_taken (numbers_of list token) number) && not (is_too_old (numbers_of list token) number)) low
        ∙ ap (λ (b : Bool). not b && not (is_too_old (numbers_of list token) number)) e ∙ ap not old)

-- what is accepted isn't below what was
pub acceptable-least : (keys : List TokenKeys) (list : Accepted) (token number high other : ℕ) → is_acceptable keys list token number ≡ true → HasPair high other list → high ≤ token
acceptable-least keys list token number high other is has =
    let le = highest-least high other list has in
    let low : nat_lt token (highest list) ≡ false = on (is_some (keys_with keys token)) (nat_lt token (highest list)) (not (is_taken (numbers_of list token) number)) (not (is_too_old (numbers_of list token) number)) is in
    grind (arith, nat_tests, le, low)
  where
    on : (a b c d : Bool) → (a && not b && c && d) ≡ true → b ≡ false
    on true false c d e = refl
    on true true c d e = absurd (cc)
    on false b c d e = absurd (cc)

-- and raises no token
pub not-raised : (list : Accepted) (token number other : ℕ) → HasPair token number list → other ≤ token → raises list other ≡ false
not-raised [] token number other has le = absurd has
not-raised (pair ∷ before) token number other has le = let least = highest-least token number (pair ∷ before) has in grind (arith, nat_tests, le, least)

-- ---- what a group accepts, where each that it takes is up to this

module _ (setting : Setting) (config : Config) (pasts : ℕ → List GroupDeed) (secured : is_secured setting.setup.mode ≡ true) where
  pub pair-added : (pairs : Accepted) (opened : Opened) → accepted_with setting pairs (Ok opened) ≡ (opened.pass.token, opened.pass.number) ∷ pairs
  pair-added pairs opened = ap (λ (b : Bool). if b then (opened.pass.token, opened.pass.number) ∷ pairs else pairs) secured

  -- each datagram that is taken is of a lower token, or of this one with a number up to this
  abbrev pub TakesUpTo : ℕ → ℕ → Type 0
  TakesUpTo token most =
      (now : ℕ) (on : List Bool) (other : List ℕ) (before : List Event) (opened : Opened) → CameAsMade setting config pasts (Got now on other ∷ before)
      → verdict setting.group setting.setup (accepted setting before) other ≡ Ok opened → (opened.pass.token < token) ⊎ ((opened.pass.token ≡ token) × (opened.pass.number ≤ most))

  module _ (token most : ℕ) (takes : TakesUpTo token most) where
    upto-one : (now : ℕ) (on : List Bool) (other : List ℕ) (before : List Event) (answer : Result Opened Refusal) → CameAsMade setting config pasts (Got now on other ∷ before) → verdict setting.group setting.setup (accepted setting before) other ≡ answer
        → AreUpTo token most (accepted setting before) → AreUpTo token most (accepted_with setting (accepted setting before) answer)
    upto-one now on other before (Err refusal) came e h = h
    upto-one now on other before (Ok opened) came e h = subst (AreUpTo token most) (sym (pair-added (accepted setting before) opened)) (takes now on other before opened came e, h)

    pub upto-all : (befell : List Event) → CameAsMade setting config pasts befell → AreUpTo token most (accepted setting befell)
    upto-all [] came = tt
    upto-all (Got now on other ∷ before) came = upto-one now on other before (verdict setting.group setting.setup (accepted setting before) other) came refl (upto-all before came.1)
    upto-all (Expired now ∷ before) came = upto-all before came
    upto-all (Stopped reader why ∷ before) came = upto-all before came
