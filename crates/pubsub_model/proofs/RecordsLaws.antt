-- What one more item does to the records, to what is held and to the breaks.
use Rattle.std.proofs.Common.{◌≡◌, refl, sym, ap, ◌∙◌, arith, ℕ, Bool, true, false, ◌&&◌, cond, List, [], ◌∷◌, map, Option, Some, None}
use Rattle.std.specs.Prelude.{nat_lt, option_map, max}
use Rattle.std.specs.List.{list_all, list_any}
use Rattle.std.proofs.lemmas.Bool.Decides.{nat_tests}
use Rattle.dataset_meta.specs.DataValues.{DataValue}
use Rattle.dataset_meta.specs.Rows.{patched, cons_if}
use Rattle.seq_number.specs.Numbers.{greatest}
use Rattle.pubsub_model.specs.Frames.{Whole, Change, Alive, published, is_whole}
use Rattle.pubsub_model.specs.Records.{Item, Held, is_record, records, breaks_with, breaks_of, from_whole, is_nothing, last_with, held_in, place_in, at}

-- above the last of these records
abbrev pub above_last : List Item → ℕ → Bool
above_last [] n = true
above_last (last ∷ before) n = nat_lt (place_in last) n

abbrev above_all : List Item → ℕ → Bool
above_all items n = list_all (λ earlier. nat_lt (place_in earlier) n) items

above_step : (b : Bool) (item : Item) (before rs : List Item) (n : ℕ) → ((m : ℕ) → above_all before m ≡ above_last rs m) → above_all before (place_in item) ≡ b
    → above_all (item ∷ before) n ≡ above_last (cons_if b item rs) n
above_step true item before [] n same e = ap (λ (c : Bool). nat_lt (place_in item) n && c) (same n) ∙ grind (arith, nat_tests)
above_step true item before (last ∷ rs) n same e =
    let above = sym (same (place_in item)) ∙ e in ap (λ (c : Bool). nat_lt (place_in item) n && c) (same n) ∙ grind (arith, nat_tests)
above_step false item before [] n same e = let wrong : true ≡ false = sym (same (place_in item)) ∙ e in absurd (grind arith)
above_step false item before (last ∷ rs) n same e =
    let below = sym (same (place_in item)) ∙ e in ap (λ (c : Bool). nat_lt (place_in item) n && c) (same n) ∙ grind (arith, nat_tests)

-- a place is above all earlier items exactly where it is above the last record
pub above_all-last : (items : List Item) (n : ℕ) → above_all items n ≡ above_last (records items) n
above_all-last [] n = refl
above_all-last (item ∷ before) n = above_step (is_record before item) item before (records before) n (above_all-last before) refl

-- a Whole record is held
pub held-whole : (m : ℕ) (s : Option ℕ) (place : ℕ) (row : List DataValue) (rs : List Item) → held_in (at m s (Whole place row) ∷ rs) ≡ Some (record { place = place; row = row })
held-whole m s place row rs = refl

-- nothing is held by a first record that is no Whole
pub held-first_change : (m : ℕ) (s : Option ℕ) (place : ℕ) (patch : List (ℕ × DataValue)) → held_in (at m s (Change place patch) ∷ []) ≡ None
held-first_change m s place patch = refl

pub held-first_alive : (m : ℕ) (s : Option ℕ) (next : ℕ) → held_in (at m s (Alive next) ∷ []) ≡ None
held-first_alive m s next = refl

-- the records from the last Whole on begin with the last record
pub tail_of : (b : Bool) (last : Item) (more : List Item) → List Item
tail_of true last more = []
tail_of false last more = more

pub starts : (b : Bool) (last : Item) (more : List Item) → cond b (last ∷ []) (last ∷ more) ≡ last ∷ tail_of b last more
unfolding tail_of
starts true last more = refl
starts false last more = refl

cond_map : (c : Bool) (f : Held → Held) (h : Held) → cond c (Some (f h)) None ≡ option_map f (cond c (Some h) None)
cond_map true f h = refl
cond_map false f h = refl

abbrev pub laid : ℕ → List (ℕ × DataValue) → Held → Held
laid place patch h = record { place = place; row = patched h.row patch }

change_on : (w : Bool) (m : ℕ) (s : Option ℕ) (place : ℕ) (patch : List (ℕ × DataValue)) (last : Item) (t : List Item) → breaks_with last (at m s (Change place patch)) ≡ false
    → cond (w && is_nothing (breaks_of (at m s (Change place patch) ∷ last ∷ t))) (last_with (at m s (Change place patch) ∷ last ∷ t)) None
    ≡ option_map (laid place patch) (cond (w && is_nothing (breaks_of (last ∷ t))) (last_with (last ∷ t)) None)
change_on w m s place patch last t unbroken =
    rw unbroken (cond_map (w && is_nothing (breaks_of (last ∷ t))) (laid place patch) (record { place = place_in last; row = published (map (λ i. i.frame) (last ∷ t)) }))

and_false : (w : Bool) → (w && false) ≡ false
and_false true = refl
and_false false = refl

break_on : (w : Bool) (x last : Item) (t : List Item) → breaks_with last x ≡ true → cond (w && is_nothing (breaks_of (x ∷ last ∷ t))) (last_with (x ∷ last ∷ t)) None ≡ None
break_on w x last t broken = rw broken (rw (and_false w) refl)

-- a Change that follows is laid into the row that is held
pub held-change : (m : ℕ) (s : Option ℕ) (place : ℕ) (patch : List (ℕ × DataValue)) (last : Item) (rs : List Item) → breaks_with last (at m s (Change place patch)) ≡ false
    → held_in (at m s (Change place patch) ∷ last ∷ rs) ≡ option_map (λ h. record { place = place; row = patched h.row patch }) (held_in (last ∷ rs))
held-change m s place patch last rs unbroken =
    let w = list_any (λ (item : Item). is_whole item.frame) (last ∷ rs) in
    rw (starts (is_whole last.frame) last (from_whole rs)) (change_on w m s place patch last (tail_of (is_whole last.frame) last (from_whole rs)) unbroken)

-- a record that breaks and is no Whole leaves nothing held
pub held-break : (x last : Item) (rs : List Item) → is_whole x.frame ≡ false → breaks_with last x ≡ true → held_in (x ∷ last ∷ rs) ≡ None
held-break x last rs no_whole broken =
    let w = list_any (λ (item : Item). is_whole item.frame) (last ∷ rs) in
    rw (no_whole, starts (is_whole last.frame) last (from_whole rs)) (break_on w x last (tail_of (is_whole last.frame) last (from_whole rs)) broken)

abbrev pub last_place : List Item → ℕ
last_place [] = 0
last_place (last ∷ before) = place_in last

greatest_step : (b : Bool) (x : Item) (g : ℕ) (rs : List Item) → g ≡ last_place rs → above_last rs (place_in x) ≡ b → max (place_in x) g ≡ last_place (cons_if b x rs)
greatest_step true x g [] e a = omega arith
greatest_step true x g (l ∷ rs) e a = grind (arith, nat_tests)
greatest_step false x g [] e a = absurd (grind arith)
greatest_step false x g (l ∷ rs) e a = grind (arith, nat_tests)

-- the greatest place so far is that of the last record
pub greatest-last : (items : List Item) → greatest (map place_in items) ≡ last_place (records items)
greatest-last [] = refl
greatest-last (x ∷ items) = greatest_step (is_record items x) x _ (records items) (greatest-last items) (sym (above_all-last items (place_in x)))
