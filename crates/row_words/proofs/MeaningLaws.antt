-- Patches and what they stand for: each patch has words, and no two patches mean the same.
use Rattle.std.proofs.Common.{◌≡◌, ◌↔◌, ℕ, zero, suc, ◌+◌, ◌<◌, Bool, true, false, List, [], ◌∷◌, length, refl, sym, ap, ◌∙◌, subst, arith, nat_lt, Option, Some}
use Rattle.std.specs.Prelude.{◌==◌, slice_set, slice_get, bit_or}
use Rattle.std.specs.List.{HoldsAt}
use Rattle.std.specs.Int.{bit_at}
use Rattle.std.proofs.lemmas.Bool.Decides.{nat_tests, Decides-eqb}
use Rattle.std.proofs.lemmas.Nat.{one_shl}
use Rattle.std.proofs.lemmas.Nat.Bits.{bit_at-lt, same_from_bits_below}
use Rattle.dataset_meta.specs.declared.field.Field.{Field}
use Rattle.dataset_meta.specs.DataValues.{DataValue}
use Rattle.dataset_meta.specs.Metas.{IsMeta, MetaData}
use Rattle.dataset_meta.specs.Rows.{IsPatch, IsPatchFrom, cons_if, put_in, patched, opening_value, opening_row}
use Rattle.dataset_meta.proofs.RowLaws.{length_row, IsRow-opening, IsRow-patched}
use Rattle.dataset_meta.proofs.ChangeLaws.{patched-put}
use Rattle.row_words.specs.declared.row.Row.{Row}
use Rattle.row_words.specs.declared.patch.Patch.{Patch}
use Rattle.row_words.specs.Belonging.{row_in, spelled_row}
use Rattle.row_words.specs.Patches.{marked_from, patch_in, IsPatchOf, mask_of, spelled_patch}
use Rattle.row_words.proofs.RowLaws.{narrow, Belongs-spelled_row, row_in-spelled_row}
use Rattle.row_words.proofs.PatchLaws.{Puts, put_is, IsPatchOf-none, patch_in-none}

-- a change in front of a patch's first is put in front
in_front : (quality : Bool) (fields : List Field) (change : ℕ × DataValue) (patch : List (ℕ × DataValue)) → IsPatchFrom (change.0 + 1) quality fields patch
    → put_in patch change.0 change.1 ≡ change ∷ patch
in_front quality fields change [] is = refl
in_front quality fields change (other ∷ patch) is =
    let later : nat_lt other.0 change.0 ≡ false = grind (arith, nat_tests, is.0) in
    let apart : (other.0 == change.0) ≡ false = grind (arith, nat_tests, is.0) in
    rw (later, apart) refl

-- the words of a patch stand for it
pub record StandsFor (meta : MetaData) (patch : List (ℕ × DataValue)) : Type 0 where
  pub of : IsPatchOf meta (spelled_patch meta.fields patch)
  pub meaning : patch_in meta.fields (spelled_patch meta.fields patch) ≡ patch

stands_for : (meta : MetaData) (from : ℕ) (patch : List (ℕ × DataValue)) → IsMeta meta.fields → IsPatchFrom from meta.quality meta.fields patch → StandsFor meta patch
unfolding spelled_patch
stands_for meta from [] is fits =
    let opening = IsRow-opening meta.quality meta.fields in
    let row : Row = record { words = spelled_row meta.fields (opening_row meta.fields) } in
    record {
      of = IsPatchOf-none meta row (Belongs-spelled_row meta (opening_row meta.fields) (narrow meta.fields is) opening) (row_in-spelled_row meta.quality meta.fields (opening_row meta.fields) opening);
      meaning = patch_in-none meta.fields row;
    }
stands_for meta from (change ∷ patch) is fits =
    let fields = meta.fields in
    let opening = IsRow-opening meta.quality fields in
    let rest = stands_for meta (change.0 + 1) patch is fits.3 in
    let before = patched (opening_row fields) patch in
    let after = patched (opening_row fields) (change ∷ patch) in
    let is_before = IsRow-patched meta.quality fields (change.0 + 1) (opening_row fields) patch opening fits.3 in
    let is_after = IsRow-patched meta.quality fields from (opening_row fields) (change ∷ patch) opening fits in
    let first = in_front meta.quality fields change patch fits.3 in
    let set : row_in fields (spelled_row fields after) ≡ slice_set (row_in fields (spelled_row fields before)) change.0 change.1 =
    row_in-spelled_row meta.quality fields after is_after
    ∙ ap (patched (opening_row fields)) (sym first)
    ∙ patched-put meta.quality fields (change.0 + 1) patch (opening_row fields) change.0 change.1 fits.3
    ∙ ap (λ (row : List DataValue). slice_set row change.0 change.1) (sym (row_in-spelled_row meta.quality fields before is_before)) in
    let small : change.0 < 64 = omega (arith, fits.1, is.count.1) in
    let row : Row = record { words = spelled_row fields after } in
    let puts = subst (λ (bit : ℕ). Puts meta (spelled_patch fields patch) change.0 change.1 (record { mask = bit_or (mask_of patch) bit; row = row })) (one_shl change.0 64 small)
    (put_is meta (spelled_patch fields patch) change.0 change.1 row small rest.of fits.1 (Belongs-spelled_row meta after (narrow fields is) is_after) set) in
    record { of = puts.of; meaning = puts.put ∙ ap (λ (p : List (ℕ × DataValue)). put_in p change.0 change.1) rest.meaning ∙ first }

pub IsPatchOf-spelled_patch : (meta : MetaData) (patch : List (ℕ × DataValue)) → IsMeta meta.fields → IsPatch meta patch → IsPatchOf meta (spelled_patch meta.fields patch)
IsPatchOf-spelled_patch meta patch is fits = (stands_for meta 0 patch is fits).of

pub patch_in-spelled_patch : (meta : MetaData) (patch : List (ℕ × DataValue)) → IsMeta meta.fields → IsPatch meta patch → patch_in meta.fields (spelled_patch meta.fields patch) ≡ patch
patch_in-spelled_patch meta patch is fits = (stands_for meta 0 patch is fits).meaning

heads : (c d : ℕ × DataValue) (xs ys : List (ℕ × DataValue)) → c ∷ xs ≡ d ∷ ys → c ≡ d
heads c d xs ys e = cc

tails : (c d : ℕ × DataValue) (xs ys : List (ℕ × DataValue)) → c ∷ xs ≡ d ∷ ys → xs ≡ ys
tails c d xs ys e = cc

-- what is marked behind an index doesn't begin with it
pass_if : (b : Bool) (from index : ℕ) (v x : DataValue) (marked patch : List (ℕ × DataValue)) → index < from → (marked ≡ (index, x) ∷ patch → ⊥)
    → cons_if b (from, v) marked ≡ (index, x) ∷ patch → ⊥
pass_if true from index v x marked patch before rest e = let same : from ≡ index = ap (λ (c : ℕ × DataValue). c.0) (heads (from, v) (index, x) marked patch e) in absurd (omega (arith, same))
pass_if false from index v x marked patch before rest e = rest e

none_before : (row : List DataValue) (from mask index : ℕ) (x : DataValue) (patch : List (ℕ × DataValue)) → index < from → marked_from from mask row ≡ (index, x) ∷ patch → ⊥
none_before [] from mask index x patch before e = absurd (cc)
none_before (v ∷ row) from mask index x patch before e =
    pass_if (bit_at mask from == 1) from index v x (marked_from (from + 1) mask row) patch before (none_before row (from + 1) mask index x patch (omega arith)) e

-- unmarked fields of a row are these
abbrev Unmarked : List DataValue → ℕ → ℕ → (ℕ → Option DataValue) → Type 0
Unmarked row from mask zeros = (k : ℕ) → k < length row → bit_at mask (from + k) ≡ 0 → slice_get row k ≡ zeros k

unmarked_later : (v : DataValue) (row : List DataValue) (from mask : ℕ) (zeros : ℕ → Option DataValue) → Unmarked (v ∷ row) from mask zeros → Unmarked row (from + 1) mask (λ k. zeros (suc k))
unmarked_later v row from mask zeros un k within clear =
    let next : from + 1 + k ≡ from + suc k = omega arith in
    un (suc k) (omega arith) (sym (ap (bit_at mask) next) ∙ clear)

-- two rows and their masks
record AreSame (row other : List DataValue) (from mask mask2 : ℕ) : Type 0 where
  rows : row ≡ other
  bits : (k : ℕ) → k < length row → bit_at mask (from + k) ≡ bit_at mask2 (from + k)

clear_bit : (n : ℕ) → n < 2 → (n == 1) ≡ false → n ≡ 0
clear_bit zero small e = refl
clear_bit (suc zero) small e = absurd (cc)
clear_bit (suc (suc n)) small e = absurd (omega arith)

some_same : (x y : DataValue) → Some x ≡ Some y → x ≡ y
some_same x y e = cc

more_same : (x y : DataValue) (row other : List DataValue) (from mask mask2 : ℕ) → x ≡ y → bit_at mask from ≡ bit_at mask2 from → AreSame row other (from + 1) mask mask2
    → AreSame (x ∷ row) (y ∷ other) from mask mask2
more_same x y row other from mask mask2 same bit later = record {
  rows = ap (λ (v : DataValue). v ∷ row) same ∙ ap (λ (rest : List DataValue). y ∷ rest) later.rows;
  bits = bits;
}
  where
    bits : (k : ℕ) → k < length (x ∷ row) → bit_at mask (from + k) ≡ bit_at mask2 (from + k)
    bits zero within = let here : from + 0 ≡ from = omega arith in rw here bit
    bits (suc k) within = let next : from + suc k ≡ from + 1 + k = omega arith in rw next (later.bits k (omega arith))

same_case : (b c : Bool) (x y : DataValue) (row other : List DataValue) (from mask mask2 : ℕ) (zeros : ℕ → Option DataValue)
    → (bit_at mask from == 1) ≡ b → (bit_at mask2 from == 1) ≡ c → Unmarked (x ∷ row) from mask zeros → Unmarked (y ∷ other) from mask2 zeros
    → cons_if b (from, x) (marked_from (from + 1) mask row) ≡ cons_if c (from, y) (marked_from (from + 1) mask2 other)
    → (marked_from (from + 1) mask row ≡ marked_from (from + 1) mask2 other → AreSame row other (from + 1) mask mask2)
    → AreSame (x ∷ row) (y ∷ other) from mask mask2
same_case true true x y row other from mask mask2 zeros b c un un2 e later =
    let first : x ≡ y = ap (λ (c : ℕ × DataValue). c.1) (heads (from, x) (from, y) (marked_from (from + 1) mask row) (marked_from (from + 1) mask2 other) e) in
    let rest : marked_from (from + 1) mask row ≡ marked_from (from + 1) mask2 other = tails (from, x) (from, y) (marked_from (from + 1) mask row) (marked_from (from + 1) mask2 other) e in
    more_same x y row other from mask mask2 first ((Decides-eqb (bit_at mask from) 1).0 b ∙ sym ((Decides-eqb (bit_at mask2 from) 1).0 c)) (later rest)
same_case true false x y row other from mask mask2 zeros b c un un2 e later =
    absurd (none_before other (from + 1) mask2 from x (marked_from (from + 1) mask row) (omega arith) (sym e))
same_case false true x y row other from mask mask2 zeros b c un un2 e later =
    absurd (none_before row (from + 1) mask from y (marked_from (from + 1) mask2 other) (omega arith) e)
same_case false false x y row other from mask mask2 zeros b c un un2 e later =
    let none : from + 0 ≡ from = omega arith in
    let clear : bit_at mask from ≡ 0 = clear_bit (bit_at mask from) (bit_at-lt mask from) b in
    let clear2 : bit_at mask2 from ≡ 0 = clear_bit (bit_at mask2 from) (bit_at-lt mask2 from) c in
    let here : Some x ≡ zeros 0 = un 0 (omega arith) (ap (bit_at mask) none ∙ clear) in
    let there : Some y ≡ zeros 0 = un2 0 (omega arith) (ap (bit_at mask2) none ∙ clear2) in
    more_same x y row other from mask mask2 (some_same x y (here ∙ sym there)) (clear ∙ sym clear2) (later e)

same_marked : (row other : List DataValue) (from mask mask2 : ℕ) (zeros : ℕ → Option DataValue) → length row ≡ length other
    → Unmarked row from mask zeros → Unmarked other from mask2 zeros → marked_from from mask row ≡ marked_from from mask2 other → AreSame row other from mask mask2
same_marked [] [] from mask mask2 zeros long un un2 e = record { rows = refl; bits = λ k within. absurd (omega arith) }
same_marked [] (y ∷ other) from mask mask2 zeros long un un2 e = absurd (omega arith)
same_marked (x ∷ row) [] from mask mask2 zeros long un un2 e = absurd (omega arith)
same_marked (x ∷ row) (y ∷ other) from mask mask2 zeros long un un2 e =
    same_case (bit_at mask from == 1) (bit_at mask2 from == 1) x y row other from mask mask2 zeros refl refl un un2 e
    (same_marked row other (from + 1) mask mask2 (λ k. zeros (suc k)) (omega arith) (unmarked_later x row from mask zeros un) (unmarked_later y other from mask2 zeros un2))

opening_at : (fields : List Field) (k : ℕ) (v : Option DataValue) → k < length fields → HoldsAt (λ field. v ≡ Some (opening_value field)) fields k → v ≡ slice_get (opening_row fields) k
opening_at [] k v within here = absurd (omega arith)
opening_at (field ∷ fields) zero v within here = here field
opening_at (field ∷ fields) (suc k) v within here = opening_at fields k v (omega arith) here

unmarked_of : (meta : MetaData) (patch : Patch) → IsPatchOf meta patch → Unmarked (row_in meta.fields patch.row.words) 0 patch.mask (λ k. slice_get (opening_row meta.fields) k)
unmarked_of meta patch of k within clear =
    let field_within : k < length meta.fields = omega (arith, length_row meta.quality meta.fields (row_in meta.fields patch.row.words) of.belongs.row) in
    let none : 0 + k ≡ k = omega arith in
    opening_at meta.fields k (slice_get (row_in meta.fields patch.row.words) k) field_within (of.unmarked k field_within (sym (ap (bit_at patch.mask) none) ∙ clear))

same_parts : (one other : Patch) → one.mask ≡ other.mask → one.row.words ≡ other.row.words → one ≡ other
same_parts one other mask words = rw (← mask, ← words) refl

same_patch : (meta : MetaData) (one other : Patch) → IsPatchOf meta one → IsPatchOf meta other → patch_in meta.fields one ≡ patch_in meta.fields other → one ≡ other
unfolding patch_in
same_patch meta one other of_one of_other e =
    let fields = meta.fields in
    let row = row_in fields one.row.words in
    let row2 = row_in fields other.row.words in
    let long = length_row meta.quality fields row of_one.belongs.row in
    let long2 = length_row meta.quality fields row2 of_other.belongs.row in
    let same = same_marked row row2 0 one.mask other.mask (λ k. slice_get (opening_row fields) k) (omega (arith, long, long2)) (unmarked_of meta one of_one) (unmarked_of meta other of_other) e in
    same_parts one other
    (same_from_bits_below (length fields) one.mask other.mask of_one.marks of_other.marks
    (λ i within. let none : 0 + i ≡ i = omega arith in sym (ap (bit_at one.mask) none) ∙ same.bits i (omega (arith, long, within)) ∙ ap (bit_at other.mask) none))
    (of_one.belongs.spelled ∙ ap (spelled_row fields) same.rows ∙ sym of_other.belongs.spelled)

pub one_meaning : (meta : MetaData) (one other : Patch) → IsPatchOf meta one → IsPatchOf meta other → (one ≡ other) ↔ (patch_in meta.fields one ≡ patch_in meta.fields other)
one_meaning meta one other of_one of_other = (λ e. ap (patch_in meta.fields) e, λ e. same_patch meta one other of_one of_other e)
