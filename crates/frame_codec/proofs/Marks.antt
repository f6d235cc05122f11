-- The marked fields of a patch, the lowest first.
use Rattle.std.proofs.Common.{◌≡◌, ℕ, ◌+◌, ◌≤◌, Bool, List, [], ◌++◌, length, take, drop, refl, sym, ap, ◌∙◌, subst, arith, append_assoc, length-append}
use Rattle.std.specs.Int.{trailing_zeros, w64}
use Rattle.std.specs.List.{HoldsAt}
use Rattle.std.proofs.lemmas.List.{append-nil, take-append-drop}
use Rattle.ua_binary.specs.declared.pen.Pen.{Pen}
use Rattle.ua_binary.specs.Writing.{Puts}
use Rattle.ua_binary.proofs.Laying.{Puts-then}
use Rattle.dataset_meta.specs.DataValues.{DataValue}
use Rattle.row_words.specs.Patches.{marked_from}
use Rattle.row_words.proofs.FieldLaws.{StandsAt, stands_at}
use Rattle.row_words.proofs.Marks.{later, Lowest, marked_first}
use Rattle.row_words.proofs.PatchLaws.{none_marked}
use Rattle.frame_codec.specs.Spelling.{change_bytes, changes_bytes}
use Rattle.frame_codec.proofs.Laid.{at_stands}

-- the bytes of the lowest change stand in front of those of the others
pub first-change : (quality : Bool) (row : List DataValue) (left : ℕ) → Lowest left (length row) → (s : StandsAt row (trailing_zeros w64 left))
    → changes_bytes quality (marked_from 0 left row) ≡ change_bytes quality (trailing_zeros w64 left, s.x) ++ changes_bytes quality (marked_from 0 (later left) row)
first-change quality row left first s =
    ap (changes_bytes quality) (marked_first row 0 (trailing_zeros w64 left) (trailing_zeros w64 left) left (later left) s.x (omega arith) s.read first.here first.gone first.before first.others)

-- a text was written, and another behind it makes the whole
pub record IsLaid (old now : Pen) (left whole : List ℕ) : Type 0 where
  pub text : List ℕ
  pub puts : Puts old now text
  pub whole_is : text ++ left ≡ whole

-- nothing was written yet
pub none-laid : (pen : Pen) (whole : List ℕ) → IsLaid pen pen whole whole
none-laid pen whole =
    let none : drop (pen.at + 0) pen.bytes.now ≡ drop pen.at pen.bytes.now = ap (λ (n : ℕ). drop n pen.bytes.now) (omega arith) in
    record {
      text = [];
      puts = record {
        written = sym (take-append-drop pen.at pen.bytes.now) ∙ ap (λ (rest : List ℕ). take pen.at pen.bytes.now ++ rest) (sym none) ∙ ap (λ (front : List ℕ). front ++ drop (pen.at + 0) pen.bytes.now) (sym (append-nil (take pen.at pen.bytes.now)));
        moved = omega arith;
        same_loan = refl;
        same_length = refl;
      };
      whole_is = refl;
    }

-- there is room for the lowest change that is left
pub change-room : (quality : Bool) (row : List DataValue) (left : ℕ) (old now : Pen) (whole : List ℕ) → Lowest left (length row) → IsLaid old now (changes_bytes quality (marked_from 0 left row)) whole
    → old.at + length whole ≤ length old.bytes.now → HoldsAt (λ x. now.at + length (change_bytes quality (trailing_zeros w64 left, x)) ≤ length now.bytes.now) row (trailing_zeros w64 left)
change-room quality row left old now whole first laid room = λ d.
    let s = stands_at row (trailing_zeros w64 left) first.within in
    let change = change_bytes quality (trailing_zeros w64 left, s.x) in
    let rest = changes_bytes quality (marked_from 0 (later left) row) in
    omega (
      arith,
      room,
      laid.puts.moved,
      laid.puts.same_length,
      ap length laid.whole_is,
      length-append laid.text (changes_bytes quality (marked_from 0 left row)),
      ap length (first-change quality row left first s),
      length-append change rest,
      ap (λ (x : DataValue). length (change_bytes quality (trailing_zeros w64 left, x))) (s.here d),
    )

-- one change more
pub change-laid : (quality : Bool) (row : List DataValue) (left : ℕ) (old now new : Pen) (whole : List ℕ) → Lowest left (length row) → IsLaid old now (changes_bytes quality (marked_from 0 left row)) whole
    → HoldsAt (λ x. Puts now new (change_bytes quality (trailing_zeros w64 left, x))) row (trailing_zeros w64 left) → IsLaid old new (changes_bytes quality (marked_from 0 (later left) row)) whole
change-laid quality row left old now new whole first laid put =
    let s = stands_at row (trailing_zeros w64 left) first.within in
    let change = change_bytes quality (trailing_zeros w64 left, s.x) in
    let rest = changes_bytes quality (marked_from 0 (later left) row) in
    record {
      text = laid.text ++ change;
      puts = Puts-then old now new laid.text change laid.puts (at_stands (λ x. Puts now new (change_bytes quality (trailing_zeros w64 left, x))) row (trailing_zeros w64 left) s put);
      whole_is = append_assoc laid.text change rest ∙ ap (λ (after : List ℕ). laid.text ++ after) (sym (first-change quality row left first s)) ∙ laid.whole_is;
    }

-- no change is left
pub changes-laid : (quality : Bool) (row : List DataValue) (left : ℕ) (old now : Pen) (whole : List ℕ) → left ≡ 0 → IsLaid old now (changes_bytes quality (marked_from 0 left row)) whole → Puts old now whole
changes-laid quality row left old now whole none laid =
    let nothing : changes_bytes quality (marked_from 0 left row) ≡ [] = ap (λ (mask : ℕ). changes_bytes quality (marked_from 0 mask row)) none ∙ ap (changes_bytes quality) (none_marked row 0) in
    subst (Puts old now) (sym (append-nil laid.text) ∙ ap (λ (after : List ℕ). laid.text ++ after) (sym nothing) ∙ laid.whole_is) laid.puts
