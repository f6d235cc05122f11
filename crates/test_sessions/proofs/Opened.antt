-- The bank and the threads of a new session.
use Rattle.std.proofs.Common.{◌≡◌, ℕ, ◌<◌, List, [], length, map, get_or, refl, sym, ap, ◌∙◌, subst, arith, Option, Some}
use Rattle.std.specs.Prelude.{All, IsSome}
use Rattle.std.proofs.lemmas.List.{get_or_default, get_or-map, length-map}
use Rattle.dataset_meta.specs.Metas.{MetaData}
use Rattle.version_cell.specs.Known.{Known}
use Rattle.version_cell.specs.Cells.{CellData}
use Rattle.version_cell.specs.Sets.{ArePassesOf, new_passes, no_cell, pass_at}
use Rattle.version_cell.proofs.Each.{new_at}
use Rattle.cell_bank.specs.Hands.{AreHands}
use Rattle.test_sessions.specs.Devices.{IsBank, IsHand}

-- a bank of one meta
pub one-bank : (bank : List CellData) (metas : List MetaData) (meta : MetaData) → map (λ cell. cell.meta) bank ≡ metas → length metas ≡ 1
    → meta ≡ get_or metas 0 meta → IsBank meta bank
one-bank bank metas meta are one is =
    let count : length bank ≡ 1 = sym (length-map bank (λ (cell : CellData). cell.meta)) ∙ ap (λ (l : List MetaData). length l) are ∙ one in
    let low : 0 < length bank = omega (arith, count) in
    record {
      one = count;
      meta_is = sym (get_or-map (λ (cell : CellData). cell.meta) bank 0 no_cell meta low) ∙ ap (λ (l : List MetaData). get_or l 0 meta) are ∙ sym is;
    }

-- the passes of its authors
pub all-hands : (bank : List CellData) (hands : List (List Known)) → length bank ≡ 1 → AreHands bank hands → All (IsHand bank) hands
all-hands bank hands one is =
    λ k d low.
    let lt : k < 8 = (let n = is.eight in omega (arith, low, n)) in
    let same : get_or hands k [] ≡ get_or hands k d = get_or_default hands k [] d low in
    let known : get_or hands k d ≡ new_passes bank (Some k) = sym same ∙ is.each k lt in
    let author : (pass_at (get_or hands k d) 0).author ≡ Some k
    = ap (λ (l : List Known). (pass_at l 0).author) known ∙ ap (λ (p : Known). p.author) (new_at bank (Some k) 0 (omega (arith, one))) in
    record {
      own = subst (ArePassesOf bank) same (is.own k lt);
      numbered = subst (λ (a : Option ℕ). IsSome a) (sym author) refl;
    }
