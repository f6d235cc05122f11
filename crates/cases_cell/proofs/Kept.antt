-- Sets of passes that are kept with their cells, and the metas of those.
use Rattle.std.proofs.Common.{◌≡◌, ℕ, ◌<◌, List, [], ◌∷◌, ◌++◌, length, map, get_or, sym, ap, ◌∙◌, subst, arith, length-append}
use Rattle.std.specs.Prelude.{All}
use Rattle.std.proofs.lemmas.List.{length-map, get_or-map, get_or_append_left, get_or_default}
use Rattle.std.proofs.lemmas.List.Elements.{All-push}
use Rattle.dataset_meta.specs.Metas.{MetaData, no_meta}
use Rattle.version_cell.specs.Known.{Known}
use Rattle.version_cell.specs.Cells.{CellData}
use Rattle.version_cell.specs.Sets.{ArePassesOf, cell_at, no_cell}
use Rattle.cell_bank.specs.Hands.{AreHands}
use Rattle.target_cells.specs.Keeping.{metas_of}

-- what holds of a list's elements holds of all but the last
pub all_front : {X : Type 0} (P : X → Type 0) (old rest : List X) (x : X) → old ≡ rest ++ x ∷ [] → All P old → All P rest
all_front {X} P old rest x is h k d lt =
    subst P (get_or_append_left rest (x ∷ []) d k lt)
    (subst (λ (l : List X). All P l) is h k d (let n = length-append rest (x ∷ []) in omega (arith, n, lt)))

pub hands_own : (bank : List CellData) (hands : List (List Known)) (first : List Known) → AreHands bank hands → ArePassesOf bank first → All (ArePassesOf bank) (hands ++ first ∷ [])
hands_own bank hands first are own =
    All-push (ArePassesOf bank) hands first
    (λ k d lt. let small : k < 8 = (let e = are.eight in omega (arith, lt, e)) in subst (ArePassesOf bank) (get_or_default hands k [] d lt) (are.own k small)) own

-- of the metas of cells that of one
pub meta_at : (cells : List CellData) (metas : List MetaData) (k : ℕ) (d : MetaData) → map (λ (cell : CellData). cell.meta) cells ≡ metas → k < length cells → (cell_at cells k).meta ≡ get_or metas k d
meta_at cells metas k d is lt = sym (get_or-map (λ (c : CellData). c.meta) cells k no_cell d lt) ∙ ap (λ (l : List MetaData). get_or l k d) is

pub as_many_cells : (cells : List CellData) (metas : List MetaData) → map (λ (cell : CellData). cell.meta) cells ≡ metas → length metas ≡ length cells
as_many_cells cells metas is = ap length (sym is) ∙ length-map cells (λ (c : CellData). c.meta)

pub as_many_readers : (cells : List CellData) (metas : List MetaData) (readers : List ℕ) → map (λ (cell : CellData). cell.meta) cells ≡ metas_of metas readers → length readers ≡ length cells
as_many_readers cells metas readers is = sym (length-map readers (λ (set : ℕ). get_or metas set no_meta)) ∙ as_many_cells cells (metas_of metas readers) is

pub meta_of_reader : (cells : List CellData) (metas : List MetaData) (readers : List ℕ) (reader d : ℕ) (m : MetaData) → map (λ (cell : CellData). cell.meta) cells ≡ metas_of metas readers
    → reader < length readers → get_or readers reader d < length metas → (cell_at cells reader).meta ≡ get_or metas (get_or readers reader d) m
meta_of_reader cells metas readers reader d m is lt small =
    let n = as_many_readers cells metas readers is in
    let within : reader < length cells = omega (arith, lt, n) in
    meta_at cells (metas_of metas readers) reader no_meta is within
    ∙ get_or-map (λ (set : ℕ). get_or metas set no_meta) readers reader d no_meta lt
    ∙ get_or_default metas (get_or readers reader d) no_meta m small
