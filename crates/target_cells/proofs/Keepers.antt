-- The keeper sees nothing but what it has stored.
use Rattle.std.proofs.Common.{◌≡◌, ℕ, zero, suc, ◌+◌, ◌<◌, ◌≤◌, List, [], ◌∷◌, ◌++◌, length, map, refl, sym, ap, ◌∙◌, subst, arith, get_or, zero-le}
use Rattle.std.specs.Prelude.{All, Some, take}
use Rattle.std.proofs.lemmas.List.{length-map, map-append, take_more, get_or_default}
use Rattle.std.proofs.lemmas.List.Elements.{All-nil, All-push}
use native.Mathlib.Decide.{dec_le}
use Rattle.version_cell.specs.Histories.{StartsWith, longer}
use Rattle.version_cell.specs.Terms.{IsEntry, IsSole}
use Rattle.version_cell.specs.Known.{Known}
use Rattle.version_cell.specs.Cells.{CellData, terms_of}
use Rattle.version_cell.specs.Passes.{SeesLawful, Adds, Joins, new_pass}
use Rattle.version_cell.specs.Sets.{ArePassesOf, cell_at, no_cell, new_passes, pass_at}
use Rattle.version_cell.proofs.Each.{new_at}
use Rattle.dataset_meta.specs.Metas.{MetaData, no_meta}
use Rattle.row_words.specs.Shapes.{shape_of}
use Rattle.version_cell.specs.declared.rule.Entry.{Entry}
use Rattle.version_cell.proofs.Logs.{longer_left, longer_right, whole}
use Rattle.version_cell.proofs.Sole.{sole_sees_nothing}
use Rattle.target_cells.specs.Keeping.{TargetsData, IsKeeper, AreKeepers, AreKept, IsLevel, keeper_quotas, metas_of}

-- the keeper after its store
pub still_keeper : (old new : Known) (row : List ℕ) → IsKeeper old → Adds old new row → SeesLawful new → IsKeeper new
still_keeper old new row keeper adds lawful = record {
  author = adds.author ∙ keeper.author;
  sole = subst IsSole (sym adds.terms) keeper.sole;
  lawful = lawful;
}

-- the keeper takes in a pass and is as before
pub keeper_same : (old other new : Known) → IsKeeper old → Joins old other new → SeesLawful new → new ≡ old
keeper_same old other new keeper j lawful =
    let more = j.more in
    let same = sole_sees_nothing old new more keeper.author keeper.lawful lawful keeper.sole in
    λ i. record { cell = more.cell i; terms = more.terms i; seen = same i; author = more.author i }

longest : (seen stored : List Entry) → StartsWith stored seen → longer seen stored ≡ stored
longest seen stored starts = go (dec_le (length stored) (length seen))
  where
    go : Dec (length stored ≤ length seen) → longer seen stored ≡ stored
    go (yes le) = longer_left seen stored le ∙ sym (whole stored seen starts le)
    go (no lt) = longer_right seen stored (omega arith)

-- a pass that takes in the keeper sees what the keeper has stored
pub levelled : (keeper pass other new : Known) → StartsWith keeper.seen pass.seen → other.seen ≡ keeper.seen → Joins pass other new → IsLevel keeper pass new
levelled keeper pass other new starts same j = record {
  more = j.more;
  seen = j.longer_is ∙ ap (longer pass.seen) same ∙ longest pass.seen keeper.seen starts;
}

-- nobody but number 0 has a quota
sole_new : (limit : ℕ) (shape : List ℕ) → IsSole (keeper_quotas limit ++ shape)
sole_new limit shape zero above small = absurd (omega arith)
sole_new limit shape (suc zero) above small = refl
sole_new limit shape (suc (suc zero)) above small = refl
sole_new limit shape (suc (suc (suc zero))) above small = refl
sole_new limit shape (suc (suc (suc (suc zero)))) above small = refl
sole_new limit shape (suc (suc (suc (suc (suc zero))))) above small = refl
sole_new limit shape (suc (suc (suc (suc (suc (suc zero)))))) above small = refl
sole_new limit shape (suc (suc (suc (suc (suc (suc (suc zero))))))) above small = refl
sole_new limit shape (suc (suc (suc (suc (suc (suc (suc (suc t)))))))) above small = absurd (omega arith)

-- the passes of the first numbers are the keeper's
pub new_keepers : (limit : ℕ) (cells : List CellData) → All (λ cell. cell.quotas ≡ keeper_quotas limit) cells → AreKeepers (new_passes cells (Some 0))
new_keepers limit cells quotas reader lt =
    let within : reader < length cells = (let n = length-map cells (λ (cell : CellData). new_pass cell (Some 0)) in omega (arith, n, lt)) in
    let is = new_at cells (Some 0) reader within in
    let cell = cell_at cells reader in
    let q = quotas reader no_cell within in
    subst IsKeeper (sym is) (record {
      author = refl;
      sole = subst (λ (qs : List ℕ). IsSole (terms_of qs cell.meta)) (sym q) (sole_new limit (shape_of cell.meta));
      lawful = record { entries = All-nil (IsEntry 8 (terms_of cell.quotas cell.meta)); within = λ t small. zero-le };
    })

-- the passes of the cells know that the keeper is the only author
pub kept_sole : (targets : TargetsData) (passes : List Known) (reader : ℕ) → AreKept targets → ArePassesOf targets.cells passes → reader < length targets.cells → IsSole (pass_at passes reader).terms
kept_sole targets passes reader kept own lt =
    let cell = cell_at targets.cells reader in
    let q : cell.quotas ≡ keeper_quotas targets.limit = kept reader no_cell lt in
    subst IsSole (sym ((own.each reader lt).terms ∙ ap (λ (qs : List ℕ). terms_of qs cell.meta) q)) (sole_new targets.limit (shape_of cell.meta))

-- what holds of each cell holds of one more
pub each_push : (P : CellData → Type 0) (cells more : List CellData) (cell : CellData) → more ≡ cells ++ cell ∷ [] → All P cells → P cell → All P more
each_push P cells more cell e all here = subst (λ (l : List CellData). All P l) (sym e) (All-push P cells cell all here)

-- the meta of one reader more
pub metas_push : (metas : List MetaData) (readers : List ℕ) (k set d : ℕ) (meta : MetaData) (cells more : List CellData) (cell : CellData) → more ≡ cells ++ cell ∷ []
    → map (λ (c : CellData). c.meta) cells ≡ metas_of metas (take k readers) → cell.meta ≡ meta → meta ≡ get_or metas set meta → k < length readers → set ≡ get_or readers k d → set < length metas
    → map (λ (c : CellData). c.meta) more ≡ metas_of metas (take (k + 1) readers)
metas_push metas readers k set d meta cells more cell e h same is lt at small =
    let f : ℕ → MetaData = λ s. get_or metas s no_meta in
    let here : cell.meta ≡ f set = same ∙ is ∙ sym (get_or_default metas set no_meta meta small) in
    ap (map (λ (c : CellData). c.meta)) e ∙ map-append (λ (c : CellData). c.meta) cells (cell ∷ []) ∙ (λ i. h i ++ here i ∷ [])
    ∙ sym (ap (map f) (take_more readers k d lt ∙ ap (λ (s : ℕ). take k readers ++ s ∷ []) (sym at)) ∙ map-append f (take k readers) (set ∷ []))
