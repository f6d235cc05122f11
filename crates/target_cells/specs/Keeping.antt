-- The cells of readers, in each of which the keeper has number 0 and is the only author.
use Rattle.std.specs.Prelude.{◌≡◌, ℕ, ◌<◌, List, ◌∷◌, length, map, replicate, All, Some, slice_index_or}
use Rattle.dataset_meta.specs.Metas.{MetaData, no_meta}
use Rattle.version_cell.specs.Terms.{IsSole}
use Rattle.version_cell.specs.Known.{Known}
use Rattle.version_cell.specs.Cells.{CellData, IsCell}
use Rattle.version_cell.specs.Passes.{SeesMore, SeesLawful}
use Rattle.version_cell.specs.Sets.{pass_at}

-- the cells of the readers, and how many stores each may have
pub record TargetsData : Type 0 where
  pub cells : List CellData
  pub limit : ℕ

-- the meta of each reader's data set
abbrev pub metas_of : List MetaData → List ℕ → List MetaData
metas_of metas readers = map (λ set. slice_index_or metas set no_meta) readers

-- the keeper may make so many entries, and nobody else may make one
abbrev pub keeper_quotas : ℕ → List ℕ
keeper_quotas limit = limit ∷ replicate 7 0

-- in each cell the keeper is the only author
abbrev pub AreKept : TargetsData → Type 0
AreKept targets = All (λ cell. cell.quotas ≡ keeper_quotas targets.limit) targets.cells

-- each is a cell of a meta, and in each the keeper is the only author
pub record AreSound (targets : TargetsData) : Type 0 where
  pub cells : All IsCell targets.cells
  pub kept : AreKept targets

-- the passes have seen exactly what the keeper has, and what they had seen before is a beginning of it
pub record IsLevel (keeper old new : Known) : Type 0 where
  pub more : SeesMore old new
  pub seen : new.seen ≡ keeper.seen

abbrev pub AreLevel : List Known → List Known → List Known → Type 0
AreLevel keeper old new = (reader : ℕ) → reader < length old → IsLevel (pass_at keeper reader) (pass_at old reader) (pass_at new reader)

-- a pass with number 0 of a cell in which nobody else may make an entry
pub record IsKeeper (p : Known) : Type 0 where
  pub author : p.author ≡ Some 0
  pub sole : IsSole p.terms
  pub lawful : SeesLawful p

abbrev pub AreKeepers : List Known → Type 0
AreKeepers keeper = (reader : ℕ) → reader < length keeper → IsKeeper (pass_at keeper reader)
