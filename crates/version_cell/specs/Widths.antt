-- A cell keeps the first of the 151 words that spell a history; behind those all words are 0.
use Rattle.std.specs.Prelude.{◌≡◌, ℕ, ◌-◌, if◌then◌else◌, List, ◌++◌, take, replicate}
use Rattle.atomic_table.specs.Seated.{TableId}
use Rattle.dataset_meta.specs.Metas.{MetaData, value_words, words_of}

-- the 151 words for which so many stand
abbrev pub widened : ℕ → List ℕ → List ℕ
widened count words = words ++ replicate (151 - count) 0

-- the first of the words stand for all
abbrev pub Stands : ℕ → List ℕ → Type 0
Stands count words = words ≡ widened count (take count words)

-- and so do those that a table of this name keeps, which has one word more
abbrev pub StandsIn : TableId → List ℕ → Type 0
StandsIn table words = Stands (table.words - 1) words

-- the words of a row that aren't always 0
abbrev pub row_width : MetaData → ℕ
row_width meta = if meta.quality then words_of meta.fields else value_words meta.fields
