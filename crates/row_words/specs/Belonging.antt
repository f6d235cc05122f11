-- Rows in 125 words: the words of the values one after another, behind them the statuses, two to a word, and zeros behind those.
use Rattle.std.specs.Prelude.{◌≡◌, ℕ, ◌-◌, ◌^◌, List, [], ◌∷◌, ◌++◌, length, map, take, drop, replicate, slice_index}
use Rattle.std.specs.List.{flat_map}
use Rattle.dataset_meta.specs.declared.field.Field.{Field}
use Rattle.dataset_meta.specs.Fields.{width_of}
use Rattle.dataset_meta.specs.DataValues.{DataValue}
use Rattle.dataset_meta.specs.Metas.{MetaData, value_words, status_words}
use Rattle.dataset_meta.specs.Rows.{IsRow, row_cut}
use Rattle.row_words.specs.Digits.{digits_of, grouped}
use Rattle.row_words.specs.Words.{spelled_value, value_in}

-- the words of the values
abbrev pub spelled_values : List Field → List DataValue → List ℕ
spelled_values [] row = []
spelled_values (field ∷ fields) [] = []
spelled_values (field ∷ fields) (x ∷ row) =
    spelled_value field.cap x.value ++ spelled_values fields row

-- those of the statuses, of 32 bits each, the first lowest
unfoldable pub spelled_statuses : List Field → List DataValue → List ℕ
spelled_statuses fields row = grouped (2 ^ 32) 2 (status_words fields) (map (λ x. x.status) row)

abbrev pub spelled_parts : List Field → List DataValue → List ℕ
spelled_parts fields row = spelled_values fields row ++ spelled_statuses fields row

-- the words of a row
unfoldable pub spelled_row : List Field → List DataValue → List ℕ
spelled_row fields row =
    spelled_parts fields row ++ replicate (125 - length (spelled_parts fields row)) 0

-- the statuses in words, two in each
unfoldable pub statuses_in : List ℕ → List ℕ
statuses_in words = flat_map (digits_of (2 ^ 32) 2) words

-- the row whose values have these words, and whose statuses are these
abbrev pub row_with : List Field → List ℕ → List ℕ → List DataValue
row_with [] words statuses = []
row_with (field ∷ fields) words statuses =
    record {
      value = value_in field.kind (take (width_of field) words);
      status = slice_index statuses 0;
    }
    ∷ row_with fields (drop (width_of field) words) (drop 1 statuses)

-- the row that words stand for
unfoldable pub row_in : List Field → List ℕ → List DataValue
row_in fields words = row_with fields words (statuses_in (drop (value_words fields) words))

-- the words are those of a row of this meta
pub record Belongs (meta : MetaData) (words : List ℕ) : Type 0 where
  pub whole : length words ≡ 125
  pub row : IsRow meta (row_in meta.fields words)
  pub spelled : words ≡ spelled_row meta.fields (row_in meta.fields words)

-- the words of a row that is cut to the fields of a shorter meta
unfoldable pub cut_words : MetaData → MetaData → List ℕ → List ℕ
cut_words short full words = spelled_row short.fields (row_cut short (row_in full.fields words))
