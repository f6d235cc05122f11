-- A patch whose row is cleared.
use Rattle.std.proofs.Common.{◌≡◌, ℕ, ◌+◌, ◌≤◌, ◌-◌, List, ◌++◌, drop, replicate, ◌∙◌, ap, arith}
use Rattle.std.proofs.lemmas.List.{replicate-append-replicate}
use Rattle.dataset_meta.specs.declared.field.Field.{Field}
use Rattle.dataset_meta.specs.Metas.{IsMeta, MetaData}
use Rattle.dataset_meta.specs.Rows.{opening_row}
use Rattle.row_words.specs.Belonging.{Belongs, row_in}
use Rattle.row_words.specs.Patches.{IsPatchOf}
use Rattle.row_words.proofs.PatchLaws.{IsPatchOf-none}

-- zeros in front, and behind them those that were there
pub all_zeros : (count : ℕ) (front words : List ℕ) → count ≤ 125 → front ≡ replicate count 0 → drop count words ≡ replicate (125 - count) 0 → front ++ drop count words ≡ replicate 125 0
all_zeros count front words few zeros rest =
    let all : count + (125 - count) ≡ 125 = omega arith in
    ap (λ (ws : List ℕ). ws ++ drop count words) zeros
    ∙ ap (λ (ws : List ℕ). replicate count 0 ++ ws) rest
    ∙ replicate-append-replicate count (125 - count) 0
    ∙ ap (λ (n : ℕ). replicate n 0) all

-- that zeros are the words of the opening row
pub record AreRows : Type 0 where
  pub belongs : (meta : MetaData) (words : List ℕ) → IsMeta meta.fields → words ≡ replicate 125 0 → Belongs meta words
  pub row : (fields : List Field) (words : List ℕ) → IsMeta fields → words ≡ replicate 125 0 → row_in fields words ≡ opening_row fields

pub empty_patch : (meta : MetaData) (words : List ℕ) → AreRows → IsMeta meta.fields → words ≡ replicate 125 0
    → IsPatchOf meta (record { mask = 0; row = record { words = words } })
empty_patch meta words are is zeros = IsPatchOf-none meta (record { words = words }) (are.belongs meta words is zeros) (are.row meta.fields words is zeros)
