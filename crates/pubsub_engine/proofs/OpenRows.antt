-- The opening rows belong to every data set.
use Rattle.std.proofs.Common.{◌≡◌, arith, ℕ, zero, suc, List, [], ◌∷◌, length, All}
use Rattle.std.specs.Prelude.{replicate}
use Rattle.std.proofs.lemmas.List.Elements.{All-head, All-tail}
use Rattle.dataset_meta.specs.Metas.{MetaData, IsMeta}
use Rattle.row_words.specs.Belonging.{Belongs}
use Rattle.writer_group.specs.declared.sampled.Sampled.{Sampled}
use Rattle.session_model.specs.Sets.{AreRowsOf}

pub rows-alike : (full : List MetaData) (n : ℕ) (sampled : Sampled) → ((meta : MetaData) → IsMeta meta.fields → Belongs meta sampled.row.words) → length full ≡ n
    → All (λ meta. IsMeta meta.fields) full → AreRowsOf full (replicate n sampled)
rows-alike [] zero sampled belongs count are = tt
rows-alike [] (suc n) sampled belongs count are = absurd (omega (arith, count))
rows-alike (meta ∷ full) zero sampled belongs count are = absurd (omega (arith, count))
rows-alike (meta ∷ full) (suc n) sampled belongs count are = (
  belongs meta (All-head (λ (m : MetaData). IsMeta m.fields) meta full are),
  rows-alike full n sampled belongs (omega (arith, count)) (All-tail (λ (m : MetaData). IsMeta m.fields) meta full are),
)
