-- The opening rows, one for each data set.
use Rattle.std.proofs.Common.{◌≡◌, refl, ap, ◌∙◌, arith, ℕ, zero, suc, List, [], ◌∷◌, length, map}
use Rattle.std.specs.Prelude.{All, replicate}
use Rattle.std.proofs.lemmas.List.Elements.{All-head, All-tail}
use Rattle.dataset_meta.specs.Metas.{MetaData, IsMeta}
use Rattle.row_words.specs.Belonging.{Belongs}
use Rattle.writer_group.specs.declared.sampled.Sampled.{Sampled}
use Rattle.session_model.specs.Sets.{AreRowsOf}
use Rattle.gateway_core.specs.Lived.{opening_sample}

pub alike : (sources : List ℕ) (n : ℕ) (sampled : Sampled) → sampled ≡ opening_sample → n ≡ length sources → replicate n sampled ≡ map (λ source. opening_sample) sources
alike [] zero sampled is count = refl
alike [] (suc n) sampled is count = absurd (omega (arith, count))
alike (source ∷ sources) zero sampled is count = absurd (omega (arith, count))
alike (source ∷ sources) (suc n) sampled is count =
    ap (λ (s : Sampled). s ∷ replicate n sampled) is ∙ ap (λ (l : List Sampled). opening_sample ∷ l) (alike sources n sampled is (omega (arith, count)))

-- they belong to every data set
pub rows-alike : (metas : List MetaData) (n : ℕ) (sampled : Sampled) → ((meta : MetaData) → IsMeta meta.fields → Belongs meta sampled.row.words) → length metas ≡ n
    → All (λ meta. IsMeta meta.fields) metas → AreRowsOf metas (replicate n sampled)
rows-alike [] zero sampled belongs count are = tt
rows-alike [] (suc n) sampled belongs count are = absurd (omega (arith, count))
rows-alike (meta ∷ metas) zero sampled belongs count are = absurd (omega (arith, count))
rows-alike (meta ∷ metas) (suc n) sampled belongs count are = (
  belongs meta (All-head (λ (m : MetaData). IsMeta m.fields) meta metas are),
  rows-alike metas n sampled belongs (omega (arith, count)) (All-tail (λ (m : MetaData). IsMeta m.fields) meta metas are),
)
