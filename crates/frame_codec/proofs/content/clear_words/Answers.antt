use Rattle.std.proofs.Common.{◌≡◌, ℕ, ◌++◌, length, take, drop, sym, ap, ◌∙◌, subst, arith}
use Rattle.std.specs.Prelude.{replicate}
use Rattle.std.proofs.lemmas.List.{length-take-le}
use Rattle.dataset_meta.specs.Metas.{words_of}
use Rattle.row_words.specs.Belonging.{Belongs, row_in}
use Rattle.row_words.proofs.PatchLaws.{IsPatchOf-none, patch_in-none}
use Rattle.frame_codec.proofs.Clearing.{all-zero}
use Rattle.frame_codec.proofs.content.clear_words.Goals as goal

pub returns-clause-of : goal.returns-clause-of
returns-clause-of c =
    let meta = c.args.meta.now in
    let words = c.args.patch.now.row.words in
    let is_meta = c.fields.ensures.meta in
    let count : length (take c.words.result words) ≡ words_of meta.fields =
    omega (arith, length-take-le c.words.result words (omega (arith, c.words.ensures.narrow, c.requires.belongs.whole)), c.words.ensures.words) in
    let front : c.fill.new.self ≡ replicate (words_of meta.fields) 0 = c.fill.ensures.after (λ y is. is) ∙ ap (λ (n : ℕ). replicate n 0) count in
    let zeros : c.fill.new.self ++ drop c.words.result words ≡ c.opening-zeros.result.words =
    ap (λ (n : ℕ). c.fill.new.self ++ drop n words) c.words.ensures.words
    ∙ all-zero meta words c.fill.new.self is_meta c.requires.belongs front
    ∙ sym c.opening-zeros.ensures.zeros in
    IsPatchOf-none meta _ (subst (Belongs meta) (sym zeros) (c.opening-zeros.ensures.belongs meta is_meta)) (ap (row_in meta.fields) zeros ∙ c.opening-zeros.ensures.row meta.fields is_meta)

pub returns-clause-empty : goal.returns-clause-empty
returns-clause-empty c = patch_in-none c.args.meta.now.fields _
