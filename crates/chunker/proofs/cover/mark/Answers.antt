use Rattle.std.proofs.Common.{◌≡◌, ◌∙◌, ap, ◌+◌, ◌-◌, ◌*◌, ◌/◌, ◌%◌, ◌||◌, arith}
use Rattle.chunker.specs.Cover.{has_offset, is_between}
use Rattle.chunker.proofs.CoverLaws.{whole_laid, between_joined}
use Rattle.chunker.proofs.cover.mark.Goals as goal

pub loop-block-preserved : goal.loop-block-preserved
loop-block-preserved c = λ x. whole_laid c.args.words.now c.loop-block.words c.args.first c.loop-block.block (omega arith) (omega arith) c.loop-block.invariant x

pub returns : goal.returns
returns c =
    λ x.
    let block = c.loop-block.block in
    let end = c.args.end in
    let from : 64 * ((end - 1) / 64) + 0 ≡ 64 * block = omega arith in
    let to : 64 * ((end - 1) / 64) + (end - 1) % 64 + 1 ≡ end = omega arith in
    c.mark_in_word-3.ensures x
    ∙ ap (λ n. is_between n (64 * ((end - 1) / 64) + (end - 1) % 64 + 1) x || has_offset c.loop-block.words x) from
    ∙ ap (λ n. is_between (64 * block) n x || has_offset c.loop-block.words x) to
    ∙ ap (λ t. is_between (64 * block) end x || t) (c.loop-block.invariant x)
    ∙ between_joined c.args.first (64 * block) end x (has_offset c.args.words.now x) (omega arith) (omega arith)
