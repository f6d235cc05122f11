use Rattle.std.proofs.Common.{◌≡◌, ◌<◌, ◌/◌, arith, subst}
use Rattle.replay_window.proofs.MarksLemmas.{IsClearedTo, in_one_block, from_first_block, over_block, to_last_block}
use Rattle.replay_window.proofs.bits.clear.Goals as goal

pub returns-then-start-end : goal.returns-then-start-end
returns-then-start-end c =
    let word = c.clear_in_word.ensures in
    let all = in_one_block _ _ c.args.first c.args.last c.requires c.if-start-end.true
    (record { cleared = word.cleared; other_words = word.other_words; below = word.below; above = word.above }) in
    record { cleared = all.cleared; kept = all.kept }

pub loop-block-init : goal.loop-block-init
loop-block-init c =
    let word = c.clear_in_word-2.ensures in
    let apart : c.args.first / 64 < c.args.last / 64 = omega arith in
    from_first_block _ _ c.args.first c.args.last apart
    (record { cleared = word.cleared; other_words = word.other_words; below = word.below; above = word.above })

pub loop-block-preserved : goal.loop-block-preserved
loop-block-preserved c =
    over_block _ _ c.args.first c.args.last c.loop-block.block c.loop-block.invariant (omega arith) (omega arith) c.loop-block-test.true

pub returns : goal.returns
returns c =
    let word = c.clear_in_word-3.ensures in
    let apart : c.args.first / 64 < c.args.last / 64 = omega arith in
    let ended : c.loop-block.block ≡ c.args.last / 64 = omega arith in
    let before = subst (IsClearedTo c.args.words.now c.loop-block.words c.args.first c.args.last) ended c.loop-block.invariant in
    let all = to_last_block _ _ _ c.args.first c.args.last before apart
    (record { cleared = word.cleared; other_words = word.other_words; below = word.below; above = word.above }) in
    record { cleared = all.cleared; kept = all.kept }
