use Rattle.std.proofs.Common.{◌*◌, ◌<◌, ℕ, List, ap, length, arith, ◌∙◌}
use Rattle.std.proofs.lemmas.List.{length-set}
use Rattle.std.proofs.lemmas.Slice.{between_to_end}
use Rattle.byteorder.specs.Endian.{little_number}
use Rattle.stored_state.proofs.Words.{read-all, read-more}
use Rattle.stored_state.proofs.reading.words_in.Goals as goal

pub loop-i-preserved : goal.loop-i-preserved
loop-i-preserved c =
    let count = c.loop-i.invariant.count in
    let low : c.loop-i.i < length c.loop-i.words = omega (arith, count, c.loop-i-test.true) in
    record {
      count = length-set c.loop-i.words c.loop-i.i c.read_u32.result ∙ count;
      each = read-more c.loop-i.words c.args.bytes.now c.loop-i.i c.read_u32.result low (c.read_u32.ensures ∙ ap (λ (l : List ℕ). little_number 4 l) (between_to_end c.args.bytes.now (4 * c.loop-i.i) (length c.args.bytes.now) (omega arith))) c.loop-i.invariant.each;
    }

pub returns : goal.returns
returns c = read-all c.loop-i.words c.args.bytes.now c.loop-i.i c.loop-i.invariant.count (omega (arith, c.loop-i-test.false)) c.loop-i.invariant.each
