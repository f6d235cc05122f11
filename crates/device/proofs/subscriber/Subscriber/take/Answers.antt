use Rattle.std.proofs.Common.{◌<◌, length, arith, ◌∙◌}
use Rattle.std.specs.Prelude.{Some}
use Rattle.std.proofs.lemmas.List.{length-set}
use Rattle.device.proofs.Taking.{others-more, some-listening, taken-count, taken-more}
use Rattle.device.proofs.subscriber.Subscriber.take.Goals as goal

pub loop-g-preserved : goal.loop-g-preserved
loop-g-preserved c =
    let invariant = c.loop-g.invariant in
    let mid = c.loop-g.self in
    let g = c.loop-g.g in
    let new = c.take_one.new.self in
    let answer = Some c.take_one.result in
    let low : g < length mid.groups.items = omega (arith, c.loop-g-test.true, c.len-g-end.ensures, c.args.self.now.groups.ok.0, invariant.count) in
    record {
      subscriber = c.take_one.ensures.subscriber;
      count = taken-count g c.args.now c.args.bytes.now mid new answer c.take_one.ensures.taken (some-listening mid.groups.items g low) ∙ invariant.count;
      answers = length-set c.loop-g.answers g answer ∙ invariant.answers;
      taken = taken-more g c.args.now c.args.bytes.now c.loop-g.answers answer c.args.self.now mid new (omega (arith, low, invariant.subscriber.few, invariant.answers)) invariant.taken
          c.take_one.ensures.taken;
      others = others-more g c.loop-g.answers answer invariant.others;
    }
