use Rattle.std.proofs.Common.{◌≡◌, ℕ, rules, subst, arith}
use Rattle.device.specs.Restarts.{HaveNumbersBegun}
use Rattle.device.proofs.Begins.{numbers-more}
use Rattle.device.proofs.publisher.Publisher.begin_all.Goals as goal

pub loop-place-preserved : goal.loop-place-preserved
loop-place-preserved c = record {
  publisher = c.begin_place.ensures.publisher;
  begun = numbers-more c.loop-place.place _ c.args.state.now.words c.args.self.now c.loop-place.self c.begin_place.new.self (search rules) c.loop-place.invariant.begun c.begin_place.ensures.begun;
}

pub returns-clause-begun : goal.returns-clause-begun
returns-clause-begun c =
    let all : c.loop-place.place ≡ 64 = omega (arith, c.loop-place-test.false, c.loop-place.auto.place-end) in
    subst (λ (n : ℕ). HaveNumbersBegun n c.args.state.now.words c.args.self.now c.loop-place.self) all c.loop-place.invariant.begun
