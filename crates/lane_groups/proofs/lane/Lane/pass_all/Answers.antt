use Rattle.std.proofs.Common.{◌≡◌, ◌<◌, ℕ, length, refl, subst, arith}
use Rattle.std.proofs.lemmas.List.{get_or_read}
use Rattle.lane_groups.specs.Passing.{HavePassed}
use Rattle.lane_groups.proofs.LaneTurns.{may-pass, passed-none, passed-one}
use Rattle.lane_groups.proofs.lane.Lane.pass_all.Goals as goal

pub loop-g-init : goal.loop-g-init
loop-g-init c = record { keygroup = refl; passed = passed-none c.args.told.now c.args.self.now.keygroup c.args.self.now.places.items c.args.self.now.sender c.requires.are }

pub pass-requires : goal.pass-requires
pass-requires c =
    let mid = c.loop-g.self.places.items in
    let low : c.loop-g.g < length c.args.told.now.config.now.group = omega (arith, c.loop-g-test.true, c.len-g-end.ensures, c.args.self.now.places.ok.0, c.requires.are.count) in
    let there : c.loop-g.g < length mid = omega (arith, low, c.loop-g.invariant.passed.are.count) in
    may-pass c.args.told.now c.loop-g.g c.args.self.now.keygroup c.args.self.now.places.items mid c.args.self.now.sender c.loop-g.self.sender c.requires low c.loop-g.invariant.passed
    c.index_mut.result.now (λ d. get_or_read mid c.loop-g.g c.index_mut.result.now there c.index_mut.ensures.value d)

pub loop-g-preserved : goal.loop-g-preserved
loop-g-preserved c =
    let mid = c.loop-g.self.places.items in
    let low : c.loop-g.g < length c.args.told.now.config.now.group = omega (arith, c.loop-g-test.true, c.len-g-end.ensures, c.args.self.now.places.ok.0, c.requires.are.count) in
    let there : c.loop-g.g < length mid = omega (arith, low, c.loop-g.invariant.passed.are.count) in
    record {
      keygroup = c.loop-g.invariant.keygroup;
      passed = passed-one c.args.told.now c.loop-g.g c.args.self.now.keygroup c.args.self.now.places.items mid c.args.self.now.sender c.loop-g.self.sender c.requires low c.loop-g.invariant.passed
          c.index_mut.result.now c.pass.new.place (λ d. get_or_read mid c.loop-g.g c.index_mut.result.now there c.index_mut.ensures.value d) c.pass.new.sender c.pass.ensures;
    }

pub returns-clause-passed : goal.returns-clause-passed
returns-clause-passed c =
    let all : c.loop-g.g ≡ length c.args.told.now.config.now.group
    = omega (arith, c.loop-g-test.false, c.loop-g.auto.g-end, c.len-g-end.ensures, c.args.self.now.places.ok.0, c.requires.are.count) in
    subst (λ (n : ℕ). HavePassed c.args.told.now n c.args.self.now.keygroup c.args.self.now.places.items c.loop-g.self.places.items c.args.self.now.sender c.loop-g.self.sender) all c.loop-g.invariant.passed
