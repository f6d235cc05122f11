use Rattle.std.proofs.Common.{◌≡◌, ◌<◌, List, length, refl, ◌∙◌, arith}
use Rattle.std.specs.Prelude.{All}
use Rattle.std.specs.List.{Contains}
use Rattle.device.specs.Coming.{Does, IsPassed, IsQuiet}
use Rattle.device.specs.declared.looking.Looked.{Looked}
use Rattle.device.specs.declared.looking.Looked.TheVariants.{Held}
use Rattle.device.proofs.Looks.{all-done, looked-stay, made-some, none-so-far, passed-so, so-far-looked}
use Rattle.device.proofs.publisher.Publisher.turn_due.Goals as goal

pub loop-g-init : goal.loop-g-init
loop-g-init c =
    let old = c.args.self.now in
    record {
      publisher = c.requires.publisher;
      none_waits = c.requires.none_waits;
      config = refl;
      rows = refl;
      store = refl;
      senders = refl;
      count = refl;
      far = none-so-far (Does old.config c.args.now old.rows.items old.senders.items) old.sides.items;
    }

pub returns-then-is_waiting-clause-came : goal.returns-then-is_waiting-clause-came
returns-then-is_waiting-clause-came c =
    let invariant = c.loop-g.invariant in
    let low : c.loop-g.g < length c.loop-g.self.sides.items = omega (arith, c.loop-g-test.true, c.len-g-end.ensures, c.args.self.now.sides.ok.0, invariant.count) in
    made-some c.args.now c.loop-g.g c.loop-g.held c.look_at-looked.result c.args.self.now c.loop-g.self c.look_at-looked.new.self low invariant.config invariant.rows invariant.senders invariant.none_waits
    invariant.far c.look_at-looked.ensures.looked c.if-is_waiting.ensures.there

pub returns-then-is_waiting-clause-config : goal.returns-then-is_waiting-clause-config
returns-then-is_waiting-clause-config c = c.look_at-looked.ensures.looked.config ∙ c.loop-g.invariant.config

pub returns-then-is_waiting-clause-rows : goal.returns-then-is_waiting-clause-rows
returns-then-is_waiting-clause-rows c = c.look_at-looked.ensures.looked.rows ∙ c.loop-g.invariant.rows

pub loop-g-preserved : goal.loop-g-preserved
loop-g-preserved c =
    let invariant = c.loop-g.invariant in
    let old = c.args.self.now in
    let looked = c.look_at-looked.ensures.looked in
    let passed = passed-so c.look_at-looked.result c.loop-g.self c.look_at-looked.new.self looked.counts c.if-is_waiting.ensures.not in
    let low : c.loop-g.g < length old.sides.items = omega (arith, c.loop-g-test.true, c.len-g-end.ensures, old.sides.ok.0) in
    let low_mid : c.loop-g.g < length c.loop-g.self.sides.items = omega (arith, low, invariant.count) in
    let far = so-far-looked c.args.now c.loop-g.g c.loop-g.held c.is_held.result c.either-held.result c.look_at-looked.result old c.loop-g.self c.look_at-looked.new.self low
    low_mid c.either-held.ensures c.is_held.ensures passed invariant.config invariant.rows invariant.senders looked invariant.far in
    record {
      publisher = c.look_at-looked.ensures.publisher;
      none_waits = c.if-is_waiting.ensures.not;
      config = looked.config ∙ invariant.config;
      rows = looked.rows ∙ invariant.rows;
      store = c.look_at-looked.ensures.store ∙ invariant.store;
      senders = looked-stay c.loop-g.g c.args.now c.look_at-looked.result c.loop-g.self c.look_at-looked.new.self low_mid passed looked ∙ invariant.senders;
      count = far.0 ∙ invariant.count;
      far = far.1;
    }

pub returns-then-held-clause-came : goal.returns-then-held-clause-came
returns-then-held-clause-came c =
    let invariant = c.loop-g.invariant in
    let old = c.args.self.now in
    let all : c.loop-g.g ≡ length old.sides.items = omega (arith, c.loop-g-test.false, c.loop-g.auto.g-end, c.len-g-end.ensures, old.sides.ok.0) in
    all-done c.args.now c.loop-g.held (λ (did : List Looked). All IsPassed did × Contains did Held) old c.loop-g.self c.loop-g.g all invariant.config invariant.rows invariant.senders invariant.none_waits invariant.far
    (invariant.far.passed, invariant.far.held_is c.if-held.true)

pub returns-else-held-clause-came : goal.returns-else-held-clause-came
returns-else-held-clause-came c =
    let invariant = c.loop-g.invariant in
    let old = c.args.self.now in
    let all : c.loop-g.g ≡ length old.sides.items = omega (arith, c.loop-g-test.false, c.loop-g.auto.g-end, c.len-g-end.ensures, old.sides.ok.0) in
    all-done c.args.now c.loop-g.held (λ (did : List Looked). All IsQuiet did) old c.loop-g.self c.loop-g.g all invariant.config invariant.rows invariant.senders invariant.none_waits invariant.far
    (invariant.far.quiet c.if-held.false)
