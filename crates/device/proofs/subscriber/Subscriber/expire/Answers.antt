use Rattle.std.proofs.Common.{◌<◌, ◌≤◌, length, refl, ◌∙◌, arith}
use Rattle.std.proofs.lemmas.List.{length-set}
use Rattle.std.proofs.lemmas.List.Elements.{All-set}
use Rattle.device.specs.Readings.{HasExpired}
use Rattle.device.specs.Sides.{IsListening}
use Rattle.device.proofs.Firsts.{first-all, first-more, first-none}
use Rattle.device.proofs.subscriber.Subscriber.expire.Goals as goal

pub loop-g-init : goal.loop-g-init
loop-g-init c = record {
  subscriber = c.requires;
  config = refl;
  count = refl;
  each = first-none (HasExpired c.args.now) c.args.self.now.groups.items;
}

pub loop-g-preserved : goal.loop-g-preserved
loop-g-preserved c =
    let invariant = c.loop-g.invariant in
    let subscriber = c.loop-g.self in
    let old = c.args.self.now.groups.items in
    let low : c.loop-g.g < length old = omega (arith, c.loop-g-test.true, c.len-g-end.ensures, c.args.self.now.groups.ok.0) in
    record {
      subscriber = record {
        good = invariant.subscriber.good;
        groups_are = All-set (IsListening subscriber.config) subscriber.groups.items c.loop-g.g c.expire.new.self c.expire.ensures.listening invariant.subscriber.groups_are;
        few = omega (arith, invariant.subscriber.few, length-set subscriber.groups.items c.loop-g.g c.expire.new.self);
        room = invariant.subscriber.room;
      };
      config = invariant.config;
      count = length-set subscriber.groups.items c.loop-g.g c.expire.new.self ∙ invariant.count;
      each = first-more (HasExpired c.args.now) c.loop-g.g old subscriber.groups.items c.index_mut.result.now c.expire.new.self low c.index_mut.ensures.value c.expire.ensures.expired
          invariant.each;
    }

pub returns-clause-expired : goal.returns-clause-expired
returns-clause-expired c =
    let old = c.args.self.now in
    let all : length old.groups.items ≤ c.loop-g.g = omega (arith, c.loop-g-test.false, c.len-g-end.ensures, old.groups.ok.0) in
    record {
      groups = first-all (HasExpired c.args.now) c.loop-g.g old.groups.items c.loop-g.self.groups.items all c.loop-g.invariant.each;
      config = c.loop-g.invariant.config;
    }
