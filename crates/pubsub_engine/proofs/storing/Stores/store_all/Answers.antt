use Rattle.std.proofs.Common.{◌≡◌, sym, ap, ◌∙◌, subst, arith, ℕ, ◌+◌, ◌<◌, length}
use Rattle.ps_config.specs.declared.parts.ReadGroupPart.{ReadGroupPart}
use Rattle.ps_config.specs.Sound.{readers}
use Rattle.reader_group.specs.Settings.{group_at}
use Rattle.pubsub_engine.specs.Storing.{HaveStoredOn, MayStoreFrom, first_reader}
use Rattle.pubsub_engine.proofs.Places.{few-readers, first-all, first-more, first-most}
use Rattle.pubsub_engine.proofs.Stored.{all-stored, cells-count, holds-left, joined-on}
use Rattle.pubsub_engine.proofs.storing.Stores.store_all.Goals as goal

pub overflow_add-first : goal.overflow_add-first
overflow_add-first g c =
    let config = c.args.config.now in
    let there : c.loop-r.r < length config.readgroup = omega (arith, c.loop-r-test.true, c.len-r-end.ensures, c.requires.holds.groups.count) in
    let parts : c.as_slice.result.now ≡ (group_at config c.loop-r.r).reader =
    c.as_slice.ensures ∙ ap (λ (group : ReadGroupPart). group.reader) c.read_group_part.ensures in
    let count : length c.as_slice.result.now ≡ length (group_at config c.loop-r.r).reader = ap length parts in
    omega (arith, count, c.loop-r.invariant.first, first-most config c.loop-r.r there, few-readers config c.requires.good)

pub loop-r-preserved : goal.loop-r-preserved
loop-r-preserved g c =
    let config = c.args.config.now in
    let groups = c.args.subscriber.now.groups.items in
    let there : c.loop-r.r < length config.readgroup = omega (arith, c.loop-r-test.true, c.len-r-end.ensures, c.requires.holds.groups.count) in
    let parts : c.as_slice.result.now ≡ (group_at config c.loop-r.r).reader =
    c.as_slice.ensures ∙ ap (λ (group : ReadGroupPart). group.reader) c.read_group_part.ensures in
    let count : length c.as_slice.result.now ≡ length (group_at config c.loop-r.r).reader = ap length parts in
    let more = first-more config c.loop-r.r there in
    let next : c.loop-r.first + length c.as_slice.result.now ≡ first_reader config (c.loop-r.r + 1) = omega (arith, count, c.loop-r.invariant.first, more) in
    record {
      first = next;
      may = subst (λ (n : ℕ). MayStoreFrom config c.args.targets.now n c.store_group.new.self) (sym next) c.store_group.ensures.may;
      on = subst (λ (n : ℕ). HaveStoredOn config groups 0 n c.args.self.now c.store_group.new.self) (sym next)
          (joined-on config groups 0 c.loop-r.first (first_reader config (c.loop-r.r + 1)) c.args.self.now c.loop-r.self c.store_group.new.self (omega arith)
          (omega (arith, c.loop-r.invariant.first, more)) c.loop-r.invariant.on c.store_group.ensures.stored);
    }

pub returns : goal.returns
returns g c =
    let config = c.args.config.now in
    let groups = c.args.subscriber.now.groups.items in
    let last : c.loop-r.r ≡ length config.readgroup = omega (arith, c.loop-r-test.false, c.loop-r.auto.r-end, c.len-r-end.ensures, c.requires.holds.groups.count) in
    let all : c.loop-r.first ≡ length (readers config) = c.loop-r.invariant.first ∙ ap (first_reader config) last ∙ first-all config in
    let done : MayStoreFrom config c.args.targets.now (length (readers config)) c.loop-r.self =
    subst (λ (n : ℕ). MayStoreFrom config c.args.targets.now n c.loop-r.self) all c.loop-r.invariant.may in
    let on : HaveStoredOn config groups 0 (length (readers config)) c.args.self.now c.loop-r.self =
    subst (λ (n : ℕ). HaveStoredOn config groups 0 n c.args.self.now c.loop-r.self) all c.loop-r.invariant.on in
    record {
      own = done.own;
      left = λ limit left holds. holds-left config c.args.targets.now groups limit left c.args.self.now c.loop-r.self c.requires.may done on holds;
      adds = λ reader low. on.adds reader (omega arith) (omega (arith, low, done.own.count, c.requires.may.own.count, cells-count config c.args.targets.now.cells c.requires.may.metas));
      stored = λ readings list read is. all-stored config groups c.args.self.now c.loop-r.self readings list on read is;
    }
