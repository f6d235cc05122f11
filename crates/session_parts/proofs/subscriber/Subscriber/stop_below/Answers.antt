use Rattle.std.proofs.Common.{◌≡◌, ◌<◌, ◌≤◌, ℕ, List, length, ap, sym, ◌∙◌, subst, arith, get_or}
use Rattle.std.specs.Vec.{with_item}
use Rattle.ps_config.specs.declared.parts.ReadGroupPart.{ReadGroupPart}
use Rattle.reader_group.specs.declared.group.ReaderGroup.{ReaderGroup}
use Rattle.reader_group.specs.Groups.{reader_count}
use Rattle.session_parts.specs.declared.subscriber.Subscriber.{Subscriber}
use Rattle.ps_config.specs.declared.parts.Config.{Config}
use Rattle.pubsub_states.specs.declared.component.Component.{Component}
use Rattle.session_parts.specs.Holding.{AreReadGroups, MayReceive}
use Rattle.session_parts.proofs.Each.{EachTo, each-more}
use Rattle.session_parts.proofs.Stopping.{StopsAt, stopped-hold, stopped-read}
use Rattle.session_parts.proofs.TellingReaders.{few-readers, made-count}
use Rattle.session_parts.proofs.subscriber.Subscriber.stop_below.Goals as goal

pub stop_below-requires-clause-few : goal.stop_below-requires-clause-few
stop_below-requires-clause-few c =
    let low : c.loop-r.r < length c.args.config.now.readgroup = omega (arith, c.loop-r-test.true, c.len-r-end.ensures, c.args.self.now.groups.ok.0, c.requires.holds.groups.count) in
    subst (λ (p : ReadGroupPart). length p.reader ≤ 16) (sym c.read_group_part.ensures) (few-readers c.args.config.now c.loop-r.r c.requires.good low)

-- a read group that wasn't reached yet is as it was
still-may : (config : Config) (component : Component) (r : ℕ) (old mid : List ReaderGroup) (x : ReaderGroup) → AreReadGroups config old → r < length config.readgroup
    → x ≡ get_or mid r x → EachTo (StopsAt config component) r old mid → MayReceive config r x
still-may config component r old mid x are low read each =
    subst (λ (g : ReaderGroup). MayReceive config r g) (sym (read ∙ each.left r (omega arith) x)) (are.each r low x)

pub stop_below-requires-clause-made : goal.stop_below-requires-clause-made
stop_below-requires-clause-made c =
    let low : c.loop-r.r < length c.args.config.now.readgroup = omega (arith, c.loop-r-test.true, c.len-r-end.ensures, c.args.self.now.groups.ok.0, c.requires.holds.groups.count) in (
      c.args.config.now,
      (still-may c.args.config.now c.args.component c.loop-r.r c.args.self.now.groups.items c.loop-r.self.groups.items c.index_mut.result.now c.requires.holds.groups low c.index_mut.ensures.value c.loop-r.invariant.each).made,
    )

pub stop_below-requires-clause-count : goal.stop_below-requires-clause-count
stop_below-requires-clause-count c =
    let low : c.loop-r.r < length c.args.config.now.readgroup = omega (arith, c.loop-r-test.true, c.len-r-end.ensures, c.args.self.now.groups.ok.0, c.requires.holds.groups.count) in
    let may = still-may c.args.config.now c.args.component c.loop-r.r c.args.self.now.groups.items c.loop-r.self.groups.items c.index_mut.result.now c.requires.holds.groups low c.index_mut.ensures.value c.loop-r.invariant.each in
    subst (λ (p : ReadGroupPart). reader_count c.index_mut.result.now ≡ length p.reader) (sym c.read_group_part.ensures)
    (made-count c.args.config.now c.loop-r.r c.index_mut.result.now may.made may.index)

pub loop-r-preserved : goal.loop-r-preserved
loop-r-preserved c =
    let e = c.stop_below.ensures in
    let mid = c.loop-r.self.groups.items in
    let low : c.loop-r.r < length mid = omega (arith, c.loop-r-test.true, c.len-r-end.ensures, c.args.self.now.groups.ok.0, c.loop-r.invariant.each.count) in
    record {
      each = each-more (StopsAt c.args.config.now c.args.component) c.loop-r.r c.args.self.now.groups.items mid c.index_mut.result.now c.stop_below.new.group low c.index_mut.ensures.value
          (record { index = e.index; made = e.made; stands = λ setting value befell h. e.stands c.args.config.now setting value befell c.read_group_part.ensures h }) c.loop-r.invariant.each;
      rest = ap (λ (s : Subscriber). record s { groups = with_item c.loop-r.self.groups c.loop-r.r c.stop_below.new.group }) c.loop-r.invariant.rest;
    }

pub returns-clause-holds : goal.returns-clause-holds
returns-clause-holds c =
    let old = c.args.self.now in
    let all : c.loop-r.r ≡ length old.groups.items = omega (arith, c.loop-r-test.false, c.loop-r.auto.r-end, c.len-r-end.ensures, old.groups.ok.0) in
    stopped-hold c.args.config.now c.args.component old c.loop-r.self
    (subst (λ (n : ℕ). EachTo (StopsAt c.args.config.now c.args.component) n old.groups.items c.loop-r.self.groups.items) all c.loop-r.invariant.each)
    (ap (λ (s : Subscriber). s.tallies) c.loop-r.invariant.rest) c.requires.holds

pub returns-clause-read : goal.returns-clause-read
returns-clause-read c =
    let old = c.args.self.now in
    let all : c.loop-r.r ≡ length old.groups.items = omega (arith, c.loop-r-test.false, c.loop-r.auto.r-end, c.len-r-end.ensures, old.groups.ok.0) in
    stopped-read c.args.config.now c.args.component old c.loop-r.self
    (subst (λ (n : ℕ). EachTo (StopsAt c.args.config.now c.args.component) n old.groups.items c.loop-r.self.groups.items) all c.loop-r.invariant.each)
    c.requires.holds
