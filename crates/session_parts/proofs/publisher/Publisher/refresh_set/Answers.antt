use Rattle.std.proofs.Common.{◌≡◌, ◌<◌, ◌≤◌, ℕ, length, ap, sym, subst, arith}
use Rattle.std.specs.Vec.{with_item}
use Rattle.ps_config.specs.declared.parts.GroupPart.{GroupPart}
use Rattle.session_parts.specs.declared.publisher.Publisher.{Publisher}
use Rattle.session_parts.proofs.Each.{EachTo, each-more}
use Rattle.session_parts.proofs.Few.{few-writers}
use Rattle.session_parts.proofs.Logging.{each-logged}
use Rattle.session_parts.proofs.RefreshingSets.{RefreshesSetOf, RefreshesSetAt, all-groups, all-past, all-go-on}
use Rattle.session_parts.proofs.publisher.Publisher.refresh_set.Goals as goal

pub refresh_set-requires-clause-few : goal.refresh_set-requires-clause-few
refresh_set-requires-clause-few c =
    let low : c.loop-g.g < length c.args.config.now.group
    = omega (arith, c.loop-g-test.true, c.len-g-end.ensures, c.requires.groups.count, c.args.self.now.groups.ok.0) in
    subst (λ (p : GroupPart). length p.writer ≤ 16) (sym c.group_part.ensures) (few-writers c.args.config.now c.loop-g.g c.requires.good low)

pub loop-g-preserved : goal.loop-g-preserved
loop-g-preserved c =
    let e = c.refresh_set.ensures in
    let x = c.index_mut.result.now in
    let mid = c.loop-g.self.groups.items in
    let low : c.loop-g.g < length mid
    = omega (arith, c.loop-g-test.true, c.len-g-end.ensures, c.args.self.now.groups.ok.0, c.loop-g.invariant.each.count) in
    record {
      each = each-more (RefreshesSetAt c.args.config.now c.args.set) c.loop-g.g c.args.self.now.groups.items mid x c.refresh_set.new.group low c.index_mut.ensures.value
          (subst (λ (p : GroupPart). RefreshesSetOf p c.args.set x c.refresh_set.new.group) c.group_part.ensures
          (record { index = e.index; made = e.made; stands = e.stands; goes_on = e.goes_on; logs = e.logs }))
          c.loop-g.invariant.each;
      rest = ap (λ (p : Publisher). record p { groups = with_item c.loop-g.self.groups c.loop-g.g c.refresh_set.new.group }) c.loop-g.invariant.rest;
    }

pub returns-clause-groups : goal.returns-clause-groups
returns-clause-groups c =
    let old = c.args.self.now.groups.items in
    let all : c.loop-g.g ≡ length old = omega (arith, c.loop-g-test.false, c.loop-g.auto.g-end, c.len-g-end.ensures, c.args.self.now.groups.ok.0) in
    all-groups c.args.config.now c.args.set old c.loop-g.self.groups.items c.requires.groups
    (subst (λ (n : ℕ). EachTo (RefreshesSetAt c.args.config.now c.args.set) n old c.loop-g.self.groups.items) all c.loop-g.invariant.each)

pub returns-clause-past : goal.returns-clause-past
returns-clause-past c =
    let old = c.args.self.now.groups.items in
    let all : c.loop-g.g ≡ length old = omega (arith, c.loop-g-test.false, c.loop-g.auto.g-end, c.len-g-end.ensures, c.args.self.now.groups.ok.0) in
    all-past c.args.config.now c.args.set old c.loop-g.self.groups.items c.requires.groups
    (subst (λ (n : ℕ). EachTo (RefreshesSetAt c.args.config.now c.args.set) n old c.loop-g.self.groups.items) all c.loop-g.invariant.each)

pub returns-clause-goes_on : goal.returns-clause-goes_on
returns-clause-goes_on c =
    let old = c.args.self.now.groups.items in
    let all : c.loop-g.g ≡ length old = omega (arith, c.loop-g-test.false, c.loop-g.auto.g-end, c.len-g-end.ensures, c.args.self.now.groups.ok.0) in
    all-go-on c.args.config.now c.args.set old c.loop-g.self.groups.items c.requires.groups
    (subst (λ (n : ℕ). EachTo (RefreshesSetAt c.args.config.now c.args.set) n old c.loop-g.self.groups.items) all c.loop-g.invariant.each)

pub returns-clause-logs : goal.returns-clause-logs
returns-clause-logs c =
    let old = c.args.self.now.groups.items in
    let all : c.loop-g.g ≡ length old = omega (arith, c.loop-g-test.false, c.loop-g.auto.g-end, c.len-g-end.ensures, c.args.self.now.groups.ok.0) in
    each-logged (RefreshesSetAt c.args.config.now c.args.set) (λ g x y does. does.logs) old c.loop-g.self.groups.items
    (subst (λ (n : ℕ). EachTo (RefreshesSetAt c.args.config.now c.args.set) n old c.loop-g.self.groups.items) all c.loop-g.invariant.each)
