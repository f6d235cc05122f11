use Rattle.std.proofs.Common.{◌≡◌, ◌<◌, ℕ, length, ap, sym, ◌∙◌, subst, arith, get_or}
use Rattle.std.specs.Prelude.{IfSome, ◌||◌}
use Rattle.ps_config.specs.declared.parts.GroupPart.{GroupPart}
use Rattle.pubsub_states.specs.declared.component.Component.TheVariants.{Group}
use Rattle.pubsub_states.specs.Components.{IsAmong, Counts, id_of}
use Rattle.writer_group.specs.Parts.{group_at}
use Rattle.session_parts.specs.declared.sends.GroupSends.{GroupSends}
use Rattle.session_parts.specs.Ticking.{is_spent_by}
use Rattle.session_parts.proofs.Few.{group-among, key-there}
use Rattle.session_parts.proofs.Telling.{tells-none, tells-more, tells-all}
use Rattle.session_parts.proofs.publisher.Publisher.tell.Goals as goal

pub loop-g-init : goal.loop-g-init
loop-g-init c = tells-none c.args.config.now c.args.self.now c.args.tree.now

pub id-id-requires : goal.id-id-requires
id-id-requires c =
    let low : c.loop-g.g < length c.args.config.now.group = omega (arith, c.loop-g-test.true, c.len-g-end.ensures, c.args.self.now.groups.ok.0, c.requires.holds.groups.count) in
    subst (λ (k : Counts). IsAmong k (Group c.loop-g.g)) (sym c.components.ensures)
    (group-among c.args.config.now c.loop-g.tree.counts c.loop-g.g (c.loop-g.invariant.counts ∙ c.requires.tree) low)

pub has_fault-requires-clause-keyed : goal.has_fault-requires-clause-keyed
has_fault-requires-clause-keyed c =
    let low : c.loop-g.g < length c.args.config.now.group = omega (arith, c.loop-g-test.true, c.len-g-end.ensures, c.args.self.now.groups.ok.0, c.requires.holds.groups.count) in
    subst (λ (p : GroupPart). IfSome p.keygroup (λ k. k < length c.args.self.now.senders.items)) (sym c.group_part.ensures)
    (subst (λ (n : ℕ). IfSome (group_at c.args.config.now c.loop-g.g).keygroup (λ k. k < n)) (sym c.requires.holds.senders.count) (key-there c.args.config.now c.loop-g.g c.requires.good low))

pub loop-g-preserved : goal.loop-g-preserved
loop-g-preserved c =
    let low : c.loop-g.g < length c.args.config.now.group = omega (arith, c.loop-g-test.true, c.len-g-end.ensures, c.args.self.now.groups.ok.0, c.requires.holds.groups.count) in
    tells-more c.ids_are_places_in_order.ensures.place c.args.config.now c.args.self.now c.loop-g.g c.args.tree.now c.loop-g.tree c.fault.new.self c.id-id.result c.has_fault.result
    c.requires.tree low
    (c.id-id.ensures.id ∙ ap (λ (k : Counts). id_of k (Group c.loop-g.g)) c.components.ensures)
    (λ (d : GroupSends). c.has_fault.ensures d
    ∙ ap (λ (p : GroupPart). (get_or c.args.self.now.sends.items c.loop-g.g d).is_failing || is_spent_by c.args.self.now.senders.items p.keygroup) c.group_part.ensures)
    c.fault.ensures c.loop-g.invariant

pub returns-clause-faults : goal.returns-clause-faults
returns-clause-faults c =
    let all : c.loop-g.g ≡ length c.args.config.now.group
    = omega (arith, c.loop-g-test.false, c.loop-g.auto.g-end, c.len-g-end.ensures, c.args.self.now.groups.ok.0, c.requires.holds.groups.count) in
    tells-all c.args.config.now c.args.self.now c.loop-g.g c.args.tree.now c.loop-g.tree all c.loop-g.invariant
