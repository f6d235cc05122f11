use Rattle.std.proofs.Common.{◌≡◌, ◌<◌, ℕ, length, ap, sym, subst, arith}
use Rattle.pubsub_states.specs.Components.{Counts, IsAmong}
use Rattle.pubsub_states.specs.declared.component.Component.TheVariants.{Reader}
use Rattle.session_parts.specs.Pumping.{TellsGroup}
use Rattle.session_parts.proofs.TellingReaders.{group-none, group-more}
use Rattle.session_parts.proofs.subscriber.tell_readers.Goals as goal

pub loop-i-init : goal.loop-i-init
loop-i-init c = group-none c.args.group.now c.args.read_group c.args.tree.now

pub tell_reader-requires-clause-within : goal.tell_reader-requires-clause-within
tell_reader-requires-clause-within c = omega (arith, c.loop-i-test.true, ap length c.as_slice-i-end.ensures, c.requires.made)

pub tell_reader-requires-clause-there : goal.tell_reader-requires-clause-there
tell_reader-requires-clause-there c =
    subst (λ (k : Counts). IsAmong k (Reader c.args.read_group c.loop-i.i)) (sym c.loop-i.invariant.counts) (c.requires.there c.loop-i.i (omega (arith, c.loop-i-test.true, ap length c.as_slice-i-end.ensures)))

pub loop-i-preserved : goal.loop-i-preserved
loop-i-preserved c =
    let low : c.loop-i.i < length c.args.part.now.reader = omega (arith, c.loop-i-test.true, ap length c.as_slice-i-end.ensures) in
    group-more c.args.group.now c.args.read_group c.loop-i.i c.args.tree.now c.loop-i.tree c.tell_reader.new.tree (c.requires.there c.loop-i.i low)
    (λ i below. c.requires.there i (omega (arith, below, low))) c.tell_reader.ensures c.loop-i.invariant

pub returns : goal.returns
returns c =
    let all : c.loop-i.i ≡ length c.args.part.now.reader = omega (arith, c.loop-i-test.false, c.loop-i.auto.i-end, ap length c.as_slice-i-end.ensures) in
    subst (λ (n : ℕ). TellsGroup c.args.group.now c.args.read_group n c.args.tree.now c.loop-i.tree) all c.loop-i.invariant
