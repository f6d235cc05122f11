use Rattle.std.proofs.Common.{◌≤◌, List, length, map, refl, sym, ap, ◌∙◌, subst, arith}
use Rattle.std.specs.List.{range_with_len}
use Rattle.std.proofs.lemmas.List.{length-take}
use Rattle.std.proofs.lemmas.List.FromFn.{length-map-range_with_len}
use Rattle.ps_config.specs.declared.parts.ReadGroupPart.{ReadGroupPart}
use Rattle.ps_config.specs.declared.parts.ReaderPart.{ReaderPart}
use Rattle.pubsub_states.specs.declared.component.Component.TheVariants.{Reader}
use Rattle.pubsub_states.specs.Changes.{flags_in}
use Rattle.reader_group.specs.declared.group.ReaderGroup.{ReaderGroup}
use Rattle.session_parts.specs.Holding.{MayReceive}
use Rattle.session_parts.proofs.Giving.{given-holds, gives}
use Rattle.session_parts.proofs.TellingReaders.{few-readers, made-count}
use Rattle.session_parts.proofs.subscriber.Subscriber.give.Goals as goal

pub readers_on-on-requires-clause-few : goal.readers_on-on-requires-clause-few
readers_on-on-requires-clause-few c =
    subst (λ (l : List ReaderPart). length l ≤ 16) (sym (c.as_slice-count.ensures ∙ ap (λ (p : ReadGroupPart). p.reader) c.read_group_part.ensures))
    (few-readers c.args.config.now c.args.r c.requires.may.good c.requires.may.within)

pub slice_bounds-on-end : goal.slice_bounds-on-end
slice_bounds-on-end c =
    let n = length c.as_slice-count.result.now in
    omega (arith, length-take n c.readers_on-on.result, ap length c.readers_on-on.ensures, length-map-range_with_len (λ i. (flags_in c.args.tree.now (Reader c.args.r i)).enabled) 0 n)

pub slice_bounds-datagram-end : goal.slice_bounds-datagram-end
slice_bounds-datagram-end c =
    let n = length c.as_slice-count.result.now in
    sym (ap length c.readers_on-on.ensures ∙ length-map-range_with_len (λ i. (flags_in c.args.tree.now (Reader c.args.r i)).enabled) 0 n)

pub datagram-answer-requires-clause-on : goal.datagram-answer-requires-clause-on
datagram-answer-requires-clause-on c =
    let n = length c.as_slice-count.result.now in
    let x = c.index_mut.result.now in
    let may = subst (λ (g : ReaderGroup). MayReceive c.args.config.now c.args.r g) (sym c.index_mut.ensures.value) (c.requires.may.holds.groups.each c.args.r c.requires.may.within x) in
    ap length c.readers_on-on.ensures ∙ length-map-range_with_len (λ i. (flags_in c.args.tree.now (Reader c.args.r i)).enabled) 0 n
    ∙ ap (λ (l : List ReaderPart). length l) (c.as_slice-count.ensures ∙ ap (λ (p : ReadGroupPart). p.reader) c.read_group_part.ensures)
    ∙ sym (made-count c.args.config.now c.args.r x may.made may.index)

pub returns-clause-holds : goal.returns-clause-holds
returns-clause-holds c =
    given-holds c.args.config.now c.args.r c.args.self.now _ c.index_mut.result.now c.datagram-answer.new.self refl refl c.requires.may.within c.requires.may.holds c.index_mut.ensures.value
    c.datagram-answer.ensures.index c.datagram-answer.ensures.made

pub returns-clause-hands : goal.returns-clause-hands
returns-clause-hands c =
    gives c.args.config.now c.args.tree.now c.args.moment c.args.r c.args.datagram.now _ c.args.self.now _ c.index_mut.result.now c.datagram-answer.new.self c.index_mut-2.result.now c.note.new.self
    c.datagram-answer.result refl refl c.requires.may.within c.requires.may.holds (omega (arith, c.args.self.now.tallies.ok.0)) c.index_mut.ensures.value c.index_mut-2.ensures.value
    (c.readers_on-on.ensures ∙ ap (λ (l : List ReaderPart). map (λ i. (flags_in c.args.tree.now (Reader c.args.r i)).enabled) (range_with_len 0 (length l)))
    (c.as_slice-count.ensures ∙ ap (λ (p : ReadGroupPart). p.reader) c.read_group_part.ensures))
    c.requires.receives c.datagram-answer.ensures.step c.datagram-answer.ensures.answer c.note.ensures
