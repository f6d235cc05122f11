use Rattle.std.proofs.Common.{ap, arith, get_or, length, ℕ, ◌≡◌, ◌+◌, ◌<◌, ◌∙◌}
use Rattle.std.proofs.lemmas.List.{length_push}
use Rattle.reader_group.specs.Settings.{group_at as read_group_at}
use Rattle.session_model.specs.Closing.{MemberPlace}
use Rattle.session_parts.proofs.TellingReaders.{few-readers}
use Rattle.pubsub_engine.specs.LifeEnds.{IsToldBy, reader_in}
use Rattle.pubsub_engine.specs.Logs.{log_after, logs_told}
use Rattle.pubsub_engine.specs.Storing.{first_reader}
use Rattle.pubsub_engine.proofs.ByPlace.{reader-behind}
use Rattle.pubsub_engine.proofs.EndParts.{reader-told}
use Rattle.pubsub_engine.proofs.Places.{first-more}
use Rattle.pubsub_engine.proofs.PlacesInOrder.{pairs-more}
use Rattle.pubsub_engine.proofs.ends.push_reader_ends.Goals as goal

pub overflow_cast-reader : goal.overflow_cast-reader
overflow_cast-reader c =
    let config = c.args.config.now in
    let few = few-readers config c.args.read_group c.requires.readers.good c.requires.within in
    let own = ap (λ (r : ℕ). length (read_group_at config r).reader) c.from-r.ensures in
    omega (arith, few, own, ap length c.as_slice-i-end.ensures, ap (λ part. length part.reader) c.read_group_part.ensures)

pub loop-i-preserved : goal.loop-i-preserved
loop-i-preserved c =
    let config = c.args.config.now in
    let subscriber = c.args.subscriber.now in
    let r : ℕ = c.args.read_group in
    let i : ℕ = c.loop-i.i in
    let group = c.index.result.now in
    let end = c.reader_end.result in
    let own = ap (λ (q : ℕ). length (read_group_at config q).reader) c.from-r.ensures in
    let within : i < length (read_group_at config r).reader = omega (arith, own, ap length c.as_slice-i-end.ensures, ap (λ part. length part.reader) c.read_group_part.ensures) in
    let k : c.len.result ≡ first_reader config r + i = omega arith in
    let read = c.log_read-log.ensures.log (reader_in config (r, i)) (reader-behind config r i c.len.result c.requires.within within k) in
    let at = c.index.ensures ∙ ap (λ (q : ℕ). get_or subscriber.groups.items q group) c.from-r.ensures in
    let place : ℕ → MemberPlace = λ i. (r, i) in
    record {
      behind = omega (arith, ap length c.in_ok-push.ensures.items, length_push c.loop-i.ends.items end, c.loop-i.invariant.behind);
      told = λ most p steps a places published have pairs.
          pairs-more (IsToldBy (logs_told c.args.versions (log_after most p.config a.deeds)) p steps a) places place i c.loop-i.ends.items c.push.new.self.items end c.in_ok-push.ensures.items
          (reader-told c.args.versions config most p steps a c.args.tree.now c.args.publisher.now subscriber r i group c.reader.result.now c.log_read-log.result.now end
          c.requires.readers published have c.requires.within within at c.reader.ensures.kept c.reader.ensures.passed c.reader.ensures.made read
          (c.reader_end.ensures.state ∙ c.state_of-state.ensures) c.reader_end.ensures.shows c.reader_end.ensures.version)
          (c.loop-i.invariant.told most p steps a places published have pairs);
    }

pub returns-clause-behind : goal.returns-clause-behind
returns-clause-behind c =
    let config = c.args.config.now in
    let own = ap (λ (r : ℕ). length (read_group_at config r).reader) c.from-r.ensures in
    omega (arith, own, first-more config c.args.read_group c.requires.within, ap length c.as_slice-i-end.ensures, ap (λ part. length part.reader) c.read_group_part.ensures)
