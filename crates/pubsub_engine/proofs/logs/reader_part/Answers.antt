use Rattle.std.proofs.Common.{◌≡◌, ◌+◌, ◌-◌, ◌<◌, ◌≤◌, List, length, get_or, slice_get, sym, ap, ◌∙◌, subst}
use Rattle.ps_config.specs.declared.parts.ReadGroupPart.{ReadGroupPart}
use Rattle.ps_config.specs.declared.parts.ReaderPart.{ReaderPart}
use Rattle.ps_report.specs.Told.{grouped_readers}
use Rattle.pubsub_engine.proofs.Named.{reader-behind, reader-found, rest_readers}
use Rattle.pubsub_engine.proofs.logs.reader_part.Goals as goal

pub returns-then-left-readers : goal.returns-then-left-readers
returns-then-left-readers c =
    sym (reader-found c.args.config.now c.loop-group.group-index c.loop-group.left c.group-item.result c.index-readers-left.result
    (subst (λ (l : List ReadGroupPart). c.loop-group.group-index < length l) c.loop-group.invariant.items c.loop-group-test.true)
    (c.group-item.is ∙ ap (λ (l : List ReadGroupPart). get_or l c.loop-group.group-index c.group-item.result) c.loop-group.invariant.items)
    (subst (λ (l : List ReaderPart). c.loop-group.left < length l) c.as_slice-readers.ensures c.if-left-readers.true)
    (c.index-readers-left.is ∙ ap (λ (l : List ReaderPart). get_or l c.loop-group.left c.index-readers-left.result) c.as_slice-readers.ensures))
    ∙ c.loop-group.invariant.rest

pub loop-group-preserved : goal.loop-group-preserved
loop-group-preserved c = record {
  items = c.loop-group.invariant.items;
  rest =
      subst (λ (l : List ReaderPart). slice_get (rest_readers c.args.config.now (c.loop-group.group-index + 1)) (c.loop-group.left - length l)
      ≡ slice_get (grouped_readers c.args.config.now.readgroup) c.args.reader) (sym c.as_slice-readers.ensures)
      (reader-behind c.args.config.now c.loop-group.group-index c.loop-group.left c.group-item.result
      (subst (λ (l : List ReadGroupPart). c.loop-group.group-index < length l) c.loop-group.invariant.items c.loop-group-test.true)
      (c.group-item.is ∙ ap (λ (l : List ReadGroupPart). get_or l c.loop-group.group-index c.group-item.result) c.loop-group.invariant.items)
      (subst (λ (l : List ReaderPart). length l ≤ c.loop-group.left) c.as_slice-readers.ensures c.if-left-readers.false)
      ∙ c.loop-group.invariant.rest);
}
