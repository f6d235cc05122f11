use Rattle.std.proofs.Common.{◌≡◌, rules}
use Rattle.std.proofs.lemmas.Result.{IfOk-weaker}
use Rattle.uapubsub_c.specs.Handles.{Holds, OpensPublisher}
use Rattle.uapubsub_c.specs.declared.kept.Kept.TheVariants.{Publisher}
use Rattle.uapubsub_c.proofs.Opening.{opens-kept}
use Rattle.uapubsub_c.proofs.publishing.open.Goals as goal

pub returns-in-Ok-clause-opens : goal.returns-in-Ok-clause-opens
returns-in-Ok-clause-opens c =
    let shut : c.args.handle.now.is_open ≡ 0 = search rules in
    opens-kept (OpensPublisher c.args.text.now) c.args.text.now c.args.handle.now c.keep.new.self c.keep.result shut
    (IfOk-weaker c.keep.result (λ value. Holds (Publisher c.in-Ok.publisher) c.keep.new.self) (λ value. OpensPublisher c.args.text.now c.keep.new.self)
    (λ value holds. record {
      publisher = c.in-Ok.publisher;
      holds = holds;
      config_is = c.in-Ok.ensures.ok;
      rows = c.in-Ok.ensures.rows;
      senders = c.in-Ok.ensures.senders;
      sides = c.in-Ok.ensures.sides;
      none_waits = c.in-Ok.ensures.none_waits;
    }) c.keep.ensures.held)
    c.keep.ensures.not c.keep.ensures.memory
