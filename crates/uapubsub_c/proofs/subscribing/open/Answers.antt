use Rattle.std.proofs.Common.{◌≡◌, rules}
use Rattle.std.proofs.lemmas.Result.{IfOk-weaker}
use Rattle.uapubsub_c.specs.Handles.{Holds, OpensSubscriber}
use Rattle.uapubsub_c.specs.declared.kept.Kept.TheVariants.{Subscriber}
use Rattle.uapubsub_c.proofs.Opening.{opens-kept}
use Rattle.uapubsub_c.proofs.subscribing.open.Goals as goal

pub returns-in-Ok-clause-opens : goal.returns-in-Ok-clause-opens
returns-in-Ok-clause-opens c =
    let shut : c.args.handle.now.is_open ≡ 0 = search rules in
    opens-kept (OpensSubscriber c.args.text.now) c.args.text.now c.args.handle.now c.keep.new.self c.keep.result shut
    (IfOk-weaker c.keep.result (λ value. Holds (Subscriber c.in-Ok.subscriber) c.keep.new.self) (λ value. OpensSubscriber c.args.text.now c.keep.new.self)
    (λ value holds. record {
      subscriber = c.in-Ok.subscriber;
      holds = holds;
      config_is = c.in-Ok.ensures.ok;
      groups = c.in-Ok.ensures.groups;
    }) c.keep.ensures.held)
    c.keep.ensures.not c.keep.ensures.memory
