use Rattle.std.proofs.Common.{◌+◌, ◌∷◌, [], List, length, length-append, take, sym, subst, ap, arith, ◌∙◌}
use Rattle.std.specs.Prelude.{All}
use Rattle.std.specs.List.{AllZip}
use Rattle.std.proofs.lemmas.List.Elements.{All-push}
use Rattle.group_keys.specs.declared.key_set.KeySet.{KeySet}
use Rattle.message_guard.specs.Senders.{IsSender, SenderState}
use Rattle.writer_group.proofs.SetupLaws.{zip-more}
use Rattle.device.specs.Sides.{IsOpeningSender, IsResumed}
use Rattle.device.proofs.making.senders_of.Goals as goal

pub loop-keygroup-preserved : goal.loop-keygroup-preserved
loop-keygroup-preserved c =
    let parts = c.args.keygroups.now in
    let i = c.loop-keygroup.keygroup-index in
    let so_far = c.loop-keygroup.senders.items in
    let part = c.keygroup-item.result in
    let sender = c.sender_with-sender.result in
    let opening : IsOpeningSender part sender =
    subst (λ (sets : List KeySet). IsResumed part sets 0 part.used sender) c.ring_of.ensures.keys c.sender_with-sender.ensures.resumed in
    record {
      senders = subst (λ (l : List SenderState). All IsSender l) (sym c.in_ok-push.ensures.items)
          (All-push IsSender so_far sender c.loop-keygroup.invariant.senders c.sender_with-sender.ensures.sender);
      opening = subst (AllZip IsOpeningSender (take (i + 1) parts)) (sym c.in_ok-push.ensures.items)
          (zip-more IsOpeningSender parts so_far i part sender (omega arith) c.keygroup-item.is c.loop-keygroup.invariant.opening opening);
      count = ap length c.in_ok-push.ensures.items ∙ length-append so_far (sender ∷ []) ∙ ap (λ n. n + 1) c.loop-keygroup.invariant.count;
    }
