use Rattle.std.proofs.Common.{ℕ, ◌++◌, List, refl, ap, drop, subst, sym, ◌∙◌}
use Rattle.uapubsub_c.specs.Laying.{IsLaidOut}
use Rattle.uapubsub_c.proofs.publishing.next.Goals as goal

pub returns-else-datagram-buffer-clause-comes : goal.returns-else-datagram-buffer-clause-comes
returns-else-datagram-buffer-clause-comes c =
    let datagram = c.datagram-datagram.result.now in
    let laid : IsLaidOut datagram c.args.buffer.now c.lay.new.buffer c.lay.result = record {
      count_is = c.lay.ensures.length;
      laid = c.lay.ensures.laid ∙ ap (λ (count : ℕ). datagram ++ drop count c.args.buffer.now) (sym c.lay.ensures.length);
    } in
    record {
      mid = c.come_to.new.self;
      comes = record { waited = c.in-Datagram.ensures.waited; came = c.in-Datagram.ensures.came };
      may = c.if-not-may_hand_over.ensures.may;
      laid = subst (λ (bytes : List ℕ). IsLaidOut bytes c.args.buffer.now c.lay.new.buffer c.lay.result) c.datagram-datagram.ensures laid;
      handed = c.hand_over.ensures.handed;
    }
