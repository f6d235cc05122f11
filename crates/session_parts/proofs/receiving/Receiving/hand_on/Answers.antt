use Rattle.std.proofs.Common.{ℕ, List, take, subst}
use Rattle.ua_base.specs.Journal.{Got}
use Rattle.session_parts.specs.Pumping.{HandsOn}
use Rattle.session_parts.proofs.receiving.Receiving.hand_on.Goals as goal

pub returns-clause-hands : goal.returns-clause-hands
returns-clause-hands c =
    subst (λ (bytes : List ℕ). HandsOn c.args.config.now (Got (take c.args.end bytes)) c.args.tree.now c.args.moment c.args.subscriber.now c.hand_front.new.subscriber) c.deref_mut.ensures.value
    c.hand_front.ensures.hands
