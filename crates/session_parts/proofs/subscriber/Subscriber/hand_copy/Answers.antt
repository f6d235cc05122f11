use Rattle.std.proofs.Common.{◌≡◌, ℕ, List, false, sym, ◌∙◌, subst, rules}
use Rattle.session_parts.specs.Pumping.{Hands}
use Rattle.session_parts.proofs.Giving.{gives-none}
use Rattle.session_parts.proofs.subscriber.Subscriber.hand_copy.Goals as goal

pub returns-then-not-receives-clause-hands : goal.returns-then-not-receives-clause-hands
returns-then-not-receives-clause-hands c =
    let off : c.receives.result ≡ false = search rules in
    gives-none c.args.config.now c.args.tree.now c.args.moment c.args.r c.args.datagram.now c.args.self.now c.requires.may.within (sym c.receives.ensures ∙ off)

pub returns-clause-hands : goal.returns-clause-hands
returns-clause-hands c =
    subst (λ (bytes : List ℕ). Hands c.args.config.now c.args.tree.now c.args.moment c.args.r bytes c.args.self.now c.give.new.self) c.copy_from_slice.ensures.after c.give.ensures.hands
