use Rattle.std.proofs.Common.{◌≡◌, false, sym, ◌∙◌, rules}
use Rattle.session_parts.proofs.Giving.{gives-none}
use Rattle.session_parts.proofs.subscriber.Subscriber.hand.Goals as goal

pub returns-then-not-receives-clause-hands : goal.returns-then-not-receives-clause-hands
returns-then-not-receives-clause-hands c =
    let off : c.receives.result ≡ false = search rules in
    gives-none c.args.config.now c.args.tree.now c.args.moment c.args.r c.args.datagram.now c.args.self.now c.requires.may.within (sym c.receives.ensures ∙ off)
