use Rattle.std.proofs.Common.{ap, arith, ◌∙◌}
use Rattle.group_keys.specs.Ring.{key_sets}
use Rattle.message_guard.specs.Senders.{SenderState}
use Rattle.device.proofs.Begins.{gone-count, gone-from}
use Rattle.device.proofs.Rings.{ring-at, rings-count}
use Rattle.device.proofs.publisher.Publisher.go_on_behind.Goals as goal

pub index-requires : goal.index-requires
index-requires c =
    let self = c.args.self.now in
    omega (arith, c.requires.keygroup, self.rings.ok.0, rings-count self.senders.items self.rings.items c.requires.publisher.rings_are)

pub returns-clause-count : goal.returns-clause-count
returns-clause-count c = gone-count c.go_on.result c.args.now _ _ _ c.args.self.now c.go_on.new.self c.go_on.ensures.behind c.go_on.ensures.not

pub returns-clause-gone : goal.returns-clause-gone
returns-clause-gone c =
    let self = c.args.self.now in
    gone-from c.go_on.result c.args.now c.args.keygroup c.passed_over-used.result c.args.pair _ c.at.result.now self c.go_on.new.self c.requires.keygroup c.requires.publisher.senders_count
    (λ (d : SenderState).
    c.copy_of-ring.ensures ∙ ap key_sets c.index.ensures ∙ ring-at self.senders.items self.rings.items c.args.keygroup d c.index.result.now c.requires.publisher.rings_are c.requires.keygroup) c.at.ensures.last c.passed_over-used.ensures c.go_on.ensures.behind c.go_on.ensures.not c.go_on.ensures.refused
