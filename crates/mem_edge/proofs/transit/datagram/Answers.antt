use Rattle.std.proofs.Common.{sym, ◌∙◌, arith}
use Rattle.mem_edge.proofs.Comes.{injected_get}
use Rattle.mem_edge.proofs.transit.datagram.Goals as goal

pub returns-in-Injected-clause-value : goal.returns-in-Injected-clause-value
returns-in-Injected-clause-value c =
    let within = rw c.in-Injected.is at c.requires.within in
    rw c.in-Injected.is (c.deref-in-Injected.ensures.value ∙ sym (injected_get c.args.injected.now c.in-Injected.index c.index-injected-index.result (omega (arith, within.among_injected))))
