use Rattle.std.proofs.Common.{List, sym, ap, ◌∙◌, arith}
use Rattle.version_cell.specs.Known.{Known}
use Rattle.pubsub_engine.specs.Holding.{passes_of}
use Rattle.script_runner.proofs.Meeting.{join-met, join-more}
use Rattle.script_runner.proofs.ending.meet.Goals as goal

pub returns : goal.returns
returns g c =
    let done = c.args.done.now in
    let old = passes_of c.args.session.now in
    let new = passes_of c.meet.new.self in
    let e = c.meet.ensures in
    let count = c.requires.bank.passes.count in
    record {
      session = e.session;
      bank = e.bank;
      more = join-more old c.in_ok-seen.seen new e.joins;
      met = λ set lt. join-met old done.passes c.in_ok-seen.seen new (c.requires.own.count ∙ sym count) c.in_ok-seen.ensures.given e.joins set (omega (arith, lt, count));
      same = ap (λ (l : List Known). record done { passes = l }) c.split.ensures.same;
      rest = e.rest;
      stands = e.stands;
    }
