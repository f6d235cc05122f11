use Rattle.std.proofs.Common.{◌<◌, List, length, get_or, sym, ap, ◌∙◌, arith}
use Rattle.app_threads.specs.declared.done.Done.{Done}
use Rattle.pubsub_engine.specs.Holding.{passes_of}
use Rattle.script_player.proofs.Staying.{samples-change}
use Rattle.script_runner.proofs.Meeting.{met-more, same-back, see-on}
use Rattle.script_runner.proofs.ending.meet_all.Goals as goal

pub loop-t-preserved : goal.loop-t-preserved
loop-t-preserved g c =
    let i = c.loop-t.invariant in
    let e = c.in_ok-meet.ensures in
    let k = c.loop-t.t in
    let dones = c.args.dones.now.items in
    let done = c.index_mut.result.now in
    let first = c.args.session.now in
    let now = c.loop-t.session in
    let new = c.meet.new.session in
    let count = i.bank.passes.count in
    let begun = c.requires.bank.passes.count in
    let within : k < length dones = omega (arith, c.loop-t-test.true, c.len-t-end.ensures, c.args.dones.now.ok.0) in
    record {
      session = e.session;
      bank = e.bank;
      same = same-back c.loop-t.dones.items dones k done c.meet.new.done i.same c.index_mut.ensures.value e.same;
      more = see-on (passes_of first) (passes_of now) (passes_of new) (count ∙ sym begun) i.more e.more;
      met = met-more now new (length c.args.bank.now) k dones done count e.more (c.index_mut.ensures.value ∙ ap (λ (l : List Done). get_or l k done) i.same) within i.met e.met;
      rest = samples-change first now new i.rest e.rest;
      stands = λ p steps stood. e.stands p steps (i.stands p steps stood);
    }
