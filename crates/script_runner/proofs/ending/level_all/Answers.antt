use Rattle.std.proofs.Common.{◌≡◌, ◌<◌, List, length, sym, ap, ◌∙◌, arith}
use Rattle.std.proofs.lemmas.List.{length-map}
use Rattle.app_threads.specs.declared.done.Done.{Done}
use Rattle.script_player.proofs.Staying.{stores-change}
use Rattle.script_runner.specs.Finishing.{unwatched}
use Rattle.script_runner.proofs.Meeting.{rest-more, stored-more, unwatched-more}
use Rattle.script_runner.proofs.ending.level_all.Goals as goal

pub loop-t-preserved : goal.loop-t-preserved
loop-t-preserved g c =
    let i = c.loop-t.invariant in
    let e = c.level.ensures in
    let k = c.loop-t.t in
    let dones = c.args.dones.now.items in
    let left = c.loop-t.dones.items in
    let done = c.index_mut.result.now in
    let first = c.args.session.now in
    let now = c.loop-t.session in
    let new = c.level.new.session in
    let count : length left ≡ length dones = sym (length-map left unwatched) ∙ ap (λ (l : List Done). length l) i.dones ∙ length-map dones unwatched in
    let within : k < length left = omega (arith, c.loop-t-test.true, c.len-t-end.ensures, c.args.dones.now.ok.0, count) in
    record {
      session = e.session;
      targets = e.targets;
      same = e.same ∙ i.same;
      stored = stored-more first now (length c.args.targets.now.cells) k dones left done i.same c.index_mut.ensures.value within count i.left i.stored e.stored;
      dones = unwatched-more left dones k done c.level.new.done i.dones c.index_mut.ensures.value e.done;
      left = rest-more left dones k c.level.new.done i.left;
      rest = stores-change first now new i.rest e.rest;
      stands = λ p steps stood. e.stands p steps (i.stands p steps stood);
    }
