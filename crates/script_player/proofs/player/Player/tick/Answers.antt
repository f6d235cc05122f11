use Rattle.std.proofs.Common.{refl}
use Rattle.std.proofs.lemmas.Result.{on_ok_weaker}
use Rattle.script_player.proofs.Outcomes.{both-ok}
use Rattle.script_player.proofs.Turning.{player-passed}
use Rattle.script_player.proofs.player.Player.tick.Goals as goal

pub returns : goal.returns
returns g c =
    let player = c.args.self.now in
    let told = g.L.Link.told c.args.link.now in
    let after = g.L.Link.told c.pass.new.link in
    let r = c.pass.result in
    let e = c.pass.ensures in
    let known = both-ok _ _ r e.session (both-ok _ _ r e.bank (both-ok _ _ r e.targets e.passes)) in
    record {
      player = on_ok_weaker r (λ k. player-passed c.args.ms c.args.closing player c.pass.new.session told after c.requires.player k.1.1.1 k.0 k.1.1.0 k.1.0) known;
      passes = on_ok_weaker r (λ on. record { by = on; rest = refl }) e.passes;
      memory = e.memory;
      link = e.link;
    }
