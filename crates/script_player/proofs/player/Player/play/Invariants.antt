use Rattle.std.proofs.Common.{reverse, take}
use Rattle.ua_base.specs.Links.{KeepsLink}
use Rattle.ps_script.specs.Sessions.{ticks_in}
use Rattle.script_player.specs.Player.{HasPlayed, IsPlayer, config_of}
use Rattle.script_player.proofs.player.Player.play.Given as goal

abbrev pub invariant-loop-line : goal.invariant-loop-line
invariant-loop-line g l = record {
  player : IsPlayer l.self;
  played : HasPlayed (config_of l.fn.self) l.script (reverse (take l.line-index l.script.lines)) (g.L.Link.told l.link) l.self;
  link : KeepsLink g.L.Link.told g.L.Link.patience g.L.Link.opened_with g.L.Link.faults g.L.Link.made g.L.Link.openings (ticks_in (take l.line-index l.script.lines)) l.fn.link l.link;
}
