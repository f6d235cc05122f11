use Rattle.std.proofs.Common.{[], reverse, take}
use Rattle.ua_base.specs.Links.{KeepsLink}
use Rattle.ps_config.specs.declared.parts.Config.{Config}
use Rattle.ps_script.specs.Sessions.{ticks_in}
use Rattle.ps_script.specs.Sound.{IsScript}
use Rattle.cmd_relay.specs.Relaying.{HasRelayed}
use Rattle.cmd_relay.proofs.relaying.Relay.play.Given as goal

abbrev pub invariant-loop-line : goal.invariant-loop-line
invariant-loop-line g l = record {
  lab : KeepsLink g.A.Link.told g.A.Link.patience g.A.Link.opened_with g.A.Link.faults g.A.Link.made g.A.Link.openings (ticks_in (take l.line-index l.script.lines)) l.fn.lab l.lab;
  wire : KeepsLink g.B.Link.told g.B.Link.patience g.B.Link.opened_with g.B.Link.faults g.B.Link.made g.B.Link.openings (ticks_in (take l.line-index l.script.lines)) l.fn.wire l.wire;
  relayed : (first second : Config) → IsScript first l.script → HasRelayed first second l.script [] (g.A.Link.told l.fn.lab) (g.B.Link.told l.fn.wire) l.fn.self
      → HasRelayed first second l.script (reverse (take l.line-index l.script.lines)) (g.A.Link.told l.lab) (g.B.Link.told l.wire) l.self;
}
