use Rattle.std.proofs.Common.{◌≡◌, reverse, take}
use Rattle.ua_base.specs.Links.{KeepsLink}
use Rattle.ps_script.specs.Sessions.{ticks_in}
use Rattle.pubsub_engine.specs.Holding.{AreTargetsOf, IsBankOf, IsSession, plan_of}
use Rattle.script_runner.specs.Conducting.{HasConducted}
use Rattle.script_runner.proofs.conductor.conduct.Given as goal

abbrev pub invariant-loop-line : goal.invariant-loop-line
invariant-loop-line g l = record {
  session : IsSession l.session;
  bank : IsBankOf l.session l.bank;
  targets : AreTargetsOf l.session l.targets;
  ticks : l.ticks ≡ ticks_in (take l.line-index l.script.lines);
  conducted : HasConducted (plan_of l.fn.session).config l.script (reverse (take l.line-index l.script.lines)) (g.L.Link.told l.link) l.session;
  link : KeepsLink g.L.Link.told g.L.Link.patience g.L.Link.opened_with g.L.Link.faults g.L.Link.made g.L.Link.openings (ticks_in (take l.line-index l.script.lines)) l.fn.link l.link;
}
