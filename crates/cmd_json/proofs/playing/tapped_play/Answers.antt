use Rattle.std.proofs.Common.{◌≡◌, sym, ◌∙◌, subst}
use Rattle.std.specs.Prelude.{Err, IsOk}
use Rattle.ps_config.specs.declared.parts.Config.{Config}
use Rattle.json_tap.specs.Taps.{is_open, link_of}
use Rattle.script_player.specs.declared.play.PlayEnd.TheVariants.{Unopened}
use Rattle.script_player.specs.Openings.{PerformsOver}
use Rattle.script_player.specs.Plays.{opening_of}
use Rattle.cmd_json.proofs.Tapped.{performs-tapped}
use Rattle.cmd_json.proofs.playing.tapped_play.Goals as goal

pub returns-clause-over : goal.returns-clause-over
returns-clause-over g c =
    let taken = c.into_parts-link.ensures in
    subst (λ (config : Config). PerformsOver g.L.Link.told g.L.Link.patience g.L.Link.opened_with g.L.Link.faults g.L.Link.made g.L.Link.openings (opening_of config c.args.script.now) (IsOk c.play_script-end.result) (c.play_script-end.result ≡ Err Unopened) c.args.inner.link.now c.into_parts-link.result.link.now) c.requires.config
    (performs-tapped g.L.Link.told g.L.Link.patience g.L.Link.opened_with g.L.Link.faults g.L.Link.made g.L.Link.openings _ link_of is_open _ _ _ _ _ _ c.new-tap.ensures.link taken.link c.new-tap.ensures.unopened
    taken.opened (λ is. (taken.unopened is).1 ∙ sym c.requires.opening) c.play_script-end.ensures.over)
