-- A session that was played over a tap.
use Rattle.std.specs.Prelude.{ℕ, List, Option}
use Rattle.ua_base.specs.Journal.{LinkState}
use Rattle.ps_config.specs.declared.parts.Config.{Config}
use Rattle.ps_report.specs.declared.closed.Closed.{Closed}
use Rattle.ps_script.specs.declared.script.Script.{Script}
use Rattle.json_tap.specs.Keeping.{IsOfLink}
use Rattle.json_tap.specs.Reading.{LinkIsReadAs}
use Rattle.script_player.specs.Plays.{IsPlayOf}

-- the script was played in a session that the link tells of, and these are its lines
pub record IsTapped (config : Config) (script : Script) (told : Option LinkState) (lines : List (List ℕ)) (skipped : ℕ) : Type 0 where
  pub closed : Closed
  pub played : IsPlayOf config script told closed
  pub of_sent : IsOfLink config told lines skipped
  pub read_as : LinkIsReadAs config told
