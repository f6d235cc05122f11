-- *lanes*: what the command tells of a script.
use Rattle.std.specs.Prelude.{◌≡◌, ℕ, ◌<◌, ◌≤◌, List, [], length, Option, Some, true}
use Rattle.ua_base.specs.Journal.{LinkState}
use Rattle.ps_config.specs.declared.parts.Config.{Config}
use Rattle.ps_script.specs.declared.script.Script.{Script}
use Rattle.session_model.specs.Deeds.{deeds, log_at}
use Rattle.session_model.specs.Sends.{Send}
use Rattle.script_player.specs.Plays.{plan_by}
use Rattle.lane_groups.specs.Deeds.{datagrams_by}
use Rattle.cmd_base.specs.declared.status.Status.{Status}
use Rattle.cmd_base.specs.Outside.{Outside, Wire}
use Rattle.cmd_base.specs.Sessions.{SessionEnds}
use Rattle.cmd_lanes.specs.Alike.{HaveNumbers}
use Rattle.cmd_lanes.specs.Scripts.{refusal, ticks_of}
use Rattle.cmd_lanes.specs.Sends.{AreSent, Counts, datagrams_to}
use Rattle.cmd_lanes.specs.Texts.{lanes_text}

-- There are datagrams with their groups, one for each entry of the journal of a link that tells it, in order. The datagrams of each group
-- are, in order and each once, those that *Session run* gives for it from the ticks of the script with the exact sample of the writes
-- before each and with all components enabled. There are no others. The text tells how many were sent, and the log that the same ticks give
-- each writer; these are numbers of 64 bits, so it tells no other ones.
pub record IsLanesOf (config : Config) (script : Script) (told : Option LinkState) (text : List ℕ) : Type 0 where
  pub sends : List Send
  pub counts : Counts
  pub groups : (g : ℕ) → g < length config.group
      → datagrams_to g sends ≡ datagrams_by config g (deeds (plan_by config script) (ticks_of script))
  pub others : (g : ℕ) → length config.group ≤ g → datagrams_to g sends ≡ []
  pub tells : (link : LinkState) → told ≡ Some link → AreSent (length config.group) sends counts link
  pub text_is : text ≡ lanes_text config counts (λ g w. log_at (plan_by config script) g w (ticks_of script))
  pub numbers : HaveNumbers config counts (λ g w. log_at (plan_by config script) g w (ticks_of script))

-- How the command ends: with what lanes make of the script, which may give fates. old, new: what the folder and the output tell before and after; before,
-- after: what the link tells
abbrev pub LanesEnds : Status → List ℕ → Option (List ℕ) → Outside → Outside → Wire → Wire → Type 0
LanesEnds status script_name config_name old new before after =
    SessionEnds IsLanesOf refusal true status script_name config_name old new before after
