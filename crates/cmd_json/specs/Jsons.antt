-- What the command `json` writes of a played session.
use Rattle.std.specs.Prelude.{◌≡◌, ℕ, true, List, Option, Some, IsSome, All}
use Rattle.ua_base.specs.Journal.{LinkState, sent_list}
use Rattle.ps_config.specs.declared.parts.Config.{Config}
use Rattle.ps_report.specs.declared.closed.Closed.{Closed}
use Rattle.ps_script.specs.declared.script.Script.{Script}
use Rattle.json_frames.specs.Parts.{Part}
use Rattle.json_tap.specs.Keeping.{IsOfLink}
use Rattle.json_tap.specs.Transcoding.{messages_of}
use Rattle.script_player.specs.Plays.{IsPlayOf, plan_by}
use Rattle.cmd_base.specs.declared.status.Status.{Status}
use Rattle.cmd_base.specs.Outside.{Outside, Wire}
use Rattle.cmd_base.specs.Sessions.{SessionEnds, takes_all}
use Rattle.json_text.specs.Matching.{json_readers}
use Rattle.json_text.specs.Reading.{ReadsLines, parts_of}
use Rattle.json_text.specs.Readers.{HasRecords}
use Rattle.json_text.specs.Texts.{json_text}
use Rattle.cmd_json.specs.Owned.{AreOwn}

-- The frames of the parts that are read of the lines are those that the datagrams have which the link tells that it sent, in their order.
abbrev pub ReadsSent : Config → Option LinkState → List Part → Type 0
ReadsSent config told parts =
    (state : LinkState) → told ≡ Some state → parts ≡ parts_of (messages_of config (sent_list state.journal))

-- The script was played in a session over the link, whose Sent datagrams are the session's. Where the link tells its journal, the lines
-- spell exactly those of its Sent datagrams that can be transcoded, in their order, and the others are counted. What is read of the lines
-- is what these datagrams have. That is what the session's writers answered, at the writers' own places. The readers' lines tell what
-- *Records* holds over the frames that are read of the lines, none of which is refused.
pub record IsJsonOf (config : Config) (script : Script) (told : Option LinkState) (text : List ℕ) : Type 0 where
  pub closed : Closed
  pub lines : List (List ℕ)
  pub skipped : ℕ
  pub parts : List Part
  pub played : IsPlayOf config script told closed
  pub of_sent : IsOfLink config told lines skipped
  pub read : ReadsLines config lines parts
  pub read_as : ReadsSent config told parts
  pub own : IsSome told → AreOwn (plan_by config script) played.steps parts
  pub records : All (HasRecords config parts) (json_readers config)
  pub text_is : text ≡ json_text config lines parts skipped

-- How the command ends, with the text of a played session, whose fates the link obeys. old, new: what the folder and the output tell before and after; before,
-- after: what the link tells
abbrev pub JsonEnds : Status → List ℕ → Option (List ℕ) → Outside → Outside → Wire → Wire → Type 0
JsonEnds status script_name config_name old new before after =
    SessionEnds IsJsonOf takes_all true status script_name config_name old new before after
