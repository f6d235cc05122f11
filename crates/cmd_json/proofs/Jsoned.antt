-- What is written of a played session.
use Rattle.std.proofs.Common.{◌≡◌, ℕ, List, Option, Some, subst}
use Rattle.std.specs.Prelude.{IsSome, slice_index_or}
use Rattle.ua_base.specs.Journal.{LinkState, sent_list}
use Rattle.ps_config.specs.declared.parts.Config.{Config}
use Rattle.ps_config.specs.declared.parts.ReaderPart.{ReaderPart}
use Rattle.ps_config.specs.Sound.{IsSound}
use Rattle.ps_script.specs.declared.script.Script.{Script}
use Rattle.session_model.specs.Keeping.{AreSteps, IsPlan}
use Rattle.session_model.specs.Sends.{IsRun, TellsRun}
use Rattle.session_model.specs.Steps.{Plan, Step}
use Rattle.session_laws.specs.Below.{Laws}
use Rattle.session_laws.specs.Sessions.{SamplesRise}
use Rattle.script_player.specs.Plays.{plan_by}
use Rattle.json_frames.specs.Parts.{Part}
use Rattle.json_tap.specs.Reading.{AreReadAs}
use Rattle.json_tap.specs.Transcoding.{Message, lines_from, messages_of}
use Rattle.json_text.specs.Matching.{json_readers}
use Rattle.json_text.specs.Reading.{ReadsLines, parts_of}
use Rattle.json_text.specs.Readers.{HasRecords}
use Rattle.json_text.specs.Texts.{TellsLines}
use Rattle.cmd_json.specs.Owned.{AreOwn}
use Rattle.cmd_json.specs.Playing.{IsTapped}
use Rattle.cmd_json.specs.Jsons.{IsJsonOf, ReadsSent}
use Rattle.cmd_json.proofs.Kept.{own-records}
use Rattle.cmd_json.proofs.Owned.{frames-own}

-- ---- whose frames they are

pub are-own : Laws → (p : Plan) (steps : List Step) (told : Option LinkState) (parts : List Part) → IsPlan p → AreSteps p steps → IsRun p steps → SamplesRise p steps → TellsRun p steps told
    → ReadsSent p.config told parts → ((reader : ReaderPart) → HasRecords p.config parts reader) → IsSome told → AreOwn p steps parts
are-own laws p steps told parts plan are run rise tells sent records some =
    let frames = frames-own laws p steps plan are run rise told parts some tells sent in
    record { frames = frames; records = own-records p steps are parts frames records }

-- ---- the text

-- what the laws of lines and of sessions say, for the command
pub record Below : Type 0 where
  pub records : (config : Config) (lines : List (List ℕ)) (parts : List Part) (reader : ReaderPart) → ReadsLines config lines parts → HasRecords config parts reader
  pub messages : (config : Config) (messages : List Message) (parts : List Part) → AreReadAs config 0 messages → ReadsLines config (lines_from config 0 messages) parts → parts ≡ parts_of messages
  pub own : (p : Plan) (steps : List Step) (told : Option LinkState) (parts : List Part) → IsPlan p → AreSteps p steps → IsRun p steps → SamplesRise p steps → TellsRun p steps told
      → ReadsSent p.config told parts → ((reader : ReaderPart) → HasRecords p.config parts reader) → IsSome told → AreOwn p steps parts

pub is-json : (config : Config) (script : Script) (told : Option LinkState) (lines read : List (List ℕ)) (skipped : ℕ) (text : List ℕ) → IsSound config → read ≡ lines
    → IsTapped config script told lines skipped → TellsLines config read skipped text → Below → IsJsonOf config script told text
is-json config script told lines read skipped text sound same tapped tells below =
    let so = subst (λ (l : List (List ℕ)). TellsLines config l skipped text) same tells in
    let played = tapped.played in
    let kept : (reader : ReaderPart) → HasRecords config so.parts reader = λ reader. below.records config lines so.parts reader so.read in
    let sent : ReadsSent config told so.parts = λ state e.
    below.messages config (messages_of config (sent_list state.journal)) so.parts (tapped.read_as state e sound)
    (subst (λ (l : List (List ℕ)). ReadsLines config l so.parts) (tapped.of_sent state e).lines_are so.read) in
    record {
      closed = tapped.closed;
      lines = lines;
      skipped = skipped;
      parts = so.parts;
      played = played;
      of_sent = tapped.of_sent;
      read = so.read;
      read_as = sent;
      own = below.own (plan_by config script) played.steps told so.parts played.lived.plan played.steps_are played.run played.lived.rise played.tells sent kept;
      records = λ k d below_k. kept (slice_index_or (json_readers config) k d);
      text_is = so.text_is;
    }
