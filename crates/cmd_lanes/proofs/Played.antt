-- What lanes of a script leave.
use Rattle.std.proofs.Common.{◌≡◌, ℕ, false, List, [], length, map, sym, ap, ◌∙◌, subst, arith, Option, Some, None}
use Rattle.ua_base.specs.Journal.{LinkState, Tells}
use Rattle.ua_base.specs.Net.{Opens}
use Rattle.ua_base.specs.declared.link.Opened.TheVariants as opened
use Rattle.dataset_meta.specs.Metas.{MetaData}
use Rattle.ps_config.specs.declared.parts.Config.{Config}
use Rattle.ps_script.specs.declared.script.Script.{Script}
use Rattle.ps_script.specs.Sound.{IsScript}
use Rattle.writer_group.specs.Standing.{IsGood}
use Rattle.session_model.specs.Deeds.{Deed, deeds}
use Rattle.session_model.specs.Steps.{Step}
use Rattle.script_player.specs.Plays.{plan_by}
use Rattle.group_threads.specs.Sending.{Conveyed}
use Rattle.lane_groups.specs.declared.lane.Lane.{Lane}
use Rattle.lane_groups.specs.declared.running.Ran.{Ran}
use Rattle.lane_groups.specs.declared.turn.TurnIn.{TurnIn}
use Rattle.lane_groups.specs.Deeds.{datagrams_by, plan_of, turns_deeds}
use Rattle.lane_groups.specs.Lanes.{IsWork}
use Rattle.lane_groups.specs.Running.{AreBehind, AreLanes, HasRunLanes}
use Rattle.lane_groups.specs.Turns.{AreTurns}
use Rattle.cmd_lanes.specs.Alike.{HaveNumbers}
use Rattle.cmd_lanes.specs.Courses.{AreTurnsOf}
use Rattle.cmd_lanes.specs.Runs.{IsLanesOf}
use Rattle.cmd_lanes.specs.Scripts.{refusal, ticks_of}
use Rattle.cmd_lanes.specs.Sends.{AreSent}
use Rattle.cmd_lanes.specs.Standing.{HaveGroups, StandAll, counts_of, logs_by}
use Rattle.cmd_lanes.specs.Texts.{lanes_text}
use Rattle.cmd_lanes.proofs.Sending.{are-sent, datagrams-same, none-to, send_of}
use Rattle.cmd_lanes.proofs.Taken.{same-metas}

-- what the law says of turns
abbrev pub AreTicks : Type 0
AreTicks = (config : Config) (steps : List Step) (turns : List TurnIn) → AreTurns steps turns → deeds (plan_of config) steps ≡ turns_deeds config turns

pub is-work : (config : Config) (script : Script) (turns : List TurnIn) → IsGood config → AreTurnsOf config script turns → IsWork config turns
is-work config script turns good are = record { good = good; rows = are.have }

-- ---- the lanes behind their turns

module _ (config : Config) (turns : List TurnIn) (n : ℕ) (old new : List Lane) (are : AreLanes config n old) (behind : AreBehind config turns old new) where
  pub have-groups : HaveGroups config new
  have-groups = record {
    each = λ lane none low. behind.lanes lane none (omega (arith, low, behind.count));
    had = λ g low.
        let at = are.one g low in
        record {
          lane = at.0;
          within = let within = at.1.within in omega (arith, within, behind.count);
          there = λ none. behind.groups at.0 none at.1.within g ∙ at.1.there none;
        };
  }

  pub stand-all : StandAll config (turns_deeds config turns) new
  stand-all lane none low = behind.stand lane none (omega (arith, low, behind.count))

-- ---- what was sent

module _ (laws : AreTicks) (config : Config) (script : Script) (turns : List TurnIn) (good : IsGood config) (is : IsScript config script) (taken : refusal script ≡ None) (are : AreTurnsOf config script turns) where
  deeds-are : deeds (plan_by config script) (ticks_of script) ≡ turns_deeds config turns
  deeds-are =
      ap (λ (metas : List MetaData). deeds (record { config = config; full = metas }) (ticks_of script)) (same-metas config script is taken)
      ∙ laws config (ticks_of script) turns are.are

  pub is-lanes : (first told : Option LinkState) (ran : Ran) (text : List ℕ) → ((link : LinkState) → first ≡ Some link → link.journal ≡ []) → HasRunLanes config turns first told ran
      → text ≡ lanes_text config (counts_of ran) (logs_by config (turns_deeds config turns)) → HaveNumbers config (counts_of ran) (logs_by config (turns_deeds config turns))
      → IsLanesOf config script told text
  is-lanes first told ran text new run text-is numbers = record {
    sends = map send_of run.parcels;
    counts = counts_of ran;
    groups = λ g low. datagrams-same g run.parcels ∙ run.groups g low ∙ ap (datagrams_by config g) (sym deeds-are);
    others = λ g high. none-to g run.parcels (run.others g high);
    tells = λ link told-is. sent-by link (subst (λ (t : Option LinkState). Tells first t (Conveyed run.parcels (record { sent = ran.sent; failed = ran.failed; lacks = false }))) told-is run.tells);
    text_is = text-is ∙ ap (λ (d : List Deed). lanes_text config (counts_of ran) (logs_by config d)) (sym deeds-are);
    numbers = subst (λ (d : List Deed). HaveNumbers config (counts_of ran) (logs_by config d)) (sym deeds-are) numbers;
  }
    where
      sent-by : (link : LinkState) → Tells first (Some link) (Conveyed run.parcels (record { sent = ran.sent; failed = ran.failed; lacks = false }))
          → AreSent (length config.group) (map send_of run.parcels) (counts_of ran) link
      sent-by link tells = are-sent (length config.group) run.parcels ran tells.0 link good.sound.few.groups (new tells.0 tells.1) run.others tells.2

-- a link that was opened has an empty journal, where it tells one
pub opened-new : (old now : Option LinkState) → Tells old now (Opens opened.Done) → (link : LinkState) → now ≡ Some link → link.journal ≡ []
opened-new old None tells link is = absurd (let wrong : None ≡ Some link = is in cc)
opened-new old (Some state) tells link is = ap (λ (s : LinkState). s.journal) (sym (same-some is)) ∙ tells.2.0
  where
    same-some : {a b : LinkState} → Some a ≡ Some b → a ≡ b
    same-some e = cc
