-- A script that gives datagrams their fates, played over a link in memory: `write 0 demo a=7`, `tick 100`, and the fates.
use Rattle.std.specs.Prelude.{◌≡◌, ◌+◌, ◌-◌, ◌^◌, ℕ, true, false, List, [], ◌∷◌, replicate, Option, Some, IsSome, Result, Ok, Err, IsOk}
use Rattle.dataset_meta.specs.DataValues.{DataValue}
use Rattle.row_words.specs.declared.patch.Patch.{Patch}
use Rattle.pubsub_model.specs.declared.reading.Why.{Why}
use Rattle.ua_base.specs.declared.link.Fate.{Fate}
use Rattle.ua_base.specs.Journal.{Empty, LinkState}
use Rattle.ua_base.specs.Links.{Making}
use Rattle.mem_edge.specs.declared.memory_link.MemoryLink.{MemoryLink}
use Rattle.mem_edge.specs.MemoryLinks.{faults_of, made_by, opened_by, openings_of, patience_of, told_by}
use Rattle.ps_config.specs.BuiltIn.{built_in_config, demo}
use Rattle.ps_report.specs.declared.closed.Closed.{Closed}
use Rattle.ps_script.specs.declared.script.Act.TheVariants as act
use Rattle.ps_script.specs.declared.script.Line.{Line}
use Rattle.ps_script.specs.declared.script.Script.{Script}
use Rattle.ps_script.specs.Scripts.{script}
use Rattle.ps_script.specs.Values.{ValueReader}
use Rattle.session_model.specs.Closing.{IsClosedAfter}
use Rattle.session_model.specs.Events.{reader_at}
use Rattle.session_model.specs.Steps.{Step, Pump}
use Rattle.session_laws.specs.Witness.{closing_on, first_session, last_receives, lost_session, small_plan}
use Rattle.script_player.specs.declared.play.PlayEnd.{PlayEnd}
use Rattle.script_player.specs.declared.play.PlayEnd.TheVariants.{Unopened}
use Rattle.script_player.specs.Openings.{PerformsOver}
use Rattle.script_player.specs.Plays.{IsPlayOf, opening_of}

-- ---- the script

-- a=7
abbrev pub small_patch : Patch
small_patch = record { mask = 1; row = record { words = 7 ∷ replicate 124 0 } }

abbrev pub write_line : Line
write_line = record { at = 1; act = act.Write 0 0 small_patch }

abbrev pub tick_line : Line
tick_line = record { at = 2; act = act.Tick 100 }

-- the line of a fate, with its number
abbrev pub fate_line : ℕ → ℕ × Fate → Line
fate_line at fated = record { at = at; act = act.Fated fated.0 fated.1 }

-- a line for each, numbered from this one on
abbrev pub fate_lines : ℕ → List (ℕ × Fate) → List Line
fate_lines at [] = []
fate_lines at (fated ∷ fates) = fate_line at fated ∷ fate_lines (at + 1) fates

abbrev pub small_script : List (ℕ × Fate) → Script
small_script fates = record { lines = write_line ∷ tick_line ∷ fate_lines 3 fates; metas = demo ∷ [] }

-- this text is accepted as that script, with the built-in configuration and where links have fates
abbrev pub IsReadAs : List ℕ → List (ℕ × Fate) → Type 0
IsReadAs text fates = (reader : ValueReader) → script reader built_in_config text true ≡ Ok (small_script fates)

-- ---- over a link in memory

-- it does nothing of its own
abbrev pub obedient : Making
obedient = record { injected = []; send_fails = []; receive_fails = []; open_fails = false }

-- it was made anew, and does nothing of its own
pub record IsNewLink (link : MemoryLink) : Type 0 where
  pub tells : IsSome (told_by link)
  pub patience : patience_of link ≡ 2 ^ 64 - 1
  pub made : made_by link ≡ obedient

-- what `play_script` says of the link that it plays the script over
abbrev pub PlaysOver : MemoryLink → MemoryLink → List (ℕ × Fate) → Result Closed PlayEnd → Type 0
PlaysOver old new fates result =
    PerformsOver told_by patience_of opened_by faults_of made_by openings_of (opening_of built_in_config (small_script fates))
    (IsOk result) (result ≡ Err Unopened) old new

-- the script was played over the link, which obeys its fates alone and tells to the end
pub record IsPlayedOver (link : MemoryLink) (fates : List (ℕ × Fate)) (closed : Closed) : Type 0 where
  pub state : LinkState
  pub tells : told_by link ≡ Some state
  pub made : made_by link ≡ obedient
  pub opened : opened_by link ≡ Some (opening_of built_in_config (small_script fates))
  pub played : IsPlayOf built_in_config (small_script fates) (told_by link) closed

-- ---- its sessions

-- the first datagram is lost, and the closing one comes
abbrev pub first_lost : List Step
first_lost = Pump last_receives ∷ closing_on lost_session

-- the first one comes, and the closing one is lost
abbrev pub last_lost : List Step
last_lost = Pump (Empty ∷ []) ∷ closing_on first_session

-- both are lost
abbrev pub both_lost : List Step
both_lost = Pump (Empty ∷ []) ∷ closing_on lost_session

-- the closed session is what these steps leave, which its report tells; its reader has this row and this number, or waits for this
pub record EndsBehind (steps : List Step) (closed : Closed) (row : Option (List DataValue)) (number : Option ℕ) (why : Why) : Type 0 where
  pub after : IsClosedAfter small_plan steps closed
  pub row_is : (reader_at small_plan.config 0 0 steps).kept.row ≡ row
  pub number_is : (reader_at small_plan.config 0 0 steps).kept.number ≡ number
  pub why_is : (reader_at small_plan.config 0 0 steps).kept.why ≡ why
