-- What the lines of a gateway tell.
use Rattle.std.specs.Prelude.{◌≡◌, ℕ, ◌<◌, Bool, List, length, count_by, Option, Some, None}
use Rattle.dataset_meta.specs.DataValues.{DataValue}
use Rattle.dataset_reader.specs.Kept.{Kept}
use Rattle.ua_base.specs.Journal.{Entry}
use Rattle.ps_config.specs.declared.parts.Config.{Config}
use Rattle.writer_group.specs.Parts.{group_at}
use Rattle.session_model.specs.Answers.{counted}
use Rattle.session_model.specs.Closing.{is_got, is_send_failed, is_sent}
use Rattle.session_model.specs.Deeds.{log_at}
use Rattle.session_model.specs.Events.{reader_at}
use Rattle.session_model.specs.Sends.{journal}
use Rattle.session_model.specs.Steps.{Step}
use Rattle.session_laws.specs.Reading.{IsMatchedIn}
use Rattle.gateway_core.specs.declared.collected.StoreVersion.{StoreVersion}
use Rattle.gateway_core.specs.Lived.{plan_again}
use Rattle.cmd_relay.specs.Texts.{store_held, version_held}

-- ---- the same

-- a row that is held has one number, one store and one version of this
pub record AreStoredAlike (one other : Kept) (store its version theirs : Option ℕ) : Type 0 where
  pub number : one.number ≡ other.number
  pub store_is : store ≡ its
  pub version_is : version ≡ theirs

-- one row is held, or none for one reason
pub record AreHeldAlike (one other : Kept) (store its version theirs : Option ℕ) : Type 0 where
  pub row : one.row ≡ other.row
  pub waits : one.row ≡ None → one.why ≡ other.why
  pub holds : (held : List DataValue) → one.row ≡ Some held → AreStoredAlike one other store its version theirs

-- the same of a reader that is matched to this writer
abbrev pub AreRelayedAlike : Config → List Step → List Step → (ℕ → List StoreVersion) → (ℕ → List StoreVersion) → ℕ → ℕ → ℕ → ℕ → Type 0
AreRelayedAlike second steps others kept stores r i g w =
    AreHeldAlike (reader_at second r i steps).kept (reader_at second r i others).kept
    (store_held second steps r i g w) (store_held second others r i g w)
    (version_held second steps kept r i g w) (version_held second others stores r i g w)

-- as many entries of a journal pass the test, as far as 64 bits count
abbrev pub AreCountedAlike : Config → List Step → List Step → (Entry → Bool) → Type 0
AreCountedAlike second steps others test =
    counted (count_by test (journal (plan_again second) steps)) ≡ counted (count_by test (journal (plan_again second) others))

-- each data frame of each writer has the same place and the same store; each matched reader is described alike; and as many datagrams were sent, couldn't be sent and
-- were received
pub record AreGatewaysAlike (second : Config) (steps others : List Step) (kept stores : ℕ → List StoreVersion) : Type 0 where
  pub logs : (g w : ℕ) → w < length (group_at second g).writer → log_at (plan_again second) g w steps ≡ log_at (plan_again second) g w others
  pub readers : (r i g w : ℕ) → g < length second.group → IsMatchedIn second r i g w → AreRelayedAlike second steps others kept stores r i g w
  pub sent : AreCountedAlike second steps others is_sent
  pub failed : AreCountedAlike second steps others is_send_failed
  pub received : AreCountedAlike second steps others is_got
