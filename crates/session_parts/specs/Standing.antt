-- Where a session stands after what it lived through. Lists of steps and of deeds have the latest first.
use Rattle.std.specs.Prelude.{◌≡◌, ℕ, ◌<◌, List, length, count_by, Bool, Result}
use Rattle.std.specs.List.{HoldsAt}
use Rattle.dataset_meta.specs.Metas.{MetaData}
use Rattle.ua_base.specs.Journal.{Entry}
use Rattle.message_guard.specs.Senders.{SenderState}
use Rattle.ps_config.specs.declared.parts.Config.{Config}
use Rattle.pubsub_states.specs.declared.component.Component.{Component}
use Rattle.pubsub_states.specs.declared.flags.Flags.{Flags}
use Rattle.pubsub_states.specs.Components.{IsAmong}
use Rattle.pubsub_states.specs.Changes.{TreeValue, flags_in}
use Rattle.reader_group.specs.declared.refusal.Taken.{Taken}
use Rattle.reader_group.specs.declared.refusal.Refusal.{Refusal}
use Rattle.reader_group.specs.declared.group.ReaderGroup.{ReaderGroup}
use Rattle.reader_group.specs.Groups.{Stands as ReadingStands}
use Rattle.reader_group.specs.Plain.{Event}
use Rattle.writer_group.specs.declared.group.Group.{Group}
use Rattle.writer_group.specs.Standing.{IsGroup, metas_for}
use Rattle.session_model.specs.Steps.{Plan, Step}
use Rattle.session_model.specs.Deeds.{Deed, deeds, group_past, sender_after}
use Rattle.writer_group.specs.Parts.{group_at}
use Rattle.session_model.specs.Sends.{sent_by, is_failing}
use Rattle.session_model.specs.Answers.{counted, taken_by, causes_by}
use Rattle.session_model.specs.Readings.{Reading, goes_on, reading_at, setting_in}
use Rattle.session_model.specs.Closing.{is_sent, is_send_failed, is_got, is_broken, is_long, limits}
use Rattle.session_parts.specs.declared.sends.GroupSends.{GroupSends}
use Rattle.session_parts.specs.declared.sends.LinkSends.{LinkSends}
use Rattle.session_parts.specs.declared.tally.Tally.{Tally}
use Rattle.session_parts.specs.declared.receiving.Receiving.{Receiving}

-- ---- the publisher

-- each group stands where these deeds leave it, with these metas
abbrev pub HavePast : Config → List MetaData → List Deed → List Group → Type 0
HavePast config metas deeds groups =
    (g : ℕ) → g < length config.group
    → HoldsAt (IsGroup (metas_for (group_at config g) metas) (group_at config g) (group_past config g deeds)) groups g

-- each sender is where these deeds leave it
abbrev pub HaveSent : Config → List Deed → List SenderState → Type 0
HaveSent config deeds senders =
    (k : ℕ) → k < length config.keygroup → HoldsAt (λ sender. sender ≡ sender_after config k deeds) senders k

pub record IsOfGroup (done : ℕ) (failing : Bool) (sends : GroupSends) : Type 0 where
  pub done_are : sends.done ≡ counted done
  pub failing_is : sends.is_failing ≡ failing

-- each group's sends ended so
abbrev pub HaveOutcomesOf : Config → (ℕ → ℕ) → (ℕ → Bool) → List GroupSends → Type 0
HaveOutcomesOf config sent failing sends =
    (g : ℕ) → g < length config.group → HoldsAt (IsOfGroup (sent g) (failing g)) sends g

abbrev pub HaveOutcomes : Plan → List Step → List GroupSends → Type 0
HaveOutcomes p steps sends = HaveOutcomesOf p.config (λ g. sent_by p g steps) (λ g. is_failing p g steps) sends

-- the sends that a journal has
pub record AreSendsIn (entries : List Entry) (sends : LinkSends) : Type 0 where
  pub done : sends.done ≡ counted (count_by is_sent entries)
  pub failed : sends.failed ≡ counted (count_by is_send_failed entries)

-- ---- the subscriber

-- each read group stands so
abbrev pub HaveReadings : Config → (ℕ → Reading) → List ReaderGroup → Type 0
HaveReadings config readings groups =
    (r : ℕ) → r < length config.readgroup → HoldsAt (ReadingStands (setting_in config r (readings r)) (readings r).value) groups r

-- where it stood so, once these befell it
abbrev pub HaveReadAll : Config → (ℕ → Reading) → (ℕ → List Event) → List ReaderGroup → Type 0
HaveReadAll config from befell groups = HaveReadings config (λ r. goes_on config r (from r) (befell r)) groups

-- each read group is where the plain reading of what befell it is
abbrev pub HaveRead : Config → List Step → List ReaderGroup → Type 0
HaveRead config steps groups = HaveReadings config (reading_at config steps) groups

pub record IsTallyOf (answers : List (Result Taken Refusal)) (tally : Tally) : Type 0 where
  pub taken : tally.taken ≡ taken_by answers
  pub causes : tally.causes ≡ causes_by answers

-- each tally is that of the answers
abbrev pub HaveTallies : Config → (ℕ → Reading) → List Tally → Type 0
HaveTallies config readings tallies = (r : ℕ) → r < length config.readgroup → HoldsAt (IsTallyOf (readings r).answered) tallies r

abbrev pub HaveTalliedAll : Config → (ℕ → Reading) → (ℕ → List Event) → List Tally → Type 0
HaveTalliedAll config from befell tallies = HaveTallies config (λ r. goes_on config r (from r) (befell r)) tallies

abbrev pub HaveTallied : Config → List Step → List Tally → Type 0
HaveTallied config steps tallies = HaveTallies config (reading_at config steps) tallies

-- the receives that a journal has, and the pumps that ended at their limit
pub record AreReceivesIn (entries : List Entry) (steps : List Step) (receiving : Receiving) : Type 0 where
  pub received : receiving.received ≡ counted (count_by is_got entries)
  pub broken : receiving.broken ≡ counted (count_by is_broken entries)
  pub long : receiving.long ≡ counted (count_by is_long entries)
  pub limit : receiving.limit ≡ counted (limits steps)

-- ---- the states

abbrev pub HasFlags : (Component → Flags) → TreeValue → Type 0
HasFlags flags tree = (component : Component) → IsAmong tree.counts component → flags_in tree component ≡ flags component
