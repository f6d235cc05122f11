-- What a session lives through where rings renew its keys, the latest first, and what becomes of it. It is as after steps alone, but that a
-- key group's sender and the read groups that share its keys go on with those of its last ring.
use Rattle.std.specs.Prelude.{◌≡◌, ◌<◌, ⊤, ℕ, ◌+◌, List, [], ◌∷◌, ◌++◌, length, map, zip, count_by, Bool, true, false, ◌||◌}
use Rattle.pubsub_model.specs.Cadence.{log_of}
use Rattle.dataset_writer.specs.Turns.{model_settings}
use Rattle.writer_group.specs.Parts.{group_at as write_group_at}
use Rattle.writer_group.specs.Payloads.{writer_at}
use Rattle.writer_group.specs.Turns.{settings_of, writer_past}
use Rattle.group_keys.specs.declared.key_set.KeySet.{KeySet}
use Rattle.message_guard.specs.Protection.{keys_in}
use Rattle.ua_base.specs.Journal.{Entry}
use Rattle.ps_config.specs.declared.parts.Config.{Config}
use Rattle.reader_group.specs.Members.{seat_at}
use Rattle.reader_group.specs.Plain.{Event, Expired, member_at}
use Rattle.reader_group.specs.Settings.{group_at, setting_of}
use Rattle.session_model.specs.Counts.{most_taken}
use Rattle.pubsub_states.specs.declared.component.Component.{Component}
use Rattle.pubsub_states.specs.declared.component.Component.TheVariants.{Root, Connection, Group, Writer, ReadGroup, Reader}
use Rattle.pubsub_states.specs.declared.flags.Flags.{Flags}
use Rattle.pubsub_states.specs.declared.state.State.{State}
use Rattle.pubsub_states.specs.States.{state_of}
use Rattle.session_model.specs.Steps.{Plan, Step, Enable, Disable, Append, Tick, Pump, is_on, moment_of}
use Rattle.session_model.specs.Deeds.{Deed, RefreshedBelow, RefreshedSet, RenewedKeys, component_at, deeds, group_past, is_spent, tick_deeds}
use Rattle.session_model.specs.Turns.{HoldsIfTurned, deeds_till}
use Rattle.session_model.specs.Sends.{IsPump, is_done_by, is_failing, journal, last_failed, last_sends, send_entries, sent_by}
use Rattle.session_model.specs.Events.{got_all, stopped_below}
use Rattle.session_model.specs.Stores.{Store, held_by, stored_on, stores}
use Rattle.session_model.specs.Readings.{Reading, goes_on, reading_at, reads_with, rekeyed_if}

-- a step, or a ring with these sets for a key group
pub data Lived : Type 0 where
  Stepped : (step : Step) → Lived
  Renewed : (keygroup : ℕ) (sets : List KeySet) → Lived

-- the steps of a life
abbrev pub steps_in : List Lived → List Step
steps_in [] = []
steps_in (Stepped step ∷ before) = step ∷ steps_in before
steps_in (Renewed keygroup sets ∷ before) = steps_in before

-- what became of a session: what its publisher did, the journal, how many sends of each group were done and whether its last one failed, where
-- each read group stands, and the stores of each reader
pub record Account : Type 0 where
  pub deeds : List Deed
  pub journal : List Entry
  pub sent : ℕ → ℕ
  pub failing : ℕ → Bool
  pub readings : ℕ → Reading
  pub stores : ℕ → ℕ → List Store

-- after these steps, where no ring renewed it
abbrev pub account_of : Plan → List Step → Account
account_of p steps = record {
  deeds = deeds p steps;
  journal = journal p steps;
  sent = λ g. sent_by p g steps;
  failing = λ g. is_failing p g steps;
  readings = λ r. reading_at p.config steps r;
  stores = λ r i. stores p.config r i steps;
}

-- ---- a step more

-- what a step brings a read group
abbrev pub befalls : Config → List Step → Step → ℕ → List Event
befalls config before (Enable id) r = []
befalls config before (Disable id) r = stopped_below config r (component_at config id) []
befalls config before (Append set field) r = []
befalls config before (Tick ms closing samples done) r = Expired (moment_of before + ms) ∷ []
befalls config before (Pump entries) r = got_all config before r entries []

-- where it leaves the group
abbrev pub reading_after : Config → List Step → Step → Account → ℕ → Reading
reading_after config before step a r = goes_on config r (a.readings r) (befalls config before step r)

-- what is held at the end of a pump is stored
abbrev pub stores_after : Config → List Step → Step → Account → ℕ → ℕ → List Store
stores_after config before step a r i =
    stored_on (seat_at (setting_of config r).seats i).part.numbering (a.stores r i) (held_by (member_at (reading_after config before step a r).value.members i))

-- what became of a session with a step after these
abbrev pub stepped : Plan → List Step → Account → Step → Account
stepped p before a (Enable id) = record a { deeds = RefreshedBelow (component_at p.config id) ∷ a.deeds }
stepped p before a (Disable id) = record a { readings = reading_after p.config before (Disable id) a }
stepped p before a (Append set field) = record a { deeds = RefreshedSet set ∷ a.deeds }
stepped p before a (Tick ms closing samples done) =
    let after = tick_deeds p before (moment_of before + ms) closing samples a.deeds in
    let sends = zip (last_sends after) done in record {
      deeds = after;
      journal = a.journal ++ send_entries (last_sends after) done;
      sent = λ g. a.sent g + count_by (is_done_by g) sends;
      failing = λ g. last_failed g sends;
      readings = reading_after p.config before (Tick ms closing samples done) a;
      stores = a.stores;
    }
stepped p before a (Pump entries) = record a {
  journal = a.journal ++ entries;
  readings = reading_after p.config before (Pump entries) a;
  stores = stores_after p.config before (Pump entries) a;
}

-- once a ring renewed a key group
abbrev pub renewed : Config → ℕ → List KeySet → Account → Account
renewed config keygroup sets a = record a {
  deeds = RenewedKeys keygroup sets ∷ a.deeds;
  readings = λ r. rekeyed_if (reads_with (group_at config r) keygroup) (map keys_in sets) (a.readings r);
}

-- what becomes of a session in a life
abbrev pub account_in : Plan → List Lived → Account
account_in p [] = account_of p []
account_in p (Stepped step ∷ before) = stepped p (steps_in before) (account_in p before) step
account_in p (Renewed keygroup sets ∷ before) = renewed p.config keygroup sets (account_in p before)

-- what the writer logged in a life: the place and the version of each of its data frames
abbrev pub log_in : Plan → List Lived → ℕ → ℕ → List (ℕ × ℕ)
log_in p life g w =
    log_of (model_settings (settings_of (writer_at (write_group_at p.config g) w))) (writer_past w (group_past p.config g (account_in p life).deeds))

-- ---- what each step keeps to

-- what it sends is told to be done or not, and a pump ends as it may
abbrev pub IsRunOn : Plan → List Step → Account → Step → Type 0
IsRunOn p before a (Enable id) = ⊤
IsRunOn p before a (Disable id) = ⊤
IsRunOn p before a (Append set field) = ⊤
IsRunOn p before a (Tick ms closing samples done) =
    length done ≡ length (last_sends (tick_deeds p before (moment_of before + ms) closing samples a.deeds))
IsRunOn p before a (Pump entries) = IsPump most_taken entries

abbrev pub IsRunIn : Plan → List Lived → Type 0
IsRunIn p [] = ⊤
IsRunIn p (Stepped step ∷ before) = IsRunOn p (steps_in before) (account_in p before) step × IsRunIn p before
IsRunIn p (Renewed keygroup sets ∷ before) = IsRunIn p before

-- what the making of its turns promised
abbrev pub TurnsHoldOn : Plan → List Step → Account → Step → Type 0
TurnsHoldOn p before a (Enable id) = ⊤
TurnsHoldOn p before a (Disable id) = ⊤
TurnsHoldOn p before a (Append set field) = ⊤
TurnsHoldOn p before a (Tick ms closing samples done) =
    (g : ℕ) → g < length p.config.group → let now = moment_of before + ms in
    HoldsIfTurned p before now closing samples (deeds_till p before now closing samples a.deeds g) g
TurnsHoldOn p before a (Pump entries) = ⊤

abbrev pub TurnsHoldIn : Plan → List Lived → Type 0
TurnsHoldIn p [] = ⊤
TurnsHoldIn p (Stepped step ∷ before) = TurnsHoldOn p (steps_in before) (account_in p before) step × TurnsHoldIn p before
TurnsHoldIn p (Renewed keygroup sets ∷ before) = TurnsHoldIn p before

-- ---- the states

-- whether a reader timed out and no message came since
abbrev pub late_in : (ℕ → Reading) → ℕ → ℕ → Bool
late_in readings r i = (member_at (readings r).value.members i).late

-- whether it is ready
abbrev pub ready_in : (ℕ → Reading) → ℕ → ℕ → Bool
ready_in readings r i = (member_at (readings r).value.members i).ready

-- faults as after steps alone
abbrev pub has_fault_by : Config → Account → Component → Bool
has_fault_by config a Root = false
has_fault_by config a Connection = false
has_fault_by config a (Group g) = a.failing g || is_spent config g a.deeds
has_fault_by config a (Writer g w) = false
has_fault_by config a (ReadGroup r) = false
has_fault_by config a (Reader r i) = late_in a.readings r i

abbrev pub is_ready_by : (ℕ → Reading) → Component → Bool
is_ready_by readings Root = true
is_ready_by readings Connection = true
is_ready_by readings (Group g) = true
is_ready_by readings (Writer g w) = true
is_ready_by readings (ReadGroup r) = true
is_ready_by readings (Reader r i) = ready_in readings r i

-- which flags a component has after these steps of a life with this account
abbrev pub flags_by : Config → List Step → Account → Component → Flags
flags_by config steps a component =
    record { enabled = is_on config steps component; fault = has_fault_by config a component; ready = is_ready_by a.readings component }

-- State
abbrev pub state_by : Config → List Step → Account → Component → State
state_by config steps a component = state_of (flags_by config steps a) component

-- in a life
abbrev pub state_in : Plan → List Lived → Component → State
state_in p life component = state_by p.config (steps_in life) (account_in p life) component
