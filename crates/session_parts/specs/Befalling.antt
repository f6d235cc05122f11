-- What looks at the timers and cuts make of read groups, whatever befell them before.
use Rattle.std.specs.Prelude.{◌≡◌, ℕ, List, ◌∷◌, Bool}
use Rattle.dataset_meta.specs.Rows.{cons_if}
use Rattle.ps_config.specs.declared.parts.Config.{Config}
use Rattle.ps_config.specs.declared.parts.ReadGroupPart.{ReadGroupPart}
use Rattle.pubsub_model.specs.declared.reading.Why.TheVariants.{Restarted}
use Rattle.pubsub_states.specs.declared.component.Component.{Component}
use Rattle.reader_group.specs.declared.group.ReaderGroup.{ReaderGroup}
use Rattle.reader_group.specs.Groups.{IsMadeOf, Stands as ReadingStands}
use Rattle.reader_group.specs.Plain.{Event, Expired, PlainGroup, Setting, Stopped}
use Rattle.reader_group.specs.Settings.{group_at}
use Rattle.session_model.specs.Events.{stopped_below}
use Rattle.session_model.specs.Readings.{Reading, read_on}
use Rattle.session_parts.specs.declared.subscriber.Subscriber.{Subscriber}
use Rattle.session_parts.specs.Holding.{HoldSubscriber}
use Rattle.session_parts.specs.Standing.{HaveReadAll}

-- ---- all read groups

-- whichever configuration the read groups hold of, they still do
abbrev pub StillHold : Subscriber → Subscriber → Type 0
StillHold old new = (config : Config) → HoldSubscriber config old → HoldSubscriber config new

-- a look at the timers at this moment befell each read group besides
abbrev pub HaveExpired : ℕ → Subscriber → Subscriber → Type 0
HaveExpired moment old new =
    (config : Config) (from : ℕ → Reading) (befell : ℕ → List Event) → HoldSubscriber config old
    → HaveReadAll config from befell old.groups.items
    → HaveReadAll config from (λ r. Expired moment ∷ befell r) new.groups.items

-- cuts of the readers at or below the component befell each read group besides
abbrev pub HaveStoppedBelow : Config → Component → Subscriber → Subscriber → Type 0
HaveStoppedBelow config component old new =
    (from : ℕ → Reading) (befell : ℕ → List Event) → HaveReadAll config from befell old.groups.items
    → HaveReadAll config from (λ r. stopped_below config r component (befell r)) new.groups.items

-- ---- one read group

-- whichever configuration a read group was made of, it still is
abbrev pub StaysMadeOf : ReaderGroup → ReaderGroup → Type 0
StaysMadeOf old new = (config : Config) → IsMadeOf config old → IsMadeOf config new

-- the read group with this index, which the configuration has as this part, is where cuts of its readers at or below the component
-- take its plain reading
abbrev pub IsStoppedBelow : Component → ℕ → ReadGroupPart → ReaderGroup → ReaderGroup → Type 0
IsStoppedBelow component r part old new =
    (config : Config) (setting : Setting) (value : PlainGroup) (befell : List Event) → part ≡ group_at config r
    → ReadingStands setting (read_on setting value befell) old
    → ReadingStands setting (read_on setting value (stopped_below config r component befell)) new

-- the read group is where a cut of this reader takes its plain reading where the truth value tells of one, and else where it was
abbrev pub IsStoppedIf : Bool → ℕ → ReaderGroup → ReaderGroup → Type 0
IsStoppedIf is_stopped reader old new =
    (setting : Setting) (value : PlainGroup) (befell : List Event) → ReadingStands setting (read_on setting value befell) old
    → ReadingStands setting (read_on setting value (cons_if is_stopped (Stopped reader Restarted) befell)) new
