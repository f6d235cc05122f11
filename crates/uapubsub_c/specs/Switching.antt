-- Writers and readers that C switches on and off.
use Rattle.std.specs.Prelude.{ℕ, ◌⊎◌, Bool, Result}
use Rattle.device.specs.Readings.{HasReaderSwitched}
use Rattle.device.specs.Sides.{HasNoWriter, HasWriterSwitched}
use Rattle.device.specs.declared.publisher.Publisher.{Publisher}
use Rattle.device.specs.declared.subscriber.Subscriber.{Subscriber}
use Rattle.uapubsub_c.specs.Answers.{Does, IsLarge}
use Rattle.uapubsub_c.specs.Reading.{IsAbsent}
use Rattle.uapubsub_c.specs.declared.status.Status.{Status}
use Rattle.uapubsub_c.specs.declared.status.Status.TheVariants.{Index}

-- one of the indexes is past 255, or there is no such group or writer
abbrev pub IsNoWriter : ℕ → ℕ → Publisher → Status → Type 0
IsNoWriter group writer publisher Index = (IsLarge group ⊎ IsLarge writer) ⊎ HasNoWriter group writer publisher
IsNoWriter group writer publisher other = ⊥

abbrev pub SwitchesWriter : ℕ → ℕ → Bool → Publisher → Result Unit Status → Publisher → Type 0
SwitchesWriter group writer on old answer new = Does (HasWriterSwitched group writer on) (IsNoWriter group writer) old answer new

abbrev pub SwitchesReader : ℕ → ℕ → Bool → Subscriber → Result Unit Status → Subscriber → Type 0
SwitchesReader group reader on old answer new = Does (HasReaderSwitched group reader on) (IsAbsent group reader) old answer new
