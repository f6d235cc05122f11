-- The first message numbers of writers that C gives.
use Rattle.std.specs.Prelude.{◌≡◌, ◌⊎◌, ℕ, ◌<◌, length, Result}
use Rattle.std.specs.List.{HoldsAt}
use Rattle.device.specs.declared.publisher.Publisher.{Publisher}
use Rattle.device.specs.Restarts.{HasBegunAt, MayNotBegin}
use Rattle.device.specs.Sides.{HasNoWriter, HasWriter}
use Rattle.uapubsub_c.specs.Answers.{Does, IsLarge}
use Rattle.uapubsub_c.specs.declared.status.Status.{Status}
use Rattle.uapubsub_c.specs.declared.status.Status.TheVariants.{Begun, Index}

-- there is such a group, and such a writer in it
pub record HasWriterIn (group writer : ℕ) (publisher : Publisher) : Type 0 where
  pub within : group < length publisher.sides.items
  pub has : HoldsAt (HasWriter writer) publisher.sides.items group

-- there is such a writer, whose group had a turn
pub record HasBegunBefore (group writer : ℕ) (publisher : Publisher) : Type 0 where
  pub there : HasWriterIn group writer publisher
  pub may_not : MayNotBegin group writer publisher

-- one of the indexes is past 255, or there is no such group or writer; or its group had a turn
abbrev pub IsUnbegun : ℕ → ℕ → Publisher → Status → Type 0
IsUnbegun group writer publisher Index = (IsLarge group ⊎ IsLarge writer) ⊎ HasNoWriter group writer publisher
IsUnbegun group writer publisher Begun = HasBegunBefore group writer publisher
IsUnbegun group writer publisher other = ⊥

abbrev pub BeginsWriter : ℕ → ℕ → ℕ → Publisher → Result Unit Status → Publisher → Type 0
BeginsWriter group writer number old answer new = Does (HasBegunAt group writer number) (IsUnbegun group writer) old answer new
