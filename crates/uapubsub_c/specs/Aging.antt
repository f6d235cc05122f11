-- What calls tell C of the age of rows, and of timeouts.
use Rattle.std.specs.Prelude.{ℕ, All, None, Result}
use Rattle.std.specs.List.{Any}
use Rattle.device.specs.Due.{AreInTime, HasTimeout, IsFirst, IsNever}
use Rattle.device.specs.Readings.{HasAge, IsConfirmedFor, IsFreshFor, IsStale}
use Rattle.device.specs.declared.subscriber.Subscriber.{Subscriber}
use Rattle.uapubsub_c.specs.Answers.{Answers}
use Rattle.uapubsub_c.specs.Reading.{HasNoReader}
use Rattle.uapubsub_c.specs.declared.status.Status.{Status}
use Rattle.uapubsub_c.specs.declared.status.Status.TheVariants.{Index, Nothing, Stale}

-- there is no such reader; or there is one, and it holds no row
abbrev pub IsAgeless : ℕ → ℕ → Subscriber → Status → Type 0
IsAgeless group reader subscriber Index = HasNoReader group reader subscriber
IsAgeless group reader subscriber Nothing = IsConfirmedFor group reader None subscriber
IsAgeless group reader subscriber other = ⊥

abbrev pub TellsAge : ℕ → ℕ → ℕ → Subscriber → Result ℕ Status → Type 0
TellsAge group reader now subscriber answer = Answers (λ age. HasAge group reader now age subscriber) (IsAgeless group reader subscriber) answer

-- a row is held, and it is older than the bound
pub record IsTooOld (group reader now bound : ℕ) (subscriber : Subscriber) : Type 0 where
  pub age : ℕ
  pub has : HasAge group reader now age subscriber
  pub stale : IsStale group reader now bound subscriber

-- there is no such reader; there is one that holds no row; or it holds one that is older than the bound
abbrev pub IsUnfresh : ℕ → ℕ → ℕ → ℕ → Subscriber → Status → Type 0
IsUnfresh group reader now bound subscriber Index = HasNoReader group reader subscriber
IsUnfresh group reader now bound subscriber Nothing = IsConfirmedFor group reader None subscriber
IsUnfresh group reader now bound subscriber Stale = IsTooOld group reader now bound subscriber
IsUnfresh group reader now bound subscriber other = ⊥

abbrev pub TellsFresh : ℕ → ℕ → ℕ → ℕ → Subscriber → Result Unit Status → Type 0
TellsFresh group reader now bound subscriber answer =
    Answers (λ value. IsFreshFor group reader now bound subscriber) (IsUnfresh group reader now bound subscriber) answer

-- no reader's timeout passes at the moment
abbrev pub IsInTime : Subscriber → ℕ → Type 0
IsInTime subscriber t = All (AreInTime t) subscriber.groups.items

-- one reader's does
abbrev pub TimesOut : Subscriber → ℕ → Type 0
TimesOut subscriber t = Any (HasTimeout t) subscriber.groups.items

-- none passes from now on
abbrev pub NeverTimesOut : ℕ → Subscriber → Status → Type 0
NeverTimesOut now subscriber Nothing = IsNever now (IsInTime subscriber)
NeverTimesOut now subscriber other = ⊥

abbrev pub TellsTimeout : ℕ → Subscriber → Result ℕ Status → Type 0
TellsTimeout now subscriber answer =
    Answers (λ moment. IsFirst now (IsInTime subscriber) (TimesOut subscriber) moment) (NeverTimesOut now subscriber) answer
