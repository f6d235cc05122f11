-- What a call answers, and how it leaves what a handle holds.
use Rattle.std.specs.Prelude.{◌≡◌, ℕ, ◌<◌, Result, Ok, Err, IfErr, IfOk}
use Rattle.std.specs.Borrow.{MutBor}
use Rattle.std.specs.Fn.{FnOnceReturnsAtMut}
use denote.Param.Members.{Once}
use denote.Ref.{Bor}
use Rattle.ps_config.specs.declared.parts.Config.{Config}
use Rattle.device.specs.declared.publisher.Publisher.{Publisher as PublisherValue}
use Rattle.device.specs.declared.subscriber.Subscriber.{Subscriber as SubscriberValue}
use Rattle.device.specs.Sides.{IsPublisher, IsSubscriber}
use Rattle.uapubsub_c.specs.Handles.{Holds, IsReady, Tells, config_in}
use Rattle.uapubsub_c.specs.Numbers.{number_of}
use Rattle.uapubsub_c.specs.declared.handle.Handle.{Handle}
use Rattle.uapubsub_c.specs.declared.kept.Kept.{Kept}
use Rattle.uapubsub_c.specs.declared.kept.Kept.TheVariants.{Publisher, Subscriber}
use Rattle.uapubsub_c.specs.declared.status.Status.{Status}
use Rattle.uapubsub_c.specs.declared.status.Status.TheVariants.{Closed, OtherSide}

-- ---- answers

-- with UAP_OK this holds of what is told, else that of the status
abbrev pub Answers : {T : Type 0} → (T → Type 0) → (Status → Type 0) → Result T Status → Type 0
Answers tells why (Ok value) = tells value
Answers tells why (Err status) = why status

-- with UAP_OK it was done, else nothing changed, and this holds of the status
abbrev pub Does : {S : Type 0} → (S → S → Type 0) → (S → Status → Type 0) → S → Result Unit Status → S → Type 0
Does done why old (Ok value) new = done old new
Does done why old (Err status) new = (new ≡ old) × why old status

-- the index is past 255, and no list is so long
abbrev pub IsLarge : ℕ → Type 0
IsLarge index = 255 < index

-- ---- of what a handle holds

-- the publisher moves so; a subscriber stays, and it is the other side
abbrev pub OfPublisher : {T : Type 0} → (PublisherValue → Result T Status → PublisherValue → Type 0) → Kept → Result T Status → Kept → Type 0
OfPublisher moves (Publisher old) answer (Publisher new) = moves old answer new
OfPublisher moves (Publisher old) answer (Subscriber new) = ⊥
OfPublisher moves (Subscriber old) answer new = (new ≡ Subscriber old) × (answer ≡ Err OtherSide)

-- the subscriber moves so; a publisher stays, and it is the other side
abbrev pub OfSubscriber : {T : Type 0} → (SubscriberValue → Result T Status → SubscriberValue → Type 0) → Kept → Result T Status → Kept → Type 0
OfSubscriber moves (Subscriber old) answer (Subscriber new) = moves old answer new
OfSubscriber moves (Subscriber old) answer (Publisher new) = ⊥
OfSubscriber moves (Publisher old) answer new = (new ≡ Publisher old) × (answer ≡ Err OtherSide)

-- it stays, and this is told of it
pub record Stays {S T : Type 0} (says : S → Result T Status → Type 0) (old : S) (answer : Result T Status) (new : S) : Type 0 where
  pub same : new ≡ old
  pub so : says old answer

-- the configuration of either side tells this, and the side stays
pub record OfConfig {T : Type 0} (says : Config → Result T Status → Type 0) (old : Kept) (answer : Result T Status) (new : Kept) : Type 0 where
  pub same : new ≡ old
  pub so : says (config_in old) answer

-- ---- of a handle

-- the handle may be called again; a closed one stays as it was, and says so; what an open one holds moves so
pub record Answered {T : Type 0} (moves : Kept → Result T Status → Kept → Type 0) (old : Handle) (answer : Result T Status) (new : Handle) : Type 0 where
  pub ready : IsReady new
  pub closed : old.is_open ≡ 0 → (answer ≡ Err Closed) × (new ≡ old)
  pub opened : (was : Kept) → Holds was old → Tells new (moves was answer)

-- C sees an answer of which this holds by this number
pub record IsSeen {T : Type 0} (says : Result T Status → Type 0) (number : ℕ) : Type 0 where
  pub answer : Result T Status
  pub is : says answer
  pub number_is : number ≡ number_of answer

-- the same, and with UAP_OK its value stands where this value stood; else that stays
pub record IsTold {T : Type 0} (says : Result T Status → Type 0) (number : ℕ) (was is : T) : Type 0 where
  pub answer : Result T Status
  pub so : says answer
  pub number_is : number ≡ number_of answer
  pub told : IfOk answer (λ value. is ≡ value)
  pub untold : IfErr answer (λ status. is ≡ was)

-- a call of a handle that tells nothing but its status
abbrev pub Calls : (Kept → Result Unit Status → Kept → Type 0) → Handle → ℕ → Handle → Type 0
Calls moves old number new = IsSeen (λ answer. Answered moves old answer new) number

-- a call of a handle that tells a value
abbrev pub Asks : {T : Type 0} → (Kept → Result T Status → Kept → Type 0) → Handle → ℕ → T → T → Handle → Type 0
Asks moves old number was is new = IsTold (λ answer. Answered moves old answer new) number was is

-- ---- closures

module _ {F : Type 0} where
  -- it may be called with each publisher, and leaves one
  pub record MovesPublisher (g : Once F (MutBor PublisherValue × Unit {0}) (Result Unit Status × (MutBor PublisherValue × Unit {0}))) (f : F) : Type 0 where
    pub callable : (shown : MutBor PublisherValue) → IsPublisher shown.now → g.pre f (shown, tt)
    pub leaves : (old : PublisherValue) (answer : Result Unit Status) (new : PublisherValue)
        → IsPublisher old → FnOnceReturnsAtMut g f old answer new → IsPublisher new

  -- it may be called with each subscriber, and leaves one
  pub record MovesSubscriber (g : Once F (MutBor SubscriberValue × Unit {0}) (Result Unit Status × (MutBor SubscriberValue × Unit {0}))) (f : F) : Type 0 where
    pub callable : (shown : MutBor SubscriberValue) → IsSubscriber shown.now → g.pre f (shown, tt)
    pub leaves : (old : SubscriberValue) (answer : Result Unit Status) (new : SubscriberValue)
        → IsSubscriber old → FnOnceReturnsAtMut g f old answer new → IsSubscriber new

  -- it may be called with each publisher, or subscriber
  pub record AsksPublisher {T : Type 0} (g : Once F (Bor PublisherValue × Unit {0}) (Result T Status)) (f : F) : Type 0 where
    pub callable : (shown : Bor PublisherValue) → IsPublisher shown.now → g.pre f (shown, tt)

  pub record AsksSubscriber {T : Type 0} (g : Once F (Bor SubscriberValue × Unit {0}) (Result T Status)) (f : F) : Type 0 where
    pub callable : (shown : Bor SubscriberValue) → IsSubscriber shown.now → g.pre f (shown, tt)
