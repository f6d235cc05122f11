-- What follows of a call of a handle.
use Rattle.std.proofs.Common.{◌≡◌, ℕ, Result, Err, IfErr, IfOk, refl, subst, sym, ◌∙◌}
use Rattle.std.proofs.lemmas.Option.{same_Some}
use Rattle.ps_config.specs.declared.parts.Config.{Config}
use Rattle.device.specs.declared.publisher.Publisher.{Publisher as PublisherValue}
use Rattle.device.specs.declared.subscriber.Subscriber.{Subscriber as SubscriberValue}
use Rattle.uapubsub_c.specs.Answers.{Answered, Asks, Calls, OfConfig, OfPublisher, OfSubscriber, Stays}
use Rattle.uapubsub_c.specs.Handles.{Holds, IsReady, config_in}
use Rattle.uapubsub_c.specs.Numbers.{number_of}
use Rattle.uapubsub_c.specs.declared.handle.Handle.{Handle}
use Rattle.uapubsub_c.specs.declared.kept.Kept.{Kept}
use Rattle.uapubsub_c.specs.declared.kept.Kept.TheVariants.{Publisher, Subscriber}
use Rattle.uapubsub_c.specs.declared.status.Status.{Status}
use Rattle.uapubsub_c.specs.declared.status.Status.TheVariants.{Closed}

-- a handle holds one side
holds-one : (one other : Kept) (handle : Handle) → Holds one handle → Holds other handle → one ≡ other
holds-one one other handle first second = same_Some one other (sym first.held ∙ second.held)

module _ {T : Type 0} where
  -- a handle that was open, whose side moved so
  pub answered : (moves : Kept → Result T Status → Kept → Type 0) (old new : Handle) (was is : Kept) (answer : Result T Status)
      → Holds was old → IsReady new → Holds is new → moves was answer is → Answered moves old answer new
  answered moves old new was is answer held ready holds moved = record {
    ready = ready;
    closed = λ shut. absurd (held.is_open shut);
    opened = λ kept it. record { kept = is; holds = holds; is = subst (λ (k : Kept). moves k answer is) (holds-one was kept old held it) moved };
  }

  -- one that was closed
  pub answered-closed : (moves : Kept → Result T Status → Kept → Type 0) (old new : Handle)
      → IsReady new → old.is_open ≡ 0 → new ≡ old → Answered moves old (Err Closed) new
  answered-closed moves old new ready shut same = record {
    ready = ready;
    closed = λ is. (refl, same);
    opened = λ was held. absurd (held.is_open shut);
  }

  -- what follows of each move of what is held
  pub answered-too : (moves more : Kept → Result T Status → Kept → Type 0)
      → ((was : Kept) (answer : Result T Status) (is : Kept) → moves was answer is → more was answer is)
      → (old : Handle) (answer : Result T Status) (new : Handle) → Answered moves old answer new → Answered more old answer new
  answered-too moves more step old answer new is = record {
    ready = is.ready;
    closed = is.closed;
    opened = λ was holds. let told = is.opened was holds in record { kept = told.kept; holds = told.holds; is = step was answer told.kept told.is };
  }

  pub of-publisher-too : (moves more : PublisherValue → Result T Status → PublisherValue → Type 0)
      → ((old : PublisherValue) (answer : Result T Status) (new : PublisherValue) → moves old answer new → more old answer new)
      → (was : Kept) (answer : Result T Status) (is : Kept) → OfPublisher moves was answer is → OfPublisher more was answer is
  of-publisher-too moves more step (Publisher old) answer (Publisher new) moved = step old answer new moved
  of-publisher-too moves more step (Publisher old) answer (Subscriber new) moved = absurd moved
  of-publisher-too moves more step (Subscriber old) answer new moved = moved

  pub of-subscriber-too : (moves more : SubscriberValue → Result T Status → SubscriberValue → Type 0)
      → ((old : SubscriberValue) (answer : Result T Status) (new : SubscriberValue) → moves old answer new → more old answer new)
      → (was : Kept) (answer : Result T Status) (is : Kept) → OfSubscriber moves was answer is → OfSubscriber more was answer is
  of-subscriber-too moves more step (Subscriber old) answer (Subscriber new) moved = step old answer new moved
  of-subscriber-too moves more step (Subscriber old) answer (Publisher new) moved = absurd moved
  of-subscriber-too moves more step (Publisher old) answer new moved = moved

  pub asked-publisher : (says more : PublisherValue → Result T Status → Type 0)
      → ((publisher : PublisherValue) (answer : Result T Status) → says publisher answer → more publisher answer)
      → (old : Handle) (answer : Result T Status) (new : Handle) → Answered (OfPublisher (Stays says)) old answer new → Answered (OfPublisher (Stays more)) old answer new
  asked-publisher says more step old answer new is =
      answered-too (OfPublisher (Stays says)) (OfPublisher (Stays more))
      (of-publisher-too (Stays says) (Stays more) (λ was told now stays. record { same = stays.same; so = step was told stays.so })) old answer new is

  pub asked-subscriber : (says more : SubscriberValue → Result T Status → Type 0)
      → ((subscriber : SubscriberValue) (answer : Result T Status) → says subscriber answer → more subscriber answer)
      → (old : Handle) (answer : Result T Status) (new : Handle) → Answered (OfSubscriber (Stays says)) old answer new → Answered (OfSubscriber (Stays more)) old answer new
  asked-subscriber says more step old answer new is =
      answered-too (OfSubscriber (Stays says)) (OfSubscriber (Stays more))
      (of-subscriber-too (Stays says) (Stays more) (λ was told now stays. record { same = stays.same; so = step was told stays.so })) old answer new is

  pub asked-config : (says more : Config → Result T Status → Type 0)
      → ((config : Config) (answer : Result T Status) → says config answer → more config answer)
      → (old : Handle) (answer : Result T Status) (new : Handle) → Answered (OfConfig says) old answer new → Answered (OfConfig more) old answer new
  asked-config says more step old answer new is =
      answered-too (OfConfig says) (OfConfig more) (λ was told now stays. record { same = stays.same; so = step (config_in was) told stays.so }) old answer new is

-- ---- calls that tell nothing but their status

pub calls-publisher : (moves more : PublisherValue → Result Unit Status → PublisherValue → Type 0)
    → ((old : PublisherValue) (answer : Result Unit Status) (new : PublisherValue) → moves old answer new → more old answer new)
    → (old : Handle) (answer : Result Unit Status) (number : ℕ) (new : Handle)
    → Answered (OfPublisher moves) old answer new → number ≡ number_of answer → Calls (OfPublisher more) old number new
calls-publisher moves more step old answer number new is number_is = record {
  answer = answer;
  is = answered-too (OfPublisher moves) (OfPublisher more) (of-publisher-too moves more step) old answer new is;
  number_is = number_is;
}

pub calls-subscriber : (moves more : SubscriberValue → Result Unit Status → SubscriberValue → Type 0)
    → ((old : SubscriberValue) (answer : Result Unit Status) (new : SubscriberValue) → moves old answer new → more old answer new)
    → (old : Handle) (answer : Result Unit Status) (number : ℕ) (new : Handle)
    → Answered (OfSubscriber moves) old answer new → number ≡ number_of answer → Calls (OfSubscriber more) old number new
calls-subscriber moves more step old answer number new is number_is = record {
  answer = answer;
  is = answered-too (OfSubscriber moves) (OfSubscriber more) (of-subscriber-too moves more step) old answer new is;
  number_is = number_is;
}

pub asks-publisher : {T : Type 0} (says more : PublisherValue → Result T Status → Type 0)
    → ((asked : PublisherValue) (answer : Result T Status) → says asked answer → more asked answer)
    → (old : Handle) (answer : Result T Status) (number : ℕ) (was is : T) (new : Handle)
    → Answered (OfPublisher (Stays says)) old answer new → number ≡ number_of answer → IfOk answer (λ value. is ≡ value) → IfErr answer (λ status. is ≡ was)
    → Asks (OfPublisher (Stays more)) old number was is new
asks-publisher says more step old answer number was is new answered number_is told untold =
    record { answer = answer; so = asked-publisher says more step old answer new answered; number_is = number_is; told = told; untold = untold }

pub asks-subscriber : {T : Type 0} (says more : SubscriberValue → Result T Status → Type 0)
    → ((asked : SubscriberValue) (answer : Result T Status) → says asked answer → more asked answer)
    → (old : Handle) (answer : Result T Status) (number : ℕ) (was is : T) (new : Handle)
    → Answered (OfSubscriber (Stays says)) old answer new → number ≡ number_of answer → IfOk answer (λ value. is ≡ value) → IfErr answer (λ status. is ≡ was)
    → Asks (OfSubscriber (Stays more)) old number was is new
asks-subscriber says more step old answer number was is new answered number_is told untold =
    record { answer = answer; so = asked-subscriber says more step old answer new answered; number_is = number_is; told = told; untold = untold }

pub asks-config : {T : Type 0} (says more : Config → Result T Status → Type 0)
    → ((asked : Config) (answer : Result T Status) → says asked answer → more asked answer)
    → (old : Handle) (answer : Result T Status) (number : ℕ) (was is : T) (new : Handle)
    → Answered (OfConfig says) old answer new → number ≡ number_of answer → IfOk answer (λ value. is ≡ value) → IfErr answer (λ status. is ≡ was)
    → Asks (OfConfig more) old number was is new
asks-config says more step old answer number was is new answered number_is told untold =
    record { answer = answer; so = asked-config says more step old answer new answered; number_is = number_is; told = told; untold = untold }
