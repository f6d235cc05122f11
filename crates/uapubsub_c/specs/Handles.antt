-- What a handle holds.
use Rattle.std.specs.Prelude.{◌≡◌, ◌≢◌, ℕ, List, Ok, IsErr, Some, IfSome, IsSome}
use Rattle.std.specs.List.{AllZip}
use Rattle.ps_config.specs.declared.parts.Config.{Config}
use Rattle.ps_config.specs.Reading.{configuration}
use Rattle.device.specs.declared.publisher.Publisher.{Publisher as PublisherValue}
use Rattle.device.specs.declared.subscriber.Subscriber.{Subscriber as SubscriberValue}
use Rattle.device.specs.Sides.{AreOpeningListenings, AreOpeningSides, IsOpeningRow, IsOpeningSender, IsPublisher, IsSubscriber}
use Rattle.uapubsub_c.specs.declared.handle.Handle.{Handle}
use Rattle.uapubsub_c.specs.declared.kept.Kept.{Kept}
use Rattle.uapubsub_c.specs.declared.kept.Kept.TheVariants.{Publisher, Subscriber}

-- it may be called
abbrev pub IsSound : Kept → Type 0
IsSound (Publisher publisher) = IsPublisher publisher
IsSound (Subscriber subscriber) = IsSubscriber subscriber

-- the configuration that it was opened with
abbrev pub config_in : Kept → Config
config_in (Publisher publisher) = publisher.config
config_in (Subscriber subscriber) = subscriber.config

-- the handle is open, and this is behind its pointer
pub record Holds (kept : Kept) (handle : Handle) : Type 0 where
  pub is_open : handle.is_open ≢ 0
  pub held : handle.slot.held ≡ Some kept

-- where the handle is open, something is behind its pointer, and what is there may be called: so zeros are, and so each call leaves it
pub record IsReady (handle : Handle) : Type 0 where
  pub holds : handle.is_open ≢ 0 → IsSome handle.slot.held
  pub sound : IfSome handle.slot.held IsSound

-- what the handle holds is so
pub record Tells (handle : Handle) (says : Kept → Type 0) : Type 0 where
  pub kept : Kept
  pub holds : Holds kept handle
  pub is : says kept

-- the text is no configuration
abbrev pub IsRefused : List ℕ → Type 0
IsRefused text = IsErr (configuration text)

-- the handle holds a publisher of the configuration that the text is: each data set has its opening row, each key group a sender behind
-- the numbers that the configuration tells of, and each group stands before its first turn, with all writers on; no datagram waits
pub record OpensPublisher (text : List ℕ) (handle : Handle) : Type 0 where
  pub publisher : PublisherValue
  pub holds : Holds (Publisher publisher) handle
  pub config_is : configuration text ≡ Ok publisher.config
  pub rows : AllZip IsOpeningRow publisher.config.dataset publisher.rows.items
  pub senders : AllZip IsOpeningSender publisher.config.keygroup publisher.senders.items
  pub sides : AreOpeningSides publisher.config publisher.sides.items
  pub none_waits : publisher.made ≡ 0

-- the handle holds a subscriber of the configuration that the text is: each read group stands before anything, with all readers on
pub record OpensSubscriber (text : List ℕ) (handle : Handle) : Type 0 where
  pub subscriber : SubscriberValue
  pub holds : Holds (Subscriber subscriber) handle
  pub config_is : configuration text ≡ Ok subscriber.config
  pub groups : AreOpeningListenings subscriber.config subscriber.groups.items
