-- The two sides of a soak, between turns.
use Rattle.message_guard.specs.Senders.{IsSender}
use Rattle.ps_config.specs.declared.parts.Config.{Config}
use Rattle.reader_group.specs.Groups.{IsMadeOf}
use Rattle.writer_group.specs.Standing.{IsGood, IsReserved, KeepsTo}
use Rattle.bench_soak.specs.declared.publisher.Publisher.{Publisher}
use Rattle.bench_soak.specs.declared.running.Run.{Run}
use Rattle.bench_soak.specs.declared.subscriber.Subscriber.{Subscriber}

-- its group is of this configuration, and may have a turn as soon as what the turn is given is in order
pub record IsPublisher (config : Config) (publisher : Publisher) : Type 0 where
  pub good : IsGood config
  pub keeps_to : KeepsTo config publisher.group
  pub sender_is : IsSender publisher.sender
  pub reserved : IsReserved publisher.out

-- its read group is of this configuration
abbrev pub IsSubscriber : Config → Subscriber → Type 0
IsSubscriber config subscriber = IsMadeOf config subscriber.group

pub record IsRun (config : Config) (run : Run) : Type 0 where
  pub publisher_is : IsPublisher config run.publisher
  pub subscriber_is : IsSubscriber config run.subscriber
