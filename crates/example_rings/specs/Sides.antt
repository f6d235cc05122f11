-- The two devices of the session, between two calls.
use Rattle.device.specs.Sides.{IsPublisher, IsSubscriber}
use Rattle.device.specs.declared.publisher.Publisher.{Publisher}
use Rattle.device.specs.declared.subscriber.Subscriber.{Subscriber}

-- each is as its calls ask for
pub record AreSides (publisher : Publisher) (subscriber : Subscriber) : Type 0 where
  pub publisher_is : IsPublisher publisher
  pub subscriber_is : IsSubscriber subscriber
