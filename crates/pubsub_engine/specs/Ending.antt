-- What the ends of a closed session are told of.
use Rattle.std.specs.Prelude.{◌≡◌, ℕ, List, map}
use Rattle.ps_config.specs.declared.parts.Config.{Config}
use Rattle.pubsub_states.specs.Changes.{TreeValue}
use Rattle.pubsub_states.specs.Components.{counts_of}
use Rattle.writer_group.specs.Parts.{group_at}
use Rattle.writer_group.specs.Standing.{IsGood}
use Rattle.session_model.specs.Steps.{Plan, Step}
use Rattle.session_model.specs.Sets.{metas_at}
use Rattle.session_model.specs.Deeds.{writer_indexes}
use Rattle.session_model.specs.Events.{reader_indexes}
use Rattle.session_model.specs.Lives.{Account, flags_by}
use Rattle.session_model.specs.Closing.{MemberPlace}
use Rattle.session_parts.specs.declared.publisher.Publisher.{Publisher}
use Rattle.session_parts.specs.declared.subscriber.Subscriber.{Subscriber}
use Rattle.session_parts.specs.Holding.{AreAllLogged, HoldPublisher, HoldSubscriber}
use Rattle.session_parts.specs.Standing.{HasFlags, HaveOutcomesOf, HavePast, HaveReadings, HaveTallies}

-- the tree and the publisher are those of the configuration
pub record MayTellWriters (config : Config) (tree : TreeValue) (publisher : Publisher) : Type 0 where
  pub good : IsGood config
  pub counts : tree.counts ≡ counts_of config
  pub holds : HoldPublisher config publisher

-- so are the tree and the subscriber
pub record MayTellReaders (config : Config) (tree : TreeValue) (subscriber : Subscriber) : Type 0 where
  pub good : IsGood config
  pub counts : tree.counts ≡ counts_of config
  pub holds : HoldSubscriber config subscriber

-- these steps of a plan of the configuration, of which this became, leave the tree and the publisher as they are, whose logs keep so many data frames
pub record HavePublished (config : Config) (most : ℕ) (p : Plan) (steps : List Step) (a : Account) (tree : TreeValue) (publisher : Publisher) : Type 0 where
  pub plan : p.config ≡ config
  pub flags : HasFlags (flags_by p.config steps a) tree
  pub groups : HavePast p.config (metas_at p.config steps) a.deeds publisher.groups.items
  pub logged : AreAllLogged most publisher.groups.items
  pub outcomes : HaveOutcomesOf p.config a.sent a.failing publisher.sends.items

-- so they leave the subscriber
pub record HaveReceived (config : Config) (p : Plan) (steps : List Step) (a : Account) (tree : TreeValue) (subscriber : Subscriber) : Type 0 where
  pub plan : p.config ≡ config
  pub flags : HasFlags (flags_by p.config steps a) tree
  pub readings : HaveReadings p.config a.readings subscriber.groups.items
  pub tallies : HaveTallies p.config a.readings subscriber.tallies.items

-- ---- the parts of a group

-- the places of the writers of the group with this index
abbrev pub places_of_group : Config → ℕ → List MemberPlace
places_of_group config g = map (λ w. (g, w)) (writer_indexes (group_at config g))

-- those of the readers of the read group with this index
abbrev pub places_of_read_group : Config → ℕ → List MemberPlace
places_of_read_group config r = map (λ i. (r, i)) (reader_indexes config r)
