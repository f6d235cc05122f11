-- A reader of a subscriber that was reset, and what its read group took since: of a publisher that was started again, or of another one.
use Rattle.std.specs.Prelude.{◌≡◌, ℕ, ◌<◌, List, ◌∷◌, ◌++◌, length, false, All}
use Rattle.pubsub_model.specs.Records.{since_cut}
use Rattle.ps_config.specs.declared.parts.ReadGroupPart.{ReadGroupPart}
use Rattle.reader_group.specs.Arrivals.{Mark, arrivals_in}
use Rattle.reader_group.specs.Settings.{setting_by}
use Rattle.writer_group.specs.Parts.{group_at}
use Rattle.group_laws.specs.Matching.{IsMatchedTo}
use Rattle.session_laws.specs.Plays.{IsAnswerBy, Play, its_answers, its_meta, its_setting, its_way}
use Rattle.device.specs.declared.subscriber.Subscriber.{Subscriber}
use Rattle.device_laws.specs.Alike.{ReadsAlike}
use Rattle.device_laws.specs.Placed.{ComesPlaced}
use Rattle.device_laws.specs.Publishing.{AreOwnRings, HasOffered, IsPublisherLife, PublisherLife, config_in}
use Rattle.device_laws.specs.Subscribing.{AreOwnKeys, IsSubscriberLife, SubscriberLife, SubscriberStep, Switched, TakenAre, setting_in}

-- `ArePaired`, where the reader was switched off after these calls, and each datagram that the read group took since had waited at the publisher in this life. Of
-- what it took before nothing is asked.
pub record ArePairedSince (text other : List ℕ) (pub_life : PublisherLife) (sub_life : SubscriberLife) (readers : ReadGroupPart) (r i g w : ℕ) (before : List SubscriberStep) : Type 0 where
  pub publisher : IsPublisherLife text pub_life
  pub subscriber : IsSubscriberLife other sub_life
  pub there : g < length (config_in pub_life).group
  pub read_there : r < length sub_life.first.config.readgroup
  pub alike : ReadsAlike i (setting_in sub_life r) (setting_by (config_in pub_life) readers)
  pub matched : IsMatchedTo (config_in pub_life) readers i (group_at (config_in pub_life) g) w
  pub rings : AreOwnRings (config_in pub_life) pub_life.steps
  pub keys : AreOwnKeys sub_life.steps r (setting_in sub_life r).setup.keys
  pub since : List SubscriberStep
  pub reset : Subscriber
  pub steps_are : sub_life.steps ≡ since ++ record { call = Switched r i false; after = reset } ∷ before
  pub took : TakenAre since r (HasOffered pub_life.steps)

-- The list is what came to the reader of a play (`ComesPlaced`), and each item since its last cut is an answer of the writer, cut to the reader's fields: with its
-- place, or with no numbering without.
pub record ComesAnsweredSince (p : Play) (list : List Mark) : Type 0 where
  pub placed : ComesPlaced (its_setting p) (its_way p) p.events list
  pub items : All (IsAnswerBy (its_way p).seat.part.numbering (its_meta p) (its_answers p)) (since_cut (arrivals_in list))
