-- Two devices whose group and read group are secured with the keys of one key group.
use Rattle.std.specs.Prelude.{◌≡◌, ℕ, List, true, Some}
use Rattle.ps_config.specs.declared.parts.ReadGroupPart.{ReadGroupPart}
use Rattle.reader_group.specs.Agreeing.{ChunksNear, MemberIs}
use Rattle.reader_group.specs.Arrivals.{goes_by_numbers, marks}
use Rattle.writer_group.specs.Parts.{group_at}
use Rattle.turn_laws.specs.Makers.{Signing, its_setting, its_way}
use Rattle.turn_laws.specs.Sent.{place_near, sends_in}
use Rattle.device_laws.specs.Deeds.{AreUnresumed, deeds_in}
use Rattle.device_laws.specs.Devices.{ArePaired, member_in}
use Rattle.device_laws.specs.Publishing.{PublisherLife, config_in}
use Rattle.device_laws.specs.Subscribing.{SubscriberLife, events_in}

-- The publisher's deeds and what befell the read group, as the laws of senders tell them. Each place is told by the token and number that it was sent with, and its
-- 16 bits.
abbrev pub signing_of : PublisherLife → SubscriberLife → ReadGroupPart → ℕ → ℕ → ℕ → ℕ → ℕ → Signing
signing_of pub_life sub_life readers r i g w k = record {
  config = config_in pub_life;
  deeds = deeds_in pub_life;
  group = g;
  writer = w;
  keygroup = k;
  readers = readers;
  reader = i;
  place = place_near (sends_in (config_in pub_life) k g w (deeds_in pub_life));
  events = events_in sub_life r;
}

-- The key group secures the group, and the reader goes by numbers. No key group of the publisher was resumed.
pub record IsSignedPair (text other : List ℕ) (pub_life : PublisherLife) (sub_life : SubscriberLife) (readers : ReadGroupPart) (r i g w k : ℕ) : Type 0 where
  pub paired : ArePaired text other pub_life sub_life readers r i g w
  pub keyed : (group_at (config_in pub_life) g).keygroup ≡ Some k
  pub numbered : goes_by_numbers (its_way (signing_of pub_life sub_life readers r i g w k)) ≡ true
  pub unresumed : AreUnresumed pub_life.steps

-- where chunks' places are near, what is kept for the reader is what *Arrivals* and *Records* have of it
abbrev pub ReadsSigned : PublisherLife → SubscriberLife → ReadGroupPart → ℕ → ℕ → ℕ → ℕ → ℕ → Type 0
ReadsSigned pub_life sub_life readers r i g w k =
    let s = signing_of pub_life sub_life readers r i g w k in
    let list = marks (its_setting s) (its_way s) s.events in
    ChunksNear list → MemberIs (its_way s) list (member_in sub_life r i)
