-- Paired devices with the rings of the configuration, as a pair with whichever rings.
use Rattle.std.proofs.Common.{◌≡◌, sym, ap, ◌∙◌, subst, ℕ, ◌<◌, List, [], ◌∷◌, length, map, Some, All, Contains}
use Rattle.std.specs.Prelude.{Option}
use Rattle.std.proofs.lemmas.List.Elements.{All-contains, All-contains_itself}
use Rattle.group_keys.specs.declared.key_set.KeySet.{KeySet}
use Rattle.message_guard.specs.declared.keys.TokenKeys.{TokenKeys}
use Rattle.message_guard.specs.Guards.{Setup}
use Rattle.message_guard.specs.Protection.{keys_in, keys_with}
use Rattle.ps_config.specs.declared.parts.Config.{Config}
use Rattle.ps_config.specs.declared.parts.ReadGroupPart.{ReadGroupPart}
use Rattle.ps_config.specs.Headers as configured
use Rattle.ps_config.specs.Rings.{key_set}
use Rattle.ps_config.specs.Sound.{IsKeyed}
use Rattle.reader_group.specs.Settings.{keygroup_at, no_keygroup, setup_by}
use Rattle.reader_group.proofs.Made.{ring-keys}
use Rattle.writer_group.specs.Parts.{group_at, no_group}
use Rattle.turn_laws.specs.Lives.{TokensNameKeys}
use Rattle.device_laws.specs.Deeds.{AreUnresumed}
use Rattle.device_laws.specs.Devices.{ArePaired}
use Rattle.device_laws.specs.Publishing.{AreOwnRings, CameTo, HandedOver, KeepsRing, PublisherCall, PublisherLife, PublisherStep, Aside, Renewed, Resumed, SetField, SetStatus, SetWord, Switched, Waited, config_in}
use Rattle.device_laws.specs.Pulled.{IsKnownBy}
use Rattle.device_laws.specs.Ringed.{AllKeysAreAmong, AreKeysAmong, IsRingedPair, KeysAreAmong, RingIsAmong, RingsAreAmong}
use Rattle.device_laws.specs.Subscribing as reads
use Rattle.device_laws.specs.Subscribing.{AreOwnKeys, KeepsKeys, SubscriberCall, SubscriberLife, SubscriberStep, setting_in}
use Rattle.device_laws.proofs.OwnRings.{own-ring}

abbrev own_sets : Config → ℕ → List KeySet
own_sets config k = map key_set (keygroup_at config k).key

-- a token that each of these sets is known by has the same keys in each
known-named : (sets : List KeySet) → All (IsKnownBy sets) sets → TokensNameKeys sets
known-named sets known one other has_one has_other same =
    let first : keys_with (map keys_in sets) one.token ≡ Some (keys_in one) = All-contains (IsKnownBy sets) sets one known has_one in
    let second : keys_with (map keys_in sets) other.token ≡ Some (keys_in other) = All-contains (IsKnownBy sets) sets other known has_other in
    some-keys (sym first ∙ ap (keys_with (map keys_in sets)) same ∙ second)
  where
    some-keys : Some (keys_in one) ≡ Some (keys_in other) → keys_in one ≡ keys_in other
    some-keys e = cc

-- ---- the publisher's rings

one-among : (config : Config) (k : ℕ) (call : PublisherCall) → KeepsRing config call → RingIsAmong k (own_sets config k) call
one-among config k (SetField set field value status) keeps = tt
one-among config k (SetWord set field kind word) keeps = tt
one-among config k (SetStatus set field status) keeps = tt
one-among config k (Waited now) keeps = tt
one-among config k (CameTo now next did) keeps = tt
one-among config k HandedOver keeps = tt
one-among config k (Switched group writer on) keeps = tt
one-among config k (Renewed keygroup sets) keeps = λ e.
    subst (λ (n : ℕ). All (Contains (own_sets config n)) sets) e (subst (All (Contains (own_sets config keygroup))) (sym (keeps no_keygroup)) (All-contains_itself (own_sets config keygroup)))
one-among config k (Resumed keygroup now used sets) keeps = tt
one-among config k Aside keeps = tt

rings-among : (config : Config) (k : ℕ) (steps : List PublisherStep) → AreOwnRings config steps → RingsAreAmong k (own_sets config k) steps
rings-among config k [] own = tt
rings-among config k (step ∷ before) own = (one-among config k step.call own.0, rings-among config k before own.1)

-- ---- the read group's

keys-among : (r : ℕ) (all : List KeySet) (own : List TokenKeys) (call : SubscriberCall) → AreKeysAmong all own → KeepsKeys call r own → KeysAreAmong r all call
keys-among r all own (reads.Came group now datagram answer) are keeps = tt
keys-among r all own (reads.Took now datagram answers) are keeps = tt
keys-among r all own (reads.Expired now) are keeps = tt
keys-among r all own (reads.Switched group reader on) are keeps = tt
keys-among r all own (reads.Renewed group new) are keeps = λ e. subst (AreKeysAmong all) (sym (keeps e)) are
keys-among r all own (reads.Only group number) are keeps = tt
keys-among r all own reads.Refused are keeps = tt

all-among : (r : ℕ) (all : List KeySet) (own : List TokenKeys) (steps : List SubscriberStep) → AreKeysAmong all own → AreOwnKeys steps r own → AllKeysAreAmong r all steps
all-among r all own [] are keeps = tt
all-among r all own (step ∷ before) are keeps = (keys-among r all own step.call are keeps.0, all-among r all own before are keeps.1)

-- ---- the two

pub own-ringed : (text other : List ℕ) (pl : PublisherLife) (sl : SubscriberLife) (readers : ReadGroupPart) (r i g w k : ℕ) → ArePaired text other pl sl readers r i g w → (group_at (config_in pl) g).keygroup ≡ Some k → AreUnresumed pl.steps
    → IsRingedPair text other pl sl readers r i g w k (map key_set (keygroup_at (config_in pl) k).key)
own-ringed text other pl sl readers r i g w k are keyed unresumed =
    let config = config_in pl in
    let sound = are.publisher.opened.is.good.sound in
    let low : k < length config.keygroup = (subst (IsKeyed config (configured.is_secured (group_at config g).security)) keyed (sound.groups g no_group are.there).keys).there in
    let ring = own-ring config k sound low in
    let reads_with : readers.keygroup ≡ Some k = are.matched.groups.keygroup ∙ keyed in
    let first : AreKeysAmong (own_sets config k) (setting_in sl r).setup.keys = record {
      sets = own_sets config k;
      among = All-contains_itself (own_sets config k);
      are = ap (λ (setup : Setup). setup.keys) are.alike.setup ∙ ap (λ (o : Option ℕ). (setup_by config readers o).keys) reads_with ∙ sym (ring-keys (keygroup_at config k).key);
    } in
    record {
      publisher = are.publisher;
      subscriber = are.subscriber;
      there = are.there;
      read_there = are.read_there;
      alike = are.alike;
      matched = are.matched;
      keyed = keyed;
      took = are.took;
      unresumed = unresumed;
      configured = All-contains_itself (own_sets config k);
      rings = rings-among config k pl.steps are.rings;
      keys = all-among r (own_sets config k) (setting_in sl r).setup.keys sl.steps first are.keys;
      named = known-named (own_sets config k) ring.1;
      fit = ring.0.fit;
    }
