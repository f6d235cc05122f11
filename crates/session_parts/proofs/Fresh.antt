-- What a session's parts are before the first step.
use Rattle.std.proofs.Common.{◌≡◌, refl, sym, ap, ◌∙◌, subst, ℕ, zero, suc, ◌<◌, Bool, true, false, List, [], ◌∷◌, length, get_or, map}
use Rattle.std.specs.Prelude.{◌||◌}
use Rattle.std.specs.List.{HoldsAt}
use Rattle.std.proofs.lemmas.List.{length-map}
use Rattle.dataset_meta.specs.Metas.{MetaData}
use Rattle.ps_config.specs.declared.parts.Config.{Config}
use Rattle.pubsub_states.specs.declared.component.Component.{Component}
use Rattle.pubsub_states.specs.declared.component.Component.TheVariants.{Root, Connection, Group, Writer, ReadGroup, Reader}
use Rattle.pubsub_states.specs.declared.flags.Flags.{Flags}
use Rattle.pubsub_states.specs.Components.{Counts, IsAmong}
use Rattle.pubsub_states.specs.Changes.{StandsAfter, TreeValue, flags_in}
use Rattle.reader_group.specs.Members.{MemberValue, Seat, new_member}
use Rattle.reader_group.specs.Settings.{setting_of}
use Rattle.writer_group.specs.Parts.{group_at}
use Rattle.writer_group.specs.Standing.{IsGood}
use Rattle.session_model.specs.States.{flags_at}
use Rattle.session_model.specs.Deeds.{is_spent}
use Rattle.session_parts.specs.declared.publisher.Publisher.{Publisher}
use Rattle.session_parts.specs.declared.receiving.Receiving.{Receiving}
use Rattle.session_parts.specs.declared.subscriber.Subscriber.{Subscriber}
use Rattle.session_parts.specs.Holding.{HasBuffers, HoldPublisher, HoldSubscriber, MayAllGoOn}
use Rattle.session_parts.specs.Pumping.{HasNoCounts}
use Rattle.session_parts.specs.Standing.{AreSendsIn, HasFlags, HavePast, HaveRead, HaveSent, HaveTallied, IsOfGroup}
use Rattle.session_parts.specs.Ticking.{TellsFaults, is_faulty, is_spent_by}
use Rattle.session_parts.proofs.Few.{keyed}
use Rattle.session_parts.proofs.Passed.{no_sends}
use Rattle.session_parts.proofs.Turning.{spent-is}

-- each group may have so many turns, and nothing was sent
pub record IsFreshPublisher (config : Config) (turns : ℕ) (publisher : Publisher) : Type 0 where
  pub holds : HoldPublisher config publisher
  pub past : HavePast config config.dataset [] publisher.groups.items
  pub senders : HaveSent config [] publisher.senders.items
  pub goes_on : MayAllGoOn config config.dataset turns publisher.groups.items
  pub sends : (g : ℕ) → g < length config.group → HoldsAt (IsOfGroup 0 false) publisher.sends.items g
  pub link : AreSendsIn [] publisher.link

-- nothing befell a read group
pub record IsFreshSubscriber (config : Config) (subscriber : Subscriber) : Type 0 where
  pub holds : HoldSubscriber config subscriber
  pub read : HaveRead config [] subscriber.groups.items
  pub tallied : HaveTallied config [] subscriber.tallies.items

-- nothing was received
pub record IsFreshReceiving (receiving : Receiving) : Type 0 where
  pub room : HasBuffers receiving
  pub counts : HasNoCounts receiving

-- the groups' faults were told to a tree where nothing was told before
pub record IsFreshTree (config : Config) (publisher : Publisher) (tree : TreeValue) : Type 0 where
  pub before : TreeValue
  pub opening : StandsAfter config [] before
  pub told : TellsFaults config publisher before tree
  pub counts : tree.counts ≡ before.counts

-- ---- the states

always-new : (seats : List Seat) (i : ℕ) → get_or (map (λ (seat : Seat). new_member) seats) i new_member ≡ new_member
always-new [] i = refl
always-new (seat ∷ seats) zero = refl
always-new (seat ∷ seats) (suc i) = always-new seats i

-- the states of a session in which no step was
pub fresh-flags : (full : List MetaData) (config : Config) (turns : ℕ) (publisher : Publisher) (tree : TreeValue) → IsGood config → IsFreshPublisher config turns publisher
    → IsFreshTree config publisher tree → HasFlags (flags_at (record { config = config; full = full }) []) tree
fresh-flags full config turns publisher tree good fresh is component among = on component (subst (λ (c : Counts). IsAmong c component) is.counts among)
  where
    within : (g : ℕ) → IsAmong is.before.counts (Group g) → g < length config.group
    within g there =
        subst (λ (n : ℕ). g < n) (length-map config.group (λ group. length group.writer)) (subst (λ (c : Counts). IsAmong c (Group g)) is.opening.counts there)

    faulty : (g : ℕ) → g < length config.group → is_faulty publisher (group_at config g) g no_sends ≡ is_spent config g []
    faulty g low =
        ap (λ (b : Bool). b || is_spent_by publisher.senders.items (group_at config g).keygroup) (fresh.sends g low no_sends).failing_is
        ∙ spent-is config g [] publisher.senders.items (group_at config g).keygroup refl (λ k at. keyed config good g k low at) fresh.senders

    on : (c : Component) → IsAmong is.before.counts c → flags_in tree c ≡ flags_at (record { config = config; full = full }) [] c
    on Root there = is.told.others Root there (λ g same. cc) ∙ is.opening.flags Root there
    on Connection there = is.told.others Connection there (λ g same. cc) ∙ is.opening.flags Connection there
    on (Group g) there =
        is.told.groups g (within g there) no_sends
        ∙ ap (λ (f : Flags). record f { fault = is_faulty publisher (group_at config g) g no_sends }) (is.opening.flags (Group g) there)
        ∙ ap (λ (b : Bool). record { enabled = true; fault = b; ready = true }) (faulty g (within g there))
    on (Writer g w) there = is.told.others (Writer g w) there (λ h same. cc) ∙ is.opening.flags (Writer g w) there
    on (ReadGroup r) there = is.told.others (ReadGroup r) there (λ g same. cc) ∙ is.opening.flags (ReadGroup r) there
    on (Reader r i) there =
        is.told.others (Reader r i) there (λ g same. cc)
        ∙ is.opening.flags (Reader r i) there
        ∙ ap (λ (m : MemberValue). record { enabled = true; fault = m.late; ready = m.ready }) (sym (always-new (setting_of config r).seats i))
