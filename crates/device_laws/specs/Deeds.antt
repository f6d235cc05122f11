-- What a publisher did over its calls, as the laws of senders tell it: senders come to moments, writers are refreshed, and groups have turns.
use Rattle.std.specs.Prelude.{⊤, ℕ, zero, suc, List, [], ◌∷◌, length, slice_index_or}
use Rattle.dataset_meta.specs.Rows.{cons_if}
use Rattle.message_guard.specs.Senders.{SenderState}
use Rattle.ps_config.specs.declared.parts.Config.{Config}
use Rattle.pubsub_states.specs.declared.component.Component.TheVariants.{Group, Writer}
use Rattle.writer_group.specs.Turns.{GroupTurn}
use Rattle.session_model.specs.Deeds.{Deed, RefreshedBelow, CameTo as CameToMoment, TookTurn, RenewedKeys, group_past}
use Rattle.device.specs.declared.looking.Looked.{Looked}
use Rattle.device.specs.declared.looking.Looked.TheVariants.{Held, Idle, Made}
use Rattle.device.specs.declared.publisher.Publisher.{Publisher}
use Rattle.device_laws.specs.Publishing.{PublisherCall, PublisherLife, PublisherStep, SetField, SetWord, SetStatus, Waited, CameTo, HandedOver, Switched, Renewed, Resumed, Aside, publisher_after}
use Rattle.device_laws.specs.Turning.{is_rekeyed, turn_at}

-- with the turn of a group that was looked at, if it had one
abbrev pub looked_deed : Looked → ℕ → GroupTurn → List Deed → List Deed
looked_deed Idle g turn deeds = deeds
looked_deed Held g turn deeds = deeds
looked_deed (Made made) g turn deeds = TookTurn g turn ∷ deeds

-- of the first groups, so many, those are refreshed whose key group has a new token at the moment
abbrev pub refreshed_groups : Config → ℕ → List SenderState → ℕ → List Deed → List Deed
refreshed_groups config now senders zero deeds = deeds
refreshed_groups config now senders (suc g) deeds =
    cons_if (is_rekeyed config now senders g) (RefreshedBelow (Group g)) (refreshed_groups config now senders g deeds)

-- the first groups, so many, have their turns where they had one
abbrev pub turned_groups : Config → Publisher → ℕ → List Looked → ℕ → List Deed → List Deed
turned_groups config old now did zero deeds = deeds
turned_groups config old now did (suc g) deeds =
    let earlier = turned_groups config old now did g deeds in
    looked_deed (slice_index_or did g Idle) g (turn_at config old now g (group_past config g earlier)) earlier

-- with what a call adds; the laws of senders know no resuming, which adds nothing here
abbrev pub deeds_by : Config → PublisherCall → Publisher → List Deed → List Deed
deeds_by config (SetField set field value status) old deeds = deeds
deeds_by config (SetWord set field kind word) old deeds = deeds
deeds_by config (SetStatus set field status) old deeds = deeds
deeds_by config (Waited now) old deeds = deeds
deeds_by config (CameTo now next did) old deeds =
    let count = length config.group in
    turned_groups config old now did count (refreshed_groups config now old.senders.items count (CameToMoment now ∷ deeds))
deeds_by config HandedOver old deeds = deeds
deeds_by config (Switched group writer on) old deeds = cons_if on (RefreshedBelow (Writer group writer)) deeds
deeds_by config (Renewed keygroup sets) old deeds = RenewedKeys keygroup sets ∷ deeds
deeds_by config (Resumed keygroup now used sets) old deeds = deeds
deeds_by config Aside old deeds = deeds

abbrev pub deeds_of : Publisher → List PublisherStep → List Deed
deeds_of first [] = []
deeds_of first (step ∷ before) = deeds_by first.config step.call (publisher_after first before) (deeds_of first before)

abbrev pub deeds_in : PublisherLife → List Deed
deeds_in life = deeds_of life.first life.steps

-- no key group went on after numbers that were given
abbrev pub IsNoResume : PublisherCall → Type 0
IsNoResume (Resumed keygroup now used sets) = ⊥
IsNoResume call = ⊤

abbrev pub AreUnresumed : List PublisherStep → Type 0
AreUnresumed [] = ⊤
AreUnresumed (step ∷ before) = IsNoResume step.call × AreUnresumed before
