-- Session run, the publisher: its senders come to each tick's moment, its groups have their turns, its writers are refreshed.
use Rattle.std.specs.Prelude.{ℕ, ◌+◌, List, [], ◌∷◌, length, map, fold, Bool, true, false, not, ◌&&◌, ◌||◌, ◌==◌, nat_lt, Option, None, option_map, unwrap_or, slice_get, take}
use Rattle.std.specs.List.{range_with_len}
use Rattle.std.specs.Option.{option_map_or}
use Rattle.dataset_meta.specs.Rows.{cons_if}
use Rattle.pubsub_model.specs.Cadence.{WriterDeed, Answered, cadence, log_of}
use Rattle.dataset_writer.specs.Turns.{model_settings}
use Rattle.group_keys.specs.KeySets.{current}
use Rattle.group_keys.specs.declared.key_set.KeySet.{KeySet}
use Rattle.message_guard.specs.declared.mode.Mode.{Mode}
use Rattle.message_guard.specs.Protection.{keys_in}
use Rattle.message_guard.specs.Senders.{SenderState, renewed, turned as turned_to, numbers_left}
use Rattle.ps_config.specs.declared.parts.Config.{Config}
use Rattle.ps_config.specs.declared.parts.GroupPart.{GroupPart}
use Rattle.ps_config.specs.declared.parts.KeyGroupPart.{KeyGroupPart}
use Rattle.ps_config.specs.Rings.{key_set}
use Rattle.pubsub_states.specs.declared.component.Component.{Component}
use Rattle.pubsub_states.specs.declared.component.Component.TheVariants.{Root, Connection, Group, Writer, ReadGroup, Reader}
use Rattle.pubsub_states.specs.declared.flags.Flags.{Flags}
use Rattle.pubsub_states.specs.Components.{components, counts_of, is_at_or_above}
use Rattle.pubsub_states.specs.States.{state_of, is_operational}
use Rattle.writer_group.specs.declared.sampled.Sampled.{Sampled}
use Rattle.ps_config.specs.Headers.{mode_of}
use Rattle.writer_group.specs.Parts.{group_at}
use Rattle.writer_group.specs.Payloads.{writer_at}
use Rattle.writer_group.specs.Sealing.{advanced_by}
use Rattle.writer_group.specs.Turns.{GroupTurn, GroupDeed, RefreshedWriter, HadGroupTurn, TurnInput, told_of, is_due, turned, writer_past, settings_of}
use Rattle.reader_group.specs.Settings.{keygroup_at, no_keys}
use Rattle.session_model.specs.Steps.{Plan, Step, Enable, Disable, Append, Tick, Pump, moment_of, is_on}
use Rattle.session_model.specs.Sets.{metas_at, rows_at}

-- what the publisher does
pub data Deed : Type 0 where
  -- the writers at or below a component are refreshed
  RefreshedBelow : (component : Component) → Deed
  -- those of a data set are
  RefreshedSet : (set : ℕ) → Deed
  -- the senders come to a moment
  CameTo : (moment : ℕ) → Deed
  -- a group has a turn
  TookTurn : (group : ℕ) (turn : GroupTurn) → Deed
  -- a ring with these sets renews the sender of a key group
  RenewedKeys : (keygroup : ℕ) (sets : List KeySet) → Deed

-- ---- parts of the configuration

-- the component with an id
abbrev pub component_at : Config → ℕ → Component
component_at config id = unwrap_or (slice_get (components (counts_of config)) id) Root

abbrev pub group_indexes : Config → List ℕ
group_indexes config = range_with_len 0 (length config.group)

abbrev pub writer_indexes : GroupPart → List ℕ
writer_indexes group = range_with_len 0 (length group.writer)

-- ---- a group's own past

-- the writers of a group that pass the test are refreshed, in their order
abbrev pub refreshed_where : (ℕ → Bool) → List GroupDeed → List ℕ → List GroupDeed
refreshed_where test past writers = fold (λ so_far writer. cons_if (test writer) (RefreshedWriter writer) so_far) past writers

abbrev pub is_writer_below : Component → ℕ → ℕ → Bool
is_writer_below component g w = is_at_or_above component (Writer g w)

abbrev pub is_writer_of : GroupPart → ℕ → ℕ → Bool
is_writer_of group set w = (writer_at group w).dataset == set

abbrev pub group_past : Config → ℕ → List Deed → List GroupDeed
group_past config g [] = []
group_past config g (RefreshedBelow component ∷ before) =
    refreshed_where (is_writer_below component g) (group_past config g before) (writer_indexes (group_at config g))
group_past config g (RefreshedSet set ∷ before) =
    refreshed_where (is_writer_of (group_at config g) set) (group_past config g before) (writer_indexes (group_at config g))
group_past config g (CameTo moment ∷ before) = group_past config g before
group_past config g (TookTurn other turn ∷ before) = cons_if (other == g) (HadGroupTurn turn) (group_past config g before)
group_past config g (RenewedKeys keygroup sets ∷ before) = group_past config g before

-- ---- senders: one for each key group

-- before anything
abbrev pub opening_sender : KeyGroupPart → SenderState
opening_sender ring = record {
  sets = map key_set ring.key;
  keys = unwrap_or (option_map keys_in (current (map key_set ring.key) 0)) no_keys;
  random = ring.random;
  first_block = ring.first_block;
  used = ring.used;
  fronted = None;
}

-- the group is secured by this key group
abbrev pub shares : GroupPart → ℕ → Bool
shares group k = option_map_or (λ other. other == k) group.keygroup false

abbrev pub advanced_if : Bool → Mode → ℕ → SenderState → SenderState
advanced_if true mode count s = advanced_by mode s count
advanced_if false mode count s = s

abbrev pub renewed_if : Bool → List KeySet → SenderState → SenderState
renewed_if true sets s = renewed s sets
renewed_if false sets s = s

-- the sender of a key group, which each datagram of its groups takes a number of
abbrev pub sender_after : Config → ℕ → List Deed → SenderState
sender_after config k [] = opening_sender (keygroup_at config k)
sender_after config k (RefreshedBelow component ∷ before) = sender_after config k before
sender_after config k (RefreshedSet set ∷ before) = sender_after config k before
sender_after config k (CameTo moment ∷ before) = turned_to (sender_after config k before) moment
sender_after config k (TookTurn g turn ∷ before) =
    advanced_if (shares (group_at config g) k) (mode_of (group_at config g).security) (length turn.made) (sender_after config k before)
sender_after config k (RenewedKeys keygroup sets ∷ before) = renewed_if (keygroup == k) sets (sender_after config k before)

-- that of a group, where it is secured
abbrev pub sender_of : Config → ℕ → List Deed → Option SenderState
sender_of config g deeds = option_map (λ k. sender_after config k deeds) (group_at config g).keygroup

-- fewer than 1,024 numbers are left under the token
abbrev pub is_spent : Config → ℕ → List Deed → Bool
is_spent config g deeds = option_map_or (λ s. nat_lt (numbers_left s) 1024) (sender_of config g deeds) false

-- coming to the moment changes the token of the group's key group
abbrev pub is_rekeyed : Config → ℕ → List Deed → ℕ → Bool
is_rekeyed config now before g =
    option_map_or (λ s. not ((turned_to s now).keys.token == s.keys.token)) (sender_of config g before) false

-- the senders come to a moment, and where a token changes the writers of its groups are refreshed
abbrev pub rekeyed : Config → ℕ → List Deed → List Deed
rekeyed config now before =
    fold (λ deeds g. cons_if (is_rekeyed config now before g) (RefreshedBelow (Group g)) deeds) (CameTo now ∷ before) (group_indexes config)

-- ---- a turn

-- a group with a spent sender has a fault
abbrev pub is_spent_at : Config → List Deed → Component → Bool
is_spent_at config deeds Root = false
is_spent_at config deeds Connection = false
is_spent_at config deeds (Group g) = is_spent config g deeds
is_spent_at config deeds (Writer g w) = false
is_spent_at config deeds (ReadGroup r) = false
is_spent_at config deeds (Reader r i) = false

-- what decides at a group's turn which components of the publisher are Operational: a send's fault was cleared when the tick began
abbrev pub turn_flags : Config → List Step → List Deed → Component → Flags
turn_flags config before deeds component =
    record { enabled = is_on config before component; fault = is_spent_at config deeds component; ready = true }

abbrev pub works : Config → List Step → List Deed → Component → Bool
works config before deeds component = is_operational (state_of (turn_flags config before deeds) component)

-- which of the group's writers are Operational
abbrev pub writers_on : Config → List Step → List Deed → ℕ → List Bool
writers_on config before deeds g = map (λ w. works config before deeds (Writer g w)) (writer_indexes (group_at config g))

-- what a group's turn is given at a tick after these steps, once the publisher did these deeds
abbrev pub turn_input : Plan → List Step → ℕ → Bool → List Sampled → List Deed → ℕ → TurnInput
turn_input p before now closing samples deeds g = record {
  told = told_of now closing (metas_at p.config before) (rows_at p before samples);
  on = writers_on p.config before deeds g;
  sender = sender_of p.config g deeds;
}

-- the group has a turn: it is Operational, and due or it is the closing tick
abbrev pub has_turn : Plan → List Step → ℕ → Bool → List Deed → ℕ → Bool
has_turn p before now closing deeds g =
    works p.config before deeds (Group g) && (closing || is_due (group_at p.config g) (group_past p.config g deeds) now)

abbrev pub turn_of : Plan → List Step → ℕ → Bool → List Sampled → List Deed → ℕ → GroupTurn
turn_of p before now closing samples deeds g =
    turned p.config (group_at p.config g) (group_past p.config g deeds) (turn_input p before now closing samples deeds g)

-- the deeds with the group's turn, if it has one
abbrev pub turned_on : Plan → List Step → ℕ → Bool → List Sampled → List Deed → ℕ → List Deed
turned_on p before now closing samples deeds g =
    cons_if (has_turn p before now closing deeds g) (TookTurn g (turn_of p before now closing samples deeds g)) deeds

-- those of a tick: the senders come to its moment, and then the groups have their turns, in order
abbrev pub tick_deeds : Plan → List Step → ℕ → Bool → List Sampled → List Deed → List Deed
tick_deeds p before now closing samples earlier =
    fold (turned_on p before now closing samples) (rekeyed p.config now earlier) (group_indexes p.config)

-- what the publisher has done after these steps
abbrev pub deeds : Plan → List Step → List Deed
deeds p [] = []
deeds p (Enable id ∷ before) = RefreshedBelow (component_at p.config id) ∷ deeds p before
deeds p (Disable id ∷ before) = deeds p before
deeds p (Append set field ∷ before) = RefreshedSet set ∷ deeds p before
deeds p (Tick ms closing samples done ∷ before) =
    tick_deeds p before (moment_of before + ms) closing samples (deeds p before)
deeds p (Pump entries ∷ before) = deeds p before

-- ---- a writer

abbrev pub writer_deeds : Plan → ℕ → ℕ → List Step → List WriterDeed
writer_deeds p g w steps = writer_past w (group_past p.config g (deeds p steps))

-- its turns with their answers
abbrev pub answered_at : Plan → ℕ → ℕ → List Step → List Answered
answered_at p g w steps =
    cadence (model_settings (settings_of (writer_at (group_at p.config g) w))) (writer_deeds p g w steps)

-- the place and version of each data frame, in order
abbrev pub log_at : Plan → ℕ → ℕ → List Step → List (ℕ × ℕ)
log_at p g w steps = log_of (model_settings (settings_of (writer_at (group_at p.config g) w))) (writer_deeds p g w steps)

-- those of each writer
abbrev pub logs_at : Plan → List Step → ℕ → ℕ → List (ℕ × ℕ)
logs_at p steps g w = log_at p g w steps

-- the first ones of each
abbrev pub logs_cut : ℕ → Plan → List Step → ℕ → ℕ → List (ℕ × ℕ)
logs_cut most p steps g w = take most (log_at p g w steps)
