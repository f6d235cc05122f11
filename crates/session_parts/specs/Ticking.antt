-- A session within a tick: after its senders came to the moment, and after some groups had their turns.
use Rattle.std.specs.Prelude.{◌≡◌, ◌≢◌, ℕ, ◌+◌, ◌<◌, ◌≤◌, ◌==◌, List, [], ◌∷◌, map, ◌++◌, length, zip, count_by, Bool, true, false, not, ◌||◌, nat_lt, None, slice_set, Option, Some, slice_index_or, take}
use Rattle.std.specs.List.{HoldsAt, AllZip, range_with_len}
use Rattle.std.specs.Option.{option_map_or}
use Rattle.dataset_meta.specs.Metas.{MetaData}
use Rattle.row_words.specs.Belonging.{Belongs}
use Rattle.message_guard.specs.Senders.{SenderState, numbers_left, turned as turned_to}
use Rattle.ua_base.specs.Cause.{counted_if}
use Rattle.ua_base.specs.Journal.{LinkState, Entry, Tells}
use Rattle.ps_config.specs.declared.parts.Config.{Config}
use Rattle.ps_config.specs.declared.parts.GroupPart.{GroupPart}
use Rattle.ps_config.specs.Headers.{mode_of}
use Rattle.pubsub_states.specs.declared.component.Component.{Component}
use Rattle.pubsub_states.specs.declared.component.Component.TheVariants.{Root, Connection, Group, Writer, ReadGroup, Reader}
use Rattle.pubsub_states.specs.declared.flags.Flags.{Flags}
use Rattle.pubsub_states.specs.Components.{counts_of, IsAmong}
use Rattle.pubsub_states.specs.Changes.{TreeValue, flags_in}
use Rattle.pubsub_states.specs.States.{state_of, is_operational}
use Rattle.writer_group.specs.declared.group.Group.{Group as GroupWords}
use Rattle.writer_group.specs.Standing.{AreMetas, HasTicked, IsGood, IsGroup, IsMadeFor, IsReserved, KeepsOnLogging, MayGoOn, MayTick, datagrams_in, index_of, input_of, metas_for}
use Rattle.writer_group.specs.declared.datagrams.Datagrams.{Datagrams}
use Rattle.writer_group.specs.Sealing.{advanced_by}
use Rattle.writer_group.specs.Turns.{GroupTurn, GroupDeed}
use Rattle.writer_group.specs.declared.sampled.Sampled.{Sampled}
use Rattle.session_model.specs.Steps.{Plan, Step, Tick, moment_of, is_on}
use Rattle.session_model.specs.Sets.{metas_at, rows_at}
use Rattle.session_model.specs.Deeds.{Deed, TookTurn, group_past, opening_sender, turn_input, turn_of, rekeyed, tick_deeds, turned_on, is_spent, has_turn}
use Rattle.writer_group.specs.Parts.{group_at}
use Rattle.session_model.specs.Turns.{HoldsIfTurned, deeds_till}
use Rattle.session_model.specs.Sends.{Send, TellsJournal, last_sends, sends_by, send_entries, is_done_by, failing_after, last_failed}
use Rattle.session_model.specs.Lives.{Account, Lived, account_in, account_of, is_ready_by, late_in, stepped, steps_in}
use Rattle.session_model.specs.Readings.{Reading}
use Rattle.session_model.specs.Answers.{counted}
use Rattle.session_parts.specs.declared.publisher.Publisher.{Publisher}
use Rattle.session_parts.specs.declared.publisher.Told.{Told}
use Rattle.session_parts.specs.declared.sends.GroupSends.{GroupSends}
use Rattle.reader_group.specs.Settings.{no_keygroup}
use Rattle.session_parts.specs.Holding.{HoldPublisher, MayAllGoOn}
use Rattle.session_parts.specs.Standing.{HavePast, HaveSent, IsOfGroup, AreSendsIn, HasFlags}

-- a tick after these steps, of which this became
pub record TickData : Type 0 where
  pub plan : Plan
  pub before : List Step
  pub account : Account
  pub ms : ℕ
  pub closing : Bool
  pub samples : List Sampled

abbrev pub now_of : TickData → ℕ
now_of t = moment_of t.before + t.ms

-- what the publisher did once its senders came to the moment
abbrev pub begun : TickData → List Deed
begun t = rekeyed t.plan.config (now_of t) t.account.deeds

-- these deeds, with the turn of one group more, if it has one
abbrev pub turned : TickData → List Deed → ℕ → List Deed
turned t so_far g = turned_on t.plan t.before (now_of t) t.closing t.samples so_far g

-- what the making of a group's turn promised, if it has one
abbrev pub Holds : TickData → List Deed → ℕ → Type 0
Holds t so_far g = HoldsIfTurned t.plan t.before (now_of t) t.closing t.samples so_far g

-- ---- sends

-- what these sends, of which so many were done, make of a group's count
pub record Noted (sends : List (Send × Bool)) (g : ℕ) (old new : GroupSends) : Type 0 where
  pub done : (n : ℕ) → old.done ≡ counted n → new.done ≡ counted (n + count_by (is_done_by g) sends)
  pub failing : new.is_failing ≡ failing_after g old.is_failing sends

-- one send of a group is counted
pub record HasNoted (g : ℕ) (is_done : Bool) (old new : Publisher) : Type 0 where
  pub done : (d : GroupSends) → (slice_index_or new.sends.items g d).done ≡ counted_if is_done (slice_index_or old.sends.items g d).done
  pub failing : (d : GroupSends) → (slice_index_or new.sends.items g d).is_failing ≡ not is_done
  pub others : (h : ℕ) → h ≢ g → (d : GroupSends) → slice_index_or new.sends.items h d ≡ slice_index_or old.sends.items h d
  pub link_done : new.link.done ≡ counted_if is_done old.link.done
  pub link_failed : new.link.failed ≡ counted_if (not is_done) old.link.failed

-- the datagrams were sent, each once, in order
pub record HaveBeenSent (sends : List Send) (done : List Bool) (old new : Publisher) (told after : Option LinkState) : Type 0 where
  pub each : length done ≡ length sends
  pub groups : (g : ℕ) → g < length old.sends.items → (d : GroupSends) → Noted (zip sends done) g (slice_index_or old.sends.items g d) (slice_index_or new.sends.items g d)
  pub link : (entries : List Entry) → AreSendsIn entries old.link → AreSendsIn (entries ++ send_entries sends done) new.link
  pub tells : Tells told after (λ x y. y.journal ≡ x.journal ++ send_entries sends done)

-- datagrams of the group with this index were sent, each once, in order
abbrev pub AreSent : ℕ → List (List ℕ) → Publisher → Publisher → Option LinkState → Option LinkState → Type 0
AreSent g datagrams old new told after = (done : List Bool) × HaveBeenSent (sends_by g datagrams) done old new told after

-- one datagram of the group with this index was sent
abbrev pub IsSent : ℕ → List ℕ → Publisher → Publisher → Option LinkState → Option LinkState → Type 0
IsSent g datagram old new told after =
    (is_done : Bool) × HaveBeenSent (sends_by g (datagram ∷ [])) (is_done ∷ []) old new told after

-- nothing was sent, and nothing is counted or told
pub record IsUnsent (old new : Publisher) (told after : Option LinkState) : Type 0 where
  pub publisher : new ≡ old
  pub tells : Tells told after (λ x y. y.journal ≡ x.journal)

-- the first of the datagrams were sent, each once, in order, and no further one
pub record SendsHalt (g : ℕ) (datagrams : List (List ℕ)) (old new : Publisher) (told after : Option LinkState) : Type 0 where
  pub count : ℕ
  pub fewer : count < length datagrams
  pub done : List Bool
  pub sent : HaveBeenSent (sends_by g (take count datagrams)) done old new told after

-- no group has a failed send any more
pub record ClearsSends (old new : List GroupSends) : Type 0 where
  pub count : length new ≡ length old
  pub each : (g : ℕ) → g < length old → (d : GroupSends) → slice_index_or new g d ≡ record (slice_index_or old g d) { is_failing = false }

-- ---- a moment within the tick

-- what became of the session with the tick
abbrev pub account_after : TickData → List Bool → Account
account_after t done = stepped t.plan t.before t.account (Tick t.ms t.closing t.samples done)

-- where it leaves the read groups
abbrev pub readings_in : TickData → List Bool → ℕ → Reading
readings_in t done = (account_after t done).readings

abbrev pub faults_in : TickData → List Deed → List Bool → Component → Bool
faults_in t so_far done Root = false
faults_in t so_far done Connection = false
faults_in t so_far done (Group g) = last_failed g (zip (last_sends so_far) done) || is_spent t.plan.config g so_far
faults_in t so_far done (Writer g w) = false
faults_in t so_far done (ReadGroup r) = false
faults_in t so_far done (Reader r i) = late_in (readings_in t done) r i

abbrev pub flags_in_tick : TickData → List Deed → List Bool → Component → Flags
flags_in_tick t so_far done component = record {
  enabled = is_on t.plan.config t.before component;
  fault = faults_in t so_far done component;
  ready = is_ready_by (readings_in t done) component;
}

-- the publisher and the tree once it did these deeds, whose sends ended so
pub record IsAt (t : TickData) (so_far : List Deed) (done : List Bool) (publisher : Publisher) (tree : TreeValue) : Type 0 where
  pub sent : length done ≡ length (last_sends so_far)
  pub groups : HavePast t.plan.config (metas_at t.plan.config t.before) so_far publisher.groups.items
  pub senders : HaveSent t.plan.config so_far publisher.senders.items
  pub outcomes : (g : ℕ) → g < length t.plan.config.group → HoldsAt (IsOfGroup
      (t.account.sent g + count_by (is_done_by g) (zip (last_sends so_far) done)) (last_failed g (zip (last_sends so_far) done)))
      publisher.sends.items g
  pub link : AreSendsIn (t.account.journal ++ send_entries (last_sends so_far) done) publisher.link
  pub flags : HasFlags (flags_in_tick t so_far done) tree

-- the groups from this one on had no send yet that failed
abbrev pub NoneFailedFrom : ℕ → List Deed → List Bool → Type 0
NoneFailedFrom g so_far done = (h : ℕ) → g ≤ h → last_failed h (zip (last_sends so_far) done) ≡ false

-- what the link tells within the tick
abbrev pub TellsSoFar : TickData → List Deed → List Bool → Option LinkState → Type 0
TellsSoFar t so_far done told =
    (link : LinkState) → told ≡ Some link → link.journal ≡ t.account.journal ++ send_entries (last_sends so_far) done

-- what all turns are given is that of the tick
pub record IsToldOf (t : TickData) (told : Told) : Type 0 where
  pub config : told.config.now ≡ t.plan.config
  pub metas : told.metas.now ≡ metas_at t.plan.config t.before
  pub rows : told.rows.now ≡ rows_at t.plan t.before t.samples
  pub moment : told.moment ≡ now_of t
  pub closing : told.closing ≡ t.closing

-- a group's part of the tick: its turn, if it has one, and its sends
pub record TakesPart (t : TickData) (g : ℕ) (so_far : List Deed) (done : List Bool) (publisher : Publisher) (tree : TreeValue) (told after : Option LinkState) : Type 0 where
  pub more : List Bool
  pub holds : Holds t so_far g
  pub at : IsAt t (turned t so_far g) (done ++ more) publisher tree
  pub none_failed : NoneFailedFrom (g + 1) (turned t so_far g) (done ++ more)
  pub tells : TellsSoFar t so_far done told → TellsSoFar t (turned t so_far g) (done ++ more) after

-- from any moment of the tick at which the group's part is next, it passes
abbrev pub HasPart : Told → ℕ → Publisher → Publisher → TreeValue → TreeValue → Option LinkState → Option LinkState → Type 0
HasPart told g old new tree later link after =
    (t : TickData) (so_far : List Deed) (done : List Bool) → IsToldOf t told → IsAt t so_far done old tree
    → NoneFailedFrom g so_far done → TakesPart t g so_far done new later link after

-- ---- what holds of a tick whatever came before

-- the group with this index may go on for so many turns
abbrev pub GoesOnAt : Config → List MetaData → ℕ → ℕ → List GroupWords → Type 0
GoesOnAt config metas turns g groups = HoldsAt (MayGoOn (metas_for (group_at config g) metas) (group_at config g) turns) groups g

-- the group with this index may go on for all but one of the turns that it could before
abbrev pub GoesOnAfter : Told → ℕ → Publisher → Publisher → Type 0
GoesOnAfter told g old new =
    (turns : ℕ) → GoesOnAt told.config.now told.metas.now (turns + 1) g old.groups.items
    → GoesOnAt told.config.now told.metas.now turns g new.groups.items

-- each group may go on for all but one of the turns that it could before
abbrev pub AllGoOnAfter : Told → Publisher → Publisher → Type 0
AllGoOnAfter told old new =
    (turns : ℕ) → MayAllGoOn told.config.now told.metas.now (turns + 1) old.groups.items
    → MayAllGoOn told.config.now told.metas.now turns new.groups.items

-- no other group changed
abbrev pub OthersStay : ℕ → List GroupWords → List GroupWords → Type 0
OthersStay g old new = (d : GroupWords) → new ≡ slice_set old g (slice_index_or new g d)

-- in the place of a sender that isn't there
abbrev pub no_sender : SenderState
no_sender = opening_sender no_keygroup

-- the sender of a key group is there, and has fewer than 1,024 numbers left
abbrev pub is_spent_by : List SenderState → Option ℕ → Bool
is_spent_by senders None = false
is_spent_by senders (Some k) = nat_lt (numbers_left (slice_index_or senders k no_sender)) 1024

-- the last send of the group with this index failed, or its sender is spent
abbrev pub is_faulty : Publisher → GroupPart → ℕ → GroupSends → Bool
is_faulty publisher part g d =
    (slice_index_or publisher.sends.items g d).is_failing || is_spent_by publisher.senders.items part.keygroup

-- the sender of the group with this index, if it has one, isn't spent
abbrev pub IsUnspent : Told → ℕ → Publisher → Type 0
IsUnspent told g publisher = is_spent_by publisher.senders.items (group_at told.config.now g).keygroup ≡ false

-- whether the token of this key group changed, of those that are told
abbrev pub is_changed_in : List Bool → Option ℕ → Bool
is_changed_in is_changed keygroup = option_map_or (λ k. slice_index_or is_changed k false) keygroup false

-- the tree has a fault of each group whose sender is spent
abbrev pub KnowsSpent : Config → List SenderState → TreeValue → Type 0
KnowsSpent config senders tree =
    (g : ℕ) → g < length config.group → is_spent_by senders (group_at config g).keygroup ≡ true → (flags_in tree (Group g)).fault ≡ true

-- each sender came to the moment; which of their tokens changed
pub record TurnEach (moment : ℕ) (old new : List SenderState) (is_changed : List Bool) : Type 0 where
  pub count : length new ≡ length old
  pub each : (k : ℕ) → k < length old → (d : SenderState) → slice_index_or new k d ≡ turned_to (slice_index_or old k d) moment
  pub changed : (k : ℕ) → k < length old → (d : SenderState)
      → slice_index_or is_changed k false ≡ not ((slice_index_or new k d).keys.token == (slice_index_or old k d).keys.token)

-- what a group's part of a tick asks for
pub record MayPass (told : Told) (g : ℕ) (publisher : Publisher) (tree : TreeValue) : Type 0 where
  pub good : IsGood told.config.now
  pub within : g < length told.config.now.group
  pub holds : HoldPublisher told.config.now publisher
  pub metas_are : AreMetas told.config.now (group_at told.config.now g) told.metas.now
  pub rows_are : AllZip (λ meta sampled. Belongs meta sampled.row.words) told.metas.now told.rows.now
  pub goes_on : GoesOnAt told.config.now told.metas.now 1 g publisher.groups.items
  pub counts_are : tree.counts ≡ counts_of told.config.now
  pub spent : KnowsSpent told.config.now publisher.senders.items tree

-- the tree has each group's fault; nothing else of it changed
pub record TellsFaults (config : Config) (publisher : Publisher) (old new : TreeValue) : Type 0 where
  pub groups : (g : ℕ) → g < length config.group → (d : GroupSends) → flags_in new (Group g)
      ≡ record (flags_in old (Group g)) { fault = is_faulty publisher (group_at config g) g d }
  pub others : (component : Component) → IsAmong old.counts component → ((g : ℕ) → component ≢ Group g) → flags_in new component ≡ flags_in old component

-- ---- the parts of a group's turn

-- in this moment of the tick the group may have its turn
pub record IsBefore (t : TickData) (g : ℕ) (so_far : List Deed) (done : List Bool) (told : Told) (publisher : Publisher) (tree : TreeValue) : Type 0 where
  pub told_is : IsToldOf t told
  pub at : IsAt t so_far done publisher tree
  pub none_failed : NoneFailedFrom g so_far done

abbrev pub turn_in : TickData → List Deed → ℕ → GroupTurn
turn_in t so_far g = turn_of t.plan t.before (now_of t) t.closing t.samples so_far g

-- what a turn of one group asks for
pub record MayTurn (told : Told) (g : ℕ) (on : List Bool) (sender : Option SenderState) (group : GroupWords) : Type 0 where
  pub good : IsGood told.config.now
  pub within : g < length told.config.now.group
  pub index : index_of group ≡ g
  pub may : MayTick told.config.now told.metas.now told.rows.now on sender group (group_at told.config.now g)

-- what a turn of one group makes of the group and of the buffer of datagrams
pub record TakesTurn (told : Told) (g : ℕ) (on : List Bool) (sender : Option SenderState) (count : ℕ) (old new : GroupWords) (out : Datagrams) : Type 0 where
  pub stands : (past : List GroupDeed) → IsGroup (metas_for (group_at told.config.now g) told.metas.now) (group_at told.config.now g) past old
      → HasTicked told.config.now (group_at told.config.now g) past (input_of told.moment told.closing told.metas.now told.rows.now on sender) new out
  pub goes_on : (turns : ℕ) → MayGoOn (metas_for (group_at told.config.now g) told.metas.now) (group_at told.config.now g) (turns + 1) old
      → MayGoOn (metas_for (group_at told.config.now g) told.metas.now) (group_at told.config.now g) turns new
  pub logs : KeepsOnLogging old new
  pub made : IsMadeFor told.config.now (group_at told.config.now g) new
  pub index : index_of new ≡ index_of old
  pub count_is : count ≡ length (datagrams_in out)
  pub reserved : IsReserved out

-- the group had its turn, and nothing was sent yet
pub record HasTurned (t : TickData) (g : ℕ) (so_far : List Deed) (after : Publisher) : Type 0 where
  pub ticked : (e : GroupWords) → HasTicked t.plan.config (group_at t.plan.config g) (group_past t.plan.config g so_far)
      (turn_input t.plan t.before (now_of t) t.closing t.samples so_far g) (slice_index_or after.groups.items g e) after.out
  pub senders : HaveSent t.plan.config (TookTurn g (turn_in t so_far g) ∷ so_far) after.senders.items

-- in any moment of the tick at which the group may have its turn, it has it
abbrev pub HasItsTurn : Told → ℕ → Publisher → Publisher → TreeValue → Type 0
HasItsTurn told g old new tree =
    (t : TickData) (so_far : List Deed) (done : List Bool)
    → IsBefore t g so_far done told old tree → HasTurned t g so_far new

-- the sender gave a front for each of so many datagrams of the group with this index
abbrev pub IsAdvancedBy : Told → ℕ → ℕ → SenderState → SenderState → Type 0
IsAdvancedBy told g count old new = new ≡ advanced_by (mode_of (group_at told.config.now g).security) old count

-- which of the first writers of the group with this index the tree has as Operational
abbrev pub AreWritersOn : TreeValue → ℕ → ℕ → List Bool → Type 0
AreWritersOn tree g count on =
    on ≡ map (λ w. is_operational (state_of (flags_in tree) (Writer g w))) (range_with_len 0 count)

-- ---- the turns of all groups

-- what the first n groups did
abbrev pub deeds_to : TickData → ℕ → List Deed
deeds_to t n = deeds_till t.plan t.before (now_of t) t.closing t.samples t.account.deeds n

-- the groups before this one had their turns
pub record HasPassed (t : TickData) (n : ℕ) (publisher : Publisher) (tree : TreeValue) (told after : Option LinkState) : Type 0 where
  pub done : List Bool
  pub at : IsAt t (deeds_to t n) done publisher tree
  pub none_failed : NoneFailedFrom n (deeds_to t n) done
  pub holds : (g : ℕ) → g < n → Holds t (deeds_to t g) g
  pub tells : TellsJournal t.account.journal told → TellsSoFar t (deeds_to t n) done after

-- what the turns of all groups ask for
pub record MayPassAll (told : Told) (publisher : Publisher) (tree : TreeValue) : Type 0 where
  pub good : IsGood told.config.now
  pub holds : HoldPublisher told.config.now publisher
  pub metas_are : (g : ℕ) → g < length told.config.now.group → AreMetas told.config.now (group_at told.config.now g) told.metas.now
  pub rows_are : AllZip (λ meta sampled. Belongs meta sampled.row.words) told.metas.now told.rows.now
  pub goes_on : MayAllGoOn told.config.now told.metas.now 1 publisher.groups.items
  pub counts_are : tree.counts ≡ counts_of told.config.now
  pub spent : KnowsSpent told.config.now publisher.senders.items tree

-- from the moment at which a tick began, the groups had their parts
abbrev pub HaveParts : Told → Publisher → Publisher → TreeValue → TreeValue → Option LinkState → Option LinkState → Type 0
HaveParts told old new tree later link after =
    (t : TickData) → IsToldOf t told → IsAt t (begun t) [] old tree
    → HasPassed t (length told.config.now.group) new later link after

-- ---- where memory runs out at a send

-- the group had its turn, the first of whose datagrams were sent, and no further one
pub record TurnHalts (t : TickData) (g : ℕ) (so_far : List Deed) (old new : Publisher) (told after : Option LinkState) : Type 0 where
  pub has : has_turn t.plan t.before (now_of t) t.closing so_far g ≡ true
  pub groups : HavePast t.plan.config (metas_at t.plan.config t.before) (TookTurn g (turn_in t so_far g) ∷ so_far) new.groups.items
  pub senders : HaveSent t.plan.config (TookTurn g (turn_in t so_far g) ∷ so_far) new.senders.items
  pub sends : SendsHalt g (turn_in t so_far g).made old new told after

-- from any moment of the tick at which the group's part is next, its turn halts
abbrev pub HasHalted : Told → ℕ → Publisher → Publisher → TreeValue → Option LinkState → Option LinkState → Type 0
HasHalted told g old new tree link after =
    (t : TickData) (so_far : List Deed) (done : List Bool) → IsToldOf t told → IsAt t so_far done old tree
    → NoneFailedFrom g so_far done → TurnHalts t g so_far old new link after

-- the turn of one group halts, after the parts of those before it
pub record TickHalts (t : TickData) (new : Publisher) (told after : Option LinkState) : Type 0 where
  pub group : ℕ
  pub within : group < length t.plan.config.group
  pub publisher : Publisher
  pub tree : TreeValue
  pub between : Option LinkState
  pub passed : HasPassed t group publisher tree told between
  pub halts : TurnHalts t group (deeds_to t group) publisher new between after

-- from the moment at which a tick began, the turn of one group halts
abbrev pub HaveHalted : Told → Publisher → Publisher → TreeValue → Option LinkState → Option LinkState → Type 0
HaveHalted told old new tree link after =
    (t : TickData) → IsToldOf t told → IsAt t (begun t) [] old tree → TickHalts t new link after

-- the datagrams of the tick
abbrev pub tick_sends : Plan → List Step → Account → ℕ → Bool → List Sampled → List Send
tick_sends p before a ms closing samples = last_sends (tick_deeds p before (moment_of before + ms) closing samples a.deeds)

-- memory ran out at a send of the tick: the first datagrams of the tick were sent, each once, in order, and no further one
pub record HaltsTickBehind (p : Plan) (before : List Step) (a : Account) (ms : ℕ) (closing : Bool) (samples : List Sampled) (told after : Option LinkState) : Type 0 where
  pub done : List Bool
  pub fewer : length done < length (tick_sends p before a ms closing samples)
  pub tells : TellsJournal a.journal told → (link : LinkState) → after ≡ Some link
      → link.journal ≡ a.journal ++ send_entries (tick_sends p before a ms closing samples) done

-- after steps alone
abbrev pub HaltsTick : Plan → List Step → ℕ → Bool → List Sampled → Option LinkState → Option LinkState → Type 0
HaltsTick p before ms closing samples told after = HaltsTickBehind p before (account_of p before) ms closing samples told after

-- in a life
abbrev pub HaltsTickIn : Plan → List Lived → ℕ → Bool → List Sampled → Option LinkState → Option LinkState → Type 0
HaltsTickIn p life ms closing samples told after = HaltsTickBehind p (steps_in life) (account_in p life) ms closing samples told after
