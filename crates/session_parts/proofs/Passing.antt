-- A group's part of a tick.
use Rattle.std.proofs.Common.{◌≡◌, sym, ap, ◌∙◌, subst, arith, ℕ, ◌+◌, Bool, true, false, List, [], ◌∷◌, ◌++◌, Option}
use Rattle.std.specs.Prelude.{zip, ◌||◌}
use Rattle.std.proofs.lemmas.List.{append-nil}
use Rattle.dataset_meta.specs.Rows.{cons_if}
use Rattle.ua_base.specs.Journal.{LinkState}
use Rattle.pubsub_states.specs.declared.component.Component.{Component}
use Rattle.pubsub_states.specs.declared.component.Component.TheVariants.{Root, Connection, Group, Writer}
use Rattle.pubsub_states.specs.declared.flags.Flags.{Flags}
use Rattle.pubsub_states.specs.Components.{IsAmong}
use Rattle.pubsub_states.specs.Changes.{TreeValue, flags_in}
use Rattle.pubsub_states.specs.declared.state.State.{State}
use Rattle.pubsub_states.specs.declared.state.State.TheVariants.{Operational}
use Rattle.pubsub_states.specs.States.{state_of, is_operational, state_under}
use Rattle.writer_group.specs.Turns.{GroupTurn}
use Rattle.session_model.specs.Deeds.{Deed, TookTurn, group_past, has_turn, is_spent, turn_flags, turn_input, turn_of, works}
use Rattle.writer_group.specs.Parts.{group_at}
use Rattle.session_model.specs.Sends.{last_sends, last_failed}
use Rattle.session_model.specs.Steps.{is_on}
use Rattle.session_model.specs.Turns.{HoldsTurn}
use Rattle.session_parts.specs.declared.publisher.Publisher.{Publisher}
use Rattle.session_parts.specs.Standing.{HasFlags}
use Rattle.session_parts.specs.Ticking.{TickData, IsAt, Holds, NoneFailedFrom, TakesPart, TellsSoFar, flags_in_tick, now_of, turned}

-- whether the group has a turn
abbrev pub has : TickData → List Deed → ℕ → Bool
has t so_far g = has_turn t.plan t.before (now_of t) t.closing so_far g

-- its turn
abbrev pub turn_in : TickData → List Deed → ℕ → GroupTurn
turn_in t so_far g = turn_of t.plan t.before (now_of t) t.closing t.samples so_far g

turned-not : (t : TickData) (so_far : List Deed) (g : ℕ) → has t so_far g ≡ false → turned t so_far g ≡ so_far
turned-not t so_far g not_so = ap (λ (b : Bool). cons_if b (TookTurn g (turn_in t so_far g)) so_far) not_so

pub turned-so : (t : TickData) (so_far : List Deed) (g : ℕ) → has t so_far g ≡ true → turned t so_far g ≡ TookTurn g (turn_in t so_far g) ∷ so_far
turned-so t so_far g so = ap (λ (b : Bool). cons_if b (TookTurn g (turn_in t so_far g)) so_far) so

-- ---- without a turn

none-holds : (t : TickData) (so_far : List Deed) (g : ℕ) → has t so_far g ≡ false → Holds t so_far g
none-holds t so_far g not_so = λ so. absurd (apart (sym not_so ∙ so))
  where
    apart : false ≡ true → ⊥
    apart same = cc

pub passes-by : (t : TickData) (g : ℕ) (so_far : List Deed) (done : List Bool) (publisher : Publisher) (tree : TreeValue) (told : Option LinkState) → has t so_far g ≡ false
    → IsAt t so_far done publisher tree → NoneFailedFrom g so_far done → TakesPart t g so_far done publisher tree told told
passes-by t g so_far done publisher tree told not_so at none = record {
  more = [];
  holds = none-holds t so_far g not_so;
  at = moved (λ d l. IsAt t d l publisher tree) at;
  none_failed = moved (λ d l. NoneFailedFrom (g + 1) d l) (λ h behind. none h (omega (arith, behind)));
  tells = λ told_so. moved (λ d l. TellsSoFar t d l told) told_so;
}
  where
    moved : (P : List Deed → List Bool → Type 0) → P so_far done → P (turned t so_far g) (done ++ [])
    moved P h = subst (λ (d : List Deed). P d (done ++ [])) (sym (turned-not t so_far g not_so)) (subst (λ (l : List Bool). P so_far l) (sym (append-nil done)) h)

-- ---- with a turn: the parts are given by Turning

pub passes-with : (t : TickData) (g : ℕ) (so_far : List Deed) (done more : List Bool) (publisher : Publisher) (tree : TreeValue) (told after : Option LinkState) → has t so_far g ≡ true
    → HoldsTurn t.plan.config (group_at t.plan.config g) (group_past t.plan.config g so_far) (turn_input t.plan t.before (now_of t) t.closing t.samples so_far g)
    → IsAt t (TookTurn g (turn_in t so_far g) ∷ so_far) (done ++ more) publisher tree
    → NoneFailedFrom (g + 1) (TookTurn g (turn_in t so_far g) ∷ so_far) (done ++ more)
    → (TellsSoFar t so_far done told → TellsSoFar t (TookTurn g (turn_in t so_far g) ∷ so_far) (done ++ more) after)
    → TakesPart t g so_far done publisher tree told after
passes-with t g so_far done more publisher tree told after so holds at none tells = record {
  more = more;
  holds = λ has_one. holds;
  at = moved (λ d. IsAt t d (done ++ more) publisher tree) at;
  none_failed = moved (λ d. NoneFailedFrom (g + 1) d (done ++ more)) none;
  tells = λ told_so. moved (λ d. TellsSoFar t d (done ++ more) after) (tells told_so);
}
  where
    moved : (P : List Deed → Type 0) → P (TookTurn g (turn_in t so_far g) ∷ so_far) → P (turned t so_far g)
    moved P h = subst P (sym (turned-so t so_far g so)) h

-- ---- the tree, before a group's turn

group-state : (f h : Component → Flags) (g : ℕ) → f Root ≡ h Root → f Connection ≡ h Connection → f (Group g) ≡ h (Group g) → state_of f (Group g) ≡ state_of h (Group g)
group-state f h g root connection group =
    ap (λ (x : Flags). state_under (state_under (state_under Operational x) (f Connection)) (f (Group g))) root
    ∙ ap (λ (x : Flags). state_under (state_under (state_under Operational (h Root)) x) (f (Group g))) connection
    ∙ ap (λ (x : Flags). state_under (state_under (state_under Operational (h Root)) (h Connection)) x) group

writer-state : (f h : Component → Flags) (g w : ℕ) → f Root ≡ h Root → f Connection ≡ h Connection → f (Group g) ≡ h (Group g) → f (Writer g w) ≡ h (Writer g w)
    → state_of f (Writer g w) ≡ state_of h (Writer g w)
writer-state f h g w root connection group writer =
    ap (λ (s : State). state_under s (f (Writer g w))) (group-state f h g root connection group)
    ∙ ap (λ (x : Flags). state_under (state_of h (Group g)) x) writer

-- where none of the group's sends failed yet, the tree has its flag as the definition has it
flag-group : (t : TickData) (g : ℕ) (so_far : List Deed) (done : List Bool) (tree : TreeValue) → HasFlags (flags_in_tick t so_far done) tree
    → last_failed g (zip (last_sends so_far) done) ≡ false → IsAmong tree.counts (Group g)
    → flags_in tree (Group g) ≡ turn_flags t.plan.config t.before so_far (Group g)
flag-group t g so_far done tree flags none there =
    flags (Group g) there
    ∙ ap (λ (b : Bool). record { enabled = is_on t.plan.config t.before (Group g); fault = b || is_spent t.plan.config g so_far; ready = true }) none

-- the group is Operational, before its turn, exactly where the tree has it so
pub group-works : (t : TickData) (g : ℕ) (so_far : List Deed) (done : List Bool) (tree : TreeValue) → HasFlags (flags_in_tick t so_far done) tree
    → last_failed g (zip (last_sends so_far) done) ≡ false → IsAmong tree.counts (Group g)
    → is_operational (state_of (flags_in tree) (Group g)) ≡ works t.plan.config t.before so_far (Group g)
group-works t g so_far done tree flags none there =
    ap is_operational (group-state (flags_in tree) (turn_flags t.plan.config t.before so_far) g (flags Root tt) (flags Connection tt) (flag-group t g so_far done tree flags none there))

-- and so is a writer of it
pub writer-works : (t : TickData) (g w : ℕ) (so_far : List Deed) (done : List Bool) (tree : TreeValue) → HasFlags (flags_in_tick t so_far done) tree
    → last_failed g (zip (last_sends so_far) done) ≡ false → IsAmong tree.counts (Group g) → IsAmong tree.counts (Writer g w)
    → is_operational (state_of (flags_in tree) (Writer g w)) ≡ works t.plan.config t.before so_far (Writer g w)
writer-works t g w so_far done tree flags none there within =
    ap is_operational
    (writer-state (flags_in tree) (turn_flags t.plan.config t.before so_far) g w (flags Root tt) (flags Connection tt) (flag-group t g so_far done tree flags none there) (flags (Writer g w) within))
