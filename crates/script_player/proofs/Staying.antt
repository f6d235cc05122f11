-- What a player keeps when its session goes on, or one of its hands.
use Rattle.std.proofs.Common.{◌≡◌, ℕ, ◌-◌, ◌<◌, ◌≤◌, List, length, map, drop, get_or, set, sym, ap, ◌∙◌, subst, arith}
use Rattle.std.proofs.lemmas.List.{get_or-set_other, get_or-set_same, get_or_read, length-drop, length-map, length-set}
use Rattle.std.specs.List.{HoldsAt}
use native.Mathlib.Decide.{ℕ_discrete}
use Rattle.version_cell.specs.Known.{Known}
use Rattle.version_cell.specs.Cells.{CellData}
use Rattle.version_cell.specs.Sets.{ArePassesOf, pass_at}
use Rattle.ps_config.specs.Sound.{readers}
use Rattle.target_cells.specs.Keeping.{TargetsData, metas_of}
use Rattle.session_model.specs.Counts.{most_ticks}
use Rattle.session_model.specs.Steps.{Plan}
use Rattle.pubsub_engine.specs.declared.sets.Growth.{Growth}
use Rattle.pubsub_engine.specs.declared.session.Left.{Left}
use Rattle.pubsub_engine.specs.declared.session.Session.{Session}
use Rattle.pubsub_engine.specs.Holding.{AreTargetsOf, ChangesSamples, ChangesStores, IsBankOf, IsSession, KeepsPasses, MayAppendNext, keeper_of, left_of, logged_of, opening_left, passes_of, plan_of, ticks_of}
use Rattle.script_player.specs.declared.hand.Hand.{Hand}
use Rattle.script_player.specs.declared.player.Player.{Player}
use Rattle.script_player.specs.Passing.{LastsAs}
use Rattle.script_player.specs.Player.{ChangesHand, IsOfScript, IsPlayer, MayAppend, SeeNoMore}

-- ---- the session

pub bank-stays : (old new : Session) (bank : List CellData) → plan_of new ≡ plan_of old → passes_of new ≡ passes_of old → IsBankOf old bank → IsBankOf new bank
bank-stays old new bank plan passes is = record {
  passes = subst (ArePassesOf bank) (sym passes) is.passes;
  metas = is.metas ∙ sym (ap (λ (p : Plan). p.full) plan);
  cells = is.cells;
}

pub targets-stay : (old new : Session) (targets : TargetsData) → plan_of new ≡ plan_of old → keeper_of new ≡ keeper_of old → new.left.stores ≡ old.left.stores
    → AreTargetsOf old targets → AreTargetsOf new targets
targets-stay old new targets plan keeper stores are =
    let wanted : Plan → Type 0 = λ p. map (λ cell. cell.meta) targets.cells ≡ metas_of p.config.dataset (map (λ reader. reader.dataset) (readers p.config)) in
    record {
      keeper = subst (ArePassesOf targets.cells) (sym keeper) are.keeper;
      limit = are.limit ∙ sym stores;
      metas = subst wanted (sym plan) are.metas;
    }

pub samples-change : (old mid new : Session) → ChangesSamples old mid → ChangesSamples mid new → ChangesSamples old new
samples-change old mid new first last = last ∙ ap (λ (s : Session). record s { samples = new.samples }) first

pub stores-change : (old mid new : Session) → ChangesStores old mid → ChangesStores mid new → ChangesStores old new
stores-change old mid new first last = last ∙ ap (λ (s : Session). record s { stores = new.stores }) first

-- passes that have seen no more have seen no more than later ones
pub no-more-later : (hand old new : List Known) → length new ≡ length old → ((set : ℕ) → set < length old → length (pass_at old set).seen ≤ length (pass_at new set).seen)
    → SeeNoMore hand old → SeeNoMore hand new
no-more-later hand old new count later behind set lt =
    let there : set < length old = omega (arith, lt, count) in
    let a = behind set there in
    let b = later set there in
    omega (arith, a, b)

-- a session stays a script's
pub script-stays : (old new : Session) → LastsAs old new → IsOfScript old → IsOfScript new
script-stays old new lasts is = record { few = omega (arith, lasts.ticks, is.few); whole = omega (arith, lasts.ticks, lasts.logged, is.whole) }

pub left-lasts : (old new : Session) → left_of new ≡ left_of old → LastsAs old new
left-lasts old new left = record { ticks = ap (λ (l : Left). l.stores - 1) left; logged = ap (λ (l : Left). l.logged) left }

-- one is a script's before its first tick, where it was opened for as many ticks at most, and its logs for more data frames
pub opened-script : (session : Session) (ticks logged : ℕ) → left_of session ≡ opening_left ticks logged → ticks ≤ most_ticks → ticks < logged → IsOfScript session
opened-script session ticks logged left few long =
    let stores = ap (λ (l : Left). l.stores) left in
    let kept = ap (λ (l : Left). l.logged) left in
    record { few = omega (arith, stores, few); whole = omega (arith, stores, kept, long) }

pub samples-last : (old new : Session) → ChangesSamples old new → LastsAs old new
samples-last old new changes = record { ticks = ap ticks_of changes; logged = ap logged_of changes }

pub stores-last : (old new : Session) → ChangesStores old new → LastsAs old new
stores-last old new changes = record { ticks = ap ticks_of changes; logged = ap logged_of changes }

pub passes-last : (old new : Session) → KeepsPasses old new → LastsAs old new
passes-last old new keeps = record { ticks = ap (λ (n : ℕ). n - 1) keeps.stores; logged = keeps.logged }

-- it goes on with the passes, the stores and the plan that it had
pub player-stays : (player : Player) (session : Session) → IsPlayer player → IsSession session → KeepsPasses player.session session → IsPlayer (record player { session = session })
player-stays player session is holds keeps = record {
  session = holds;
  of_script = script-stays player.session session (passes-last player.session session keeps) is.of_script;
  bank = bank-stays player.session session player.bank keeps.plan keeps.passes is.bank;
  cells = is.cells;
  targets = targets-stay player.session session player.targets keeps.plan keeps.keeper keeps.stores is.targets;
  watches = is.watches;
  eight = is.eight;
  hands = is.hands;
  behind = λ t lt d. subst (SeeNoMore (get_or player.hands.items t d).passes) (sym keeps.passes) (is.behind t lt d);
}

-- the next append may come
pub append-next : (player : Player) → IsPlayer player → MayAppend player → MayAppendNext player.session
append-next player is may =
    let sets = player.session.sets in
    let later = drop sets.made sets.later.items in
    let some = may.left in
    let a = length-map later (λ (growth : Growth). growth.set) in
    let b = length-drop sets.made sets.later.items in
    record { session = is.session; running = may.running; left = omega (arith, some, a, b) }

-- ---- a hand

-- the thread of a player that was read
module _ (player : Player) (is : IsPlayer player) (thread index : ℕ) (hand : Hand) (lt : thread < 8) (at : index ≡ thread) (read : hand ≡ get_or player.hands.items index hand) where
  abbrev room : thread < length player.hands.items
  room = let n = is.eight in omega (arith, lt, n)

  pub hand-is : HoldsAt (λ h. h ≡ hand) player.hands.items thread
  hand-is d = sym (get_or_read player.hands.items thread hand room (subst (λ (n : ℕ). hand ≡ get_or player.hands.items n hand) at read) d)

  pub hand-holds : (P : Hand → Type 0) → HoldsAt P player.hands.items thread → P hand
  hand-holds P h = subst P (hand-is hand) (h hand)

  -- another in its place
  module _ (after : Hand) (hands : List Hand) (new : hands ≡ set player.hands.items index after) where
    pub hands-change : ChangesHand thread player.hands.items hands hand after
    hands-change = record { was = hand-is; hands = new ∙ ap (λ (n : ℕ). set player.hands.items n after) at }

    pub still-eight : length hands ≡ 8
    still-eight = ap (λ (l : List Hand). length l) new ∙ length-set player.hands.items index after ∙ is.eight

    pub each-hand : (P : ℕ → Hand → Type 0) → ((t : ℕ) → t < 8 → HoldsAt (P t) player.hands.items t) → P thread after → (t : ℕ) → t < 8 → HoldsAt (P t) hands t
    each-hand P all here t lt d = go (ℕ_discrete t thread)
      where
        go : Dec (t ≡ thread) → P t (get_or hands t d)
        go (yes e) = subst (λ (s : ℕ). P s (get_or hands s d)) (sym e)
            (subst (P thread) (sym (ap (λ (l : List Hand). get_or l thread d) hands-change.hands ∙ get_or-set_same player.hands.items thread after d room)) here)
        go (no ne) = subst (P t) (sym (ap (λ (l : List Hand). get_or l t d) hands-change.hands ∙ get_or-set_other player.hands.items thread t after d ne)) (all t lt d)
