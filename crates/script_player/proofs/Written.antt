-- A player of which a thread wrote.
use Rattle.std.proofs.Common.{◌≡◌, ℕ, ◌<◌, ◌≤◌, List, Vec, length, get_or, refl, sym, ap, ◌∙◌, subst, arith, length-append}
use Rattle.std.specs.Prelude.{slice_set}
use Rattle.std.specs.declared.alloc.Global.{Global}
use native.Mathlib.Decide.{ℕ_discrete}
use Rattle.row_words.specs.declared.patch.Patch.{Patch}
use Rattle.version_cell.specs.declared.rule.Entry.{Entry}
use Rattle.version_cell.specs.Sets.{ArePassesOf, cell_at, pass_at}
use Rattle.version_cell.proofs.Logs.{starts_length}
use Rattle.pubsub_engine.specs.declared.session.Session.{Session}
use Rattle.pubsub_engine.specs.Holding.{ChangesSamples, IsBankOf, IsSession, keeper_of, passes_of, plan_of}
use Rattle.pubsub_engine.specs.Standing.{KeepsStands}
use Rattle.script_player.specs.declared.hand.Hand.{Hand}
use Rattle.script_player.specs.declared.player.Player.{Player}
use Rattle.script_player.specs.Player.{HasWritten, IsHand, IsPlayer, KeepAuthors, SeeNoMore, Writes}
use Rattle.script_player.proofs.Staying.{each-hand, hand-holds, hands-change, no-more-later, samples-last, script-stays, still-eight, targets-stay}

-- what a thread's write leaves of the session, of the thread's passes and of its versions
pub record HandWrote (player : Player) (set : ℕ) (patch : Patch) (new : Session) (hand after : Hand) : Type 0 where
  pub session : IsSession new
  pub bank : IsBankOf new player.bank
  pub own : ArePassesOf player.bank after.passes
  pub wrote : HasWritten (cell_at player.bank set) set patch (passes_of player.session) (passes_of new) hand after
  pub authors : KeepAuthors hand.passes after.passes
  pub behind : SeeNoMore after.passes (passes_of new)
  pub samples : ChangesSamples player.session new
  pub stands : KeepsStands player.session new

module _ (player : Player) (is : IsPlayer player) (thread index : ℕ) (hand : Hand) (lt : thread < 8) (at : index ≡ thread) (read : hand ≡ get_or player.hands.items index hand)
    (set : ℕ) (patch : Patch) (new : Session) (after : Hand) (hands : Vec Hand Global) (items : hands.items ≡ slice_set player.hands.items index after)
    (w : HandWrote player set patch new hand after) where
  grows : (k : ℕ) → k < length (passes_of player.session) → length (pass_at (passes_of player.session) k).seen ≤ length (pass_at (passes_of new) k).seen
  grows k there = go (ℕ_discrete k set)
    where
      go : Dec (k ≡ set) → length (pass_at (passes_of player.session) k).seen ≤ length (pass_at (passes_of new) k).seen
      go (yes e) = subst (λ (j : ℕ). length (pass_at (passes_of player.session) j).seen ≤ length (pass_at (passes_of new) j).seen) (sym e)
          (let a = starts_length w.wrote.before (pass_at (passes_of player.session) set).seen w.wrote.more in
          let b = ap (λ (l : List Entry). length l) w.wrote.seen in
          omega (arith, a, b, length-append {A = Entry}))
      go (no ne) = let a = ap (λ (l : List Entry). length l) (w.wrote.others k ne there) in omega (arith, a)

  same-count : length (passes_of new) ≡ length (passes_of player.session)
  same-count = w.bank.passes.count ∙ sym is.bank.passes.count

  was : IsHand player.bank thread hand
  was = hand-holds player is thread index hand lt at read (IsHand player.bank thread) (is.hands thread lt)

  now : IsHand player.bank thread after
  now = record { own = w.own; author = λ k there. w.authors k (let n = was.own.count in omega (arith, there, n)) ∙ was.author k there }

  pub player-written : IsPlayer (record player { session = new; hands = hands })
  player-written = record {
    session = w.session;
    of_script = script-stays player.session new (samples-last player.session new w.samples) is.of_script;
    bank = w.bank;
    cells = is.cells;
    targets = targets-stay player.session new player.targets (ap plan_of w.samples) (ap keeper_of w.samples) (ap (λ (s : Session). s.left.stores) w.samples) is.targets;
    watches = is.watches;
    eight = still-eight player is thread index hand lt at read after hands.items items;
    hands = each-hand player is thread index hand lt at read after hands.items items (IsHand player.bank) is.hands now;
    behind = each-hand player is thread index hand lt at read after hands.items items (λ (t : ℕ) (h : Hand). SeeNoMore h.passes (passes_of new))
        (λ t there d. no-more-later (get_or player.hands.items t d).passes (passes_of player.session) (passes_of new) same-count grows (is.behind t there d)) w.behind;
  }

  pub player-writes : Writes thread set patch player (record player { session = new; hands = hands })
  player-writes = record {
    hand = hand;
    after = after;
    hands = hands-change player is thread index hand lt at read after hands.items items;
    wrote = w.wrote;
    samples = w.samples;
    stands = w.stands;
    rest = refl;
  }
