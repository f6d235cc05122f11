-- Looks of a thread at a reader.
use Rattle.std.proofs.Common.{◌≡◌, ℕ, ◌<◌, ◌≤◌, List, Vec, ◌++◌, ◌∷◌, [], length, map, replicate, get_or, refl, sym, ap, ◌∙◌, subst, arith}
use Rattle.std.specs.Prelude.{slice_index, slice_index_or, slice_set}
use Rattle.std.specs.declared.alloc.Global.{Global}
use Rattle.std.proofs.lemmas.List.{get_or_append_left, get_or_push, get_or-replicate, length-map, length-replicate, length_push, ext_get_or}
use native.Mathlib.Decide.{ℕ_discrete}
use Rattle.dataset_meta.specs.Metas.{no_meta}
use Rattle.version_cell.specs.declared.rule.Entry.{Entry}
use Rattle.version_cell.specs.Known.{Known}
use Rattle.version_cell.specs.Cells.{CellData}
use Rattle.version_cell.specs.Passes.{SeesMore}
use Rattle.version_cell.specs.Sets.{ArePassesOf, pass_at}
use Rattle.version_cell.proofs.Logs.{starts_length}
use Rattle.ps_config.specs.declared.parts.ReaderPart.{ReaderPart}
use Rattle.ps_config.specs.Sound.{readers}
use Rattle.target_cells.specs.Keeping.{AreLevel}
use Rattle.pubsub_engine.specs.declared.session.Session.{Session}
use Rattle.pubsub_engine.specs.Holding.{AreTargetsOf, ChangesStores, IsSession, keeper_of, passes_of, plan_of}
use Rattle.pubsub_engine.specs.Standing.{KeepsStands}
use Rattle.script_player.specs.declared.hand.Hand.{Hand}
use Rattle.script_player.specs.declared.player.Player.{Player}
use Rattle.script_player.specs.Player.{IsHand, IsPlayer, MayWatch, SeeNoMore, Watches, stored}
use Rattle.script_player.proofs.Staying.{bank-stays, each-hand, hand-holds, hands-change, script-stays, still-eight, stores-change, stores-last}

-- ---- counts

-- each count is among those that a pass had seen first and those that it has seen at the end
abbrev pub AreCounts : Known → Known → List ℕ → Type 0
AreCounts first last counts =
    (k : ℕ) → k < length counts → (length first.seen ≤ slice_index counts k) × (slice_index counts k ≤ length last.seen)

pub sees-longer : (old new : Known) → SeesMore old new → length old.seen ≤ length new.seen
sees-longer old new more = starts_length new.seen old.seen more.seen

-- one look more
pub counts-more : (first last new : Known) (counts more : List ℕ) (count : ℕ) → SeesMore first last → SeesMore last new → count ≡ length new.seen → more ≡ counts ++ count ∷ []
    → AreCounts first last counts → AreCounts first new more
counts-more first last new counts more count began goes is pushed below k lt = go (ℕ_discrete k (length counts))
  where
    longer : length last.seen ≤ length new.seen
    longer = sees-longer last new goes

    begun : length first.seen ≤ length last.seen
    begun = sees-longer first last began

    go : Dec (k ≡ length counts) → (length first.seen ≤ slice_index more k) × (slice_index more k ≤ length new.seen)
    go (yes e) =
        let here : slice_index more k ≡ count = ap (λ (l : List ℕ). slice_index l k) pushed ∙ get_or_push counts count 0 k (sym e) in
        (omega (arith, longer, begun, here, is), omega (arith, here, is))
    go (no ne) =
        let n = ap (λ (l : List ℕ). length l) pushed in
        let m = length_push counts count in
        let there : k < length counts = omega arith in
        let here : slice_index more k ≡ slice_index counts k = ap (λ (l : List ℕ). slice_index l k) pushed ∙ get_or_append_left counts (count ∷ []) 0 k there in
        let was = below k there in
        let low = was.0 in
        let high = was.1 in
        (omega (arith, here, low), omega (arith, here, high, longer))

-- where both had seen as much, the counts are all this
pub counts-are : (first last : Known) (counts : List ℕ) (times n : ℕ) → length first.seen ≡ n → length last.seen ≤ n → length counts ≡ times → AreCounts first last counts
    → counts ≡ replicate times n
counts-are first last counts times n low high count among =
    ext_get_or 0 counts (replicate times n) (count ∙ sym (length-replicate times n)) (λ k lt.
    let here = among k lt in
    let a = here.0 in
    let b = here.1 in
    let is : get_or counts k 0 ≡ n = omega arith in
    is ∙ sym (get_or-replicate times k n 0 (omega arith)))

-- ---- a watch

-- a target for each reader
pub targets-count : (session : Session) (player : Player) → AreTargetsOf session player.targets → length player.targets.cells ≡ length (readers (plan_of session).config)
targets-count session player are =
    let config = (plan_of session).config in
    let sets = map (λ (reader : ReaderPart). reader.dataset) (readers config) in
    let a = length-map player.targets.cells (λ (cell : CellData). cell.meta) in
    let b = ap length are.metas in
    sym a ∙ b ∙ length-map sets (λ (set : ℕ). slice_index_or config.dataset set no_meta) ∙ length-map (readers config) (λ (reader : ReaderPart). reader.dataset)

-- what the calls of a watch say: the session is level with the watches, they look, and it is level again
pub record AreLooks (reader times : ℕ) (player : Player) (level new : Session) (first looked last : List Known) (counts : List ℕ) : Type 0 where
  pub levels : AreLevel (keeper_of player.session) player.watches first
  pub kept : keeper_of level ≡ keeper_of player.session
  pub own : ArePassesOf player.targets.cells looked
  pub more : SeesMore (pass_at first reader) (pass_at looked reader)
  pub count : length counts ≡ times
  pub counted : AreCounts (pass_at first reader) (pass_at looked reader) counts
  pub levels_again : AreLevel (keeper_of level) looked last
  pub changes : ChangesStores player.session level
  pub changes_again : ChangesStores level new
  pub stood : KeepsStands player.session level
  pub stood_again : KeepsStands level new
  pub session : IsSession new
  pub targets : AreTargetsOf new player.targets
  pub own_last : ArePassesOf player.targets.cells last

module _ (player : Player) (is : IsPlayer player) (thread index reader times : ℕ) (may : MayWatch thread reader player) (hand : Hand) (at : index ≡ thread)
    (read : hand ≡ get_or player.hands.items index hand) (level new : Session) (first looked last : List Known) (counts : List ℕ)
    (l : AreLooks reader times player level new first looked last counts) (after : Hand) (hands : Vec Hand Global) (items : hands.items ≡ slice_set player.hands.items index after)
    (looks : after.looks.items ≡ hand.looks.items ++ record { reader = reader; counts = counts } ∷ []) (rest : after ≡ record hand { looks = after.looks }) where
  there : reader < length player.targets.cells
  there = let n = targets-count player.session player is.targets in let lt = may.there in omega arith

  all-stored : counts ≡ replicate times (stored player.session reader)
  all-stored =
      let n = is.watches.count in
      let m = l.own.count in
      let at-first = l.levels reader (omega (arith, there, n)) in
      let at-last = l.levels_again reader (omega (arith, there, m)) in
      let low : length (pass_at first reader).seen ≡ stored player.session reader = ap (λ (s : List Entry). length s) at-first.seen in
      let longer = sees-longer (pass_at looked reader) (pass_at last reader) at-last.more in
      let end : length (pass_at last reader).seen ≡ stored player.session reader
      = ap (λ (s : List Entry). length s) at-last.seen ∙ ap (λ (k : List Known). length (pass_at k reader).seen) l.kept in
      counts-are (pass_at first reader) (pass_at looked reader) counts times (stored player.session reader) low (omega (arith, longer, end)) l.count l.counted

  changed : ChangesStores player.session new
  changed = stores-change player.session level new l.changes l.changes_again

  passes-same : after.passes ≡ hand.passes
  passes-same = ap (λ (h : Hand). h.passes) rest

  was : IsHand player.bank thread hand
  was = hand-holds player is thread index hand may.bound at read (IsHand player.bank thread) (is.hands thread may.bound)

  was-behind : SeeNoMore hand.passes (passes_of player.session)
  was-behind = hand-holds player is thread index hand may.bound at read (λ (h : Hand). SeeNoMore h.passes (passes_of player.session)) (is.behind thread may.bound)

  pub player-watched : IsPlayer (record player { session = new; watches = last; hands = hands })
  player-watched = record {
    session = l.session;
    of_script = script-stays player.session new (stores-last player.session new changed) is.of_script;
    bank = bank-stays player.session new player.bank (ap plan_of changed) (ap passes_of changed) is.bank;
    cells = is.cells;
    targets = l.targets;
    watches = l.own_last;
    eight = still-eight player is thread index hand may.bound at read after hands.items items;
    hands = each-hand player is thread index hand may.bound at read after hands.items items (IsHand player.bank) is.hands
        (record {
          own = subst (ArePassesOf player.bank) (sym passes-same) was.own;
          author = λ set lt. ap (λ (p : List Known). (pass_at p set).author) passes-same ∙ was.author set lt;
        });
    behind = each-hand player is thread index hand may.bound at read after hands.items items (λ (t : ℕ) (h : Hand). SeeNoMore h.passes (passes_of new))
        (λ t lt d. subst (SeeNoMore (get_or player.hands.items t d).passes) (sym (ap passes_of changed)) (is.behind t lt d))
        (subst (λ (p : List Known). SeeNoMore p (passes_of new)) (sym passes-same) (subst (SeeNoMore hand.passes) (sym (ap passes_of changed)) was-behind));
  }

  pub player-watches : Watches thread reader times player (record player { session = new; watches = last; hands = hands })
  player-watches = record {
    hand = hand;
    after = after;
    hands = hands-change player is thread index hand may.bound at read after hands.items items;
    looks = looks ∙ ap (λ (cs : List ℕ). hand.looks.items ++ record { reader = reader; counts = cs } ∷ []) all-stored;
    passes = passes-same;
    versions = ap (λ (h : Hand). h.versions) rest;
    stores = changed;
    stands = λ p steps stands. l.stood_again p steps (l.stood p steps stands);
    rest = refl;
  }
