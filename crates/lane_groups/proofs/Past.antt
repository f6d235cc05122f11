-- What deeds make of a group's past, of its sender, and of its datagrams.
use Rattle.std.proofs.Common.{◌≡◌, refl, sym, ap, ◌∙◌, arith, ℕ, zero, suc, ◌+◌, ◌<◌, ◌≤◌, ◌≢◌, ◌⊎◌, inl, inr, Bool, true, false, List, [], ◌∷◌, ◌++◌, length, append_assoc}
use Rattle.std.specs.Prelude.{◌==◌, ◌||◌, fold, Option, Some, None, option_map}
use Rattle.std.specs.List.{range_with_len}
use Rattle.std.proofs.lemmas.Bool.Decides.{eqb_tells}
use Rattle.std.proofs.lemmas.Bool.{eq-eqb, ne_eqb}
use Rattle.std.proofs.lemmas.List.{append-nil}
use Rattle.dataset_meta.specs.Rows.{cons_if}
use Rattle.message_guard.specs.Senders.{turned}
use Rattle.ps_config.specs.declared.parts.Config.{Config}
use Rattle.ps_config.specs.Headers.{mode_of}
use Rattle.pubsub_states.specs.declared.component.Component.TheVariants.{Group}
use Rattle.writer_group.specs.declared.sampled.Sampled.{Sampled}
use Rattle.writer_group.specs.Turns.{GroupTurn, GroupDeed, RefreshedWriter, HadGroupTurn}
use Rattle.session_model.specs.Deeds.{Deed, CameTo, RefreshedBelow, TookTurn, advanced_if, group_indexes, group_past, has_turn, is_rekeyed, is_writer_below, refreshed_where, rekeyed, sender_after, shares, tick_deeds, turn_of, turned_on, writer_indexes}
use Rattle.writer_group.specs.Parts.{group_at}
use Rattle.session_parts.proofs.Counting.{fold-more}
use Rattle.lane_groups.specs.declared.turn.TurnIn.{TurnIn}
use Rattle.lane_groups.specs.Deeds.{datagrams_of, plan_of, ticked}
use Rattle.lane_groups.specs.Places.{IsApart}

-- ---- another group's turn

pub past-other : (config : Config) (g h : ℕ) (b : Bool) (turn : GroupTurn) (deeds : List Deed) → h ≢ g → group_past config g (cons_if b (TookTurn h turn) deeds) ≡ group_past config g deeds
past-other config g h true turn deeds other = ap (λ (c : Bool). cons_if c (HadGroupTurn turn) (group_past config g deeds)) (ne_eqb h g other)
past-other config g h false turn deeds other = refl

pub past-own : (config : Config) (g : ℕ) (turn : GroupTurn) (deeds : List Deed) → group_past config g (TookTurn g turn ∷ deeds) ≡ HadGroupTurn turn ∷ group_past config g deeds
past-own config g turn deeds = ap (λ (c : Bool). cons_if c (HadGroupTurn turn) (group_past config g deeds)) (eq-eqb g g refl)

-- it uses another sender, or none
pub sender-apart : (config : Config) (keygroup : Option ℕ) (h : ℕ) (b : Bool) (turn : GroupTurn) (deeds : List Deed) → IsApart config keygroup h
    → option_map (λ k. sender_after config k (cons_if b (TookTurn h turn) deeds)) keygroup ≡ option_map (λ k. sender_after config k deeds) keygroup
sender-apart config None h b turn deeds apart = refl
sender-apart config (Some k) h true turn deeds apart = ap Some (used (shares (group_at config h) k) apart)
  where
    used : (c : Bool) → c ≡ false → advanced_if c (mode_of (group_at config h).security) (length turn.made) (sender_after config k deeds) ≡ sender_after config k deeds
    used c e = ap (λ (c : Bool). advanced_if c (mode_of (group_at config h).security) (length turn.made) (sender_after config k deeds)) e
sender-apart config (Some k) h false turn deeds apart = refl

-- ---- refreshes

none-refreshed : (test : ℕ → Bool) (past : List GroupDeed) (writers : List ℕ) → ((w : ℕ) → test w ≡ false) → refreshed_where test past writers ≡ past
none-refreshed test past [] none = refl
none-refreshed test past (w ∷ writers) none =
    ap (λ (b : Bool). refreshed_where test (cons_if b (RefreshedWriter w) past) writers) (none w) ∙ none-refreshed test past writers none

all-refreshed : (test : ℕ → Bool) (past : List GroupDeed) (writers : List ℕ) → ((w : ℕ) → test w ≡ true) → refreshed_where test past writers ≡ refreshed_where (λ w. true) past writers
all-refreshed test past [] all = refl
all-refreshed test past (w ∷ writers) all =
    ap (λ (b : Bool). refreshed_where test (cons_if b (RefreshedWriter w) past) writers) (all w) ∙ all-refreshed test (RefreshedWriter w ∷ past) writers all

or-false : (b : Bool) → (b || false) ≡ b
or-false true = refl
or-false false = refl

below-is : (g h w : ℕ) → is_writer_below (Group g) h w ≡ (g == h)
below-is g h w = or-false (g == h)

-- the past of a group where it is refreshed as a whole, if it is
abbrev pub refreshed_if : Config → ℕ → Bool → List GroupDeed → List GroupDeed
refreshed_if config g true past = refreshed_where (λ w. true) past (writer_indexes (group_at config g))
refreshed_if config g false past = past

refresh-other : (config : Config) (g h : ℕ) (b : Bool) (deeds : List Deed) → h ≢ g → group_past config g (cons_if b (RefreshedBelow (Group h)) deeds) ≡ group_past config g deeds
refresh-other config g h true deeds other =
    none-refreshed (is_writer_below (Group h) g) (group_past config g deeds) (writer_indexes (group_at config g)) (λ w. below-is h g w ∙ ne_eqb h g other)
refresh-other config g h false deeds other = refl

refresh-own : (config : Config) (g : ℕ) (b : Bool) (deeds : List Deed) → group_past config g (cons_if b (RefreshedBelow (Group g)) deeds) ≡ refreshed_if config g b (group_past config g deeds)
refresh-own config g true deeds =
    all-refreshed (is_writer_below (Group g) g) (group_past config g deeds) (writer_indexes (group_at config g)) (λ w. below-is g g w ∙ eq-eqb g g refl)
refresh-own config g false deeds = refl

module _ (config : Config) (now : ℕ) (before : List Deed) where
  -- the groups before this one were refreshed, where they are
  abbrev pub rekeyed_to : ℕ → List Deed
  rekeyed_to n = fold (λ deeds g. cons_if (is_rekeyed config now before g) (RefreshedBelow (Group g)) deeds) (CameTo now ∷ before) (range_with_len 0 n)

  rekeyed-more : (n : ℕ) → rekeyed_to (suc n) ≡ cons_if (is_rekeyed config now before n) (RefreshedBelow (Group n)) (rekeyed_to n)
  rekeyed-more n = ap rekeyed_to (let e : suc n ≡ n + 1 = omega arith in e) ∙ fold-more (λ deeds g. cons_if (is_rekeyed config now before g) (RefreshedBelow (Group g)) deeds) (CameTo now ∷ before) n

  not-yet : (g n : ℕ) → n ≤ g → group_past config g (rekeyed_to n) ≡ group_past config g before
  not-yet g zero low = refl
  not-yet g (suc n) low =
      ap (group_past config g) (rekeyed-more n)
      ∙ refresh-other config g n (is_rekeyed config now before n) (rekeyed_to n) (λ same. omega (arith, same, low))
      ∙ not-yet g n (omega (arith, low))

  pub past-rekeyed : (g n : ℕ) → g < n → group_past config g (rekeyed_to n) ≡ refreshed_if config g (is_rekeyed config now before g) (group_past config g before)
  past-rekeyed g zero low = absurd (omega (arith, low))
  past-rekeyed g (suc n) low = ap (group_past config g) (rekeyed-more n) ∙ by_case (λ below. past-rekeyed g n below) (eqb_tells n g)
    where
      by_case : (g < n → group_past config g (rekeyed_to n) ≡ refreshed_if config g (is_rekeyed config now before g) (group_past config g before))
          → ((n == g) ≡ true) × (n ≡ g) ⊎ ((n == g) ≡ false) × (n ≢ g)
          → group_past config g (cons_if (is_rekeyed config now before n) (RefreshedBelow (Group n)) (rekeyed_to n)) ≡ refreshed_if config g (is_rekeyed config now before g) (group_past config g before)
      by_case earlier (inl same) =
          ap (λ (m : ℕ). group_past config g (cons_if (is_rekeyed config now before m) (RefreshedBelow (Group m)) (rekeyed_to n))) same.1
          ∙ refresh-own config g (is_rekeyed config now before g) (rekeyed_to n)
          ∙ ap (refreshed_if config g (is_rekeyed config now before g)) (not-yet g n (omega (arith, same.1)))
      by_case earlier (inr other) =
          refresh-other config g n (is_rekeyed config now before n) (rekeyed_to n) other.1 ∙ earlier (omega (arith, low, other.1))

  left-if : (k : ℕ) (b : Bool) (h : ℕ) (deeds : List Deed) → sender_after config k (cons_if b (RefreshedBelow (Group h)) deeds) ≡ sender_after config k deeds
  left-if k true h deeds = refl
  left-if k false h deeds = refl

  pub sender-rekeyed : (k n : ℕ) → sender_after config k (rekeyed_to n) ≡ turned (sender_after config k before) now
  sender-rekeyed k zero = refl
  sender-rekeyed k (suc n) = ap (sender_after config k) (rekeyed-more n) ∙ left-if k (is_rekeyed config now before n) n (rekeyed_to n) ∙ sender-rekeyed k n

-- ---- datagrams

refreshed-adds-none : (past : List GroupDeed) (writers : List ℕ) → datagrams_of (refreshed_where (λ w. true) past writers) ≡ datagrams_of past
refreshed-adds-none past [] = refl
refreshed-adds-none past (w ∷ writers) = refreshed-adds-none (RefreshedWriter w ∷ past) writers

pub rekeyed-adds-none : (config : Config) (g : ℕ) (b : Bool) (past : List GroupDeed) → datagrams_of (refreshed_if config g b past) ≡ datagrams_of past
rekeyed-adds-none config g true past = refreshed-adds-none past (writer_indexes (group_at config g))
rekeyed-adds-none config g false past = refl

-- ---- a group's datagrams grow

-- the second list begins with the first
abbrev pub Begins : List (List ℕ) → List (List ℕ) → Type 0
Begins first last = (more : List (List ℕ)) × (last ≡ first ++ more)

begins-same : (one other : List (List ℕ)) → other ≡ one → Begins one other
begins-same one other e = ([], e ∙ sym (append-nil one))

begins-on : (one two three : List (List ℕ)) → Begins one two → Begins two three → Begins one three
begins-on one two three a b = (a.0 ++ b.0, b.1 ∙ ap (λ (l : List (List ℕ)). l ++ b.0) a.1 ∙ append_assoc one a.0 b.0)

turn-grows : (config : Config) (g h : ℕ) (b : Bool) (turn : GroupTurn) (deeds : List Deed)
    → Begins (datagrams_of (group_past config g deeds)) (datagrams_of (group_past config g (cons_if b (TookTurn h turn) deeds)))
turn-grows config g h false turn deeds = begins-same _ _ refl
turn-grows config g h true turn deeds = by_case (h == g)
  where
    by_case : (c : Bool) → Begins (datagrams_of (group_past config g deeds)) (datagrams_of (cons_if c (HadGroupTurn turn) (group_past config g deeds)))
    by_case true = (turn.made, refl)
    by_case false = begins-same _ _ refl

module _ (config : Config) (g now : ℕ) (closing : Bool) (rows : List Sampled) where
  turns-grow : (deeds : List Deed) (indexes : List ℕ)
      → Begins (datagrams_of (group_past config g deeds)) (datagrams_of (group_past config g (fold (turned_on (plan_of config) [] now closing rows) deeds indexes)))
  turns-grow deeds [] = begins-same _ _ refl
  turns-grow deeds (h ∷ indexes) =
      let next = turned_on (plan_of config) [] now closing rows deeds h in
      begins-on (datagrams_of (group_past config g deeds)) (datagrams_of (group_past config g next)) (datagrams_of (group_past config g (fold (turned_on (plan_of config) [] now closing rows) next indexes)))
      (turn-grows config g h (has_turn (plan_of config) [] now closing deeds h) (turn_of (plan_of config) [] now closing rows deeds h) deeds)
      (turns-grow next indexes)

  pub tick-grows : (deeds : List Deed) → g < length config.group
      → Begins (datagrams_of (group_past config g deeds)) (datagrams_of (group_past config g (tick_deeds (plan_of config) [] now closing rows deeds)))
  tick-grows deeds low =
      begins-on (datagrams_of (group_past config g deeds)) (datagrams_of (group_past config g (rekeyed config now deeds))) (datagrams_of (group_past config g (tick_deeds (plan_of config) [] now closing rows deeds)))
      (begins-same _ _
      (ap datagrams_of (past-rekeyed config now deeds g (length config.group) low) ∙ rekeyed-adds-none config g (is_rekeyed config now deeds g) (group_past config g deeds)))
      (turns-grow (rekeyed config now deeds) (group_indexes config))

pub turns-begin : (config : Config) (g : ℕ) (deeds : List Deed) (turns : List TurnIn) → g < length config.group
    → Begins (datagrams_of (group_past config g deeds)) (datagrams_of (group_past config g (fold (ticked config) deeds turns)))
turns-begin config g deeds [] low = begins-same _ _ refl
turns-begin config g deeds (turn ∷ turns) low =
    let next = ticked config deeds turn in
    begins-on (datagrams_of (group_past config g deeds)) (datagrams_of (group_past config g next)) (datagrams_of (group_past config g (fold (ticked config) next turns)))
    (tick-grows config g turn.now turn.closing turn.rows.items deeds low)
    (turns-begin config g next turns low)
