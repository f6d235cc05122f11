-- What each deed of a session keeps, its steps keep.
use Rattle.std.proofs.Common.{◌≡◌, refl, sym, ap, ◌∙◌, subst, arith, ℕ, zero, suc, ◌+◌, ◌<◌, ◌≤◌, Bool, true, false, List, [], ◌∷◌, ◌++◌, length, All}
use Rattle.std.specs.Prelude.{fold}
use Rattle.std.specs.List.{range_with_len}
use Rattle.std.proofs.lemmas.List.Elements.{All-nil, All-cons, All-head, All-tail, All-weaker}
use Rattle.dataset_meta.specs.Rows.{cons_if}
use Rattle.ps_config.specs.declared.parts.Config.{Config}
use Rattle.pubsub_states.specs.declared.component.Component.TheVariants.{Group}
use Rattle.writer_group.specs.declared.sampled.Sampled.{Sampled}
use Rattle.writer_group.specs.Turns.{GroupDeed, RefreshedWriter}
use Rattle.session_model.specs.Steps.{Plan, Step}
use Rattle.session_model.specs.Turns.{HoldsTurn, HoldsIfTurned, deeds_before, deeds_till}
use Rattle.session_model.specs.Deeds.{Deed, RefreshedBelow, CameTo, TookTurn, group_past, group_indexes, turn_input, is_rekeyed, rekeyed, has_turn, turn_of, turned_on, tick_deeds, deeds, refreshed_where}
use Rattle.writer_group.specs.Parts.{group_at}

pub all-range : (n a : ℕ) → All (λ g. g < a + n) (range_with_len a n)
all-range zero a = All-nil (λ g. g < a + 0)
all-range (suc n) a =
    All-cons (λ g. g < a + suc n) a (range_with_len (a + 1) n) (omega arith)
    (All-weaker (λ g. g < a + 1 + n) (λ g. g < a + suc n) (λ g lt. omega (arith, lt)) (range_with_len (a + 1) n) (all-range n (a + 1)))

pub all-below : (n : ℕ) → All (λ g. g < n) (range_with_len 0 n)
all-below n = All-weaker (λ g. g < 0 + n) (λ g. g < n) (λ g lt. omega (arith, lt)) (range_with_len 0 n) (all-range n 0)

-- what the deeds of a tick keep
pub record TickKeeps (p : Plan) (before : List Step) (now : ℕ) (closing : Bool) (samples : List Sampled) (P : List Deed → Type 0) : Type 0 where
  pub came : (earlier : List Deed) → P earlier → P (CameTo now ∷ earlier)
  pub fresh : (g : ℕ) (earlier : List Deed) → P earlier → P (RefreshedBelow (Group g) ∷ earlier)
  pub turn : (g : ℕ) (earlier : List Deed) → g < length p.config.group → has_turn p before now closing earlier g ≡ true → P earlier → P (TookTurn g (turn_of p before now closing samples earlier g) ∷ earlier)

fresh-if : (P : List Deed → Type 0) (b : Bool) (deed : Deed) (earlier : List Deed) → P (deed ∷ earlier) → P earlier → P (cons_if b deed earlier)
fresh-if P true deed earlier more h = more
fresh-if P false deed earlier more h = h

fresh-all : (config : Config) (now : ℕ) (before : List Deed) (P : List Deed → Type 0) → ((g : ℕ) (earlier : List Deed) → P earlier → P (RefreshedBelow (Group g) ∷ earlier)) → (gs : List ℕ) (earlier : List Deed) → P earlier
    → P (fold (λ deeds g. cons_if (is_rekeyed config now before g) (RefreshedBelow (Group g)) deeds) earlier gs)
fresh-all config now before P fresh [] earlier h = h
fresh-all config now before P fresh (g ∷ gs) earlier h =
    fresh-all config now before P fresh gs (cons_if (is_rekeyed config now before g) (RefreshedBelow (Group g)) earlier)
    (fresh-if P (is_rekeyed config now before g) (RefreshedBelow (Group g)) earlier (fresh g earlier h) h)

turn-if : (P : List Deed → Type 0) (b : Bool) (deed : Deed) (earlier : List Deed) → (b ≡ true → P (deed ∷ earlier)) → P earlier → P (cons_if b deed earlier)
turn-if P true deed earlier more h = more refl
turn-if P false deed earlier more h = h

turn-all : (p : Plan) (before : List Step) (now : ℕ) (closing : Bool) (samples : List Sampled) (P : List Deed → Type 0) → TickKeeps p before now closing samples P → (gs : List ℕ) (earlier : List Deed) → All (λ g. g < length p.config.group) gs
    → P earlier → P (fold (turned_on p before now closing samples) earlier gs)
turn-all p before now closing samples P keeps [] earlier there h = h
turn-all p before now closing samples P keeps (g ∷ gs) earlier there h =
    turn-all p before now closing samples P keeps gs (turned_on p before now closing samples earlier g) (All-tail (λ g. g < length p.config.group) g gs there)
    (turn-if P (has_turn p before now closing earlier g) (TookTurn g (turn_of p before now closing samples earlier g)) earlier
    (λ has. keeps.turn g earlier (All-head (λ g. g < length p.config.group) g gs there) has h) h)

-- the deeds of a tick
pub tick-keeps : (p : Plan) (before : List Step) (now : ℕ) (closing : Bool) (samples : List Sampled) (earlier : List Deed) (P : List Deed → Type 0) → TickKeeps p before now closing samples P → P earlier
    → P (tick_deeds p before now closing samples earlier)
tick-keeps p before now closing samples earlier P keeps h =
    turn-all p before now closing samples P keeps (group_indexes p.config) (rekeyed p.config now earlier) (all-below (length p.config.group))
    (fresh-all p.config now earlier P keeps.fresh (group_indexes p.config) (CameTo now ∷ earlier) (keeps.came earlier h))

-- ---- the same, where what was promised of each turn is known

pub record TickHolds (p : Plan) (before : List Step) (now : ℕ) (closing : Bool) (samples : List Sampled) (P : List Deed → Type 0) : Type 0 where
  pub came : (earlier : List Deed) → P earlier → P (CameTo now ∷ earlier)
  pub fresh : (g : ℕ) (earlier : List Deed) → P earlier → P (RefreshedBelow (Group g) ∷ earlier)
  pub turn : (g : ℕ) (earlier : List Deed) → g < length p.config.group → has_turn p before now closing earlier g ≡ true
      → HoldsTurn p.config (group_at p.config g) (group_past p.config g earlier) (turn_input p before now closing samples earlier g)
      → P earlier → P (TookTurn g (turn_of p before now closing samples earlier g) ∷ earlier)

-- what a session promises of the turns of a tick
abbrev pub HoldsTick : Plan → List Step → ℕ → Bool → List Sampled → Type 0
HoldsTick p before now closing samples = (g : ℕ) → g < length p.config.group → HoldsIfTurned p before now closing samples (deeds_before p before now closing samples g) g

range-end : (a n : ℕ) → range_with_len a (suc n) ≡ range_with_len a n ++ (a + n) ∷ []
range-end a zero = ap (λ (k : ℕ). k ∷ []) (omega arith)
range-end a (suc n) = ap (λ (l : List ℕ). a ∷ l) (range-end (a + 1) n ∙ ap (λ (k : ℕ). range_with_len (a + 1) n ++ k ∷ []) (omega arith))

fold-end : {X : Type 0} (f : X → ℕ → X) (x : X) (ks : List ℕ) (k : ℕ) → fold f x (ks ++ k ∷ []) ≡ f (fold f x ks) k
fold-end f x [] k = refl
fold-end f x (j ∷ ks) k = fold-end f (f x j) ks k

-- the next group's turn, whatever was done before the tick
pub next-till : (p : Plan) (before : List Step) (now : ℕ) (closing : Bool) (samples : List Sampled) (earlier : List Deed) (g : ℕ)
    → deeds_till p before now closing samples earlier (suc g) ≡ turned_on p before now closing samples (deeds_till p before now closing samples earlier g) g
next-till p before now closing samples earlier g =
    ap (fold (turned_on p before now closing samples) (rekeyed p.config now earlier)) (range-end 0 g ∙ ap (λ (k : ℕ). range_with_len 0 g ++ k ∷ []) (omega arith))
    ∙ fold-end (turned_on p before now closing samples) (rekeyed p.config now earlier) (range_with_len 0 g) g

pub next-turned : (p : Plan) (before : List Step) (now : ℕ) (closing : Bool) (samples : List Sampled) (g : ℕ)
    → deeds_before p before now closing samples (suc g) ≡ turned_on p before now closing samples (deeds_before p before now closing samples g) g
next-turned p before now closing samples g = next-till p before now closing samples (deeds p before) g

hold-to : (p : Plan) (before : List Step) (now : ℕ) (closing : Bool) (samples : List Sampled) (P : List Deed → Type 0) → TickHolds p before now closing samples P → HoldsTick p before now closing samples → (g : ℕ) → g ≤ length p.config.group
    → P (rekeyed p.config now (deeds p before)) → P (deeds_before p before now closing samples g)
hold-to p before now closing samples P keeps holds zero le h = h
hold-to p before now closing samples P keeps holds (suc g) le h =
    let earlier = deeds_before p before now closing samples g in
    let there : g < length p.config.group = omega (arith, le) in
    subst P (sym (next-turned p before now closing samples g))
    (turn-if P (has_turn p before now closing earlier g) (TookTurn g (turn_of p before now closing samples earlier g)) earlier
    (λ has. keeps.turn g earlier there has (holds g there has) (hold-to p before now closing samples P keeps holds g (omega (arith, le)) h)) (hold-to p before now closing samples P keeps holds g (omega (arith, le)) h))

-- up to the turn of a group
pub holds-before : (p : Plan) (before : List Step) (now : ℕ) (closing : Bool) (samples : List Sampled) (P : List Deed → Type 0) → TickHolds p before now closing samples P → HoldsTick p before now closing samples
    → (g : ℕ) → g ≤ length p.config.group → P (deeds p before) → P (deeds_before p before now closing samples g)
holds-before p before now closing samples P keeps holds g le h =
    hold-to p before now closing samples P keeps holds g le (fresh-all p.config now (deeds p before) P keeps.fresh (group_indexes p.config) (CameTo now ∷ deeds p before) (keeps.came (deeds p before) h))

pub tick-holds : (p : Plan) (before : List Step) (now : ℕ) (closing : Bool) (samples : List Sampled) (P : List Deed → Type 0) → TickHolds p before now closing samples P → HoldsTick p before now closing samples
    → P (deeds p before) → P (tick_deeds p before now closing samples (deeds p before))
tick-holds p before now closing samples P keeps holds h = holds-before p before now closing samples P keeps holds (length p.config.group) (omega arith) h

-- what a refresh of a writer keeps, one of several keeps
pub refreshed-keeps : (P : List GroupDeed → Type 0) → ((writer : ℕ) (past : List GroupDeed) → P past → P (RefreshedWriter writer ∷ past)) → (test : ℕ → Bool) (past : List GroupDeed) (writers : List ℕ) → P past
    → P (refreshed_where test past writers)
refreshed-keeps P keeps test past [] h = h
refreshed-keeps P keeps test past (writer ∷ writers) h = refreshed-keeps P keeps test (cons_if (test writer) (RefreshedWriter writer) past) writers (on (test writer))
  where
    on : (b : Bool) → P (cons_if b (RefreshedWriter writer) past)
    on true = keeps writer past h
    on false = h
