-- The data sets of a new session: each append is allowed when it comes, and all of them lead to the full data sets.
use Rattle.std.proofs.Common.{◌≡◌, ◌≢◌, refl, sym, ap, ◌∙◌, subst, arith, ℕ, ◌+◌, ◌<◌, true, false, List, [], ◌∷◌, ◌++◌, length, take, drop, get_or, set, map, All}
use Rattle.std.specs.Prelude.{⊤}
use Rattle.std.proofs.lemmas.List.{length-set, get_or-set_other, take_all, take_more, drop_more}
use Rattle.std.proofs.lemmas.List.Elements.{All-get_or, All-weaker}
use Rattle.dataset_meta.specs.Metas.{MetaData, IsMeta, grown, no_meta}
use Rattle.ps_config.specs.declared.parts.Config.{Config}
use Rattle.ps_config.specs.Rooms.{is_fixed, lacks_room}
use Rattle.ps_config.specs.Sound.{IsGroup}
use Rattle.ps_config.specs.Types.{HasTypes}
use Rattle.ps_script.specs.Faults.{CanTellOf}
use Rattle.writer_group.specs.Parts.{group_at, no_group}
use Rattle.writer_group.specs.Payloads.{meta_at, no_writer, writer_at}
use Rattle.writer_group.specs.Standing.{IsGood}
use Rattle.session_model.specs.Sets.{AreFit, GrowTo, MayAppend, meta_in}
use Rattle.session_model.specs.Keeping.{IsPlan}
use Rattle.pubsub_engine.specs.declared.size.Append.{Append}
use Rattle.pubsub_engine.specs.declared.sets.Growth.{Growth}
use Rattle.pubsub_engine.specs.declared.sets.Sets.{Sets}
use Rattle.pubsub_engine.specs.Holding.{AreAppends, AreSets, AreToCome, Grows, HoldSets, IsGrowthBy, full_of, grown_by}
use Rattle.pubsub_engine.proofs.Growing.{grow-self, grow-one, grow-on}

-- ---- data sets of a moment, whatever is still to come

pub record AreNow (config : Config) (metas : List MetaData) : Type 0 where
  pub count : length metas ≡ length config.dataset
  pub fit : AreFit config metas
  pub fixed : (g : ℕ) → g < length config.group → is_fixed (group_at config g).layout ≡ true → (w : ℕ) → w < length (group_at config g).writer
      → meta_at (group_at config g) metas w ≡ meta_at (group_at config g) config.dataset w

pub first-now : (config : Config) → IsGood config → AreNow config config.dataset
first-now config good = record {
  count = refl;
  fit = record {
    each = good.sound.metas;
    room = All-weaker (IsGroup config) (λ group. lacks_room config.publisher.id config.dataset group ≡ false) (λ group is. is.room) config.group good.sound.groups;
  };
  fixed = λ g low is w within. refl;
}

-- a fixed group has no writer of a data set that grows
fixed-other : (config : Config) (g : ℕ) (w at : ℕ) → g < length config.group → w < length (group_at config g).writer → is_fixed (group_at config g).layout ≡ true
    → All (CanTellOf at) config.group → (writer_at (group_at config g) w).dataset ≢ at
fixed-other config g w at low within is told same =
    let here : CanTellOf at (group_at config g) = All-get_or (CanTellOf at) config.group g no_group low told in
    let wrong : false ≡ true = sym (here w no_writer within same).1 ∙ is in
    cc

pub next-now : (config : Config) (metas : List MetaData) (append : Append) → AreNow config metas → MayAppend config metas append.set (grown_by metas append)
    → AreNow config (grown_by metas append)
next-now config metas append now may = record {
  count = length-set metas append.set (grown (meta_in metas append.set) append.field) ∙ now.count;
  fit = may.fit;
  fixed = λ g low is w within.
      get_or-set_other metas append.set (writer_at (group_at config g) w).dataset (grown (meta_in metas append.set) append.field) no_meta
      (fixed-other config g w append.set low within is may.told)
      ∙ now.fixed g low is w within;
}

-- ---- all appends

-- what is kept of appends, each behind those before it
abbrev pub AreGrowthsBy : List MetaData → List Append → List Growth → Type 0
AreGrowthsBy metas [] [] = ⊤
AreGrowthsBy metas [] (growth ∷ later) = ⊥
AreGrowthsBy metas (append ∷ appends) [] = ⊥
AreGrowthsBy metas (append ∷ appends) (growth ∷ later) = IsGrowthBy metas append growth × AreGrowthsBy (grown_by metas append) appends later

pub grow-full : (metas : List MetaData) (appends : List Append) → GrowTo metas (full_of metas appends)
grow-full metas [] = grow-self metas
grow-full metas (append ∷ appends) =
    grow-on metas (grown_by metas append) (full_of (grown_by metas append) appends)
    (grow-one metas append.set append.field) (grow-full (grown_by metas append) appends)

are-sets : (config : Config) (metas : List MetaData) (appends : List Append) → AreNow config metas → AreSets config (full_of metas appends) metas
are-sets config metas appends now = record { count = now.count; fit = now.fit; fixed = now.fixed; grow = grow-full metas appends }

pub to-come : (config : Config) (metas : List MetaData) (appends : List Append) (later : List Growth) → AreNow config metas → AreAppends config metas appends
    → AreGrowthsBy metas appends later → AreToCome config (full_of metas appends) metas later
to-come config metas [] [] now may are = are-sets config metas [] now
to-come config metas [] (growth ∷ later) now may are = absurd are
to-come config metas (append ∷ appends) [] now may are = absurd are
to-come config metas (append ∷ appends) (growth ∷ later) now may are =
    let next : set metas growth.set growth.meta ≡ grown_by metas append =
    ap (λ (n : ℕ). set metas n growth.meta) are.0.set ∙ ap (set metas append.set) are.0.meta in
    let grows : Grows config metas growth = record {
      may = subst (λ (n : ℕ). MayAppend config metas n (set metas growth.set growth.meta)) (sym are.0.set)
          (subst (MayAppend config metas append.set) (sym next) may.0);
      field = append.field;
      meta = are.0.meta ∙ ap (λ (n : ℕ). grown (meta_in metas n) append.field) (sym are.0.set);
    } in (
      are-sets config metas (append ∷ appends) now,
      grows,
      subst (λ (l : List MetaData). AreToCome config (full_of (grown_by metas append) appends) l later) (sym next)
          (to-come config (grown_by metas append) appends later (next-now config metas append now may.0) may.1 are.1),
    )

-- each full data set makes a meta
pub full-metas : (config : Config) (metas : List MetaData) (appends : List Append) → All (λ meta. IsMeta meta.fields) metas → AreAppends config metas appends
    → All (λ meta. IsMeta meta.fields) (full_of metas appends)
full-metas config metas [] are may = are
full-metas config metas (append ∷ appends) are may = full-metas config (grown_by metas append) appends may.0.fit.each may.1

pub is-plan : (config : Config) (appends : List Append) → IsGood config → HasTypes config → AreAppends config config.dataset appends
    → IsPlan (record { config = config; full = full_of config.dataset appends })
is-plan config appends good types may = record {
  good = good;
  types = types;
  fit = (first-now config good).fit;
  grow = grow-full config.dataset appends;
  whole = full-metas config config.dataset appends good.sound.metas may;
}

-- ---- the loop that makes them

-- the first appends made these of the data sets
pub record HaveMade (config : Config) (appends : List Append) (n : ℕ) (full : List MetaData) (later : List Growth) : Type 0 where
  pub full_is : full ≡ full_of config.dataset (take n appends)
  pub later_are : AreGrowthsBy config.dataset (take n appends) later
  pub rest : AreAppends config full (drop n appends)

full-more : (metas : List MetaData) (appends : List Append) (append : Append) → full_of metas (appends ++ append ∷ []) ≡ grown_by (full_of metas appends) append
full-more metas [] append = refl
full-more metas (first ∷ appends) append = full-more (grown_by metas first) appends append

growths-more : (metas : List MetaData) (appends : List Append) (later : List Growth) (append : Append) (growth : Growth) → AreGrowthsBy metas appends later
    → IsGrowthBy (full_of metas appends) append growth → AreGrowthsBy metas (appends ++ append ∷ []) (later ++ growth ∷ [])
growths-more metas [] [] append growth are is = (is, tt)
growths-more metas [] (other ∷ later) append growth are is = absurd are
growths-more metas (first ∷ appends) [] append growth are is = absurd are
growths-more metas (first ∷ appends) (other ∷ later) append growth are is = (are.0, growths-more (grown_by metas first) appends later append growth are.1 is)

growth-sets : (metas : List MetaData) (appends : List Append) (later : List Growth) → AreGrowthsBy metas appends later
    → map (λ growth. growth.set) later ≡ map (λ append. append.set) appends
growth-sets metas [] [] are = refl
growth-sets metas [] (growth ∷ later) are = absurd are
growth-sets metas (append ∷ appends) [] are = absurd are
growth-sets metas (append ∷ appends) (growth ∷ later) are =
    ap (λ (n : ℕ). n ∷ map (λ growth. growth.set) later) are.0.set
    ∙ ap (λ (l : List ℕ). append.set ∷ l) (growth-sets (grown_by metas append) appends later are.1)

made-first : (config : Config) (appends : List Append) → AreAppends config config.dataset appends → HaveMade config appends 0 config.dataset []
made-first config appends may = record { full_is = refl; later_are = tt; rest = may }

-- the append that is next
made-next : (config : Config) (appends : List Append) (n : ℕ) (d : Append) (full : List MetaData) (later : List Growth) → n < length appends → HaveMade config appends n full later
    → MayAppend config full (get_or appends n d).set (grown_by full (get_or appends n d))
    × AreAppends config (grown_by full (get_or appends n d)) (drop (n + 1) appends)
made-next config appends n d full later low made = subst (AreAppends config full) (drop_more appends n d low) made.rest

pub made-more : (config : Config) (appends : List Append) (n : ℕ) (d : Append) (full : List MetaData) (later : List Growth) (growth : Growth) → n < length appends
    → HaveMade config appends n full later → IsGrowthBy full (get_or appends n d) growth
    → HaveMade config appends (n + 1) (grown_by full (get_or appends n d)) (later ++ growth ∷ [])
made-more config appends n d full later growth low made is =
    let append = get_or appends n d in
    let more = take_more appends n d low in
    record {
      full_is = ap (λ (l : List MetaData). grown_by l append) made.full_is ∙ sym (full-more config.dataset (take n appends) append) ∙ ap (full_of config.dataset) (sym more);
      later_are = subst (λ (l : List Append). AreGrowthsBy config.dataset l (later ++ growth ∷ [])) (sym more)
          (growths-more config.dataset (take n appends) later append growth made.later_are
          (subst (λ (l : List MetaData). IsGrowthBy l append growth) made.full_is is));
      rest = (made-next config appends n d full later low made).1;
    }

-- once all of them did

take-every : {X : Type 0} (xs : List X) → take (length xs) xs ≡ xs
take-every xs = take_all (length xs) xs (omega arith)

all-made : (config : Config) (appends : List Append) (n : ℕ) (full : List MetaData) (later : List Growth) → n ≡ length appends → HaveMade config appends n full later
    → take n appends ≡ appends
all-made config appends n full later end made = ap (λ (k : ℕ). take k appends) end ∙ take-every appends

pub made-sets : (config : Config) (appends : List Append) (n : ℕ) (sets : Sets) → n ≡ length appends → IsGood config → AreAppends config config.dataset appends
    → HaveMade config appends n sets.full.items sets.later.items → sets.metas.items ≡ config.dataset → sets.made ≡ 0 → HoldSets config sets
made-sets config appends n sets end good may made first none =
    let all = all-made config appends n sets.full.items sets.later.items end made in
    let are : AreGrowthsBy config.dataset appends sets.later.items = subst (λ (l : List Append). AreGrowthsBy config.dataset l sets.later.items) all made.later_are in
    let full : sets.full.items ≡ full_of config.dataset appends = made.full_is ∙ ap (full_of config.dataset) all in
    record {
      made = omega (arith, none);
      to_come = subst (λ (k : ℕ). AreToCome config sets.full.items sets.metas.items (drop k sets.later.items)) (sym none)
          (subst (λ (l : List MetaData). AreToCome config sets.full.items l sets.later.items) (sym first)
          (subst (λ (l : List MetaData). AreToCome config l config.dataset sets.later.items) (sym full)
          (to-come config config.dataset appends sets.later.items (first-now config good) may are)));
    }

pub made-later : (config : Config) (appends : List Append) (n : ℕ) (full : List MetaData) (later : List Growth) → n ≡ length appends → HaveMade config appends n full later
    → map (λ growth. growth.set) later ≡ map (λ append. append.set) appends
made-later config appends n full later end made =
    growth-sets config.dataset appends later
    (subst (λ (l : List Append). AreGrowthsBy config.dataset l later) (all-made config appends n full later end made) made.later_are)
