-- Writers of a data set that may have grown are refreshed.
use Rattle.std.proofs.Common.{◌≡◌, sym, ap, ◌∙◌, subst, arith, ℕ, ◌+◌, ◌<◌, ◌≢◌, ◌⊎◌, inl, inr, Bool, true, false, List, ◌∷◌, length, get_or, eq-eqb, refl}
use Rattle.std.specs.Prelude.{◌==◌, if◌then◌else◌, vec_len}
use Rattle.std.specs.List.{range_with_len}
use Rattle.std.proofs.lemmas.Bool.Decides.{eqb_tells}
use Rattle.dataset_meta.specs.Metas.{MetaData}
use Rattle.dataset_meta.specs.Rows.{cons_if}
use Rattle.ps_config.specs.declared.parts.Config.{Config}
use Rattle.ps_config.specs.declared.parts.GroupPart.{GroupPart}
use Rattle.writer_group.specs.declared.group.Group.{Group}
use Rattle.writer_group.specs.Payloads.{writer_at}
use Rattle.writer_group.specs.Standing.{AreSameBut, IsGroup, IsMadeFor, KeepsOnLogging, MayGoOn, index_of, metas_for, writer_count}
use Rattle.writer_group.specs.Turns.{GroupDeed, RefreshedWriter, settings_of, writer_past}
use Rattle.dataset_writer.specs.Standing.{IsWriter, HoldsRowOf}
use Rattle.writer_group.specs.Answering.{HasLived}
use Rattle.session_model.specs.Deeds.{Deed, RefreshedSet, is_writer_of, refreshed_where, writer_indexes}
use Rattle.writer_group.specs.Parts.{group_at}
use Rattle.session_parts.specs.Holding.{AreGroups, AreSameButSet, IsGroupOf, MayAllGoOn}
use Rattle.session_parts.specs.Standing.{HavePast}
use Rattle.session_parts.proofs.Counting.{fold-more}
use Rattle.session_parts.proofs.Each.{EachTo}
use Rattle.session_parts.proofs.Logging.{logs-same, logs-then}

-- these metas differ at most for the first n writers, and of them for those of the data set
abbrev pub AreSameAside : GroupPart → ℕ → ℕ → (ℕ → MetaData) → (ℕ → MetaData) → Type 0
AreSameAside part set n metas others =
    (w : ℕ) → w < length part.writer → (w < n → is_writer_of part set w ≡ true → ⊥) → others w ≡ metas w

pub record RefreshesSet (part : GroupPart) (set n : ℕ) (old new : Group) : Type 0 where
  pub index : index_of new ≡ index_of old
  pub made : (config : Config) → IsMadeFor config part old → IsMadeFor config part new
  pub stands : (metas others : ℕ → MetaData) (past : List GroupDeed) → AreSameAside part set n metas others
      → IsGroup metas part past old → IsGroup others part (refreshed_where (is_writer_of part set) past (range_with_len 0 n)) new
  pub goes_on : (metas others : ℕ → MetaData) (turns : ℕ) → AreSameAside part set n metas others
      → MayGoOn metas part turns old → MayGoOn others part turns new
  pub logs : KeepsOnLogging old new

-- a group stands with metas that are the same for its writers
pub same-stands : (metas others : ℕ → MetaData) (part : GroupPart) (past : List GroupDeed) (group : Group)
    → ((w : ℕ) → w < length part.writer → others w ≡ metas w) → IsGroup metas part past group → IsGroup others part past group
same-stands metas others part past group same stands = record {
  writers = λ w low d. subst (λ (m : MetaData). IsWriter m (settings_of (writer_at part w)) (writer_past w past) (get_or group.writers.items w d)) (sym (same w low))
      (stands.writers w low d);
  made = stands.made;
  moment = stands.moment;
}

pub same-goes-on : (metas others : ℕ → MetaData) (part : GroupPart) (turns : ℕ) (group : Group)
    → ((w : ℕ) → w < vec_len group.writers → others w ≡ metas w) → MayGoOn metas part turns group → MayGoOn others part turns group
same-goes-on metas others part turns group same may = record {
  left = may.left;
  holds = λ w low d. subst (λ (m : MetaData). HoldsRowOf m (get_or group.writers.items w d)) (sym (same w low)) (may.holds w low d);
  lived = λ w low d. subst (λ (m : MetaData). HasLived m (settings_of (writer_at part w)) (get_or group.writers.items w d)) (sym (same w low)) (may.lived w low d);
}

-- before the writer with this index had its refresh, and after those before it had theirs
own : ℕ → (ℕ → MetaData) → (ℕ → MetaData) → ℕ → MetaData
own n metas others w = if w == n then metas w else others w

own-same : (n : ℕ) (metas others : ℕ → MetaData) (w : ℕ) → w ≡ n → own n metas others w ≡ metas w
unfolding own
own-same n metas others w is = ap (λ (b : Bool). if b then metas w else others w) (eq-eqb w n is)

own-other : (n : ℕ) (metas others : ℕ → MetaData) (w : ℕ) → w ≢ n → own n metas others w ≡ others w
unfolding own
own-other n metas others w apart = ap (λ (b : Bool). if b then metas w else others w) (differ (eqb_tells w n))
  where
    differ : ((w == n) ≡ true) × (w ≡ n) ⊎ ((w == n) ≡ false) × (w ≢ n) → (w == n) ≡ false
    differ (inl same) = absurd (apart same.1)
    differ (inr other) = other.0

own-aside : (part : GroupPart) (set n : ℕ) (metas others : ℕ → MetaData) → AreSameAside part set (n + 1) metas others → AreSameAside part set n metas (own n metas others)
own-aside part set n metas others aside w low none = by_case (eqb_tells w n)
  where
    by_case : ((w == n) ≡ true) × (w ≡ n) ⊎ ((w == n) ≡ false) × (w ≢ n) → own n metas others w ≡ metas w
    by_case (inl same) = own-same n metas others w same.1
    by_case (inr other) =
        own-other n metas others w other.1 ∙ aside w low (λ below is. none (omega (arith, below, other.1)) is)

-- where that writer isn't of the data set nothing is left to do
own-left : (part : GroupPart) (set n : ℕ) (metas others : ℕ → MetaData) → is_writer_of part set n ≡ false → AreSameAside part set (n + 1) metas others
    → (w : ℕ) → w < length part.writer → others w ≡ own n metas others w
own-left part set n metas others not_of aside w low = by_case (eqb_tells w n)
  where
    clash : w ≡ n → is_writer_of part set w ≡ true → ⊥
    clash same is =
        let e : true ≡ false = sym is ∙ ap (is_writer_of part set) same ∙ not_of in cc

    by_case : ((w == n) ≡ true) × (w ≡ n) ⊎ ((w == n) ≡ false) × (w ≢ n) → others w ≡ own n metas others w
    by_case (inl same) = aside w low (λ below is. clash same.1 is) ∙ sym (own-same n metas others w same.1)
    by_case (inr other) = sym (own-other n metas others w other.1)

past-more : (part : GroupPart) (set n : ℕ) (past : List GroupDeed) (is_of : Bool) → is_of ≡ is_writer_of part set n
    → cons_if is_of (RefreshedWriter n) (refreshed_where (is_writer_of part set) past (range_with_len 0 n)) ≡ refreshed_where (is_writer_of part set) past (range_with_len 0 (n + 1))
past-more part set n past is_of is =
    ap (λ (b : Bool). cons_if b (RefreshedWriter n) (refreshed_where (is_writer_of part set) past (range_with_len 0 n))) is
    ∙ sym (fold-more (λ past writer. cons_if (is_writer_of part set writer) (RefreshedWriter writer) past) past n)

-- one more
pub set-more : (part : GroupPart) (set n : ℕ) (is_of : Bool) (old mid new : Group) → is_of ≡ is_writer_of part set n → vec_len mid.writers ≡ length part.writer
    → index_of new ≡ index_of mid
    → ((config : Config) (part : GroupPart) → IsMadeFor config part mid → IsMadeFor config part new)
    → (is_of ≡ false → new ≡ mid)
    → (is_of ≡ true → (metas others : ℕ → MetaData) (part : GroupPart) (past : List GroupDeed) → AreSameBut n (length part.writer) metas others
    → IsGroup metas part past mid → IsGroup others part (RefreshedWriter n ∷ past) new)
    → (is_of ≡ true → (metas others : ℕ → MetaData) (part : GroupPart) (turns : ℕ) → AreSameBut n (writer_count mid) metas others
    → MayGoOn metas part turns mid → MayGoOn others part turns new)
    → KeepsOnLogging mid new
    → RefreshesSet part set n old mid → RefreshesSet part set (n + 1) old new
set-more part set n true old mid new is count index made kept stands goes_on logs so_far = record {
  index = index ∙ so_far.index;
  made = λ config h. made config part (so_far.made config h);
  stands = λ metas others past aside h.
      subst (λ (l : List GroupDeed). IsGroup others part l new) (past-more part set n past true is)
      (stands refl (own n metas others) others part (refreshed_where (is_writer_of part set) past (range_with_len 0 n))
      (λ w low apart. sym (own-other n metas others w apart)) (so_far.stands metas (own n metas others) past (own-aside part set n metas others aside) h));
  goes_on = λ metas others turns aside h.
      goes_on refl (own n metas others) others part turns (λ w low apart. sym (own-other n metas others w apart))
      (so_far.goes_on metas (own n metas others) turns (own-aside part set n metas others aside) h);
  logs = logs-then old mid new logs so_far.logs;
}
set-more part set n false old mid new is count index made kept stands goes_on logs so_far = record {
  index = index ∙ so_far.index;
  made = λ config h. made config part (so_far.made config h);
  stands = λ metas others past aside h.
      let same = own-left part set n metas others (sym is) aside in
      subst (λ (g : Group). IsGroup others part (refreshed_where (is_writer_of part set) past (range_with_len 0 (n + 1))) g) (sym (kept refl))
      (subst (λ (l : List GroupDeed). IsGroup others part l mid) (past-more part set n past false is)
      (same-stands (own n metas others) others part (refreshed_where (is_writer_of part set) past (range_with_len 0 n)) mid same
      (so_far.stands metas (own n metas others) past (own-aside part set n metas others aside) h)));
  goes_on = λ metas others turns aside h.
      let same = own-left part set n metas others (sym is) aside in
      subst (λ (g : Group). MayGoOn others part turns g) (sym (kept refl))
      (same-goes-on (own n metas others) others part turns mid (λ w low. same w (omega (arith, low, count)))
      (so_far.goes_on metas (own n metas others) turns (own-aside part set n metas others aside) h));
  logs = logs-then old mid new logs so_far.logs;
}

pub set-none : (part : GroupPart) (set : ℕ) (group : Group) → vec_len group.writers ≡ length part.writer → RefreshesSet part set 0 group group
set-none part set group count = record {
  index = refl;
  made = λ config h. h;
  stands = λ metas others past aside h. same-stands metas others part past group (λ w low. aside w low (λ below is. omega (arith, below))) h;
  goes_on = λ metas others turns aside h. same-goes-on metas others part turns group (λ w low. aside w (omega (arith, low, count)) (λ below is. omega (arith, below))) h;
  logs = logs-same group;
}

-- data sets that are the same but for this one
pub all-aside : (part : GroupPart) (set : ℕ) (metas others : List MetaData) → AreSameButSet set metas others
    → AreSameAside part set (length part.writer) (metas_for part metas) (metas_for part others)
all-aside part set metas others same w low none = same (writer_at part w).dataset (λ is. none low (eq-eqb _ _ is))

-- ---- all groups

-- all writers of the data set are refreshed
pub record RefreshesSetOf (part : GroupPart) (set : ℕ) (old new : Group) : Type 0 where
  pub index : index_of new ≡ index_of old
  pub made : (config : Config) → IsMadeFor config part old → IsMadeFor config part new
  pub stands : (metas others : List MetaData) (past : List GroupDeed) → AreSameButSet set metas others
      → IsGroup (metas_for part metas) part past old
      → IsGroup (metas_for part others) part (refreshed_where (is_writer_of part set) past (writer_indexes part)) new
  pub goes_on : (metas others : List MetaData) (turns : ℕ) → AreSameButSet set metas others
      → MayGoOn (metas_for part metas) part turns old → MayGoOn (metas_for part others) part turns new
  pub logs : KeepsOnLogging old new

abbrev pub RefreshesSetAt : Config → ℕ → ℕ → Group → Group → Type 0
RefreshesSetAt config set g old new = RefreshesSetOf (group_at config g) set old new

pub all-groups : (config : Config) (set : ℕ) (old new : List Group) → AreGroups config old → EachTo (RefreshesSetAt config set) (length old) old new → AreGroups config new
all-groups config set old new are each = record {
  count = each.count ∙ are.count;
  each = λ g low d. one g low d;
}
  where
    one : (g : ℕ) → g < length config.group → (d : Group) → IsGroupOf config g (get_or new g d)
    one g low d =
        let there : g < length old = subst (λ (n : ℕ). g < n) (sym are.count) low in
        let does = each.done g there there d in
        record {
          index = does.index ∙ (are.each g low d).index;
          made = does.made config (are.each g low d).made;
        }

pub all-past : (config : Config) (set : ℕ) (old new : List Group) → AreGroups config old → EachTo (RefreshesSetAt config set) (length old) old new
    → (metas others : List MetaData) (deeds : List Deed) → AreSameButSet set metas others
    → HavePast config metas deeds old → HavePast config others (RefreshedSet set ∷ deeds) new
all-past config set old new are each metas others deeds same past g low d =
    let there : g < length old = subst (λ (n : ℕ). g < n) (sym are.count) low in
    (each.done g there there d).stands metas others _ same (past g low d)

pub all-go-on : (config : Config) (set : ℕ) (old new : List Group) → AreGroups config old → EachTo (RefreshesSetAt config set) (length old) old new
    → (metas others : List MetaData) (turns : ℕ) → AreSameButSet set metas others → MayAllGoOn config metas turns old → MayAllGoOn config others turns new
all-go-on config set old new are each metas others turns same may g low d =
    let there : g < length old = subst (λ (n : ℕ). g < n) (sym are.count) low in
    (each.done g there there d).goes_on metas others turns same (may g low d)
