-- Writers of groups are refreshed.
use Rattle.std.proofs.Common.{◌≡◌, sym, ap, ◌∙◌, subst, ℕ, ◌+◌, ◌<◌, Bool, List, ◌∷◌, length, get_or}
use Rattle.std.specs.List.{range_with_len}
use Rattle.dataset_meta.specs.Metas.{MetaData}
use Rattle.dataset_meta.specs.Rows.{cons_if}
use Rattle.ps_config.specs.declared.parts.Config.{Config}
use Rattle.ps_config.specs.declared.parts.GroupPart.{GroupPart}
use Rattle.pubsub_states.specs.declared.component.Component.{Component}
use Rattle.writer_group.specs.declared.group.Group.{Group}
use Rattle.writer_group.specs.Standing.{IsGroup, IsMadeFor, KeepsOnLogging, MayGoOn, index_of, metas_for}
use Rattle.writer_group.specs.Turns.{GroupDeed, RefreshedWriter}
use Rattle.session_model.specs.Deeds.{Deed, RefreshedBelow, is_writer_below, refreshed_where, writer_indexes}
use Rattle.writer_group.specs.Parts.{group_at}
use Rattle.session_parts.specs.Holding.{AreGroups, IsGroupOf, MayAllGoOn}
use Rattle.session_parts.specs.Standing.{HavePast}
use Rattle.session_parts.proofs.Counting.{fold-more}
use Rattle.session_parts.proofs.Each.{EachTo}
use Rattle.session_parts.proofs.Logging.{logs-then}

-- the writers of this list that pass the test are refreshed
pub record Refreshes (part : GroupPart) (test : ℕ → Bool) (writers : List ℕ) (old new : Group) : Type 0 where
  pub index : index_of new ≡ index_of old
  pub made : (config : Config) → IsMadeFor config part old → IsMadeFor config part new
  pub stands : (metas : ℕ → MetaData) (past : List GroupDeed) → IsGroup metas part past old → IsGroup metas part (refreshed_where test past writers) new
  pub goes_on : (metas : ℕ → MetaData) (turns : ℕ) → MayGoOn metas part turns old → MayGoOn metas part turns new
  pub logs : KeepsOnLogging old new

-- one more
pub refreshes-more : (part : GroupPart) (test : ℕ → Bool) (w : ℕ) (is_so : Bool) (old mid new : Group) → is_so ≡ test w
    → index_of new ≡ index_of mid
    → ((config : Config) (part : GroupPart) → IsMadeFor config part mid → IsMadeFor config part new)
    → ((metas : ℕ → MetaData) (part : GroupPart) (past : List GroupDeed) → IsGroup metas part past mid → IsGroup metas part (cons_if is_so (RefreshedWriter w) past) new)
    → ((metas : ℕ → MetaData) (part : GroupPart) (turns : ℕ) → MayGoOn metas part turns mid → MayGoOn metas part turns new)
    → KeepsOnLogging mid new
    → Refreshes part test (range_with_len 0 w) old mid → Refreshes part test (range_with_len 0 (w + 1)) old new
refreshes-more part test w is_so old mid new is index made stands goes_on logs so_far = record {
  index = index ∙ so_far.index;
  made = λ config h. made config part (so_far.made config h);
  stands = λ metas past h.
      subst (λ (l : List GroupDeed). IsGroup metas part l new)
      (ap (λ (b : Bool). cons_if b (RefreshedWriter w) (refreshed_where test past (range_with_len 0 w))) is
      ∙ sym (fold-more (λ past writer. cons_if (test writer) (RefreshedWriter writer) past) past w))
      (stands metas part (refreshed_where test past (range_with_len 0 w)) (so_far.stands metas past h));
  goes_on = λ metas turns h. goes_on metas part turns (so_far.goes_on metas turns h);
  logs = logs-then old mid new logs so_far.logs;
}

-- what it is for the group with an index
abbrev pub RefreshesAt : Config → Component → ℕ → Group → Group → Type 0
RefreshesAt config component g old new = Refreshes (group_at config g) (is_writer_below component g) (writer_indexes (group_at config g)) old new

pub all-groups : (config : Config) (component : Component) (old new : List Group) → AreGroups config old → EachTo (RefreshesAt config component) (length old) old new → AreGroups config new
all-groups config component old new are each = record {
  count = each.count ∙ are.count;
  each = λ g low d. one g low d;
}
  where
    one : (g : ℕ) → g < length config.group → (d : Group) → IsGroupOf config g (get_or new g d)
    one g low d =
        let there : g < length old = subst (λ (n : ℕ). g < n) (sym are.count) low in
        let does = each.done g there there d in
        record {
          index = does.index ∙ (are.each g low d).index;
          made = does.made config (are.each g low d).made;
        }

pub all-past : (config : Config) (component : Component) (old new : List Group) → AreGroups config old → EachTo (RefreshesAt config component) (length old) old new
    → (metas : List MetaData) (deeds : List Deed) → HavePast config metas deeds old → HavePast config metas (RefreshedBelow component ∷ deeds) new
all-past config component old new are each metas deeds past g low d =
    let there : g < length old = subst (λ (n : ℕ). g < n) (sym are.count) low in
    (each.done g there there d).stands (metas_for (group_at config g) metas) _ (past g low d)

pub all-go-on : (config : Config) (component : Component) (old new : List Group) → AreGroups config old → EachTo (RefreshesAt config component) (length old) old new
    → (metas : List MetaData) (turns : ℕ) → MayAllGoOn config metas turns old → MayAllGoOn config metas turns new
all-go-on config component old new are each metas turns may g low d =
    let there : g < length old = subst (λ (n : ℕ). g < n) (sym are.count) low in
    (each.done g there there d).goes_on (metas_for (group_at config g) metas) turns (may g low d)
