-- The writers of a group are refreshed one after another.
use Rattle.std.proofs.Common.{◌≡◌, refl, sym, ◌∙◌, subst, arith, ℕ, ◌+◌, ◌<◌, ◌≤◌, length, true, List}
use Rattle.std.specs.List.{range_with_len}
use Rattle.std.proofs.lemmas.List.Folds.{length-flat_map-take}
use Rattle.writer_group.specs.Parts.{group_at, no_group}
use Rattle.ps_config.specs.declared.parts.Config.{Config}
use Rattle.ps_config.specs.declared.parts.GroupPart.{GroupPart}
use Rattle.writer_group.specs.declared.group.Group.{Group}
use Rattle.writer_group.specs.Standing.{GoesOnRefreshed, IsGood, IsGroup, IsRefreshed as IsWriterRefreshed, IsStillMade, KeepsOnLogging, index_of}
use Rattle.writer_group.specs.Turns.{GroupDeed, RefreshedWriter}
use Rattle.session_model.specs.Deeds.{refreshed_where}
use Rattle.session_parts.proofs.Counting.{fold-more}
use Rattle.session_parts.proofs.Logging.{logs-same, logs-then}
use Rattle.dataset_meta.specs.Rows.{cons_if}
use Rattle.lane_groups.specs.Places.{IsRefreshed}

pub refreshed-none : (group : Group) → IsRefreshed 0 group group
refreshed-none group = record {
  index = refl;
  made = λ config part made. made;
  stands = λ metas part past is. is;
  goes_on = λ metas part turns may. may;
  logs = logs-same group;
}

pub refreshed-more : (w : ℕ) (old mid new : Group) → index_of new ≡ index_of mid → IsStillMade mid new → IsWriterRefreshed w mid new → GoesOnRefreshed w mid new
    → KeepsOnLogging mid new → IsRefreshed w old mid → IsRefreshed (w + 1) old new
refreshed-more w old mid new index made stands goes_on logs so_far = record {
  index = index ∙ so_far.index;
  made = λ config part was. made config part (so_far.made config part was);
  stands = λ metas part past is.
      subst (λ (l : List GroupDeed). IsGroup metas part l new)
      (sym (fold-more (λ past writer. cons_if true (RefreshedWriter writer) past) past w))
      (stands metas metas part (refreshed_where (λ writer. true) past (range_with_len 0 w)) (λ writer low other. refl) (so_far.stands metas part past is));
  goes_on = λ metas part turns may. goes_on metas metas part turns (λ writer low other. refl) (so_far.goes_on metas part turns may);
  logs = logs-then old mid new logs so_far.logs;
}

pub few-writers : (config : Config) (g : ℕ) → IsGood config → g < length config.group → length (group_at config g).writer ≤ 16
few-writers config g good low =
    let f = length-flat_map-take (λ (group : GroupPart). group.writer) config.group g no_group low in
    let most = good.sound.few.writers in omega (arith, f, most)
