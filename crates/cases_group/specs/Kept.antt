-- What holds between the lines of the cases of what is kept.
use Rattle.std.specs.Prelude.{◌≡◌, ◌≢◌, ℕ, ◌<◌, List, length, slice_index_or, All}
use Rattle.std.specs.List.{AllZip, HoldsAt}
use Rattle.dataset_meta.specs.Metas.{MetaData}
use Rattle.message_guard.specs.Senders.{SenderState, IsSender}
use Rattle.ps_config.specs.declared.parts.Config.{Config}
use Rattle.ps_config.specs.declared.parts.ReadGroupPart.{ReadGroupPart}
use Rattle.row_words.specs.Belonging.{Belongs}
use Rattle.writer_group.specs.declared.datagrams.Datagrams.{Datagrams}
use Rattle.writer_group.specs.declared.sampled.Sampled.{Sampled}
use Rattle.writer_group.specs.Standing.{AreMetas, IsGood, IsMadeFor, IsReserved, MayGoOn, metas_for, index_of as group_index}
use Rattle.reader_group.specs.declared.group.ReaderGroup.{ReaderGroup}
use Rattle.reader_group.specs.Groups.{IsMadeOf, index_of, reader_count}
use Rattle.cases_group.specs.declared.turners.Turner.{Turner}

-- each data set has a row of its own
abbrev pub AreRows : List MetaData → List Sampled → Type 0
AreRows metas rows = AllZip (λ meta sampled. Belongs meta sampled.row.words) metas rows

-- no other data set grows than this one
pub record GrowsAt (set : ℕ) (old new : List MetaData) : Type 0 where
  pub count : length new ≡ length old
  pub others : (k : ℕ) (d : MetaData) → k ≢ set → slice_index_or new k d ≡ slice_index_or old k d

-- the group with this part of the configuration, which may go on with these metas for so many turns more
pub record IsTurner (config : Config) (metas : List MetaData) (turner : Turner) : Type 0 where
  pub good : IsGood config
  pub there : group_index turner.group < length config.group
  pub part_is : HoldsAt (λ one. one ≡ turner.part.now) config.group (group_index turner.group)
  pub made : IsMadeFor config turner.part.now turner.group
  pub metas_are : AreMetas config turner.part.now metas
  pub goes_on : MayGoOn (metas_for turner.part.now metas) turner.part.now turner.left turner.group

-- the read group with this part of the configuration, with so many truth values as it has readers
pub record IsTaker (config : Config) (part : ReadGroupPart) (group : ReaderGroup) (on : ℕ) : Type 0 where
  pub made : IsMadeOf config group
  pub part_is : HoldsAt (λ one. one ≡ part) config.readgroup (index_of group)
  pub on_are : on ≡ reader_count group

abbrev pub AreTurners : Config → List MetaData → List Turner → Type 0
AreTurners config metas turners = All (IsTurner config metas) turners

-- the configuration is good, and the rows and the groups go with these metas
pub record IsPublishing (config : Config) (metas : List MetaData) (rows : List Sampled) (groups : List Turner) (senders : List SenderState)
    (out : Datagrams) : Type 0 where
  pub good : IsGood config
  pub rows_are : AreRows metas rows
  pub groups_are : AreTurners config metas groups
  pub senders_are : All IsSender senders
  pub reserved : IsReserved out
