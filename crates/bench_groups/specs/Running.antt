-- What a run of turns needs, of the first group of a configuration.
use Rattle.std.specs.Prelude.{◌≡◌, ℕ, ◌<◌, Bool, List, length, Option, is_some, IfSome}
use Rattle.std.specs.List.{AllZip, HoldsAt}
use Rattle.dataset_meta.specs.Metas.{MetaData}
use Rattle.row_words.specs.Belonging.{Belongs}
use Rattle.message_guard.specs.Senders.{SenderState, IsSender}
use Rattle.ps_config.specs.declared.parts.Config.{Config}
use Rattle.ps_config.specs.Headers.{is_secured}
use Rattle.writer_group.specs.declared.sampled.Sampled.{Sampled}
use Rattle.bench_groups.specs.declared.writing.Run.{Run}
use Rattle.writer_group.specs.Standing.{IsGood, IsMadeFor, IsReserved, MayGoOn, index_of, metas_for}

-- a row of each data set
abbrev pub AreRows : List MetaData → List Sampled → Type 0
AreRows metas rows = AllZip (λ meta sampled. Belongs meta sampled.row.words) metas rows

-- there is a sender exactly where the first group is secured
pub record FitsSender (config : Config) (sender : Option SenderState) : Type 0 where
  pub there : HoldsAt (λ part. is_some sender ≡ is_secured part.security) config.group 0
  pub sender_is : IfSome sender IsSender

-- a truth value for each writer of the first group
abbrev pub IsOnFor : Config → List Bool → Type 0
IsOnFor config on = HoldsAt (λ part. length on ≡ length part.writer) config.group 0

-- the group of the run is the configuration's first, and may have so many turns more
pub record MayTurn (config : Config) (turns : ℕ) (run : Run) : Type 0 where
  pub good : IsGood config
  pub there : 0 < length config.group
  pub first : index_of run.group ≡ 0
  pub made : HoldsAt (λ part. IsMadeFor config part run.group) config.group 0
  pub goes_on : HoldsAt (λ part. MayGoOn (metas_for part config.dataset) part turns run.group) config.group 0
  pub sender_fits : FitsSender config run.sender
  pub on_are : IsOnFor config run.on.items
  pub even_are : AreRows config.dataset run.even.items
  pub odd_are : AreRows config.dataset run.odd.items
  pub reserved : IsReserved run.out
