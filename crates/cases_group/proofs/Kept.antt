-- What is kept on the writers' side, after a change of a part of it.
use Rattle.std.proofs.Common.{ℕ, List, set}
use Rattle.std.specs.Prelude.{All}
use Rattle.std.proofs.lemmas.List.Elements.{All-set}
use Rattle.dataset_meta.specs.Metas.{MetaData}
use Rattle.message_guard.specs.Senders.{SenderState, IsSender}
use Rattle.ps_config.specs.declared.parts.Config.{Config}
use Rattle.writer_group.specs.declared.datagrams.Datagrams.{Datagrams}
use Rattle.writer_group.specs.declared.sampled.Sampled.{Sampled}
use Rattle.writer_group.specs.Standing.{IsReserved}
use Rattle.cases_group.specs.declared.turners.Turner.{Turner}
use Rattle.cases_group.specs.Kept.{IsPublishing, IsTurner}

-- another group
pub turner-set : (config : Config) (metas : List MetaData) (rows : List Sampled) (groups : List Turner) (senders : List SenderState) (out : Datagrams)
    (k : ℕ) (turner : Turner) → IsPublishing config metas rows groups senders out → IsTurner config metas turner
    → IsPublishing config metas rows (set groups k turner) senders out
turner-set config metas rows groups senders out k turner is new = record {
  good = is.good;
  rows_are = is.rows_are;
  groups_are = All-set (IsTurner config metas) groups k turner new is.groups_are;
  senders_are = is.senders_are;
  reserved = is.reserved;
}

-- another group, and what it made
pub turned-set : (config : Config) (metas : List MetaData) (rows : List Sampled) (groups : List Turner) (senders : List SenderState) (out then_out : Datagrams)
    (k : ℕ) (turner : Turner) → IsPublishing config metas rows groups senders out → IsTurner config metas turner → IsReserved then_out
    → IsPublishing config metas rows (set groups k turner) senders then_out
turned-set config metas rows groups senders out then_out k turner is new reserved = record {
  good = is.good;
  rows_are = is.rows_are;
  groups_are = All-set (IsTurner config metas) groups k turner new is.groups_are;
  senders_are = is.senders_are;
  reserved = reserved;
}

-- another sender
pub sender-set : (config : Config) (metas : List MetaData) (rows : List Sampled) (groups : List Turner) (senders : List SenderState) (out : Datagrams)
    (k : ℕ) (sender : SenderState) → IsPublishing config metas rows groups senders out → IsSender sender
    → IsPublishing config metas rows groups (set senders k sender) out
sender-set config metas rows groups senders out k sender is new = record {
  good = is.good;
  rows_are = is.rows_are;
  groups_are = is.groups_are;
  senders_are = All-set IsSender senders k sender new is.senders_are;
  reserved = is.reserved;
}
