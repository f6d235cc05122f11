-- The conditions of a run's datagrams.
use Rattle.std.proofs.Common.{◌≡◌, ℕ, List, Bool, length, sym, ap, ◌∙◌}
use Rattle.std.proofs.lemmas.List.{length-map}
use Rattle.ps_config.specs.declared.parts.Config.{Config}
use Rattle.reader_group.specs.declared.group.ReaderGroup.{ReaderGroup}
use Rattle.reader_group.specs.Groups.{IsMadeOf, index_of, reader_count}
use Rattle.reader_group.specs.Settings.{group_at, seat_in}
use Rattle.bench_groups.specs.Taking.{MayTake}

-- as many truth values as readers
pub count_is : (config : Config) (on : List Bool) (group : ReaderGroup) → MayTake config on group → length on ≡ reader_count group
count_is config on group may =
    may.on_are ∙ ap (λ (index : ℕ). length (group_at config index).reader) (sym may.first)
    ∙ sym (length-map (group_at config (index_of group)).reader (seat_in config)) ∙ sym may.made.readers.count

pub stays : (config : Config) (on : List Bool) (old new : ReaderGroup) → MayTake config on old → IsMadeOf config new → index_of new ≡ index_of old → MayTake config on new
stays config on old new may made index = record { made = made; first = index ∙ may.first; on_are = may.on_are; few = may.few }
