-- The data sets of a session, as they are now.
use Rattle.std.proofs.Common.{◌≡◌, ℕ, ◌<◌, List, [], ◌∷◌, length, drop}
use Rattle.std.proofs.lemmas.List.Elements.{All-get_or}
use Rattle.dataset_meta.specs.Metas.{MetaData}
use Rattle.ps_config.specs.declared.parts.Config.{Config}
use Rattle.ps_config.specs.declared.parts.GroupPart.{GroupPart}
use Rattle.ps_config.specs.Rooms.{lacks_room}
use Rattle.std.specs.Prelude.{false}
use Rattle.writer_group.specs.Standing.{AreMetas}
use Rattle.writer_group.specs.Parts.{group_at, no_group}
use Rattle.pubsub_engine.specs.declared.sets.Sets.{Sets}
use Rattle.pubsub_engine.specs.declared.sets.Growth.{Growth}
use Rattle.pubsub_engine.specs.Holding.{AreSets, AreToCome, HoldSets}

pub first-of : (config : Config) (full metas : List MetaData) (later : List Growth) → AreToCome config full metas later → AreSets config full metas
first-of config full metas [] are = are
first-of config full metas (growth ∷ later) are = are.0

pub now-sets : (config : Config) (sets : Sets) → HoldSets config sets → AreSets config sets.full.items sets.metas.items
now-sets config sets holds = first-of config sets.full.items sets.metas.items (drop sets.made sets.later.items) holds.to_come

pub metas-of : (config : Config) (full metas : List MetaData) (g : ℕ) → AreSets config full metas → g < length config.group → AreMetas config (group_at config g) metas
metas-of config full metas g are low = record {
  count = are.count;
  fixed = are.fixed g low;
  room = All-get_or (λ (group : GroupPart). lacks_room config.publisher.id metas group ≡ false) config.group g no_group low are.fit.room;
}
