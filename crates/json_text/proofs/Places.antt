-- The data sets of writers have the places of metas.
use Rattle.std.proofs.Common.{ℕ, ◌<◌, List, [], ◌∷◌, length}
use Rattle.std.specs.Prelude.{All, flat_map}
use Rattle.std.proofs.lemmas.List.Elements.{All-nil, All-append, All-weaker, All-head, All-tail, All-map}
use Rattle.ps_config.specs.declared.parts.Config.{Config}
use Rattle.ps_config.specs.declared.parts.GroupPart.{GroupPart}
use Rattle.ps_config.specs.declared.parts.WriterPart.{WriterPart}
use Rattle.ps_config.specs.Sound.{IsGroup, IsSound, IsWriter, writers}
use Rattle.json_frames.specs.Reading.{HavePlaces}
use Rattle.json_tap.specs.Transcoding.{sets_of}

abbrev HasSet : Config → WriterPart → Type 0
HasSet config writer = writer.dataset < length config.dataset

have_sets : (config : Config) (groups : List GroupPart) → All (IsGroup config) groups → All (HasSet config) (flat_map (λ (group : GroupPart). group.writer) groups)
have_sets config [] each = All-nil (HasSet config)
have_sets config (group ∷ groups) each =
    All-append (HasSet config) group.writer (flat_map (λ (group : GroupPart). group.writer) groups)
    (All-weaker (IsWriter config group) (HasSet config) (λ writer is. is.dataset) group.writer (All-head (IsGroup config) group groups each).writers)
    (have_sets config groups (All-tail (IsGroup config) group groups each))

pub have-places : (config : Config) → IsSound config → HavePlaces config.dataset (sets_of config)
have-places config sound =
    All-map (λ (pair : ℕ × ℕ). pair.1 < length config.dataset) (λ (writer : WriterPart). (writer.id, writer.dataset)) (writers config)
    (have_sets config config.group sound.groups)
