-- How many names there are.
use Rattle.std.proofs.Common.{◌≡◌, ℕ, ◌+◌, ◌≤◌, List, [], ◌∷◌, map, length, refl, arith, length-append}
use Rattle.std.specs.List.{flat_map}
use Rattle.std.proofs.lemmas.List.{length-map}
use Rattle.ps_config.specs.declared.parts.Config.{Config}
use Rattle.ps_config.specs.declared.parts.GroupPart.{GroupPart}
use Rattle.ps_config.specs.declared.parts.WriterPart.{WriterPart}
use Rattle.ps_config.specs.declared.parts.ReadGroupPart.{ReadGroupPart}
use Rattle.ps_config.specs.declared.parts.ReaderPart.{ReaderPart}
use Rattle.ps_config.specs.Sound.{IsSound, readers, group_names, read_group_names, component_names}
use Rattle.ps_script.specs.Names.{reader_names}

in_groups : (groups : List GroupPart) → length (flat_map group_names groups) ≡ length groups + length (flat_map (λ (g : GroupPart). g.writer) groups)
in_groups [] = refl
in_groups (group ∷ groups) =
    let names : List (List ℕ) = map (λ (w : WriterPart). w.name) group.writer in
    omega (arith, length-append (group.name ∷ names) (flat_map group_names groups), length-map group.writer (λ (w : WriterPart). w.name), length-append group.writer (flat_map (λ (g : GroupPart). g.writer) groups), in_groups groups)

in_read_groups : (groups : List ReadGroupPart) → length (flat_map read_group_names groups) ≡ length groups + length (flat_map (λ (g : ReadGroupPart). g.reader) groups)
in_read_groups [] = refl
in_read_groups (group ∷ groups) =
    let names : List (List ℕ) = map (λ (r : ReaderPart). r.name) group.reader in
    omega (arith, length-append (group.name ∷ names) (flat_map read_group_names groups), length-map group.reader (λ (r : ReaderPart). r.name), length-append group.reader (flat_map (λ (g : ReadGroupPart). g.reader) groups), in_read_groups groups)

pub of_readers : (groups : List ReadGroupPart) → length (flat_map (λ (g : ReadGroupPart). map (λ (r : ReaderPart). r.name) g.reader) groups) ≡ length (flat_map (λ (g : ReadGroupPart). g.reader) groups)
of_readers [] = refl
of_readers (group ∷ groups) =
    omega (arith, length-append (map (λ (r : ReaderPart). r.name) group.reader) (flat_map (λ (g : ReadGroupPart). map (λ (r : ReaderPart). r.name) g.reader) groups), length-map group.reader (λ (r : ReaderPart). r.name), length-append group.reader (flat_map (λ (g : ReadGroupPart). g.reader) groups), of_readers groups)

pub few_components : (config : Config) → IsSound config → length (component_names config) ≤ 64
few_components config sound =
    omega (arith, length-append (flat_map group_names config.group) (flat_map read_group_names config.readgroup), in_groups config.group, in_read_groups config.readgroup, sound.few.groups, sound.few.readgroups, sound.few.writers, sound.few.readers)

pub few_readers : (config : Config) → IsSound config → length (reader_names config) ≤ 64
unfolding reader_names
few_readers config sound = omega (arith, of_readers config.readgroup, sound.few.readers)

pub readers_counted : (config : Config) → length (reader_names config) ≡ length (readers config)
unfolding reader_names
readers_counted config = of_readers config.readgroup
