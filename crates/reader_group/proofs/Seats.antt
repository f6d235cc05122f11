-- The readers of a read group of a sound configuration.
use Rattle.std.proofs.Common.{◌≡◌, sym, ap, ◌∙◌, subst, arith, ℕ, ◌<◌, ◌≤◌, length, get_or}
use Rattle.std.specs.Prelude.{Contains}
use Rattle.std.proofs.lemmas.List.{length-map, get_or-map, get_or_default}
use Rattle.std.proofs.lemmas.List.Elements.{All-contains, Contains-get_or, at_from_Contains}
use Rattle.std.proofs.lemmas.List.Folds.{length-flat_map-take}
use Rattle.dataset_meta.specs.Metas.{MetaData, no_meta}
use Rattle.ps_config.specs.declared.parts.Config.{Config}
use Rattle.ps_config.specs.declared.parts.ReadGroupPart.{ReadGroupPart}
use Rattle.ps_config.specs.declared.parts.ReaderPart.{ReaderPart}
use Rattle.ps_config.specs.Sound.{IsSound, IsReadGroup, IsReader}
use Rattle.reader_group.specs.Members.{seat_of, seat_at, no_seat}
use Rattle.reader_group.specs.Settings.{seat_in, setting_by}

pub few_readers : (config : Config) (group : ReadGroupPart) → IsSound config → Contains config.readgroup group → length group.reader ≤ 16
few_readers config group sound has =
    let at = at_from_Contains config.readgroup group has in
    let long = length-flat_map-take (λ (g : ReadGroupPart). g.reader) config.readgroup at.0 group at.1 in
    let same : get_or config.readgroup at.0 group ≡ group = at.2 group in
    omega (arith, long, sound.few.readers, ap (λ (g : ReadGroupPart). length g.reader) same)

pub reader-sound : (config : Config) (group : ReadGroupPart) (index : ℕ) (part : ReaderPart) → IsSound config → Contains config.readgroup group
    → index < length group.reader → part ≡ get_or group.reader index part → IsReader config part
reader-sound config group index part sound has within is =
    subst (IsReader config) (sym is)
    (All-contains (IsReader config) group.reader (get_or group.reader index part) (All-contains (IsReadGroup config) config.readgroup group sound.readgroups has).readers
    (Contains-get_or group.reader index part within))

-- the reader's seat is its part with the meta of its data set
pub seat-is : (config : Config) (group : ReadGroupPart) (index : ℕ) (part : ReaderPart) (meta : MetaData) → index < length group.reader → part ≡ get_or group.reader index part
    → part.dataset < length config.dataset → meta ≡ get_or config.dataset part.dataset meta → seat_at (setting_by config group).seats index ≡ seat_of part meta
seat-is config group index part meta within is inside meta_is =
    get_or-map (seat_in config) group.reader index part no_seat within ∙ ap (seat_in config) (sym is)
    ∙ ap (seat_of part) (get_or_default config.dataset part.dataset no_meta meta inside ∙ sym meta_is)

pub seats-length : (config : Config) (group : ReadGroupPart) → length (setting_by config group).seats ≡ length group.reader
seats-length config group = length-map group.reader (seat_in config)
