-- The data sets of the readers of the first read groups.
use Rattle.std.proofs.Common.{◌≡◌, sym, ap, ◌∙◌, arith, ℕ, ◌+◌, ◌<◌, ◌≤◌, List, [], ◌∷◌, ◌++◌, length, take, get_or, map, All}
use Rattle.std.specs.List.{flat_map}
use Rattle.std.proofs.lemmas.List.{append-nil, map-append, length-map, take_more}
use Rattle.std.proofs.lemmas.List.Concat.{flat_map-append}
use Rattle.std.proofs.lemmas.List.Elements.{All-append, All-head, All-map, All-nil, All-tail, All-weaker}
use Rattle.std.proofs.lemmas.List.Folds.{length-flat_map-take}
use Rattle.ps_config.specs.declared.parts.Config.{Config}
use Rattle.ps_config.specs.declared.parts.ReadGroupPart.{ReadGroupPart}
use Rattle.ps_config.specs.declared.parts.ReaderPart.{ReaderPart}
use Rattle.ps_config.specs.Sound.{IsReader, IsReadGroup}
use Rattle.writer_group.specs.Standing.{IsGood}

abbrev pub readers_in : List ReadGroupPart → List ReaderPart
readers_in groups = flat_map (λ group. group.reader) groups

abbrev pub sets_in : List ReadGroupPart → List ℕ
sets_in groups = map (λ reader. reader.dataset) (readers_in groups)

pub sets-more : (groups : List ReadGroupPart) (n : ℕ) (group : ReadGroupPart) → n < length groups → group ≡ get_or groups n group
    → sets_in (take n groups) ++ map (λ reader. reader.dataset) group.reader ≡ sets_in (take (n + 1) groups)
sets-more groups n group low is =
    let alone : readers_in (group ∷ []) ≡ group.reader = append-nil group.reader in
    let more : readers_in (take (n + 1) groups) ≡ readers_in (take n groups) ++ group.reader =
    ap readers_in (take_more groups n group low)
    ∙ ap (λ (g : ReadGroupPart). readers_in (take n groups ++ g ∷ [])) (sym is)
    ∙ flat_map-append (λ (g : ReadGroupPart). g.reader) (take n groups) (group ∷ [])
    ∙ ap (λ (l : List ReaderPart). readers_in (take n groups) ++ l) alone in
    sym (ap (λ (l : List ReaderPart). map (λ reader. reader.dataset) l) more ∙ map-append (λ (reader : ReaderPart). reader.dataset) (readers_in (take n groups)) group.reader)

pub sets-fit : (groups : List ReadGroupPart) (n : ℕ) (group : ReadGroupPart) → n < length groups → group ≡ get_or groups n group
    → length (sets_in (take n groups)) + length group.reader ≤ length (readers_in groups)
sets-fit groups n group low is =
    let few = length-flat_map-take (λ (g : ReadGroupPart). g.reader) groups n group low in
    let same : length (get_or groups n group).reader ≡ length group.reader = ap (λ (g : ReadGroupPart). length g.reader) (sym is) in
    omega (arith, few, same, length-map (readers_in (take n groups)) (λ (reader : ReaderPart). reader.dataset))

-- the data set of each reader is there

readers-there : (config : Config) (groups : List ReadGroupPart) → All (IsReadGroup config) groups → All (IsReader config) (readers_in groups)
readers-there config [] all = All-nil (IsReader config)
readers-there config (group ∷ groups) all =
    All-append (IsReader config) group.reader (readers_in groups)
    (All-head (IsReadGroup config) group groups all).readers
    (readers-there config groups (All-tail (IsReadGroup config) group groups all))

pub sets-there : (config : Config) → IsGood config → All (λ set. set < length config.dataset) (sets_in config.readgroup)
sets-there config good =
    All-map (λ (set : ℕ). set < length config.dataset) (λ (reader : ReaderPart). reader.dataset) (readers_in config.readgroup)
    (All-weaker (IsReader config) (λ reader. reader.dataset < length config.dataset) (λ reader is. is.dataset) (readers_in config.readgroup)
    (readers-there config config.readgroup good.sound.readgroups))
