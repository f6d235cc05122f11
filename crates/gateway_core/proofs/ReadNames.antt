-- The names of the readers of the first read groups.
use Rattle.std.proofs.Common.{◌≡◌, sym, ap, ◌∙◌, ℕ, ◌+◌, ◌<◌, List, [], ◌∷◌, ◌++◌, length, take, get_or, map, flat_map}
use Rattle.std.proofs.lemmas.List.{append-nil, map-append, take_more}
use Rattle.std.proofs.lemmas.List.Concat.{flat_map-append}
use Rattle.ps_config.specs.declared.parts.ReadGroupPart.{ReadGroupPart}
use Rattle.ps_config.specs.declared.parts.ReaderPart.{ReaderPart}

abbrev pub readers_in : List ReadGroupPart → List ReaderPart
readers_in groups = flat_map (λ group. group.reader) groups

abbrev pub names_in : List ReadGroupPart → List (List ℕ)
names_in groups = map (λ reader. reader.name) (readers_in groups)

-- those of one read group more
pub names-more : (groups : List ReadGroupPart) (n : ℕ) (group : ReadGroupPart) → n < length groups → group ≡ get_or groups n group
    → names_in (take n groups) ++ map (λ reader. reader.name) group.reader ≡ names_in (take (n + 1) groups)
names-more groups n group low is =
    let alone : readers_in (group ∷ []) ≡ group.reader = append-nil group.reader in
    let more : readers_in (take (n + 1) groups) ≡ readers_in (take n groups) ++ group.reader =
    ap readers_in (take_more groups n group low)
    ∙ ap (λ (g : ReadGroupPart). readers_in (take n groups ++ g ∷ [])) (sym is)
    ∙ flat_map-append (λ (g : ReadGroupPart). g.reader) (take n groups) (group ∷ [])
    ∙ ap (λ (l : List ReaderPart). readers_in (take n groups) ++ l) alone in
    sym (ap (λ (l : List ReaderPart). map (λ reader. reader.name) l) more ∙ map-append (λ (reader : ReaderPart). reader.name) (readers_in (take n groups)) group.reader)
