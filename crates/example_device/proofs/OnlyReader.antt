-- The only reader of a configuration's only read group.
use Rattle.std.proofs.Common.{◌≡◌, ℕ, ◌<◌, List, [], ◌∷◌, length, get_or, sym, ◌∙◌, ap, arith}
use Rattle.std.specs.Prelude.{map}
use Rattle.std.proofs.lemmas.List.{get_or_default}
use Rattle.dataset_meta.specs.Metas.{MetaData, no_meta}
use Rattle.ps_config.specs.declared.parts.Config.{Config}
use Rattle.ps_config.specs.declared.parts.ReadGroupPart.{ReadGroupPart}
use Rattle.ps_config.specs.declared.parts.ReaderPart.{ReaderPart}
use Rattle.reader_group.specs.declared.group.ReaderGroup.{ReaderGroup}
use Rattle.reader_group.specs.Groups as reads
use Rattle.reader_group.specs.Members.{seat_at}
use Rattle.reader_group.specs.Settings.{no_group, seat_in, setting_of}

-- the only element
pub single : {A : Type 0} (xs : List A) (x : A) → length xs ≡ 1 → x ≡ get_or xs 0 x → xs ≡ x ∷ []
single [] x one is = absurd (omega arith)
single (a ∷ []) x one is = ap (λ v. v ∷ []) (sym is)
single (a ∷ b ∷ xs) x one is = absurd (omega arith)

-- the meta of the only reader is that of its data set
pub meta_is : (config : Config) (group : ReaderGroup) (part : ReadGroupPart) (reader : ReaderPart) (meta : MetaData) → reads.index_of group ≡ 0
    → config.readgroup ≡ part ∷ [] → part.reader ≡ reader ∷ [] → reader.dataset < length config.dataset
    → meta ≡ get_or config.dataset reader.dataset meta → (seat_at (setting_of config (reads.index_of group)).seats 0).meta ≡ meta
meta_is config group part reader meta first only one within is =
    ap (λ (index : ℕ). (seat_at (setting_of config index).seats 0).meta) first
    ∙ ap (λ (l : List ReadGroupPart). (seat_at (map (seat_in config) (get_or l 0 no_group).reader) 0).meta) only
    ∙ ap (λ (l : List ReaderPart). (seat_at (map (seat_in config) l) 0).meta) one
    ∙ get_or_default config.dataset reader.dataset no_meta meta within ∙ sym is
