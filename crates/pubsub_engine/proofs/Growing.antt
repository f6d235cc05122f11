-- Data sets that have grown.
use Rattle.std.proofs.Common.{refl, sym, ap, ◌∙◌, arith, ℕ, suc, zero, ◌≤◌, List, [], ◌∷◌, length, take, set}
use Rattle.std.proofs.lemmas.List.{length-take, take_all, take-take}
use Rattle.std.proofs.Math.Seq.{take-append_seam}
use Rattle.dataset_meta.specs.declared.field.Field.{Field}
use Rattle.dataset_meta.specs.Metas.{MetaData, HasGrown, grown}
use Rattle.session_model.specs.Sets.{GrowTo, meta_in}

has-grown-self : (meta : MetaData) → HasGrown meta meta
has-grown-self meta = record { fields = sym (take_all (length meta.fields) meta.fields (omega arith)); quality = refl; major = refl }

has-grown-one : (meta : MetaData) (field : Field) → HasGrown meta (grown meta field)
has-grown-one meta field = record { fields = sym (take-append_seam meta.fields (field ∷ [])); quality = refl; major = refl }

has-grown-on : (first next last : MetaData) → HasGrown first next → HasGrown next last → HasGrown first last
has-grown-on first next last one two =
    let same = ap (λ (l : List Field). length l) one.fields ∙ length-take (length first.fields) next.fields in
    let le : length first.fields ≤ length next.fields = omega (arith, same) in
    record {
      fields = one.fields ∙ ap (take (length first.fields)) two.fields ∙ take-take (length first.fields) (length next.fields) last.fields le;
      quality = one.quality ∙ two.quality;
      major = one.major ∙ two.major;
    }

pub grow-self : (metas : List MetaData) → GrowTo metas metas
grow-self [] = tt
grow-self (meta ∷ metas) = (has-grown-self meta, grow-self metas)

pub grow-one : (metas : List MetaData) (set_at : ℕ) (field : Field) → GrowTo metas (set metas set_at (grown (meta_in metas set_at) field))
grow-one [] set_at field = tt
grow-one (meta ∷ metas) zero field = (has-grown-one meta field, grow-self metas)
grow-one (meta ∷ metas) (suc set_at) field = (has-grown-self meta, grow-one metas set_at field)

pub grow-on : (first next last : List MetaData) → GrowTo first next → GrowTo next last → GrowTo first last
grow-on [] [] [] one two = tt
grow-on [] [] (meta ∷ last) one two = absurd two
grow-on [] (meta ∷ next) last one two = absurd one
grow-on (meta ∷ first) [] last one two = absurd one
grow-on (meta ∷ first) (other ∷ next) [] one two = absurd two
grow-on (meta ∷ first) (other ∷ next) (third ∷ last) one two = (has-grown-on meta other third one.0 two.0, grow-on first next last one.1 two.1)
