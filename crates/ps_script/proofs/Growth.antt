-- What a line `append` is refused for, and what it does.
use Rattle.std.proofs.Common.{◌≡◌, ℕ, ◌+◌, Bool, true, false, ◌||◌, not, nat_le, IsTrue, List, [], ◌∷◌, ◌++◌, Option, Some, None, unwrap_or, Result, Ok, Err, slice_get, refl, sym, ap, ◌∙◌, subst, arith}
use Rattle.std.specs.Prelude.{◌↔◌, IsSome, IfSome, IfOk}
use Rattle.std.specs.List.{list_any}
use Rattle.std.proofs.Math.ListN.{set}
use Rattle.std.proofs.lemmas.Bool.{false≢true}
use Rattle.std.proofs.lemmas.Bool.Decides.{nat_tests}
use Rattle.ua_values.specs.declared.kind.Kind.{Kind}
use Rattle.ua_values.specs.declared.kind.Kind.TheVariants.{Boolean}
use Rattle.dataset_meta.specs.declared.field.Field.{Field}
use Rattle.config_tables.specs.Words.{kind_named}
use Rattle.dataset_meta.specs.Metas.{MetaData, MayGrow, grown}
use Rattle.dataset_meta.specs.Names.{is_name}
use Rattle.ps_config.specs.declared.parts.Config.{Config}
use Rattle.ps_config.specs.Rooms.{lacks_room}
use Rattle.ps_script.specs.declared.verbs.Verb.TheVariants.{Append}
use Rattle.ps_script.specs.Texts.{word}
use Rattle.ps_script.specs.Numbers.{number_at}
use Rattle.ps_script.specs.Names.{set_named}
use Rattle.ps_script.specs.Past.{Done, field_of, grown_at, grown_by, metas_after, done_with}
use Rattle.ps_script.specs.Faults.{is_meta, is_unfit, has_mute_writer, is_bad_growth, is_bad_append_to, is_bad_append, IsGrowth, Appends}
use Rattle.ps_script.proofs.MetaTest.{meta_passes, passes_meta}
use Rattle.std.specs.Option.{option_map_or}

pub metas_some : (metas : List MetaData) (line : List ℕ) (index : ℕ) (meta : MetaData) → set_named metas (word 1 line) ≡ Some index → slice_get metas index ≡ Some meta → metas_after metas line ≡ set metas index (grown meta (field_of line))
unfolding metas_after
metas_some metas line index meta named found =
    ap (grown_by metas (field_of line)) named ∙ ap (grown_at metas index (field_of line)) found

metas_none : (metas : List MetaData) (line : List ℕ) → set_named metas (word 1 line) ≡ None → metas_after metas line ≡ metas
unfolding metas_after
metas_none metas line named = ap (grown_by metas (field_of line)) named

pub bad_to : (config : Config) (done : Done) (line : List ℕ) (index : ℕ) (meta : MetaData) → set_named done.metas (word 1 line) ≡ Some index → slice_get done.metas index ≡ Some meta → is_bad_append config done line (Some Append) ≡ is_bad_growth config done line index meta
bad_to config done line index meta named found =
    ap (is_bad_append_to config done line) named
    ∙ ap (λ (o : Option MetaData). option_map_or (is_bad_growth config done line index) o false) found

-- a data set that can't have the field
pub growth_unfit : (config : Config) (done : Done) (line : List ℕ) (index : ℕ) (meta : MetaData) → set_named done.metas (word 1 line) ≡ Some index → slice_get done.metas index ≡ Some meta → is_unfit line meta ≡ true → is_bad_append config done line (Some Append) ≡ true
growth_unfit config done line index meta named found unfit =
    bad_to config done line index meta named found
    ∙ ap (λ b. b || (list_any (has_mute_writer index) config.group || list_any (lacks_room config.publisher.id (metas_after done.metas line)) config.group)) unfit

-- a data set that can: its writers and the room decide
pub growth_fit : (config : Config) (done : Done) (line : List ℕ) (index : ℕ) (meta more : MetaData) → set_named done.metas (word 1 line) ≡ Some index → slice_get done.metas index ≡ Some meta → is_unfit line meta ≡ false → more ≡ grown meta (field_of line) → is_bad_append config done line (Some Append) ≡ (list_any (has_mute_writer index) config.group || list_any (lacks_room config.publisher.id (set done.metas index more)) config.group)
growth_fit config done line index meta more named found fit is =
    bad_to config done line index meta named found
    ∙ ap (λ b. b || (list_any (has_mute_writer index) config.group || list_any (lacks_room config.publisher.id (metas_after done.metas line)) config.group)) fit
    ∙ ap (λ (metas : List MetaData). list_any (has_mute_writer index) config.group || list_any (lacks_room config.publisher.id metas) config.group)
    (metas_some done.metas line index meta named found ∙ ap (set done.metas index) (sym is))

-- a data set that isn't there
pub growth_unknown : (config : Config) (done : Done) (line : List ℕ) → set_named done.metas (word 1 line) ≡ None → is_bad_append config done line (Some Append) ≡ false
growth_unknown config done line named = ap (is_bad_append_to config done line) named

-- what is done then
pub done_some : (config : Config) (done next : Done) (line : List ℕ) (index : ℕ) (meta more : MetaData) → set_named done.metas (word 1 line) ≡ Some index → slice_get done.metas index ≡ Some meta → more ≡ grown meta (field_of line) → next ≡ record done { metas = set done.metas index more; appends = done.appends + 1 } → next ≡ done_with config done line (Some Append)
done_some config done next line index meta more named found is e =
    e ∙ ap (λ (metas : List MetaData). record done { metas = metas; appends = done.appends + 1 })
    (ap (set done.metas index) is ∙ sym (metas_some done.metas line index meta named found))

pub done_none : (config : Config) (done next : Done) (line : List ℕ) → set_named done.metas (word 1 line) ≡ None → next ≡ record done { appends = done.appends + 1 } → next ≡ done_with config done line (Some Append)
done_none config done next line named e =
    e ∙ ap (λ (metas : List MetaData). record done { metas = metas; appends = done.appends + 1 }) (sym (metas_none done.metas line named))

abbrev pub made : List ℕ → Kind → ℕ → Field
made name kind cap = record { name = name; kind = kind; cap = cap }

-- a field with what stands at its words is the line's
pub same_field : (line name : List ℕ) (kind : Kind) (cap : ℕ) → name ≡ word 2 line → kind ≡ unwrap_or (kind_named (word 3 line)) Boolean → cap ≡ number_at 1 256 (word 4 line) → made name kind cap ≡ field_of line
unfolding field_of
same_field line name kind cap names kinds caps =
    ap (λ (n : List ℕ). made n kind cap) names
    ∙ ap (λ (k : Kind). made (word 2 line) k cap) kinds
    ∙ ap (λ (c : ℕ). made (word 2 line) (unwrap_or (kind_named (word 3 line)) Boolean) c) caps

unfit_by : (big whole : Bool) → (big ≡ false → whole ≡ true → ⊥) → (big || not whole) ≡ true
unfit_by true whole none = refl
unfit_by false true none = absurd (none refl refl)
unfit_by false false none = refl

unfit_line : (line : List ℕ) (meta : MetaData) → is_name (word 2 line) ≡ true
    → (nat_le 4294967295 meta.minor ≡ false → is_meta (meta.fields ++ field_of line ∷ []) ≡ true → ⊥) → is_unfit line meta ≡ true
unfit_line line meta named none =
    ap (λ b. not b || nat_le 4294967295 meta.minor || not (is_meta (meta.fields ++ field_of line ∷ []))) named
    ∙ unfit_by (nat_le 4294967295 meta.minor) (is_meta (meta.fields ++ field_of line ∷ [])) none

fit_line : (line : List ℕ) (meta : MetaData) → is_name (word 2 line) ≡ true → nat_le 4294967295 meta.minor ≡ false
    → is_meta (meta.fields ++ field_of line ∷ []) ≡ true → is_unfit line meta ≡ false
fit_line line meta named small whole =
    ap (λ b. not b || nat_le 4294967295 meta.minor || not (is_meta (meta.fields ++ field_of line ∷ []))) named
    ∙ ap (λ b. b || not (is_meta (meta.fields ++ field_of line ∷ []))) small
    ∙ ap not whole

-- what a data set that may have the field exactly where it grows is made of
pub growth_told : {E : Type 0} (line : List ℕ) (meta : MetaData) (field : Field) (made : Result (Option MetaData) E) → field ≡ field_of line → IsTrue (is_name (word 2 line))
    → IfOk made (λ o. IsSome o ↔ MayGrow meta field) → IfOk made (λ o. IfSome o (λ more. more ≡ grown meta field)) → IfOk made (IsGrowth meta line)
growth_told line meta field (Err e) is named exact grows = tt
growth_told line meta field (Ok None) is named exact grows =
    unfit_line line meta named (λ big whole.
    false≢true (exact.1 (subst (MayGrow meta) (sym is)
    (record { fields = passes_meta (meta.fields ++ field_of line ∷ []) whole; minor = grind (arith, nat_tests, big) }))))
growth_told line meta field (Ok (Some more)) is named exact grows =
    let may : MayGrow meta (field_of line) = subst (MayGrow meta) is (exact.0 refl) in
    (fit_line line meta named (grind (arith, nat_tests, may.minor)) (meta_passes (meta.fields ++ field_of line ∷ []) may.fields), subst (λ (f : Field). more ≡ grown meta f) is grows)

or_left : (r mute room : Bool) → r ≡ mute → r ≡ true → r ≡ (mute || room)
or_left r mute room same yes_ = yes_ ∙ sym (ap (λ b. b || room) (sym same ∙ yes_))

or_right : (r mute room : Bool) → mute ≡ false → r ≡ room → r ≡ (mute || room)
or_right r mute room none same = same ∙ sym (ap (λ b. b || room) none)

pub unknown_appends : (config : Config) (done next : Done) (line : List ℕ) → set_named done.metas (word 1 line) ≡ None → next ≡ record done { appends = done.appends + 1 } → Appends config done next line false
unknown_appends config done next line named e = record {
  told = sym (growth_unknown config done line named);
  does = λ same. done_none config done next line named e;
}

pub unfit_appends : (config : Config) (done next : Done) (line : List ℕ) (index : ℕ) (meta : MetaData) → set_named done.metas (word 1 line) ≡ Some index → slice_get done.metas index ≡ Some meta → is_unfit line meta ≡ true → Appends config done next line true
unfit_appends config done next line index meta named found unfit = record {
  told = sym (growth_unfit config done line index meta named found unfit);
  does = λ same. absurd (false≢true (sym same));
}

fit_appends : (config : Config) (done next : Done) (line : List ℕ) (index : ℕ) (meta more : MetaData) (bad : Bool) → set_named done.metas (word 1 line) ≡ Some index → slice_get done.metas index ≡ Some meta → is_unfit line meta ≡ false → more ≡ grown meta (field_of line) → next ≡ record done { metas = set done.metas index more; appends = done.appends + 1 } → bad ≡ (list_any (has_mute_writer index) config.group || list_any (lacks_room config.publisher.id (set done.metas index more)) config.group) → Appends config done next line bad
fit_appends config done next line index meta more bad named found fit is e judged = record {
  told = judged ∙ sym (growth_fit config done line index meta more named found fit is);
  does = λ same. done_some config done next line index meta more named found is e;
}

pub mute_appends : (config : Config) (done next : Done) (line : List ℕ) (index : ℕ) (meta more : MetaData) (bad : Bool) → set_named done.metas (word 1 line) ≡ Some index → slice_get done.metas index ≡ Some meta → is_unfit line meta ≡ false → more ≡ grown meta (field_of line) → next ≡ record done { metas = set done.metas index more; appends = done.appends + 1 } → bad ≡ list_any (has_mute_writer index) config.group → bad ≡ true → Appends config done next line bad
mute_appends config done next line index meta more bad named found fit is e mute yes_ =
    fit_appends config done next line index meta more bad named found fit is e (or_left bad (list_any (has_mute_writer index) config.group) (list_any (lacks_room config.publisher.id (set done.metas index more)) config.group) mute yes_)

pub room_appends : (config : Config) (done next : Done) (line : List ℕ) (index : ℕ) (meta more : MetaData) (mute bad : Bool) → set_named done.metas (word 1 line) ≡ Some index → slice_get done.metas index ≡ Some meta → is_unfit line meta ≡ false → more ≡ grown meta (field_of line) → next ≡ record done { metas = set done.metas index more; appends = done.appends + 1 } → mute ≡ list_any (has_mute_writer index) config.group → mute ≡ false → bad ≡ list_any (lacks_room config.publisher.id (set done.metas index more)) config.group → Appends config done next line bad
room_appends config done next line index meta more mute bad named found fit is e is_mute none room =
    fit_appends config done next line index meta more bad named found fit is e (or_right bad (list_any (has_mute_writer index) config.group) (list_any (lacks_room config.publisher.id (set done.metas index more)) config.group) (sym is_mute ∙ none) room)
