-- A line without a fault, and what it does.
use Rattle.std.proofs.Common.{◌≡◌, ℕ, ◌+◌, ◌-◌, ◌^◌, ◌<◌, ◌≤◌, ◌==◌, Bool, true, false, ◌&&◌, ◌||◌, not, cond, nat_le, List, [], ◌∷◌, ◌++◌, length, get_or, Option, Some, None, is_some, unwrap_or, option_and_then, slice_get, refl, sym, ap, ◌∙◌, subst, arith, lit<}
use Rattle.std.specs.Prelude.{slice_set, All}
use Rattle.std.specs.List.{list_any, list_all, HoldsAt, AllZip}
use Rattle.std.specs.Option.{option_map_or}
use Rattle.std.specs.Fmt.{decimal}
use Rattle.std.specs.Str.{bytes_eq}
use Rattle.std.specs.Str.Parse.{digits_value}
use Rattle.std.proofs.lemmas.Bool.{false≢true, not-false, and_parts, or_parts, leb-true, leb-false}
use Rattle.std.proofs.lemmas.List.{length-drop}
use Rattle.std.proofs.lemmas.List.Elements.{All-set}
use Rattle.std.proofs.lemmas.Option.{cond_some, get_or_from_slice_get, slice_get-get_or, slice_get_within}
use Rattle.dataset_meta.specs.declared.field.Field.{Field}
use Rattle.dataset_meta.specs.Metas.{IsMeta, MetaData, grown}
use Rattle.dataset_meta.specs.Names.{is_name}
use Rattle.row_words.specs.declared.patch.Patch.{Patch}
use Rattle.row_words.specs.Patches.{IsPatchOf}
use Rattle.ua_base.specs.declared.link.Fate.{Fate}
use Rattle.ua_base.specs.Fates.{IsFate}
use Rattle.config_tables.specs.Texts.{number_spelled}
use Rattle.ps_config.specs.declared.parts.Config.{Config}
use Rattle.ps_config.specs.Rooms.{lacks_room}
use Rattle.ps_config.specs.Sound.{IsWithin, component_names}
use Rattle.ps_script.specs.declared.fault.ScriptFault.{ScriptFault}
use Rattle.ps_script.specs.declared.fault.ScriptFault.TheVariants as fault
use Rattle.ps_script.specs.declared.script.Act.{Act}
use Rattle.ps_script.specs.declared.script.Act.TheVariants as act
use Rattle.ps_script.specs.declared.verbs.Verb.{Verb}
use Rattle.ps_script.specs.declared.verbs.Verb.TheVariants as verb
use Rattle.ps_script.specs.declared.verbs.FateWord.{FateWord}
use Rattle.ps_script.specs.declared.verbs.FateWord.TheVariants as fated
use Rattle.ps_script.specs.Texts.{words_of, word}
use Rattle.ps_script.specs.Verbs.{verb_of, fate_of}
use Rattle.ps_script.specs.Numbers.{at_least, number_within, is_number, number_at}
use Rattle.ps_script.specs.Names.{reader_names, component_named, reader_named, set_named}
use Rattle.ps_script.specs.Values.{ValueReader}
use Rattle.ps_script.specs.Fields.{is_field_word}
use Rattle.ps_script.specs.Past.{Done, field_of, metas_after, done_with}
use Rattle.ps_script.specs.Faults.{count_of, field_words, has_shape, has_numbers, has_fate_number, has_name, has_bad_value_in, is_bad_value, is_on, is_bad_state, is_past_limit, is_early, is_bad_fate, is_meta, has_mute_writer, is_unfit, is_bad_growth, is_bad_append}
use Rattle.ps_script.specs.Refusals.{stands, early_faults, faults, fault_of}
use Rattle.ps_script.specs.Acts.{patch_of, write_at, fate_by, act_by}
use Rattle.ps_script.specs.Sound.{IsFated, last_of}
use Rattle.ps_script.proofs.MetaTest.{passes_meta}
use Rattle.ps_script.proofs.Finding.{none_at}
use Rattle.ps_script.proofs.Growth.{metas_some, bad_to}
use Rattle.ps_script.proofs.Below.{Below, whole_at, same_named, position_within}
use Rattle.ps_script.proofs.Writing.{written}

-- none of the faults that matter behind the words stands at a line with this verb
pub record Fine (reader : ValueReader) (config : Config) (takes_fates : Bool) (done : Done) (line : List ℕ) (v : Option Verb) : Type 0 where
  pub shape : option_map_or (has_shape line) v true ≡ true
  pub number : option_map_or (has_numbers line) v true ≡ true
  pub name : option_map_or (has_name config done line) v true ≡ true
  pub value : is_bad_value reader done line v ≡ false
  pub state : is_bad_state config done line v ≡ false
  pub limit : is_past_limit done v ≡ false
  pub fate : is_bad_fate takes_fates done line v ≡ false
  pub append : is_bad_append config done line v ≡ false

pub fine : (reader : ValueReader) (config : Config) (takes_fates : Bool) (done : Done) (line : List ℕ) → fault_of reader config takes_fates done line ≡ None
    → Fine reader config takes_fates done line (verb_of line)
unfolding early_faults stands
fine reader config takes_fates done line e =
    let p : ScriptFault → Bool = λ f. stands reader f config takes_fates done line in
    record {
      shape = not-false (option_map_or (has_shape line) (verb_of line) true) (none_at p faults 3 fault.BadText e (lit< tt));
      number = not-false (option_map_or (has_numbers line) (verb_of line) true) (none_at p faults 4 fault.BadText e (lit< tt));
      name = not-false (option_map_or (has_name config done line) (verb_of line) true) (none_at p faults 5 fault.BadText e (lit< tt));
      value = none_at p faults 7 fault.BadText e (lit< tt);
      state = none_at p faults 8 fault.BadText e (lit< tt);
      limit = none_at p faults 9 fault.BadText e (lit< tt);
      fate = none_at p faults 10 fault.BadText e (lit< tt);
      append = none_at p faults 11 fault.BadText e (lit< tt);
    }

-- ---- numbers

most_of : (most : ℕ) (text : List ℕ) (n : ℕ) → number_spelled most text ≡ Some n → n ≤ most
most_of most text n e =
    let v : ℕ = digits_value 10 text in
    let s = cond_some (nat_le v most && bytes_eq text (decimal v)) v n e in
    subst (λ (k : ℕ). k ≤ most) s.1 (leb-true v most (and_parts (nat_le v most) (bytes_eq text (decimal v)) s.0).0)

within_least : (least most n : ℕ) (b : Bool) → nat_le least n ≡ b → n ≤ most → is_some (cond b (Some n) None) ≡ true
    → IsWithin least most (unwrap_or (cond b (Some n) None) 0)
within_least least most n true e small is = (leb-true least n e, small)
within_least least most n false e small is = absurd (false≢true is)

within_of : (least most : ℕ) (o : Option ℕ) → ((n : ℕ) → o ≡ Some n → n ≤ most) → is_some (option_and_then (at_least least) o) ≡ true
    → IsWithin least most (unwrap_or (option_and_then (at_least least) o) 0)
within_of least most None small is = absurd (false≢true is)
within_of least most (Some n) small is = within_least least most n (nat_le least n) refl (small n refl) is

-- a word that spells a number of the range gives one
pub number_is : (least most : ℕ) (text : List ℕ) → is_number least most text ≡ true → IsWithin least most (number_at least most text)
unfolding number_within
number_is least most text is = within_of least most (number_spelled most text) (most_of most text) is

-- ---- what lines do

-- a name that is there
pub record Found (o : Option ℕ) : Type 0 where
  pub at : ℕ
  pub is : o ≡ Some at

pub found : (o : Option ℕ) → is_some o ≡ true → Found o
found None e = absurd (false≢true e)
found (Some at) e = record { at = at; is = refl }

pub record Wrote (full : List MetaData) (done next : Done) (thread set : ℕ) (patch : Patch) : Type 0 where
  pub bound : thread < 8
  pub there : set < length full
  pub of : HoldsAt (λ (meta : MetaData). IsPatchOf meta patch) full set
  pub some : 0 < patch.mask
  pub marks : HoldsAt (λ (meta : MetaData). patch.mask < 2 ^ length meta.fields) done.metas set
  pub few : done.writes < 32768
  pub leaves : next ≡ record done { writes = done.writes + 1 }

pub record Ticked (done next : Done) (ms : ℕ) : Type 0 where
  pub span : IsWithin 1 3600000 ms
  pub few : done.ticks < 4096
  pub leaves : next ≡ record done { ticks = done.ticks + 1 }

pub record Switched (config : Config) (done next : Done) (id : ℕ) (on : Bool) : Type 0 where
  pub there : id < length (component_names config)
  pub was : get_or done.enabled id true ≡ not on
  pub leaves : next ≡ record done { enabled = slice_set done.enabled id on }

pub record GaveFate (takes_fates : Bool) (done next : Done) (number : ℕ) (fate : Fate) : Type 0 where
  pub has_fates : takes_fates ≡ true
  pub is_fated : IsFated number fate
  pub fresh : list_any (λ other. other == number) done.fated ≡ false
  pub few : length done.fated < 256
  pub leaves : next ≡ record done { fated = done.fated ++ number ∷ [] }

pub record Watched (config : Config) (done next : Done) (thread reader times : ℕ) : Type 0 where
  pub bound : thread < 8
  pub there : reader < length (reader_names config)
  pub looks : IsWithin 1 1000 times
  pub few : done.watches < 64
  pub leaves : next ≡ record done { watches = done.watches + 1 }

pub record Appended (config : Config) (done next : Done) (set : ℕ) : Type 0 where
  pub meta : MetaData
  pub field : Field
  pub found : slice_get done.metas set ≡ Some meta
  pub is_meta : IsMeta (meta.fields ++ field ∷ [])
  pub told : list_any (has_mute_writer set) config.group ≡ false
  pub room : list_any (lacks_room config.publisher.id next.metas) config.group ≡ false
  pub few : done.appends < 16
  pub leaves : next ≡ record done { metas = slice_set done.metas set (grown meta field); appends = done.appends + 1 }

abbrev pub Does : Config → Bool → List MetaData → Done → Done → Act → Type 0
Does config takes_fates full done next (act.Write thread set patch) = Wrote full done next thread set patch
Does config takes_fates full done next (act.Tick ms) = Ticked done next ms
Does config takes_fates full done next (act.Enable id) = Switched config done next id true
Does config takes_fates full done next (act.Disable id) = Switched config done next id false
Does config takes_fates full done next (act.Fated number fate) = GaveFate takes_fates done next number fate
Does config takes_fates full done next (act.Watch thread reader times) = Watched config done next thread reader times
Does config takes_fates full done next (act.Append set) = Appended config done next set

-- what a line does, or that it does nothing
abbrev pub Acts : Config → Bool → List MetaData → Done → Done → Option Act → Type 0
Acts config takes_fates full done next None = next ≡ done
Acts config takes_fates full done next (Some act) = Does config takes_fates full done next act

below : (n most : ℕ) → nat_le most n ≡ false → n < most
below n most e = leb-false most n e

-- ---- a line `write`

write_act : (reader : ValueReader) (full : List MetaData) (line : List ℕ) (at : ℕ) (whole : MetaData) → set_named full (word 2 line) ≡ Some at → slice_get full at ≡ Some whole
    → option_and_then (write_at reader full line) (set_named full (word 2 line)) ≡ Some (act.Write (number_at 0 7 (word 1 line)) at (patch_of reader line whole))
write_act reader full line at whole named there =
    ap (option_and_then (write_at reader full line)) named
    ∙ ap (λ (o : Option MetaData). option_map_or (λ m. Some (act.Write (number_at 0 7 (word 1 line)) at (patch_of reader line m))) o None) there

write_fine : (reader : ValueReader) (done : Done) (line : List ℕ) (at : ℕ) (meta : MetaData) → set_named done.metas (word 2 line) ≡ Some at → slice_get done.metas at ≡ Some meta
    → is_bad_value reader done line (Some verb.Write) ≡ false → has_bad_value_in reader line meta ≡ false
write_fine reader done line at meta named there fine =
    sym (ap (λ (o : Option ℕ). option_map_or (has_bad_value_in reader line) (option_and_then (slice_get done.metas) o) false) named
    ∙ ap (λ (o : Option MetaData). option_map_or (has_bad_value_in reader line) o false) there)
    ∙ fine

-- a line with four words or more has field words
some_words : (line : List ℕ) → has_shape line verb.Write ≡ true → 0 < length (field_words line)
some_words line shape =
    let four : 4 ≤ count_of line = leb-true 4 (count_of line) (and_parts (nat_le 4 (count_of line)) (list_all is_field_word (field_words line)) shape).0 in
    let rest : length (field_words line) ≡ count_of line - 3 = length-drop 3 (words_of line) in
    subst (λ (n : ℕ). 0 < n) (sym rest) (omega (arith, four))

holds : {X : Type 0} (P : X → Type 0) (xs : List X) (at : ℕ) (x : X) → slice_get xs at ≡ Some x → P x → HoldsAt P xs at
holds P xs at x there is d = subst P (sym (get_or_from_slice_get xs at x d there)) is

pub of_all : {X : Type 0} (P : X → Type 0) (xs : List X) (at : ℕ) (x : X) → All P xs → slice_get xs at ≡ Some x → P x
of_all P xs at x all there = subst P (get_or_from_slice_get xs at x x there) (all at x (slice_get_within xs at x there))

does_write : (reader : ValueReader) (config : Config) (takes_fates : Bool) (full : List MetaData) (done : Done) (line : List ℕ) → Fine reader config takes_fates done line (Some verb.Write)
    → AllZip Below done.metas full → All (λ (meta : MetaData). IsMeta meta.fields) done.metas → All (λ (meta : MetaData). IsMeta meta.fields) full
    → Acts config takes_fates full done (done_with config done line (Some verb.Write)) (act_by reader config full line (Some verb.Write))
does_write reader config takes_fates full done line f zip metas wholes =
    let n = found (set_named done.metas (word 2 line)) f.name in
    let lt : n.at < length done.metas = position_within (λ (m : MetaData). bytes_eq m.name (word 2 line)) done.metas n.at n.is in
    let first : MetaData = record { name = []; fields = []; major = 0; minor = 0; quality = false } in
    let meta : MetaData = get_or done.metas n.at first in
    let there : slice_get done.metas n.at ≡ Some meta = slice_get-get_or done.metas n.at first lt in
    let w = whole_at done.metas full n.at meta zip there in
    let named : set_named full (word 2 line) ≡ Some n.at = same_named (word 2 line) done.metas full zip ∙ n.is in
    let is = written reader meta w.whole (field_words line) w.below (of_all (λ (m : MetaData). IsMeta m.fields) done.metas n.at meta metas there)
    (of_all (λ (m : MetaData). IsMeta m.fields) full n.at w.whole wholes w.found) (some_words line f.shape) (write_fine reader done line n.at meta n.is there f.value) in
    let thread = number_is 0 7 (word 1 line) f.number in
    let patch : Patch = patch_of reader line w.whole in
    let wrote : Wrote full done (done_with config done line (Some verb.Write)) (number_at 0 7 (word 1 line)) n.at patch = record {
      bound = omega (arith, thread.1);
      there = slice_get_within full n.at w.whole w.found;
      of = holds (λ (m : MetaData). IsPatchOf m patch) full n.at w.whole w.found is.of;
      some = is.some;
      marks = holds (λ (m : MetaData). patch.mask < 2 ^ length m.fields) done.metas n.at meta there is.marks;
      few = below done.writes 32768 f.limit;
      leaves = refl;
    } in
    subst (Acts config takes_fates full done (done_with config done line (Some verb.Write))) (sym (write_act reader full line n.at w.whole named w.found)) wrote

-- ---- a line `fate`

zero_le : (n : ℕ) → 0 ≤ n
zero_le n = omega arith

numbered : (line : List ℕ) (o : Option FateWord) → has_fate_number line o ≡ true → is_early line o ≡ false
    → (last_of (fate_by line (unwrap_or o fated.Drop)) ≤ 1000000) × IsFate (number_at 0 1000000 (word 1 line)) (fate_by line (unwrap_or o fated.Drop))
numbered line None number late = (zero_le 1000000, tt)
numbered line (Some fated.Drop) number late = (zero_le 1000000, tt)
numbered line (Some fated.Repeat) number late = (zero_le 1000000, number_is 2 8 (word 3 line) number)
numbered line (Some fated.Hold) number late =
    ((number_is 0 1000000 (word 3 line) number).1, below (number_at 0 1000000 (word 1 line)) (number_at 0 1000000 (word 3 line)) late)
numbered line (Some fated.Again) number late =
    ((number_is 0 1000000 (word 3 line) number).1, below (number_at 0 1000000 (word 1 line)) (number_at 0 1000000 (word 3 line)) late)

does_fate : (reader : ValueReader) (config : Config) (takes_fates : Bool) (full : List MetaData) (done : Done) (line : List ℕ) → Fine reader config takes_fates done line (Some verb.Fate)
    → Acts config takes_fates full done (done_with config done line (Some verb.Fate)) (act_by reader config full line (Some verb.Fate))
does_fate reader config takes_fates full done line f =
    let number : ℕ = number_at 0 1000000 (word 1 line) in
    let n = and_parts (is_number 0 1000000 (word 1 line)) (has_fate_number line (fate_of line)) f.number in
    let late = or_parts (not takes_fates || list_any (λ other. other == number) done.fated) (is_early line (fate_of line)) f.fate in
    let fresh = or_parts (not takes_fates) (list_any (λ other. other == number) done.fated) late.0 in
    let is = numbered line (fate_of line) n.1 late.1 in
    record {
      has_fates = not-false takes_fates fresh.0;
      is_fated = record { bound = (number_is 0 1000000 (word 1 line) n.0).1; last = is.0; is_fate = is.1 };
      fresh = fresh.1;
      few = below (length done.fated) 256 f.limit;
      leaves = refl;
    }

-- ---- lines `enable` and `disable`

switched_at : (config : Config) (done : Done) (line : List ℕ) (o : Option ℕ) (on : Bool) → is_some o ≡ true → component_named config (word 1 line) ≡ o
    → is_on config done (word 1 line) ≡ not on
    → Switched config done (record done { enabled = slice_set done.enabled (unwrap_or (component_named config (word 1 line)) 0) on }) (unwrap_or (component_named config (word 1 line)) 0) on
switched_at config done line None on some e was = absurd (false≢true some)
switched_at config done line (Some id) on some e was =
    let same : unwrap_or (component_named config (word 1 line)) 0 ≡ id = ap (λ (o : Option ℕ). unwrap_or o 0) e in
    record {
      there = subst (λ (k : ℕ). k < length (component_names config)) (sym same) (position_within (λ (other : List ℕ). bytes_eq other (word 1 line)) (component_names config) id e);
      was = was;
      leaves = refl;
    }

-- ---- a line `append`

fit_meta : (line : List ℕ) (meta : MetaData) → is_unfit line meta ≡ false → IsMeta (meta.fields ++ field_of line ∷ [])
fit_meta line meta fit =
    passes_meta (meta.fields ++ field_of line ∷ [])
    (not-false (is_meta (meta.fields ++ field_of line ∷ []))
    (or_parts (not (is_name (word 2 line)) || nat_le 4294967295 meta.minor) (not (is_meta (meta.fields ++ field_of line ∷ []))) fit).1)

appended_at : (config : Config) (done : Done) (line : List ℕ) (at : ℕ) (meta : MetaData) → set_named done.metas (word 1 line) ≡ Some at → slice_get done.metas at ≡ Some meta
    → is_bad_append config done line (Some verb.Append) ≡ false → done.appends < 16 → Appended config done (done_with config done line (Some verb.Append)) at
appended_at config done line at meta named there good few =
    let metas = metas_after done.metas line in
    let bad : is_bad_growth config done line at meta ≡ false = sym (bad_to config done line at meta named there) ∙ good in
    let fit = or_parts (is_unfit line meta) (list_any (has_mute_writer at) config.group || list_any (lacks_room config.publisher.id metas) config.group) bad in
    let rest = or_parts (list_any (has_mute_writer at) config.group) (list_any (lacks_room config.publisher.id metas) config.group) fit.1 in
    record {
      meta = meta;
      field = field_of line;
      found = there;
      is_meta = fit_meta line meta fit.0;
      told = rest.0;
      room = rest.1;
      few = few;
      leaves = ap (λ (ms : List MetaData). record done { metas = ms; appends = done.appends + 1 }) (metas_some done.metas line at meta named there);
    }

-- the place of the data set that a line `append` names
appended : (reader : ValueReader) (config : Config) (takes_fates : Bool) (done : Done) (line : List ℕ) → Fine reader config takes_fates done line (Some verb.Append)
    → Appended config done (done_with config done line (Some verb.Append)) (unwrap_or (set_named done.metas (word 1 line)) 0)
appended reader config takes_fates done line f =
    let n = found (set_named done.metas (word 1 line)) f.name in
    let lt : n.at < length done.metas = position_within (λ (m : MetaData). bytes_eq m.name (word 1 line)) done.metas n.at n.is in
    let first : MetaData = record { name = []; fields = []; major = 0; minor = 0; quality = false } in
    let there : slice_get done.metas n.at ≡ Some (get_or done.metas n.at first) = slice_get-get_or done.metas n.at first lt in
    subst (Appended config done (done_with config done line (Some verb.Append))) (sym (ap (λ (o : Option ℕ). unwrap_or o 0) n.is))
    (appended_at config done line n.at (get_or done.metas n.at first) n.is there f.append (below done.appends 16 f.limit))

does_append : (reader : ValueReader) (config : Config) (takes_fates : Bool) (full : List MetaData) (done : Done) (line : List ℕ) → Fine reader config takes_fates done line (Some verb.Append)
    → AllZip Below done.metas full
    → Acts config takes_fates full done (done_with config done line (Some verb.Append)) (act_by reader config full line (Some verb.Append))
does_append reader config takes_fates full done line f zip =
    subst (Appended config done (done_with config done line (Some verb.Append)))
    (ap (λ (o : Option ℕ). unwrap_or o 0) (sym (same_named (word 1 line) done.metas full zip))) (appended reader config takes_fates done line f)

-- ---- any line

does_watch : (reader : ValueReader) (config : Config) (takes_fates : Bool) (full : List MetaData) (done : Done) (line : List ℕ) → Fine reader config takes_fates done line (Some verb.Watch)
    → Acts config takes_fates full done (done_with config done line (Some verb.Watch)) (act_by reader config full line (Some verb.Watch))
does_watch reader config takes_fates full done line f =
    let n = and_parts (is_number 0 7 (word 1 line)) (is_number 1 1000 (word 3 line)) f.number in
    let at = found (reader_named config (word 2 line)) f.name in
    let thread = number_is 0 7 (word 1 line) n.0 in
    let same : at.at ≡ unwrap_or (reader_named config (word 2 line)) 0 = ap (λ (o : Option ℕ). unwrap_or o 0) (sym at.is) in
    record {
      bound = omega (arith, thread.1);
      there = subst (λ (k : ℕ). k < length (reader_names config)) same (position_within (λ (other : List ℕ). bytes_eq other (word 2 line)) (reader_names config) at.at at.is);
      looks = number_is 1 1000 (word 3 line) n.1;
      few = below done.watches 64 f.limit;
      leaves = refl;
    }

pub does : (reader : ValueReader) (config : Config) (takes_fates : Bool) (full : List MetaData) (done : Done) (line : List ℕ) (v : Option Verb) → Fine reader config takes_fates done line v
    → AllZip Below done.metas full → All (λ (meta : MetaData). IsMeta meta.fields) done.metas → All (λ (meta : MetaData). IsMeta meta.fields) full
    → Acts config takes_fates full done (done_with config done line v) (act_by reader config full line v)
does reader config takes_fates full done line None f zip metas wholes = refl
does reader config takes_fates full done line (Some verb.Write) f zip metas wholes = does_write reader config takes_fates full done line f zip metas wholes
does reader config takes_fates full done line (Some verb.Tick) f zip metas wholes =
    record { span = number_is 1 3600000 (word 1 line) f.number; few = below done.ticks 4096 f.limit; leaves = refl }
does reader config takes_fates full done line (Some verb.Enable) f zip metas wholes =
    switched_at config done line (component_named config (word 1 line)) true f.name refl f.state
does reader config takes_fates full done line (Some verb.Disable) f zip metas wholes =
    switched_at config done line (component_named config (word 1 line)) false f.name refl (not-false (is_on config done (word 1 line)) f.state)
does reader config takes_fates full done line (Some verb.Append) f zip metas wholes = does_append reader config takes_fates full done line f zip
does reader config takes_fates full done line (Some verb.Fate) f zip metas wholes = does_fate reader config takes_fates full done line f
does reader config takes_fates full done line (Some verb.Watch) f zip metas wholes = does_watch reader config takes_fates full done line f

-- data sets that each make a meta do so behind the line
pub metas_with : (reader : ValueReader) (config : Config) (takes_fates : Bool) (done : Done) (line : List ℕ) (v : Option Verb) → Fine reader config takes_fates done line v
    → All (λ (meta : MetaData). IsMeta meta.fields) done.metas → All (λ (meta : MetaData). IsMeta meta.fields) (done_with config done line v).metas
metas_with reader config takes_fates done line None f metas = metas
metas_with reader config takes_fates done line (Some verb.Write) f metas = metas
metas_with reader config takes_fates done line (Some verb.Tick) f metas = metas
metas_with reader config takes_fates done line (Some verb.Enable) f metas = metas
metas_with reader config takes_fates done line (Some verb.Disable) f metas = metas
metas_with reader config takes_fates done line (Some verb.Append) f metas =
    let a = appended reader config takes_fates done line f in
    subst (λ (d : Done). All (λ (meta : MetaData). IsMeta meta.fields) d.metas) (sym a.leaves)
    (All-set (λ (m : MetaData). IsMeta m.fields) done.metas (unwrap_or (set_named done.metas (word 1 line)) 0) (grown a.meta a.field) a.is_meta metas)
metas_with reader config takes_fates done line (Some verb.Fate) f metas = metas
metas_with reader config takes_fates done line (Some verb.Watch) f metas = metas
