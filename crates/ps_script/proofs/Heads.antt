-- Lines that are judged and read at once.
use Rattle.std.proofs.Common.{◌≡◌, ℕ, ◌+◌, ◌<◌, Bool, true, false, ◌&&◌, ◌||◌, not, cond, nat_le, List, [], ◌∷◌, length, length-drop, le-leb, drop, Option, Some, None, find, is_some, is_none, unwrap_or, option_and_then, slice_get, eqb-true, refl, sym, ap, ◌∙◌, subst, arith}
use Rattle.std.specs.Prelude.{slice_index_or}
use Rattle.std.specs.List.{list_any, list_all}
use Rattle.std.specs.Option.{option_map_or}
use Rattle.std.proofs.lemmas.Bool.{and_parts}
use Rattle.std.proofs.lemmas.Bool.Decides.{nat_tests}
use Rattle.dataset_meta.specs.Metas.{MetaData}
use Rattle.row_words.specs.declared.patch.Patch.{Patch}
use Rattle.ps_config.specs.declared.parts.Config.{Config}
use Rattle.ps_script.specs.declared.fault.ScriptFault.{ScriptFault}
use Rattle.ps_script.specs.declared.fault.ScriptFault.TheVariants as fault
use Rattle.ps_script.specs.declared.script.Act.TheVariants as act
use Rattle.ps_script.specs.declared.verbs.Verb.{Verb}
use Rattle.ps_script.specs.declared.verbs.Verb.TheVariants as verb
use Rattle.ps_script.specs.Texts.{words_of, word}
use Rattle.ps_script.specs.Verbs.{verb_of, verb_named, is_idle}
use Rattle.ps_script.specs.Numbers.{number_within}
use Rattle.ps_script.specs.Names.{set_named}
use Rattle.ps_script.specs.Values.{ValueReader}
use Rattle.row_words.specs.Patches.{spelled_patch}
use Rattle.ps_script.specs.Fields.{is_field_word, has_bad_field, change_of, patch_with}
use Rattle.ps_script.specs.Past.{Done, done_with, after}
use Rattle.ps_script.specs.Faults.{field_words, count_of, is_bad_text, is_long, has_unknown_word, has_shape, is_bad_shape, has_numbers, has_name, meta_named, has_bad_field_in, is_bad_field, has_bad_value_in, is_bad_value, is_bad_state, is_past_limit, has_unknown_fate, is_bad_fate, is_bad_append}
use Rattle.ps_script.specs.Refusals.{stands, early_faults, faults, fault_of}
use Rattle.ps_script.specs.Acts.{act_by, act_of}
use Rattle.ps_script.proofs.Acting.{wrote, act_write}
use Rattle.ps_script.specs.Writes.{BeginsWrite, GivesPatch, IsSoundWrite, is_idle_line}

-- three words in front of the others
three_words : (line first second third : List ℕ) (a b c : List ℕ) → words_of line ≡ a ∷ words_of first → words_of first ≡ b ∷ words_of second → words_of second ≡ c ∷ words_of third → words_of line ≡ a ∷ b ∷ c ∷ words_of third
three_words line first second third a b c p q r = p ∙ ap (λ ws. a ∷ ws) (q ∙ ap (λ ws. b ∷ ws) r)

-- a line `write`, by its first three words
pub begins : (metas : List MetaData) (line first second third : List ℕ) (a b c : List ℕ) (thread set : ℕ) → words_of line ≡ a ∷ words_of first → words_of first ≡ b ∷ words_of second → words_of second ≡ c ∷ words_of third → verb_named a ≡ Some verb.Write → number_within 0 7 b ≡ Some thread → set_named metas c ≡ Some set → set < length metas → BeginsWrite metas line thread set third
unfolding verb_of
begins metas line first second third a b c thread set p q r is_write of_thread of_set there =
    let ws : words_of line ≡ a ∷ b ∷ c ∷ words_of third = three_words line first second third a b c p q r in
    record {
      is_write = ap (λ l. verb_named (slice_index_or l 0 [])) ws ∙ is_write;
      of_thread = ap (λ l. number_within 0 7 (slice_index_or l 1 [])) ws ∙ of_thread;
      of_set = ap (λ l. set_named metas (slice_index_or l 2 [])) ws ∙ of_set;
      there = there;
      fields = sym (ap (drop 3) ws);
    }

-- none of the faults, each looked at
none_stands : (p : ScriptFault → Bool) → p fault.BadText ≡ false → p fault.LongLine ≡ false → p fault.UnknownWord ≡ false → p fault.BadShape ≡ false → p fault.BadNumber ≡ false → p fault.UnknownName ≡ false → p fault.BadField ≡ false → p fault.BadValue ≡ false → p fault.BadState ≡ false → p fault.TooMany ≡ false → p fault.BadFate ≡ false → p fault.BadAppend ≡ false → find p faults ≡ None
unfolding early_faults
none_stands p a b c d e f g h i j k l =
    next (p fault.BadText) fault.BadText _ a (next (p fault.LongLine) fault.LongLine _ b (next (p fault.UnknownWord) fault.UnknownWord _ c
    (next (p fault.BadShape) fault.BadShape _ d (next (p fault.BadNumber) fault.BadNumber _ e (next (p fault.UnknownName) fault.UnknownName _ f
    (next (p fault.BadField) fault.BadField _ g (next (p fault.BadValue) fault.BadValue _ h (next (p fault.BadState) fault.BadState _ i
    (next (p fault.TooMany) fault.TooMany _ j (next (p fault.BadFate) fault.BadFate _ k (next (p fault.BadAppend) fault.BadAppend _ l refl)))))))))))
  where
    next : (v : Bool) (f : ScriptFault) (rest : Option ScriptFault) → v ≡ false → rest ≡ None → cond v (Some f) rest ≡ None
    next v f rest free none = ap (λ t. cond t (Some f) rest) free ∙ none

none_unknown : (line : List ℕ) → verb_of line ≡ Some verb.Write → has_unknown_word line ≡ false
none_unknown line is =
    ap (λ (v : Option Verb). not (is_idle (word 0 line)) && (is_none v || has_unknown_fate line v)) is
    ∙ and_nothing (not (is_idle (word 0 line)))
  where
    and_nothing : (t : Bool) → (t && false) ≡ false
    and_nothing true = refl
    and_nothing false = refl

-- four words or more, where one stands behind the third
four : (words : List (List ℕ)) → 0 < length (drop 3 words) → nat_le 4 (length words) ≡ true
four words some = le-leb 4 (length words) (omega (arith, length-drop 3 words))

both : (a b : Bool) → a ≡ true → b ≡ true → not (a && b) ≡ false
both a b p q = ap (λ (v : Bool). not (v && b)) p ∙ ap not q

well_shaped : (line fields : List ℕ) → verb_of line ≡ Some verb.Write → words_of fields ≡ field_words line → 0 < length (words_of fields) → list_all is_field_word (words_of fields) ≡ true → is_bad_shape line ≡ false
well_shaped line fields is same some shaped =
    let more : 0 < length (field_words line) = subst (λ (ws : List (List ℕ)). 0 < length ws) same some in
    ap (λ (v : Option Verb). not (option_map_or (has_shape line) v true)) is
    ∙ both (nat_le 4 (count_of line)) (list_all is_field_word (field_words line)) (four (words_of line) more)
    (sym (ap (list_all is_field_word) same) ∙ shaped)

named_meta : (metas : List MetaData) (name : List ℕ) (set : ℕ) (meta : MetaData) → set_named metas name ≡ Some set → slice_get metas set ≡ Some meta → meta_named metas name ≡ Some meta
named_meta metas name set meta named found = ap (option_and_then (slice_get metas)) named ∙ found

few_writes : (writes : ℕ) → writes < 32768 → nat_le 32768 writes ≡ false
few_writes writes few = grind (arith, nat_tests)

-- a line `write` that is judged and read at once has no fault, and does what was read
pub sound_write : (reader : ValueReader) (config : Config) (takes_fates : Bool) (done : Done) (line fields : List ℕ) (thread set : ℕ) (meta : MetaData) (patch : Patch) → is_bad_text line ≡ false → is_long line ≡ false → done.writes < 32768 → BeginsWrite done.metas line thread set fields → slice_get done.metas set ≡ Some meta → GivesPatch reader meta (words_of fields) patch → IsSoundWrite reader config takes_fates done line thread set patch
unfolding stands
sound_write reader config takes_fates done line fields thread set meta patch plain_text short few b found g =
    let named : meta_named done.metas (word 2 line) ≡ Some meta = named_meta done.metas (word 2 line) set meta b.of_set found in
    record {
      is_write = b.is_write;
      faultless =
          none_stands (λ f. stands reader f config takes_fates done line) plain_text short (none_unknown line b.is_write)
          (well_shaped line fields b.is_write b.fields g.some g.shaped)
          (ap (λ (v : Option Verb). not (option_map_or (has_numbers line) v true)) b.is_write ∙ ap (λ (o : Option ℕ). not (is_some o)) b.of_thread)
          (ap (λ (v : Option Verb). not (option_map_or (has_name config done line) v true)) b.is_write ∙ ap (λ (o : Option ℕ). not (is_some o)) b.of_set)
          (ap (is_bad_field done line) b.is_write ∙ ap (λ (o : Option MetaData). option_map_or (has_bad_field_in line) o false) named
          ∙ ap (has_bad_field meta.fields []) (sym b.fields) ∙ g.distinct)
          (ap (is_bad_value reader done line) b.is_write ∙ ap (λ (o : Option MetaData). option_map_or (has_bad_value_in reader line) o false) named
          ∙ ap (list_any (λ (w : List ℕ). is_none (change_of reader meta.quality meta.fields w))) (sym b.fields) ∙ g.valued)
          (ap (is_bad_state config done line) b.is_write) (ap (is_past_limit done) b.is_write ∙ few_writes done.writes few)
          (ap (is_bad_fate takes_fates done line) b.is_write) (ap (is_bad_append config done line) b.is_write);
      acts =
          sym (act_write reader config done.metas line (Some (act.Write thread set patch)) b.is_write
          (wrote reader done.metas line set meta thread patch b.of_set found (sym (ap (λ (o : Option ℕ). unwrap_or o 0) b.of_thread))
          (g.gives ∙ ap (λ (ws : List (List ℕ)). spelled_patch meta.fields (patch_with reader meta.quality meta.fields [] ws)) b.fields)));
    }

-- what a line `write` has done
pub wrote_one : (config : Config) (done : Done) (line : List ℕ) → verb_of line ≡ Some verb.Write → record done { writes = done.writes + 1 } ≡ after config done line
unfolding after
wrote_one config done line is = sym (ap (done_with config done line) is)

-- ---- empty lines and comments

no_verb : (first : List ℕ) → is_idle first ≡ true → verb_named first ≡ None
no_verb [] idle = refl
no_verb (byte ∷ bytes) idle = subst (λ (b : ℕ). verb_named (b ∷ bytes) ≡ None) (sym (eqb-true byte 35 idle)) refl

idle_verb : (line : List ℕ) → is_idle_line line ≡ true → verb_of line ≡ None
unfolding verb_of
idle_verb line idle = no_verb (word 0 line) (and_parts (is_idle (word 0 line)) (not (is_long line) && not (is_bad_text line)) idle).0

true_not : (b : Bool) → not b ≡ true → b ≡ false
true_not true e = sym e
true_not false e = refl

-- such a line has no fault
pub idle_faultless : (reader : ValueReader) (config : Config) (takes_fates : Bool) (done : Done) (line : List ℕ) → is_idle_line line ≡ true → fault_of reader config takes_fates done line ≡ None
unfolding stands
idle_faultless reader config takes_fates done line idle =
    let none : verb_of line ≡ None = idle_verb line idle in
    let parts = and_parts (is_idle (word 0 line)) (not (is_long line) && not (is_bad_text line)) idle in
    let fine = and_parts (not (is_long line)) (not (is_bad_text line)) parts.1 in
    none_stands (λ f. stands reader f config takes_fates done line) (true_not (is_bad_text line) fine.1) (true_not (is_long line) fine.0)
    (ap (λ (b : Bool). not b && (is_none (verb_of line) || has_unknown_fate line (verb_of line))) parts.0)
    (ap (λ (v : Option Verb). not (option_map_or (has_shape line) v true)) none) (ap (λ (v : Option Verb). not (option_map_or (has_numbers line) v true)) none)
    (ap (λ (v : Option Verb). not (option_map_or (has_name config done line) v true)) none)
    (ap (is_bad_field done line) none) (ap (is_bad_value reader done line) none) (ap (is_bad_state config done line) none) (ap (is_past_limit done) none)
    (ap (is_bad_fate takes_fates done line) none) (ap (is_bad_append config done line) none)

-- and has done nothing
pub idle_after : (config : Config) (done : Done) (line : List ℕ) → is_idle_line line ≡ true → done ≡ after config done line
unfolding after
idle_after config done line idle = sym (ap (done_with config done line) (idle_verb line idle))

pub idle_act : (reader : ValueReader) (config : Config) (metas : List MetaData) (line : List ℕ) → is_idle_line line ≡ true → act_of reader config metas line ≡ None
unfolding act_of
idle_act reader config metas line idle = ap (act_by reader config metas line) (idle_verb line idle)
