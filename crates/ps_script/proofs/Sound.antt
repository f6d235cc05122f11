-- What holds of every accepted script.
use Rattle.std.proofs.Common.{◌≡◌, ℕ, zero, suc, ◌+◌, ◌^◌, ◌<◌, ◌≤◌, nat_le, Bool, true, false, List, [], ◌∷◌, ◌++◌, length, take, Option, Some, None, Result, Ok, Err, slice_get, refl, sym, ap, ◌∙◌, subst, arith}
use Rattle.std.specs.Prelude.{All}
use Rattle.std.specs.List.{AllZip, HoldsAt}
use Rattle.std.proofs.Math.Nat.{min-le_right, min-eq_left, min-eq_right}
use Rattle.std.proofs.lemmas.Bool.{leb-true, leb-false}
use Rattle.std.proofs.lemmas.List.{append-nil, append_assoc, take_at, length-replicate, get_or-replicate}
use Rattle.std.proofs.lemmas.List.Elements.{All-weaker}
use Rattle.std.proofs.lemmas.Option.{same_Some, none-some, slice_get_within}
use Rattle.dataset_meta.specs.declared.field.Field.{Field}
use Rattle.dataset_meta.specs.Metas.{IsMeta, MetaData}
use Rattle.ps_config.specs.declared.parts.Config.{Config}
use Rattle.ps_config.specs.declared.parts.GroupPart.{GroupPart}
use Rattle.ps_config.specs.Rooms.{lacks_room}
use Rattle.ps_config.specs.Sound.{IsSound, IsGroup, component_names}
use Rattle.ps_script.specs.declared.fault.ScriptFault.{ScriptFault}
use Rattle.ps_script.specs.declared.script.Line.{Line}
use Rattle.ps_script.specs.declared.script.Act.{Act}
use Rattle.ps_script.specs.declared.script.Act.TheVariants as act
use Rattle.ps_script.specs.declared.script.Script.{Script}
use Rattle.ps_script.specs.Texts.{lines_of}
use Rattle.ps_script.specs.Verbs.{verb_of}
use Rattle.ps_script.specs.Values.{ValueReader}
use Rattle.ps_script.specs.Past.{Done, nothing_done, after}
use Rattle.ps_script.specs.Refusals.{fault_of}
use Rattle.ps_script.specs.Acts.{next_number, with_act, act_of, acts_from}
use Rattle.ps_script.specs.Scripts.{judged_from, judged, script_with, script_by, script}
use Rattle.ps_script.specs.Sessions.{fates_of, metas_behind}
use Rattle.ps_script.specs.Sound.{IsGrown, IsAct, FitConfig, AreFew, AreNumbered, IsScript}
use Rattle.ps_script.proofs.Counts.{few_components, readers_counted}
use Rattle.ps_script.proofs.Below.{Below, below_same, same_length, passes, same_last, grow}
use Rattle.ps_script.proofs.Fine.{Fine, fine, Does, Acts, does, metas_with, of_all}
use Rattle.ps_script.proofs.Telling.{MetaAt, TellsMetas, metas_next, are_behind, TellsEnabled, enabled_next}
use Rattle.ps_script.proofs.Counting.{TellsCounts, counted, TellsFates, fates_next}

pub record Tells (config : Config) (takes_fates : Bool) (full : List MetaData) (before : List Line) (done : Done) : Type 0 where
  pub below : AllZip Below done.metas full
  pub metas : TellsMetas config before done
  pub enabled : TellsEnabled before done
  pub counts : TellsCounts before done
  pub fates : TellsFates takes_fates before done

tells_next : (config : Config) (takes_fates : Bool) (full : List MetaData) (before : List Line) (number : ℕ) (done next : Done) (a : Act) → length (component_names config) ≤ 64 → Does config takes_fates full done next a
    → AllZip Below next.metas full → Tells config takes_fates full before done → Tells config takes_fates full (before ++ record { at = number; act = a } ∷ []) next
tells_next config takes_fates full before number done next a few d zip t = record {
  below = zip;
  metas = metas_next config takes_fates full before number done next a d t.metas;
  enabled = enabled_next config takes_fates full before number done next a few d t.enabled;
  counts = counted config takes_fates full before number done next a d t.counts;
  fates = fates_next config takes_fates full before number done next a d t.fates;
}

-- what a line does is within its limits
is_act : (config : Config) (takes_fates : Bool) (full : List MetaData) (before : List Line) (done next : Done) (a : Act) → length (component_names config) ≤ 64 → Does config takes_fates full done next a
    → Tells config takes_fates full before done → IsAct config full before a
is_act config takes_fates full before done next (act.Write thread set patch) few w t = record {
  bound = w.bound;
  there = w.there;
  of = w.of;
  some = w.some;
  marks = subst (λ (ms : List MetaData). HoldsAt (λ (meta : MetaData). patch.mask < 2 ^ length meta.fields) ms set) (are_behind config full before done t.below t.metas) w.marks;
}
is_act config takes_fates full before done next (act.Tick ms) few w t = w.span
is_act config takes_fates full before done next (act.Enable id) few w t = record { there = w.there; was = sym (t.enabled.each id (omega (arith, few, w.there))) ∙ w.was }
is_act config takes_fates full before done next (act.Disable id) few w t = record { there = w.there; was = sym (t.enabled.each id (omega (arith, few, w.there))) ∙ w.was }
is_act config takes_fates full before done next (act.Fated number fate) few w t = w.is_fated
is_act config takes_fates full before done next (act.Watch thread reader times) few w t =
    record { bound = w.bound; there = subst (λ (n : ℕ). reader < n) (readers_counted config) w.there; looks = w.looks }
is_act config takes_fates full before done next (act.Append set) few w t =
    let lt : set < length done.metas = slice_get_within done.metas set w.meta w.found in
    record { there = subst (λ (n : ℕ). set < n) (sym (same_length done.metas full t.below)) lt; told = w.told }

-- each of these lines, behind the first, and what all have done
pub record AllTell (config : Config) (takes_fates : Bool) (full : List MetaData) (before lines : List Line) (done : Done) : Type 0 where
  pub acts : (k : ℕ) (line : Line) → slice_get lines k ≡ Some line → IsAct config full (before ++ take k lines) line.act
  pub behind : (k : ℕ) → FitConfig config (metas_behind config.dataset full (before ++ take k lines))
  pub last : Tells config takes_fates full (before ++ lines) done

no_more : (k : ℕ) → take {A = Line} k [] ≡ []
no_more zero = refl
no_more (suc k) = refl

fit_behind : (config : Config) (takes_fates : Bool) (full : List MetaData) (before : List Line) (done : Done) → Tells config takes_fates full before done → FitConfig config (metas_behind config.dataset full before)
fit_behind config takes_fates full before done t = subst (FitConfig config) (are_behind config full before done t.below t.metas) t.metas.fit

all_none : (config : Config) (takes_fates : Bool) (full : List MetaData) (before : List Line) (done : Done) → Tells config takes_fates full before done → AllTell config takes_fates full before [] done
all_none config takes_fates full before done t = record {
  acts = λ k line found. absurd (none-some line found);
  behind = λ k.
      subst (λ (ls : List Line). FitConfig config (metas_behind config.dataset full ls)) (sym (ap (λ (ls : List Line). before ++ ls) (no_more k) ∙ append-nil before)) (fit_behind config takes_fates full before done t);
  last = subst (λ (ls : List Line). Tells config takes_fates full ls done) (sym (append-nil before)) t;
}

acts_cons : (config : Config) (full : List MetaData) (before rest : List Line) (first : Line) → IsAct config full before first.act
    → ((k : ℕ) (line : Line) → slice_get rest k ≡ Some line → IsAct config full (before ++ first ∷ [] ++ take k rest) line.act)
    → (k : ℕ) (line : Line) → slice_get (first ∷ rest) k ≡ Some line → IsAct config full (before ++ take k (first ∷ rest)) line.act
acts_cons config full before rest first here later zero line found =
    subst (λ (ls : List Line). IsAct config full ls line.act) (sym (append-nil before)) (subst (λ (l : Line). IsAct config full before l.act) (same_Some first line found) here)
acts_cons config full before rest first here later (suc k) line found =
    subst (λ (ls : List Line). IsAct config full ls line.act) (append_assoc before (first ∷ []) (take k rest)) (later k line found)

behind_cons : (config : Config) (full : List MetaData) (before rest : List Line) (first : Line) → FitConfig config (metas_behind config.dataset full before)
    → ((k : ℕ) → FitConfig config (metas_behind config.dataset full (before ++ first ∷ [] ++ take k rest)))
    → (k : ℕ) → FitConfig config (metas_behind config.dataset full (before ++ take k (first ∷ rest)))
behind_cons config full before rest first here later zero = subst (λ (ls : List Line). FitConfig config (metas_behind config.dataset full ls)) (sym (append-nil before)) here
behind_cons config full before rest first here later (suc k) =
    subst (λ (ls : List Line). FitConfig config (metas_behind config.dataset full ls)) (append_assoc before (first ∷ []) (take k rest)) (later k)

all_cons : (config : Config) (takes_fates : Bool) (full : List MetaData) (before rest : List Line) (first : Line) (done last : Done) → IsAct config full before first.act → Tells config takes_fates full before done
    → AllTell config takes_fates full (before ++ first ∷ []) rest last → AllTell config takes_fates full before (first ∷ rest) last
all_cons config takes_fates full before rest first done last here t all = record {
  acts = acts_cons config full before rest first here all.acts;
  behind = behind_cons config full before rest first (fit_behind config takes_fates full before done t) all.behind;
  last = subst (λ (ls : List Line). Tells config takes_fates full ls last) (append_assoc before (first ∷ []) rest) all.last;
}

line_does : (reader : ValueReader) (config : Config) (takes_fates : Bool) (full : List MetaData) (done : Done) (line : List ℕ) → Fine reader config takes_fates done line (verb_of line)
    → AllZip Below done.metas full → All (λ (meta : MetaData). IsMeta meta.fields) done.metas → All (λ (meta : MetaData). IsMeta meta.fields) full
    → Acts config takes_fates full done (after config done line) (act_of reader config full line)
unfolding after act_of
line_does reader config takes_fates full done line f zip metas wholes = does reader config takes_fates full done line (verb_of line) f zip metas wholes

-- a line, whether it does something or not
all_with : (config : Config) (takes_fates : Bool) (full : List MetaData) (before rest : List Line) (number : ℕ) (done next last : Done) (o : Option Act) → length (component_names config) ≤ 64
    → Acts config takes_fates full done next o → AllZip Below next.metas full → Tells config takes_fates full before done
    → ((ls : List Line) → Tells config takes_fates full ls next → AllTell config takes_fates full ls rest last) → AllTell config takes_fates full before (with_act number o rest) last
all_with config takes_fates full before rest number done next last None few d zip t later = later before (subst (Tells config takes_fates full before) (sym d) t)
all_with config takes_fates full before rest number done next last (Some a) few d zip t later =
    all_cons config takes_fates full before rest (record { at = number; act = a }) done last (is_act config takes_fates full before done next a few d t) t
    (later (before ++ record { at = number; act = a } ∷ []) (tells_next config takes_fates full before number done next a few d zip t))

all_lines : (reader : ValueReader) (config : Config) (takes_fates : Bool) (done last : Done) (before : List Line) (number : ℕ) (lines : List (List ℕ)) → length (component_names config) ≤ 64
    → judged_from reader config takes_fates done number lines ≡ Ok last → All (λ (meta : MetaData). IsMeta meta.fields) last.metas → Tells config takes_fates last.metas before done
    → AllTell config takes_fates last.metas before (acts_from reader config last.metas number lines) last
all_lines reader config takes_fates done last before number [] few e wholes t =
    subst (AllTell config takes_fates last.metas before []) (same_last done last e) (all_none config takes_fates last.metas before done t)
all_lines reader config takes_fates done last before number (line ∷ lines) few e wholes t =
    let next : Done = after config done line in
    let p = passes number (fault_of reader config takes_fates done line) (judged_from reader config takes_fates next (next_number number) lines) last e in
    let f = fine reader config takes_fates done line p.0 in
    all_with config takes_fates last.metas before (acts_from reader config last.metas (next_number number) lines) number done next last (act_of reader config last.metas line) few
    (line_does reader config takes_fates last.metas done line f t.below t.metas.fit.each wholes)
    (grow reader config takes_fates next last (next_number number) lines p.1) t
    (λ ls tells. all_lines reader config takes_fates next last ls (next_number number) lines few p.1 wholes tells)

metas_behind_line : (reader : ValueReader) (config : Config) (takes_fates : Bool) (done : Done) (line : List ℕ) → Fine reader config takes_fates done line (verb_of line)
    → All (λ (meta : MetaData). IsMeta meta.fields) done.metas → All (λ (meta : MetaData). IsMeta meta.fields) (after config done line).metas
unfolding after
metas_behind_line reader config takes_fates done line f metas = metas_with reader config takes_fates done line (verb_of line) f metas

all_metas : (reader : ValueReader) (config : Config) (takes_fates : Bool) (done last : Done) (number : ℕ) (lines : List (List ℕ)) → judged_from reader config takes_fates done number lines ≡ Ok last
    → All (λ (meta : MetaData). IsMeta meta.fields) done.metas → All (λ (meta : MetaData). IsMeta meta.fields) last.metas
all_metas reader config takes_fates done last number [] e metas = subst (λ (d : Done). All (λ (m : MetaData). IsMeta m.fields) d.metas) (same_last done last e) metas
all_metas reader config takes_fates done last number (line ∷ lines) e metas =
    let next : Done = after config done line in
    let p = passes number (fault_of reader config takes_fates done line) (judged_from reader config takes_fates next (next_number number) lines) last e in
    all_metas reader config takes_fates next last (next_number number) lines p.1 (metas_behind_line reader config takes_fates done line (fine reader config takes_fates done line p.0) metas)

-- ---- before the first line

more_none : (n : ℕ) → n ≡ n + 0
more_none n = omega arith

first_meta : (set : ℕ) (configured meta : MetaData) (metas : List MetaData) → slice_get metas set ≡ Some configured → slice_get metas set ≡ Some meta → MetaAt [] set configured meta
first_meta set configured meta metas here there =
    let same : configured ≡ meta = same_Some configured meta (sym here ∙ there) in
    subst (MetaAt [] set configured) same (record { count = more_none (length configured.fields); minor = more_none configured.minor; below = below_same configured })

room_of : (config : Config) (group : GroupPart) → IsGroup config group → lacks_room config.publisher.id config.dataset group ≡ false
room_of config group g = g.room

pub fit_configured : (config : Config) → IsSound config → FitConfig config config.dataset
fit_configured config sound = record {
  each = sound.metas;
  room = All-weaker (IsGroup config) (λ (g : GroupPart). lacks_room config.publisher.id config.dataset g ≡ false) (room_of config) config.group sound.groups;
}

zero_le : (n : ℕ) → 0 ≤ n
zero_le n = omega arith

nothing_tells : (config : Config) (takes_fates : Bool) (full : List MetaData) → IsSound config → AllZip Below (nothing_done config).metas full → Tells config takes_fates full [] (nothing_done config)
unfolding nothing_done
nothing_tells config takes_fates full sound zip = record {
  below = zip;
  metas = record {
    sets = refl;
    metas = λ set configured meta here there. first_meta set configured meta config.dataset here there;
    fit = fit_configured config sound;
  };
  enabled = record { room = length-replicate 64 true; each = λ id lt. get_or-replicate 64 id true true lt };
  counts = record {
    ticks = record { told = refl; few = zero_le 4096 };
    writes = record { told = refl; few = zero_le 32768 };
    watches = record { told = refl; few = zero_le 64 };
    appends = record { told = refl; few = zero_le 16 };
  };
  fates = record { are = tt; same = λ k. refl; told = refl; few = zero_le 256; none = λ e. refl };
}

nothing_metas : (config : Config) → IsSound config → All (λ (meta : MetaData). IsMeta meta.fields) (nothing_done config).metas
unfolding nothing_done
nothing_metas config sound = sound.metas

-- ---- the numbers of lines

next_by : (least number : ℕ) (b : Bool) → nat_le (number + 1) 4294967295 ≡ b → least ≤ number → number ≤ 4294967295 → least ≤ next_number number
next_by least number true e le most =
    let below : number + 1 ≤ 4294967295 = leb-true (number + 1) 4294967295 e in
    let more : least ≤ number + 1 = omega (arith, le) in
    subst (λ (n : ℕ). least ≤ n) (sym (min-eq_left below)) more
next_by least number false e le most =
    let past : 4294967295 < number + 1 = leb-false (number + 1) 4294967295 e in
    let end : 4294967295 ≤ number + 1 = omega (arith, past) in
    let more : least ≤ 4294967295 = omega (arith, le, most) in
    subst (λ (n : ℕ). least ≤ n) (sym (min-eq_right end)) more

numbered_with : (least number : ℕ) (o : Option Act) (rest : List Line) → least ≤ number → number ≤ 4294967295 → ((next : ℕ) → next ≤ next_number number → AreNumbered next rest)
    → AreNumbered least (with_act number o rest)
numbered_with least number None rest le most later = later least (next_by least number (nat_le (number + 1) 4294967295) refl le most)
numbered_with least number (Some a) rest le most later = let same : next_number number ≤ next_number number = omega arith in (le, later (next_number number) same)

numbered : (reader : ValueReader) (config : Config) (metas : List MetaData) (least number : ℕ) (lines : List (List ℕ)) → least ≤ number → number ≤ 4294967295
    → AreNumbered least (acts_from reader config metas number lines)
numbered reader config metas least number [] le most = tt
numbered reader config metas least number (line ∷ lines) le most =
    numbered_with least number (act_of reader config metas line) (acts_from reader config metas (next_number number) lines) le most
    (λ next small. numbered reader config metas next (next_number number) lines small (min-le_right (number + 1) 4294967295))

from_one : (reader : ValueReader) (config : Config) (metas : List MetaData) (lines : List (List ℕ)) → AreNumbered 1 (acts_from reader config metas 1 lines)
from_one reader config metas lines =
    let least : 1 ≤ 1 = omega arith in
    let most : 1 ≤ 4294967295 = omega arith in
    numbered reader config metas 1 1 lines least most

-- ---- the script

grown_of : (set : ℕ) (lines : List Line) (configured full : MetaData) → MetaAt lines set configured full → IsMeta full.fields → IsGrown set lines configured full
grown_of set lines configured full m is = record {
  name = m.below.name;
  major = m.below.major;
  minor = m.minor;
  count = m.count;
  grown = record {
    fields = sym (ap (λ (fs : List Field). take (length configured.fields) fs) m.below.fields ∙ take_at configured.fields m.below.more (length configured.fields) refl);
    quality = sym m.below.quality;
    major = sym m.below.major;
  };
  is_meta = is;
}

few_of : (lines : List Line) (takes_fates : Bool) (done : Done) → TellsCounts lines done → TellsFates takes_fates lines done → AreFew lines
few_of lines takes_fates done c f = record {
  ticks = subst (λ (n : ℕ). n ≤ 4096) (sym c.ticks.told) c.ticks.few;
  writes = subst (λ (n : ℕ). n ≤ 32768) (sym c.writes.told) c.writes.few;
  fates = subst (λ (n : ℕ). n ≤ 256) (sym f.told) f.few;
  watches = subst (λ (n : ℕ). n ≤ 64) (sym c.watches.told) c.watches.few;
  appends = subst (λ (n : ℕ). n ≤ 16) (sym c.appends.told) c.appends.few;
}

script_of : (config : Config) (takes_fates : Bool) (lines : List Line) (last : Done) → All (λ (meta : MetaData). IsMeta meta.fields) last.metas → AllTell config takes_fates last.metas [] lines last → AreNumbered 1 lines
    → IsScript config (record { lines = lines; metas = last.metas })
script_of config takes_fates lines last wholes all numbers = record {
  sets = all.last.metas.sets;
  metas = λ set configured full here there.
      grown_of set lines configured full (all.last.metas.metas set configured full here there) (of_all (λ (m : MetaData). IsMeta m.fields) last.metas set full wholes there);
  acts = all.acts;
  behind = all.behind;
  few = few_of lines takes_fates last all.last.counts all.last.fates;
  numbers = numbers;
  fates = all.last.fates.are;
}

judged_tells : (reader : ValueReader) (config : Config) (takes_fates : Bool) (bytes : List ℕ) (last : Done) → IsSound config → judged reader config takes_fates bytes ≡ Ok last
    → AllTell config takes_fates last.metas [] (acts_from reader config last.metas 1 (lines_of bytes)) last
unfolding judged
judged_tells reader config takes_fates bytes last sound e =
    all_lines reader config takes_fates (nothing_done config) last [] 1 (lines_of bytes) (few_components config sound) e
    (all_metas reader config takes_fates (nothing_done config) last 1 (lines_of bytes) e (nothing_metas config sound))
    (nothing_tells config takes_fates last.metas sound (grow reader config takes_fates (nothing_done config) last 1 (lines_of bytes) e))

judged_metas : (reader : ValueReader) (config : Config) (takes_fates : Bool) (bytes : List ℕ) (last : Done) → IsSound config → judged reader config takes_fates bytes ≡ Ok last → All (λ (meta : MetaData). IsMeta meta.fields) last.metas
unfolding judged
judged_metas reader config takes_fates bytes last sound e = all_metas reader config takes_fates (nothing_done config) last 1 (lines_of bytes) e (nothing_metas config sound)

same_script : (one other : Script) → ◌≡◌ {A = Result Script (ℕ × ScriptFault)} (Ok one) (Ok other) → one ≡ other
same_script one other e = cc

sound_by : (reader : ValueReader) (config : Config) (takes_fates : Bool) (bytes : List ℕ) (judgement : Result Done (ℕ × ScriptFault)) (found : Script) → IsSound config → judged reader config takes_fates bytes ≡ judgement
    → script_by reader config bytes judgement ≡ Ok found → IsScript config found
unfolding script_with
sound_by reader config takes_fates bytes (Ok last) found sound is e =
    subst (IsScript config) (same_script (script_with reader config bytes last.metas) found e)
    (script_of config takes_fates (acts_from reader config last.metas 1 (lines_of bytes)) last (judged_metas reader config takes_fates bytes last sound is) (judged_tells reader config takes_fates bytes last sound is)
    (from_one reader config last.metas (lines_of bytes)))
sound_by reader config takes_fates bytes (Err end) found sound is e = let bad : ⊥ = cc in absurd bad

pub sound_script : (reader : ValueReader) (config : Config) (bytes : List ℕ) (takes_fates : Bool) (found : Script) → IsSound config → script reader config bytes takes_fates ≡ Ok found → IsScript config found
sound_script reader config bytes takes_fates found sound e = sound_by reader config takes_fates bytes (judged reader config takes_fates bytes) found sound refl e

fateless_by : (reader : ValueReader) (config : Config) (bytes : List ℕ) (judgement : Result Done (ℕ × ScriptFault)) (found : Script) → IsSound config → judged reader config false bytes ≡ judgement
    → script_by reader config bytes judgement ≡ Ok found → fates_of found.lines ≡ []
unfolding script_with
fateless_by reader config bytes (Ok last) found sound is e =
    subst (λ (s : Script). fates_of s.lines ≡ []) (same_script (script_with reader config bytes last.metas) found e) ((judged_tells reader config false bytes last sound is).last.fates.none refl)
fateless_by reader config bytes (Err end) found sound is e = let bad : ⊥ = cc in absurd bad

pub fateless_script : (reader : ValueReader) (config : Config) (bytes : List ℕ) (found : Script) → IsSound config → script reader config bytes false ≡ Ok found → fates_of found.lines ≡ []
fateless_script reader config bytes found sound e = fateless_by reader config bytes (judged reader config false bytes) found sound refl e
