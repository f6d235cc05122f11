-- The samples of a played script: each is that of the writes before it, so versions rise, and each has its row of the script's histories.
use Rattle.std.proofs.Common.{◌≡◌, refl, sym, ap, ◌∙◌, subst, arith, ℕ, ◌<◌, ◌≤◌, ◌==◌, ◌⊎◌, inl, inr, Bool, true, false, if◌then◌else◌, List, [], ◌∷◌, ◌++◌, length, reverse, take, get_or}
use Rattle.std.proofs.lemmas.Bool.{cases_lt}
use Rattle.std.proofs.lemmas.List.{get_or_past, take_at}
use Rattle.std.proofs.lemmas.List.FromFn.{length-map-range_with_len, get_or-map-range_with_len}
use Rattle.std.proofs.lemmas.Option.{slice_get-get_or}
use Rattle.dataset_meta.specs.declared.field.Field.{Field}
use Rattle.dataset_meta.specs.Metas.{MetaData, IsMeta, no_meta}
use Rattle.row_words.specs.Belonging.{row_in}
use Rattle.pubsub_model.specs.History.{row_of}
use Rattle.ua_base.specs.Journal.{Entry as LinkEntry}
use Rattle.version_cell.specs.declared.rule.Entry.{Entry}
use Rattle.version_cell.proofs.Logs.{starts_itself, starts_length, starts_trans}
use Rattle.version_cell.specs.Histories.{StartsWith, entry, history_of, row_after}
use Rattle.row_words.specs.Patches.{patched_words}
use Rattle.ps_config.specs.declared.parts.Config.{Config}
use Rattle.ps_report.specs.declared.closed.WatchEnd.{WatchEnd}
use Rattle.ps_script.specs.declared.script.Act.{Act}
use Rattle.ps_script.specs.declared.script.Act.TheVariants as act
use Rattle.ps_script.specs.declared.script.Line.{Line}
use Rattle.ps_script.specs.declared.script.Script.{Script}
use Rattle.ps_script.specs.Sound.{IsScript, IsGrown}
use Rattle.writer_group.specs.declared.sampled.Sampled.{Sampled}
use Rattle.writer_group.specs.Turns.{no_sample}
use Rattle.session_model.specs.Steps.{Plan, Step, Enable, Disable, Append, Tick, Pump}
use Rattle.session_model.specs.Sets.{meta_in, metas_at}
use Rattle.session_laws.specs.Sessions.{HasSample, SamplesRise, AreVersions}
use Rattle.script_player.specs.Playing.{IsLineBy, IsPlayed, IsTickedBy, log_after, samples_after, with_write}
use Rattle.script_player.specs.Plays.{plan_by, row_written}

-- the rows of a history's versions, as `version_cell` has the law
abbrev pub HistoriesHaveRows : Type 0
HistoriesHaveRows =
    (fields : List Field) (log : List Entry) (version : ℕ) → IsMeta fields → version ≤ length log
    → row_of fields (history_of fields log) version ≡ row_in fields (row_after (take version log))

-- ---- logs grow at their ends

starts-if : (b : Bool) (log : List Entry) (e : Entry) → StartsWith (if b then log ++ e ∷ [] else log) log
starts-if true log e = (e ∷ [], refl)
starts-if false log e = starts_itself log

pub starts-with-write : (meta : MetaData) (set : ℕ) (log : List Entry) (a : Act) → StartsWith (with_write meta set log a) log
starts-with-write meta set log (act.Write thread other patch) = starts-if (other == set) log (entry thread (patched_words meta.fields patch (row_after log)))
starts-with-write meta set log (act.Tick ms) = starts_itself log
starts-with-write meta set log (act.Enable id) = starts_itself log
starts-with-write meta set log (act.Disable id) = starts_itself log
starts-with-write meta set log (act.Fated k fate) = starts_itself log
starts-with-write meta set log (act.Watch thread reader times) = starts_itself log
starts-with-write meta set log (act.Append other) = starts_itself log

pub starts-taken : (log seen : List Entry) → StartsWith log seen → take (length seen) log ≡ seen
starts-taken log seen (rest, whole) = ap (take (length seen)) whole ∙ take_at seen rest (length seen) refl

-- ---- what a sample is

abbrev sample_of : List Entry → Sampled
sample_of log = record { row = record { words = row_after log }; version = length log }

-- the sample of a data set that some of these lines leave, or of no data set
record IsSampleBehind (full : List MetaData) (lines : List Line) (index : ℕ) (sample : Sampled) : Type 0 where
  log : List Entry
  starts : StartsWith (log_after (meta_in full index) index lines) log
  made : index < length full → sample ≡ sample_of log
  none : length full ≤ index → sample ≡ no_sample

sampled-at : (full : List MetaData) (lines : List Line) (index : ℕ) → index < length full
    → get_or (samples_after full lines) index no_sample ≡ sample_of (log_after (meta_in full index) index lines)
sampled-at full lines index there =
    get_or-map-range_with_len (λ (set : ℕ). sample_of (log_after (meta_in full set) set lines)) 0 (length full) index index no_sample there (omega arith)

sampled-past : (full : List MetaData) (lines : List Line) (index : ℕ) → length full ≤ index → get_or (samples_after full lines) index no_sample ≡ no_sample
sampled-past full lines index past =
    get_or_past (samples_after full lines) index no_sample
    (omega (arith, length-map-range_with_len (λ (set : ℕ). sample_of (log_after (meta_in full set) set lines)) 0 (length full)))

sampled-now : (full : List MetaData) (lines : List Line) (index : ℕ) (sample : Sampled) → get_or (samples_after full lines) index no_sample ≡ sample
    → IsSampleBehind full lines index sample
sampled-now full lines index sample same = record {
  log = log_after (meta_in full index) index lines;
  starts = starts_itself (log_after (meta_in full index) index lines);
  made = λ there. sym same ∙ sampled-at full lines index there;
  none = λ past. sym same ∙ sampled-past full lines index past;
}

sampled-before : (full : List MetaData) (line : Line) (before : List Line) (index : ℕ) (sample : Sampled) → IsSampleBehind full before index sample
    → IsSampleBehind full (line ∷ before) index sample
sampled-before full line before index sample is = record {
  log = is.log;
  starts =
      let log : List Entry = log_after (meta_in full index) index before in
      starts_trans (with_write (meta_in full index) index log line.act) log is.log (starts-with-write (meta_in full index) index log line.act) is.starts;
  made = is.made;
  none = is.none;
}

-- a sample of these lines isn't older than one that some of them left
sampled-later : (full : List MetaData) (lines : List Line) (index : ℕ) (sample : Sampled) → IsSampleBehind full lines index sample
    → sample.version ≤ (get_or (samples_after full lines) index no_sample).version
sampled-later full lines index sample is = go (cases_lt index (length full))
  where
    go : (index < length full) ⊎ (length full ≤ index) → sample.version ≤ (get_or (samples_after full lines) index no_sample).version
    go (inl there) =
        let mine : sample.version ≡ length is.log = ap (λ (s : Sampled). s.version) (is.made there) in
        let now : (get_or (samples_after full lines) index no_sample).version ≡ length (log_after (meta_in full index) index lines) =
        ap (λ (s : Sampled). s.version) (sampled-at full lines index there) in
        let few : length is.log ≤ length (log_after (meta_in full index) index lines) = starts_length (log_after (meta_in full index) index lines) is.log is.starts in
        omega arith
    go (inr past) =
        let mine : sample.version ≡ 0 = ap (λ (s : Sampled). s.version) (is.none past) in
        omega arith

-- ---- the samples of steps

AllBehind : Plan → List Line → List Step → Type 0
AllBehind p lines steps = (index : ℕ) (now : MetaData) (sample : Sampled) → HasSample p steps index now sample → IsSampleBehind p.full lines index sample

behind-use : (p : Plan) (lines : List Line) (steps : List Step) (index : ℕ) (now : MetaData) (sample : Sampled) → AllBehind p lines steps → HasSample p steps index now sample
    → IsSampleBehind p.full lines index sample
unfolding AllBehind
behind-use p lines steps index now sample all has = all index now sample has

behind-none : (p : Plan) (lines : List Line) → AllBehind p lines []
unfolding AllBehind
behind-none p lines = λ index now sample has. absurd has

behind-more : (p : Plan) (line : Line) (before : List Line) (steps : List Step) → AllBehind p before steps → AllBehind p (line ∷ before) steps
unfolding AllBehind
behind-more p line before steps all = λ index now sample has. sampled-before p.full line before index sample (all index now sample has)

behind-enabled : (p : Plan) (lines : List Line) (earlier : List Step) (id : ℕ) → AllBehind p lines earlier → AllBehind p lines (Enable id ∷ earlier)
unfolding AllBehind
behind-enabled p lines earlier id all = all

behind-disabled : (p : Plan) (lines : List Line) (earlier : List Step) (id : ℕ) → AllBehind p lines earlier → AllBehind p lines (Disable id ∷ earlier)
unfolding AllBehind
behind-disabled p lines earlier id all = all

behind-appended : (p : Plan) (lines : List Line) (earlier : List Step) (set : ℕ) (field : Field) → AllBehind p lines earlier → AllBehind p lines (Append set field ∷ earlier)
unfolding AllBehind
behind-appended p lines earlier set field all = all

behind-ticked : (p : Plan) (lines : List Line) (earlier : List Step) (ms : ℕ) (closing : Bool) (done : List Bool) (entries : List LinkEntry) → AllBehind p lines earlier
    → AllBehind p lines (Pump entries ∷ Tick ms closing (samples_after p.full lines) done ∷ earlier)
unfolding AllBehind
behind-ticked p lines earlier ms closing done entries all = λ index now sample has. go index now sample has
  where
    go : (index : ℕ) (now : MetaData) (sample : Sampled)
        → ((get_or (samples_after p.full lines) index no_sample ≡ sample) × (meta_in (metas_at p.config earlier) index ≡ now)) ⊎ HasSample p earlier index now sample
        → IsSampleBehind p.full lines index sample
    go index now sample (inl here) = sampled-now p.full lines index sample here.0
    go index now sample (inr has) = all index now sample has

-- ---- played lines

-- what holds of the steps of played lines
record HaveSamples (p : Plan) (lines : List Line) (steps : List Step) : Type 0 where
  behind : AllBehind p lines steps
  rise : SamplesRise p steps

-- a tick with the sample of these lines, and its pump
have-ticked : (p : Plan) (lines : List Line) (ms : ℕ) (closing : Bool) (earlier steps : List Step) → HaveSamples p lines earlier → IsTickedBy p lines ms closing earlier steps
    → HaveSamples p lines steps
have-ticked p lines ms closing earlier steps have (done, entries, same) =
    subst (HaveSamples p lines) (sym same)
    (record {
      behind = behind-ticked p lines earlier ms closing done entries have.behind;
      rise = (λ index now sample has. sampled-later p.full lines index sample (behind-use p lines earlier index now sample have.behind has), have.rise);
    })

have-line : (p : Plan) (before : List Line) (a : Act) (earlier steps : List Step) (looked looks : List WatchEnd) → HaveSamples p before earlier
    → IsLineBy p before a earlier steps looked looks → HaveSamples p before steps
have-line p before (act.Write thread set patch) earlier steps looked looks have (same, _) = subst (HaveSamples p before) (sym same) have
have-line p before (act.Tick ms) earlier steps looked looks have (ticked, _) = have-ticked p before ms false earlier steps have ticked
have-line p before (act.Enable id) earlier steps looked looks have (same, _) =
    subst (HaveSamples p before) (sym same) (record { behind = behind-enabled p before earlier id have.behind; rise = have.rise })
have-line p before (act.Disable id) earlier steps looked looks have (same, _) =
    subst (HaveSamples p before) (sym same) (record { behind = behind-disabled p before earlier id have.behind; rise = have.rise })
have-line p before (act.Fated k fate) earlier steps looked looks have (same, _) = subst (HaveSamples p before) (sym same) have
have-line p before (act.Watch thread reader times) earlier steps looked looks have (same, _) = subst (HaveSamples p before) (sym same) have
have-line p before (act.Append set) earlier steps looked looks have ((field, same), _) =
    subst (HaveSamples p before) (sym same) (record { behind = behind-appended p before earlier set field have.behind; rise = have.rise })

have-played : (p : Plan) (lines : List Line) (steps : List Step) (looks : List WatchEnd) → IsPlayed p lines steps looks → HaveSamples p lines steps
have-played p [] steps looks (none, _) = subst (HaveSamples p []) (sym none) (record { behind = behind-none p []; rise = tt })
have-played p (line ∷ before) steps looks (earlier, looked, played, by) =
    let have : HaveSamples p before steps = have-line p before line.act earlier steps looked looks (have-played p before earlier looked played) by in
    record { behind = behind-more p line before steps have.behind; rise = have.rise }

-- ---- rows

-- the fields of a script's data sets make metas
pub script-meta : (config : Config) (script : Script) (index : ℕ) → IsScript config script → index < length script.metas → IsMeta (meta_in script.metas index).fields
script-meta config script index is there =
    let few : index < length config.dataset = omega (arith, is.sets) in
    let grown : IsGrown index script.lines (meta_in config.dataset index) (meta_in script.metas index) =
    is.metas index (meta_in config.dataset index) (meta_in script.metas index)
    (slice_get-get_or config.dataset index no_meta few) (slice_get-get_or script.metas index no_meta there) in
    grown.is_meta

-- no data set has a row
pub no-row : (words : List ℕ) → row_in no_meta.fields words ≡ []
unfolding row_in
no-row words = refl

version-at : (config : Config) (script : Script) (index : ℕ) (sample : Sampled) → HistoriesHaveRows → IsScript config script → index < length script.metas
    → IsSampleBehind script.metas (reverse script.lines) index sample → row_in (meta_in script.metas index).fields sample.row.words ≡ row_written script index sample.version
version-at config script index sample rows is there behind =
    let fields : List Field = (meta_in script.metas index).fields in
    let log : List Entry = log_after (meta_in script.metas index) index (reverse script.lines) in
    ap (λ (s : Sampled). row_in fields s.row.words) (behind.made there)
    ∙ ap (λ (seen : List Entry). row_in fields (row_after seen)) (sym (starts-taken log behind.log behind.starts))
    ∙ sym (rows fields log (length behind.log) (script-meta config script index is there) (starts_length log behind.log behind.starts))
    ∙ ap (λ (s : Sampled). row_written script index s.version) (sym (behind.made there))

version-past : (script : Script) (index : ℕ) (sample : Sampled) → length script.metas ≤ index → IsSampleBehind script.metas (reverse script.lines) index sample
    → row_in (meta_in script.metas index).fields sample.row.words ≡ row_written script index sample.version
version-past script index sample past behind =
    let none : meta_in script.metas index ≡ no_meta = get_or_past script.metas index no_meta past in
    ap (λ (meta : MetaData). row_in meta.fields sample.row.words) none
    ∙ no-row sample.row.words
    ∙ ap (λ (meta : MetaData). row_of meta.fields (history_of meta.fields (log_after meta index (reverse script.lines))) 0) (sym none)
    ∙ ap (λ (s : Sampled). row_written script index s.version) (sym (behind.none past))

are-versions : (config : Config) (script : Script) (steps : List Step) → HistoriesHaveRows → IsScript config script
    → AllBehind (plan_by config script) (reverse script.lines) steps → AreVersions (plan_by config script) steps (row_written script)
are-versions config script steps rows is all = λ index now sample has. go index sample (behind-use (plan_by config script) (reverse script.lines) steps index now sample all has) (cases_lt index (length script.metas))
  where
    go : (index : ℕ) (sample : Sampled) → IsSampleBehind script.metas (reverse script.lines) index sample → (index < length script.metas) ⊎ (length script.metas ≤ index)
        → row_in (meta_in script.metas index).fields sample.row.words ≡ row_written script index sample.version
    go index sample behind (inl there) = version-at config script index sample rows is there behind
    go index sample behind (inr past) = version-past script index sample past behind

-- versions rise, and each sample has the row of its version
pub headline : (config : Config) (script : Script) (earlier steps : List Step) (looks : List WatchEnd) → IsScript config script
    → IsPlayed (plan_by config script) (reverse script.lines) earlier looks → IsTickedBy (plan_by config script) (reverse script.lines) 0 true earlier steps → HistoriesHaveRows
    → SamplesRise (plan_by config script) steps × AreVersions (plan_by config script) steps (row_written script)
headline config script earlier steps looks is played ticked rows =
    let p : Plan = plan_by config script in
    let have : HaveSamples p (reverse script.lines) steps =
    have-ticked p (reverse script.lines) 0 true earlier steps (have-played p (reverse script.lines) earlier looks played) ticked in
    (have.rise, are-versions config script steps rows is have.behind)
