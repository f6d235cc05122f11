-- The samples of a run: each is that of a version of its data set's history, and so has this version's row.
use Rattle.std.proofs.Common.{◌≡◌, ℕ, ◌<◌, ◌≤◌, ◌⊎◌, inl, inr, Bool, true, false, List, [], ◌∷◌, length, reverse, get_or, sym, ap, ◌∙◌, subst, arith}
use Rattle.std.proofs.lemmas.Bool.{cases_lt}
use Rattle.std.proofs.lemmas.List.{get_or_past}
use Rattle.std.proofs.lemmas.List.FromFn.{get_or-map-range_with_len, length-map-range_with_len}
use Rattle.dataset_meta.specs.declared.field.Field.{Field}
use Rattle.dataset_meta.specs.Metas.{MetaData, no_meta}
use Rattle.row_words.specs.Belonging.{row_in}
use Rattle.pubsub_model.specs.History.{Written as WrittenRow, row_of}
use Rattle.ua_base.specs.Journal.{Entry as LinkEntry}
use Rattle.version_cell.specs.declared.rule.Entry.{Entry}
use Rattle.app_threads.specs.Closing.{threads_of}
use Rattle.ps_config.specs.declared.parts.Config.{Config}
use Rattle.ps_script.specs.declared.script.Act.{Act}
use Rattle.ps_script.specs.declared.script.Act.TheVariants as act
use Rattle.ps_script.specs.declared.script.Line.{Line}
use Rattle.ps_script.specs.declared.script.Script.{Script}
use Rattle.ps_script.specs.Sound.{IsScript}
use Rattle.writer_group.specs.declared.sampled.Sampled.{Sampled}
use Rattle.writer_group.specs.Turns.{no_sample}
use Rattle.session_model.specs.Steps.{Plan, Step, Enable, Disable, Append, Tick, Pump}
use Rattle.session_model.specs.Sets.{meta_in, metas_at}
use Rattle.session_laws.specs.Sessions.{AreVersions, HasSample}
use Rattle.script_player.specs.Plays.{plan_by}
use Rattle.script_player.proofs.Headline.{HistoriesHaveRows, no-row, script-meta}
use Rattle.script_runner.specs.Legal.{IsLegalLog, history_by, row_made}
use Rattle.script_runner.specs.Running.{AreWithin, IsLineRun, IsRunBy, IsTickedAt, Logs, Versions, sample_at, samples_at}

-- the sample of a version of the data set, or none where there is no such data set
record IsVersionOf (sets : ℕ) (logs : Logs) (index : ℕ) (sample : Sampled) : Type 0 where
  version : ℕ
  within : index < sets → version ≤ length (logs index)
  made : index < sets → sample ≡ sample_at (logs index) version
  none : sets ≤ index → sample ≡ no_sample

version-now : (sets : ℕ) (logs : Logs) (versions : Versions) (index : ℕ) (sample : Sampled) → AreWithin sets logs versions
    → get_or (samples_at sets logs versions) index no_sample ≡ sample → IsVersionOf sets logs index sample
version-now sets logs versions index sample within same = record {
  version = versions index;
  within = within index;
  made = λ there. sym same ∙ get_or-map-range_with_len (λ (set : ℕ). sample_at (logs set) (versions set)) 0 sets index index no_sample there (omega arith);
  none = λ past. sym same
      ∙ get_or_past (samples_at sets logs versions) index no_sample
      (let n = length-map-range_with_len (λ (set : ℕ). sample_at (logs set) (versions set)) 0 sets in omega (arith, n, past));
}

-- ---- the samples of steps

HaveVersions : Plan → Logs → List Step → Type 0
HaveVersions p logs steps = (index : ℕ) (now : MetaData) (sample : Sampled) → HasSample p steps index now sample → IsVersionOf (length p.full) logs index sample

versions-use : (p : Plan) (logs : Logs) (steps : List Step) (index : ℕ) (now : MetaData) (sample : Sampled) → HaveVersions p logs steps → HasSample p steps index now sample
    → IsVersionOf (length p.full) logs index sample
unfolding HaveVersions
versions-use p logs steps index now sample all has = all index now sample has

versions-none : (p : Plan) (logs : Logs) → HaveVersions p logs []
unfolding HaveVersions
versions-none p logs = λ index now sample has. absurd has

versions-enabled : (p : Plan) (logs : Logs) (earlier : List Step) (id : ℕ) → HaveVersions p logs earlier → HaveVersions p logs (Enable id ∷ earlier)
unfolding HaveVersions
versions-enabled p logs earlier id all = all

versions-disabled : (p : Plan) (logs : Logs) (earlier : List Step) (id : ℕ) → HaveVersions p logs earlier → HaveVersions p logs (Disable id ∷ earlier)
unfolding HaveVersions
versions-disabled p logs earlier id all = all

versions-appended : (p : Plan) (logs : Logs) (earlier : List Step) (set : ℕ) (field : Field) → HaveVersions p logs earlier → HaveVersions p logs (Append set field ∷ earlier)
unfolding HaveVersions
versions-appended p logs earlier set field all = all

versions-sampled : (p : Plan) (logs : Logs) (versions : Versions) (earlier : List Step) (ms : ℕ) (closing : Bool) (done : List Bool) (entries : List LinkEntry)
    → AreWithin (length p.full) logs versions → HaveVersions p logs earlier
    → HaveVersions p logs (Pump entries ∷ Tick ms closing (samples_at (length p.full) logs versions) done ∷ earlier)
unfolding HaveVersions
versions-sampled p logs versions earlier ms closing done entries within all = λ index now sample has. go index now sample has
  where
    go : (index : ℕ) (now : MetaData) (sample : Sampled)
        → ((get_or (samples_at (length p.full) logs versions) index no_sample ≡ sample) × (meta_in (metas_at p.config earlier) index ≡ now)) ⊎ HasSample p earlier index now sample
        → IsVersionOf (length p.full) logs index sample
    go index now sample (inl here) = version-now (length p.full) logs versions index sample within here.0
    go index now sample (inr has) = all index now sample has

versions-ticked : (p : Plan) (logs : Logs) (versions : Versions) (ms : ℕ) (closing : Bool) (earlier steps : List Step) → AreWithin (length p.full) logs versions
    → HaveVersions p logs earlier → IsTickedAt p logs versions ms closing earlier steps → HaveVersions p logs steps
versions-ticked p logs versions ms closing earlier steps within have (done, entries, same) =
    subst (HaveVersions p logs) (sym same) (versions-sampled p logs versions earlier ms closing done entries within have)

-- ---- the lines that were run

versions-line : (p : Plan) (logs : Logs) (a : Act) (earlier steps : List Step) → HaveVersions p logs earlier → IsLineRun p logs a earlier steps → HaveVersions p logs steps
versions-line p logs (act.Write thread set patch) earlier steps have same = subst (HaveVersions p logs) (sym same) have
versions-line p logs (act.Tick ms) earlier steps have (versions, within, ticked) = versions-ticked p logs versions ms false earlier steps within have ticked
versions-line p logs (act.Enable id) earlier steps have same = subst (HaveVersions p logs) (sym same) (versions-enabled p logs earlier id have)
versions-line p logs (act.Disable id) earlier steps have same = subst (HaveVersions p logs) (sym same) (versions-disabled p logs earlier id have)
versions-line p logs (act.Fated k fate) earlier steps have same = subst (HaveVersions p logs) (sym same) have
versions-line p logs (act.Watch thread reader times) earlier steps have same = subst (HaveVersions p logs) (sym same) have
versions-line p logs (act.Append set) earlier steps have (field, same) = subst (HaveVersions p logs) (sym same) (versions-appended p logs earlier set field have)

versions-run : (p : Plan) (logs : Logs) (lines : List Line) (steps : List Step) → IsRunBy p logs lines steps → HaveVersions p logs steps
versions-run p logs [] steps none = subst (HaveVersions p logs) (sym none) (versions-none p logs)
versions-run p logs (line ∷ before) steps (earlier, ran, by) = versions-line p logs line.act earlier steps (versions-run p logs before earlier ran) by

-- ---- rows

-- the histories of a script's data sets, which the session may have and the threads made
abbrev AreLegal : Config → Script → Logs → Type 0
AreLegal config script logs = (set : ℕ) → set < length config.dataset → IsLegalLog script set (logs set)

version-at : (config : Config) (script : Script) (logs : Logs) (index : ℕ) (sample : Sampled) → HistoriesHaveRows → IsScript config script → AreLegal config script logs
    → index < length script.metas → IsVersionOf (length script.metas) logs index sample
    → row_in (meta_in script.metas index).fields sample.row.words ≡ row_made script logs index sample.version
version-at config script logs index sample rows is legal there of =
    let fields : List Field = (meta_in script.metas index).fields in
    let log : List Entry = logs index in
    let made = legal index (let e = is.sets in omega (arith, e, there)) in
    ap (λ (s : Sampled). row_in fields s.row.words) (of.made there)
    ∙ sym (rows fields log of.version (script-meta config script index is there) (of.within there))
    ∙ ap (λ (history : List WrittenRow). row_of fields history of.version) made.history
    ∙ ap (λ (s : Sampled). row_made script logs index s.version) (sym (of.made there))

version-past : (script : Script) (logs : Logs) (index : ℕ) (sample : Sampled) → length script.metas ≤ index → IsVersionOf (length script.metas) logs index sample
    → row_in (meta_in script.metas index).fields sample.row.words ≡ row_made script logs index sample.version
version-past script logs index sample past of =
    let none : meta_in script.metas index ≡ no_meta = get_or_past script.metas index no_meta past in
    ap (λ (meta : MetaData). row_in meta.fields sample.row.words) none
    ∙ no-row sample.row.words
    ∙ ap (λ (meta : MetaData). row_of meta.fields (history_by script index (threads_of (logs index))) 0) (sym none)
    ∙ ap (λ (s : Sampled). row_made script logs index s.version) (sym (of.none past))

-- each sample of a run has the row of its version
pub are-versions : (config : Config) (script : Script) (logs : Logs) (earlier steps : List Step) → HistoriesHaveRows → IsScript config script → AreLegal config script logs
    → IsRunBy (plan_by config script) logs (reverse script.lines) earlier → IsTickedAt (plan_by config script) logs (λ set. length (logs set)) 0 true earlier steps
    → AreVersions (plan_by config script) steps (row_made script logs)
are-versions config script logs earlier steps rows is legal ran ends =
    λ index now sample has. go index sample (versions-use p logs steps index now sample have has) (cases_lt index (length script.metas))
  where
    p : Plan
    p = plan_by config script

    have : HaveVersions p logs steps
    have = versions-ticked p logs (λ set. length (logs set)) 0 true earlier steps (λ set lt. omega arith) (versions-run p logs (reverse script.lines) earlier ran) ends

    go : (index : ℕ) (sample : Sampled) → IsVersionOf (length script.metas) logs index sample → (index < length script.metas) ⊎ (length script.metas ≤ index)
        → row_in (meta_in script.metas index).fields sample.row.words ≡ row_made script logs index sample.version
    go index sample of (inl there) = version-at config script logs index sample rows is legal there of
    go index sample of (inr past) = version-past script logs index sample past of
