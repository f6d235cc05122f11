-- What a session's passes have seen, sampled: whole histories, no older than what was sampled before.
use Rattle.std.proofs.Common.{◌≡◌, ℕ, ◌<◌, ◌≤◌, ◌⊎◌, inl, inr, Bool, List, ◌∷◌, length, get_or, sym, ap, ◌∙◌, arith}
use Rattle.std.proofs.lemmas.Bool.{cases_lt}
use Rattle.std.proofs.lemmas.List.{get_or-map, get_or_past, length-map, take_all}
use Rattle.std.proofs.lemmas.List.FromFn.{fill_by_all}
use lib.ListN.{get_or-map as get_or-mapped}
use Rattle.ua_base.specs.Journal.{Entry as LinkEntry}
use Rattle.version_cell.proofs.Logs.{starts_length}
use Rattle.version_cell.specs.declared.rule.Entry.{Entry}
use Rattle.version_cell.specs.Histories.{row_after}
use Rattle.version_cell.specs.Known.{Known, nothing}
use Rattle.version_cell.specs.Sets.{pass_at}
use Rattle.writer_group.specs.declared.sampled.Sampled.{Sampled}
use Rattle.writer_group.specs.Turns.{no_sample}
use Rattle.session_model.specs.Steps.{Plan, Step, Tick, Pump}
use Rattle.session_model.specs.Sets.{meta_in, metas_at}
use Rattle.session_laws.specs.Sessions.{HasSample, SamplesRise}
use Rattle.pubsub_engine.specs.Standing.{sample_of, samples_of}
use Rattle.script_runner.specs.Conducting.{AreEarlier}
use Rattle.script_runner.specs.Finishing.{SeeMore}
use Rattle.script_runner.specs.Running.{AreWithin, IsTickedAt, Logs, sample_at, samples_at}
use Rattle.script_runner.proofs.Growing.{Grow}

-- what passes have seen of each data set
abbrev pub seen_in : List Known → Logs
seen_in passes = λ set. (pass_at passes set).seen

-- and how much
abbrev pub counts_in : List Known → ℕ → ℕ
counts_in passes = λ set. length (pass_at passes set).seen

samples-seen : (passes : List Known) (sets : ℕ) → length passes ≡ sets → samples_of passes ≡ samples_at sets (seen_in passes) (counts_in passes)
samples-seen passes sets count =
    fill_by_all (λ (set : ℕ). sample_at (pass_at passes set).seen (length (pass_at passes set).seen)) (samples_of passes) sets (sample_of nothing)
    (length-map passes sample_of ∙ count)
    (λ set lt.
    let seen : List Entry = (pass_at passes set).seen in
    let sampled : List Entry → Sampled = λ taken. record { row = record { words = row_after taken }; version = length seen } in
    get_or-mapped sample_of passes set nothing ∙ ap sampled (sym (take_all (length seen) seen (omega arith))))

pub ticked-whole : (p : Plan) (passes : List Known) (ms : ℕ) (closing : Bool) (done : List Bool) (entries : List LinkEntry) (earlier : List Step) → length passes ≡ length p.full
    → IsTickedAt p (seen_in passes) (counts_in passes) ms closing earlier (Pump entries ∷ Tick ms closing (samples_of passes) done ∷ earlier)
ticked-whole p passes ms closing done entries earlier count =
    (done, entries, ap (λ (samples : List Sampled). Pump entries ∷ Tick ms closing samples done ∷ earlier) (samples-seen passes (length p.full) count))

pub within-whole : (p : Plan) (passes : List Known) → AreWithin (length p.full) (seen_in passes) (counts_in passes)
within-whole p passes set lt = omega arith

-- ---- later passes

pub grown : (sets : ℕ) (old new : List Known) → length old ≡ sets → SeeMore old new → Grow sets (seen_in old) (seen_in new)
grown sets old new count more set lt = (more set (omega (arith, count, lt))).seen

seen-later : (old new : List Known) (index : ℕ) → SeeMore old new → length (pass_at old index).seen ≤ length (pass_at new index).seen
seen-later old new index more = go (cases_lt index (length old))
  where
    go : (index < length old) ⊎ (length old ≤ index) → length (pass_at old index).seen ≤ length (pass_at new index).seen
    go (inl there) = starts_length (pass_at new index).seen (pass_at old index).seen (more index there).seen
    go (inr past) =
        let none : length (pass_at old index).seen ≡ 0 = ap (λ (pass : Known). length pass.seen) (get_or_past old index nothing past) in
        omega (arith, none)

newest : (passes : List Known) (index : ℕ) → (get_or (samples_of passes) index no_sample).version ≡ length (pass_at passes index).seen
newest passes index = go (cases_lt index (length passes))
  where
    go : (index < length passes) ⊎ (length passes ≤ index) → (get_or (samples_of passes) index no_sample).version ≡ length (pass_at passes index).seen
    go (inl there) = ap (λ (s : Sampled). s.version) (get_or-map sample_of passes index nothing no_sample there)
    go (inr past) =
        ap (λ (s : Sampled). s.version) (get_or_past (samples_of passes) index no_sample (let n = length-map passes sample_of in omega (arith, n, past)))
        ∙ sym (ap (λ (pass : Known). length pass.seen) (get_or_past passes index nothing past))

module _ (p : Plan) (steps : List Step) (old new : List Known) (more : SeeMore old new) (earlier : AreEarlier p steps (seen_in old)) (ms : ℕ) (closing : Bool) (done : List Bool)
    (entries : List LinkEntry) where
  pub rise-more : SamplesRise p steps → SamplesRise p (Pump entries ∷ Tick ms closing (samples_of new) done ∷ steps)
  rise-more rise = (λ index now sample has. not-newer index sample (earlier index now sample has), rise)
    where
      not-newer : (index : ℕ) (sample : Sampled) → sample.version ≤ length (pass_at old index).seen → sample.version ≤ (get_or (samples_of new) index no_sample).version
      not-newer index sample few =
          let later = seen-later old new index more in
          let now = newest new index in
          omega (arith, few, later, now)

  pub earlier-more : AreEarlier p (Pump entries ∷ Tick ms closing (samples_of new) done ∷ steps) (seen_in new)
  earlier-more index now sample has = go has
    where
      go : ((get_or (samples_of new) index no_sample ≡ sample) × (meta_in (metas_at p.config steps) index ≡ now)) ⊎ HasSample p steps index now sample
          → sample.version ≤ length (pass_at new index).seen
      go (inl here) =
          let same = ap (λ (s : Sampled). s.version) here.0 in
          let is = newest new index in
          omega (arith, same, is)
      go (inr was) =
          let few = earlier index now sample was in
          let later = seen-later old new index more in
          omega (arith, few, later)
