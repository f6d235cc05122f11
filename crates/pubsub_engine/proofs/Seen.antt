-- A session that takes a sample or meets passes: it stands where it stood.
use Rattle.std.proofs.Common.{◌≡◌, sym, ap, ◌∙◌, subst, arith, ℕ, ◌<◌, ◌≤◌, List, length, map, get_or}
use Rattle.std.specs.Prelude.{All}
use Rattle.std.proofs.lemmas.List.{get_or-map, length-map}
use Rattle.std.proofs.lemmas.List.Elements.{All-get_or}
use Rattle.std.proofs.lemmas.Slice.Zip.{AllZip-long}
use Rattle.dataset_meta.specs.Metas.{MetaData, no_meta}
use Rattle.row_words.specs.Belonging.{Belongs}
use Rattle.version_cell.specs.Cells.{CellData, IsCell}
use Rattle.version_cell.specs.Histories.{row_after}
use Rattle.version_cell.specs.Known.{Known, nothing}
use Rattle.version_cell.specs.Passes.{IsPassOf, SeesLawful}
use Rattle.version_cell.specs.Sets.{ArePassesOf, EachSeesLawful, cell_at, no_cell, pass_at}
use Rattle.writer_group.specs.declared.sampled.Sampled.{Sampled}
use Rattle.writer_group.specs.Turns.{no_sample}
use Rattle.session_model.specs.Sets.{AreRowsOf}
use Rattle.pubsub_engine.specs.declared.sampling.Samples.{Samples}
use Rattle.pubsub_engine.specs.declared.session.Session.{Session}
use Rattle.pubsub_engine.specs.Holding.{ChangesSamples, HoldSamples, IsBankOf, IsSession}
use Rattle.pubsub_engine.specs.Standing.{KeepsStands, Stands, sample_of, samples_of}
use Rattle.pubsub_engine.specs.Living.{KeepsLife, StandsIn}
use Rattle.pubsub_engine.proofs.Cutting.{allzip-from}
use Rattle.pubsub_engine.proofs.NowSets.{now-sets}

-- ---- samples alone change

pub stands-sampled : (old new : Session) → ChangesSamples old new → KeepsStands old new
stands-sampled old new changed p steps stands = subst (Stands p steps) (sym changed) (record {
  plan = stands.plan;
  run = stands.run;
  steps_are = stands.steps_are;
  turns = stands.turns;
  closed = stands.closed;
  ticks = stands.ticks;
  pumps = stands.pumps;
  metas = stands.metas;
  stores_are = stands.stores_are;
  round = stands.round;
})

-- in a life
pub lives-sampled : (old new : Session) → ChangesSamples old new → KeepsLife old new
lives-sampled old new changed p life stands = subst (StandsIn p life) (sym changed) (record {
  run = stands.run;
  steps_are = stands.steps_are;
  turns = stands.turns;
  parts = record {
    plan = stands.parts.plan;
    closed = stands.parts.closed;
    ticks = stands.parts.ticks;
    pumps = stands.parts.pumps;
    metas = stands.parts.metas;
    stores_are = stands.parts.stores_are;
    round = stands.parts.round;
  };
})

pub session-sampled : (old new : Session) → IsSession old → ChangesSamples old new → HoldSamples old.sets.full.items new.samples → IsSession new
session-sampled old new session changed samples = subst IsSession (sym changed) (record {
  good = session.good;
  sets = session.sets;
  samples = samples;
  round = session.round;
  goes_on = session.goes_on;
  logged = session.logged;
  stores = session.stores;
  time = session.time;
  calls = session.calls;
})

pub bank-sampled : (old new : Session) (bank : List CellData) → IsBankOf old bank → ChangesSamples old new → ArePassesOf bank new.samples.passes → IsBankOf new bank
bank-sampled old new bank is changed own = subst (λ (s : Session). IsBankOf s bank) (sym changed) (record { passes = own; metas = is.metas; cells = is.cells })

-- ---- what is sampled

-- as many passes as data sets
pub passes-count : (s : Session) (bank : List CellData) (passes : List Known) → IsBankOf s bank → ArePassesOf bank passes → length passes ≡ length s.sets.full.items
passes-count s bank passes is own = own.count ∙ sym (length-map bank (λ cell. cell.meta)) ∙ ap length is.metas

-- no more than eight data sets
pub few-full : (s : Session) → IsSession s → length s.sets.full.items ≤ 8
few-full s session =
    omega (
      arith,
      session.good.sound.few.datasets,
      (now-sets s.config.now s.sets session.sets).count,
      AllZip-long _ s.sets.metas.items s.sets.full.items (now-sets s.config.now s.sets session.sets).grow,
    )

-- a row of each data set with all its fields
pub rows-seen : ((cell : CellData) (p : Known) → IsCell cell → IsPassOf cell p → SeesLawful p → Belongs cell.meta (row_after p.seen))
    → (full : List MetaData) (bank : List CellData) (passes : List Known) → All IsCell bank → map (λ cell. cell.meta) bank ≡ full → ArePassesOf bank passes → EachSeesLawful passes
    → AreRowsOf full (samples_of passes)
rows-seen belongs full bank passes cells metas own lawful =
    allzip-from (λ (meta : MetaData) (sampled : Sampled). Belongs meta sampled.row.words) full (map sample_of passes) no_meta no_sample (length-map passes sample_of ∙ own.count ∙ sym there) each
  where
    there : length full ≡ length bank
    there = ap length (sym metas) ∙ length-map bank (λ cell. cell.meta)

    each : (k : ℕ) → k < length full → Belongs (get_or full k no_meta) (get_or (map sample_of passes) k no_sample).row.words
    each k below =
        let low : k < length bank = omega (arith, below, there) in
        let meta : get_or full k no_meta ≡ (cell_at bank k).meta = ap (λ (l : List MetaData). get_or l k no_meta) (sym metas) ∙ get_or-map (λ (cell : CellData). cell.meta) bank k no_cell no_meta low in
        let seen : get_or (map sample_of passes) k no_sample ≡ sample_of (pass_at passes k) = get_or-map sample_of passes k nothing no_sample (omega (arith, low, own.count)) in
        subst (λ (m : MetaData). Belongs m (get_or (map sample_of passes) k no_sample).row.words) (sym meta)
        (subst (λ (x : Sampled). Belongs (cell_at bank k).meta x.row.words) (sym seen)
        (belongs (cell_at bank k) (pass_at passes k) (All-get_or IsCell bank k no_cell low cells) (own.each k low) (lawful k (omega (arith, low, own.count)))))

pub samples-seen : ((cell : CellData) (p : Known) → IsCell cell → IsPassOf cell p → SeesLawful p → Belongs cell.meta (row_after p.seen))
    → (s : Session) (bank : List CellData) (new : Samples) → IsSession s → IsBankOf s bank → ArePassesOf bank new.passes → EachSeesLawful new.passes
    → new.taken.items ≡ samples_of new.passes → new.cut ≡ s.samples.cut → HoldSamples s.sets.full.items new
samples-seen belongs s bank new session is own lawful taken cut = record {
  rows = subst (AreRowsOf s.sets.full.items) (sym taken) (rows-seen belongs s.sets.full.items bank new.passes is.cells is.metas own lawful);
  cut = ap (λ v. v.len) cut ∙ session.samples.cut;
  passes = passes-count s bank new.passes is own;
}

-- passes alone change
pub samples-met : (s : Session) (bank : List CellData) (new : Samples) → IsSession s → IsBankOf s bank → ArePassesOf bank new.passes
    → new ≡ record s.samples { passes = new.passes } → HoldSamples s.sets.full.items new
samples-met s bank new session is own rest = subst (HoldSamples s.sets.full.items) (sym rest) (record {
  rows = session.samples.rows;
  cut = session.samples.cut;
  passes = passes-count s bank new.passes is own;
})
