-- A new session: what its parts are when they are made, and that it may be called and stands where no step was.
use Rattle.std.proofs.Common.{◌≡◌, refl, sym, ap, ◌∙◌, subst, arith, ℕ, zero, suc, ◌+◌, ◌<◌, ◌≤◌, List, [], ◌∷◌, length, map, All}
use Rattle.std.specs.Prelude.{Option, replicate, slice_index_or}
use Rattle.std.proofs.lemmas.List.{get_or-map, length-map}
use Rattle.std.proofs.lemmas.List.Elements.{length_all_zip}
use Rattle.dataset_meta.specs.Metas.{MetaData, HasGrown, IsMeta, no_meta}
use Rattle.row_words.specs.Belonging.{row_in}
use Rattle.ps_config.specs.declared.parts.Config.{Config}
use Rattle.ps_config.specs.declared.parts.ReaderPart.{ReaderPart}
use Rattle.ps_config.specs.Sound.{readers}
use Rattle.version_cell.specs.declared.rule.Entry.{Entry}
use Rattle.version_cell.specs.Known.{Known, nothing}
use Rattle.target_cells.specs.Keeping.{TargetsData, metas_of}
use Rattle.version_cell.specs.Cells.{CellData, IsCell}
use Rattle.version_cell.specs.Passes.{new_pass}
use Rattle.version_cell.specs.Sets.{ArePassesOf, new_passes, no_cell, pass_at}
use Rattle.writer_group.specs.declared.sampled.Sampled.{Sampled}
use Rattle.session_model.specs.Steps.{Plan}
use Rattle.session_parts.specs.Holding.{AreAllLogged, MayAllGoOn}
use Rattle.pubsub_engine.specs.declared.size.Append.{Append}
use Rattle.pubsub_engine.specs.declared.size.Size.{Size}
use Rattle.pubsub_engine.specs.declared.session.Left.{Left}
use Rattle.pubsub_engine.specs.declared.session.Session.{Session}
use Rattle.pubsub_engine.specs.Holding.{AreTargetsOf, IsBankOf, IsSession, full_of, plan_of}
use Rattle.pubsub_engine.specs.Opened.{IsFresh, IsNewSession}
use Rattle.pubsub_engine.specs.Standing.{Stands, opening_sample, samples_of}
use Rattle.pubsub_engine.specs.Storing.{meta_at_place}
use Rattle.pubsub_engine.proofs.OpenSets.{full-metas, grow-full}
use Rattle.pubsub_engine.proofs.Places.{within-all}

-- ---- new passes

-- new passes have seen nothing
pub unseen-new : (cells : List CellData) (author : Option ℕ) (passes : List Known) → passes ≡ new_passes cells author → (k : ℕ) → k < length passes → (pass_at passes k).seen ≡ []
unseen-new cells author passes are k low =
    let count : length passes ≡ length cells = ap (λ (l : List Known). length l) are ∙ length-map cells (λ (cell : CellData). new_pass cell author) in
    ap (λ (l : List Known). (pass_at l k).seen) are
    ∙ ap (λ (p : Known). p.seen) (get_or-map (λ (cell : CellData). new_pass cell author) cells k no_cell nothing (omega (arith, low, count)))

-- so their samples are the opening ones
pub samples-new : (cells : List CellData) (author : Option ℕ) (n : ℕ) → length (new_passes cells author) ≡ n
    → replicate n opening_sample ≡ samples_of (new_passes cells author)
samples-new [] author zero count = refl
samples-new [] author (suc n) count = absurd (omega (arith, count))
samples-new (cell ∷ cells) author zero count = absurd (omega (arith, count))
samples-new (cell ∷ cells) author (suc n) count = ap (λ (l : List Sampled). opening_sample ∷ l) (samples-new cells author n (omega (arith, count)))

-- one of each cell
pub new-count : (cells : List CellData) (author : Option ℕ) → length (new_passes cells author) ≡ length cells
new-count cells author = length-map cells (λ (cell : CellData). new_pass cell author)

-- ---- it may be called

pub full-count : (metas : List MetaData) (appends : List Append) → length (full_of metas appends) ≡ length metas
full-count metas appends = sym (length_all_zip HasGrown metas (full_of metas appends) (grow-full metas appends))

pub fresh-session : (appends : List Append) (turns logged : ℕ) (s : Session) → IsFresh appends turns logged s → IsSession s
fresh-session appends turns logged s fresh =
    let config = s.config.now in
    let whole : All (λ meta. IsMeta meta.fields) s.sets.full.items =
    subst (All (λ (meta : MetaData). IsMeta meta.fields)) (sym fresh.full) (full-metas config config.dataset appends fresh.good.sound.metas fresh.may) in
    let count : length s.sets.full.items ≡ length config.dataset = ap (λ (l : List MetaData). length l) fresh.full ∙ full-count config.dataset appends in
    let ticks : s.left.ticks ≡ turns = ap (λ (l : Left). l.ticks) fresh.left in
    let pumps : s.left.pumps ≡ 0 = ap (λ (l : Left). l.pumps) fresh.left in
    let limit : s.left.stores ≡ turns = ap (λ (l : Left). l.stores) fresh.left in
    let start : s.round.moment ≡ 0 = (fresh.unstepped s.sets.full.items).moment in
    let few : turns ≤ 4398046511105 = fresh.few in
    record {
      good = fresh.good;
      sets = fresh.sets;
      samples = record {
        rows = fresh.samples.rows s.sets.full.items count whole;
        cut = fresh.samples.cut ∙ sym count;
        passes = fresh.samples.passes ∙ sym count;
      };
      round = fresh.holds;
      goes_on = subst (λ (t : ℕ). MayAllGoOn config s.sets.metas.items t s.round.publisher.groups.items) (sym ticks)
          (subst (λ (l : List MetaData). MayAllGoOn config l turns s.round.publisher.groups.items) (sym fresh.first) fresh.goes_on);
      logged = subst (λ (n : ℕ). AreAllLogged n s.round.publisher.groups.items) (sym (ap (λ (l : Left). l.logged) fresh.left)) fresh.logs;
      stores = record {
        count = fresh.stores.lasts;
        keepers = fresh.stores.keepers;
        room = λ k low. let none : length (pass_at s.stores.keeper k).seen ≡ 0 = ap length (fresh.stores.unseen k low) in omega (arith, none, ticks, pumps, limit);
      };
      time = omega (arith, start, ticks, few);
      calls = omega (arith, ticks, pumps, few);
    }

-- ---- new cells

-- a cell for each data set
pub new-bank : (metas : List MetaData) (appends : List Append) (bank : List CellData) → map (λ cell. cell.meta) bank ≡ full_of metas appends → length bank ≡ length metas
new-bank metas appends bank are =
    sym (length-map bank (λ (cell : CellData). cell.meta)) ∙ ap (λ (l : List MetaData). length l) are ∙ full-count metas appends

-- and one for each reader
pub new-targets : (config : Config) (cells : List CellData) → map (λ cell. cell.meta) cells ≡ metas_of config.dataset (map (λ reader. reader.dataset) (readers config))
    → length cells ≡ length (readers config)
new-targets config cells are =
    let sets : List ℕ = map (λ (reader : ReaderPart). reader.dataset) (readers config) in
    sym (length-map cells (λ (cell : CellData). cell.meta)) ∙ ap (λ (l : List MetaData). length l) are
    ∙ length-map sets (λ (set : ℕ). slice_index_or config.dataset set no_meta) ∙ length-map (readers config) (λ (reader : ReaderPart). reader.dataset)

pub bank-of : (config : Config) (size : Size) (passes keeper : List Known) (s : Session) (bank : List CellData) → IsNewSession config size passes keeper s → ArePassesOf bank passes
    → map (λ cell. cell.meta) bank ≡ full_of config.dataset size.appends.items → All IsCell bank → IsBankOf s bank
bank-of config size passes keeper s bank is own metas cells = record {
  passes = subst (ArePassesOf bank) (sym is.passes) own;
  metas = metas ∙ sym (ap (λ (p : Plan). p.full) is.plan);
  cells = cells;
}

pub targets-of : (config : Config) (size : Size) (passes keeper : List Known) (s : Session) (targets : TargetsData) → IsNewSession config size passes keeper s → ArePassesOf targets.cells keeper
    → targets.limit ≡ size.ticks + 1 → map (λ cell. cell.meta) targets.cells ≡ metas_of config.dataset (map (λ reader. reader.dataset) (readers config)) → AreTargetsOf s targets
targets-of config size passes keeper s targets is own limit metas = record {
  keeper = subst (ArePassesOf targets.cells) (sym is.keeper) own;
  limit = limit ∙ sym (ap (λ (l : Left). l.stores) is.fresh.left);
  metas = subst (λ (c : Config). map (λ cell. cell.meta) targets.cells ≡ metas_of c.dataset (map (λ reader. reader.dataset) (readers c)))
      (sym (ap (λ (p : Plan). p.config) is.plan)) metas;
}

-- ---- it stands where no step was

pub fresh-stands : (appends : List Append) (turns logged : ℕ) (s : Session) → IsFresh appends turns logged s → Stands (plan_of s) [] s
fresh-stands appends turns logged s fresh =
    let ticks : s.left.ticks ≡ turns = ap (λ (l : Left). l.ticks) fresh.left in
    let pumps : s.left.pumps ≡ 0 = ap (λ (l : Left). l.pumps) fresh.left in
    let limit : s.left.stores ≡ turns = ap (λ (l : Left). l.stores) fresh.left in
    record {
      plan = refl;
      run = tt;
      steps_are = tt;
      turns = tt;
      closed = ap (λ (l : Left). l.is_closed) fresh.left;
      ticks = omega (arith, ticks, limit, fresh.one);
      pumps = omega (arith, pumps);
      metas = fresh.first;
      stores_are = λ k place at.
          let low = within-all s.config.now k place at in
          record {
            last = λ d. fresh.stores.none k low d;
            seen = ap (map (λ (entry : Entry). row_in (meta_at_place s.config.now place).fields entry.row)) (fresh.stores.unseen k low);
          };
      round = fresh.unstepped s.sets.full.items;
    }
