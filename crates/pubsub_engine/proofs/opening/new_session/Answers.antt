use Rattle.std.proofs.Common.{◌≡◌, refl, sym, ap, ◌∙◌, subst, arith, ℕ, ◌<◌, false, List, [], length, map, drop, All, Some, None}
use Rattle.std.specs.Prelude.{get_or}
use Rattle.std.proofs.lemmas.List.{length-map}
use Rattle.dataset_meta.specs.Metas.{MetaData, IsMeta}
use Rattle.ps_config.specs.declared.parts.ReaderPart.{ReaderPart}
use Rattle.ps_config.specs.Sound.{readers}
use Rattle.version_cell.specs.Sets.{new_passes, pass_at}
use Rattle.session_model.specs.Sets.{AreRowsOf}
use Rattle.pubsub_engine.specs.declared.sets.Growth.{Growth}
use Rattle.pubsub_engine.specs.declared.storing.Last.{Last}
use Rattle.pubsub_engine.specs.Standing.{samples_of}
use Rattle.pubsub_engine.proofs.OpenParts.{new-count, samples-new, unseen-new}
use Rattle.pubsub_engine.proofs.opening.new_session.Goals as goal

pub returns : goal.returns
returns c =
    let config = c.args.config.now in
    let sets = c.args.sets in
    let new = c.requires.sets in
    let round = c.in_ok-round.ensures in
    let samples = c.in_ok-samples.ensures in
    let stores = c.in_ok-stores.ensures in
    let banked = c.requires.passes in
    let aimed = c.requires.keeper in
    let metas : length sets.metas.items ≡ length config.dataset = ap length new.first in
    let count : c.len.result ≡ length config.dataset = omega (arith, c.len.ensures, sets.metas.ok.0, metas) in
    let seats : c.len-2.result ≡ length (readers config) =
    c.len-2.ensures.value ∙ ap length c.sets_read.ensures ∙ length-map (readers config) (λ (reader : ReaderPart). reader.dataset) in
    let passes : length (new_passes banked.0 None) ≡ length config.dataset = new-count banked.0 None ∙ banked.1 in
    let kept = stores.keeper ∙ aimed.2 in
    let keepers : length c.in_ok-stores.stores.keeper ≡ length (readers config) = ap length kept ∙ new-count aimed.0 (Some 0) ∙ aimed.1 in
    record {
      fresh = record {
        good = c.requires.good;
        few = omega (arith, c.requires.ticks);
        one = omega arith;
        may = c.requires.appends;
        left = refl;
        sets = new.holds;
        first = new.first;
        full = new.full;
        samples = record {
          rows = subst (λ (n : ℕ). (full : List MetaData) → length full ≡ n → All (λ meta. IsMeta meta.fields) full → AreRowsOf full c.in_ok-samples.samples.taken.items) count samples.rows;
          cut = samples.cut ∙ count;
          passes = ap length (samples.passes ∙ banked.2) ∙ passes;
        };
        holds = round.holds;
        unstepped = round.stands;
        goes_on = round.goes_on;
        logs = round.logged;
        stores = record {
          lasts = stores.count ∙ seats;
          none = subst (λ (n : ℕ). (k : ℕ) → k < n → (d : Last) → (get_or c.in_ok-stores.stores.last.items k d).is_there ≡ false) seats stores.none;
          keepers = keepers;
          unseen = subst (λ (n : ℕ). (k : ℕ) → k < n → (pass_at c.in_ok-stores.stores.keeper k).seen ≡ []) keepers (unseen-new aimed.0 (Some 0) c.in_ok-stores.stores.keeper kept);
        };
      };
      plan = ap (λ (l : List MetaData). record { config = config; full = l }) new.full;
      appends = ap (λ (n : ℕ). map (λ (growth : Growth). growth.set) (drop n sets.later.items)) new.none ∙ new.later;
      passes = samples.passes;
      sampled = samples.taken ∙ samples-new banked.0 None c.len.result (passes ∙ sym count) ∙ ap samples_of (sym (samples.passes ∙ banked.2));
      keeper = stores.keeper;
    }
