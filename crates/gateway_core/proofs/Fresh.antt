-- A new gateway: what its parts are when they are made, and that it may be called and stands where no step was.
use Rattle.std.proofs.Common.{◌≡◌, refl, sym, ap, ◌∙◌, subst, arith, ℕ, ◌+◌, ◌<◌, ◌≤◌, List, [], length, map}
use Rattle.std.specs.List.{HoldsAt}
use Rattle.dataset_meta.specs.Metas.{MetaData}
use Rattle.ps_config.specs.declared.parts.Config.{Config}
use Rattle.writer_group.specs.Standing.{IsGood}
use Rattle.session_model.specs.Counts.{life_ticks}
use Rattle.session_model.specs.Sets.{AreRowsOf}
use Rattle.session_parts.specs.Holding.{AreAllLogged, MayAllGoOn}
use Rattle.session_parts.specs.Rounds.{HoldRound, IsUnstepped}
use Rattle.gateway_core.specs.declared.collected.Collected.{Collected}
use Rattle.gateway_core.specs.declared.gateway.Left.{Left}
use Rattle.gateway_core.specs.declared.gateway.Gateway.{Gateway}
use Rattle.gateway_core.specs.Lived.{opening_sample}
use Rattle.gateway_core.specs.Holding.{HasRoom, IsGateway, opening_left}
use Rattle.gateway_core.specs.Standing.{HaveKept, Stands}

-- ---- the parts

pub record IsFreshCollected (config : Config) (logged : ℕ) (c : Collected) : Type 0 where
  pub sources : length c.sources.items ≡ length config.dataset
  pub samples : c.samples.items ≡ map (λ source. opening_sample) c.sources.items
  pub rows : AreRowsOf config.dataset c.samples.items
  pub count : length c.versions.items ≡ length c.sources.items
  pub kept : HaveKept logged c.sources.items [] c.versions.items
  pub room : (set : ℕ) → set < length c.sources.items → HoldsAt (HasRoom logged) c.versions.items set
  pub logged_is : c.logged ≡ logged

pub record IsFresh (turns logged : ℕ) (s : Gateway) : Type 0 where
  pub good : IsGood s.config.now
  pub few : turns ≤ life_ticks + 1
  pub left : s.left ≡ opening_left turns
  pub collected : IsFreshCollected s.config.now logged s.collected
  pub holds : HoldRound s.config.now s.round
  pub unstepped : (full : List MetaData) → IsUnstepped s.config.now full s.round
  pub goes_on : MayAllGoOn s.config.now s.config.now.dataset turns s.round.publisher.groups.items
  pub logs : AreAllLogged logged s.round.publisher.groups.items

-- where it was made of these sources
pub fresh-collected : (config : Config) (logged : ℕ) (sources : List ℕ) (c : Collected) → c.sources.items ≡ sources → length sources ≡ length config.dataset
    → c.samples.items ≡ map (λ source. opening_sample) sources → AreRowsOf config.dataset c.samples.items → length c.versions.items ≡ length sources
    → HaveKept logged sources [] c.versions.items → ((set : ℕ) → set < length sources → HoldsAt (HasRoom logged) c.versions.items set) → c.logged ≡ logged → IsFreshCollected config logged c
fresh-collected config logged sources c same count samples rows made kept room logged_is = record {
  sources = ap (λ (l : List ℕ). length l) same ∙ count;
  samples = samples ∙ ap (λ (l : List ℕ). map (λ source. opening_sample) l) (sym same);
  rows = rows;
  count = made ∙ ap (λ (l : List ℕ). length l) (sym same);
  kept = subst (λ (l : List ℕ). HaveKept logged l [] c.versions.items) (sym same) kept;
  room = λ set low. room set (subst (λ (l : List ℕ). set < length l) same low);
  logged_is = logged_is;
}

-- ---- it may be called

pub fresh-gateway : (turns logged : ℕ) (s : Gateway) → IsFresh turns logged s → IsGateway s
fresh-gateway turns logged s fresh =
    let config = s.config.now in
    let ticks : s.left.ticks ≡ turns = ap (λ (l : Left). l.ticks) fresh.left in
    let pumps : s.left.pumps ≡ 0 = ap (λ (l : Left). l.pumps) fresh.left in
    let start : s.round.moment ≡ 0 = (fresh.unstepped config.dataset).moment in
    let few : turns ≤ 4398046511105 = fresh.few in
    record {
      good = fresh.good;
      collected = record {
        sources = fresh.collected.sources;
        rows = fresh.collected.rows;
        versions = fresh.collected.count ∙ fresh.collected.sources;
        room = λ set low.
            subst (λ (n : ℕ). HoldsAt (HasRoom n) s.collected.versions.items set) (sym fresh.collected.logged_is)
            (fresh.collected.room set (subst (λ (n : ℕ). set < n) (sym fresh.collected.sources) low));
      };
      round = fresh.holds;
      goes_on = subst (λ (t : ℕ). MayAllGoOn config config.dataset t s.round.publisher.groups.items) (sym ticks) fresh.goes_on;
      logs = subst (λ (n : ℕ). AreAllLogged n s.round.publisher.groups.items) (sym fresh.collected.logged_is) fresh.logs;
      time = omega (arith, start, ticks, few);
      calls = omega (arith, ticks, pumps, few);
    }

-- ---- it stands where no step was

pub fresh-stands : (turns logged : ℕ) (s : Gateway) → IsFresh turns logged s → Stands s.config.now [] s
fresh-stands turns logged s fresh =
    let all : s.left.turns ≡ turns = ap (λ (l : Left). l.turns) fresh.left in
    let ticks : s.left.ticks ≡ turns = ap (λ (l : Left). l.ticks) fresh.left in
    let collects : s.left.collects ≡ turns = ap (λ (l : Left). l.collects) fresh.left in
    let pumps : s.left.pumps ≡ 0 = ap (λ (l : Left). l.pumps) fresh.left in
    record {
      session = record {
        plan = refl;
        run = tt;
        steps_are = tt;
        turns = tt;
        closed = ap (λ (l : Left). l.is_closed) fresh.left;
        ticks = omega (arith, ticks, all);
        pumps = omega (arith, pumps);
        metas = refl;
        round = fresh.unstepped s.config.now.dataset;
      };
      samples = fresh.collected.samples;
      kept = subst (λ (n : ℕ). HaveKept n s.collected.sources.items [] s.collected.versions.items) (sym fresh.collected.logged_is) fresh.collected.kept;
      collects = omega (arith, collects, all);
    }
