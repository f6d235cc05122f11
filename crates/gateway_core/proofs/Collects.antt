-- What a collect asks for, and what it leaves.
use Rattle.std.proofs.Common.{◌≡◌, sym, ap, ◌∙◌, subst, arith, ℕ, ◌*◌, ◌<◌, ◌≤◌, List, length}
use Rattle.std.specs.List.{HoldsAt}
use Rattle.std.proofs.lemmas.Slice.Zip.{AllZip-long}
use Rattle.dataset_meta.specs.Metas.{MetaData}
use Rattle.ps_config.specs.declared.parts.Config.{Config}
use Rattle.row_words.specs.Belonging.{Belongs}
use Rattle.version_cell.specs.Known.{Known}
use Rattle.writer_group.specs.declared.sampled.Sampled.{Sampled}
use Rattle.session_model.specs.Counts.{most_ms}
use Rattle.session_model.specs.Sets.{AreRowsOf}
use Rattle.session_parts.specs.Holding.{AreAllLogged, MayAllGoOn}
use Rattle.gateway_core.specs.declared.collected.Collected.{Collected}
use Rattle.gateway_core.specs.declared.gateway.Gateway.{Gateway}
use Rattle.gateway_core.specs.declared.gateway.Left.{Left}
use Rattle.gateway_core.specs.Lived.{collected}
use Rattle.gateway_core.specs.Holding.{CountsCollect, HasRoom, HoldCollected, IsGateway, logged_of, sources_of}

pub few-sources : (s : Gateway) → IsGateway s → length (sources_of s) ≤ 8
few-sources s gateway = omega (arith, gateway.collected.sources, gateway.good.sound.few.datasets)

pub count-samples : (config : Config) (c : Collected) → HoldCollected config c → length c.samples.items ≡ length c.sources.items
count-samples config c holds =
    AllZip-long (λ (meta : MetaData) (sampled : Sampled). Belongs meta sampled.row.words) config.dataset c.samples.items holds.rows ∙ sym holds.sources

pub count-versions : (config : Config) (c : Collected) → HoldCollected config c → length c.versions.items ≡ length c.sources.items
count-versions config c holds = holds.versions ∙ sym holds.sources

pub has-room : (config : Config) (c : Collected) → HoldCollected config c → (set : ℕ) → set < length c.sources.items → HoldsAt (HasRoom c.logged) c.versions.items set
has-room config c holds set low = holds.room set (subst (λ (n : ℕ). set < n) holds.sources low)

pub collected-gateway : (old : Gateway) (left : Left) (c : Collected) (passes : List Known) → IsGateway old → CountsCollect old.left left → c.sources.items ≡ sources_of old
    → c.samples.items ≡ collected (sources_of old) passes → AreRowsOf old.config.now.dataset (collected (sources_of old) passes)
    → length c.versions.items ≡ length old.collected.versions.items
    → ((set : ℕ) → set < length (sources_of old) → HoldsAt (HasRoom (logged_of old)) c.versions.items set) → c.logged ≡ logged_of old
    → IsGateway (record old { left = left; collected = c })
collected-gateway old left c passes gateway counts same samples rows count room logged = record {
  good = gateway.good;
  collected = record {
    sources = ap (λ (l : List ℕ). length l) same ∙ gateway.collected.sources;
    rows = subst (λ (l : List Sampled). AreRowsOf old.config.now.dataset l) (sym samples) rows;
    versions = count ∙ gateway.collected.versions;
    room = λ set low. subst (λ (n : ℕ). HoldsAt (HasRoom n) c.versions.items set) (sym logged) (room set (subst (λ (n : ℕ). set < n) (sym gateway.collected.sources) low));
  };
  round = gateway.round;
  goes_on = subst (λ (n : ℕ). MayAllGoOn old.config.now old.config.now.dataset n old.round.publisher.groups.items) (sym ticks) gateway.goes_on;
  logs = subst (λ (n : ℕ). AreAllLogged n old.round.publisher.groups.items) (sym logged) gateway.logs;
  time = omega (arith, gateway.time, ap (λ (n : ℕ). n * most_ms) ticks);
  calls = omega (arith, gateway.calls, ticks, ap (λ (l : Left). l.pumps) counts.rest);
}
  where
    ticks : left.ticks ≡ old.left.ticks
    ticks = ap (λ (l : Left). l.ticks) counts.rest
