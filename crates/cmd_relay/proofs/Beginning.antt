-- Before the first line of the script.
use Rattle.std.proofs.Common.{◌≡◌, refl, sym, ap, ◌∙◌, arith, ℕ, ◌+◌, [], length, map}
use Rattle.ps_config.specs.declared.parts.Config.{Config}
use Rattle.ps_config.specs.Sound.{readers}
use Rattle.ps_script.specs.declared.script.Script.{Script}
use Rattle.ps_script.specs.Sessions.{ticks_in}
use Rattle.version_cell.specs.Cells.{CellData}
use Rattle.session_model.specs.Keeping.{IsPlan}
use Rattle.pubsub_engine.specs.Holding.{appends_left, left_of as session_left, opening_left as session_opening, plan_of as session_plan}
use Rattle.gateway_core.specs.declared.gateway.Left.{Left}
use Rattle.gateway_core.specs.Holding.{IsGateway, KeepsAll, left_of, opening_left, sources_of}
use Rattle.gateway_core.specs.Sources.{HaveSources as HaveIndexes}
use Rattle.gateway_core.specs.Standing.{Stands}
use Rattle.gateway_laws.proofs.Living.{sources-are}
use Rattle.script_player.specs.Player.{IsNew, IsPlayer}
use Rattle.script_player.specs.Plays.{plan_by}
use Rattle.script_player.specs.Sizes.{appended_sets, quotas_by}
use Rattle.script_player.proofs.Newly.{begins-by}
use Rattle.cmd_relay.specs.declared.relaying.Relay.{Relay}
use Rattle.cmd_relay.specs.Relaying.{IsNewRelay}

pub new-relay : (first second : Config) (script : Script) (r : Relay) (turns : ℕ) → IsPlayer r.player → IsNew r.player → session_plan r.player.session ≡ plan_by first script
    → (logged : ℕ) → session_left r.player.session ≡ session_opening (ticks_in script.lines) logged → appends_left r.player.session ≡ appended_sets script.lines
    → map (λ (cell : CellData). cell.quotas) r.player.bank ≡ quotas_by (length first.dataset) script.lines → IsPlan (plan_by first script)
    → IsGateway r.gateway → KeepsAll r.gateway → left_of r.gateway ≡ opening_left turns → turns ≡ ticks_in script.lines + 1 → HaveIndexes first second (sources_of r.gateway) → Stands second [] r.gateway
    → length r.origins.items ≡ length (readers first) → IsNewRelay first second script r
new-relay first second script r turns is new plan logged left appends quotas is_plan gateway keeps again turns_are indexes stands origins =
    let named = sources-are first second (sources_of r.gateway) indexes in
    record {
      relayed = λ lab wire lab_untold wire_untold.
          let begun = begins-by first script lab r.player is new plan logged left appends quotas lab_untold in
          (record {
            player = is;
            played = begun.0;
            gateway = gateway;
            keeps = keeps;
            origins = origins;
            indexes = indexes;
            sources = named.0;
            sources_are = named.1;
            places = named.2;
            ticks = (let a = ap (λ (l : Left). l.ticks) again in omega (arith, a, turns_are));
            collects = ap (λ (l : Left). l.collects) again ∙ sym (ap (λ (l : Left). l.ticks) again);
            pumps = ap (λ (l : Left). l.pumps) again;
            running = ap (λ (l : Left). l.is_closed) again;
            relay = [];
            firsts_are = sym begun.1;
            lived = [];
            lives = refl;
            stands = stands;
            collected = tt;
            tells = wire_untold;
          });
      plan = is_plan;
    }
