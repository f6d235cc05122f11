use Rattle.std.proofs.Common.{◌≡◌, ◌<◌, ℕ, List, Some, length}
use Rattle.std.specs.Prelude.{slice_get, slice_index_or}
use Rattle.session_model.specs.Closing.{MemberPlace, reader_places}
use Rattle.session_model.specs.Steps.{Plan, Step}
use Rattle.target_cells.specs.Keeping.{AreSound}
use Rattle.pubsub_engine.specs.Standing.{IsOriginOf, Stands}
use Rattle.gateway_core.specs.Lived.{no_origin}
use Rattle.cmd_relay.proofs.relaying.show_origins.Given as goal

abbrev pub invariant-loop-reader : goal.invariant-loop-reader
invariant-loop-reader l = record {
  count : length l.origins.items ≡ length l.fn.origins.items;
  origins : (k : ℕ) → k < l.reader → (p : Plan) (steps : List Step) (place : MemberPlace) → Stands p steps l.player.session → slice_get (reader_places p.config) k ≡ Some place
      → IsOriginOf p steps place (slice_index_or l.origins.items k no_origin);
  sound : 0 < l.reader → AreSound l.player.targets;
}
