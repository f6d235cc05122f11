use Rattle.std.proofs.Common.{◌≡◌, ◌+◌, ◌*◌, ◌-◌, ◌≤◌, ◌++◌, length, map, take, drop}
use Rattle.std.specs.Prelude.{sum}
use Rattle.std.specs.List.{All}
use Rattle.payload_layout.specs.Payloads.{sizes_of, cut_by, frame_at, IsWithin, StandBehind}
use Rattle.payload_layout.proofs.Pieces.{end_of}
use Rattle.payload_layout.proofs.parts.find_each.Given as goal

abbrev pub invariant-loop-index : goal.invariant-loop-index
invariant-loop-index l = record {
  found : cut_by (sizes_of l.count l.payload) (drop (2 * l.count) l.payload) ≡ map (frame_at l.payload) (take l.index l.places) ++ cut_by (sizes_of (l.count - l.index) (drop (2 * l.index) l.payload)) (drop l.start l.payload);
  sums : 2 * l.count + sum (sizes_of l.count l.payload) ≡ l.start + sum (sizes_of (l.count - l.index) (drop (2 * l.index) l.payload));
  each : All (IsWithin l.payload) (take l.index l.places);
  order : StandBehind (2 * l.count) (take l.index l.places);
  ends : end_of (2 * l.count) (take l.index l.places) ≡ l.start;
  many : l.count ≤ length l.places;
}
