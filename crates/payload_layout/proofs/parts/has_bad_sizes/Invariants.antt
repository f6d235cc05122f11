use Rattle.std.proofs.Common.{◌≡◌, ◌+◌, ◌*◌, ◌-◌, ◌<◌, ◌≤◌, length, drop}
use Rattle.std.specs.Prelude.{sum}
use Rattle.payload_layout.specs.Payloads.{sizes_of}
use Rattle.payload_layout.proofs.parts.has_bad_sizes.Given as goal

-- the end so far, and the sizes that are left
abbrev pub invariant-loop-index : goal.invariant-loop-index
invariant-loop-index l = record {
  sums : 2 * l.count + sum (sizes_of l.count l.payload) ≡ l.end + sum (sizes_of (l.count - l.index) (drop (2 * l.index) l.payload));
  small : l.end ≤ 2 * l.count + 65535 * l.index;
  enough : 2 * l.count ≤ length l.payload;
  several : 1 < l.count;
}
