use Rattle.std.proofs.Common.{◌≡◌, ℕ, ◌<◌, ◌≤◌, length}
use Rattle.std.specs.Prelude.{slice_index}
use Rattle.version_cell.specs.Passes.{SeesMore}
use Rattle.version_cell.specs.Sets.{ArePassesOf, pass_at}
use Rattle.script_player.proofs.player.look.Given as goal

abbrev pub invariant-loop-look : goal.invariant-loop-look
invariant-loop-look g l = record {
  own : ArePassesOf l.targets.cells l.watches;
  more : SeesMore (pass_at l.fn.watches l.reader) (pass_at l.watches l.reader);
  count : length l.counts.items ≡ l._look;
  counted : (k : ℕ) → k < length l.counts.items → (length (pass_at l.fn.watches l.reader).seen ≤ slice_index l.counts.items k)
      × (slice_index l.counts.items k ≤ length (pass_at l.watches l.reader).seen);
}
