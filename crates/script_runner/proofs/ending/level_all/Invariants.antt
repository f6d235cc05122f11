use Rattle.std.proofs.Common.{◌≡◌, ℕ, ◌<◌, ◌≤◌, length, map}
use Rattle.std.specs.Prelude.{slice_index_or}
use Rattle.std.specs.List.{HoldsAt}
use Rattle.app_threads.specs.declared.done.Done.{Done}
use Rattle.pubsub_engine.specs.Holding.{AreTargetsOf, ChangesStores, IsSession, keeper_of}
use Rattle.pubsub_engine.specs.Standing.{KeepsStands}
use Rattle.script_runner.specs.Finishing.{HasStored, unwatched}
use Rattle.script_runner.proofs.ending.level_all.Given as goal

-- the watches of the first threads are level
abbrev pub invariant-loop-t : goal.invariant-loop-t
invariant-loop-t g l = record {
  session : IsSession l.session;
  targets : AreTargetsOf l.session l.targets;
  same : keeper_of l.session ≡ keeper_of l.fn.session;
  stored : (t reader : ℕ) → t < l.t → reader < length l.targets.cells → HoldsAt (HasStored l.fn.session reader) l.fn.dones.items t;
  dones : map unwatched l.dones.items ≡ map unwatched l.fn.dones.items;
  left : (t : ℕ) (none : Done) → l.t ≤ t → slice_index_or l.dones.items t none ≡ slice_index_or l.fn.dones.items t none;
  rest : ChangesStores l.fn.session l.session;
  stands : KeepsStands l.fn.session l.session;
}
