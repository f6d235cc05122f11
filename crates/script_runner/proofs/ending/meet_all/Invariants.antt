use Rattle.std.proofs.Common.{◌≡◌, ℕ, ◌<◌, length}
use Rattle.std.specs.List.{HoldsAt}
use Rattle.pubsub_engine.specs.Holding.{ChangesSamples, IsBankOf, IsSession, passes_of}
use Rattle.pubsub_engine.specs.Standing.{KeepsStands}
use Rattle.script_runner.specs.Finishing.{HasMet, SeeMore}
use Rattle.script_runner.proofs.ending.meet_all.Given as goal

-- the first threads are met
abbrev pub invariant-loop-t : goal.invariant-loop-t
invariant-loop-t g l = record {
  session : IsSession l.session;
  bank : IsBankOf l.session l.bank;
  same : l.dones.items ≡ l.fn.dones.items;
  more : SeeMore (passes_of l.fn.session) (passes_of l.session);
  met : (t set : ℕ) → t < l.t → set < length l.bank → HoldsAt (HasMet l.session set) l.fn.dones.items t;
  rest : ChangesSamples l.fn.session l.session;
  stands : KeepsStands l.fn.session l.session;
}
