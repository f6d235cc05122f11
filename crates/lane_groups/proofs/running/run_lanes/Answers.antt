use Rattle.std.proofs.Common.{refl}
use Rattle.std.specs.Prelude.{Result, Ok, Err, IfErr}
use Rattle.lane_groups.proofs.Sharing.{are-behind, has-run, has-stopped, may-run}
use Rattle.lane_groups.proofs.running.run_lanes.Goals as goal

pub run_makers-requires-clause-few : goal.run_makers-requires-clause-few
run_makers-requires-clause-few g c _ _ = c.requires.lanes.few

pub run_makers-requires-clause-may : goal.run_makers-requires-clause-may
run_makers-requires-clause-may g c _ _ = may-run (record { config = c.args.config; turns = c.args.turns }) c.args.lanes.items c.requires.work c.requires.lanes

pub returns-clause-lanes : goal.returns-clause-lanes
returns-clause-lanes g c =
    has-run (record { config = c.args.config; turns = c.args.turns }) c.args.lanes.items c.requires.lanes (g.L.Link.told c.args.link.now) (g.L.Link.told c.run_makers.new.link) c.in_ok-ran.ran c.in_ok-ran.ensures.lanes _ refl refl

pub returns-clause-behind : goal.returns-clause-behind
returns-clause-behind g c =
    are-behind (record { config = c.args.config; turns = c.args.turns }) c.args.lanes.items c.requires.lanes (g.L.Link.told c.args.link.now) (g.L.Link.told c.run_makers.new.link) c.in_ok-ran.ran c.in_ok-ran.ensures.lanes

any_err : {A B : Type 0} (r : Result A B) (P : Type 0) → P → IfErr r (λ _. P)
any_err (Ok x) P p = tt
any_err (Err x) P p = p

pub returns-in_err-ran-clause-stopped : goal.returns-in_err-ran-clause-stopped
returns-in_err-ran-clause-stopped g c =
    any_err _ _ (has-stopped (record { config = c.args.config; turns = c.args.turns }) c.args.lanes.items c.requires.lanes (g.L.Link.told c.args.link.now) (g.L.Link.told c.run_makers.new.link) c.in_err-ran.ensures.stopped)
