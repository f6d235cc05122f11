use Rattle.std.proofs.Common.{ℕ, List, length, replicate, refl, sym, ap, ◌∙◌, subst}
use Rattle.std.proofs.lemmas.List.Elements.{All-nil}
use Rattle.session_model.specs.Sets.{AreRowsOf}
use Rattle.pubsub_engine.proofs.OpenRows.{rows-alike}
use Rattle.lane_groups.specs.declared.turn.TurnIn.{TurnIn}
use Rattle.cmd_lanes.specs.Courses.{HaveRows}
use Rattle.cmd_lanes.proofs.Samples.{samples-none}
use Rattle.cmd_lanes.proofs.course.Course.new.Goals as goal

pub returns : goal.returns
returns c =
    let metas = c.args.metas.now in
    let rows = c.in_ok-vec.ensures.items_if_clones_equal (λ y is. is) in
    record {
      moment = refl;
      rows = rows ∙ ap (λ (words : List ℕ). replicate (length metas) (record { row = record { words = words }; version = 0 })) c.opening.ensures.zeros ∙ samples-none metas;
      belong = subst (AreRowsOf metas) (sym rows) (rows-alike metas (length metas) (record { row = c.opening.result; version = 0 }) c.opening.ensures.belongs refl c.requires);
      turns = c.new.ensures.items;
      have = subst (HaveRows metas) (sym c.new.ensures.items) (All-nil (λ (turn : TurnIn). AreRowsOf metas turn.rows.items));
      count = ap length c.new.ensures.items;
    }
