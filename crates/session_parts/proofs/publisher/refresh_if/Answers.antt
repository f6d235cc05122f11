use Rattle.std.proofs.Common.{◌≡◌, Bool, true, refl, sym, subst, rules}
use Rattle.dataset_meta.specs.Rows.{cons_if}
use Rattle.writer_group.specs.Standing.{IsGroup}
use Rattle.writer_group.specs.Turns.{RefreshedWriter}
use Rattle.session_parts.proofs.Logging.{logs-same}
use Rattle.session_parts.proofs.publisher.refresh_if.Goals as goal

pub returns-then-not-is_below-clause-logs : goal.returns-then-not-is_below-clause-logs
returns-then-not-is_below-clause-logs c = logs-same c.args.group.now

pub returns-clause-stands : goal.returns-clause-stands
returns-clause-stands c =
    λ metas part past h.
    let so : c.args.is_below ≡ true = search rules in
    subst (λ (b : Bool). IsGroup metas part (cons_if b (RefreshedWriter c.args.writer) past) c.refresh.new.self) (sym so)
    (c.refresh.ensures.stands metas metas part past (λ w low other. refl) h)

pub returns-clause-goes_on : goal.returns-clause-goes_on
returns-clause-goes_on c = λ metas part turns h. c.refresh.ensures.goes_on metas metas part turns (λ w low other. refl) h
