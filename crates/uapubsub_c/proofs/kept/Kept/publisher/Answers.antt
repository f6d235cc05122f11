use Rattle.std.proofs.Common.{refl, subst, sym}
use Rattle.std.specs.Fn.{FnOnceReturnsAtMut}
use Rattle.uapubsub_c.specs.Answers.{OfPublisher}
use Rattle.uapubsub_c.specs.Handles.{IsSound}
use Rattle.uapubsub_c.specs.declared.kept.Kept.{Kept}
use Rattle.uapubsub_c.specs.declared.kept.Kept.TheVariants.{Publisher}
use Rattle.uapubsub_c.proofs.kept.Kept.publisher.Goals as goal

pub returns-in-Publisher-clause-sound : goal.returns-in-Publisher-clause-sound
returns-in-Publisher-clause-sound g c =
    c.requires.moving.leaves c.in-Publisher.publisher c.moving.result c.moving.new.arg2 (subst IsSound c.in-Publisher.is c.requires.sound)
    (record { shown = _; shows = refl; left = _; met = c.moving.ensures; leaves = refl })

pub returns-in-Publisher-clause-moved : goal.returns-in-Publisher-clause-moved
returns-in-Publisher-clause-moved g c =
    subst (λ (kept : Kept). OfPublisher (FnOnceReturnsAtMut g.F.FnOnce c.args.moving) kept c.moving.result (Publisher c.moving.new.arg2)) (sym c.in-Publisher.is)
    (record { shown = _; shows = refl; left = _; met = c.moving.ensures; leaves = refl })
