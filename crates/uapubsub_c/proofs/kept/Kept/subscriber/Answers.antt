use Rattle.std.proofs.Common.{refl, subst, sym}
use Rattle.std.specs.Fn.{FnOnceReturnsAtMut}
use Rattle.uapubsub_c.specs.Answers.{OfSubscriber}
use Rattle.uapubsub_c.specs.Handles.{IsSound}
use Rattle.uapubsub_c.specs.declared.kept.Kept.{Kept}
use Rattle.uapubsub_c.specs.declared.kept.Kept.TheVariants.{Subscriber}
use Rattle.uapubsub_c.proofs.kept.Kept.subscriber.Goals as goal

pub returns-in-Subscriber-clause-sound : goal.returns-in-Subscriber-clause-sound
returns-in-Subscriber-clause-sound g c =
    c.requires.moving.leaves c.in-Subscriber.subscriber c.moving.result c.moving.new.arg2 (subst IsSound c.in-Subscriber.is c.requires.sound)
    (record { shown = _; shows = refl; left = _; met = c.moving.ensures; leaves = refl })

pub returns-in-Subscriber-clause-moved : goal.returns-in-Subscriber-clause-moved
returns-in-Subscriber-clause-moved g c =
    subst (λ (kept : Kept). OfSubscriber (FnOnceReturnsAtMut g.F.FnOnce c.args.moving) kept c.moving.result (Subscriber c.moving.new.arg2)) (sym c.in-Subscriber.is)
    (record { shown = _; shows = refl; left = _; met = c.moving.ensures; leaves = refl })
