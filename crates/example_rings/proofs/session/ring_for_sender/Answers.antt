use Rattle.std.proofs.Common.{◌≡◌, subst, sym}
use Rattle.std.proofs.lemmas.Result.{IfOk-weaker}
use Rattle.group_keys.specs.Ring.{is_long}
use Rattle.group_keys.specs.declared.ring.Ring.{Ring}
use Rattle.device.specs.Sides.{FitsKeyGroup, HasLongKeys}
use Rattle.example_rings.proofs.session.ring_for_sender.Goals as goal

pub returns-in-Some : goal.returns-in-Some
returns-in-Some c =
    let config = c.args.publisher.now.config in
    record {
      long =
          IfOk-weaker c.pulled_ring.result (λ (ring : Ring). is_long ring ≡ c.in-Some.long) (λ (ring : Ring). FitsKeyGroup config 0 (is_long ring))
          (λ ring same there. subst (HasLongKeys config 0) (sym same) c.in-Some.ensures.long) c.pulled_ring.ensures.long;
    }
