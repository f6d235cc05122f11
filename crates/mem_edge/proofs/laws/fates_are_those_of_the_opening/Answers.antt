use Rattle.std.proofs.Common.{◌≡◌, Bool, true, false, cond, Some, None, ap}
use Rattle.ua_base.specs.Links.{Opening}
use Rattle.mem_edge.proofs.laws.fates_are_those_of_the_opening.Goals as goal

one_opening : (open_now : Bool) (x y : Opening) → cond open_now (Some x) None ≡ Some y → x ≡ y
one_opening true x y is = cc
one_opening false x y is = cc

pub returns : goal.returns
returns c = λ link opening is. ap (λ (o : Opening). o.fates) (one_opening link.is_open (record { port = link.port; fates = link.fates.items }) opening is)
