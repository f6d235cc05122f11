use Rattle.std.proofs.Common.{le-leb, ◌∙◌, arith}
use Rattle.device.proofs.Dues.{not-come}
use Rattle.device.proofs.listening.reader_due.Goals as goal

pub returns-in-None : goal.returns-in-None
returns-in-None c = λ t low high setting plain stands. c.in-None.ensures setting plain stands t high

pub returns-in-Some : goal.returns-in-Some
returns-in-Some c =
    let moment = c.in-Some.moment in
    record {
      from_now = omega (arith, c.max.ensures);
      within = c.max.type_inv;
      calm = λ t low below setting plain stands. c.in-Some.ensures setting plain stands t ∙ not-come moment t (omega (arith, c.max.ensures, low, below));
      due = λ setting plain stands. c.in-Some.ensures setting plain stands c.max.result ∙ le-leb moment c.max.result (omega (arith, c.max.ensures));
    }
