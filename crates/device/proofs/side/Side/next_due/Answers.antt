use Rattle.std.proofs.Common.{inl, arith}
use Rattle.device.proofs.Dues.{due-never, due-not, due-then}
use Rattle.device.proofs.side.Side.next_due.Goals as goal

pub returns-in-None : goal.returns-in-None
returns-in-None c = λ t low high. inl (due-never c.args.config.now c.args.self.now t c.requires.good c.requires.side c.in-None.ensures.never high)

pub returns-in-Some : goal.returns-in-Some
returns-in-Some c =
    let side = c.args.self.now in
    let from = c.in-Some.ensures.from in
    record {
      from_now = omega (arith, c.max.ensures);
      within = c.max.type_inv;
      calm = λ t low below. inl (due-not c.args.config.now side c.in-Some.moment t c.requires.good c.requires.side from (omega (arith, c.max.ensures, low, below)));
      due = record {
        due = due-then side c.in-Some.moment c.max.result from (omega (arith, c.max.ensures));
        may = c.if-not-may_turn.ensures.may;
      };
    }
