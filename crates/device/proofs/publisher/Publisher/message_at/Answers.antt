use Rattle.std.proofs.Common.{ℕ, ◌+◌, ◌%◌, ◌<◌, length, ap, subst, arith, ◌∙◌}
use Rattle.std.proofs.lemmas.List.{get_or_read}
use Rattle.writer_group.specs.Standing.{TellsNextNumber}
use Rattle.device.specs.declared.side.Side.{Side}
use Rattle.device.proofs.publisher.Publisher.message_at.Goals as goal

pub returns-in-Some : goal.returns-in-Some
returns-in-Some c =
    let sides = c.args.self.now.sides.items in
    let low : c.args.group < length sides = omega (arith, c.if-group-len.false, c.len.ensures, c.args.self.now.sides.ok.0) in
    λ within d has. record {
      next = c.in-Some.number;
      tells = subst (λ (s : Side). TellsNextNumber s.group c.args.writer c.in-Some.number) (get_or_read sides c.args.group c.index.result.now low c.index.ensures d) c.in-Some.ensures.next;
      is = ap (λ (n : ℕ). (n + c.min.result) % 65536) c.from.ensures ∙ ap (λ (n : ℕ). (c.in-Some.number + n) % 65536) c.min.ensures;
    }
