use Rattle.std.proofs.Common.{◌++◌, List, ℕ, length, sym, ap, ◌∙◌, arith}
use Rattle.ua_binary.proofs.Laying.{Puts-then}
use Rattle.uadp_header.proofs.Puttings.{Puts-same}
use Rattle.uadp_header.specs.Headers.{header_in}
use Rattle.writer_group.specs.Leads.{rest_bytes}
use Rattle.writer_group.proofs.LeadLaws.{lead-rest, length-lead}
use Rattle.writer_group.proofs.laying.put_led.Goals as goal

pub put_bytes-requires : goal.put_bytes-requires
put_bytes-requires c = omega (arith, length-lead (header_in c.args.header.now) c.requires.unsecured, ap length c.requires.lead, c.requires.room)

pub put_rest-requires-clause-room : goal.put_rest-requires-clause-room
put_rest-requires-clause-room c =
    omega (
      arith,
      length-lead (header_in c.args.header.now) c.requires.unsecured,
      ap length c.requires.lead,
      c.requires.room,
      c.put_bytes.ensures.moved,
      c.put_bytes.ensures.same_length,
    )

pub returns : goal.returns
returns c =
    let h = header_in c.args.header.now in
    Puts-same c.args.pen.now c.put_rest.new.pen _ _ (Puts-then c.args.pen.now c.put_bytes.new.self c.put_rest.new.pen _ _ c.put_bytes.ensures c.put_rest.ensures)
    (ap (λ (l : List ℕ). l ++ rest_bytes h) c.requires.lead ∙ sym (lead-rest h c.requires.unsecured))
