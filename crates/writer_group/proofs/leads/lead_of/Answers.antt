use Rattle.std.proofs.Common.{◌≡◌, ◌-◌, take, refl, ap, ◌∙◌, arith, None}
use Rattle.uadp_header.specs.Headers.{HeaderValue, header_in, ids_in, publisher_in}
use Rattle.writer_group.specs.Holding.{envelope_in, numbering_of, settings_in}
use Rattle.writer_group.specs.Leads.{first_numbering, lead_bytes}
use Rattle.writer_group.proofs.LeadLaws.{header-short, lead-cut, lead-same, length-lead}
use Rattle.writer_group.proofs.leads.lead_of.Goals as goal

pub lay_whole-end-requires-clause-room : goal.lay_whole-end-requires-clause-room
lay_whole-end-requires-clause-room c =
    let parts = c.args.parts.now in
    header-short (publisher_in parts.publisher) (settings_in parts) (numbering_of (envelope_in parts) 0 None) (ids_in c.args.ids) (header_in c.header-header.result)
    c.header-header.ensures.header c.header-header.ensures.written c.requires.publisher.len c.requires.few

pub overflow_sub-len : goal.overflow_sub-len
overflow_sub-len c =
    let h = header_in c.header-header.result in
    omega (arith, length-lead h (ap (λ (x : HeaderValue). x.security) c.header-header.ensures.header), c.lay_whole-end.ensures.end, c.lay_rest.ensures.end)

pub returns : goal.returns
returns c =
    let parts = c.args.parts.now in
    let h = header_in c.header-header.result in
    let none : h.security ≡ None = ap (λ (x : HeaderValue). x.security) c.header-header.ensures.header in
    let len = c.lay_whole-end.result - c.lay_rest.result in
    ap (take len) c.lay_whole-end.ensures.laid
    ∙ lead-cut _ h len none (omega (arith, c.lay_whole-end.ensures.end, c.lay_rest.ensures.end))
    ∙ ap (λ (x : HeaderValue). lead_bytes x) c.header-header.ensures.header
    ∙ lead-same (publisher_in parts.publisher) (settings_in parts) (numbering_of (envelope_in parts) 0 None) first_numbering (ids_in c.args.ids) (ids_in c.args.ids) refl refl refl
