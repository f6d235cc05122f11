use Rattle.std.proofs.Common.{◌≡◌, ◌+◌, ◌++◌, length, ap, subst, ◌∙◌, arith, length-append}
use Rattle.ua_binary.specs.Writing.{laid}
use Rattle.uadp_header.specs.Headers.{HeaderValue, IdsValue, header_in, if_there, security_in}
use Rattle.uadp_header.specs.Spelling.{IsWritten, header_bytes}
use Rattle.writer_group.specs.Envelopes.{numbered_header}
use Rattle.writer_group.specs.Holding.{cargo_in, envelope_in, numbering_of, payload_in}
use Rattle.writer_group.specs.Posting.{load_header}
use Rattle.writer_group.proofs.LeadLaws.{begins}
use Rattle.writer_group.proofs.LoadHeaders.{has-header}
use Rattle.writer_group.proofs.posting.lay_out.Goals as goal

pub lay-requires-clause-senders : goal.lay-requires-clause-senders
lay-requires-clause-senders c = c.header-header.ensures.written.senders

pub lay-requires-clause-header : goal.lay-requires-clause-header
lay-requires-clause-header c =
    let e = envelope_in c.args.parts.now in
    let security = if_there security_in c.args.security in
    let is : header_in c.header-header.result ≡ load_header e c.args.index (cargo_in c.args.cargo.now) c.args.load security =
    c.header-header.ensures.header ∙ ap (λ (ids : IdsValue). numbered_header e.publisher e.settings (numbering_of e c.args.index security) ids) c.ids.ensures.ids in
    has-header e c.args.cargo.now c.args.load c.args.index security (header_in c.header-header.result) is c.header-header.ensures.written c.requires.post c.requires.secured

pub lay-requires-clause-lead : goal.lay-requires-clause-lead
lay-requires-clause-lead c =
    let e = envelope_in c.args.parts.now in
    let security = if_there security_in c.args.security in
    let is : header_in c.header-header.result ≡ load_header e c.args.index (cargo_in c.args.cargo.now) c.args.load security =
    c.header-header.ensures.header ∙ ap (λ (ids : IdsValue). numbered_header e.publisher e.settings (numbering_of e c.args.index security) ids) c.ids.ensures.ids in
    begins e c.args.cargo.now c.args.load c.args.index security (header_in c.header-header.result) is c.requires.post.leads

pub lay-requires-clause-room : goal.lay-requires-clause-room
lay-requires-clause-room c =
    let e = envelope_in c.args.parts.now in
    let security = if_there security_in c.args.security in
    let payload = (payload_in (cargo_in c.args.cargo.now) c.args.load).1 in
    let header = load_header e c.args.index (cargo_in c.args.cargo.now) c.args.load security in
    let is : header_in c.header-header.result ≡ header =
    c.header-header.ensures.header ∙ ap (λ (ids : IdsValue). numbered_header e.publisher e.settings (numbering_of e c.args.index security) ids) c.ids.ensures.ids in
    omega (arith, ap (λ (h : HeaderValue). length (header_bytes h)) is, length-append (header_bytes header) payload, c.requires.room)

pub returns-clause-laid : goal.returns-clause-laid
returns-clause-laid c =
    let e = envelope_in c.args.parts.now in
    let security = if_there security_in c.args.security in
    let payload = (payload_in (cargo_in c.args.cargo.now) c.args.load).1 in
    let is : header_in c.header-header.result ≡ load_header e c.args.index (cargo_in c.args.cargo.now) c.args.load security =
    c.header-header.ensures.header ∙ ap (λ (ids : IdsValue). numbered_header e.publisher e.settings (numbering_of e c.args.index security) ids) c.ids.ensures.ids in
    c.lay.ensures.laid ∙ ap (λ (h : HeaderValue). laid c.args.free.now c.args.start (header_bytes h ++ payload)) is

pub returns-clause-header : goal.returns-clause-header
returns-clause-header c =
    let e = envelope_in c.args.parts.now in
    let security = if_there security_in c.args.security in
    let is : header_in c.header-header.result ≡ load_header e c.args.index (cargo_in c.args.cargo.now) c.args.load security =
    c.header-header.ensures.header ∙ ap (λ (ids : IdsValue). numbered_header e.publisher e.settings (numbering_of e c.args.index security) ids) c.ids.ensures.ids in
    subst IsWritten is c.header-header.ensures.written

pub returns-clause-payload : goal.returns-clause-payload
returns-clause-payload c =
    let e = envelope_in c.args.parts.now in
    let security = if_there security_in c.args.security in
    let is : header_in c.header-header.result ≡ load_header e c.args.index (cargo_in c.args.cargo.now) c.args.load security =
    c.header-header.ensures.header ∙ ap (λ (ids : IdsValue). numbered_header e.publisher e.settings (numbering_of e c.args.index security) ids) c.ids.ensures.ids in
    c.lay.ensures.payload ∙ ap (λ (h : HeaderValue). c.args.start + length (header_bytes h)) is

pub returns-clause-end : goal.returns-clause-end
returns-clause-end c =
    let e = envelope_in c.args.parts.now in
    let security = if_there security_in c.args.security in
    let payload = (payload_in (cargo_in c.args.cargo.now) c.args.load).1 in
    let header = load_header e c.args.index (cargo_in c.args.cargo.now) c.args.load security in
    let is : header_in c.header-header.result ≡ header =
    c.header-header.ensures.header ∙ ap (λ (ids : IdsValue). numbered_header e.publisher e.settings (numbering_of e c.args.index security) ids) c.ids.ensures.ids in
    omega (arith, ap (λ (h : HeaderValue). length (header_bytes h)) is, length-append (header_bytes header) payload, c.lay.ensures.payload, c.lay.ensures.end)
