use Rattle.std.proofs.Common.{◌≡◌, ◌+◌, ◌-◌, ◌≤◌, length, refl, sym, ap, subst, ◌∙◌, arith, Some, true}
use Rattle.std.specs.Prelude.{slice_range}
use Rattle.uadp_header.specs.Headers.{SecurityValue}
use Rattle.uadp_header.specs.Spelling.{IsSendersSecurity}
use Rattle.message_guard.specs.Modes.{is_secured}
use Rattle.message_guard.specs.Senders.{MayProtect, SenderState, advanced, front_value, made_of as sealed_of}
use Rattle.ps_config.specs.Headers.{mode_of}
use Rattle.writer_group.specs.Envelopes.{IsSecuredAs}
use Rattle.writer_group.specs.Holding.{cargo_in, envelope_in, settings_in}
use Rattle.writer_group.specs.Numbers.{front_in}
use Rattle.writer_group.specs.Posting.{laid_load}
use Rattle.writer_group.proofs.Posts.{front-senders, fronted-as}
use Rattle.writer_group.proofs.Sealed.{IsLaidOut, laid-out, length-secured, protect-may, protected-laid, sealed-header, signed-end}
use Rattle.writer_group.proofs.posting.secured_datagram.Goals as goal

pub lay_fronted-laid-requires-clause-secured : goal.lay_fronted-laid-requires-clause-secured
lay_fronted-laid-requires-clause-secured c =
    let mode = c.args.mode in
    let settings = settings_in c.args.parts.now in
    let is : front_in c.next-front.result ≡ front_value mode (advanced mode c.args.sender.now) = c.next-front.ensures.front ∙ ap (front_value mode) c.next-front.ensures.sender in
    let secured : is_secured (mode_of settings.security) ≡ true = ap is_secured (sym c.requires.mode) ∙ c.requires.secured in
    subst (λ (f : SecurityValue). IsSecuredAs settings (Some f)) (sym is)
    (fronted-as settings (front_value mode (advanced mode c.args.sender.now)) secured (front-senders mode c.args.sender.now c.requires.sender c.requires.numbers).nonce)

pub lay_fronted-laid-requires-clause-senders : goal.lay_fronted-laid-requires-clause-senders
lay_fronted-laid-requires-clause-senders c =
    let mode = c.args.mode in
    let is : front_in c.next-front.result ≡ front_value mode (advanced mode c.args.sender.now) = c.next-front.ensures.front ∙ ap (front_value mode) c.next-front.ensures.sender in
    subst IsSendersSecurity (sym is) (front-senders mode c.args.sender.now c.requires.sender c.requires.numbers)

pub lay_fronted-laid-requires-clause-room : goal.lay_fronted-laid-requires-clause-room
lay_fronted-laid-requires-clause-room c =
    let mode = c.args.mode in
    let e = envelope_in c.args.parts.now in
    let cargo = cargo_in c.args.cargo.now in
    let is : front_in c.next-front.result ≡ front_value mode (advanced mode c.args.sender.now) = c.next-front.ensures.front ∙ ap (front_value mode) c.next-front.ensures.sender in
    omega (
      arith,
      ap (λ (f : SecurityValue). length (laid_load e c.args.index cargo c.args.load (Some f))) is,
      length-secured e mode (advanced mode c.args.sender.now) c.args.index cargo c.args.load c.requires.mode,
      c.requires.room,
    )

pub slice_bounds-protect-end : goal.slice_bounds-protect-end
slice_bounds-protect-end c =
    let mode = c.args.mode in
    let now = advanced mode c.args.sender.now in
    let e = envelope_in c.args.parts.now in
    let cargo = cargo_in c.args.cargo.now in
    let bytes = c.lay_fronted-laid.new.free in
    let payload = c.lay_fronted-laid.result.0 in
    let end = c.lay_fronted-laid.result.1 in
    let is : front_in c.next-front.result ≡ front_value mode now = c.next-front.ensures.front ∙ ap (front_value mode) c.next-front.ensures.sender in
    let out : IsLaidOut e mode now c.args.index cargo c.args.load c.args.free.now c.args.start bytes payload end =
    laid-out e mode now c.args.index cargo c.args.load c.args.free.now c.args.start bytes payload end (front_in c.next-front.result) is c.requires.mode refl
    c.lay_fronted-laid.ensures.laid c.lay_fronted-laid.ensures.header c.lay_fronted-laid.ensures.payload c.lay_fronted-laid.ensures.end c.requires.room in
    let room : end + 32 ≤ length bytes =
    omega (arith, signed-end e mode now c.args.index cargo c.args.load c.args.free.now c.args.start bytes payload end out, c.requires.room, c.lay_fronted-laid.auto.free) in
    room

pub protect-requires-clause-front : goal.protect-requires-clause-front
protect-requires-clause-front c =
    let mode = c.args.mode in
    let now = advanced mode c.args.sender.now in
    let e = envelope_in c.args.parts.now in
    let cargo = cargo_in c.args.cargo.now in
    let bytes = c.lay_fronted-laid.new.free in
    let payload = c.lay_fronted-laid.result.0 in
    let end = c.lay_fronted-laid.result.1 in
    let is : front_in c.next-front.result ≡ front_value mode now = c.next-front.ensures.front ∙ ap (front_value mode) c.next-front.ensures.sender in
    let out : IsLaidOut e mode now c.args.index cargo c.args.load c.args.free.now c.args.start bytes payload end =
    laid-out e mode now c.args.index cargo c.args.load c.args.free.now c.args.start bytes payload end (front_in c.next-front.result) is c.requires.mode refl
    c.lay_fronted-laid.ensures.laid c.lay_fronted-laid.ensures.header c.lay_fronted-laid.ensures.payload c.lay_fronted-laid.ensures.end c.requires.room in
    subst (λ (s : SenderState). MayProtect mode s (slice_range bytes c.args.start (end + 32)) (payload - c.args.start)) (sym c.next-front.ensures.sender)
    (protect-may e mode now c.args.index cargo c.args.load c.args.free.now c.args.start bytes payload end out)

pub returns-clause-laid : goal.returns-clause-laid
returns-clause-laid c =
    let mode = c.args.mode in
    let now = advanced mode c.args.sender.now in
    let e = envelope_in c.args.parts.now in
    let cargo = cargo_in c.args.cargo.now in
    let bytes = c.lay_fronted-laid.new.free in
    let payload = c.lay_fronted-laid.result.0 in
    let end = c.lay_fronted-laid.result.1 in
    let is : front_in c.next-front.result ≡ front_value mode now = c.next-front.ensures.front ∙ ap (front_value mode) c.next-front.ensures.sender in
    let out : IsLaidOut e mode now c.args.index cargo c.args.load c.args.free.now c.args.start bytes payload end =
    laid-out e mode now c.args.index cargo c.args.load c.args.free.now c.args.start bytes payload end (front_in c.next-front.result) is c.requires.mode refl
    c.lay_fronted-laid.ensures.laid c.lay_fronted-laid.ensures.header c.lay_fronted-laid.ensures.payload c.lay_fronted-laid.ensures.end c.requires.room in
    let sealed : c.protect.new.datagram ≡ sealed_of mode now (slice_range bytes c.args.start (end + 32)) (payload - c.args.start) =
    c.protect.ensures.protected ∙ ap (λ (s : SenderState). sealed_of mode s (slice_range bytes c.args.start (end + 32)) (payload - c.args.start)) c.next-front.ensures.sender in
    protected-laid e mode now c.args.index cargo c.args.load c.args.free.now c.args.start bytes payload end c.protect.new.datagram out sealed

pub returns-clause-end : goal.returns-clause-end
returns-clause-end c =
    let mode = c.args.mode in
    let now = advanced mode c.args.sender.now in
    let e = envelope_in c.args.parts.now in
    let cargo = cargo_in c.args.cargo.now in
    let bytes = c.lay_fronted-laid.new.free in
    let payload = c.lay_fronted-laid.result.0 in
    let end = c.lay_fronted-laid.result.1 in
    let is : front_in c.next-front.result ≡ front_value mode now = c.next-front.ensures.front ∙ ap (front_value mode) c.next-front.ensures.sender in
    let out : IsLaidOut e mode now c.args.index cargo c.args.load c.args.free.now c.args.start bytes payload end =
    laid-out e mode now c.args.index cargo c.args.load c.args.free.now c.args.start bytes payload end (front_in c.next-front.result) is c.requires.mode refl
    c.lay_fronted-laid.ensures.laid c.lay_fronted-laid.ensures.header c.lay_fronted-laid.ensures.payload c.lay_fronted-laid.ensures.end c.requires.room in
    signed-end e mode now c.args.index cargo c.args.load c.args.free.now c.args.start bytes payload end out

pub returns-clause-header : goal.returns-clause-header
returns-clause-header c =
    let mode = c.args.mode in
    let now = advanced mode c.args.sender.now in
    let e = envelope_in c.args.parts.now in
    let cargo = cargo_in c.args.cargo.now in
    let bytes = c.lay_fronted-laid.new.free in
    let payload = c.lay_fronted-laid.result.0 in
    let end = c.lay_fronted-laid.result.1 in
    let is : front_in c.next-front.result ≡ front_value mode now = c.next-front.ensures.front ∙ ap (front_value mode) c.next-front.ensures.sender in
    let out : IsLaidOut e mode now c.args.index cargo c.args.load c.args.free.now c.args.start bytes payload end =
    laid-out e mode now c.args.index cargo c.args.load c.args.free.now c.args.start bytes payload end (front_in c.next-front.result) is c.requires.mode refl
    c.lay_fronted-laid.ensures.laid c.lay_fronted-laid.ensures.header c.lay_fronted-laid.ensures.payload c.lay_fronted-laid.ensures.end c.requires.room in
    sealed-header e mode now c.args.index cargo c.args.load c.args.free.now c.args.start bytes payload end out
