use Rattle.std.proofs.Common.{length, refl, sym, ap, ◌∙◌, Some}
use Rattle.message_guard.specs.declared.mode.Mode.{Mode}
use Rattle.message_guard.specs.Modes.{is_secured}
use Rattle.writer_group.specs.Sealing.{advanced_by}
use Rattle.ps_config.specs.Rooms.{header_settings}
use Rattle.writer_group.specs.declared.settings.Rooms.{Rooms}
use Rattle.writer_group.proofs.PostLaws.{are-parts, is-filled, made-within, may-post, never-advanced, nothing-filled}
use Rattle.writer_group.proofs.Posts.{secured-mode}
use Rattle.writer_group.proofs.group.Group.make_sealed.Goals as goal

pub post_secured-requires-clause-post : goal.post_secured-requires-clause-post
post_secured-requires-clause-post c =
    let config = c.args.config.now in
    let part = c.args.group.now in
    let bytes = c.args.bytes.now in
    let are = are-parts config part c.args.self.now bytes bytes c.args.self.now.rooms.chunk c.new-parts.result
    c.new-parts.ensures.publisher (ap header_settings c.new-parts.ensures.group) c.new-parts.ensures.made c.new-parts.ensures.written (ap (λ (r : Rooms). r.chunk) c.requires.may.may.made_for.rooms) refl in
    may-post config part _ c.args.self.now bytes c.args.loads.now c.new-parts.result _ c.requires.may.may are refl refl

pub post_secured-requires-clause-room : goal.post_secured-requires-clause-room
post_secured-requires-clause-room c =
    let config = c.args.config.now in
    let part = c.args.group.now in
    let bytes = c.args.bytes.now in
    let are = are-parts config part c.args.self.now bytes bytes c.args.self.now.rooms.chunk c.new-parts.result
    c.new-parts.ensures.publisher (ap header_settings c.new-parts.ensures.group) c.new-parts.ensures.made c.new-parts.ensures.written (ap (λ (r : Rooms). r.chunk) c.requires.may.may.made_for.rooms) refl in
    made-within config part (Some c.args.sender.now) c.args.self.now bytes bytes c.args.free.now c.args.frames.now c.args.self.now.rooms.chunk c.args.loads.now
    c.new-parts.result are c.requires.may

pub returns-clause-filled : goal.returns-clause-filled
returns-clause-filled c =
    let config = c.args.config.now in
    let part = c.args.group.now in
    let bytes = c.args.bytes.now in
    let are = are-parts config part c.args.self.now bytes bytes c.args.self.now.rooms.chunk c.new-parts.result
    c.new-parts.ensures.publisher (ap header_settings c.new-parts.ensures.group) c.new-parts.ensures.made c.new-parts.ensures.written (ap (λ (r : Rooms). r.chunk) c.requires.may.may.made_for.rooms) refl in
    is-filled config part (Some c.args.sender.now) c.args.self.now bytes bytes c.args.free.now c.post_secured.new.free c.args.frames.now c.args.self.now.rooms.chunk c.args.loads.now c.post_secured.new.ranges.items
    c.new-parts.result are c.post_secured.ensures.laid c.post_secured.ensures.ranges c.post_secured.ensures.written

pub returns-clause-sender : goal.returns-clause-sender
returns-clause-sender c =
    c.post_secured.ensures.sender ∙ ap (λ (mode : Mode). advanced_by mode c.args.sender.now (length c.args.loads.now)) c.mode_of-mode.ensures

pub returns-then-is_empty-clause-filled : goal.returns-then-is_empty-clause-filled
returns-then-is_empty-clause-filled c =
    nothing-filled c.args.config.now c.args.group.now (Some c.args.sender.now) c.args.self.now c.args.bytes.now c.args.free.now c.args.frames.now c.args.loads.now c.args.ranges.now.items
    c.requires.empty (sym c.is_empty.ensures ∙ c.if-is_empty.true)

pub returns-then-is_empty-clause-sender : goal.returns-then-is_empty-clause-sender
returns-then-is_empty-clause-sender c = never-advanced _ c.args.sender.now c.args.loads.now (sym c.is_empty.ensures ∙ c.if-is_empty.true)

pub post_secured-requires-clause-secured : goal.post_secured-requires-clause-secured
post_secured-requires-clause-secured c = ap is_secured c.mode_of-mode.ensures ∙ secured-mode c.args.group.now.security c.requires.may.may.sender_is.there
