use Rattle.std.proofs.Common.{refl, sym, ap, ◌∙◌, None}
use Rattle.ps_config.specs.Rooms.{header_settings}
use Rattle.writer_group.specs.declared.settings.Rooms.{Rooms}
use Rattle.writer_group.proofs.PostLaws.{are-parts, is-filled, made-within, may-post, nothing-filled}
use Rattle.writer_group.proofs.group.Group.make.Goals as goal

pub post_open-requires-clause-post : goal.post_open-requires-clause-post
post_open-requires-clause-post c =
    let config = c.args.config.now in
    let part = c.args.group.now in
    let bytes = c.args.bytes.now in
    let are = are-parts config part c.args.self.now bytes bytes c.args.self.now.rooms.chunk c.new-parts.result
    c.new-parts.ensures.publisher (ap header_settings c.new-parts.ensures.group) c.new-parts.ensures.made c.new-parts.ensures.written (ap (λ (r : Rooms). r.chunk) c.requires.may.may.made_for.rooms) refl in
    may-post config part _ c.args.self.now bytes c.args.loads.now c.new-parts.result _ c.requires.may.may are refl refl

pub post_open-requires-clause-room : goal.post_open-requires-clause-room
post_open-requires-clause-room c =
    let config = c.args.config.now in
    let part = c.args.group.now in
    let bytes = c.args.bytes.now in
    let are = are-parts config part c.args.self.now bytes bytes c.args.self.now.rooms.chunk c.new-parts.result
    c.new-parts.ensures.publisher (ap header_settings c.new-parts.ensures.group) c.new-parts.ensures.made c.new-parts.ensures.written (ap (λ (r : Rooms). r.chunk) c.requires.may.may.made_for.rooms) refl in
    made-within config part None c.args.self.now bytes bytes c.args.free.now c.args.frames.now c.args.self.now.rooms.chunk c.args.loads.now
    c.new-parts.result are c.requires.may

pub returns-clause-filled : goal.returns-clause-filled
returns-clause-filled c =
    let config = c.args.config.now in
    let part = c.args.group.now in
    let bytes = c.args.bytes.now in
    let are = are-parts config part c.args.self.now bytes bytes c.args.self.now.rooms.chunk c.new-parts.result
    c.new-parts.ensures.publisher (ap header_settings c.new-parts.ensures.group) c.new-parts.ensures.made c.new-parts.ensures.written (ap (λ (r : Rooms). r.chunk) c.requires.may.may.made_for.rooms) refl in
    is-filled config part None c.args.self.now bytes bytes c.args.free.now c.post_open.new.free c.args.frames.now c.args.self.now.rooms.chunk c.args.loads.now c.post_open.new.ranges.items
    c.new-parts.result are c.post_open.ensures.laid c.post_open.ensures.ranges c.post_open.ensures.written

pub returns-then-is_empty-clause-filled : goal.returns-then-is_empty-clause-filled
returns-then-is_empty-clause-filled c =
    nothing-filled c.args.config.now c.args.group.now None c.args.self.now c.args.bytes.now c.args.free.now c.args.frames.now c.args.loads.now c.args.ranges.now.items
    c.requires.empty (sym c.is_empty.ensures ∙ c.if-is_empty.true)
