use Rattle.std.proofs.Common.{◌≡◌, ◌<◌, ◌≤◌, get_or, length}
use Rattle.frame_codec.proofs.Passing.{judged_field, judged_surplus}
use Rattle.frame_codec.proofs.faulty.judge_value.Goals as goal

pub returns-then-from-fields : goal.returns-then-from-fields
returns-then-from-fields c =
    let fields = c.args.meta.now.fields in
    let field = c.index-fields-from.result in
    let at : field ≡ get_or fields c.args.index field = rw (c.fields-then-from-fields.ensures.fields, c.from-then-from-fields.ensures) at c.index-fields-from.is in
    let within : c.args.index < length fields = rw (c.fields.ensures.fields, c.from.ensures) at c.if-from-fields.true in
    judged_field c.args.meta.now.quality c.args.encoding fields c.args.index field c.args.cursor.now c.judge_field.new.cursor c.judge_field.result within at (c.judge_field.ensures c.args.meta.now.quality)

pub returns : goal.returns
returns c =
    let fields = c.args.meta.now.fields in
    let past : length fields ≤ c.args.index = rw (c.fields.ensures.fields, c.from.ensures) at c.if-from-fields.false in
    judged_surplus c.args.meta.now.quality c.args.encoding fields c.args.index c.args.cursor.now c.read_surplus.new.cursor c.read_surplus.result past c.read_surplus.ensures
