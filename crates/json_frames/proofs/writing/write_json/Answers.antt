use Rattle.std.proofs.Common.{◌≤◌, Some, sym, ap, subst, ◌∙◌, arith}
use Rattle.serde_json.specs.Data.{Data, depth}
use Rattle.serde_json.specs.Written.{has_float, compact_text}
use Rattle.json_frames.specs.Parts.{parts_in}
use Rattle.json_frames.specs.Written.{message_json}
use Rattle.json_frames.proofs.Plain.{message_plain}
use Rattle.json_frames.proofs.Values.{a_value}
use Rattle.json_frames.proofs.writing.write_json.Goals as goal

pub returns-clause-text : goal.returns-clause-text
returns-clause-text c =
    let parts = parts_in c.args.metas.now c.args.message.now.parts in
    let plain = message_plain c.args.metas.now c.args.message.now.id c.args.message.now.publisher parts in
    c.in_ok-to_vec.ensures.text (ap has_float c.in_ok-json.ensures ∙ plain.floats) ∙ ap compact_text c.in_ok-json.ensures

pub returns-clause-value : goal.returns-clause-value
returns-clause-value c =
    let parts = parts_in c.args.metas.now c.args.message.now.parts in
    let whole = message_json c.args.metas.now c.args.message.now.id c.args.message.now.publisher parts in
    let plain = message_plain c.args.metas.now c.args.message.now.id c.args.message.now.publisher parts in
    let five : depth whole ≤ 5 = plain.deep in
    let low : depth whole ≤ 127 = omega arith in
    a_value c.in_ok-to_vec.field-0.items whole c.in_ok-to_vec.ensures.utf8
    (c.in_ok-to_vec.ensures.reads_back (subst (λ (d : Data). depth d ≤ 127) (sym c.in_ok-json.ensures) low) ∙ ap Some c.in_ok-json.ensures)
