use Rattle.std.proofs.Common.{◌≡◌, ◌+◌, drop, ◌<◌, ◌≤◌, List, length, get_or, sym, ap, ◌∙◌, arith}
use Rattle.serde_json.specs.Data.{object}
use Rattle.serde_json.specs.View.{members_view}
use Rattle.serde_json.proofs.Views.{view-Object}
use Rattle.dataset_meta.specs.declared.field.Field.{Field}
use Rattle.dataset_meta.proofs.RowLaws.{length_row}
use Rattle.row_words.specs.Belonging.{row_in}
use Rattle.row_words.specs.Patches.{marked_from}
use Rattle.json_frames.specs.Written.{with_fields}
use Rattle.json_frames.proofs.FieldNames.{name_is}
use Rattle.json_frames.proofs.Payloads.{field_more, field_less, past_row}
use Rattle.json_frames.proofs.payload.fields_json.Goals as goal
use Rattle.json_frames.proofs.payload.fields_json.Goals.{then-is_marked+in_ok-json+in_ok-put, else-is_marked}

pub loop-index-preserved : goal.loop-index-preserved
loop-index-preserved c =
    let meta = c.args.meta.now in
    let row = row_in meta.fields c.args.row.now.words in
    let i = c.loop-index.index in
    let ms = members_view c.loop-index.members.entries in
    let len : length meta.fields ≡ length row = length_row meta.quality meta.fields row c.requires.row in
    let all : length c.fields-count.result.now ≡ length meta.fields = ap length c.fields-count.ensures.fields in
    let inside : i < length row = omega arith in
    let within : i < length meta.fields = omega arith in
    elim c.if-is_marked.branch [
      | then-is_marked+in_ok-json+in_ok-put w ↦
          field_more meta row c.args.mask i w.as_str-name.result.now _ ms _ _ inside (sym c.is_marked.ensures ∙ w.if-is_marked.true) w.in_ok-json.ensures
          (w.as_str-name.ensures.text ∙ ap (λ (f : Field). f.name) (sym w.index-fields-index.is) ∙ name_is meta.fields i w.index-fields-index.result within
          (w.index-fields-index.is ∙ ap (λ (xs : List Field). get_or xs i w.index-fields-index.result) w.fields.ensures.fields))
          (ap (λ m. members_view m.entries) w.members-is ∙ w.in_ok-put.ensures.ok) c.loop-index.invariant
      | else-is_marked w ↦
          ap (λ m. with_fields meta (marked_from (i + 1) c.args.mask (drop (i + 1) row)) (members_view m.entries)) w.members-is
          ∙ field_less meta row c.args.mask i ms _ inside (sym c.is_marked.ensures ∙ w.if-is_marked.false) c.loop-index.invariant
    ]

pub returns : goal.returns
returns c =
    let meta = c.args.meta.now in
    let row = row_in meta.fields c.args.row.now.words in
    let len : length meta.fields ≡ length row = length_row meta.quality meta.fields row c.requires.row in
    let all : length c.fields-count.result.now ≡ length meta.fields = ap length c.fields-count.ensures.fields in
    let past : length row ≤ c.loop-index.index = omega arith in
    view-Object c.loop-index.members ∙ ap object (past_row meta row c.args.mask c.loop-index.index _ _ past c.loop-index.invariant)
