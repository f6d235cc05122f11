use Rattle.std.proofs.Common.{◌≡◌, ℕ, ◌+◌, ◌<◌, List, Bool, length, get_or, sym, ap, subst, ◌∙◌, arith}
use Rattle.serde_json.specs.View.{view}
use Rattle.serde_json.specs.Find.{get}
use Rattle.dataset_meta.specs.declared.field.Field.{Field}
use Rattle.row_words.specs.declared.patch.Patch.{Patch}
use Rattle.dataset_meta.specs.DataValues.{DataValue}
use Rattle.json_values.specs.Reading.{ReadsField}
use Rattle.json_frames.proofs.FieldNames.{name_is}
use Rattle.json_frames.proofs.Namings.{names_at}
use Rattle.json_frames.proofs.FieldsRead.{AreRead, fields_less, fields_more}
use Rattle.json_frames.proofs.payload.read_fields.Goals as goal
use Rattle.json_frames.proofs.payload.read_fields.Goals.{in-None, in-Some+in-Some-read_field}

pub loop-index-preserved : goal.loop-index-preserved
loop-index-preserved c =
    let meta = c.args.meta.now in
    let p = view c.args.payload.now in
    let i = c.loop-index.index in
    let field = c.index-fields-index.result in
    let all : length c.fields-count.result.now ≡ length meta.fields = ap length c.fields-count.ensures.fields in
    let inside : i < length meta.fields = omega arith in
    let is : field ≡ get_or meta.fields i field = c.index-fields-index.is ∙ ap (λ (xs : List Field). get_or xs i field) c.fields.ensures.fields in
    elim c.match-get.branch [
      | in-None w ↦
          fields_less meta p i c.as_str.result.now c.loop-index.patch c.match-get.patch c.loop-index.whole c.match-get.whole inside
          (c.as_str.ensures.text ∙ name_is meta.fields i field inside is) (sym w.in-None.ensures) w.patch-is w.whole-is c.loop-index.invariant
      | in-Some+in-Some-read_field w ↦
          subst (λ (pt : Patch). AreRead meta p (i + 1) pt c.match-get.whole) (sym w.patch-is)
          (fields_more meta p i field (view w.in-Some.json.now) (record { value = w.in-Some-read_field.value; status = w.in-Some-read_field.status }) c.loop-index.patch w.put.new.self c.loop-index.whole c.match-get.whole inside is
          (ap (λ (n : List ℕ). get n p) (sym c.as_str.ensures.text) ∙ sym w.in-Some.ensures)
          (subst (λ (q : Bool). ReadsField q field (view w.in-Some.json.now) (record { value = w.in-Some-read_field.value; status = w.in-Some-read_field.status })) w.quality.ensures w.in-Some-read_field.ensures) w.put.ensures.of w.put.ensures.put w.whole-is c.loop-index.invariant)
    ]

pub returns-in_default : goal.returns-in_default
returns-in_default c = λ changes names.
    let meta = c.args.meta.now in
    let p = view c.args.payload.now in
    let field = c.index-fields-index.result in
    let d = view c.in-Some.json.now in
    let all : length c.fields-count.result.now ≡ length meta.fields = ap length c.fields-count.ensures.fields in
    let inside : c.loop-index.index < length meta.fields = omega arith in
    let is : field ≡ get_or meta.fields c.loop-index.index field = c.index-fields-index.is ∙ ap (λ (xs : List Field). get_or xs c.loop-index.index field) c.fields.ensures.fields in
    let n = names_at meta.quality p 0 meta.fields changes c.loop-index.index field d names inside is (ap (λ (m : List ℕ). get m p) (sym c.as_str.ensures.text) ∙ sym c.in-Some.ensures) in
    (subst (λ (q : Bool). (x : DataValue) → ¬ ReadsField q field d x) c.quality.ensures c.in_default.ensures) n.0 n.1
