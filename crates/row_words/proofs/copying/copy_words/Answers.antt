use Rattle.std.proofs.Common.{◌≡◌, ◌+◌, ◌-◌, rules, sym, ap, ◌∙◌, get_or}
use borrow.Rule.Slice.PartMut.{put_mid}
use Rattle.dataset_meta.specs.DataValues.{DataValue}
use Rattle.row_words.specs.Belonging.{row_in}
use Rattle.row_words.specs.Setting.{with_value}
use Rattle.row_words.proofs.FieldLaws.{field_copied, stands, Wrote}
use Rattle.row_words.proofs.copying.copy_words.Goals as goal
use Rattle.row_words.proofs.copying.copy_words.Goals.{After-copy_from_slice}

wrote : (c : After-copy_from_slice) (x : DataValue) → x ≡ get_or (row_in c.args.meta.now.fields c.args.from.now.words) c.args.index x
    → Wrote c.args.meta.now c.args.to.now.words c.args.index x.value (put_mid c.from-start.result ((c.from-start.result + c.words.result) - c.from-start.result) c.args.to.now.words c.copy_from_slice.new.self)
wrote c x here =
    field_copied c.args.meta.now c.args.from.now.words c.args.to.now.words c.args.index c.index-fields-from.result x _ _ c.copy_from_slice.new.self c.fields.ensures.meta c.requires.from c.requires.to
    c.requires.index (rw (c.fields.ensures.fields, c.from.ensures) at c.index-fields-from.is) here (search rules) (search rules) (c.copy_from_slice.ensures.after)

pub returns-clause-belongs : goal.returns-clause-belongs
returns-clause-belongs c =
    let s = stands c.args.meta.now c.args.from.now.words c.args.index c.requires.from c.requires.index in (wrote c s.x (sym (s.here s.x))).belongs

pub returns-clause-copied : goal.returns-clause-copied
returns-clause-copied c =
    let s = stands c.args.meta.now c.args.from.now.words c.args.index c.requires.from c.requires.index in
    λ d. (wrote c s.x (sym (s.here s.x))).set ∙ ap (λ (x : DataValue). with_value (row_in c.args.meta.now.fields c.args.to.now.words) c.args.index x.value) (sym (s.here d))
