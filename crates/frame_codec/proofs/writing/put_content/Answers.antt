use Rattle.std.proofs.Common.{◌≡◌, ◌∙◌, ◌<◌, ◌^◌, ℕ, List, ◌++◌, length, ap, sym, subst}
use Rattle.std.specs.Int.{w16, to_le_bytes}
use Rattle.ua_binary.specs.Writing.{Puts}
use Rattle.ua_binary.proofs.Laying.{Puts-then}
use Rattle.dataset_meta.specs.declared.field.Field.{Field}
use Rattle.row_words.specs.Belonging.{row_in}
use Rattle.row_words.specs.Patches.{IsPatchOf, patch_in}
use Rattle.frame_codec.specs.Spelling.{values_bytes, changes_bytes}
use Rattle.frame_codec.proofs.Laid.{length-row_in, count_ones-marked}
use Rattle.frame_codec.proofs.writing.put_content.Goals as goal

pub returns-in-Whole : goal.returns-in-Whole
returns-in-Whole c =
    let fields = c.args.meta.now.fields in
    let row = row_in fields c.in-Whole.row.words in
    let count : length c.fields.result.now ≡ length row = ap (λ (all : List Field). length all) c.fields.ensures.fields ∙ sym (length-row_in fields c.in-Whole.row.words) in
    rw c.in-Whole.is
    (subst (λ (n : ℕ). Puts c.args.pen.now c.put_row.new.pen (to_le_bytes w16 n ++ values_bytes c.args.meta.now.quality row)) count
    (Puts-then c.args.pen.now c.put_u16.new.self c.put_row.new.pen _ _ c.put_u16.ensures c.put_row.ensures))

pub returns-in-Change : goal.returns-in-Change
unfolding patch_in
returns-in-Change c =
    let fields = c.args.meta.now.fields in
    let patch = c.in-Change.patch in
    let row = row_in fields patch.row.words in
    let of : IsPatchOf c.args.meta.now patch = rw c.in-Change.is at c.requires.of in
    let below = subst (λ (n : ℕ). patch.mask < 2 ^ n) (sym (length-row_in fields patch.row.words)) of.marks in
    rw c.in-Change.is
    (subst (λ (n : ℕ). Puts c.args.pen.now c.put_patch.new.pen (to_le_bytes w16 n ++ changes_bytes c.args.meta.now.quality (patch_in fields patch))) (count_ones-marked row patch.mask below)
    (Puts-then c.args.pen.now c.put_u16-in-Change.new.self c.put_patch.new.pen _ _ c.put_u16-in-Change.ensures c.put_patch.ensures))
