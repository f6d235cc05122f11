use Rattle.std.proofs.Common.{◌≡◌, List, true, length, get_or, rules, sym, ap, ◌∙◌, arith}
use Rattle.std.specs.Int.{trailing_zeros, w64}
use Rattle.dataset_meta.specs.declared.field.Field.{Field}
use Rattle.std.specs.Prelude.{slice_set}
use Rattle.row_words.specs.Words.{is_scalar, scalar_in}
use Rattle.row_words.specs.Belonging.{row_in}
use Rattle.frame_codec.specs.Contents.{kept}
use Rattle.row_words.proofs.Marks.{lowest}
use Rattle.frame_codec.proofs.Clearing.{zero_fits, without_lowest}
use Rattle.frame_codec.proofs.content.clear_first.Goals as goal

pub bounds-fields-index : goal.bounds-fields-index
bounds-fields-index c =
    let first = lowest c.args.patch.now.mask (length c.args.meta.now.fields) c.requires.some (search rules) c.requires.of.marks in
    omega (arith, first.within, ap (λ (l : List Field). length l) c.fields.ensures.fields)

pub bounds-fields-index-2 : goal.bounds-fields-index-2
bounds-fields-index-2 c =
    let first = lowest c.args.patch.now.mask (length c.args.meta.now.fields) c.requires.some (search rules) c.requires.of.marks in
    omega (arith, first.within, ap (λ (l : List Field). length l) c.fields.ensures.fields)

pub set_word-requires-clause-index : goal.set_word-requires-clause-index
set_word-requires-clause-index c =
    let first = lowest c.args.patch.now.mask (length c.args.meta.now.fields) c.requires.some (search rules) c.requires.of.marks in
    first.within

pub set_word-requires-clause-word : goal.set_word-requires-clause-word
set_word-requires-clause-word c =
    let fields = c.args.meta.now.fields in
    let first = lowest c.args.patch.now.mask (length fields) c.requires.some (search rules) c.requires.of.marks in
    let field = c.index-fields-index.result in
    let at : field ≡ get_or fields (trailing_zeros w64 c.args.patch.now.mask) field = rw c.fields.ensures.fields at c.index-fields-index.is in
    let scalar : is_scalar field.kind ≡ true = ap (λ (f : Field). is_scalar f.kind) c.index-fields-index.is ∙ sym c.is_scalar.ensures ∙ c.if-is_scalar.true in
    zero_fits fields (trailing_zeros w64 c.args.patch.now.mask) field first.within at scalar

pub returns-then-is_scalar-clause-of : goal.returns-then-is_scalar-clause-of
returns-then-is_scalar-clause-of c =
    let fields = c.args.meta.now.fields in
    let first = lowest c.args.patch.now.mask (length fields) c.requires.some (search rules) c.requires.of.marks in
    let field = c.index-fields-index.result in
    let at : field ≡ get_or fields (trailing_zeros w64 c.args.patch.now.mask) field = rw c.fields.ensures.fields at c.index-fields-index.is in
    let scalar : is_scalar field.kind ≡ true = ap (λ (f : Field). is_scalar f.kind) c.index-fields-index.is ∙ sym c.is_scalar.ensures ∙ c.if-is_scalar.true in
    without_lowest c.args.meta.now c.args.patch.now c.set_word.new.row field c.requires.of first c.set_word.ensures.belongs at scalar
    (c.set_word.ensures.set field ∙ ap (λ (f : Field). slice_set (row_in fields c.args.patch.now.row.words) (trailing_zeros w64 c.args.patch.now.mask) (kept c.args.meta.now.quality (scalar_in f.kind 0) 0)) (sym at))

pub returns-then-is_scalar-clause-fewer : goal.returns-then-is_scalar-clause-fewer
returns-then-is_scalar-clause-fewer c =
    let first = lowest c.args.patch.now.mask (length c.args.meta.now.fields) c.requires.some (search rules) c.requires.of.marks in
    first.fewer
