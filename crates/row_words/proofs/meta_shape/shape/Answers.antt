use Rattle.std.proofs.Common.{Bool, List, map, ap, ◌∙◌}
use Rattle.dataset_meta.specs.declared.field.Field.{Field}
use Rattle.row_words.specs.Digits.{grouped}
use Rattle.row_words.specs.Shapes.{shape_of, code_of}
use Rattle.row_words.proofs.meta_shape.shape.Goals as goal

pub returns : goal.returns
unfolding shape_of
returns c =
    c.write_codes.ensures ∙ ap (λ (fields : List Field). grouped 65536 4 16 (map (code_of c.quality.result) fields)) c.fields.ensures.fields
    ∙ ap (λ (quality : Bool). grouped 65536 4 16 (map (code_of quality) c.args.meta.now.fields)) c.quality.ensures
