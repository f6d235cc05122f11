use Rattle.std.proofs.Common.{◌∷◌, ◌∙◌, ap, subst}
use Rattle.ua_binary.specs.Writing.{Puts}
use Rattle.ua_binary.specs.Spelling.{plain}
use Rattle.ua_binary.specs.Types.{type_of}
use Rattle.ua_binary.proofs.Laying.{Puts-then}
use Rattle.ua_binary.proofs.writing.put_variant.Goals as goal

pub returns : goal.returns
returns c =
    let number = c.number_of.ensures ∙ ap type_of c.kind.ensures in
    subst (λ n. Puts c.args.pen.now c.put_plain.new.pen (n ∷ plain c.args.value.now)) number (Puts-then c.args.pen.now c.put_u8.new.self c.put_plain.new.pen _ _ c.put_u8.ensures c.put_plain.ensures)
