use Rattle.std.proofs.Common.{◌+◌, ◌-◌, length, drop, sym, ◌∙◌, arith, length-drop}
use Rattle.std.proofs.lemmas.List.{take_all}
use Rattle.ps_script.proofs.Pieces.{behind_some}
use Rattle.ps_script.proofs.texts.cut.Goals as goal

pub returns-in-Some-clause-rest : goal.returns-in-Some-clause-rest
returns-in-Some-clause-rest c =
    take_all (length c.args.bytes.now - (c.in-Some.index + 1)) (drop (c.in-Some.index + 1) c.args.bytes.now) (omega (arith, length-drop (c.in-Some.index + 1) c.args.bytes.now))
    ∙ sym (behind_some c.args.mark c.args.bytes.now c.in-Some.index (sym c.in-Some.ensures))
