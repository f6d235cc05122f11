use Rattle.std.proofs.Common.{All, take}
use Rattle.ps_config.proofs.types.all_have_their_types.Given as goal

abbrev pub invariant-loop-part : goal.invariant-loop-part
invariant-loop-part g l = All g.T.Typed.has_types (take l.part-index l.parts)
