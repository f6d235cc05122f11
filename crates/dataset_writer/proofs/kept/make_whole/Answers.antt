use Rattle.std.proofs.Common.{sym, subst}
use Rattle.key_delta.specs.Fronts.{HasZerosBehind}
use Rattle.key_delta.proofs.FrontLaws.{opening_behind}
use Rattle.frame_codec.specs.declared.frame.FrameKind.{FrameKind}
use Rattle.dataset_writer.specs.Kinds.{words_of_kind}
use Rattle.dataset_writer.proofs.kept.make_whole.Goals.{then-not-matches, else-not-matches}
use Rattle.dataset_writer.proofs.kept.make_whole.Goals as goal

pub copy_front-requires-clause-to : goal.copy_front-requires-clause-to
copy_front-requires-clause-to c =
    let behind : HasZerosBehind c.args.used (words_of_kind c.if-not-matches.kind) = elim c.if-not-matches.branch [
      | then-not-matches w ↦ subst (λ (k : FrameKind). HasZerosBehind c.args.used (words_of_kind k)) (sym w.kind-is) (opening_behind c.args.used _ w.opening.ensures.zeros)
      | else-not-matches w ↦ subst (λ (k : FrameKind). HasZerosBehind c.args.used (words_of_kind k)) (sym w.kind-is) c.requires.kind
    ] in
    subst (λ (k : FrameKind). HasZerosBehind c.args.used (words_of_kind k)) c.in-Whole-kind.is behind
