use Rattle.std.proofs.Common.{◌≡◌, List, ℕ, get_or, ap, ◌∙◌}
use Rattle.writer_group.specs.declared.spelled.SpelledFrame.{SpelledFrame}
use Rattle.writer_group.proofs.LoadBytes.{frame-spelled, frame-within, no_spelled}
use Rattle.writer_group.specs.Holding.{listed}
use Rattle.writer_group.proofs.laying.Cargo.frame.Goals as goal

pub returns-clause-frame : goal.returns-clause-frame
returns-clause-frame c =
    let cargo = c.args.self.now in
    let list = (listed cargo.frames.now) in
    let is : get_or c.list.result.now c.from.result no_spelled ≡ get_or list c.args.index no_spelled =
    ap (λ (l : List SpelledFrame). get_or l c.from.result no_spelled) c.list.ensures ∙ ap (λ (n : ℕ). get_or list n no_spelled) c.from.ensures in
    frame-spelled cargo.bytes.now list c.args.index _ no_spelled c.requires.within is

pub returns-clause-within : goal.returns-clause-within
returns-clause-within c =
    let cargo = c.args.self.now in
    let list = (listed cargo.frames.now) in
    let is : get_or c.list.result.now c.from.result no_spelled ≡ get_or list c.args.index no_spelled =
    ap (λ (l : List SpelledFrame). get_or l c.from.result no_spelled) c.list.ensures ∙ ap (λ (n : ℕ). get_or list n no_spelled) c.from.ensures in
    frame-within cargo.bytes.now cargo.frames.now c.args.index _ no_spelled c.requires.cargo.spelled c.requires.within is
