use Rattle.std.proofs.Common.{ℕ, ◌+◌, ◌-◌, List, get_or, sym, ap, ◌∙◌, arith}
use Rattle.std.specs.Prelude.{slice_range}
use Rattle.writer_group.specs.declared.spelled.SpelledFrame.{SpelledFrame}
use Rattle.writer_group.proofs.LoadBytes.{no_spelled}
use Rattle.writer_group.proofs.StandingFrames.{part-joined, part-within}
use Rattle.writer_group.specs.Holding.{listed}
use Rattle.writer_group.proofs.laying.Cargo.range.Goals as goal

pub returns-clause-bytes : goal.returns-clause-bytes
returns-clause-bytes c =
    let cargo = c.args.self.now in
    let frames = cargo.frames.now in
    let last : ℕ = c.args.first + c.args.count - 1 in
    let is = c.requires.cargo.spelled in
    part-joined cargo.bytes.now frames.end 0 (listed frames) frames.end c.args.first c.args.count no_spelled is.within is.stand c.requires.some c.requires.within
    ∙ ap (λ (l : List SpelledFrame). slice_range cargo.bytes.now (get_or l c.args.first no_spelled).start (get_or l last no_spelled).end) (sym c.list-list.ensures)

pub returns-clause-rising : goal.returns-clause-rising
returns-clause-rising c =
    let cargo = c.args.self.now in
    let frames = cargo.frames.now in
    let last : ℕ = c.args.first + c.args.count - 1 in
    let is = c.requires.cargo.spelled in
    let part = part-within cargo.bytes.now frames.end 0 (listed frames) frames.end c.args.first c.args.count no_spelled is.within is.end_within is.stand c.requires.some c.requires.within in
    omega (
      arith,
      part.rising,
      ap (λ (l : List SpelledFrame). (get_or l c.args.first no_spelled).start) c.list-list.ensures,
      ap (λ (l : List SpelledFrame). (get_or l last no_spelled).end) c.list-list.ensures,
    )

pub returns-clause-within : goal.returns-clause-within
returns-clause-within c =
    let cargo = c.args.self.now in
    let frames = cargo.frames.now in
    let last : ℕ = c.args.first + c.args.count - 1 in
    let is = c.requires.cargo.spelled in
    let part = part-within cargo.bytes.now frames.end 0 (listed frames) frames.end c.args.first c.args.count no_spelled is.within is.end_within is.stand c.requires.some c.requires.within in
    omega (arith, part.within, ap (λ (l : List SpelledFrame). (get_or l last no_spelled).end) c.list-list.ensures)
