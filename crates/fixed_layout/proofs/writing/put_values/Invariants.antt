use Rattle.std.proofs.Common.{drop}
use Rattle.row_words.specs.Belonging.{row_in}
use Rattle.fixed_layout.specs.Spelling.{raw_row}
use Rattle.fixed_layout.proofs.Laying.{IsLaid}
use Rattle.fixed_layout.proofs.writing.put_values.Given as goal

-- the values so far stand behind one another
abbrev pub invariant-loop-index : goal.invariant-loop-index
invariant-loop-index l =
    let row = row_in l.meta.fields l.row.words in
    IsLaid l.fn.pen l.pen (raw_row (drop l.index l.meta.fields) (drop l.index row)) (raw_row l.meta.fields row)
