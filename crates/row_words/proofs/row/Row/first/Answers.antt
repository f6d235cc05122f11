use Rattle.row_words.proofs.CutLaws.{first_words}
use Rattle.row_words.proofs.row.Row.first.Goals as goal

pub returns-clause-belongs : goal.returns-clause-belongs
returns-clause-belongs c =
    (first_words c.args.short.now c.args.full.now c.args.self.now.words c.opening-row.result.words c.copy_from_slice.new.self c.cut_statuses.new.to c.split_at_mut-values.result.1.now
    c.value_words-start.result c.value_words.result c.fields-count.ensures.meta c.fields.ensures.meta c.requires.grown c.requires.belongs c.value_words-start.ensures c.value_words.ensures
    c.opening-row.ensures.zeros c.copy_from_slice.ensures.after c.split_at_mut-values.ensures.back (rw c.fields-count.ensures.fields at c.cut_statuses.ensures)).belongs

pub returns-clause-row : goal.returns-clause-row
returns-clause-row c =
    (first_words c.args.short.now c.args.full.now c.args.self.now.words c.opening-row.result.words c.copy_from_slice.new.self c.cut_statuses.new.to c.split_at_mut-values.result.1.now
    c.value_words-start.result c.value_words.result c.fields-count.ensures.meta c.fields.ensures.meta c.requires.grown c.requires.belongs c.value_words-start.ensures c.value_words.ensures
    c.opening-row.ensures.zeros c.copy_from_slice.ensures.after c.split_at_mut-values.ensures.back (rw c.fields-count.ensures.fields at c.cut_statuses.ensures)).row

pub returns-clause-words : goal.returns-clause-words
returns-clause-words c =
    (first_words c.args.short.now c.args.full.now c.args.self.now.words c.opening-row.result.words c.copy_from_slice.new.self c.cut_statuses.new.to c.split_at_mut-values.result.1.now
    c.value_words-start.result c.value_words.result c.fields-count.ensures.meta c.fields.ensures.meta c.requires.grown c.requires.belongs c.value_words-start.ensures c.value_words.ensures
    c.opening-row.ensures.zeros c.copy_from_slice.ensures.after c.split_at_mut-values.ensures.back (rw c.fields-count.ensures.fields at c.cut_statuses.ensures)).words_are
