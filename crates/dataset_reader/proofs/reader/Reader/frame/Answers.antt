use Rattle.dataset_reader.proofs.NextLaws.{keeps_by-after}
use Rattle.dataset_reader.proofs.reader.Reader.frame.Goals as goal

pub returns-clause-records : goal.returns-clause-records
returns-clause-records c = λ arrivals item next h.
    keeps_by-after c.args.self.now.numbering c.args.meta.now.major arrivals _ _ item _ c.args.stamp c.take-took.ensures.kept next h
