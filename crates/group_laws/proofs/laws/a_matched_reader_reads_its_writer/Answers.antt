use Rattle.group_laws.proofs.Matched.{its-major, matched-meta, matched-reads}
use Rattle.group_laws.proofs.laws.a_matched_reader_reads_its_writer.Goals as goal

pub returns-clause-reads : goal.returns-clause-reads
returns-clause-reads c = matched-reads

pub returns-clause-meta : goal.returns-clause-meta
returns-clause-meta c = matched-meta

pub returns-clause-major : goal.returns-clause-major
returns-clause-major c = its-major
