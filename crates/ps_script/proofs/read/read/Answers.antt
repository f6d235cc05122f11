use Rattle.ps_script.proofs.Reading.{ended}
use Rattle.ps_script.proofs.read.read.Goals as goal

pub returns-in-Err-clause-refused : goal.returns-in-Err-clause-refused
returns-in-Err-clause-refused c = λ reader.
    ended reader c.args.config.now c.in_ok-given.given.config.now c.args.bytes.now c.args.takes_fates c.in_ok-given.given.takes_fates c.in-Err.end c.in_ok-given.ensures.config c.in_ok-given.ensures.takes_fates (c.in-Err.ensures.refused reader)
