use Rattle.ua_binary.specs.Reading.{rest_of, short}
use Rattle.frame_codec.proofs.ScalarLaws.{status_read, no_status}
use Rattle.frame_codec.proofs.scalar.read_status.Goals as goal

pub returns-in-1-clause-read : goal.returns-in-1-clause-read
returns-in-1-clause-read c = no_status c.args.mask (rest_of c.args.cursor.now) c.in-1.is

pub returns-in-3-clause-read : goal.returns-in-3-clause-read
returns-in-3-clause-read c = rw c.ok.ensures.value (status_read short c.args.mask c.args.cursor.now c.read_u32.new.self c.read_u32.result c.in-3.is c.read_u32.ensures)
