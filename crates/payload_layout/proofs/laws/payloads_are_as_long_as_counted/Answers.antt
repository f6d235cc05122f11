use Rattle.payload_layout.proofs.Counted.{payload-counted, parts-counted}
use Rattle.payload_layout.proofs.laws.payloads_are_as_long_as_counted.Goals as goal

pub returns : goal.returns
returns c = record { frames = payload-counted; parts = parts-counted }
