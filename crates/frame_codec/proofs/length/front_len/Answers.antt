use Rattle.frame_codec.specs.Words.{frame_in}
use Rattle.frame_codec.proofs.Lengths.{front_len}
use Rattle.frame_codec.proofs.length.front_len.Goals as goal

pub returns-clause-len : goal.returns-clause-len
returns-clause-len c = λ encoding fields.
    let whole = front_len encoding (frame_in fields c.args.frame.now) c.flags_len.result (c.flags_len.ensures.len fields) in
    cc
