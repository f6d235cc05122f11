use Rattle.value_texts.proofs.Candidates.{written}
use Rattle.value_texts.proofs.candidate.decoded.Goals as goal

pub returns : goal.returns
returns c = λ list same all is.
    let w = written c.args.digits.now list c.args.bytes.now c.decode_to_slice.new.out c.decode_to_slice.result is all same c.decode_to_slice.ensures.value in
    (rw w.0 at c.is_ok.ensures.value, w.1)
