use Rattle.stored_state.specs.States.{words_bytes}
use Rattle.stored_state.proofs.Words.{put-state}
use Rattle.stored_state.proofs.writing.put_state.Goals as goal

pub returns : goal.returns
returns c =
    put-state c.args.bytes.now c.copy_from_slice.new.self c.copy_from_slice-2.new.self c.put_words.new.bytes c.copy_from_slice-3.new.self c.digest-sum.result c.args.state.now.fingerprint
    (words_bytes c.args.state.now.words) c.copy_from_slice.ensures.after c.copy_from_slice-2.ensures.after c.put_words.ensures c.digest-sum.ensures c.copy_from_slice-3.ensures.after c.told-bytes
    c.copy_from_slice-2.auto.self c.put_words.auto.bytes
