use Rattle.std.proofs.Common.{◌≡◌, ℕ, List, ap, drop, take, length, sym, ◌∙◌}
use Rattle.std.proofs.lemmas.Bool.{false≢true}
use lib.Pointwise.{pointwise}
use lib.Dec.{eqb}
use Rattle.stored_state.specs.States.{words_in, written}
use Rattle.stored_state.proofs.Words.{same-bytes, same-state, state-read, written-length}
use Rattle.stored_state.proofs.state.StoredState.read.Goals as goal

pub returns-then-bytes-ne-STATE_BYTES-clause-damaged : goal.returns-then-bytes-ne-STATE_BYTES-clause-damaged
returns-then-bytes-ne-STATE_BYTES-clause-damaged c = λ state is same. c.if-bytes-ne-STATE_BYTES.true (ap (λ (l : List ℕ). length l) same ∙ written-length state is)

pub returns-else-eq-clause-damaged : goal.returns-else-eq-clause-damaged
returns-else-eq-clause-damaged c = λ state is same.
    let bytes = c.args.bytes.now in
    let told = c.state_in-state.ensures in
    let read = state-read state is in
    let it : c.state_in-state.result ≡ state =
    same-state c.state_in-state.result state
    (told.fingerprint ∙ ap (λ (l : List ℕ). take 32 (drop 8 l)) same ∙ read.fingerprint)
    (told.words ∙ ap (λ (l : List ℕ). words_in 72 (drop 40 l)) same ∙ read.words) in
    let again : c.as_slice.result.now ≡ bytes = c.as_slice.ensures ∙ c.write-again.ensures ∙ ap written it ∙ sym same in
    false≢true (c.if-eq.ensures ∙ ap (λ (l : List ℕ). pointwise eqb l bytes) again ∙ same-bytes bytes)
