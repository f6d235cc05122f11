use Rattle.std.proofs.Common.{◌≡◌, ◌+◌, ◌<◌, ◌^◌, List, ℕ, ap, arith, drop, length, subst, sym, ◌∙◌, All}
use Rattle.std.proofs.lemmas.List.{get_or-drop}
use Rattle.std.proofs.lemmas.Slice.{between_to_end}
use Rattle.stored_state.specs.States.{words_in}
use Rattle.stored_state.proofs.Words.{words-count, words-fit}
use Rattle.stored_state.proofs.reading.state_in.Goals as goal

pub returns-clause-words : goal.returns-clause-words
returns-clause-words c = c.words_in.ensures ∙ ap (λ (l : List ℕ). words_in 72 l) (between_to_end c.args.bytes.now 40 _ (omega (arith, c.requires)))

pub returns-clause-state : goal.returns-clause-state
returns-clause-state c =
    let bytes = c.args.bytes.now in
    let words : c.words_in.result ≡ words_in 72 (drop 40 bytes) =
    c.words_in.ensures ∙ ap (λ (l : List ℕ). words_in 72 l) (between_to_end bytes 40 _ (omega (arith, c.requires))) in
    record {
      fingerprint = c.copy_from_slice.ensures.len;
      count = ap (λ (l : List ℕ). length l) words ∙ words-count 72 (drop 40 bytes);
      words = subst (λ (l : List ℕ). All (λ word. word < 2 ^ 32) l) (sym words)
          (words-fit 72 (drop 40 bytes) (λ i. subst (λ (n : ℕ). n < 256) (sym (get_or-drop 40 bytes i 0)) (c.type_inv.bytes (40 + i)).fits));
    }
