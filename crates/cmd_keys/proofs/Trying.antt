-- Keys that are tried one after another.
use Rattle.std.proofs.Common.{◌≡◌, ℕ, ◌+◌, ◌<◌, List, [], ◌∷◌, ◌++◌, length, take, get_or, refl, sym, ap, ◌∙◌, subst}
use Rattle.std.proofs.lemmas.List.{take_more}
use Rattle.group_keys.specs.declared.key_set.KeySet.{KeySet}
use Rattle.message_guard.specs.Guards.{Setup}
use Rattle.cmd_keys.specs.declared.trial.Trial.{Trial}
use Rattle.cmd_keys.specs.Trials.{AreTrials, IsTrial}

trials_more : (setup : Setup) (sets : List KeySet) (trials : List Trial) (set : KeySet) (trial : Trial) → AreTrials setup sets trials → IsTrial setup set trial
    → AreTrials setup (sets ++ set ∷ []) (trials ++ trial ∷ [])
trials_more setup [] trials set trial none is = subst (λ (l : List Trial). AreTrials setup (set ∷ []) (l ++ trial ∷ [])) (sym none) (is, refl)
trials_more setup (first ∷ sets) [] set trial are is = absurd are
trials_more setup (first ∷ sets) (head ∷ trials) set trial are is = (are.0, trials_more setup sets trials set trial are.1 is)

-- the keys up to an index, one more
pub tried_more : (setup : Setup) (sets : List KeySet) (i : ℕ) (set : KeySet) (before after : List Trial) (trial : Trial) → i < length sets → set ≡ get_or sets i set
    → AreTrials setup (take i sets) before → IsTrial setup set trial → after ≡ before ++ trial ∷ [] → AreTrials setup (take (i + 1) sets) after
tried_more setup sets i set before after trial below is are tried after_is =
    let taken = ap (λ (s : KeySet). take i sets ++ s ∷ []) is ∙ sym (take_more sets i set below) in
    subst (AreTrials setup (take (i + 1) sets)) (sym after_is)
    (subst (λ (l : List KeySet). AreTrials setup l (before ++ trial ∷ [])) taken (trials_more setup (take i sets) before set trial are tried))
