-- The small session of a signed group, with a ring at its end, is a life that the laws of lives speak of.
use Rattle.std.proofs.Common.{◌≡◌, refl, sym, ap, subst, ◌<◌, lit<, List, [], ◌∷◌, length, map}
use Rattle.std.specs.Prelude.{◌^◌}
use Rattle.std.proofs.lemmas.List.Elements.{All-cons, All-nil}
use Rattle.group_keys.specs.declared.key_set.KeySet.{KeySet}
use Rattle.ps_config.specs.Rings.{key_set}
use Rattle.group_laws.specs.Witness.{three_config, three_key, three_keys}
use Rattle.session_model.specs.Counts.{most_ticks}
use Rattle.session_model.specs.Keeping.{AreSteps, AreStepsOf}
use Rattle.session_model.specs.Lives.{Stepped, steps_in}
use Rattle.session_model.specs.Steps.{Step}
use Rattle.session_laws.specs.Renewals.{HasShortTokens, HaveShortTokens, renewed_life}
use Rattle.session_laws.specs.Sessions.{AreVersions, SamplesRise}
use Rattle.session_laws.specs.Witness.{three_plan, three_rows, three_session}

same-steps : (steps : List Step) → steps_in (map Stepped steps) ≡ steps
same-steps [] = refl
same-steps (step ∷ before) = ap (λ (l : List Step). step ∷ l) (same-steps before)

pub life-steps : AreSteps three_plan three_session → AreStepsOf most_ticks three_plan (steps_in renewed_life)
life-steps are = subst (λ (steps : List Step). AreStepsOf most_ticks three_plan steps) (sym (same-steps three_session)) are

pub life-rise : SamplesRise three_plan three_session → SamplesRise three_plan (steps_in renewed_life)
life-rise rise = subst (λ (steps : List Step). SamplesRise three_plan steps) (sym (same-steps three_session)) rise

pub life-versions : AreVersions three_plan three_session three_rows → AreVersions three_plan (steps_in renewed_life) three_rows
life-versions versions = subst (λ (steps : List Step). AreVersions three_plan steps three_rows) (sym (same-steps three_session)) versions

no-rings : (steps : List Step) → HasShortTokens (map Stepped steps)
no-rings [] = tt
no-rings (step ∷ before) = no-rings before

ring-short : HaveShortTokens (map key_set three_keys.key)
unfolding three_keys three_key
ring-short = All-cons (λ (set : KeySet). set.token < 2 ^ 32) (key_set three_key) [] (lit< tt) (All-nil (λ (set : KeySet). set.token < 2 ^ 32))

pub life-short : HasShortTokens renewed_life
life-short = (ring-short, no-rings three_session)

pub life-there : 0 < length three_plan.config.keygroup
unfolding three_plan three_config
life-there = lit< tt
