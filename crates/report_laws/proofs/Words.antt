-- Words of states and of reasons: each has a length of its own.
use Rattle.std.proofs.Common.{◌≡◌, ℕ, true, List, ◌++◌, length, refl, ap, arith}
use Rattle.std.specs.List.{list_all}
use Rattle.pubsub_model.specs.declared.reading.Why.{Why}
use Rattle.pubsub_model.specs.declared.reading.Why.TheVariants.{Start, Gap, Timeout, NewToken, Jump, Restarted}
use Rattle.pubsub_states.specs.declared.state.State.{State}
use Rattle.pubsub_states.specs.declared.state.State.TheVariants.{Disabled, Paused, Operational, Error, PreOperational}
use Rattle.pubsub_states.specs.States.{word_of}
use Rattle.pubsub_model.specs.WhyWords.{why_word}
use Rattle.report_laws.proofs.Cutting.{Stops, cut, is_visible}

state_visible : (state : State) → list_all is_visible (word_of state) ≡ true
state_visible Disabled = refl
state_visible Paused = refl
state_visible Operational = refl
state_visible Error = refl
state_visible PreOperational = refl

word_once : (one other : State) → length (word_of one) ≡ length (word_of other) → one ≡ other
word_once Disabled Disabled same = refl
word_once Paused Paused same = refl
word_once Operational Operational same = refl
word_once Error Error same = refl
word_once PreOperational PreOperational same = refl
word_once _ _ same = absurd (omega arith)

pub state_cut : (one other : State) (s t : List ℕ) → Stops is_visible s → Stops is_visible t → word_of one ++ s ≡ word_of other ++ t → (one ≡ other) × (s ≡ t)
state_cut one other s t end_s end_t same =
    let parts = cut is_visible (word_of one) (word_of other) s t (state_visible one) (state_visible other) end_s end_t same in
    (word_once one other (ap length parts.0), parts.1)

why_visible : (why : Why) → list_all is_visible (why_word why) ≡ true
unfolding why_word
why_visible Start = refl
why_visible Gap = refl
why_visible Timeout = refl
why_visible NewToken = refl
why_visible Jump = refl
why_visible Restarted = refl

reason_once : (one other : Why) → length (why_word one) ≡ length (why_word other) → one ≡ other
unfolding why_word
reason_once Start Start same = refl
reason_once Gap Gap same = refl
reason_once Timeout Timeout same = refl
reason_once NewToken NewToken same = refl
reason_once Jump Jump same = refl
reason_once Restarted Restarted same = refl
reason_once _ _ same = absurd (omega arith)

pub why_cut : (one other : Why) (s t : List ℕ) → Stops is_visible s → Stops is_visible t → why_word one ++ s ≡ why_word other ++ t → (one ≡ other) × (s ≡ t)
why_cut one other s t end_s end_t same =
    let parts = cut is_visible (why_word one) (why_word other) s t (why_visible one) (why_visible other) end_s end_t same in
    (reason_once one other (ap length parts.0), parts.1)
