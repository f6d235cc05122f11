-- What stored bytes tell C.
use Rattle.std.specs.Prelude.{◌≡◌, ◌⊎◌, ℕ, ◌≤◌, ◌%◌, ◌^◌, List, Result}
use Rattle.stored_state.specs.declared.state.StoredState.{StoredState}
use Rattle.stored_state.specs.States.{IsState, written}
use Rattle.device.specs.Restarts.{AreDamaged}
use Rattle.device.specs.Storing.{message_word, pair_in}
use Rattle.uapubsub_c.specs.Answers.{Answers}
use Rattle.uapubsub_c.specs.declared.states.TheConstants.{MOST_GROUPS, MOST_KEYGROUPS, MOST_WRITERS}
use Rattle.uapubsub_c.specs.declared.status.Status.{Status}
use Rattle.uapubsub_c.specs.declared.status.Status.TheVariants.{Damaged, Index}

-- the bytes are those of a state, of whose numbers this holds
pub record AreOfState (bytes : List ℕ) (says : List ℕ → Type 0) : Type 0 where
  pub state : StoredState
  pub is_state : IsState state
  pub bytes_are : bytes ≡ written state
  pub so : says state.words

-- the bytes are those of no state; or it is so with the indexes
abbrev pub IsUntold : List ℕ → Type 0 → Status → Type 0
IsUntold bytes wrong Damaged = AreDamaged bytes
IsUntold bytes wrong Index = wrong
IsUntold bytes wrong other = ⊥

-- a state has no key group with this index
abbrev pub HasNoPair : ℕ → Type 0
HasNoPair keygroup = MOST_KEYGROUPS ≤ keygroup

abbrev pub TellsToken : ℕ → List ℕ → Result ℕ Status → Type 0
TellsToken keygroup bytes answer =
    Answers (λ token. AreOfState bytes (λ words. token ≡ (pair_in words keygroup).0)) (IsUntold bytes (HasNoPair keygroup)) answer

abbrev pub TellsUsed : ℕ → List ℕ → Result ℕ Status → Type 0
TellsUsed keygroup bytes answer =
    Answers (λ used. AreOfState bytes (λ words. used ≡ (pair_in words keygroup).1)) (IsUntold bytes (HasNoPair keygroup)) answer

-- a state has no writer with these indexes
abbrev pub HasNoMessage : ℕ → ℕ → Type 0
HasNoMessage group writer = (MOST_GROUPS ≤ group) ⊎ (MOST_WRITERS ≤ writer)

-- of the number 16 bits count
abbrev pub TellsMessage : ℕ → ℕ → List ℕ → Result ℕ Status → Type 0
TellsMessage group writer bytes answer =
    Answers (λ number. AreOfState bytes (λ words. number ≡ message_word words group writer % 2 ^ 16)) (IsUntold bytes (HasNoMessage group writer)) answer
