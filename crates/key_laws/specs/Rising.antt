-- Tokens that never fall: those of the pairs that a guard accepts.
use Rattle.std.specs.Prelude.{◌≤◌, List, AllPairs}
use Rattle.message_guard.specs.declared.keys.TokenKeys.{TokenKeys}
use Rattle.message_guard.specs.Acceptance.{AreAcceptableCalls, GuardCall, accepted_in}

-- whatever rings came in between: where each pair was acceptable with the keys of its time, none has a lower token than an earlier one
abbrev pub AcceptsNoLowerToken : List TokenKeys → Type 0
AcceptsNoLowerToken first = (calls : List GuardCall) → AreAcceptableCalls first calls
    → AllPairs (λ pair earlier. earlier.0 ≤ pair.0) (accepted_in calls)
