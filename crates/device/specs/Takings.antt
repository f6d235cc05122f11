-- A datagram that comes to all read groups at once.
use Rattle.std.specs.Prelude.{◌≡◌, ℕ, zero, suc, ◌≤◌, Bool, true, false, List, slice_index_or, Option, Some, None, Result, Ok, Err}
use Rattle.reader_group.specs.declared.refusal.Refusal.{Refusal}
use Rattle.reader_group.specs.declared.refusal.Taken.{Taken}
use Rattle.ps_config.specs.declared.parts.Config.{Config}
use Rattle.reader_group.specs.Filter.{takes_number}
use Rattle.reader_group.specs.Groups.{HadIf}
use Rattle.device.specs.declared.listening.Listening.{Listening}
use Rattle.device.specs.declared.subscriber.Subscriber.{Subscriber}
use Rattle.device.specs.Sides.{HasListened}

-- a read group had the datagram as in `HadIf`, with whatever is left of a copy of it
pub record HadCopy (config : Config) (now : ℕ) (datagram : List ℕ) (old new : Listening) (answer : Result Taken Refusal) : Type 0 where
  pub left : List ℕ
  pub had : HadIf (takes_number old.number datagram) config old.group new.group now old.on.items datagram left answer

-- the read group with this index had the datagram in a copy of its own, as by a call of its own (HasListened), and answered so
pub record HasTaken (group now : ℕ) (datagram : List ℕ) (old new : Subscriber) (answer : Option (Result Taken Refusal)) : Type 0 where
  pub left : List ℕ
  pub given : Result Taken Refusal
  pub answer_is : answer ≡ Some given
  pub listened : HasListened group now datagram left old new given

-- the first read groups, so many, had it so, one after another
abbrev pub HaveTaken : ℕ → ℕ → List ℕ → List (Option (Result Taken Refusal)) → Subscriber → Subscriber → Type 0
HaveTaken zero now datagram answers old new = (new.groups.items ≡ old.groups.items) × (new.config ≡ old.config)
HaveTaken (suc count) now datagram answers old new =
    (mid : Subscriber) × (HaveTaken count now datagram answers old mid × HasTaken count now datagram mid new (slice_index_or answers count None))

-- behind the last read group there is no answer
abbrev pub AnswersNoOthers : ℕ → List (Option (Result Taken Refusal)) → Type 0
AnswersNoOthers count answers = (group : ℕ) → count ≤ group → slice_index_or answers group None ≡ None

-- whether the answer is that the datagram was taken
abbrev pub has_taken : Option (Result Taken Refusal) → Bool
has_taken None = false
has_taken (Some (Ok taken)) = true
has_taken (Some (Err refusal)) = false
