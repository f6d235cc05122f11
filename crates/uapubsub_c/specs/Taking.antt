-- A datagram that comes to all read groups.
use Rattle.std.specs.Prelude.{◌≡◌, ℕ, ◌+◌, ◌<◌, ◌≤◌, List, [], ◌∷◌, length, slice_index_or, Option, Some, None, Result, Ok, Err}
use Rattle.device.specs.Takings.{HaveTaken}
use Rattle.device.specs.declared.subscriber.Subscriber.{Subscriber}
use Rattle.device.specs.declared.subscriber.TheConstants.{MOST_BYTES}
use Rattle.reader_group.specs.declared.refusal.Refusal.{Refusal}
use Rattle.reader_group.specs.declared.refusal.Taken.{Taken}
use Rattle.uapubsub_c.specs.Numbers.{refusal_number, status_number}
use Rattle.uapubsub_c.specs.declared.status.Status.{Status}
use Rattle.uapubsub_c.specs.declared.status.Status.TheVariants.{Index, Room}
use Rattle.uapubsub_c.specs.declared.subscribing.TakenWords.{TakenWords}
use Rattle.uapubsub_c.specs.declared.taking.AnswerWords.{AnswerWords}
use Rattle.uapubsub_c.specs.declared.taking.TakingsWords.{TakingsWords}

-- the counts of a datagram that was taken
abbrev pub taken_words : Taken → TakenWords
taken_words taken = record { parts = taken.parts; matched = taken.matched; bad = taken.bad }

abbrev pub no_taken : TakenWords
no_taken = record { parts = 0; matched = 0; bad = 0 }

-- UAP_OK with its counts, why it was refused, or UAP_INDEX where there is no such read group
abbrev pub answer_words : Option (Result Taken Refusal) → AnswerWords
answer_words None = record { status = status_number Index; taken = no_taken }
answer_words (Some (Ok taken)) = record { status = 0; taken = taken_words taken }
answer_words (Some (Err refusal)) = record { status = refusal_number refusal; taken = no_taken }

-- 1 where the datagram was taken
abbrev pub took_number : Option (Result Taken Refusal) → ℕ
took_number (Some (Ok taken)) = 1
took_number other = 0

-- what the read group with this index answered
abbrev pub answer_at : List (Option (Result Taken Refusal)) → ℕ → Option (Result Taken Refusal)
answer_at answers group = slice_index_or answers group None

abbrev pub words_at : List (Option (Result Taken Refusal)) → ℕ → AnswerWords
words_at answers group = answer_words (answer_at answers group)

abbrev pub took_at : List (Option (Result Taken Refusal)) → ℕ → ℕ
took_at answers group = took_number (answer_at answers group)

-- how many took it, and what each answered
abbrev pub takings_words : List (Option (Result Taken Refusal)) → TakingsWords
takings_words answers = record {
  took = took_at answers 0 + took_at answers 1 + took_at answers 2 + took_at answers 3;
  groups = words_at answers 0 ∷ words_at answers 1 ∷ words_at answers 2 ∷ words_at answers 3 ∷ [];
}

-- the datagram comes to the read groups one after another, to each in a copy of its own, and this is told of their answers: none behind the last of them
pub record TakesAll (now : ℕ) (datagram : List ℕ) (words : TakingsWords) (old new : Subscriber) : Type 0 where
  pub answers : List (Option (Result Taken Refusal))
  pub taken : HaveTaken (length old.groups.items) now datagram answers old new
  pub others : (group : ℕ) → length old.groups.items ≤ group → answer_at answers group ≡ None
  pub told : words ≡ takings_words answers

-- it is longer than any datagram, and nothing changed
pub record IsTooLong (datagram : List ℕ) (old new : Subscriber) : Type 0 where
  pub same : new ≡ old
  pub long : MOST_BYTES < length datagram

abbrev pub Takes : ℕ → List ℕ → TakingsWords → Subscriber → Result Unit Status → Subscriber → Type 0
Takes now datagram words old (Ok value) new = TakesAll now datagram words old new
Takes now datagram words old (Err Room) new = IsTooLong datagram old new
Takes now datagram words old (Err other) new = ⊥
