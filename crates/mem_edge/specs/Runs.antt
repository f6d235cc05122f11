-- What the calls of a link in memory do.
use Rattle.std.specs.Prelude.{◌≡◌, ◌≢◌, ◌↔◌, ℕ, false, IsTrue, List, [], ◌∷◌, length}
use Rattle.mem_edge.specs.declared.memory_link.MemoryLink.{MemoryLink}
use Rattle.ua_base.specs.declared.link.Received.{Received}
use Rattle.ua_base.specs.declared.link.Received.TheVariants as received
use Rattle.ua_base.specs.declared.link.Sent.{Sent as SentEnd}
use Rattle.ua_base.specs.declared.link.Sent.TheVariants as sent
use Rattle.ua_base.specs.Journal.{Tells}
use Rattle.ua_base.specs.Net.{Receives, FitsBuffer}
use Rattle.mem_edge.specs.Calls.{next_call}
use Rattle.mem_edge.specs.MemoryLinks.{told_by, fates_of, made_by, receives_made, fails_sending, fails_receiving, SendsInMemory}
use Rattle.mem_edge.specs.Standings.{Settings, Call, Send, Unsent, Receive}

abbrev pub settings_of : MemoryLink → Settings
settings_of link = record { making = made_by link; fates = fates_of link }

-- what a send does beside what every link's does
pub record AnswersSend (datagram : List ℕ) (result : SentEnd) (old new : MemoryLink) : Type 0 where
  pub adds : SendsInMemory datagram result old new
  pub failed : result ≡ sent.Failed → IsTrue (fails_sending old)
  pub done : result ≡ sent.Done → fails_sending old ≡ false
  pub receives : receives_made new ≡ receives_made old
  pub making : made_by new ≡ made_by old
  pub fates : fates_of new ≡ fates_of old

-- what a receive does; `into` is the buffer after the call
pub record AnswersReceive (result : Received) (into : List ℕ) (old new : MemoryLink) : Type 0 where
  pub entry : Tells (told_by old) (told_by new) (Receives result into)
  pub sizes : FitsBuffer result into
  pub failed : (result ≡ received.Failed) ↔ IsTrue (fails_receiving old)
  pub receives : receives_made new ≡ next_call (receives_made old)
  pub making : made_by new ≡ made_by old
  pub fates : fates_of new ≡ fates_of old

-- the link answered a call
abbrev pub Answers : Call → MemoryLink → MemoryLink → Type 0
Answers (Send datagram) old new = (result : SentEnd) × (result ≢ sent.Memory) × AnswersSend datagram result old new
Answers (Unsent datagram) old new = AnswersSend datagram sent.Memory old new
Answers (Receive room) old new = (result : Received) × (into : List ℕ) × (length into ≡ room) × AnswersReceive result into old new

-- it answered these, one after another
abbrev pub AnswersAll : List Call → MemoryLink → MemoryLink → Type 0
AnswersAll [] old new = new ≡ old
AnswersAll (call ∷ calls) old new = (next : MemoryLink) × Answers call old next × AnswersAll calls next new
