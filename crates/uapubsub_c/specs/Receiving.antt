-- What C sees of what readers received, and of what read groups accepted last.
use Rattle.std.specs.Prelude.{◌≡◌, ℕ, None, Some, Result, is_some, unwrap_or}
use Rattle.reader_group.specs.declared.notice.Notice.{Notice}
use Rattle.reader_group.specs.declared.receipt.TokenNumber.{TokenNumber}
use Rattle.device.specs.Readings.{HasLastTaken, IsNoticeFor}
use Rattle.device.specs.declared.subscriber.Subscriber.{Subscriber}
use Rattle.uapubsub_c.specs.Answers.{Answers}
use Rattle.uapubsub_c.specs.Listing.{truth_number}
use Rattle.uapubsub_c.specs.Reading.{HasNoReadGroup, IsAbsent}
use Rattle.uapubsub_c.specs.declared.receiving.LastTakenWords.{LastTakenWords}
use Rattle.uapubsub_c.specs.declared.receiving.ReceivedWords.{ReceivedWords}
use Rattle.uapubsub_c.specs.declared.status.Status.{Status}
use Rattle.uapubsub_c.specs.declared.status.Status.TheVariants.{Index, Nothing}

abbrev pub received_words : Notice → ReceivedWords
received_words notice = record {
  lost = notice.lost;
  stored = notice.stored;
  seen = unwrap_or notice.seen 0;
  has_seen = truth_number (is_some notice.seen);
}

-- what is noted of the reader
pub record HasReceived (group reader : ℕ) (subscriber : Subscriber) (words : ReceivedWords) : Type 0 where
  pub notice : Notice
  pub noted : IsNoticeFor group reader subscriber notice
  pub words_are : words ≡ received_words notice

abbrev pub TellsReceived : ℕ → ℕ → Subscriber → Result ReceivedWords Status → Type 0
TellsReceived group reader subscriber answer = Answers (HasReceived group reader subscriber) (IsAbsent group reader subscriber) answer

-- the token and the number of the last datagram that the read group accepted under a security header
pub record HasLastWords (group : ℕ) (subscriber : Subscriber) (words : LastTakenWords) : Type 0 where
  pub pair : TokenNumber
  pub is : HasLastTaken group subscriber (Some pair)
  pub token : words.token ≡ pair.token
  pub number : words.number ≡ pair.number

-- there is no such read group; or it accepted none so
abbrev pub TookNone : ℕ → Subscriber → Status → Type 0
TookNone group subscriber Index = HasNoReadGroup group subscriber
TookNone group subscriber Nothing = HasLastTaken group subscriber None
TookNone group subscriber other = ⊥

abbrev pub TellsLastTaken : ℕ → Subscriber → Result LastTakenWords Status → Type 0
TellsLastTaken group subscriber answer = Answers (HasLastWords group subscriber) (TookNone group subscriber) answer
