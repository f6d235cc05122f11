-- What a link in memory tells after a list of calls: it is determined by the calls, by what it was made to do, and by its fates.
use Rattle.std.specs.Prelude.{◌≡◌, ℕ, Bool, false, IsTrue, List, [], ◌∷◌, ◌++◌, length, map, nat_le, fold, if◌then◌else◌, Option, Some, None}
use Rattle.std.proofs.Props.{props}
use Rattle.ua_base.specs.declared.link.Fate.{Fate}
use Rattle.ua_base.specs.Journal.{Entry, Sent, SendFailed, Got, Empty, Long, ReceiveFailed, LinkState}
use Rattle.ua_base.specs.Links.{Making}
use Rattle.mem_edge.specs.Calls.{is_named, next_call}
use Rattle.mem_edge.specs.Queueing.{queued_by}
use Rattle.mem_edge.specs.Sends.{sends_in}

pub record Settings : Type 0 where
  pub making : Making
  pub fates : List (ℕ × Fate)

-- a call of an open link: a send that is answered, one that finds no memory, or a receive with room for so many bytes
pub data Call : Type 0 where
  Send : (datagram : List ℕ) → Call
  Unsent : (datagram : List ℕ) → Call
  Receive : (room : ℕ) → Call

-- what is told, and how many receives there were
pub record Standing : Type 0 where
  pub state : LinkState
  pub receives : ℕ

abbrev pub at_opening : Standing
at_opening = record { state = record { journal = []; waiting = [] }; receives = 0 }

-- a send that its number names fails; another is sent, and queues what it queues behind all that waits
abbrev pub state_sent : Settings → List ℕ → LinkState → LinkState
state_sent settings datagram state =
    let sends = sends_in state.journal in
    if is_named settings.making.send_fails (length sends)
    then record { journal = state.journal ++ SendFailed ∷ []; waiting = state.waiting }
    else record { journal = state.journal ++ Sent datagram ∷ []; waiting = state.waiting ++ queued_by settings.fates settings.making.injected sends datagram }

-- the first that waits is received, if it isn't longer than the room
abbrev pub first_taken : ℕ → List Entry → List (List ℕ) → LinkState
first_taken room journal [] = record { journal = journal ++ Empty ∷ []; waiting = [] }
first_taken room journal (datagram ∷ waiting) =
    record { journal = journal ++ (if nat_le (length datagram) room then Got datagram else Long (length datagram)) ∷ []; waiting = waiting }

-- a receive that its number names fails
abbrev pub state_received : Settings → ℕ → ℕ → LinkState → LinkState
state_received settings number room state =
    if is_named settings.making.receive_fails number
    then record { journal = state.journal ++ ReceiveFailed ∷ []; waiting = state.waiting }
    else first_taken room state.journal state.waiting

abbrev pub after_call : Settings → Standing → Call → Standing
after_call settings standing (Send datagram) = record { state = state_sent settings datagram standing.state; receives = standing.receives }
after_call settings standing (Unsent datagram) = standing
after_call settings standing (Receive room) = record { state = state_received settings standing.receives room standing.state; receives = next_call standing.receives }

-- what is told after these calls from the opening on
abbrev pub state_after : Settings → List Call → LinkState
state_after settings calls = (fold (after_call settings) at_opening calls).state

-- ---- the calls of a journal

-- the call that an entry answers: of an entry that tells no datagram any would do
abbrev pub call_of : Entry → Call
call_of (Sent datagram) = Send datagram
call_of SendFailed = Send []
call_of (Got datagram) = Receive (length datagram)
call_of Empty = Receive 0
call_of (Long len) = Receive 0
call_of ReceiveFailed = Receive 0

-- what these entries' calls leave
abbrev pub standing_of : Settings → List Entry → Standing
standing_of settings journal = fold (after_call settings) at_opening (map call_of journal)

-- The calls of the journal give this journal, and leave what waits: which sends and receives fail, what each receive takes, and what
-- waits in which order is as the settings say.
abbrev pub IsFated : Settings → LinkState → Type 0
IsFated settings state = (standing_of settings state.journal).state ≡ state

abbrev pub settings_with : List (ℕ × List ℕ) → List ℕ → List ℕ → Bool → List (ℕ × Fate) → Settings
settings_with injected send_fails receive_fails open_fails fates =
    record { making = record { injected = injected; send_fails = send_fails; receive_fails = receive_fails; open_fails = open_fails }; fates = fates }

-- what an open link tells is what the calls of its journal leave, of which so many were receives
abbrev pub TellsFated : Settings → ℕ → Option LinkState → Type 0
TellsFated settings receives told = (state : LinkState) → told ≡ Some state → standing_of settings state.journal ≡ record { state = state; receives = receives }

pub TellsFated-prop : (is_open : Bool) (settings : Settings) (receives : ℕ) (told : Option LinkState) → IsProp (IsTrue is_open → TellsFated settings receives told)
TellsFated-prop is_open settings receives told = hlevel props

-- ---- what was delivered

-- what these sends queue behind those before them, in order
abbrev pub queued_from : Settings → List (Option (List ℕ)) → List (Option (List ℕ)) → List (List ℕ)
queued_from settings before [] = []
queued_from settings before (None ∷ sends) = queued_from settings (before ++ None ∷ []) sends
queued_from settings before (Some datagram ∷ sends) =
    queued_by settings.fates settings.making.injected before datagram ++ queued_from settings (before ++ Some datagram ∷ []) sends

-- what the sends of a journal queue
abbrev pub queued_in : Settings → List Entry → List (List ℕ)
queued_in settings journal = queued_from settings [] (sends_in journal)

-- the datagrams that the receives of a journal took, in order: of one that was too long its length is told
abbrev pub AreTaken : List Entry → List (List ℕ) → Type 0
AreTaken [] taken = taken ≡ []
AreTaken (Got datagram ∷ journal) [] = ⊥
AreTaken (Got datagram ∷ journal) (first ∷ taken) = (first ≡ datagram) × AreTaken journal taken
AreTaken (Long len ∷ journal) [] = ⊥
AreTaken (Long len ∷ journal) (first ∷ taken) = (length first ≡ len) × AreTaken journal taken
AreTaken (Sent datagram ∷ journal) taken = AreTaken journal taken
AreTaken (SendFailed ∷ journal) taken = AreTaken journal taken
AreTaken (Empty ∷ journal) taken = AreTaken journal taken
AreTaken (ReceiveFailed ∷ journal) taken = AreTaken journal taken

-- what was taken and what waits, together and in order, is what the sends queued
pub record IsDelivered (settings : Settings) (state : LinkState) : Type 0 where
  pub taken : List (List ℕ)
  pub are_taken : AreTaken state.journal taken
  pub all : taken ++ state.waiting ≡ queued_in settings state.journal

-- ---- three sends

-- the settings of a link that was made to do nothing of its own
abbrev pub obeying : List (ℕ × Fate) → Settings
obeying fates = settings_with [] [] [] false fates

-- the journal of three datagrams that were sent
abbrev pub three_sent : List ℕ → List ℕ → List ℕ → List Entry
three_sent first second third = Sent first ∷ Sent second ∷ Sent third ∷ []
