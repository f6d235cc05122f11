-- What the calls of a link do to what it tells.
use Rattle.std.specs.Prelude.{◌≡◌, ◌≤◌, ◌<◌, ℕ, Bool, true, false, List, [], ◌∷◌, ◌++◌, length, take}
use Rattle.ua_base.specs.Journal.{Sent, SendFailed, Got, Empty, Long, ReceiveFailed, LinkState}
use Rattle.ua_base.specs.declared.link.Opened.{Opened}
use Rattle.ua_base.specs.declared.link.Opened.TheVariants as opened
use Rattle.ua_base.specs.declared.link.Sent.{Sent as SentEnd}
use Rattle.ua_base.specs.declared.link.Sent.TheVariants as sent
use Rattle.ua_base.specs.declared.link.Received.{Received}
use Rattle.ua_base.specs.declared.link.Received.TheVariants as received

-- after `open` answered Done nothing is in the journal, and nothing waits
abbrev pub Opens : Opened → LinkState → LinkState → Type 0
Opens opened.Done before after = (after.journal ≡ []) × (after.waiting ≡ [])
Opens opened.Failed before after = Unit {0}
Opens opened.Memory before after = Unit {0}

-- an opening that is counted
abbrev pub is_done : Opened → Bool
is_done opened.Done = true
is_done opened.Failed = false
is_done opened.Memory = false

abbrev pub Sends : List ℕ → SentEnd → LinkState → LinkState → Type 0
Sends datagram sent.Done before after = after.journal ≡ before.journal ++ Sent datagram ∷ []
Sends datagram sent.Failed before after = after.journal ≡ before.journal ++ SendFailed ∷ []
Sends datagram sent.Memory before after = after.journal ≡ before.journal

-- a send leaves what waits, and may add behind it; which datagrams it adds is the link's own promise
abbrev pub Queues : SentEnd → LinkState → LinkState → Type 0
Queues sent.Done before after = (added : List (List ℕ)) × (after.waiting ≡ before.waiting ++ added)
Queues sent.Failed before after = (added : List (List ℕ)) × (after.waiting ≡ before.waiting ++ added)
Queues sent.Memory before after = after.waiting ≡ before.waiting

-- `into` is the buffer after the call
abbrev pub Receives : Received → List ℕ → LinkState → LinkState → Type 0
Receives (received.Datagram n) into before after =
    (after.journal ≡ before.journal ++ Got (take n into) ∷ []) × (before.waiting ≡ take n into ∷ after.waiting)
Receives received.Nothing into before after =
    (after.journal ≡ before.journal ++ Empty ∷ []) × (before.waiting ≡ []) × (after.waiting ≡ [])
Receives (received.Long n) into before after =
    (after.journal ≡ before.journal ++ Long n ∷ []) × (lost : List ℕ) × (length lost ≡ n) × (before.waiting ≡ lost ∷ after.waiting)
Receives received.Failed into before after =
    (after.journal ≡ before.journal ++ ReceiveFailed ∷ []) × (after.waiting ≡ before.waiting)

-- the sizes that an answer names, told or not
abbrev pub FitsBuffer : Received → List ℕ → Type 0
FitsBuffer (received.Datagram n) into = n ≤ length into
FitsBuffer (received.Long n) into = length into < n
FitsBuffer received.Nothing into = Unit {0}
FitsBuffer received.Failed into = Unit {0}

-- how often an answer is Nothing
abbrev pub nothings_in : Received → ℕ
nothings_in (received.Datagram n) = 0
nothings_in received.Nothing = 1
nothings_in (received.Long n) = 0
nothings_in received.Failed = 0
