-- The journal of a link: its answers, in order.
use Rattle.std.specs.Prelude.{◌≡◌, ℕ, List, ◌∷◌, ◌++◌, Option, Some, None, Contains}
use Rattle.std.specs.List.{filter_map}
use Rattle.std.specs.Option.{option_map}

pub data Entry : Type 0 where
  Sent : (datagram : List ℕ) → Entry
  SendFailed : Entry
  Got : (datagram : List ℕ) → Entry
  Empty : Entry
  Long : (len : ℕ) → Entry
  ReceiveFailed : Entry

-- what a link tells: its journal, and the datagrams that wait to be received, the first to come first
pub record LinkState : Type 0 where
  pub journal : List Entry
  pub waiting : List (List ℕ)

-- A link that tells after a call told before it, and the call did this.
abbrev pub Tells : Option LinkState → Option LinkState → (LinkState → LinkState → Type 0) → Type 0
Tells old None step = Unit {0}
Tells old (Some after) step = (before : LinkState) × (old ≡ Some before) × step before after

-- what is told, and then these entries and these datagrams that wait behind all others
abbrev pub told_more : Option LinkState → List Entry → List (List ℕ) → Option LinkState
told_more told entries datagrams = option_map (λ state. record { journal = state.journal ++ entries; waiting = state.waiting ++ datagrams }) told

abbrev pub sent_datagram : Entry → Option (List ℕ)
sent_datagram (Sent datagram) = Some datagram
sent_datagram SendFailed = None
sent_datagram (Got datagram) = None
sent_datagram Empty = None
sent_datagram (Long len) = None
sent_datagram ReceiveFailed = None

abbrev pub received_datagram : Entry → Option (List ℕ)
received_datagram (Sent datagram) = None
received_datagram SendFailed = None
received_datagram (Got datagram) = Some datagram
received_datagram Empty = None
received_datagram (Long len) = None
received_datagram ReceiveFailed = None

-- the datagrams that were sent, in order
abbrev pub sent_list : List Entry → List (List ℕ)
sent_list journal = filter_map sent_datagram journal

-- the datagrams that were received, in order
abbrev pub received_list : List Entry → List (List ℕ)
received_list journal = filter_map received_datagram journal

-- each received datagram was sent before
abbrev pub IsHonest : List Entry → Type 0
IsHonest journal = (before after : List Entry) (datagram : List ℕ) → journal ≡ before ++ Got datagram ∷ after → Contains before (Sent datagram)
