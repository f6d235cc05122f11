-- The journal of a link in memory, kept as places in the lists of what was sent and of what is injected. The answers
-- Nothing are counted.
use Rattle.std.specs.Prelude.{◌≡◌, ◌≤◌, ◌+◌, ◌-◌, ◌^◌, ℕ, Bool, true, false, List, [], ◌∷◌, ◌++◌, length, map, replicate, slice_index_or, slice_get, unwrap_or, Option, Some, None}
use Rattle.std.specs.List.{flat_map, filter_map}
use Rattle.std.specs.Option.{option_map}
use Rattle.std.proofs.Math.Logic.{∥∥₁_prop}
use Rattle.std.proofs.Props.{props}
use Rattle.mem_edge.specs.declared.mark.Source.{Source}
use Rattle.mem_edge.specs.declared.mark.Source.TheVariants as place
use Rattle.mem_edge.specs.declared.mark.Answer.{Answer}
use Rattle.mem_edge.specs.declared.mark.Answer.TheVariants as answer
use Rattle.mem_edge.specs.declared.mark.Mark.{Mark}
use Rattle.ua_base.specs.Journal.{Entry, Sent, SendFailed, Got, Long, ReceiveFailed, Empty, LinkState, IsHonest, sent_list, received_list}
use Rattle.mem_edge.specs.Sends.{sends_in}

-- a datagram by its place
abbrev pub datagram_at : List (List ℕ) → List (List ℕ) → Source → List ℕ
datagram_at injected sent (place.Injected index) = slice_index_or injected index []
datagram_at injected sent (place.Sent index) = slice_index_or sent index []

-- how many of the first injected, and of the first sent datagrams a place needs
abbrev pub reach_injected : Source → ℕ
reach_injected (place.Injected index) = index + 1
reach_injected (place.Sent index) = 0

abbrev pub reach_sent : Source → ℕ
reach_sent (place.Injected index) = 0
reach_sent (place.Sent index) = index + 1

pub record IsWithin (injected sent : ℕ) (there : Source) : Type 0 where
  pub among_injected : reach_injected there ≤ injected
  pub among_sent : reach_sent there ≤ sent

-- how many of the first sent ones a send's place needs; one that failed has none
abbrev pub reach_send : Option ℕ → ℕ
reach_send None = 0
reach_send (Some index) = index + 1

-- the same of an answer
abbrev pub answer_injected : Answer → ℕ
answer_injected (answer.Sent index) = 0
answer_injected answer.SendFailed = 0
answer_injected (answer.Got there) = reach_injected there
answer_injected (answer.Long there) = reach_injected there
answer_injected answer.ReceiveFailed = 0

abbrev pub answer_sent : Answer → ℕ
answer_sent (answer.Sent index) = index + 1
answer_sent answer.SendFailed = 0
answer_sent (answer.Got there) = reach_sent there
answer_sent (answer.Long there) = reach_sent there
answer_sent answer.ReceiveFailed = 0

pub record IsMarkWithin (injected sent : ℕ) (mark : Mark) : Type 0 where
  pub among_injected : answer_injected mark.answer ≤ injected
  pub among_sent : answer_sent mark.answer ≤ sent

abbrev pub entry_of : (Source → List ℕ) → Answer → Entry
entry_of shown (answer.Sent index) = Sent (shown (place.Sent index))
entry_of shown answer.SendFailed = SendFailed
entry_of shown (answer.Got there) = Got (shown there)
entry_of shown (answer.Long there) = Long (length (shown there))
entry_of shown answer.ReceiveFailed = ReceiveFailed

-- an entry, and the answers Nothing right after it
abbrev pub marked : (Source → List ℕ) → Mark → List Entry
marked shown mark = entry_of shown mark.answer ∷ replicate mark.nothings Empty

-- the whole journal: the answers Nothing before the first entry, and then the entries
abbrev pub entries : (Source → List ℕ) → ℕ → List Mark → List Entry
entries shown first marks = replicate first Empty ++ flat_map (marked shown) marks

-- the datagrams of the sends, by the places in the list of what was sent
abbrev pub sends_at : List (List ℕ) → List (Option ℕ) → List (Option (List ℕ))
sends_at sent places = map (λ o. option_map (λ index. slice_index_or sent index []) o) places

-- the places of the held datagrams that were sent
abbrev pub held_places : List (Option ℕ) → List (ℕ × ℕ) → List Source
held_places places held = filter_map (λ h. option_map place.Sent (unwrap_or (slice_get places h.1) None)) held

-- What the lists that a link keeps say of its journal. Where nothing is injected, each received datagram was sent
-- before (truncated, since a datagram may have been sent more than once).
pub record IsKept (alone : Type 0) (injected sent : List (List ℕ)) (places : List (Option ℕ)) (received : List Source) (journal : List Entry) : Type 0 where
  pub order : sent_list journal ≡ sent
  pub numbered : sends_in journal ≡ sends_at sent places
  pub got : received_list journal ≡ map (datagram_at injected sent) received
  pub honest : alone → ∥ IsHonest journal ∥₁

pub IsKept-prop : (alone : Type 0) (injected sent : List (List ℕ)) (places : List (Option ℕ)) (received : List Source) (journal : List Entry) → IsProp (IsKept alone injected sent places received journal)
IsKept-prop alone injected sent places received journal = hlevel (props, ∥∥₁_prop)

abbrev pub state_of : Bool → List Entry → List (List ℕ) → Option LinkState
state_of true journal waiting = Some (record { journal = journal; waiting = waiting })
state_of false journal waiting = None

-- the last 2^64 - 1 answers were Nothing
abbrev pub EndsInNothings : List Entry → Type 0
EndsInNothings journal = (count : ℕ) × (front : List Entry) × (count ≡ 2 ^ 64 - 1) × (journal ≡ front ++ replicate count Empty)
