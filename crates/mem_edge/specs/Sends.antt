-- The sends of a journal.
use Rattle.std.specs.Prelude.{ℕ, List, Option, Some, None}
use Rattle.std.specs.List.{filter_map}
use Rattle.ua_base.specs.Journal.{Entry, Sent, SendFailed, Got, Empty, Long, ReceiveFailed}

abbrev pub send_in : Entry → Option (Option (List ℕ))
send_in (Sent datagram) = Some (Some datagram)
send_in SendFailed = Some None
send_in (Got datagram) = None
send_in Empty = None
send_in (Long len) = None
send_in ReceiveFailed = None

-- each send in order: its datagram, or None where it failed
abbrev pub sends_in : List Entry → List (Option (List ℕ))
sends_in journal = filter_map send_in journal
