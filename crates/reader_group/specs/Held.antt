-- What an opened datagram lends for the readers, as a value.
use Rattle.std.specs.Prelude.{ℕ, ◌==◌, List, [], zip, map, filter, take, slice_index_or}
use Rattle.uadp_header.specs.Headers.{ids_of}
use Rattle.payload_layout.specs.Payloads.{frame_at}
use Rattle.reader_group.specs.declared.payload.Messages.{Messages as MessagesWords}
use Rattle.reader_group.specs.declared.payload.Payload.{Payload as PayloadWords}
use Rattle.reader_group.specs.declared.payload.Payload.TheVariants as words
use Rattle.reader_group.specs.Payloads.{Payload, Slots, Chunk, Messages}

-- the messages, each with the id of its writer
abbrev pub listed : MessagesWords → List (ℕ × List ℕ)
listed messages = zip (ids_of messages.ids.now) (map (frame_at messages.payload.now) messages.parts.now)

-- the message at an index, with the id of its writer
abbrev pub listed_at : MessagesWords → ℕ → ℕ × List ℕ
listed_at messages index = slice_index_or (listed messages) index (0, [])

-- those of this writer among the first messages, so many
abbrev pub listed_upto : ℕ → ℕ → MessagesWords → List (ℕ × List ℕ)
listed_upto writer count messages = filter (λ (part : ℕ × List ℕ). part.0 == writer) (take count (listed messages))

abbrev pub messages_in : MessagesWords → Payload
messages_in messages = Messages (listed messages)

abbrev pub payload_in : PayloadWords → Payload
payload_in (words.Slots datagram) = Slots datagram.now
payload_in (words.Chunk writer bytes) = Chunk writer bytes.now
payload_in (words.Messages messages) = messages_in messages
