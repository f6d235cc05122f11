-- One more part: what is kept for a reader stays what Arrivals and Records have of it.
use Rattle.std.proofs.Common.{◌≡◌, refl, sym, ap, ℕ, Bool, true, false, ◌&&◌, List, [], ◌∷◌, Option, subst}
use Rattle.std.specs.Prelude.{fold, Result, Ok, Err, if◌then◌else◌}
use Rattle.seq_number.specs.Numbers.{IsNear}
use Rattle.frame_codec.specs.Reading.{frame_at}
use Rattle.chunker.specs.Chunks.{Chunk, is_proper, is_whole_at, message_of, places}
use Rattle.chunker.specs.Joining.{Joining, chunk_case, joined_bytes, is_whole}
use Rattle.chunker.specs.Joins.{numbered, JoinsOver, IsNearTo, JoinsOneMore}
use Rattle.chunker.specs.Spelling.{chunk_at, without_rest}
use Rattle.chunker.specs.declared.joiner.Joined.{Joined}
use Rattle.chunker.specs.declared.joiner.Joined.TheVariants as joins
use Rattle.chunker.specs.declared.payload.ChunkFault.{ChunkFault}
use Rattle.chunker.proofs.ChunkLaws.{joins-chunk}
use Rattle.config_tables.specs.declared.words.NumberingWord.{NumberingWord}
use Rattle.reader_group.specs.Members.{MemberValue}
use Rattle.reader_group.specs.SlotFrames.{slot_frame_at}
use Rattle.reader_group.specs.Payloads.{Piece, Message, Chunked, Slotted, Missing}
use Rattle.reader_group.specs.Arrivals.{Way, Mark, Laid, chunks_in, placed, laid_on, chunk_on, piece_on}
use Rattle.reader_group.specs.Plain.{Fed, read_case, joined_case, chunked_case, piece_case, fed_on}
use Rattle.reader_group.proofs.Answered.{MemberAt, StepKeeps}
use Rattle.reader_group.proofs.Nearness.{Nears, laid_if, nears_laid, nears-pieces}
use Rattle.reader_group.proofs.Framing.{Places, clash, receipt_at, member_read}

-- ---- one more chunk

laid_is : (word : NumberingWord) (before : List Mark) (m : MemberValue) (c : Chunk) (joining : Joining) → MemberAt word before m → JoinsOver (c ∷ chunks_in before) joining
    → MemberAt word (Laid c ∷ before) (record m { joining = joining })
laid_is word before m c joining h over = record { keeps = h.keeps; joins = over; seen = h.seen; late = h.late; ready = h.ready }

passed_is : (word : NumberingWord) (before : List Mark) (m : MemberValue) (joining : Joining) → MemberAt word before m → JoinsOver (chunks_in before) joining
    → MemberAt word before (record m { joining = joining })
passed_is word before m joining h over = record { keeps = h.keeps; joins = over; seen = h.seen; late = h.late; ready = h.ready }

-- what the law of one more chunk says
record JoinsMore (p w : Bool) (chunks : List Chunk) (c : Chunk) (joining : Joining) (answer : Joined) : Type 0 where
  over : JoinsOver (if p then c ∷ chunks else chunks) joining
  whole : is_whole answer ≡ (p && w)
  bytes : is_whole answer ≡ true → joined_bytes joining ≡ message_of (c ∷ chunks) c.place c.total

-- a chunk that makes no message whole
member_part : (p w : Bool) (word : NumberingWord) (way : Way) (place : ℕ → ℕ) (before : List Mark) (m : MemberValue) (now : ℕ) (s : Option ℕ) (c : Chunk) (joining : Joining)
    → false ≡ (p && w) → MemberAt word before m → JoinsOver (if p then c ∷ chunks_in before else chunks_in before) joining
    → MemberAt word (laid_if p w way place now s before c) (record m { joining = joining })
member_part true true word way place before m now s c joining e h over = clash true refl (sym e)
member_part true false word way place before m now s c joining e h over = laid_is word before m c joining h over
member_part false w word way place before m now s c joining e h over = passed_is word before m joining h over

member_whole : StepKeeps → (p w : Bool) (word : NumberingWord) (way : Way) (place : ℕ → ℕ) (before : List Mark) (m : MemberValue) (now : ℕ) (s : Option ℕ) (c : Chunk) (joining : Joining)
    → Places place → way.seat.part.numbering ≡ word → true ≡ (p && w) → Nears word (laid_if p w way place now s before c) → MemberAt word before m
    → JoinsOver (if p then c ∷ chunks_in before else chunks_in before) joining → joined_bytes joining ≡ message_of (c ∷ chunks_in before) c.place c.total
    → MemberAt word (laid_if p w way place now s before c)
    (read_case way.seat (receipt_at now s) (record m { joining = joining }) (frame_at way.seat.meta (joined_bytes joining))).0
member_whole laws true true word way place before m now s c joining is num e near h over bytes =
    let message = message_of (c ∷ chunks_in before) c.place c.total in
    subst (λ (b : List ℕ). MemberAt word (laid_if true true way place now s before c) (read_case way.seat (receipt_at now s) (record m { joining = joining }) (frame_at way.seat.meta b)).0) (sym bytes)
    (member_read laws word way place (Laid c ∷ before) (record m { joining = joining }) now s (frame_at way.seat.meta message) is num near (laid_is word before m c joining h over))
member_whole laws true false word way place before m now s c joining is num e near h over bytes = clash false (sym e) refl
member_whole laws false w word way place before m now s c joining is num e near h over bytes = clash false (sym e) refl

member_joined : StepKeeps → (p w : Bool) (word : NumberingWord) (way : Way) (place : ℕ → ℕ) (before : List Mark) (m : MemberValue) (now : ℕ) (s : Option ℕ) (c : Chunk) (joining : Joining) (answer : Joined)
    → Places place → way.seat.part.numbering ≡ word → Nears word (laid_if p w way place now s before c) → MemberAt word before m → JoinsMore p w (chunks_in before) c joining answer
    → MemberAt word (laid_if p w way place now s before c) (joined_case way.seat (receipt_at now s) m (joining, answer)).0
member_joined laws p w word way place before m now s c joining (joins.Whole total) is num near h more =
    member_whole laws p w word way place before m now s c joining is num more.whole near h more.over (more.bytes refl)
member_joined laws p w word way place before m now s c joining joins.Part is num near h more = member_part p w word way place before m now s c joining more.whole h more.over
member_joined laws p w word way place before m now s c joining joins.Older is num near h more = member_part p w word way place before m now s c joining more.whole h more.over
member_joined laws p w word way place before m now s c joining (joins.TooLong total) is num near h more = member_part p w word way place before m now s c joining more.whole h more.over
member_joined laws p w word way place before m now s c joining (joins.BadRange offset total) is num near h more = member_part p w word way place before m now s c joining more.whole h more.over
member_joined laws p w word way place before m now s c joining (joins.Differs one other) is num near h more = member_part p w word way place before m now s c joining more.whole h more.over

-- a chunk that counts is near
near_to : (chunks : List Chunk) (c : Chunk) → IsNear (places (c ∷ chunks)) → IsNearTo chunks c
near_to [] c near = tt
near_to (last ∷ before) c near = (near.0, near.1)

near_laid : (word : NumberingWord) (p w : Bool) (way : Way) (place : ℕ → ℕ) (now : ℕ) (s : Option ℕ) (before : List Mark) (c : Chunk)
    → Nears word (laid_if p w way place now s before c) → p ≡ true → IsNearTo (chunks_in before) c
near_laid word true w way place now s before c h e = near_to (chunks_in before) c (nears_laid word w way place now s before c h).chunks.0
near_laid word false w way place now s before c h e = clash false e refl

member_chunk : StepKeeps → (word : NumberingWord) (way : Way) (place : ℕ → ℕ) (before : List Mark) (m : MemberValue) (now : ℕ) (s : Option ℕ) (read : Result Chunk ChunkFault)
    → Places place → way.seat.part.numbering ≡ word → Nears word (chunk_on way place now s before read) → MemberAt word before m
    → MemberAt word (chunk_on way place now s before read) (chunked_case way.seat (receipt_at now s) m read).0
member_chunk laws word way place before m now s (Err fault) is num near h = h
member_chunk laws word way place before m now s (Ok chunk) is num near h =
    let c = placed place chunk in
    let chunks = chunks_in before in
    let p = is_proper chunks c in
    let w = is_whole_at chunks c in
    let same : numbered c ≡ numbered chunk = ap (λ (n : ℕ). record chunk { place = n }) (is chunk.place) in
    let more : JoinsOneMore chunks c (chunk_case m.joining (numbered c)).0 (chunk_case m.joining (numbered c)).1 =
    joins-chunk chunks c m.joining (near_laid word p w way place now s before c near) h.joins in
    let joined = chunk_case m.joining (numbered c) in
    subst (λ (x : Chunk). MemberAt word (laid_on way place now s before c) (joined_case way.seat (receipt_at now s) m (chunk_case m.joining x)).0) same
    (member_joined laws p w word way place before m now s c joined.0 joined.1 is num near h (record { over = more.joins; whole = more.whole; bytes = more.bytes }))

-- ---- parts

member_piece : StepKeeps → (word : NumberingWord) (way : Way) (place : ℕ → ℕ) (before : List Mark) (m : MemberValue) (now : ℕ) (s : Option ℕ) (piece : Piece)
    → Places place → way.seat.part.numbering ≡ word → Nears word (piece_on way place now s before piece) → MemberAt word before m
    → MemberAt word (piece_on way place now s before piece) (piece_case way.seat (receipt_at now s) m piece).0
member_piece laws word way place before m now s (Message bytes) is num near h = member_read laws word way place before m now s (frame_at way.seat.meta bytes) is num near h
member_piece laws word way place before m now s (Chunked bytes) is num near h = member_chunk laws word way place before m now s (without_rest (chunk_at bytes)) is num near h
member_piece laws word way place before m now s (Slotted bytes) is num near h = member_read laws word way place before m now s (slot_frame_at way.seat.meta bytes) is num near h
member_piece laws word way place before m now s Missing is num near h = h

-- all parts of a datagram
pub member-pieces : StepKeeps → (word : NumberingWord) (way : Way) (place : ℕ → ℕ) (before : List Mark) (fed : Fed) (now : ℕ) (s : Option ℕ) (pieces : List Piece)
    → Places place → way.seat.part.numbering ≡ word → Nears word (fold (piece_on way place now s) before pieces) → MemberAt word before fed.member
    → MemberAt word (fold (piece_on way place now s) before pieces) (fold (fed_on way.seat (receipt_at now s)) fed pieces).member
member-pieces laws word way place before fed now s [] is num near h = h
member-pieces laws word way place before fed now s (piece ∷ pieces) is num near h =
    let after = piece_on way place now s before piece in
    member-pieces laws word way place after (fed_on way.seat (receipt_at now s) fed piece) now s pieces is num near
    (member_piece laws word way place before fed.member now s piece is num (nears-pieces word way place now s after pieces near) h)
