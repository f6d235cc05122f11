-- A reader is given a chunk of a message.
use Rattle.std.proofs.Common.{◌≡◌, refl, sym, ap, subst, arith, ℕ, ◌<◌, ◌⊎◌, inl, inr, List}
use Rattle.std.specs.Prelude.{Result, Ok, Err}
use Rattle.seq_number.specs.Numbers.{number_of_place}
use Rattle.frame_codec.specs.Reading.{frame_at}
use Rattle.chunker.specs.Chunks.{Chunk}
use Rattle.chunker.specs.Joining.{Joining, chunk_of, chunk_case, joined_bytes}
use Rattle.chunker.specs.Joins.{numbered}
use Rattle.chunker.specs.Joiners.{IsJoinerOf, Meets}
use Rattle.chunker.specs.declared.joiner.Joiner.{Joiner}
use Rattle.chunker.specs.declared.joiner.Joined.{Joined}
use Rattle.chunker.specs.declared.joiner.Joined.TheVariants as joins
use Rattle.chunker.specs.declared.payload.ChunkFault.{ChunkFault}
use Rattle.reader_group.specs.declared.member.Member.{Member}
use Rattle.reader_group.specs.declared.receipt.Receipt.{Receipt}
use Rattle.reader_group.specs.Members.{Seat, MemberValue}
use Rattle.reader_group.specs.declared.notice.PartFault.TheVariants as faults
use Rattle.reader_group.specs.declared.notice.PartOutcome.{PartOutcome}
use Rattle.reader_group.specs.declared.notice.PartOutcome.TheVariants as parts
use Rattle.reader_group.specs.MemberWords.{IsMemberOf, Follows, FollowsRead}
use Rattle.reader_group.specs.Notices.{bad_part, chunked_outcome, joined_outcome}
use Rattle.reader_group.specs.Plain.{joined_case, chunked_case}

-- a message's number of 16 bits is the one that is carried
numbered-short : (number offset total : ℕ) (bytes : List ℕ) → number < 65536 → numbered (chunk_of number offset total bytes) ≡ chunk_of number offset total bytes
numbered-short number offset total bytes fits =
    let same : number_of_place number ≡ number = omega (arith, fits) in
    ap (λ (n : ℕ). chunk_of n offset total bytes) same

pub laid-meets : (kept : Joining) (number offset total : ℕ) (bytes : List ℕ) (joiner : Joiner) (answer : Joined) → number < 65536
    → Meets (chunk_case kept (chunk_of number offset total bytes)) joiner answer → Meets (chunk_case kept (numbered (chunk_of number offset total bytes))) joiner answer
laid-meets kept number offset total bytes joiner answer fits h =
    subst (λ (chunk : Chunk). Meets (chunk_case kept chunk) joiner answer) (sym (numbered-short number offset total bytes fits)) h

-- with the joiner that has it
pub joining-member : (seat : Seat) (member : MemberValue) (old : Member) (joining : Joining) (joiner : Joiner) → IsMemberOf seat member old → IsJoinerOf joining joiner
    → IsMemberOf seat (record member { joining = joining }) (record old { joiner = joiner })
joining-member seat member old joining joiner h joins = record { kept = h.kept; passed = h.passed; numbering = h.numbering; joining = joins; timer = h.timer; late = h.late; ready = h.ready; confirmed = h.confirmed }

-- what is kept once the chunk was laid so, and what became of it
abbrev FollowsLaid : Seat → Receipt → MemberValue → Joining × Joined → Member → PartOutcome → Type 0
FollowsLaid seat receipt member laid new outcome = Follows seat (joined_case seat receipt member laid).0 (joined_outcome seat receipt member laid) new outcome

-- a message that is whole is read
pub whole-follows : (seat : Seat) (receipt : Receipt) (member : MemberValue) (laid : Joining × Joined) (old : Member) (joiner : Joiner) (total : ℕ) (new : Member) (outcome : PartOutcome) → IsMemberOf seat member old
    → Meets laid joiner (joins.Whole total)
    → ((value : MemberValue) → IsMemberOf seat value (record old { joiner = joiner }) → FollowsRead seat receipt value (joined_bytes value.joining) (frame_at seat.meta (joined_bytes value.joining)) new outcome)
    → FollowsLaid seat receipt member laid new outcome
whole-follows seat receipt member (joining, answer) old joiner total new outcome h meets reads =
    subst (λ (j : Joined). FollowsLaid seat receipt member (joining, j) new outcome) meets.1
    (reads (record member { joining = joining }) (joining-member seat member old joining joiner h meets.0))

-- the answer to a chunk that makes no message whole, and what became of it
abbrev pub IsNotWhole : Joined → PartOutcome → Type 0
IsNotWhole (joins.Whole total) outcome = ⊥
IsNotWhole joins.Part outcome = outcome ≡ parts.Laid
IsNotWhole joins.Older outcome = outcome ≡ parts.Laid
IsNotWhole (joins.TooLong total) outcome = outcome ≡ bad_part (faults.TooLong total)
IsNotWhole (joins.BadRange offset total) outcome = outcome ≡ bad_part (faults.BadRange offset total)
IsNotWhole (joins.Differs first now) outcome = outcome ≡ bad_part (faults.Differs first now)

pub taken-in : (answer : Joined) → (answer ≡ joins.Part) ⊎ (answer ≡ joins.Older) → IsNotWhole answer parts.Laid
taken-in answer (inl is) = subst (λ (j : Joined). IsNotWhole j parts.Laid) (sym is) refl
taken-in answer (inr is) = subst (λ (j : Joined). IsNotWhole j parts.Laid) (sym is) refl

pub refused-chunk : (answer other : Joined) (outcome : PartOutcome) → answer ≡ other → IsNotWhole other outcome → IsNotWhole answer outcome
refused-chunk answer other outcome is bad = subst (λ (j : Joined). IsNotWhole j outcome) (sym is) bad

part_on : (seat : Seat) (receipt : Receipt) (member : MemberValue) (joining : Joining) (answer : Joined) (new : Member) (outcome : PartOutcome) → IsNotWhole answer outcome
    → IsMemberOf seat (record member { joining = joining }) new → FollowsLaid seat receipt member (joining, answer) new outcome
part_on seat receipt member joining (joins.Whole total) new outcome bad h = absurd bad
part_on seat receipt member joining joins.Part new outcome bad h = (h, bad)
part_on seat receipt member joining joins.Older new outcome bad h = (h, bad)
part_on seat receipt member joining (joins.TooLong total) new outcome bad h = (h, bad)
part_on seat receipt member joining (joins.BadRange offset total) new outcome bad h = (h, bad)
part_on seat receipt member joining (joins.Differs first now) new outcome bad h = (h, bad)

pub part-follows : (seat : Seat) (receipt : Receipt) (member : MemberValue) (laid : Joining × Joined) (old : Member) (joiner : Joiner) (answer : Joined) (outcome : PartOutcome) → IsMemberOf seat member old
    → Meets laid joiner answer → IsNotWhole answer outcome → FollowsLaid seat receipt member laid (record old { joiner = joiner }) outcome
part-follows seat receipt member (joining, found) old joiner answer outcome h meets bad =
    part_on seat receipt member joining found (record old { joiner = joiner }) outcome (subst (λ (j : Joined). IsNotWhole j outcome) meets.1 bad)
    (joining-member seat member old joining joiner h meets.0)

-- what the bytes are read as
abbrev FollowsChunk : Seat → Receipt → MemberValue → Result Chunk ChunkFault → Member → PartOutcome → Type 0
FollowsChunk seat receipt member read new outcome = Follows seat (chunked_case seat receipt member read).0 (chunked_outcome seat receipt member read) new outcome

pub read-chunked : (seat : Seat) (receipt : Receipt) (member : MemberValue) (chunk : Chunk) (read : Result Chunk ChunkFault) (new : Member) (outcome : PartOutcome) → Ok chunk ≡ read
    → FollowsLaid seat receipt member (chunk_case member.joining (numbered chunk)) new outcome → FollowsChunk seat receipt member read new outcome
read-chunked seat receipt member chunk read new outcome is h = subst (λ (r : Result Chunk ChunkFault). FollowsChunk seat receipt member r new outcome) is h

pub unread-chunk : (seat : Seat) (receipt : Receipt) (member : MemberValue) (fault : ChunkFault) (read : Result Chunk ChunkFault) (old : Member) (outcome : PartOutcome) → Err fault ≡ read → outcome ≡ bad_part (faults.Chunk fault)
    → IsMemberOf seat member old → FollowsChunk seat receipt member read old outcome
unread-chunk seat receipt member fault read old outcome is bad h = subst (λ (r : Result Chunk ChunkFault). FollowsChunk seat receipt member r old outcome) is (h, bad)
