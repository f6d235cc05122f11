-- The parts of datagrams, one after another, with the receipts of their datagrams.
use Rattle.std.proofs.Common.{◌≡◌, refl, sym, ap, ◌∙◌, subst, arith, ℕ, zero, suc, ◌+◌, ◌⊎◌, inl, inr, Bool, false, List, [], ◌∷◌, ◌++◌, map, fold, Contains, Ok}
use Rattle.std.specs.List.{flat_map}
use Rattle.std.proofs.lemmas.List.{map-append}
use Rattle.std.proofs.lemmas.List.Elements.{Contains-append_cases}
use Rattle.std.proofs.lemmas.List.Sums.{fold-append}
use Rattle.frame_codec.specs.Frames.{Frame}
use Rattle.frame_codec.specs.Reading.{frame_at}
use Rattle.chunker.specs.Chunks.{Chunk}
use Rattle.chunker.specs.Spelling.{chunk_bytes}
use Rattle.reader_group.specs.declared.receipt.Receipt.{Receipt}
use Rattle.reader_group.specs.Members.{Seat, MemberValue}
use Rattle.reader_group.specs.Payloads.{Piece, Message, Chunked, pieces}
use Rattle.reader_group.specs.Plain.{Fed, unfed, fed_on, count_if, given, read_case, piece_case}
use Rattle.group_laws.specs.TurnReading.{Received, fed_more, fed_all, given_by, IsGiven}
use Rattle.group_laws.proofs.ChunkReading.{Came, chunk_on}
use Rattle.group_laws.proofs.Members.{joining-given}

pub record Part : Type 0 where
  pub receipt : Receipt
  pub piece : Piece

abbrev pub part : Receipt → Piece → Part
part receipt piece = record { receipt = receipt; piece = piece }

abbrev pub part_on : Seat → Fed → Part → Fed
part_on seat fed p = fed_on seat p.receipt fed p.piece

abbrev pub parts_in : Seat → Received → List Part
parts_in seat received = map (part received.receipt) (pieces seat.part received.opened.payload)

abbrev pub parts_for : Seat → List Received → List Part
parts_for seat received = flat_map (parts_in seat) received

fold-parts : (seat : Seat) (receipt : Receipt) (fed : Fed) (ps : List Piece) → fold (fed_on seat receipt) fed ps ≡ fold (part_on seat) fed (map (part receipt) ps)
fold-parts seat receipt fed [] = refl
fold-parts seat receipt fed (p ∷ ps) = fold-parts seat receipt (fed_on seat receipt fed p) ps

-- they are given one after another
pub fed-parts : (seat : Seat) (fed : Fed) (received : List Received) → fed_all seat fed received ≡ fold (part_on seat) fed (parts_for seat received)
fed-parts seat fed [] = refl
fed-parts seat fed (a ∷ received) =
    ap (λ (f : Fed). fed_all seat f received) (fold-parts seat a.receipt fed (pieces seat.part a.opened.payload))
    ∙ fed-parts seat (fold (part_on seat) fed (parts_in seat a)) received
    ∙ sym (fold-append (part_on seat) fed (parts_in seat a) (parts_for seat received))

pieces-back : (receipt : Receipt) (ps : List Piece) → map (λ (p : Part). p.piece) (map (part receipt) ps) ≡ ps
pieces-back receipt [] = refl
pieces-back receipt (p ∷ ps) = ap (λ (l : List Piece). p ∷ l) (pieces-back receipt ps)

pub pieces-of : (seat : Seat) (received : List Received) → map (λ p. p.piece) (parts_for seat received) ≡ flat_map (λ opened. pieces seat.part opened.payload) (map (λ a. a.opened) received)
pieces-of seat [] = refl
pieces-of seat (a ∷ received) =
    map-append (λ (p : Part). p.piece) (parts_in seat a) (parts_for seat received)
    ∙ ap (λ (l : List Piece). l ++ map (λ (p : Part). p.piece) (parts_for seat received)) (pieces-back a.receipt (pieces seat.part a.opened.payload))
    ∙ ap (λ (l : List Piece). pieces seat.part a.opened.payload ++ l) (pieces-of seat received)

receipt-one : (receipt other : Receipt) (ps : List Piece) → Contains (map (λ (p : Part). p.receipt) (map (part receipt) ps)) other → receipt ≡ other
receipt-one receipt other [] has = absurd (let below = has.1 in omega (arith, below))
receipt-one receipt other (p ∷ ps) (zero, below, same) = same
receipt-one receipt other (p ∷ ps) (suc k, below, same) = receipt-one receipt other ps (k, omega (arith, below), same)

pub receipts-of : (seat : Seat) (received : List Received) (receipt : Receipt) → Contains (map (λ p. p.receipt) (parts_for seat received)) receipt → Contains (map (λ a. a.receipt) received) receipt
receipts-of seat [] receipt has = absurd (let below = has.1 in omega (arith, below))
receipts-of seat (a ∷ received) receipt has =
    on (Contains-append_cases (map (λ (p : Part). p.receipt) (parts_in seat a)) (map (λ (p : Part). p.receipt) (parts_for seat received)) receipt
    (subst (λ (l : List Receipt). Contains l receipt) (map-append (λ (p : Part). p.receipt) (parts_in seat a) (parts_for seat received)) has))
    (λ later. receipts-of seat received receipt later)
  where
    on : Contains (map (λ (p : Part). p.receipt) (parts_in seat a)) receipt ⊎ Contains (map (λ (p : Part). p.receipt) (parts_for seat received)) receipt
        → (Contains (map (λ (p : Part). p.receipt) (parts_for seat received)) receipt → Contains (map (λ (a : Received). a.receipt) received) receipt)
        → Contains (map (λ (a : Received). a.receipt) (a ∷ received)) receipt
    on (inl here) rest = (0, omega arith, receipt-one a.receipt receipt (pieces seat.part a.opened.payload) here)
    on (inr later) rest = let h = rest later in let below = h.1 in (suc h.0, omega (arith, below), h.2)

-- ---- parts that are one message, or chunks

abbrev piece_list : List Part → List Piece
piece_list parts = map (λ p. p.piece) parts

pub none-read : (seat : Seat) (fed : Fed) (parts : List Part) → piece_list parts ≡ [] → fold (part_on seat) fed parts ≡ fed
none-read seat fed [] none = refl
none-read seat fed (p ∷ parts) none = absurd (let wrong : Path (List Piece) (p.piece ∷ piece_list parts) [] = none in cc)

pub record IsOne (parts : List Part) (piece : Piece) : Type 0 where
  pub receipt : Receipt
  pub is : parts ≡ part receipt piece ∷ []

pub one-part : (parts : List Part) (piece : Piece) → piece_list parts ≡ piece ∷ [] → IsOne parts piece
one-part [] piece e = absurd (let wrong : Path (List Piece) [] (piece ∷ []) = e in cc)
one-part (p ∷ []) piece e = record { receipt = p.receipt; is = let same : p.piece ≡ piece = cc in ap (λ (q : Piece). part p.receipt q ∷ []) same }
one-part (p ∷ q ∷ parts) piece e = absurd (let wrong : Path (List Piece) (p.piece ∷ q.piece ∷ piece_list parts) (piece ∷ []) = e in cc)

-- a message that is read is given
pub message-given : (seat : Seat) (fed : Fed) (parts : List Part) (bytes : List ℕ) (frame : Frame) → frame_at seat.meta bytes ≡ Ok frame → piece_list parts ≡ Message bytes ∷ []
    → IsGiven seat (map (λ p. p.receipt) parts) fed frame (fold (part_on seat) fed parts)
message-given seat fed parts bytes frame read e =
    let one = one-part parts (Message bytes) e in
    let after : piece_case seat one.receipt fed.member (Message bytes) ≡ (given seat one.receipt fed.member frame, false) = ap (read_case seat one.receipt fed.member) read in
    subst (λ (l : List Part). IsGiven seat (map (λ (p : Part). p.receipt) l) fed frame (fold (part_on seat) fed l)) (sym one.is)
    (record {
      receipt = one.receipt;
      one_of = (0, omega arith, refl);
      joining = fed.member.joining;
      joins = inl refl;
      member = ap (λ (p : MemberValue × Bool). p.0) after ∙ sym (joining-given seat one.receipt fed.member frame);
      good = ap (λ (p : MemberValue × Bool). fed.bad + count_if p.1) after ∙ omega arith;
    })

abbrev chunk_list : List Chunk → List Piece
chunk_list chunks = map (λ chunk. Chunked (chunk_bytes chunk)) chunks

-- parts that are chunks, as such
pub record AreChunks (seat : Seat) (parts : List Part) (chunks : List Chunk) : Type 0 where
  pub came : List Came
  pub chunks_are : map (λ c. c.chunk) came ≡ chunks
  pub receipts_are : map (λ c. c.receipt) came ≡ map (λ p. p.receipt) parts
  pub fed_are : (fed : Fed) → fold (part_on seat) fed parts ≡ fold (chunk_on seat) fed came

pub as-chunks : (seat : Seat) (parts : List Part) (chunks : List Chunk) → piece_list parts ≡ chunk_list chunks → AreChunks seat parts chunks
as-chunks seat [] [] e = record { came = []; chunks_are = refl; receipts_are = refl; fed_are = λ fed. refl }
as-chunks seat [] (c ∷ chunks) e = absurd (let wrong : Path (List Piece) [] (Chunked (chunk_bytes c) ∷ chunk_list chunks) = e in cc)
as-chunks seat (p ∷ parts) [] e = absurd (let wrong : Path (List Piece) (p.piece ∷ piece_list parts) [] = e in cc)
as-chunks seat (p ∷ parts) (c ∷ chunks) e =
    let here : p.piece ≡ Chunked (chunk_bytes c) = cc in
    let behind : piece_list parts ≡ chunk_list chunks = cc in
    let rest = as-chunks seat parts chunks behind in
    record {
      came = record { receipt = p.receipt; chunk = c } ∷ rest.came;
      chunks_are = ap (λ (l : List Chunk). c ∷ l) rest.chunks_are;
      receipts_are = ap (λ (l : List Receipt). p.receipt ∷ l) rest.receipts_are;
      fed_are = λ fed. ap (λ (q : Piece). fold (part_on seat) (fed_on seat p.receipt fed q) parts) here ∙ rest.fed_are (fed_on seat p.receipt fed (Chunked (chunk_bytes c)));
    }

-- ---- datagrams one by one

-- how many parts were bad before doesn't matter
member-alone : (seat : Seat) (receipt : Receipt) (one other : Fed) (ps : List Piece) → one.member ≡ other.member → (fold (fed_on seat receipt) one ps).member ≡ (fold (fed_on seat receipt) other ps).member
member-alone seat receipt one other [] same = same
member-alone seat receipt one other (p ∷ ps) same =
    member-alone seat receipt (fed_on seat receipt one p) (fed_on seat receipt other p) ps (ap (λ (m : MemberValue). (piece_case seat receipt m p).0) same)

pub one-by-one : (seat : Seat) (fed : Fed) (received : List Received) → fold (given_by seat) fed.member received ≡ (fed_all seat fed received).member
one-by-one seat fed [] = refl
one-by-one seat fed (a ∷ received) =
    let same : given_by seat fed.member a ≡ (fed_more seat fed a).member = member-alone seat a.receipt (unfed fed.member) fed (pieces seat.part a.opened.payload) refl in
    ap (λ (m : MemberValue). fold (given_by seat) m received) same ∙ one-by-one seat (fed_more seat fed a) received
