-- The chunks of a message, in order, give a reader its frame once.
use Rattle.std.proofs.Common.{◌≡◌, refl, sym, ap, ◌∙◌, subst, arith, ℕ, zero, suc, ◌+◌, ◌-◌, ◌%◌, ◌<◌, ◌≤◌, ◌^◌, ◌⊎◌, inl, inr, Bool, true, false, not, List, [], ◌∷◌, length, map, append-nil, fold, All, Contains, Option, Some, None, Ok, mod-eq_of_lt}
use Rattle.std.specs.Prelude.{◌==◌, nat_le, nat_lt, if◌then◌else◌}
use Rattle.std.proofs.lemmas.Bool.{eq-eqb, eqb-true}
use Rattle.std.proofs.lemmas.Bool.Decides.{nat_tests}
use Rattle.std.proofs.lemmas.List.Elements.{All-cons, All-head, All-tail, All-nil, All-contains}
use Rattle.seq_number.specs.Numbers.{newer}
use Rattle.frame_codec.specs.Frames.{Alive, Frame}
use Rattle.frame_codec.specs.Reading.{frame_at}
use Rattle.chunker.specs.Chunks.{Chunk, cuts, cover, message_of, longest_message}
use Rattle.chunker.specs.Joining.{Joining, chunk_case, current_case, laid, empty, joined_bytes}
use Rattle.chunker.specs.Joins.{numbered, IsNewFor}
use Rattle.chunker.specs.Spelling.{IsChunk, chunk_at, chunk_bytes, without_rest}
use Rattle.chunker.specs.declared.joiner.Joined.{Joined}
use Rattle.chunker.specs.declared.joiner.Joined.TheVariants as joins
use Rattle.chunker.proofs.CutLaws.{cut-of, cut-room, cuts-cover, message-back}
use Rattle.chunker.proofs.SpellingLaws.{chunk-again, cut-written}
use Rattle.chunker.proofs.ChunkLaws.{cover_none}
use Rattle.reader_group.specs.declared.receipt.Receipt.{Receipt}
use Rattle.reader_group.specs.Members.{Seat, MemberValue}
use Rattle.reader_group.specs.Payloads.{Chunked}
use Rattle.reader_group.specs.Plain.{Fed, fed_on, count_if, given, joined_case, chunked_case, read_case, piece_case}
use Rattle.group_laws.specs.TurnReading.{IsGiven}
use Rattle.group_laws.proofs.Members.{with_joining, given-joining}

-- a chunk with the receipt of its datagram
pub record Came : Type 0 where
  pub receipt : Receipt
  pub chunk : Chunk

abbrev pub chunk_on : Seat → Fed → Came → Fed
chunk_on seat fed came = fed_on seat came.receipt fed (Chunked (chunk_bytes came.chunk))

-- a message of this number, cut with this room, that is read as this data frame
pub record IsMessage (seat : Seat) (room number : ℕ) (message : List ℕ) (frame : Frame) : Type 0 where
  pub has_room : 1 ≤ room
  pub is_number : number < 65536
  pub some : 1 ≤ length message
  pub short : length message ≤ 4096
  pub frame_number : frame.number ≡ Some number
  pub not_alive : ¬ (frame.content ≡ Alive)
  pub read : frame_at seat.meta message ≡ Ok frame

module _ (seat : Seat) (room number : ℕ) (message : List ℕ) (frame : Frame) (is : IsMessage seat room number message frame) where
  abbrev total : ℕ
  total = length message

  abbrev IsCut : Chunk → Type 0
  IsCut chunk = Contains (cuts room number message) chunk

  -- the message is the current one, with these chunks
  abbrev state : List Chunk → Joining
  state chunks = record { current = Some (number, total); chunks = chunks }

  -- a chunk's bytes are laid behind these
  abbrev laid_on : List Chunk → Chunk → Joining × Joined
  laid_on base chunk = (state (chunk ∷ base), if cover (chunk ∷ base) number total then joins.Whole total else joins.Part)

  -- ---- one chunk of the cut

  place-is : (chunk : Chunk) → IsCut chunk → chunk.place ≡ number
  place-is chunk cut = (cut-of room number message chunk cut).0

  total-is : (chunk : Chunk) → IsCut chunk → chunk.total ≡ total
  total-is chunk cut = (cut-of room number message chunk cut).1.total

  numbered-same : (chunk : Chunk) → IsCut chunk → numbered chunk ≡ chunk
  numbered-same chunk cut =
      let place = place-is chunk cut in
      let small : chunk.place < 65536 = let bound = is.is_number in omega (arith, place, bound) in
      ap (λ (n : ℕ). record chunk { place = n }) (mod-eq_of_lt small)

  chunk-written : (chunk : Chunk) → IsCut chunk → IsChunk chunk
  chunk-written chunk cut =
      let fits : length message < 2 ^ 31 = let bound = is.short in omega (arith, bound) in
      subst IsChunk (numbered-same chunk cut) (cut-written room number message chunk is.has_room is.some fits cut)

  pub chunk-read : (chunk : Chunk) → IsCut chunk → without_rest (chunk_at (chunk_bytes chunk)) ≡ Ok chunk
  chunk-read chunk cut =
      ap (λ (bytes : List ℕ). without_rest (chunk_at bytes)) (sym (append-nil (chunk_bytes chunk)))
      ∙ ap without_rest (chunk-again chunk [] (chunk-written chunk cut))

  piece-chunk : (receipt : Receipt) (member : MemberValue) (chunk : Chunk) → IsCut chunk
      → piece_case seat receipt member (Chunked (chunk_bytes chunk)) ≡ joined_case seat receipt member (chunk_case member.joining chunk)
  piece-chunk receipt member chunk cut =
      ap (chunked_case seat receipt member) (chunk-read chunk cut)
      ∙ ap (λ (c : Chunk). joined_case seat receipt member (chunk_case member.joining c)) (numbered-same chunk cut)

  proper : (kept : Joining) (chunk : Chunk) → IsCut chunk → chunk_case kept chunk ≡ current_case kept chunk kept.current
  proper kept chunk cut =
      let within = cut-room room number message chunk is.has_room is.some cut in
      let long = total-is chunk cut in
      let bound = is.short in
      let some : nat_lt 0 (length chunk.bytes) ≡ true = let h = within.some in grind (arith, nat_tests) in
      let inside : nat_lt chunk.total (chunk.offset + length chunk.bytes) ≡ false = let h = within.within in grind (arith, nat_tests) in
      let short : nat_lt longest_message chunk.total ≡ false = grind (arith, nat_tests) in
      rw (some, inside, short) refl

  laid-is : (kept : Joining) (chunk : Chunk) → IsCut chunk → laid kept chunk ≡ laid_on kept.chunks chunk
  laid-is kept chunk cut =
      ap (λ (p : ℕ). (record { current = Some (p, chunk.total); chunks = chunk ∷ kept.chunks }, if cover (chunk ∷ kept.chunks) p chunk.total then joins.Whole chunk.total else joins.Part)) (place-is chunk cut)
      ∙ ap (λ (t : ℕ). (record { current = Some (number, t); chunks = chunk ∷ kept.chunks }, if cover (chunk ∷ kept.chunks) number t then joins.Whole t else joins.Part)) (total-is chunk cut)

  -- the chunk begins the message
  newer-other : (a b : ℕ) → newer a b ≡ true → (a == b) ≡ false
  newer-other a b new = on (a == b) refl
    where
      on : (t : Bool) → (a == b) ≡ t → t ≡ false
      on false e = refl
      on true e =
          let same : a ≡ b = eqb-true a b e in
          let none : (65535 + b - b) % 65536 ≡ 65535 = omega arith in
          let not_newer : newer b b ≡ false = ap (λ (n : ℕ). nat_lt n 16384) none in
          absurd (let wrong : Path Bool false true = sym not_newer ∙ ap (λ (n : ℕ). newer n b) (sym same) ∙ new in cc)

  begins : (kept : Joining) (chunk : Chunk) (current : Option (ℕ × ℕ)) → IsCut chunk → IsNewFor current number → current_case kept chunk current ≡ laid empty chunk
  begins kept chunk None cut new = refl
  begins kept chunk (Some now) cut new =
      let place = place-is chunk cut in
      let is_newer : newer chunk.place now.0 ≡ true = ap (λ (n : ℕ). newer n now.0) place ∙ new in
      let other : (chunk.place == now.0) ≡ false = newer-other chunk.place now.0 is_newer in
      rw (other, is_newer) refl

  -- it is of the message that is current, and not whole
  goes-on : (base : List Chunk) (chunk : Chunk) → IsCut chunk → cover base number total ≡ false → chunk_case (state base) chunk ≡ laid_on base chunk
  goes-on base chunk cut unwhole =
      let own : (chunk.place == number) ≡ true = eq-eqb chunk.place number (place-is chunk cut) in
      let whole : (chunk.total == total) ≡ true = eq-eqb chunk.total total (total-is chunk cut) in
      proper (state base) chunk cut
      ∙ ap (λ (t : Bool). if t then (if cover base number total then (state base, joins.Older) else if not (chunk.total == total) then (state base, joins.Differs total chunk.total) else laid (state base) chunk) else if newer chunk.place number then laid empty chunk else (state base, joins.Older)) own
      ∙ ap (λ (t : Bool). if t then (state base, joins.Older) else if not (chunk.total == total) then (state base, joins.Differs total chunk.total) else laid (state base) chunk) unwhole
      ∙ ap (λ (t : Bool). if not t then (state base, joins.Differs total chunk.total) else laid (state base) chunk) whole
      ∙ laid-is (state base) chunk cut

  -- it is of the message that is current, and whole
  comes-late : (base : List Chunk) (chunk : Chunk) → IsCut chunk → cover base number total ≡ true → chunk_case (state base) chunk ≡ (state base, joins.Older)
  comes-late base chunk cut whole =
      let own : (chunk.place == number) ≡ true = eq-eqb chunk.place number (place-is chunk cut) in
      proper (state base) chunk cut
      ∙ ap (λ (t : Bool). if t then (if cover base number total then (state base, joins.Older) else if not (chunk.total == total) then (state base, joins.Differs total chunk.total) else laid (state base) chunk) else if newer chunk.place number then laid empty chunk else (state base, joins.Older)) own
      ∙ ap (λ (t : Bool). if t then (state base, joins.Older) else if not (chunk.total == total) then (state base, joins.Differs total chunk.total) else laid (state base) chunk) whole

  -- ---- the reader

  -- once the message is whole its chunks change nothing
  pub past-whole : (base : List Chunk) (came : List Came) (fed : Fed) → All IsCut (map (λ c. c.chunk) came) → cover base number total ≡ true → fed.member.joining ≡ state base
      → ((fold (chunk_on seat) fed came).member ≡ fed.member) × ((fold (chunk_on seat) fed came).bad ≡ fed.bad)
  past-whole base [] fed cuts_all whole at = (refl, refl)
  past-whole base (c ∷ came) fed cuts_all whole at =
      let cut = All-head IsCut c.chunk (map (λ (c : Came). c.chunk) came) cuts_all in
      let after : piece_case seat c.receipt fed.member (Chunked (chunk_bytes c.chunk)) ≡ (with_joining fed.member (state base), false) =
      piece-chunk c.receipt fed.member c.chunk cut
      ∙ ap (λ (j : Joining). joined_case seat c.receipt fed.member (chunk_case j c.chunk)) at
      ∙ ap (joined_case seat c.receipt fed.member) (comes-late base c.chunk cut whole) in
      let same : with_joining fed.member (state base) ≡ fed.member = ap (with_joining fed.member) (sym at) in
      let member_is : (chunk_on seat fed c).member ≡ fed.member = ap (λ (p : MemberValue × Bool). p.0) after ∙ same in
      let bad_is : (chunk_on seat fed c).bad ≡ fed.bad = ap (λ (p : MemberValue × Bool). fed.bad + count_if p.1) after ∙ omega arith in
      let later = past-whole base came (chunk_on seat fed c) (All-tail IsCut c.chunk (map (λ (c : Came). c.chunk) came) cuts_all) whole (ap (λ (m : MemberValue). m.joining) member_is ∙ at) in
      (later.0 ∙ member_is, later.1 ∙ bad_is)

  -- the message is read where its last chunk comes
  read-whole : (receipt : Receipt) (member : MemberValue) (chunk : Chunk) (base : List Chunk) → All IsCut (chunk ∷ base) → cover (chunk ∷ base) number total ≡ true
      → joined_case seat receipt member (state (chunk ∷ base), joins.Whole total) ≡ (with_joining (given seat receipt member frame) (state (chunk ∷ base)), false)
  read-whole receipt member chunk base cuts_all whole =
      let back : message_of (chunk ∷ base) number total ≡ message = message-back message number (chunk ∷ base) (λ c has at. (cut-of room number message c (All-contains IsCut (chunk ∷ base) c cuts_all has)).1) whole in
      let joined : joined_bytes (state (chunk ∷ base)) ≡ message = ap (λ (t : Bool). if t then message_of (chunk ∷ base) number total else []) whole ∙ back in
      ap (λ (bytes : List ℕ). read_case seat receipt (with_joining member (state (chunk ∷ base))) (frame_at seat.meta bytes)) joined
      ∙ ap (read_case seat receipt (with_joining member (state (chunk ∷ base)))) is.read
      ∙ ap (λ (m : MemberValue). (m, false)) (given-joining seat receipt member frame (state (chunk ∷ base)))

  -- all chunks that were laid behind these
  abbrev stacked : List Chunk → List Came → List Chunk
  stacked base [] = base
  stacked base (c ∷ came) = stacked (c.chunk ∷ base) came

  abbrev receipts_of : List Came → List Receipt
  receipts_of came = map (λ c. c.receipt) came

  there-more : (receipt : Receipt) (c : Came) (came : List Came) → Contains (receipts_of came) receipt → Contains (receipts_of (c ∷ came)) receipt
  there-more receipt c came has = (suc has.0, let below = has.1 in omega (arith, below), has.2)

  -- where the next chunk is laid behind some that don't cover the message, the reader is given it once they do
  pub in-order : (base : List Chunk) (came : List Came) (member : MemberValue) (joining : Joining) (fed : Fed) → All IsCut base → All IsCut (map (λ c. c.chunk) came) → cover base number total ≡ false
      → ((chunk : Chunk) → IsCut chunk → chunk_case joining chunk ≡ laid_on base chunk) → fed.member ≡ with_joining member joining
      → IsGiven seat (receipts_of came) (record fed { member = member }) frame (fold (chunk_on seat) fed came) ⊎ (cover (stacked base came) number total ≡ false)
  in-order base [] member joining fed all_base all_came unwhole next at = inr unwhole
  in-order base (c ∷ came) member joining fed all_base all_came unwhole next at =
      on (λ e now member_is. in-order (c.chunk ∷ base) came member (state (c.chunk ∷ base)) now all_next all_later e (λ chunk is_cut. goes-on (c.chunk ∷ base) chunk is_cut e) member_is)
      (cover (c.chunk ∷ base) number total) refl
    where
      cut : IsCut c.chunk
      cut = All-head IsCut c.chunk (map (λ (c : Came). c.chunk) came) all_came

      all_later : All IsCut (map (λ (c : Came). c.chunk) came)
      all_later = All-tail IsCut c.chunk (map (λ (c : Came). c.chunk) came) all_came

      all_next : All IsCut (c.chunk ∷ base)
      all_next = All-cons IsCut c.chunk base cut all_base

      after-is : (answer : Joining × Joined) → laid_on base c.chunk ≡ answer → piece_case seat c.receipt fed.member (Chunked (chunk_bytes c.chunk)) ≡ joined_case seat c.receipt (with_joining member joining) answer
      after-is answer e =
          ap (λ (m : MemberValue). piece_case seat c.receipt m (Chunked (chunk_bytes c.chunk))) at
          ∙ piece-chunk c.receipt (with_joining member joining) c.chunk cut
          ∙ ap (joined_case seat c.receipt (with_joining member joining)) (next c.chunk cut ∙ e)

      on : (cover (c.chunk ∷ base) number total ≡ false → (now : Fed) → now.member ≡ with_joining member (state (c.chunk ∷ base))
          → IsGiven seat (receipts_of came) (record now { member = member }) frame (fold (chunk_on seat) now came) ⊎ (cover (stacked (c.chunk ∷ base) came) number total ≡ false))
          → (whole : Bool) → cover (c.chunk ∷ base) number total ≡ whole
          → IsGiven seat (receipts_of (c ∷ came)) (record fed { member = member }) frame (fold (chunk_on seat) fed (c ∷ came)) ⊎ (cover (stacked base (c ∷ came)) number total ≡ false)
      on rest true e =
          let chunks = c.chunk ∷ base in
          let answer : laid_on base c.chunk ≡ (state chunks, joins.Whole total) = ap (λ (t : Bool). (state chunks, if t then joins.Whole total else joins.Part)) e in
          let after = after-is (state chunks, joins.Whole total) answer ∙ read-whole c.receipt (with_joining member joining) c.chunk base all_next e in
          let read = with_joining (given seat c.receipt member frame) (state chunks) in
          let member_is : (chunk_on seat fed c).member ≡ read = ap (λ (p : MemberValue × Bool). p.0) after ∙ ap (λ (m : MemberValue). with_joining m (state chunks)) (given-joining seat c.receipt member frame joining) in
          let bad_is : (chunk_on seat fed c).bad ≡ fed.bad = ap (λ (p : MemberValue × Bool). fed.bad + count_if p.1) after ∙ omega arith in
          let later = past-whole chunks came (chunk_on seat fed c) all_later e (ap (λ (m : MemberValue). m.joining) member_is) in
          inl (record { receipt = c.receipt; one_of = (0, omega arith, refl); joining = state chunks; member = later.0 ∙ member_is; joins = inr (sym is.frame_number, is.not_alive); good = later.1 ∙ bad_is })
      on rest false e =
          let chunks = c.chunk ∷ base in
          let answer : laid_on base c.chunk ≡ (state chunks, joins.Part) = ap (λ (t : Bool). (state chunks, if t then joins.Whole total else joins.Part)) e in
          let after : piece_case seat c.receipt fed.member (Chunked (chunk_bytes c.chunk)) ≡ (with_joining member (state chunks), false) = after-is (state chunks, joins.Part) answer in
          let member_is : (chunk_on seat fed c).member ≡ with_joining member (state chunks) = ap (λ (p : MemberValue × Bool). p.0) after in
          let bad_is : (chunk_on seat fed c).bad ≡ fed.bad = ap (λ (p : MemberValue × Bool). fed.bad + count_if p.1) after ∙ omega arith in
          pass bad_is (rest e (chunk_on seat fed c) member_is)
        where
          pass : (chunk_on seat fed c).bad ≡ fed.bad
              → IsGiven seat (receipts_of came) (record (chunk_on seat fed c) { member = member }) frame (fold (chunk_on seat) (chunk_on seat fed c) came) ⊎ (cover (stacked (c.chunk ∷ base) came) number total ≡ false)
              → IsGiven seat (receipts_of (c ∷ came)) (record fed { member = member }) frame (fold (chunk_on seat) fed (c ∷ came)) ⊎ (cover (stacked base (c ∷ came)) number total ≡ false)
          pass bad_is (inr unwhole) = inr unwhole
          pass bad_is (inl g) = inl (record { receipt = g.receipt; one_of = there-more g.receipt c came g.one_of; joining = g.joining; member = g.member; joins = g.joins; good = g.good ∙ bad_is })

  -- ---- all chunks of the cut

  stacked-has : (base : List Chunk) (came : List Came) (chunk : Chunk) → Contains base chunk ⊎ Contains (map (λ (c : Came). c.chunk) came) chunk → Contains (stacked base came) chunk
  stacked-has base [] chunk (inl has) = has
  stacked-has base [] chunk (inr has) = absurd (let below = has.1 in omega (arith, below))
  stacked-has base (c ∷ came) chunk (inl has) = stacked-has (c.chunk ∷ base) came chunk (inl (suc has.0, (let below = has.1 in omega (arith, below)), has.2))
  stacked-has base (c ∷ came) chunk (inr (zero, below, same)) = stacked-has (c.chunk ∷ base) came chunk (inl (0, omega arith, same))
  stacked-has base (c ∷ came) chunk (inr (suc k, below, same)) = stacked-has (c.chunk ∷ base) came chunk (inr (k, omega (arith, below), same))

  pub cut-given : (came : List Came) (fed : Fed) → map (λ c. c.chunk) came ≡ cuts room number message → IsNewFor fed.member.joining.current number
      → IsGiven seat (receipts_of came) fed frame (fold (chunk_on seat) fed came)
  cut-given came fed all new =
      let all_came : All IsCut (map (λ (c : Came). c.chunk) came) = subst (λ (l : List Chunk). All IsCut l) (sym all) (λ k d below. (k, below, Rattle.std.proofs.lemmas.List.get_or_default (cuts room number message) k _ d below)) in
      finish (in-order [] came fed.member fed.member.joining fed (All-nil IsCut) all_came (cover_none number total is.some)
      (λ chunk cut. proper fed.member.joining chunk cut ∙ begins fed.member.joining chunk fed.member.joining.current cut new ∙ laid-is empty chunk cut) refl)
    where
      covered : cover (stacked [] came) number total ≡ true
      covered = cuts-cover room number message (stacked [] came) is.has_room
          (λ k d below. stacked-has [] came (Rattle.std.specs.Prelude.slice_index_or (cuts room number message) k d)
          (inr (subst (λ (l : List Chunk). Contains l (Rattle.std.specs.Prelude.slice_index_or (cuts room number message) k d)) (sym all) (k, below, Rattle.std.proofs.lemmas.List.get_or_default (cuts room number message) k _ d below))))

      finish : IsGiven seat (receipts_of came) fed frame (fold (chunk_on seat) fed came) ⊎ (cover (stacked [] came) number total ≡ false) → IsGiven seat (receipts_of came) fed frame (fold (chunk_on seat) fed came)
      finish (inl given_is) = given_is
      finish (inr unwhole) = absurd (let wrong : Path Bool true false = sym covered ∙ unwhole in cc)
