-- Readers that read alike: the same is kept for them, and the same comes to them.
use Rattle.std.proofs.Common.{◌≡◌, refl, sym, ap, ◌∙◌, subst, arith, ℕ, ◌+◌, ◌<◌, Bool, true, false, List, [], ◌∷◌, length}
use Rattle.std.specs.Prelude.{◌==◌, fold, slice_index_or, Result, Ok, Err}
use Rattle.pubsub_model.specs.declared.reading.Why.TheVariants.{NewToken, Timeout}
use Rattle.frame_codec.specs.declared.fault.FrameFault.{FrameFault}
use Rattle.frame_codec.specs.Frames.{Frame}
use Rattle.frame_codec.specs.Reading.{frame_at}
use Rattle.chunker.specs.Chunks.{Chunk}
use Rattle.chunker.specs.Joining.{Joining, chunk_case, joined_bytes}
use Rattle.chunker.specs.Joins.{numbered}
use Rattle.chunker.specs.Spelling.{chunk_at, without_rest}
use Rattle.chunker.specs.declared.joiner.Joined.{Joined}
use Rattle.chunker.specs.declared.joiner.Joined.TheVariants as joins
use Rattle.chunker.specs.declared.payload.ChunkFault.{ChunkFault}
use Rattle.message_guard.specs.declared.keys.TokenKeys.{TokenKeys}
use Rattle.message_guard.specs.Acceptance.{Accepted}
use Rattle.message_guard.specs.Guards.{Setup}
use Rattle.uadp_header.specs.declared.fault.HeaderFault.{HeaderFault}
use Rattle.uadp_header.specs.Headers.{HeaderValue}
use Rattle.uadp_header.specs.Layout.{header_at}
use Rattle.ps_config.specs.declared.parts.Config.{Config}
use Rattle.ps_config.specs.declared.parts.ReadGroupPart.{ReadGroupPart}
use Rattle.reader_group.specs.declared.receipt.Receipt.{Receipt}
use Rattle.reader_group.specs.declared.refusal.Refusal.{Refusal}
use Rattle.reader_group.specs.Arrivals.{Mark, Way, accepted, accepted_with, arrivals_in, cut_on, marks, runs_out, taken_in}
use Rattle.reader_group.specs.Members.{MemberValue, Seat, expired, new_member, seat_at}
use Rattle.reader_group.specs.Opening.{Opened, verdict, verdict_of}
use Rattle.reader_group.specs.Payloads.{Chunk as ChunkPayload, Chunked, Message, Messages, Missing, Payload, Piece, Slots, Slotted, pieces}
use Rattle.reader_group.specs.Plain as befalls
use Rattle.reader_group.specs.Plain.{Event, Fed, PlainGroup, Setting, chunked_case, count_if, cut_if, fed_by, fed_on, is_raised, joined_case, member_at, opening, piece_case, plain, read_case, receipt_of, stopped_if, taken_on, unfed, with_keys}
use Rattle.reader_group.specs.Settings.{seat_in, setting_by}
use Rattle.reader_group.specs.SlotFrames.{slot_frame_at}
use Rattle.reader_group.proofs.Accepting.{plain-accepted}
use Rattle.reader_group.proofs.Each.{each-at, fed_member-at}
use Rattle.session_laws.specs.Pasts.{CameAsMade}
use Rattle.session_laws.specs.Readers.{IsMadeFor, Making}
use Rattle.writer_group.specs.Turns.{GroupDeed}
use Rattle.std.proofs.lemmas.List.{get_or-map, length-map}
use Rattle.device_laws.specs.Alike.{ReadsAlike, judging, unnamed}

-- ---- a datagram is judged without names and indexes

judged-read : (group : ReadGroupPart) (setup : Setup) (pairs : Accepted) (datagram : List ℕ) (read : Result (HeaderValue × List ℕ) HeaderFault)
    → verdict_of (judging group) setup pairs datagram read ≡ verdict_of group setup pairs datagram read
judged-read group setup pairs datagram (Err fault) = refl
judged-read group setup pairs datagram (Ok read) = refl

judged-alone : (group : ReadGroupPart) (setup : Setup) (pairs : Accepted) (datagram : List ℕ) → verdict (judging group) setup pairs datagram ≡ verdict group setup pairs datagram
judged-alone group setup pairs datagram = judged-read group setup pairs datagram (header_at datagram)

-- ---- so are a reader's parts read

module _ (seat : Seat) (receipt : Receipt) where
  abbrev bare : Seat
  bare = unnamed seat

  read-bare : (member : MemberValue) (read : Result Frame FrameFault) → read_case bare receipt member read ≡ read_case seat receipt member read
  read-bare member (Err fault) = refl
  read-bare member (Ok frame) = refl

  joined-bare : (member : MemberValue) (joined : Joining × Joined) → joined_case bare receipt member joined ≡ joined_case seat receipt member joined
  joined-bare member (joining, joins.Whole total) = read-bare (record member { joining = joining }) (frame_at seat.meta (joined_bytes joining))
  joined-bare member (joining, joins.Part) = refl
  joined-bare member (joining, joins.Older) = refl
  joined-bare member (joining, joins.TooLong total) = refl
  joined-bare member (joining, joins.BadRange offset total) = refl
  joined-bare member (joining, joins.Differs first now) = refl

  chunked-bare : (member : MemberValue) (read : Result Chunk ChunkFault) → chunked_case bare receipt member read ≡ chunked_case seat receipt member read
  chunked-bare member (Err fault) = refl
  chunked-bare member (Ok chunk) = joined-bare member (chunk_case member.joining (numbered chunk))

  piece-bare : (member : MemberValue) (piece : Piece) → piece_case bare receipt member piece ≡ piece_case seat receipt member piece
  piece-bare member (Message bytes) = read-bare member (frame_at seat.meta bytes)
  piece-bare member (Chunked bytes) = chunked-bare member (without_rest (chunk_at bytes))
  piece-bare member (Slotted bytes) = read-bare member (slot_frame_at seat.meta bytes)
  piece-bare member Missing = refl

  fold-bare : (fed : Fed) (list : List Piece) → fold (fed_on bare receipt) fed list ≡ fold (fed_on seat receipt) fed list
  fold-bare fed [] = refl
  fold-bare fed (piece ∷ list) =
      ap (λ (after : MemberValue × Bool). fold (fed_on bare receipt) (record { member = after.0; matched = fed.matched + 1; bad = fed.bad + count_if after.1 }) list) (piece-bare fed.member piece)
      ∙ fold-bare (fed_on seat receipt fed piece) list

  pieces-bare : (payload : Payload) → pieces bare.part payload ≡ pieces seat.part payload
  pieces-bare (Slots datagram) = refl
  pieces-bare (ChunkPayload writer bytes) = refl
  pieces-bare (Messages parts) = refl

  fed-bare : (raised enabled : Bool) (payload : Payload) (member : MemberValue) → fed_by bare receipt raised enabled payload member ≡ fed_by seat receipt raised enabled payload member
  fed-bare raised true payload member =
      let now = unfed (cut_if raised NewToken member) in
      ap (fold (fed_on bare receipt) now) (pieces-bare payload) ∙ fold-bare now (pieces seat.part payload)
  fed-bare raised false payload member = refl

-- ---- two that read alike

module _ (i : ℕ) (one other : Setting) (alike : ReadsAlike i one other) where
  pub alike-verdict : (pairs : Accepted) (datagram : List ℕ) → verdict one.group one.setup pairs datagram ≡ verdict other.group other.setup pairs datagram
  alike-verdict pairs datagram =
      sym (judged-alone one.group one.setup pairs datagram)
      ∙ ap (λ (group : ReadGroupPart). verdict group one.setup pairs datagram) alike.group
      ∙ ap (λ (setup : Setup). verdict (judging other.group) setup pairs datagram) alike.setup
      ∙ judged-alone other.group other.setup pairs datagram

  with-one : (pairs : Accepted) (v : Result Opened Refusal) → accepted_with one pairs v ≡ accepted_with other pairs v
  with-one pairs (Err refusal) = refl
  with-one pairs (Ok opened) = ap (λ (setup : Setup). accepted_with (record one { setup = setup }) pairs (Ok opened)) alike.setup

  pub alike-accepted : (list : List Event) → accepted one list ≡ accepted other list
  alike-accepted [] = refl
  alike-accepted (befalls.Got now on datagram ∷ before) =
      with-one (accepted one before) (verdict one.group one.setup (accepted one before) datagram)
      ∙ ap (accepted_with other (accepted one before)) (alike-verdict (accepted one before) datagram)
      ∙ ap (λ (pairs : Accepted). accepted_with other pairs (verdict other.group other.setup pairs datagram)) (alike-accepted before)
  alike-accepted (befalls.Expired now ∷ before) = alike-accepted before
  alike-accepted (befalls.Stopped reader why ∷ before) = alike-accepted before

  -- what came was made
  pub alike-came : (config : Config) (pasts : ℕ → List GroupDeed) (list : List Event) → CameAsMade one config pasts list → CameAsMade other config pasts list
  alike-came config pasts [] came = tt
  alike-came config pasts (befalls.Got now on datagram ∷ before) came = (
    λ opened is.
        came.0 opened
        (alike-verdict (accepted one before) datagram ∙ ap (λ (pairs : Accepted). verdict other.group other.setup pairs datagram) (alike-accepted before) ∙ is),
    alike-came config pasts before came.1,
  )
  alike-came config pasts (befalls.Expired now ∷ before) came = alike-came config pasts before came
  alike-came config pasts (befalls.Stopped reader why ∷ before) came = alike-came config pasts before came

  pub alike-made : (m : Making) (way : Way) (datagram : List ℕ) → IsMadeFor m other way datagram → IsMadeFor m one way datagram
  alike-made m way datagram made pairs opened is = made pairs opened (sym (alike-verdict pairs datagram) ∙ is)

  -- what comes to a reader
  taken-alike : (way : Way) (now : ℕ) (on : Bool) (pairs : Accepted) (so_far : List Mark) (v : Result Opened Refusal) → taken_in one way now on pairs so_far v ≡ taken_in other way now on pairs so_far v
  taken-alike way now on pairs so_far (Err refusal) = refl
  taken-alike way now on pairs so_far (Ok opened) = ap (λ (setup : Setup). taken_in (record one { setup = setup }) way now on pairs so_far (Ok opened)) alike.setup

  pub alike-marks : (way : Way) (list : List Event) → marks one way list ≡ marks other way list
  alike-marks way [] = refl
  alike-marks way (befalls.Got now on datagram ∷ before) =
      let enabled = slice_index_or on way.index false in
      let pairs = accepted one before in
      taken-alike way now enabled pairs (marks one way before) (verdict one.group one.setup pairs datagram)
      ∙ ap (taken_in other way now enabled pairs (marks one way before)) (alike-verdict pairs datagram)
      ∙ ap (λ (p : Accepted). taken_in other way now enabled p (marks one way before) (verdict other.group other.setup p datagram)) (alike-accepted before)
      ∙ ap (λ (list : List Mark). taken_in other way now enabled (accepted other before) list (verdict other.group other.setup (accepted other before) datagram)) (alike-marks way before)
  alike-marks way (befalls.Expired now ∷ before) = ap (λ (list : List Mark). cut_on (runs_out way now (arrivals_in list)) Timeout list) (alike-marks way before)
  alike-marks way (befalls.Stopped reader why ∷ before) = ap (cut_on (reader == way.index) why) (alike-marks way before)

  -- ---- what is kept for the reader

  module _ (within : i < length other.seats) where
    abbrev first : Seat
    first = seat_at one.seats i

    abbrev second : Seat
    second = seat_at other.seats i

    fed-alike : (now : ℕ) (enabled : Bool) (opened : Opened) (pairs : Accepted) (member : MemberValue)
        → fed_by first (receipt_of one now opened) (is_raised one pairs opened) enabled opened.payload member
        ≡ fed_by second (receipt_of other now opened) (is_raised other pairs opened) enabled opened.payload member
    fed-alike now enabled opened pairs member =
        ap (λ (setup : Setup). let s : Setting = record one { setup = setup } in fed_by first (receipt_of s now opened) (is_raised s pairs opened) enabled opened.payload member) alike.setup
        ∙ sym (fed-bare first (receipt_of other now opened) (is_raised other pairs opened) enabled opened.payload member)
        ∙ ap (λ (seat : Seat). fed_by seat (receipt_of other now opened) (is_raised other pairs opened) enabled opened.payload member) alike.seat
        ∙ fed-bare second (receipt_of other now opened) (is_raised other pairs opened) enabled opened.payload member

    got-alike : (now : ℕ) (on : List Bool) (a b : PlainGroup) (v : Result Opened Refusal) → a.accepted ≡ b.accepted → member_at a.members i ≡ member_at b.members i
        → member_at (taken_on one a now on v).members i ≡ member_at (taken_on other b now on v).members i
    got-alike now on a b (Err refusal) pairs same = same
    got-alike now on a b (Ok opened) pairs same =
        let enabled = slice_index_or on i false in
        fed_member-at one.seats a.members (λ k seat member. fed_by seat (receipt_of one now opened) (is_raised one a.accepted opened) (slice_index_or on k false) opened.payload member) i alike.within
        ∙ ap (λ (fed : Fed). fed.member)
        (ap (λ (p : Accepted). fed_by first (receipt_of one now opened) (is_raised one p opened) enabled opened.payload (member_at a.members i)) pairs
        ∙ ap (fed_by first (receipt_of one now opened) (is_raised one b.accepted opened) enabled opened.payload) same
        ∙ fed-alike now enabled opened b.accepted (member_at b.members i))
        ∙ sym (fed_member-at other.seats b.members (λ k seat member. fed_by seat (receipt_of other now opened) (is_raised other b.accepted opened) (slice_index_or on k false) opened.payload member) i within)

    both-accepted : (list : List Event) → (plain one list).accepted ≡ (plain other list).accepted
    both-accepted list = plain-accepted one list ∙ alike-accepted list ∙ sym (plain-accepted other list)

    pub alike-member : (list : List Event) → member_at (plain one list).members i ≡ member_at (plain other list).members i
    alike-member [] =
        get_or-map (λ (seat : Seat). new_member) one.seats i first new_member alike.within
        ∙ sym (get_or-map (λ (seat : Seat). new_member) other.seats i second new_member within)
    alike-member (befalls.Got now on datagram ∷ before) =
        let a = plain one before in
        let b = plain other before in
        got-alike now on a b (verdict one.group one.setup a.accepted datagram) (both-accepted before) (alike-member before)
        ∙ ap (λ (v : Result Opened Refusal). member_at (taken_on other b now on v).members i)
        (alike-verdict a.accepted datagram ∙ ap (λ (pairs : Accepted). verdict other.group other.setup pairs datagram) (both-accepted before))
    alike-member (befalls.Expired now ∷ before) =
        let a = plain one before in
        let b = plain other before in
        each-at one.seats a.members (λ k seat member. expired seat.part.timeout now member) i new_member alike.within
        ∙ ap (λ (seat : Seat). expired seat.part.timeout now (member_at a.members i)) alike.seat
        ∙ ap (expired second.part.timeout now) (alike-member before)
        ∙ sym (each-at other.seats b.members (λ k seat member. expired seat.part.timeout now member) i new_member within)
    alike-member (befalls.Stopped reader why ∷ before) =
        let a = plain one before in
        let b = plain other before in
        each-at one.seats a.members (λ k seat member. stopped_if (k == reader) why member) i new_member alike.within
        ∙ ap (stopped_if (i == reader) why) (alike-member before)
        ∙ sym (each-at other.seats b.members (λ k seat member. stopped_if (k == reader) why member) i new_member within)

-- with whichever keys
pub alike-keys : (i : ℕ) (one other : Setting) (keys : List TokenKeys) → ReadsAlike i one other → ReadsAlike i (with_keys one keys) (with_keys other keys)
alike-keys i one other keys alike = record {
  group = alike.group;
  setup = ap (λ (setup : Setup). record setup { keys = keys }) alike.setup;
  within = alike.within;
  seat = alike.seat;
}

pub alike-same : (i : ℕ) (one other : Setting) → one ≡ other → i < length other.seats → ReadsAlike i one other
alike-same i one other same within = record {
  group = ap (λ (s : Setting). judging s.group) same;
  setup = ap (λ (s : Setting). s.setup) same;
  within = subst (λ (s : Setting). i < length s.seats) (sym same) within;
  seat = ap (λ (s : Setting). unnamed (seat_at s.seats i)) same;
}

-- a reader of a part has a seat in its setting
pub seated : (config : Config) (readers : ReadGroupPart) (i : ℕ) → i < length readers.reader → i < length (setting_by config readers).seats
seated config readers i low = let many = length-map readers.reader (seat_in config) in omega (arith, many, low)
