-- The messages of a dynamic datagram, one after another.
use Rattle.std.proofs.Common.{◌≡◌, ◌≢◌, refl, sym, ap, ◌∙◌, subst, arith, ℕ, ◌+◌, ◌*◌, ◌<◌, Bool, true, false, List, [], ◌∷◌, ◌++◌, length, take, map, Some}
use Rattle.std.specs.Prelude.{◌==◌, not, cond, filter, fold, slice_get}
use Rattle.std.proofs.lemmas.Bool.Decides.{nat_tests}
use Rattle.std.proofs.lemmas.List.{append-nil, length-map}
use Rattle.std.proofs.lemmas.List.Elements.{filter_more}
use Rattle.std.proofs.lemmas.List.Sums.{fold_more}
use Rattle.std.proofs.lemmas.Option.{get_or_from_slice_get, slice_get_within}
use Rattle.std.proofs.lemmas.Slice.Zip.{get_or-zip, length-zip}
use Rattle.std.proofs.Math.Seq.{take-length}
use Rattle.uadp_header.specs.Headers.{ids_of}
use Rattle.uadp_header.proofs.IdLaws.{ids-count}
use Rattle.payload_layout.specs.Payloads.{frame_at}
use Rattle.ps_config.specs.declared.parts.ReaderPart.{ReaderPart}
use Rattle.reader_group.specs.declared.payload.Messages.{Messages as MessagesWords}
use Rattle.reader_group.specs.declared.receipt.Receipt.{Receipt}
use Rattle.reader_group.specs.declared.member.Member.{Member}
use Rattle.reader_group.specs.declared.account.Account.{Account}
use Rattle.reader_group.specs.declared.notice.PartOutcome.{PartOutcome}
use Rattle.reader_group.specs.Members.{MemberValue, Seat}
use Rattle.reader_group.specs.MemberWords.{Follows, IsFed}
use Rattle.reader_group.specs.Payloads.{Message, Messages, pieces}
use Rattle.reader_group.specs.Held.{listed, listed_at, listed_upto}
use Rattle.reader_group.specs.Notices.{AccountValue, account_on, account_if, no_account, piece_outcome}
use Rattle.reader_group.specs.Plain.{piece_case}
use Rattle.reader_group.proofs.Taking.{Counts, more-fed}

-- a message for the reader of this writer, or for another
abbrev pub offered : Seat → Receipt → ℕ → AccountValue → ℕ × List ℕ → AccountValue
offered seat receipt writer fed part = account_if seat receipt (part.0 == writer) fed (Message part.1)

offered_on : (b : Bool) (seat : Seat) (receipt : Receipt) (reader : ReaderPart) (fed : AccountValue) (part : ℕ × List ℕ) (parts : List (ℕ × List ℕ)) → (part.0 == reader.writer) ≡ b
    → ((next : AccountValue) → fold (offered seat receipt reader.writer) next parts ≡ fold (account_on seat receipt) next (pieces reader (Messages parts)))
    → fold (offered seat receipt reader.writer) (offered seat receipt reader.writer fed part) parts ≡ fold (account_on seat receipt) fed (pieces reader (Messages (part ∷ parts)))
offered_on true seat receipt reader fed part parts e behind = rw e (behind (account_on seat receipt fed (Message part.1)))
offered_on false seat receipt reader fed part parts e behind = rw e (behind fed)

-- the messages that are the reader's, one after another
pub offered-all : (seat : Seat) (receipt : Receipt) (reader : ReaderPart) (fed : AccountValue) (parts : List (ℕ × List ℕ))
    → fold (offered seat receipt reader.writer) fed parts ≡ fold (account_on seat receipt) fed (pieces reader (Messages parts))
offered-all seat receipt reader fed [] = refl
offered-all seat receipt reader fed (part ∷ parts) =
    offered_on (part.0 == reader.writer) seat receipt reader fed part parts refl (λ next. offered-all seat receipt reader next parts)

pub offered-more : (seat : Seat) (receipt : Receipt) (writer : ℕ) (fed : AccountValue) (messages : MessagesWords) (index : ℕ) → index < length (listed messages)
    → fold (offered seat receipt writer) fed (take (index + 1) (listed messages))
    ≡ offered seat receipt writer (fold (offered seat receipt writer) fed (take index (listed messages))) (listed_at messages index)
offered-more seat receipt writer fed messages index within = fold_more (offered seat receipt writer) fed (listed messages) index (0, []) within

-- there is an id for each message
pub listed-length : (messages : MessagesWords) → length messages.ids.now ≡ 2 * length messages.parts.now → length (listed messages) ≡ length messages.parts.now
listed-length messages count =
    let ids = ids_of messages.ids.now in
    let frames = map (frame_at messages.payload.now) messages.parts.now in
    let long : length frames ≡ length messages.parts.now = length-map messages.parts.now (frame_at messages.payload.now) in
    omega (arith, length-zip ids frames, ids-count messages.ids.now, count, long)

take_all : {X : Type 0} (xs : List X) (n : ℕ) → n ≡ length xs → take n xs ≡ xs
take_all xs n is = ap (λ (k : ℕ). take k xs) is ∙ take-length xs

pub offered-end : (seat : Seat) (receipt : Receipt) (reader : ReaderPart) (fed : AccountValue) (messages : MessagesWords) (index : ℕ) → length messages.ids.now ≡ 2 * length messages.parts.now
    → index ≡ length messages.parts.now
    → fold (offered seat receipt reader.writer) fed (take index (listed messages)) ≡ fold (account_on seat receipt) fed (pieces reader (Messages (listed messages)))
offered-end seat receipt reader fed messages index count is =
    ap (fold (offered seat receipt reader.writer) fed) (take_all (listed messages) index (is ∙ sym (listed-length messages count)))
    ∙ offered-all seat receipt reader fed (listed messages)

-- the id at an index, and the message
pub listed-id : (messages : MessagesWords) (index id : ℕ) → length messages.ids.now ≡ 2 * length messages.parts.now → index < length messages.parts.now
    → slice_get (ids_of messages.ids.now) index ≡ Some id → (listed_at messages index).0 ≡ id
listed-id messages index id count within id_is =
    let ids = ids_of messages.ids.now in
    let frames = map (frame_at messages.payload.now) messages.parts.now in
    let long : length frames ≡ length messages.parts.now = length-map messages.parts.now (frame_at messages.payload.now) in
    ap (λ (part : ℕ × List ℕ). part.0) (get_or-zip ids frames index (0, []) (slice_get_within ids index id id_is) (omega (arith, long, within))) ∙ get_or_from_slice_get ids index id 0 id_is

pub listed-bytes : (messages : MessagesWords) (index : ℕ) (bytes : List ℕ) → length messages.ids.now ≡ 2 * length messages.parts.now → index < length messages.parts.now
    → slice_get (map (frame_at messages.payload.now) messages.parts.now) index ≡ Some bytes → (listed_at messages index).1 ≡ bytes
listed-bytes messages index bytes count within bytes_are =
    let ids = ids_of messages.ids.now in
    let frames = map (frame_at messages.payload.now) messages.parts.now in
    ap (λ (part : ℕ × List ℕ). part.1)
    (get_or-zip ids frames index (0, []) (omega (arith, ids-count messages.ids.now, count, within)) (slice_get_within frames index bytes bytes_are))
    ∙ get_or_from_slice_get frames index bytes [] bytes_are

-- messages between which all are of other writers bring the reader nothing
pub offered-passed : (seat : Seat) (receipt : Receipt) (reader : ReaderPart) (fed : AccountValue) (messages : MessagesWords) (from to : ℕ)
    → listed_upto reader.writer to messages ≡ listed_upto reader.writer from messages
    → fold (offered seat receipt reader.writer) fed (take to (listed messages)) ≡ fold (offered seat receipt reader.writer) fed (take from (listed messages))
offered-passed seat receipt reader fed messages from to passed =
    offered-all seat receipt reader fed (take to (listed messages))
    ∙ ap (λ (own : List (ℕ × List ℕ)). fold (account_on seat receipt) fed (map (λ (part : ℕ × List ℕ). Message part.1) own)) passed
    ∙ sym (offered-all seat receipt reader fed (take from (listed messages)))

-- so it has been given nothing where all before are
pub unfed-passed : (seat : Seat) (receipt : Receipt) (reader : ReaderPart) (value : MemberValue) (messages : MessagesWords) (to : ℕ) (member : Member) (account : Account)
    → listed_upto reader.writer to messages ≡ listed_upto reader.writer 0 messages → IsFed seat (no_account value) member account
    → IsFed seat (fold (offered seat receipt reader.writer) (no_account value) (take to (listed messages))) member account
unfed-passed seat receipt reader value messages to member account passed is =
    subst (λ (fed : AccountValue). IsFed seat fed member account) (sym (offered-passed seat receipt reader (no_account value) messages 0 to passed)) is

-- ---- one message

other_eqb : (a b : ℕ) → a ≢ b → (a == b) ≡ false
other_eqb a b other = grind (arith, nat_tests)

same_eqb : (a b : ℕ) → a ≡ b → (a == b) ≡ true
same_eqb a b same = grind (arith, nat_tests)

not-same : (a b : ℕ) → not (a == b) ≡ true → a ≢ b
not-same a b other same = absurd (grind (arith, nat_tests))

-- a message of another writer is passed
pub passed-more : (writer : ℕ) (messages : MessagesWords) (index id : ℕ) → length messages.ids.now ≡ 2 * length messages.parts.now → index < length messages.parts.now
    → slice_get (ids_of messages.ids.now) index ≡ Some id → id ≢ writer → listed_upto writer (index + 1) messages ≡ listed_upto writer index messages
passed-more writer messages index id count within id_is other =
    let is_own : ℕ × List ℕ → Bool = λ part. part.0 == writer in
    let before = filter is_own (take index (listed messages)) in
    let here = listed_at messages index in
    let is_other : is_own here ≡ false = ap (λ (n : ℕ). n == writer) (listed-id messages index id count within id_is) ∙ other_eqb id writer other in
    filter_more is_own (listed messages) index (0, []) (omega (arith, listed-length messages count))
    ∙ ap (λ (b : Bool). before ++ cond b (here ∷ []) []) is_other
    ∙ append-nil before

pub passed-other : (writer : ℕ) (messages : MessagesWords) (index id : ℕ) → length messages.ids.now ≡ 2 * length messages.parts.now → index < length messages.parts.now
    → slice_get (ids_of messages.ids.now) index ≡ Some id → not (id == writer) ≡ true → listed_upto writer (index + 1) messages ≡ listed_upto writer index messages
passed-other writer messages index id count within id_is other = passed-more writer messages index id count within id_is (not-same id writer other)

-- a message of the reader's writer is given to it
pub offered-own : (seat : Seat) (receipt : Receipt) (writer id : ℕ) (fed : AccountValue) (part : ℕ × List ℕ) (bytes : List ℕ) (old : Member) (member : Member) (before account : Account) (outcome : PartOutcome)
    → part.0 ≡ id → id ≡ writer → part.1 ≡ bytes → IsFed seat fed old before
    → Follows seat (piece_case seat receipt fed.fed.member (Message bytes)).0 (piece_outcome seat receipt fed.fed.member (Message bytes)) member outcome → Counts before account outcome
    → IsFed seat (account_if seat receipt (part.0 == writer) fed (Message part.1)) member account
offered-own seat receipt writer id fed part bytes old member before account outcome is own bytes_are h follows counts =
    let own_is : (part.0 == writer) ≡ true = ap (λ (n : ℕ). n == writer) is ∙ same_eqb id writer own in
    let here : IsFed seat (account_on seat receipt fed (Message bytes)) member account = more-fed seat receipt fed (Message bytes) old member outcome before account follows counts h in
    subst (λ (b : Bool). IsFed seat (account_if seat receipt b fed (Message part.1)) member account) (sym own_is)
    (subst (λ (l : List ℕ). IsFed seat (account_on seat receipt fed (Message l)) member account) (sym bytes_are) here)
