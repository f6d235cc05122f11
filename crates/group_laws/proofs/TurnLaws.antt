-- The laws of one turn: what is taken of its datagrams, and what they have for a reader.
use Rattle.std.proofs.Common.{◌≡◌, ◌≢◌, refl, sym, ap, ◌∙◌, subst, arith, ℕ, zero, suc, ◌+◌, ◌<◌, ◌≤◌, ◌^◌, Bool, true, false, not, ◌||◌, List, [], ◌∷◌, ◌++◌, length, drop, Option, Some, None, Result, Ok, All}
use Rattle.std.specs.Prelude.{slice_get, nat_lt, if◌then◌else◌}
use Rattle.std.specs.List.{flat_map}
use Rattle.std.proofs.lemmas.List.{drop_at}
use Rattle.std.proofs.lemmas.Option.{none-some}
use Rattle.std.proofs.lemmas.List.Elements.{All-cons, All-head, All-tail, All-nil}
use Rattle.uadp_header.specs.Spelling.{IsWritten, header_bytes}
use Rattle.message_guard.specs.declared.mode.Mode.{Mode}
use Rattle.message_guard.specs.declared.mode.Mode.TheVariants as modes
use Rattle.message_guard.specs.Acceptance.{Accepted, is_acceptable}
use Rattle.message_guard.specs.Guards.{Setup}
use Rattle.message_guard.specs.Modes as guard_modes
use Rattle.message_guard.specs.Senders.{SenderState}
use Rattle.config_tables.specs.declared.words.Layout.{Layout}
use Rattle.config_tables.specs.declared.words.Layout.TheVariants as layouts
use Rattle.ps_config.specs.declared.parts.Config.{Config}
use Rattle.ps_config.specs.declared.parts.GroupPart.{GroupPart}
use Rattle.ps_config.specs.declared.parts.ReadGroupPart.{ReadGroupPart}
use Rattle.ps_config.specs.declared.parts.ReaderPart.{ReaderPart}
use Rattle.ps_config.specs.Rooms.{chunk_room}
use Rattle.ps_config.specs.Sound.{IsGroup}
use Rattle.writer_group.specs.Envelopes.{frame_room}
use Rattle.writer_group.specs.Payloads.{Spelled, payloads_by, payloads_of}
use Rattle.writer_group.specs.Sealing.{AreWritten, envelope_with, Payload, Envelope, header_at, datagram_at, datagrams_from}
use Rattle.writer_group.specs.Turns.{GroupDeed, TurnInput, made_in, envelope_of, frames_in, turns_from, turn_datagrams, frame_by}
use Rattle.reader_group.specs.declared.refusal.Refusal.{Refusal}
use Rattle.reader_group.specs.Members.{Seat}
use Rattle.reader_group.specs.Opening.{Opened, verdict}
use Rattle.reader_group.specs.Payloads.{Piece, pieces}
use Rattle.reader_group.specs.Settings.{setup_by}
use Rattle.group_laws.specs.Matching.{IsMatched, ReadsWriter, IsGroupTurn, MaySend}
use Rattle.group_laws.specs.TurnOpened.{sender_at, opened_at, opened_from, turn_opened, is_accepted, IsTakenAs}
use Rattle.group_laws.specs.TurnPieces.{dynamic_pieces, turn_pieces}
use Rattle.writer_group.proofs.SmallIds.{IsSmall, group-sound, id_at, turn-small}
use Rattle.group_laws.proofs.DynamicPieces.{brought, brought-all}
use Rattle.group_laws.proofs.PayloadsGood.{IsGood, dynamic-good}
use Rattle.group_laws.proofs.TurnFrames.{own-frames, pieces_if}
use Rattle.group_laws.proofs.TurnTaken.{IsOne, open-one, secured-one, late-one, guard-is, setup-open}
use Rattle.group_laws.proofs.Writers.{other-id}

-- ---- one datagram is taken

taken-if-open : (setup : Setup) (accepted : Accepted) (opened : Opened) (answer : Result Opened Refusal) → setup.mode ≡ modes.None → answer ≡ Ok opened → IsTakenAs (is_accepted setup accepted opened.pass) opened answer
taken-if-open setup accepted opened answer none is = record {
  taken = λ e. is;
  refused = λ e. absurd (let wrong : Path Bool true false = sym (ap (λ (m : Mode). not (guard_modes.is_secured m) || is_acceptable setup.keys accepted opened.pass.token opened.pass.number) none) ∙ e in cc);
}

secured-test : (mode : Mode) (b : Bool) → guard_modes.is_secured mode ≡ true → (not (guard_modes.is_secured mode) || b) ≡ b
secured-test mode b secured = ap (λ (t : Bool). not t || b) secured

pub one-taken : (config : Config) (group : GroupPart) (reads : ReadGroupPart) (accepted : Accepted) (made index count : ℕ) (payload : Payload) (sender : Option SenderState) → IsOne config group reads payload → MaySend config group count sender
    → IsWritten (header_at (envelope_with config group made) sender index payload.0) → index < count
    → (let e = envelope_with config group made in let setup = setup_by config reads reads.keygroup in let opened = opened_at group.layout e sender index payload in
    IsTakenAs (is_accepted setup accepted opened.pass) opened (verdict reads setup accepted (datagram_at e sender index payload)))
one-taken config group reads accepted made index count payload None one may written within =
    taken-if-open (setup_by config reads reads.keygroup) accepted (opened_at group.layout (envelope_with config group made) None index payload) _ (setup-open config group reads payload one may)
    (open-one config group reads accepted made index payload one written may)
one-taken config group reads accepted made index count payload (Some s) one may written within =
    let fits : s.used + suc index < 2 ^ 32 = let most = may.1 in omega (arith, most, within) in
    let setup = setup_by config reads reads.keygroup in
    let now = sender_at (envelope_with config group made) s index in
    let guard = guard-is config group reads payload index s one may.0 fits may.2 in
    let secured : guard_modes.is_secured setup.mode ≡ true = ap guard_modes.is_secured guard.mode_is ∙ guard.secured in
    let test = secured-test setup.mode (is_acceptable setup.keys accepted now.keys.token now.used) secured in
    record {
      taken = λ e. secured-one config group reads accepted made index payload s one written may.0 fits may.2 (sym test ∙ e);
      refused = λ e. late-one config group reads accepted made index payload s one written may.0 fits may.2 (sym test ∙ e);
    }

-- ---- each of a turn

some-same : {X : Type 0} {x y : X} → Path (Option X) (Some x) (Some y) → x ≡ y
some-same e = cc

pub record AreOne (config : Config) (group : GroupPart) (reads : ReadGroupPart) (count : ℕ) (sender : Option SenderState) : Type 0 where
  pub one : (payload : Payload) → IsGood group.layout payload → IsOne config group reads payload
  pub may : MaySend config group count sender

each-taken : (config : Config) (group : GroupPart) (reads : ReadGroupPart) (accepted : Accepted) (made from count k : ℕ) (sender : Option SenderState) (payloads : List Payload) (datagram : List ℕ) (opened : Opened)
    → AreOne config group reads count sender → AreWritten (envelope_with config group made) sender from payloads → from + length payloads ≤ count → All (IsGood group.layout) payloads
    → slice_get (datagrams_from (envelope_with config group made) sender from payloads) k ≡ Some datagram → slice_get (opened_from group.layout (envelope_with config group made) sender from payloads) k ≡ Some opened
    → (let setup = setup_by config reads reads.keygroup in IsTakenAs (is_accepted setup accepted opened.pass) opened (verdict reads setup accepted datagram))
each-taken config group reads accepted made from count k sender [] datagram opened are written fit good datagram_is opened_is = absurd (none-some datagram datagram_is)
each-taken config group reads accepted made from count zero sender (payload ∷ payloads) datagram opened are written fit good datagram_is opened_is =
    let here = one-taken config group reads accepted made from count payload sender (are.one payload (All-head (IsGood group.layout) payload payloads good)) are.may written.0 (omega (arith, fit)) in
    let setup = setup_by config reads reads.keygroup in
    subst (λ (o : Opened). IsTakenAs (is_accepted setup accepted o.pass) o (verdict reads setup accepted datagram)) (some-same opened_is)
    (subst (λ (d : List ℕ). IsTakenAs (is_accepted setup accepted (opened_at group.layout (envelope_with config group made) sender from payload).pass) (opened_at group.layout (envelope_with config group made) sender from payload) (verdict reads setup accepted d)) (some-same datagram_is) here)
each-taken config group reads accepted made from count (suc k) sender (payload ∷ payloads) datagram opened are written fit good datagram_is opened_is =
    each-taken config group reads accepted made (from + 1) count k sender payloads datagram opened are written.1 (omega (arith, fit)) (All-tail (IsGood group.layout) payload payloads good) datagram_is opened_is

-- ---- the payloads of a turn

pub room-small : (config : Config) (group : GroupPart) → IsGroup config group → frame_room config.publisher.id group < 65536
room-small config group is = let most = is.max_size.1 in omega (arith, most)

slots-good : (b : Bool) (payload : Payload) → IsGood layouts.Fixed payload → All (IsGood layouts.Fixed) (if b then payload ∷ [] else [])
slots-good true payload good = All-cons (IsGood layouts.Fixed) payload [] good (All-nil (IsGood layouts.Fixed))
slots-good false payload good = All-nil (IsGood layouts.Fixed)

pub payloads-good : (layout : Layout) (config : Config) (group : GroupPart) (frames : List Spelled) → IsGroup config group → All IsSmall frames → All (IsGood layout) (payloads_by layout config group frames)
payloads-good layouts.Dynamic config group frames is small = dynamic-good (frame_room config.publisher.id group) (chunk_room config.publisher.id group) frames (room-small config group is) small
payloads-good layouts.Fixed config group frames is small = slots-good (nat_lt 0 (length group.writer)) _ (record { ids = tt; numbers = tt; taken = λ x. refl })

-- each datagram of a turn is taken as what its group had for it, or refused for its token or number
pub turn-taken : (config : Config) (group : GroupPart) (reads : ReadGroupPart) (past : List GroupDeed) (input : TurnInput) (accepted : Accepted) (index : ℕ) (datagram : List ℕ) (opened : Opened)
    → IsGroupTurn config group past input → IsMatched config group reads
    → slice_get (turn_datagrams config group past input) index ≡ Some datagram → slice_get (turn_opened config group past input) index ≡ Some opened
    → (let setup = setup_by config reads reads.keygroup in IsTakenAs (is_accepted setup accepted opened.pass) opened (verdict reads setup accepted datagram))
turn-taken config group reads past input accepted index datagram opened turn matched datagram_is opened_is =
    let is = group-sound config group turn.sound turn.group_is in
    let payloads = payloads_of config group (frames_in group past input) in
    each-taken config group reads accepted (made_in past) 0 (length payloads) index input.sender payloads datagram opened
    (record { one = λ payload good. record { sound = turn.sound; is = is; matched = matched; good = good }; may = turn.sender }) turn.written
    (omega arith) (payloads-good group.layout config group (frames_in group past input) is (turn-small config group past input is)) datagram_is opened_is

-- as many are opened as there are datagrams
many_from : (layout : Layout) (e : Envelope) (sender : Option SenderState) (from : ℕ) (payloads : List Payload) → length (opened_from layout e sender from payloads) ≡ length (datagrams_from e sender from payloads)
many_from layout e sender from [] = refl
many_from layout e sender from (payload ∷ payloads) = ap suc (many_from layout e sender (from + 1) payloads)

pub turn-many : (config : Config) (group : GroupPart) (past : List GroupDeed) (input : TurnInput) → length (turn_opened config group past input) ≡ length (turn_datagrams config group past input)
turn-many config group past input = many_from group.layout (envelope_of config group past) input.sender 0 (payloads_of config group (frames_in group past input))

-- ---- what a dynamic turn has for a reader

pub opened-brings : (reader : ReaderPart) (e : Envelope) (sender : Option SenderState) (from : ℕ) (payloads : List Payload)
    → flat_map (λ (opened : Opened). pieces reader opened.payload) (opened_from layouts.Dynamic e sender from payloads) ≡ flat_map (brought reader) payloads
opened-brings reader e sender from [] = refl
opened-brings reader e sender from (payload ∷ payloads) =
    let header = header_bytes (header_at e sender from payload.0) in
    let seam : drop (length header) (header ++ payload.1) ≡ payload.1 = drop_at header payload.1 (length header) refl in
    ap (λ (bytes : List ℕ). brought reader (payload.0, bytes) ++ flat_map (λ (opened : Opened). pieces reader opened.payload) (opened_from layouts.Dynamic e sender (from + 1) payloads)) seam
    ∙ ap (λ (l : List Piece). brought reader payload ++ l) (opened-brings reader e sender (from + 1) payloads)

same-pieces : (config : Config) (group : GroupPart) (frame : Option Spelled) → pieces_if (frame_room config.publisher.id group) (chunk_room config.publisher.id group) frame ≡ dynamic_pieces config.publisher.id group frame
same-pieces config group None = refl
same-pieces config group (Some frame) = refl

pub dynamic-turn : (config : Config) (group : GroupPart) (past : List GroupDeed) (input : TurnInput) (writer : ℕ) (seat : Seat) (layout : Layout) → layout ≡ layouts.Dynamic → group.layout ≡ layout
    → IsGroupTurn config group past input → ReadsWriter group writer seat.part
    → flat_map (λ opened. pieces seat.part opened.payload) (turn_opened config group past input) ≡ turn_pieces config group past input writer
dynamic-turn config group past input writer seat layouts.Fixed dynamic is turn reader = absurd (let wrong : Path Layout layouts.Fixed layouts.Dynamic = dynamic in cc)
dynamic-turn config group past input writer seat layouts.Dynamic dynamic is turn reader =
    let sound = group-sound config group turn.sound turn.group_is in
    let frames = frames_in group past input in
    let publisher = config.publisher.id in
    let room = frame_room publisher group in
    let of_writer : id_at group writer ≡ seat.part.writer = sym reader.id in
    let apart : (other : ℕ) → other ≢ writer → id_at group other ≢ seat.part.writer = λ other differ same. other-id config group writer other turn.sound turn.group_is reader.within differ (same ∙ reader.id) in
    ap (λ (l : Layout). flat_map (λ (opened : Opened). pieces seat.part opened.payload) (opened_from l (envelope_of config group past) input.sender 0 (payloads_by l config group frames))) is
    ∙ opened-brings seat.part (envelope_of config group past) input.sender 0 (payloads_by layouts.Dynamic config group frames)
    ∙ brought-all seat.part room (chunk_room publisher group) frames (room-small config group sound) (turn-small config group past input sound)
    ∙ own-frames seat.part.writer room (chunk_room publisher group) group input.told.metas past 0 writer writer (turns_from group input.told 0 input.on) (omega arith) of_writer apart
    ∙ same-pieces config group (frame_by group past input writer)
    ∙ ap (λ (l : Layout). Rattle.group_laws.specs.TurnPieces.writer_pieces l config group writer (frame_by group past input writer)) (sym is)
