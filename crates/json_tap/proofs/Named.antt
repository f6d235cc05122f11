-- The parts of a message that is transcoded are parts that can be written, of the data sets that the configuration names for their writers; so its line is read as
-- the message.
use Rattle.std.proofs.Common.{◌≡◌, ℕ, zero, suc, ◌+◌, ◌*◌, ◌<◌, ◌≤◌, ◌^◌, List, [], ◌∷◌, ◌++◌, length, take, drop, map, Bool, true, false, cond, Option, Some, None, Result, Ok, Err, inl, inr, refl, sym, ap, ◌∙◌, subst, arith}
use Rattle.std.specs.Prelude.{◌==◌, nat_lt, is_some, is_none, zip, option_map, option_and_then, slice_get, IsOk, IsSome, is_ok}
use Rattle.std.specs.List.{All, AllByRecursion, flat_map}
use Rattle.std.specs.Str.{is_utf8}
use Rattle.std.proofs.lemmas.Bool.{eqb-true}
use Rattle.std.proofs.lemmas.Bool.Decides.{nat_tests}
use Rattle.std.proofs.lemmas.List.Elements.{All-nil, All-cons, All-head, All-tail, All-append, All-take, All-drop, All-weaker}
use Rattle.std.proofs.lemmas.Option.{get_or_from_slice_get, slice_get_within}
use Rattle.dataset_meta.specs.Metas.{MetaData, IsMeta}
use Rattle.ua_binary.specs.Wire.{AreBytes}
use Rattle.ua_binary.proofs.Grammar.{rest-bytes}
use Rattle.ua_values.specs.declared.text.TextFault.TheVariants.{BadUtf8, TooLong}
use Rattle.ua_values.specs.Texts.{text_of}
use Rattle.frame_codec.specs.declared.fault.FrameFault.{FrameFault}
use Rattle.frame_codec.specs.Frames.{Frame, IsFrame}
use Rattle.frame_codec.specs.Reading.{frame_at}
use Rattle.frame_codec.proofs.ReadingLaws.{read-fits}
use Rattle.uadp_header.specs.declared.fault.HeaderFault.{HeaderFault}
use Rattle.uadp_header.specs.Headers.{HeaderValue, IdsValue, NoIds, ListOf, ChunkOf, PublisherValue, SecurityValue, ids_of}
use Rattle.uadp_header.specs.Layout.{header_at}
use Rattle.uadp_header.specs.Wire.{BeginsWithHeader, wire_bytes}
use Rattle.uadp_header.proofs.WireBack.{wire-back}
use Rattle.payload_layout.specs.Payloads.{cut_by, frames_of, parts_of, sizes_of}
use Rattle.ps_config.specs.declared.parts.Config.{Config}
use Rattle.ps_config.specs.declared.parts.GroupPart.{GroupPart}
use Rattle.ps_config.specs.declared.parts.WriterPart.{WriterPart}
use Rattle.ps_config.specs.Sound.{IsGroup, IsSound, IsWriter, writers}
use Rattle.json_frames.specs.Parts.{HasVersions, IsPart, Part, meta_at, no_meta}
use Rattle.json_frames.specs.Documents.{document, value_of}
use Rattle.json_frames.specs.Reading.{IsNamedPart, set_of}
use Rattle.json_frames.specs.Written.{message_json}
use Rattle.json_frames.proofs.MessagesRead.{message_is_document, message_is_read}
use Rattle.json_tap.specs.Transcoding.{Message, all_of, are_paired, are_past, frame_if, has_numbers, is_spelled, line, listed, message_in, message_of, message_read, part_for, part_of, parts_for, publisher_of, publisher_text, sets_of, text_if, transcoded}
use Rattle.json_tap.specs.Reading.{IsReadAs, IsReadBack}
use Rattle.json_tap.proofs.Sets.{pairs}

none-some : {X Y : Type 0} (x : X) → Path (Option X) None (Some x) → Y
none-some x e = absurd cc

some-same : {X : Type 0} (x y : X) → Path (Option X) (Some x) (Some y) → x ≡ y
some-same x y e = cc

-- ---- the ids of writers

abbrev HasShortId : WriterPart → Type 0
HasShortId writer = writer.id < 2 ^ 16

id-short : (b : Bool) (id writer set found : ℕ) (rest : Option ℕ) → (id == writer) ≡ b → id < 2 ^ 16 → (rest ≡ Some found → writer < 2 ^ 16) → cond b (Some set) rest ≡ Some found → writer < 2 ^ 16
id-short true id writer set found rest e short later is = subst (λ (n : ℕ). n < 2 ^ 16) (eqb-true id writer e) short
id-short false id writer set found rest e short later is = later is

found-short : (list : List WriterPart) (writer set : ℕ) → All HasShortId list → set_of (pairs list) writer ≡ Some set → writer < 2 ^ 16
found-short [] writer set all is = none-some set is
found-short (w ∷ list) writer set all is =
    id-short (w.id == writer) w.id writer w.dataset set (set_of (pairs list) writer) refl (All-head HasShortId w list all)
    (found-short list writer set (All-tail HasShortId w list all)) is

short-ids : (config : Config) (groups : List GroupPart) → All (IsGroup config) groups → All HasShortId (flat_map (λ (group : GroupPart). group.writer) groups)
short-ids config [] each = All-nil HasShortId
short-ids config (group ∷ groups) each =
    All-append HasShortId group.writer (flat_map (λ (group : GroupPart). group.writer) groups)
    (All-weaker (IsWriter config group) HasShortId (λ writer is. let most = is.id.1 in omega (arith, most)) group.writer (All-head (IsGroup config) group groups each).writers)
    (short-ids config groups (All-tail (IsGroup config) group groups each))

-- ---- a frame

versions-are : (major minor : Option ℕ) → are_paired major minor ≡ true → HasVersions major minor
versions-are (Some m) (Some n) is = inl (refl, refl)
versions-are (Some m) None is = absurd cc
versions-are None (Some n) is = absurd cc
versions-are None None is = inr (refl, refl)

numbers-are : (number major minor : Option ℕ) → has_numbers number major minor ≡ true → IsSome number × HasVersions major minor
numbers-are (Some n) major minor is = (refl, versions-are major minor is)
numbers-are None major minor is = absurd cc

frame-numbers : (b : Bool) (frame found : Frame) → is_spelled frame ≡ b → cond b (Some frame) None ≡ Some found → (frame ≡ found) × (is_spelled frame ≡ true)
frame-numbers true frame found e is = (some-same frame found is, e)
frame-numbers false frame found e is = none-some found is

-- a frame that is read can be written
abbrev CanWrite : MetaData → Frame → Type 0
CanWrite meta frame = IsFrame meta frame × IsSome frame.number × HasVersions frame.major frame.minor

read-written : (meta : MetaData) (bytes : List ℕ) (read : Result Frame FrameFault) (found : Frame) → AreBytes bytes → frame_at meta bytes ≡ read → frame_if read ≡ Some found → CanWrite meta found
read-written meta bytes (Err fault) found are e is = none-some found is
read-written meta bytes (Ok frame) found are e is =
    let so = frame-numbers (is_spelled frame) frame found refl is in
    let numbers = numbers-are frame.number frame.major frame.minor so.1 in
    subst (CanWrite meta) so.0 (read-fits meta bytes frame are e, numbers.0, numbers.1)

-- ---- a part

module _ (config : Config) (sound : IsSound config) where
  abbrev Named : Part → Type 0
  Named part = IsNamedPart config.dataset (sets_of config) part

  part-of-frame : (writer set : ℕ) (meta : MetaData) (made : Option Frame) (found : Part) → set_of (sets_of config) writer ≡ Some set → slice_get config.dataset set ≡ Some meta
      → ((frame : Frame) → made ≡ Some frame → CanWrite meta frame) → option_map (λ frame. record { writer = writer; set = set; frame = frame }) made ≡ Some found → Named found
  part-of-frame writer set meta None found named at can is = none-some found is
  part-of-frame writer set meta (Some frame) found named at can is =
      let within : set < length config.dataset = slice_get_within config.dataset set meta at in
      let same : meta_at config.dataset set ≡ meta = get_or_from_slice_get config.dataset set meta no_meta at in
      let here = subst (λ (m : MetaData). CanWrite m frame) (sym same) (can frame refl) in
      let part : Part = record { writer = writer; set = set; frame = frame } in
      let is_part : IsPart config.dataset part = record {
        writer = found-short (writers config) writer set (short-ids config config.group sound.groups) named;
        set = within;
        meta = sound.metas set no_meta within;
        frame = here.0;
        number = here.1;
        versions = here.2;
      } in
      subst Named (some-same part found is) (is_part, named)

  part-of-meta : (writer set : ℕ) (bytes : List ℕ) (meta : Option MetaData) (found : Part) → AreBytes bytes → set_of (sets_of config) writer ≡ Some set → slice_get config.dataset set ≡ meta
      → option_and_then (λ meta. option_map (λ frame. record { writer = writer; set = set; frame = frame }) (frame_if (frame_at meta bytes))) meta ≡ Some found → Named found
  part-of-meta writer set bytes None found are named at is = none-some found is
  part-of-meta writer set bytes (Some meta) found are named at is =
      part-of-frame writer set meta (frame_if (frame_at meta bytes)) found named at (λ frame e. read-written meta bytes (frame_at meta bytes) frame are refl e) is

  part-of-set : (writer : ℕ) (bytes : List ℕ) (set : Option ℕ) (found : Part) → AreBytes bytes → set_of (sets_of config) writer ≡ set
      → option_and_then (part_for config writer bytes) set ≡ Some found → Named found
  part-of-set writer bytes None found are named is = none-some found is
  part-of-set writer bytes (Some set) found are named is = part-of-meta writer set bytes (slice_get config.dataset set) found are named refl is

  part-named : (message : ℕ × List ℕ) (found : Part) → AreBytes message.1 → part_of config message ≡ Some found → Named found
  part-named message found are is = part-of-set message.0 message.1 (set_of (sets_of config) message.0) found are refl is

  -- ---- all parts

  abbrev HasBytes : ℕ × List ℕ → Type 0
  HasBytes message = AreBytes message.1

  one-more : (part : Part) (rest : Option (List Part)) (found : List Part) → Named part → ((others : List Part) → rest ≡ Some others → AllByRecursion Named others)
      → option_map (λ others. part ∷ others) rest ≡ Some found → AllByRecursion Named found
  one-more part None found is later e = none-some found e
  one-more part (Some others) found is later e = subst (AllByRecursion Named) (some-same (part ∷ others) found e) (is, later others refl)

  all-on : (message : ℕ × List ℕ) (messages : List (ℕ × List ℕ)) (part : Option Part) (found : List Part) → part_of config message ≡ part → AreBytes message.1
      → ((others : List Part) → all_of (map (part_of config) messages) ≡ Some others → AllByRecursion Named others) → all_of (part ∷ map (part_of config) messages) ≡ Some found
      → AllByRecursion Named found
  all-on message messages None found e are later is = none-some found is
  all-on message messages (Some part) found e are later is = one-more part (all_of (map (part_of config) messages)) found (part-named message part are e) later is

  all-named : (messages : List (ℕ × List ℕ)) (found : List Part) → All HasBytes messages → all_of (map (part_of config) messages) ≡ Some found → AllByRecursion Named found
  all-named [] found are is = subst (AllByRecursion Named) (some-same [] found is) tt
  all-named (message ∷ messages) found are is =
      all-on message messages (part_of config message) found refl (All-head HasBytes message messages are)
      (λ others e. all-named messages others (All-tail HasBytes message messages are) e) is

  cut-bytes : (sizes bytes : List ℕ) → AreBytes bytes → All AreBytes (cut_by sizes bytes)
  cut-bytes [] bytes are = All-nil AreBytes
  cut-bytes (size ∷ sizes) bytes are =
      All-cons AreBytes (take size bytes) (cut_by sizes (drop size bytes)) (All-take (λ (b : ℕ). b < 256) size bytes are)
      (cut-bytes sizes (drop size bytes) (All-drop (λ (b : ℕ). b < 256) size bytes are))

  frames-bytes : (b : Bool) (count : ℕ) (payload : List ℕ) → AreBytes payload → All AreBytes (cond b (cut_by (sizes_of count payload) (drop (2 * count) payload)) (take count (payload ∷ [])))
  frames-bytes true count payload are = cut-bytes (sizes_of count payload) (drop (2 * count) payload) (All-drop (λ (b : ℕ). b < 256) (2 * count) payload are)
  frames-bytes false count payload are = All-take AreBytes count (payload ∷ []) (All-cons AreBytes payload [] are (All-nil AreBytes))

  zip-bytes : (ids : List ℕ) (frames : List (List ℕ)) → All AreBytes frames → All HasBytes (zip ids frames)
  zip-bytes [] frames are = All-nil HasBytes
  zip-bytes (id ∷ ids) [] are = All-nil HasBytes
  zip-bytes (id ∷ ids) (frame ∷ frames) are =
      All-cons HasBytes (id, frame) (zip ids frames) (All-head AreBytes frame frames are) (zip-bytes ids frames (All-tail AreBytes frame frames are))

  listed-named : (b : Bool) (ids payload : List ℕ) (found : List Part) → AreBytes payload
      → cond b None (all_of (map (part_of config) (parts_of (ids_of ids) payload))) ≡ Some found → AllByRecursion Named found
  listed-named true ids payload found are is = none-some found is
  listed-named false ids payload found are is =
      let count = length (ids_of ids) in
      all-named (parts_of (ids_of ids) payload) found (zip-bytes (ids_of ids) (frames_of count payload) (frames-bytes (nat_lt 1 count) count payload are)) is

  parts-named : (ids : IdsValue) (payload : List ℕ) (found : List Part) → AreBytes payload → parts_for config ids payload ≡ Some found → AllByRecursion Named found
  parts-named NoIds payload found are is = none-some found is
  parts-named (ChunkOf id) payload found are is = none-some found is
  parts-named (ListOf ids) payload found are is = listed-named (are_past (length (ids_of ids)) payload) ids payload found are is

  -- ---- a message

  both-named : (publisher : Option (List ℕ)) (parts : Option (List Part)) (found : Message) → ((list : List Part) → parts ≡ Some list → AllByRecursion Named list)
      → message_of publisher parts ≡ Some found → AllByRecursion Named found.parts
  both-named None parts found named is = none-some found is
  both-named (Some publisher) None found named is = none-some found is
  both-named (Some publisher) (Some parts) found named is =
      subst (λ (m : Message). AllByRecursion Named m.parts) (some-same (record { publisher = publisher; parts = parts }) found is) (named parts refl)

  header-named : (security : Option SecurityValue) (header : HeaderValue) (payload : List ℕ) (found : Message) → AreBytes payload
      → cond (is_some security) None (message_of (publisher_of header.publisher) (parts_for config header.ids payload)) ≡ Some found → AllByRecursion Named found.parts
  header-named (Some security) header payload found are is = none-some found is
  header-named None header payload found are is =
      both-named (publisher_of header.publisher) (parts_for config header.ids payload) found (λ list e. parts-named header.ids payload list are e) is

  read-named : (datagram : List ℕ) (read : Result (HeaderValue × List ℕ) HeaderFault) (found : Message) → AreBytes datagram → header_at datagram ≡ read → message_read config read ≡ Some found
      → AllByRecursion Named found.parts
  read-named datagram (Err fault) found are e is = none-some found is
  read-named datagram (Ok read) found are e is =
      let begins : BeginsWithHeader datagram read.0 read.1 = wire-back datagram read.1 read.0 are e in
      header-named read.0.security read.0 read.1 found (rest-bytes datagram (wire_bytes begins.wire) read.1 are begins.split) is

  transcoded-named : (datagram : List ℕ) (found : Message) → AreBytes datagram → transcoded config datagram ≡ Some found → AllByRecursion Named found.parts
  unfolding transcoded
  transcoded-named datagram found are is = read-named datagram (header_at datagram) found are refl is

-- ---- its publisher is short

short-by : (b c : Bool) (bytes found : List ℕ) → nat_lt 256 (length bytes) ≡ b → text_if (cond b (Err TooLong) (cond c (Ok bytes) (Err BadUtf8))) ≡ Some found → length found ≤ 256
short-by true c bytes found e is = none-some found is
short-by false false bytes found e is = none-some found is
short-by false true bytes found e is =
    let low : length bytes ≤ 256 = grind (arith, nat_tests, e) in
    subst (λ (l : List ℕ). length l ≤ 256) (some-same bytes found is) low

publisher-short : (publisher : Option PublisherValue) (found : List ℕ) → publisher_of publisher ≡ Some found → length found ≤ 256
publisher-short None found is = none-some found is
publisher-short (Some publisher) found is =
    let text = publisher_text publisher in
    short-by (nat_lt 256 (length text)) (is_utf8 text) text found refl is

both-short : (publisher : Option (List ℕ)) (parts : Option (List Part)) (found : Message) → ((text : List ℕ) → publisher ≡ Some text → length text ≤ 256) → message_of publisher parts ≡ Some found
    → length found.publisher ≤ 256
both-short None parts found short is = none-some found is
both-short (Some publisher) None found short is = none-some found is
both-short (Some publisher) (Some parts) found short is =
    subst (λ (m : Message). length m.publisher ≤ 256) (some-same (record { publisher = publisher; parts = parts }) found is) (short publisher refl)

header-short : (config : Config) (security : Option SecurityValue) (header : HeaderValue) (payload : List ℕ) (found : Message)
    → cond (is_some security) None (message_of (publisher_of header.publisher) (parts_for config header.ids payload)) ≡ Some found → length found.publisher ≤ 256
header-short config (Some security) header payload found is = none-some found is
header-short config None header payload found is =
    both-short (publisher_of header.publisher) (parts_for config header.ids payload) found (λ text e. publisher-short header.publisher text e) is

read-short : (config : Config) (read : Result (HeaderValue × List ℕ) HeaderFault) (found : Message) → message_read config read ≡ Some found → length found.publisher ≤ 256
read-short config (Err fault) found is = none-some found is
read-short config (Ok read) found is = header-short config read.0.security read.0 read.1 found is

transcoded-short : (config : Config) (datagram : List ℕ) (found : Message) → transcoded config datagram ≡ Some found → length found.publisher ≤ 256
unfolding transcoded
transcoded-short config datagram found is = read-short config (header_at datagram) found is

-- ---- a line

-- the text of what is transcoded of a datagram is refused for nothing
pub line-accepted : (config : Config) (number : ℕ) (datagram bytes : List ℕ) (message : Message) → transcoded config datagram ≡ Some message
    → value_of bytes ≡ Some (message_json config.dataset number message.publisher message.parts) → IsOk (document bytes)
line-accepted config number datagram bytes message is value =
    ap is_ok (message_is_document config.dataset number message.publisher message.parts bytes (transcoded-short config datagram message is) value)

-- and is read as the message
pub line-read : (config : Config) (number : ℕ) (datagram bytes : List ℕ) (message : Message) → IsSound config → AreBytes datagram → transcoded config datagram ≡ Some message
    → value_of bytes ≡ Some (message_json config.dataset number message.publisher message.parts) → IsReadAs config bytes message
line-read config number datagram bytes message sound are is value found read =
    message_is_read config.dataset (sets_of config) number message.publisher message.parts bytes found (transcoded-short config datagram message is)
    (transcoded-named config sound datagram message are is) value read

-- the same of the line that was made
pub line-back : (config : Config) (number : ℕ) (datagram bytes : List ℕ) (message : Message) → AreBytes datagram → transcoded config datagram ≡ Some message → bytes ≡ line config number message
    → value_of bytes ≡ Some (message_json config.dataset number message.publisher message.parts) → IsReadBack config number datagram
line-back config number datagram bytes message are is line_is value other sound also =
    let same : message ≡ other = some-same message other (sym is ∙ also) in
    subst (λ (m : Message). IsReadAs config (line config number m) m) same
    (subst (λ (b : List ℕ). IsReadAs config b message) line_is (line-read config number datagram bytes message sound are is value))

pub none-back : (config : Config) (number : ℕ) (datagram : List ℕ) → transcoded config datagram ≡ None → IsReadBack config number datagram
none-back config number datagram none message sound is = none-some message (sym none ∙ is)
