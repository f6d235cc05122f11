-- The datagrams of a turn in their bytes.
use Rattle.std.proofs.Common.{◌≡◌, ℕ, ◌≤◌, true, List, [], ◌∷◌, length, map, refl, sym, ap, subst, ◌∙◌, arith, All, Option, Vec}
use Rattle.std.specs.Prelude.{◌==◌, vec_capacity, vec_len}
use Rattle.std.proofs.lemmas.Bool.Decides.{nat_tests}
use Rattle.std.proofs.lemmas.List.{with_items_is}
use Rattle.std.specs.Vec.{with_items}
use Rattle.std.specs.declared.alloc.Global.{Global}
use Rattle.std.proofs.lemmas.List.Elements.{All-weaker}
use Rattle.ua_binary.specs.Writing.{laid}
use Rattle.uadp_header.specs.Headers.{PublisherValue, publisher_in}
use Rattle.uadp_header.specs.Spelling.{header_len}
use Rattle.message_guard.specs.declared.mode.Mode.{Mode}
use Rattle.message_guard.specs.Senders.{SenderState}
use Rattle.ps_config.specs.declared.parts.Config.{Config}
use Rattle.ps_config.specs.declared.parts.GroupPart.{GroupPart}
use Rattle.ps_config.specs.declared.header.HeaderSettings.{HeaderSettings}
use Rattle.ps_config.specs.Headers.{publisher_value}
use Rattle.ps_config.specs.Rooms.{chunk_room, header_settings}
use Rattle.fixed_layout.specs.Slots.{Layout as SlotsLayout}
use Rattle.writer_group.specs.declared.datagrams.Datagrams.{Datagrams}
use Rattle.writer_group.specs.declared.group.Group.{Group}
use Rattle.writer_group.specs.declared.header_parts.HeaderParts.{HeaderParts}
use Rattle.writer_group.specs.declared.laying.Cargo.{Cargo}
use Rattle.writer_group.specs.declared.load.Load.{Load}
use Rattle.writer_group.specs.declared.posting.Range.{Range}
use Rattle.writer_group.specs.declared.spelled.Frames.{Frames}
use Rattle.writer_group.specs.Holding.{AreSpelledIn, CanBeWritten, CargoValue, cargo_in, envelope_in, frames_at, payload_in, settings_in}
use Rattle.writer_group.specs.Leads.{AreLeadsOf}
use Rattle.writer_group.specs.Loading.{IsLoad}
use Rattle.writer_group.specs.Making.{IsFilled, IsPosted, MayFill, MayMake, MayMakeOf, cargo_from, cargo_with, made_from, made_with}
use Rattle.writer_group.specs.Payloads.{fixed_header}
use Rattle.writer_group.specs.Posting.{MayPost, joined, made_of, ranges_of, slots_header}
use Rattle.writer_group.specs.Sealing.{AreWritten, Envelope, advanced_by, envelope_with}
use Rattle.writer_group.specs.Standing.{IsWithinBuffer, datagram_in}
use Rattle.writer_group.proofs.Joining.{IsRange, datagrams-stand, ranges-within}

pub buffer-stands : (bytes free : List ℕ) (ranges : List Range) (made : List (List ℕ)) → bytes ≡ laid free 0 (joined made)
    → ranges ≡ ranges_of 0 made → map (datagram_in bytes) ranges ≡ made
buffer-stands bytes free ranges made is are =
    ap (λ (l : List ℕ). map (datagram_in l) ranges) is
    ∙ ap (map (datagram_in (laid free 0 (joined made)))) are
    ∙ datagrams-stand free made

pub buffer-within : (end : ℕ) (ranges : List Range) (made : List (List ℕ)) → ranges ≡ ranges_of 0 made → length (joined made) ≤ end
    → All (IsWithinBuffer end) ranges
buffer-within end ranges made are room =
    subst (All (IsWithinBuffer end)) (sym are)
    (All-weaker (IsRange end) (IsWithinBuffer end) (λ (range : Range) (is : IsRange end range). record { rising = is.rising; within = is.within })
    (ranges_of 0 made) (ranges-within end made room))

-- ---- the parts of a turn, made from frames that stand in these bytes

abbrev envelope_made : PublisherValue → HeaderSettings → ℕ → Envelope
envelope_made publisher settings made = record { publisher = publisher; settings = settings; made = made }

envelope-same : (p q : PublisherValue) (s t : HeaderSettings) (m n : ℕ) → p ≡ q → s ≡ t → m ≡ n → envelope_made p s m ≡ envelope_made q t n
envelope-same p q s t m n one two three = cc

abbrev pub cargo_by : Group → List ℕ → Frames → ℕ → CargoValue
cargo_by group bytes frames room = record { frames = frames_at bytes frames; room = room; start = group.slots.start; slots = group.slots.slots }

pub record AreParts (config : Config) (part : GroupPart) (group : Group) (front bytes : List ℕ) (room : ℕ) (parts : HeaderParts) : Type 0 where
  pub envelope : envelope_in parts ≡ envelope_with config part group.made
  pub room_is : room ≡ chunk_room config.publisher.id part
  pub bytes_are : bytes ≡ front
  pub written : CanBeWritten (publisher_in parts.publisher)

pub are-parts : (config : Config) (part : GroupPart) (group : Group) (front bytes : List ℕ) (room : ℕ) (parts : HeaderParts) → publisher_in parts.publisher ≡ publisher_value config.publisher.id
    → settings_in parts ≡ header_settings part → parts.made ≡ group.made → CanBeWritten (publisher_in parts.publisher) → room ≡ chunk_room config.publisher.id part → bytes ≡ front
    → AreParts config part group front bytes room parts
are-parts config part group front bytes room parts publisher settings made written room_is bytes_are =
    record { envelope = envelope-same _ _ _ _ _ _ publisher settings made; room_is = room_is; bytes_are = bytes_are; written = written }

cargo-is : (config : Config) (part : GroupPart) (group : Group) (front bytes : List ℕ) (frames : Frames) (room : ℕ) (parts : HeaderParts) → AreParts config part group front bytes room parts
    → cargo_by group bytes frames room ≡ cargo_from config part group front frames
cargo-is config part group front bytes frames room parts are =
    ap (λ (l : List ℕ). cargo_by group l frames room) are.bytes_are ∙ ap (cargo_by group front frames) are.room_is

slots-len : (config : Config) (part : GroupPart) (made : ℕ) → header_len (slots_header (envelope_with config part made)) ≡ fixed_header config.publisher.id part
slots-len config part made = refl

pub may-post : (config : Config) (part : GroupPart) (sender : Option SenderState) (group : Group) (front : List ℕ) (loads : List Load) (parts : HeaderParts) (cargo : Cargo)
    → MayMakeOf config part sender group front cargo.frames.now loads → AreParts config part group front cargo.bytes.now cargo.room parts → cargo.slots.now ≡ group.slots
    → cargo.leads.now ≡ group.leads → MayPost (envelope_in parts) cargo loads
may-post config part sender group front loads parts cargo may are slots leads =
    let value : cargo_in cargo ≡ cargo_from config part group front cargo.frames.now =
    ap (λ (s : SlotsLayout). let v : CargoValue = record { frames = frames_at cargo.bytes.now cargo.frames.now; room = cargo.room; start = s.start; slots = s.slots } in v) slots
    ∙ cargo-is config part group front cargo.bytes.now cargo.frames.now cargo.room parts are in
    record {
      cargo_is = record {
        spelled = subst (λ (l : List ℕ). AreSpelledIn l cargo.frames.now) (sym are.bytes_are) may.spelled;
        few = may.frames_few;
        small = omega (arith, ap length are.bytes_are, may.small);
      };
      loads_are = subst (λ (v : CargoValue). All (IsLoad v) loads) (sym value) may.loads_are;
      few = may.few;
      start = ap (λ (e : Envelope). header_len (slots_header e)) are.envelope ∙ slots-len config part group.made ∙ sym may.made_for.start ∙ ap (λ (v : CargoValue). v.start) (sym value);
      publisher = are.written;
      leads = subst (λ (e : Envelope). AreLeadsOf e.publisher e.settings cargo.leads.now) (sym are.envelope)
          (subst (AreLeadsOf (publisher_value config.publisher.id) (header_settings part)) (sym leads) may.made_for.leads);
    }

made-by : (config : Config) (part : GroupPart) (sender : Option SenderState) (group : Group) (front bytes : List ℕ) (frames : Frames) (room : ℕ) (loads : List Load) (parts : HeaderParts)
    → AreParts config part group front bytes room parts
    → made_of (envelope_in parts) sender (cargo_by group bytes frames room) loads ≡ made_from config part sender group front frames loads
made-by config part sender group front bytes frames room loads parts are =
    ap (λ (e : Envelope). made_of e sender (cargo_by group bytes frames room) loads) are.envelope
    ∙ ap (λ (value : CargoValue). made_of (envelope_with config part group.made) sender value loads) (cargo-is config part group front bytes frames room parts are)

written-by : (config : Config) (part : GroupPart) (sender : Option SenderState) (group : Group) (front bytes : List ℕ) (frames : Frames) (room : ℕ) (loads : List Load) (parts : HeaderParts)
    → AreParts config part group front bytes room parts → AreWritten (envelope_in parts) sender 0 (map (payload_in (cargo_by group bytes frames room)) loads)
    → AreWritten (envelope_with config part group.made) sender 0 (map (payload_in (cargo_from config part group front frames)) loads)
written-by config part sender group front bytes frames room loads parts are written =
    subst (λ (value : CargoValue). AreWritten (envelope_with config part group.made) sender 0 (map (payload_in value) loads)) (cargo-is config part group front bytes frames room parts are)
    (subst (λ (e : Envelope). AreWritten e sender 0 (map (payload_in (cargo_by group bytes frames room)) loads)) are.envelope written)

laid-by : (config : Config) (part : GroupPart) (sender : Option SenderState) (group : Group) (front bytes free after : List ℕ) (frames : Frames) (room : ℕ)
    (loads : List Load) (parts : HeaderParts) → AreParts config part group front bytes room parts
    → after ≡ laid free 0 (joined (made_of (envelope_in parts) sender (cargo_by group bytes frames room) loads))
    → after ≡ laid free 0 (joined (made_from config part sender group front frames loads))
laid-by config part sender group front bytes free after frames room loads parts are is =
    is ∙ ap (λ (l : List (List ℕ)). laid free 0 (joined l)) (made-by config part sender group front bytes frames room loads parts are)

pub made-within : (config : Config) (part : GroupPart) (sender : Option SenderState) (group : Group) (front bytes free : List ℕ) (frames : Frames) (room : ℕ)
    (loads : List Load) (parts : HeaderParts) → AreParts config part group front bytes room parts → MayFill config part sender group front free frames loads
    → length (joined (made_of (envelope_in parts) sender (cargo_by group bytes frames room) loads)) ≤ length free
made-within config part sender group front bytes free frames room loads parts are may =
    omega (
      arith,
      ap (λ (l : List (List ℕ)). length (joined l)) (made-by config part sender group front bytes frames room loads parts are),
      may.room,
    )

pub is-filled : (config : Config) (part : GroupPart) (sender : Option SenderState) (group : Group) (front bytes free after : List ℕ) (frames : Frames) (room : ℕ)
    (loads : List Load) (ranges : List Range) (parts : HeaderParts) → AreParts config part group front bytes room parts
    → after ≡ laid free 0 (joined (made_of (envelope_in parts) sender (cargo_by group bytes frames room) loads))
    → ranges ≡ ranges_of 0 (made_of (envelope_in parts) sender (cargo_by group bytes frames room) loads)
    → AreWritten (envelope_in parts) sender 0 (map (payload_in (cargo_by group bytes frames room)) loads)
    → IsFilled config part sender group front free frames loads after ranges
is-filled config part sender group front bytes free after frames room loads ranges parts are laid_is ranges_are written =
    record {
      laid_is = laid-by config part sender group front bytes free after frames room loads parts are laid_is;
      ranges_are = ranges_are ∙ ap (ranges_of 0) (made-by config part sender group front bytes frames room loads parts are);
      written = written-by config part sender group front bytes frames room loads parts are written;
    }

-- without loads nothing is filled, and no front is given
pub nothing-filled : (config : Config) (part : GroupPart) (sender : Option SenderState) (group : Group) (bytes free : List ℕ) (frames : Frames) (loads : List Load)
    (ranges : List Range) → ranges ≡ [] → (length loads == 0) ≡ true → IsFilled config part sender group bytes free frames loads free ranges
nothing-filled config part sender group bytes free frames [] ranges empty none = record { laid_is = refl; ranges_are = empty; written = tt }
nothing-filled config part sender group bytes free frames (load ∷ loads) ranges empty none = absurd (grind (arith, nat_tests))

pub never-advanced : (mode : Mode) (s : SenderState) (loads : List Load) → (length loads == 0) ≡ true → s ≡ advanced_by mode s (length loads)
never-advanced mode s [] none = refl
never-advanced mode s (load ∷ loads) none = absurd (grind (arith, nat_tests))

-- ---- the bytes of a turn

-- what is lent of them is what they are
pub record AreLent (out : Datagrams) (bytes free : List ℕ) (loads : List Load) : Type 0 where
  pub bytes_are : bytes ≡ out.spelled.items
  pub free_is : free ≡ out.bytes.items
  pub loads_are : loads ≡ out.loads.items

may-make : (config : Config) (part : GroupPart) (sender : Option SenderState) (group : Group) (out : Datagrams) (bytes free : List ℕ) (loads : List Load)
    → MayMake config part sender group out → AreLent out bytes free loads → MayMakeOf config part sender group bytes out.frames loads
may-make config part sender group out bytes free loads make lent =
    subst (λ (l : List Load). MayMakeOf config part sender group bytes out.frames l) (sym lent.loads_are)
    (subst (λ (b : List ℕ). MayMakeOf config part sender group b out.frames out.loads.items) (sym lent.bytes_are) make.may)

made-same : (config : Config) (part : GroupPart) (sender : Option SenderState) (group : Group) (out : Datagrams) (bytes free : List ℕ) (loads : List Load)
    → AreLent out bytes free loads → made_from config part sender group bytes out.frames loads ≡ made_with config part sender group out
made-same config part sender group out bytes free loads lent =
    ap (λ (b : List ℕ). made_from config part sender group b out.frames loads) lent.bytes_are
    ∙ ap (λ (l : List Load). made_from config part sender group out.spelled.items out.frames l) lent.loads_are

written-same : (config : Config) (part : GroupPart) (sender : Option SenderState) (group : Group) (out : Datagrams) (bytes free : List ℕ) (loads : List Load)
    → AreLent out bytes free loads
    → AreWritten (envelope_with config part group.made) sender 0 (map (payload_in (cargo_from config part group bytes out.frames)) loads)
    → AreWritten (envelope_with config part group.made) sender 0 (map (payload_in (cargo_with config part group out)) out.loads.items)
written-same config part sender group out bytes free loads lent written =
    let e = envelope_with config part group.made in
    subst (λ (l : List Load). AreWritten e sender 0 (map (payload_in (cargo_with config part group out)) l)) lent.loads_are
    (subst (λ (b : List ℕ). AreWritten e sender 0 (map (payload_in (cargo_from config part group b out.frames)) loads)) lent.bytes_are written)

pub may-fill : (config : Config) (part : GroupPart) (sender : Option SenderState) (group : Group) (out : Datagrams) (bytes free : List ℕ) (loads : List Load)
    → MayMake config part sender group out → AreLent out bytes free loads → MayFill config part sender group bytes free out.frames loads
may-fill config part sender group out bytes free loads make lent =
    record {
      may = may-make config part sender group out bytes free loads make lent;
      room = omega (
        arith,
        ap (λ (l : List (List ℕ)). length (joined l)) (made-same config part sender group out bytes free loads lent),
        ap (λ (l : List ℕ). length l) lent.free_is,
        make.room,
        out.bytes.ok.0,
      );
    }

abbrev filled_out : Datagrams → List ℕ → Vec Range Global → Datagrams
filled_out out after ranges = record out { bytes = with_items out.bytes after; ranges = ranges }

pub is-posted : (config : Config) (part : GroupPart) (sender : Option SenderState) (group : Group) (out : Datagrams) (bytes free : List ℕ) (loads : List Load)
    (after : List ℕ) (ranges : Vec Range Global) → MayMake config part sender group out → AreLent out bytes free loads → length after ≡ length free
    → IsFilled config part sender group bytes free out.frames loads after ranges.items → vec_capacity out.ranges ≤ vec_capacity ranges
    → IsPosted config part sender group out (filled_out out after ranges)
is-posted config part sender group out bytes free loads after ranges make lent long filled capacity =
    let made = made_from config part sender group bytes out.frames loads in
    let made_is : made ≡ made_with config part sender group out = made-same config part sender group out bytes free loads lent in
    let value : length free ≡ length out.bytes.items = ap (λ (l : List ℕ). length l) lent.free_is in
    let kept : (with_items out.bytes after).items ≡ after = with_items_is out.bytes after (omega (arith, long, value, out.bytes.ok.0)) in
    let room : length (joined made) ≤ vec_len out.bytes = omega (arith, ap (λ (l : List (List ℕ)). length (joined l)) made_is, make.room) in
    record {
      made = buffer-stands (with_items out.bytes after).items free ranges.items made (kept ∙ filled.laid_is) filled.ranges_are ∙ made_is;
      written = written-same config part sender group out bytes free loads lent filled.written;
      room = λ need has. record {
        within = record {
          frames = has.within.frames;
          bytes = has.within.bytes;
          ranges = buffer-within (vec_len out.bytes) ranges.items made filled.ranges_are room;
        };
        frames = has.frames;
        bytes = has.bytes;
        loads = has.loads;
        ranges = omega (arith, has.ranges, capacity);
      };
    }
