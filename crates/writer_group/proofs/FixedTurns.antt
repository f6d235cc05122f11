-- The frames of a fixed turn fit their slots.
use Rattle.std.proofs.Common.{◌≡◌, ℕ, ◌+◌, ◌-◌, ◌<◌, ◌≤◌, true, List, [], length, get_or, sym, ap, ◌∙◌, arith, inl, inr, Option, All}
use Rattle.std.specs.Prelude.{◌⊎◌, AllPairs, Contains}
use Rattle.std.specs.Option.{option_map_or}
use Rattle.std.proofs.lemmas.Bool.{cases_eq, cases_lt}
use Rattle.std.proofs.lemmas.List.{get_or-map, length-map}
use Rattle.std.proofs.lemmas.List.Elements.{All-map}
use Rattle.std.proofs.lemmas.Option.{slice_get-get_or}
use Rattle.dataset_meta.specs.Metas.{MetaData, no_meta}
use Rattle.fixed_layout.specs.declared.slot.Slot.{Slot}
use Rattle.fixed_layout.specs.Datagrams.{AreFrames, fixed_payload, slot_at}
use Rattle.fixed_layout.specs.Spelling.{raw_size}
use Rattle.fixed_layout.proofs.DatagramLaws.{last-within, length-payload}
use Rattle.ps_config.specs.declared.parts.Config.{Config}
use Rattle.ps_config.specs.declared.parts.GroupPart.{GroupPart}
use Rattle.ps_config.specs.declared.parts.WriterPart.{WriterPart}
use Rattle.ps_config.specs.FixedSound.{IsFixedGroup, front_size, raw_size_of, writer_slot}
use Rattle.ps_config.specs.Headers.{signature_len}
use Rattle.ps_config.specs.Rooms.{is_fixed}
use Rattle.writer_group.specs.Answering.{AreAnswers, IsAnswerOf}
use Rattle.writer_group.specs.Payloads.{Spelled, fixed_header, meta_at, no_writer, size_of, slots_of, writer_at, in_slots}

abbrev in_slot : Spelled → ℕ × List ℕ
in_slot frame = (frame.writer, frame.bytes)

-- ---- of a slot one frame at most

abbrev RisesTo : Spelled → Spelled → Type 0
RisesTo one other = one.writer < other.writer

at-most-one : (frames : List Spelled) (i j : ℕ) (d : Spelled) → AllPairs RisesTo frames → i < length frames → j < length frames → (get_or frames i d).writer ≡ (get_or frames j d).writer → i ≡ j
at-most-one frames i j d rise of_i of_j same = by_places (cases_eq i j)
  where
    by_places : (i ≡ j) ⊎ (i ≡ j → ⊥) → i ≡ j
    by_places (inl is) = is
    by_places (inr differs) = by_order (cases_lt i j)
      where
        by_order : (i < j) ⊎ (j ≤ i) → i ≡ j
        by_order (inl less) = absurd (omega (arith, same, rise i j d less of_j))
        by_order (inr more) = by_other (cases_lt j i)
          where
            by_other : (j < i) ⊎ (i ≤ j) → i ≡ j
            by_other (inl less) = absurd (omega (arith, same, rise j i d less of_i))
            by_other (inr both) = omega arith

frame-of : (frames : List Spelled) (x : ℕ × List ℕ) (k : ℕ) (d : Spelled) → k < length (in_slots frames) → get_or (in_slots frames) k x ≡ x → in_slot (get_or frames k d) ≡ x
frame-of frames x k d within is =
    let below : k < length frames = omega (arith, length-map frames in_slot) in
    sym (get_or-map in_slot frames k d x below) ∙ is

one-each : (frames : List Spelled) → AllPairs RisesTo frames → (one other : ℕ × List ℕ) → Contains (in_slots frames) one → Contains (in_slots frames) other → one.0 ≡ other.0 → one ≡ other
one-each frames rise one other has_one has_other same =
    let i = has_one.0 in
    let j = has_other.0 in
    let d : Spelled = record { writer = 0; id = 0; number = 0; bytes = [] } in
    let first : in_slot (get_or frames i d) ≡ one = frame-of frames one i d has_one.1 has_one.2 in
    let second : in_slot (get_or frames j d) ≡ other = frame-of frames other j d has_other.1 has_other.2 in
    let of_i : i < length frames = omega (arith, length-map frames in_slot, has_one.1) in
    let of_j : j < length frames = omega (arith, length-map frames in_slot, has_other.1) in
    let writers : (get_or frames i d).writer ≡ (get_or frames j d).writer = ap (λ (x : ℕ × List ℕ). x.0) first ∙ same ∙ sym (ap (λ (x : ℕ × List ℕ). x.0) second) in
    let places : i ≡ j = at-most-one frames i j d rise of_i of_j writers in
    sym first ∙ ap (λ (k : ℕ). in_slot (get_or frames k d)) places ∙ second

-- ---- each fits its slot

pub own-slot : (config : Config) (part : GroupPart) (writer : ℕ) → writer < length part.writer → slot_at (slots_of config part) writer ≡ writer_slot config (writer_at part writer)
own-slot config part writer within = get_or-map (writer_slot config) part.writer writer no_writer (record { offset = 0; size = 0; need = 0 }) within

frame-fits : (config : Config) (part : GroupPart) (frame : Spelled) → is_fixed part.layout ≡ true → IsFixedGroup config part → frame.writer < length part.writer
    → (writer_at part frame.writer).dataset < length config.dataset → IsAnswerOf part config.dataset frame
    → size_of frame ≤ (slot_at (slots_of config part) frame.writer).size
frame-fits config part frame fixed is_fixed within known is =
    let writer = writer_at part frame.writer in
    let own : slot_at (slots_of config part) frame.writer ≡ writer_slot config writer = own-slot config part frame.writer within in
    let raw : raw_size_of config writer.dataset ≡ raw_size (meta_at part config.dataset frame.writer).fields =
    ap (λ (o : Option MetaData). option_map_or (λ (meta : MetaData). raw_size meta.fields) o 0) (slice_get-get_or config.dataset writer.dataset no_meta known) in
    let large : (slot_at (slots_of config part) frame.writer).need ≤ (slot_at (slots_of config part) frame.writer).size =
    is_fixed.slots.large frame.writer (record { offset = 0; size = 0; need = 0 }) (omega (arith, length-map part.writer (writer_slot config), within)) in
    let need : (slot_at (slots_of config part) frame.writer).need ≡ front_size writer.versions + raw_size_of config writer.dataset = ap (λ (slot : Slot). slot.need) own in
    omega (arith, raw, large, need, is.fixed fixed)

pub are-frames : (config : Config) (part : GroupPart) (frames : List Spelled) → is_fixed part.layout ≡ true → IsFixedGroup config part
    → All (λ (writer : WriterPart). writer.dataset < length config.dataset) part.writer → AreAnswers part config.dataset (length part.writer) frames
    → AreFrames (slots_of config part) (in_slots frames)
are-frames config part frames fixed is_fixed known are =
    let many : length (slots_of config part) ≡ length part.writer = length-map part.writer (writer_slot config) in
    record {
      known = All-map (λ (f : ℕ × List ℕ). f.0 < length (slots_of config part)) in_slot frames (λ k d within. omega (arith, many, are.below k d within));
      fit = All-map (λ (f : ℕ × List ℕ). length f.1 ≤ (slot_at (slots_of config part) f.0).size) in_slot frames
          (λ k d within. frame-fits config part (get_or frames k d) fixed is_fixed (are.below k d within) (known (get_or frames k d).writer no_writer (are.below k d within)) (are.each k d within));
      one_each = one-each frames are.rise;
    }

-- the payload ends within the largest datagram
pub fixed-size : (config : Config) (part : GroupPart) (frames : List (ℕ × List ℕ)) → IsFixedGroup config part → part.max_size ≤ 65000 → AreFrames (slots_of config part) frames
    → length (fixed_payload (fixed_header config.publisher.id part) (slots_of config part) frames) ≤ 65000
fixed-size config part frames is_fixed small are =
    omega (
      arith,
      length-payload (fixed_header config.publisher.id part) (slots_of config part) frames are,
      last-within (part.max_size - signature_len part.security) (slots_of config part) is_fixed.slots.within,
    )
