-- The payloads of a dynamic turn are those of its loads, and its loads are of its frames.
use Rattle.std.proofs.Common.{◌≡◌, ℕ, ◌+◌, ◌-◌, ◌*◌, ◌<◌, ◌≤◌, Bool, true, false, List, [], ◌∷◌, ◌++◌, length, map, take, drop, get_or, refl, sym, ap, subst, ◌∙◌, append-nil, arith}
use Rattle.std.specs.Prelude.{if◌then◌else◌}
use Rattle.std.specs.List.{All, flat_map, range_with_len}
use Rattle.std.proofs.lemmas.List.{length-append, length-drop, map-append, take_at, drop_at, drop-drop, drop-map, get_or-drop}
use Rattle.std.proofs.lemmas.List.Elements.{All-head, All-tail, All-cons, All-nil, All-append}
use Rattle.std.proofs.lemmas.List.FromFn.{get_or-map-range_with_len, length-map-range_with_len}
use Rattle.payload_layout.specs.Packing.{Packed, packs_of, pack_of, IsSound}
use Rattle.payload_layout.proofs.Packs.{packs-frames, packs-sound, packs-sized}
use Rattle.chunker.specs.Chunks.{cut_at}
use Rattle.writer_group.specs.declared.load.Load.TheVariants as loads
use Rattle.writer_group.specs.Sealing.{Payload}
use Rattle.writer_group.specs.Payloads.{Spelled, size_of, frames_payload, chunk_payload, chunk_payloads, pack_payloads}
use Rattle.writer_group.specs.Holding.{CargoValue, frame_at, no_frame, chunk_load, payload_in}
use Rattle.writer_group.specs.Loading.{IsLoad, IsChunkOf}
use Rattle.writer_group.specs.Planning.{chunk_count, chunk_loads, pack_loads, loads_from, planned}
use Rattle.writer_group.proofs.Cutting.{chunk-below}

-- ---- a frame that the rest begins with

first-at : {X : Type 0} (xs : List X) (at : ℕ) (x : X) (rest : List X) (d : X) → drop at xs ≡ x ∷ rest → get_or xs at d ≡ x
first-at {X} xs at x rest d is =
    let here : at + 0 ≡ at = omega arith in
    ap (λ (n : ℕ). get_or xs n d) (sym here) ∙ sym (get_or-drop at xs 0 d) ∙ ap (λ (l : List X). get_or l 0 d) is

pub first-size : (frames : List Spelled) (at : ℕ) (frame : Spelled) (rest : List Spelled) → drop at frames ≡ frame ∷ rest
    → get_or (map size_of frames) at 0 ≡ size_of frame
first-size frames at frame rest is =
    first-at (map size_of frames) at (size_of frame) (map size_of rest) 0 (drop-map size_of at frames ∙ ap (map size_of) is)

pub rest-of : (frames : List Spelled) (first : ℕ) (mine rest : List Spelled) → drop first frames ≡ mine ++ rest → drop (first + length mine) frames ≡ rest
rest-of frames first mine rest is = sym (drop-drop (length mine) first frames) ∙ ap (drop (length mine)) is ∙ drop_at mine rest (length mine) refl

-- ---- payloads

map-twice : {A B C : Type 0} (f : B → C) (g : A → B) (xs : List A) → map f (map g xs) ≡ map (λ (x : A). f (g x)) xs
map-twice f g [] = refl
map-twice {A} {B} {C} f g (x ∷ xs) = ap (λ (l : List C). f (g x) ∷ l) (map-twice f g xs)

one-chunked : (cargo : CargoValue) (first : ℕ) (frame : Spelled) (rest : List Spelled) → drop first cargo.frames ≡ frame ∷ rest
    → map (payload_in cargo) (chunk_loads cargo.room first (get_or (map size_of cargo.frames) first 0)) ≡ chunk_payloads cargo.room frame
one-chunked cargo first frame rest is =
    let at : frame_at cargo first ≡ frame = first-at cargo.frames first frame rest no_frame is in
    let size : get_or (map size_of cargo.frames) first 0 ≡ size_of frame = first-size cargo.frames first frame rest is in
    let range = range_with_len 0 (chunk_count cargo.room (size_of frame)) in
    ap (λ (n : ℕ). map (payload_in cargo) (chunk_loads cargo.room first n)) size
    ∙ map-twice (payload_in cargo) (loads.Chunk first) range
    ∙ ap (λ (f : Spelled). map (chunk_load cargo.room f) range) at
    ∙ sym (map-twice (chunk_payload frame) (cut_at cargo.room frame.number frame.bytes) range)

one-pack : (cargo : CargoValue) (room first : ℕ) (frames rest : List Spelled) (cut : Bool) → IsSound size_of room (record { frames = frames; cut = cut })
    → drop first cargo.frames ≡ frames ++ rest
    → map (payload_in cargo) (pack_loads cargo.room first (record { count = length frames; chunked = cut }) (get_or (map size_of cargo.frames) first 0))
    ≡ (if cut then flat_map (chunk_payloads cargo.room) frames else frames_payload frames ∷ [])
one-pack cargo room first frames rest false sound is =
    ap (λ (l : List Spelled). frames_payload l ∷ []) (ap (take (length frames)) is ∙ take_at frames rest (length frames) refl)
one-pack cargo room first frames rest true sound is =
    let one = sound.alone refl in
    let frame = one.0 in
    let begins : drop first cargo.frames ≡ frame ∷ rest = is ∙ ap (λ (l : List Spelled). l ++ rest) one.1 in
    one-chunked cargo first frame rest begins ∙ sym (append-nil (chunk_payloads cargo.room frame))
    ∙ ap (flat_map (chunk_payloads cargo.room)) (sym one.1)

payloads-from : (cargo : CargoValue) (room first : ℕ) (packs : List (Packed Spelled)) → All (IsSound size_of room) packs
    → drop first cargo.frames ≡ flat_map (λ (pack : Packed Spelled). pack.frames) packs
    → map (payload_in cargo) (loads_from cargo.room (map size_of cargo.frames) first (map pack_of packs)) ≡ flat_map (pack_payloads cargo.room) packs
payloads-from cargo room first [] sound is = refl
payloads-from cargo room first (pack ∷ packs) sound is =
    let rest = flat_map (λ (p : Packed Spelled). p.frames) packs in
    let mine : IsSound size_of room pack = All-head (IsSound size_of room) pack packs sound in
    let here = pack_loads cargo.room first (pack_of pack) (get_or (map size_of cargo.frames) first 0) in
    let more = loads_from cargo.room (map size_of cargo.frames) (first + length pack.frames) (map pack_of packs) in
    map-append (payload_in cargo) here more
    ∙ ap (λ (l : List Payload). l ++ map (payload_in cargo) more) (one-pack cargo room first pack.frames rest pack.cut mine is)
    ∙ ap (λ (l : List Payload). pack_payloads cargo.room pack ++ l)
    (payloads-from cargo room (first + length pack.frames) packs (All-tail (IsSound size_of room) pack packs sound) (rest-of cargo.frames first pack.frames rest is))

pub planned-sized : (room chunk_room : ℕ) (frames : List Spelled)
    → planned room chunk_room (map size_of frames) ≡ loads_from chunk_room (map size_of frames) 0 (map pack_of (packs_of size_of room frames))
planned-sized room chunk_room frames = ap (loads_from chunk_room (map size_of frames) 0) (sym (packs-sized size_of room frames))

pub payloads-planned : (cargo : CargoValue) (room : ℕ)
    → map (payload_in cargo) (planned room cargo.room (map size_of cargo.frames)) ≡ flat_map (pack_payloads cargo.room) (packs_of size_of room cargo.frames)
payloads-planned cargo room =
    ap (map (payload_in cargo)) (planned-sized room cargo.room cargo.frames)
    ∙ payloads-from cargo room 0 (packs_of size_of room cargo.frames) (packs-sound size_of room cargo.frames) (sym (packs-frames size_of room cargo.frames))

-- ---- loads

chunks-each : (cargo : CargoValue) (first : ℕ) (frame : Spelled) (rest : List Spelled) → 1 ≤ cargo.room → drop first cargo.frames ≡ frame ∷ rest
    → All (IsLoad cargo) (chunk_loads cargo.room first (size_of frame))
chunks-each cargo first frame rest some is k d below =
    let count : ℕ = chunk_count cargo.room (size_of frame) in
    let within : k < count = omega (arith, length-map-range_with_len (loads.Chunk first) 0 count) in
    let at : frame_at cargo first ≡ frame = first-at cargo.frames first frame rest no_frame is in
    let there : first < length cargo.frames = omega (arith, length-drop first cargo.frames, ap length is) in
    let begins : k * cargo.room < length frame.bytes = chunk-below cargo.room (size_of frame) k some within in
    let chunk : IsChunkOf cargo first k = record { within = there; room = some; begins = subst (λ (f : Spelled). k * cargo.room < length f.bytes) (sym at) begins } in
    subst (IsLoad cargo) (sym (get_or-map-range_with_len (loads.Chunk first) 0 count k k d within (omega arith))) chunk

chunks-are : (cargo : CargoValue) (first : ℕ) (frame : Spelled) (rest : List Spelled) → 1 ≤ cargo.room → drop first cargo.frames ≡ frame ∷ rest
    → All (IsLoad cargo) (chunk_loads cargo.room first (get_or (map size_of cargo.frames) first 0))
chunks-are cargo first frame rest some is =
    subst (λ (n : ℕ). All (IsLoad cargo) (chunk_loads cargo.room first n)) (sym (first-size cargo.frames first frame rest is)) (chunks-each cargo first frame rest some is)

pack-are : (cargo : CargoValue) (room first : ℕ) (frames rest : List Spelled) (cut : Bool) → 1 ≤ cargo.room → IsSound size_of room (record { frames = frames; cut = cut })
    → drop first cargo.frames ≡ frames ++ rest
    → All (IsLoad cargo) (pack_loads cargo.room first (record { count = length frames; chunked = cut }) (get_or (map size_of cargo.frames) first 0))
pack-are cargo room first frames rest false some sound is =
    let long : length cargo.frames - first ≡ length frames + length rest = sym (length-drop first cargo.frames) ∙ ap length is ∙ length-append frames rest in
    let one : IsLoad cargo (loads.Frames first (length frames)) = record { some = sound.some; within = omega (arith, long, sound.some) } in
    All-cons (IsLoad cargo) (loads.Frames first (length frames)) [] one (All-nil (IsLoad cargo))
pack-are cargo room first frames rest true some sound is =
    let one = sound.alone refl in
    chunks-are cargo first one.0 rest some (is ∙ ap (λ (l : List Spelled). l ++ rest) one.1)

loads-from-are : (cargo : CargoValue) (room first : ℕ) (packs : List (Packed Spelled)) → 1 ≤ cargo.room → All (IsSound size_of room) packs
    → drop first cargo.frames ≡ flat_map (λ (pack : Packed Spelled). pack.frames) packs
    → All (IsLoad cargo) (loads_from cargo.room (map size_of cargo.frames) first (map pack_of packs))
loads-from-are cargo room first [] some sound is = All-nil (IsLoad cargo)
loads-from-are cargo room first (pack ∷ packs) some sound is =
    let rest = flat_map (λ (p : Packed Spelled). p.frames) packs in
    All-append (IsLoad cargo) (pack_loads cargo.room first (pack_of pack) (get_or (map size_of cargo.frames) first 0))
    (loads_from cargo.room (map size_of cargo.frames) (first + length pack.frames) (map pack_of packs))
    (pack-are cargo room first pack.frames rest pack.cut some (All-head (IsSound size_of room) pack packs sound) is)
    (loads-from-are cargo room (first + length pack.frames) packs some (All-tail (IsSound size_of room) pack packs sound) (rest-of cargo.frames first pack.frames rest is))

pub planned-are : (cargo : CargoValue) (room : ℕ) → 1 ≤ cargo.room → All (IsLoad cargo) (planned room cargo.room (map size_of cargo.frames))
planned-are cargo room some =
    subst (All (IsLoad cargo)) (sym (planned-sized room cargo.room cargo.frames))
    (loads-from-are cargo room 0 (packs_of size_of room cargo.frames) some (packs-sound size_of room cargo.frames) (sym (packs-frames size_of room cargo.frames)))
