-- The payloads of a group are such as its header can name and a read group takes.
use Rattle.std.proofs.Common.{◌≡◌, refl, sym, ap, ◌∙◌, subst, arith, ℕ, ◌*◌, ◌/◌, ◌<◌, ◌≤◌, ◌^◌, Bool, true, false, ◌&&◌, List, [], ◌∷◌, length, map, append-nil, All, Ok}
use Rattle.std.specs.Prelude.{if◌then◌else◌}
use Rattle.std.specs.Int.{w16, to_le_bytes}
use Rattle.std.specs.List.{flat_map}
use Rattle.std.proofs.lemmas.Bool.{leb-true}
use Rattle.std.proofs.lemmas.Bool.Decides.{nat_tests}
use Rattle.std.proofs.lemmas.List.{length-map}
use Rattle.std.proofs.lemmas.List.Elements.{All-cons, All-head, All-tail, All-weaker, All-map, All-nil, All-append}
use Rattle.uadp_header.specs.Headers.{ids_of}
use Rattle.uadp_header.specs.Spelling.{AreIds, IsIds}
use Rattle.uadp_header.proofs.IdLaws.{ids-again}
use Rattle.payload_layout.specs.Packing.{Packed, packs_of, fits}
use Rattle.payload_layout.specs.Payloads.{AreShort, dynamic_payload, HasBadSizes}
use Rattle.payload_layout.proofs.Again.{laid-good}
use Rattle.payload_layout.proofs.Laid.{length-sizes}
use Rattle.chunker.specs.Chunks.{Chunk, cuts}
use Rattle.config_tables.specs.declared.words.Layout.{Layout}
use Rattle.config_tables.specs.declared.words.Layout.TheVariants as layouts
use Rattle.writer_group.specs.Payloads.{Spelled, size_of, frames_payload, chunk_payload, chunk_payloads, pack_payloads}
use Rattle.writer_group.specs.Sealing.{Payload}
use Rattle.reader_group.specs.declared.refusal.Refusal.TheVariants as refusals
use Rattle.message_guard.specs.Opening.{judged}
use Rattle.reader_group.specs.Opening.{Opened, are_past, payload_refusals}
use Rattle.writer_group.proofs.SmallIds.{IsSmall, IsSmallPack, packs-readable}
use Rattle.group_laws.proofs.DynamicPieces.{fitting}

-- a header can name its ids, and a read group of the layout has nothing to refuse in it
pub record IsGood (layout : Layout) (payload : Payload) : Type 0 where
  pub ids : AreIds payload.0
  pub numbers : IsIds payload.0
  pub taken : (x : Opened) → judged (payload_refusals layout payload.0 payload.1) x ≡ Ok x

not-past : (b : Bool) (x : Opened) → b ≡ false → judged ((b, refusals.BadSizes) ∷ []) x ≡ Ok x
not-past false x is = refl
not-past true x is = absurd (let wrong : Path Bool true false = is in cc)

past-bad : (count : ℕ) (payload : List ℕ) → are_past count payload ≡ true → HasBadSizes count payload
past-bad count payload e = record { several = grind (arith, nat_tests); past = grind (arith, nat_tests) }

good-past : (count : ℕ) (payload : List ℕ) → (HasBadSizes count payload → ⊥) → are_past count payload ≡ false
good-past count payload good = on (are_past count payload) refl
  where
    on : (b : Bool) → are_past count payload ≡ b → b ≡ false
    on false is = refl
    on true is = absurd (good (past-bad count payload is))

ids-few : (n : ℕ) → n ≤ 255 → (2 * n ≤ 510) × (2 * (2 * n / 2) ≡ 2 * n)
ids-few n few = (omega (arith, few), omega arith)

frames-good : (frames : List Spelled) → length frames ≤ 255 → All (λ frame. frame.id < 2 ^ 16) frames → All (λ frame. size_of frame < 65536) frames → IsGood layouts.Dynamic (frames_payload frames)
frames-good frames few ids sizes =
    let numbers = map (λ (frame : Spelled). frame.id) frames in
    let bytes = map (λ (frame : Spelled). frame.bytes) frames in
    let count : length numbers ≡ length frames = length-map frames (λ (frame : Spelled). frame.id) in
    let same : length bytes ≡ length frames = length-map frames (λ (frame : Spelled). frame.bytes) in
    let long : length (flat_map (to_le_bytes w16) numbers) ≡ 2 * length frames = length-sizes numbers ∙ ap (λ (n : ℕ). 2 * n) count in
    let short : AreShort bytes = All-map (λ (l : List ℕ). length l < 65536) (λ (frame : Spelled). frame.bytes) frames sizes in
    let back : length (ids_of (flat_map (to_le_bytes w16) numbers)) ≡ length bytes = ap length (ids-again numbers (All-map (λ (id : ℕ). id < 2 ^ 16) (λ (frame : Spelled). frame.id) frames ids)) ∙ count ∙ sym same in
    let good : HasBadSizes (length bytes) (dynamic_payload bytes) → ⊥ = λ bad. laid-good bytes [] short (subst (λ (l : List ℕ). HasBadSizes (length bytes) l) (sym (append-nil (dynamic_payload bytes))) bad) in
    record {
      ids = subst (λ (n : ℕ). (n ≤ 510) × (2 * (n / 2) ≡ n)) (sym long) (ids-few (length frames) few);
      numbers = tt;
      taken = λ x. not-past (are_past (length (ids_of (flat_map (to_le_bytes w16) numbers))) (dynamic_payload bytes)) x (ap (λ (n : ℕ). are_past n (dynamic_payload bytes)) back ∙ good-past (length bytes) (dynamic_payload bytes) good);
    }

chunk-good : (frame : Spelled) (chunk : Chunk) → frame.id < 2 ^ 16 → IsGood layouts.Dynamic (chunk_payload frame chunk)
chunk-good frame chunk id = record { ids = tt; numbers = id; taken = λ x. refl }

chunks-good : (frame : Spelled) (chunks : List Chunk) → frame.id < 2 ^ 16 → All (IsGood layouts.Dynamic) (map (chunk_payload frame) chunks)
chunks-good frame [] id = All-nil (IsGood layouts.Dynamic)
chunks-good frame (chunk ∷ chunks) id = All-cons (IsGood layouts.Dynamic) (chunk_payload frame chunk) (map (chunk_payload frame) chunks) (chunk-good frame chunk id) (chunks-good frame chunks id)

few-frames : (room : ℕ) (frames : List Spelled) → fits size_of room frames ≡ true → length frames ≤ 255
few-frames room frames e = leb-true (length frames) 255 (right _ _ e)
  where
    right : (a b : Bool) → (a && b) ≡ true → b ≡ true
    right true b e = e
    right false b e = absurd (let wrong : Path Bool false true = e in cc)

cut-good : (room : ℕ) (frames : List Spelled) → All IsSmall frames → All (IsGood layouts.Dynamic) (flat_map (chunk_payloads room) frames)
cut-good room [] small = All-nil (IsGood layouts.Dynamic)
cut-good room (frame ∷ frames) small =
    All-append (IsGood layouts.Dynamic) (chunk_payloads room frame) (flat_map (chunk_payloads room) frames)
    (chunks-good frame (cuts room frame.number frame.bytes) (All-head IsSmall frame frames small).id)
    (cut-good room frames (All-tail IsSmall frame frames small))

pack-good : (frame_room room : ℕ) (pack : Packed Spelled) (cut : Bool) → pack.cut ≡ cut → frame_room < 65536 → IsSmallPack frame_room pack → All (IsGood layouts.Dynamic) (pack_payloads room pack)
pack-good frame_room room pack true is short readable =
    subst (λ (b : Bool). All (IsGood layouts.Dynamic) (if b then flat_map (chunk_payloads room) pack.frames else frames_payload pack.frames ∷ [])) (sym is)
    (cut-good room pack.frames readable.small)
pack-good frame_room room pack false is short readable =
    let fit_all = readable.sound.uncut is in
    let fit = fitting frame_room pack.frames fit_all in
    subst (λ (b : Bool). All (IsGood layouts.Dynamic) (if b then flat_map (chunk_payloads room) pack.frames else frames_payload pack.frames ∷ [])) (sym is)
    (All-cons (IsGood layouts.Dynamic) (frames_payload pack.frames) []
    (frames-good pack.frames (few-frames frame_room pack.frames fit_all) (All-weaker IsSmall (λ (f : Spelled). f.id < 2 ^ 16) (λ f small. small.id) pack.frames readable.small)
    (All-weaker (λ (f : Spelled). size_of f ≤ frame_room) (λ (f : Spelled). size_of f < 65536) (λ f le. omega (arith, le, short)) pack.frames fit))
    (All-nil (IsGood layouts.Dynamic)))

packs-good : (frame_room room : ℕ) (packs : List (Packed Spelled)) → frame_room < 65536 → All (IsSmallPack frame_room) packs → All (IsGood layouts.Dynamic) (flat_map (pack_payloads room) packs)
packs-good frame_room room [] short all = All-nil (IsGood layouts.Dynamic)
packs-good frame_room room (pack ∷ packs) short all =
    All-append (IsGood layouts.Dynamic) (pack_payloads room pack) (flat_map (pack_payloads room) packs)
    (pack-good frame_room room pack pack.cut refl short (All-head (IsSmallPack frame_room) pack packs all))
    (packs-good frame_room room packs short (All-tail (IsSmallPack frame_room) pack packs all))

-- all payloads of a dynamic turn
pub dynamic-good : (frame_room room : ℕ) (frames : List Spelled) → frame_room < 65536 → All IsSmall frames → All (IsGood layouts.Dynamic) (flat_map (pack_payloads room) (packs_of size_of frame_room frames))
dynamic-good frame_room room frames short small = packs-good frame_room room (packs_of size_of frame_room frames) short (packs-readable frame_room frames small)
