-- The payloads of a turn are such as a header can name.
use Rattle.std.proofs.Common.{◌≡◌, refl, sym, ap, ◌∙◌, subst, arith, ℕ, ◌*◌, ◌/◌, ◌≤◌, ◌<◌, ◌^◌, Bool, true, false, ◌&&◌, List, [], ◌∷◌, length, map, All}
use Rattle.std.specs.Prelude.{nat_lt, if◌then◌else◌}
use Rattle.std.specs.Int.{w16, to_le_bytes}
use Rattle.std.specs.List.{flat_map}
use Rattle.std.proofs.lemmas.Bool.{leb-true}
use Rattle.std.proofs.lemmas.List.{length-map}
use Rattle.std.proofs.lemmas.List.Elements.{All-cons, All-head, All-tail, All-nil, All-append}
use Rattle.uadp_header.specs.Spelling.{AreIds, IsIds}
use Rattle.payload_layout.specs.Packing.{Packed, packs_of, fits}
use Rattle.payload_layout.proofs.Laid.{length-sizes}
use Rattle.chunker.specs.Chunks.{Chunk, cuts}
use Rattle.config_tables.specs.declared.words.Layout.{Layout}
use Rattle.config_tables.specs.declared.words.Layout.TheVariants as layouts
use Rattle.ps_config.specs.declared.parts.Config.{Config}
use Rattle.ps_config.specs.declared.parts.GroupPart.{GroupPart}
use Rattle.ps_config.specs.Rooms.{chunk_room}
use Rattle.writer_group.specs.Envelopes.{frame_room}
use Rattle.writer_group.specs.Payloads.{Spelled, size_of, frames_payload, chunk_payload, chunk_payloads, pack_payloads, payloads_by}
use Rattle.writer_group.specs.Sealing.{Payload}
use Rattle.writer_group.proofs.SmallIds.{IsSmall, IsSmallPack, packs-readable}

-- a header can name its ids
pub record CanBeNamed (payload : Payload) : Type 0 where
  pub ids : AreIds payload.0
  pub numbers : IsIds payload.0

ids-few : (n : ℕ) → n ≤ 255 → (2 * n ≤ 510) × (2 * (2 * n / 2) ≡ 2 * n)
ids-few n few = (omega (arith, few), omega arith)

pub frames-named : (frames : List Spelled) → length frames ≤ 255 → CanBeNamed (frames_payload frames)
frames-named frames few =
    let numbers = map (λ (frame : Spelled). frame.id) frames in
    let count : length numbers ≡ length frames = length-map frames (λ (frame : Spelled). frame.id) in
    let long : length (flat_map (to_le_bytes w16) numbers) ≡ 2 * length frames = length-sizes numbers ∙ ap (λ (n : ℕ). 2 * n) count in
    record {
      ids = subst (λ (n : ℕ). (n ≤ 510) × (2 * (n / 2) ≡ n)) (sym long) (ids-few (length frames) few);
      numbers = tt;
    }

pub chunk-named : (frame : Spelled) (chunk : Chunk) → frame.id < 2 ^ 16 → CanBeNamed (chunk_payload frame chunk)
chunk-named frame chunk id = record { ids = tt; numbers = id }

chunks-named : (frame : Spelled) (chunks : List Chunk) → frame.id < 2 ^ 16 → All CanBeNamed (map (chunk_payload frame) chunks)
chunks-named frame [] id = All-nil CanBeNamed
chunks-named frame (chunk ∷ chunks) id = All-cons CanBeNamed (chunk_payload frame chunk) (map (chunk_payload frame) chunks) (chunk-named frame chunk id) (chunks-named frame chunks id)

pub few-frames : (room : ℕ) (frames : List Spelled) → fits size_of room frames ≡ true → length frames ≤ 255
few-frames room frames e = leb-true (length frames) 255 (right _ _ e)
  where
    right : (a b : Bool) → (a && b) ≡ true → b ≡ true
    right true b e = e
    right false b e = absurd (let wrong : Path Bool false true = e in cc)

cut-named : (room : ℕ) (frames : List Spelled) → All IsSmall frames → All CanBeNamed (flat_map (chunk_payloads room) frames)
cut-named room [] small = All-nil CanBeNamed
cut-named room (frame ∷ frames) small =
    All-append CanBeNamed (chunk_payloads room frame) (flat_map (chunk_payloads room) frames)
    (chunks-named frame (cuts room frame.number frame.bytes) (All-head IsSmall frame frames small).id)
    (cut-named room frames (All-tail IsSmall frame frames small))

pack-named : (frame_room room : ℕ) (pack : Packed Spelled) (cut : Bool) → pack.cut ≡ cut → IsSmallPack frame_room pack → All CanBeNamed (pack_payloads room pack)
pack-named frame_room room pack true is readable =
    subst (λ (b : Bool). All CanBeNamed (if b then flat_map (chunk_payloads room) pack.frames else frames_payload pack.frames ∷ [])) (sym is)
    (cut-named room pack.frames readable.small)
pack-named frame_room room pack false is readable =
    subst (λ (b : Bool). All CanBeNamed (if b then flat_map (chunk_payloads room) pack.frames else frames_payload pack.frames ∷ [])) (sym is)
    (All-cons CanBeNamed (frames_payload pack.frames) [] (frames-named pack.frames (few-frames frame_room pack.frames (readable.sound.uncut is))) (All-nil CanBeNamed))

packs-named : (frame_room room : ℕ) (packs : List (Packed Spelled)) → All (IsSmallPack frame_room) packs → All CanBeNamed (flat_map (pack_payloads room) packs)
packs-named frame_room room [] all = All-nil CanBeNamed
packs-named frame_room room (pack ∷ packs) all =
    All-append CanBeNamed (pack_payloads room pack) (flat_map (pack_payloads room) packs)
    (pack-named frame_room room pack pack.cut refl (All-head (IsSmallPack frame_room) pack packs all))
    (packs-named frame_room room packs (All-tail (IsSmallPack frame_room) pack packs all))

slots-named : (b : Bool) (payload : Payload) → CanBeNamed payload → All CanBeNamed (if b then payload ∷ [] else [])
slots-named true payload named = All-cons CanBeNamed payload [] named (All-nil CanBeNamed)
slots-named false payload named = All-nil CanBeNamed

-- all payloads of a turn
pub payloads-named : (layout : Layout) (config : Config) (group : GroupPart) (frames : List Spelled) → All IsSmall frames → All CanBeNamed (payloads_by layout config group frames)
payloads-named layouts.Dynamic config group frames small =
    let room = frame_room config.publisher.id group in
    packs-named room (chunk_room config.publisher.id group) (packs_of size_of room frames) (packs-readable room frames small)
payloads-named layouts.Fixed config group frames small = slots-named (nat_lt 0 (length group.writer)) _ (record { ids = tt; numbers = tt })
