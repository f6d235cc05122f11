-- The ids of a turn's frames have 16 bits, also where the frames are packed.
use Rattle.std.proofs.Common.{◌≡◌, refl, sym, ap, subst, arith, ℕ, ◌+◌, ◌<◌, ◌≤◌, ◌^◌, ◌⊎◌, inl, inr, List, [], ◌∷◌, ◌++◌, length, All, Contains, Option, Some, None, option_map}
use Rattle.std.specs.Prelude.{slice_index_or}
use Rattle.std.specs.List.{flat_map}
use Rattle.std.proofs.lemmas.Bool.{cases_lt}
use Rattle.std.proofs.lemmas.List.{get_or_past}
use Rattle.std.proofs.lemmas.List.Elements.{All-cons, All-head, All-tail, All-nil, All-append, All-contains}
use Rattle.dataset_meta.specs.Metas.{MetaData}
use Rattle.pubsub_model.specs.Frames.{PlacedFrame}
use Rattle.pubsub_model.specs.Cadence.{WriterTurn}
use Rattle.payload_layout.specs.Packing.{Packed, IsSound as IsSoundPack, packs_of}
use Rattle.payload_layout.proofs.Packs.{packs-frames, packs-sound}
use Rattle.ps_config.specs.declared.parts.Config.{Config}
use Rattle.ps_config.specs.declared.parts.GroupPart.{GroupPart}
use Rattle.ps_config.specs.declared.parts.WriterPart.{WriterPart}
use Rattle.ps_config.specs.Sound.{IsSound, IsGroup, IsWithin}
use Rattle.writer_group.specs.Payloads.{Spelled, no_writer, size_of, spelled_by, writer_at}
use Rattle.writer_group.specs.Turns.{GroupDeed, TurnInput, answer_of, frame_of_writer, frames_from, frames_in, list_of, turns_from}

-- ---- ids

abbrev pub id_at : GroupPart → ℕ → ℕ
id_at group writer = (writer_at group writer).id

pub group-sound : (config : Config) (group : GroupPart) → IsSound config → Contains config.group group → IsGroup config group
group-sound config group sound there = All-contains (IsGroup config) config.group group sound.groups there

-- where no writer stands the id is 0
pub past-zero : (group : GroupPart) (writer : ℕ) → length group.writer ≤ writer → id_at group writer ≡ 0
past-zero group writer past = ap (λ (w : WriterPart). w.id) (get_or_past group.writer writer no_writer past)

pub there-within : (config : Config) (group : GroupPart) (writer : ℕ) → IsGroup config group → writer < length group.writer → IsWithin 1 65535 (id_at group writer)
there-within config group writer is within = (is.writers writer no_writer within).id

pub id-small : (config : Config) (group : GroupPart) (writer : ℕ) → IsGroup config group → id_at group writer < 2 ^ 16
id-small config group writer is = on (cases_lt writer (length group.writer))
  where
    on : (writer < length group.writer) ⊎ (length group.writer ≤ writer) → id_at group writer < 2 ^ 16
    on (inl within) = let h = there-within config group writer is within in omega (arith, h.1)
    on (inr past) = let h = past-zero group writer past in omega (arith, h)

-- ---- frames

pub record IsSmall (frame : Spelled) : Type 0 where
  pub id : frame.id < 2 ^ 16

-- each is of its writer
pub record IsBy (group : GroupPart) (frame : Spelled) : Type 0 where
  pub id : frame.id ≡ id_at group frame.writer

frame-by : (group : GroupPart) (metas : List MetaData) (writer : ℕ) (answer : Option PlacedFrame) → All (IsBy group) (list_of (option_map (spelled_by group metas writer) answer))
frame-by group metas writer None = All-nil (IsBy group)
frame-by group metas writer (Some placed) = All-cons (IsBy group) (spelled_by group metas writer placed) [] (record { id = refl }) (All-nil (IsBy group))

took-by : (group : GroupPart) (metas : List MetaData) (past : List GroupDeed) (writer : ℕ) (took : Option WriterTurn) → All (IsBy group) (list_of (frame_of_writer group metas past writer took))
took-by group metas past writer None = All-nil (IsBy group)
took-by group metas past writer (Some turn) = frame-by group metas writer (answer_of group past writer turn)

pub frames-by : (group : GroupPart) (metas : List MetaData) (past : List GroupDeed) (from : ℕ) (tooks : List (Option WriterTurn)) → All (IsBy group) (frames_from group metas past from tooks)
frames-by group metas past from [] = All-nil (IsBy group)
frames-by group metas past from (took ∷ tooks) =
    All-append (IsBy group) (list_of (frame_of_writer group metas past from took)) (frames_from group metas past (from + 1) tooks) (took-by group metas past from took) (frames-by group metas past (from + 1) tooks)

pub frames-small : (group : GroupPart) (frames : List Spelled) → ((writer : ℕ) → id_at group writer < 2 ^ 16) → All (IsBy group) frames → All IsSmall frames
frames-small group frames small by = λ k d below. record { id = let is = (by k d below).id in omega (arith, is, small (slice_index_or frames k d).writer) }

pub turn-small : (config : Config) (group : GroupPart) (past : List GroupDeed) (input : TurnInput) → IsGroup config group → All IsSmall (frames_in group past input)
turn-small config group past input is =
    frames-small group (frames_in group past input) (λ writer. id-small config group writer is) (frames-by group input.told.metas past 0 (turns_from group input.told 0 input.on))

-- ---- packs

pub record IsSmallPack (frame_room : ℕ) (pack : Packed Spelled) : Type 0 where
  pub small : All IsSmall pack.frames
  pub sound : IsSoundPack size_of frame_room pack

packs-small : (packs : List (Packed Spelled)) → All IsSmall (flat_map (λ pack. pack.frames) packs) → All (λ pack. All IsSmall pack.frames) packs
packs-small [] all = All-nil (λ (pack : Packed Spelled). All IsSmall pack.frames)
packs-small (pack ∷ packs) all =
    let parts = All-parts IsSmall pack.frames (flat_map (λ (p : Packed Spelled). p.frames) packs) all in
    All-cons (λ (pack : Packed Spelled). All IsSmall pack.frames) pack packs parts.0 (packs-small packs parts.1)
  where
    All-parts : {X : Type 0} (P : X → Type 0) (xs ys : List X) → All P (xs ++ ys) → All P xs × All P ys
    All-parts P [] ys all = (All-nil P, all)
    All-parts P (x ∷ xs) ys all =
        let rest = All-parts P xs ys (All-tail P x (xs ++ ys) all) in (All-cons P x xs (All-head P x (xs ++ ys) all) rest.0, rest.1)

each-pack : (frame_room : ℕ) (packs : List (Packed Spelled)) → All (λ pack. All IsSmall pack.frames) packs → All (IsSoundPack size_of frame_room) packs → All (IsSmallPack frame_room) packs
each-pack frame_room packs small sound = λ k d below. record { small = small k d below; sound = sound k d below }

pub packs-readable : (frame_room : ℕ) (frames : List Spelled) → All IsSmall frames → All (IsSmallPack frame_room) (packs_of size_of frame_room frames)
packs-readable frame_room frames small =
    each-pack frame_room (packs_of size_of frame_room frames)
    (packs-small (packs_of size_of frame_room frames) (subst (λ (l : List Spelled). All IsSmall l) (sym (packs-frames size_of frame_room frames)) small))
    (packs-sound size_of frame_room frames)
