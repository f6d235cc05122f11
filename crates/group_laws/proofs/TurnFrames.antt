-- The frames of a turn: what the writer of an id has among them.
use Rattle.std.proofs.Common.{◌≡◌, ◌≢◌, refl, ap, ◌∙◌, arith, ℕ, zero, suc, ◌+◌, ◌<◌, Bool, true, false, List, [], ◌∷◌, ◌++◌, append-nil, Option, Some, None, option_map}
use Rattle.std.specs.Prelude.{◌==◌, slice_index_or, if◌then◌else◌}
use Rattle.std.specs.List.{flat_map}
use Rattle.std.proofs.lemmas.Bool.{eq-eqb, ne_eqb}
use Rattle.std.proofs.lemmas.List.Concat.{flat_map-append}
use Rattle.dataset_meta.specs.Metas.{MetaData}
use Rattle.pubsub_model.specs.Frames.{PlacedFrame}
use Rattle.pubsub_model.specs.Cadence.{WriterTurn}
use Rattle.ps_config.specs.declared.parts.GroupPart.{GroupPart}
use Rattle.writer_group.specs.Payloads.{Spelled, spelled_by}
use Rattle.writer_group.specs.Turns.{GroupDeed, answer_of, frame_of_writer, frames_from, list_of}
use Rattle.reader_group.specs.Payloads.{Piece}
use Rattle.group_laws.specs.TurnPieces.{frame_pieces}
use Rattle.writer_group.proofs.SmallIds.{id_at}
use Rattle.group_laws.proofs.DynamicPieces.{own}

-- ---- the frame of one writer

abbrev pub pieces_if : ℕ → ℕ → Option Spelled → List Piece
pieces_if frame_room room None = []
pieces_if frame_room room (Some frame) = frame_pieces frame_room room frame

module _ (id frame_room room : ℕ) (group : GroupPart) (metas : List MetaData) (past : List GroupDeed) where
  abbrev has : List Spelled → List Piece
  has frames = flat_map (own id frame_room room) frames

  answer-own : (writer : ℕ) (b : Bool) (answer : Option PlacedFrame) → (id_at group writer == id) ≡ b
      → has (list_of (option_map (spelled_by group metas writer) answer)) ≡ (if b then pieces_if frame_room room (option_map (spelled_by group metas writer) answer) else [])
  answer-own writer true None is = refl
  answer-own writer false None is = refl
  answer-own writer true (Some placed) is =
      let frame = spelled_by group metas writer placed in
      append-nil (own id frame_room room frame) ∙ ap (λ (b : Bool). if b then frame_pieces frame_room room frame else []) is
  answer-own writer false (Some placed) is =
      let frame = spelled_by group metas writer placed in
      append-nil (own id frame_room room frame) ∙ ap (λ (b : Bool). if b then frame_pieces frame_room room frame else []) is

  took-own : (writer : ℕ) (b : Bool) (took : Option WriterTurn) → (id_at group writer == id) ≡ b
      → has (list_of (frame_of_writer group metas past writer took)) ≡ (if b then pieces_if frame_room room (frame_of_writer group metas past writer took) else [])
  took-own writer true None is = refl
  took-own writer false None is = refl
  took-own writer b (Some turn) is = answer-own writer b (answer_of group past writer turn) is

  others : (from writer : ℕ) (tooks : List (Option WriterTurn)) → ((other : ℕ) → other ≢ writer → id_at group other ≢ id) → writer < from → has (frames_from group metas past from tooks) ≡ []
  others from writer [] apart less = refl
  others from writer (took ∷ tooks) apart less =
      flat_map-append (own id frame_room room) (list_of (frame_of_writer group metas past from took)) (frames_from group metas past (from + 1) tooks)
      ∙ ap (λ (l : List Piece). l ++ has (frames_from group metas past (from + 1) tooks)) (took-own from false took (ne_eqb (id_at group from) id (apart from (λ same. absurd (omega (arith, same, less))))))
      ∙ others (from + 1) writer tooks apart (omega (arith, less))

  -- of all frames from a writer on those are its own
  pub own-frames : (from k writer : ℕ) (tooks : List (Option WriterTurn)) → from + k ≡ writer → id_at group writer ≡ id → ((other : ℕ) → other ≢ writer → id_at group other ≢ id)
      → has (frames_from group metas past from tooks) ≡ pieces_if frame_room room (frame_of_writer group metas past writer (slice_index_or tooks k None))
  own-frames from k writer [] at is apart = refl
  own-frames from zero writer (took ∷ tooks) at is apart =
      let here : from ≡ writer = omega (arith, at) in
      let own_id : id_at group from ≡ id = ap (id_at group) here ∙ is in
      flat_map-append (own id frame_room room) (list_of (frame_of_writer group metas past from took)) (frames_from group metas past (from + 1) tooks)
      ∙ ap (λ (l : List Piece). has (list_of (frame_of_writer group metas past from took)) ++ l) (others (from + 1) writer tooks apart (omega (arith, at)))
      ∙ append-nil (has (list_of (frame_of_writer group metas past from took)))
      ∙ took-own from true took (eq-eqb (id_at group from) id own_id)
      ∙ ap (λ (w : ℕ). pieces_if frame_room room (frame_of_writer group metas past w took)) here
  own-frames from (suc k) writer (took ∷ tooks) at is apart =
      let differ : from ≢ writer = λ same. absurd (omega (arith, same, at)) in
      flat_map-append (own id frame_room room) (list_of (frame_of_writer group metas past from took)) (frames_from group metas past (from + 1) tooks)
      ∙ ap (λ (l : List Piece). l ++ has (frames_from group metas past (from + 1) tooks)) (took-own from false took (ne_eqb (id_at group from) id (apart from differ)))
      ∙ own-frames (from + 1) k writer tooks (omega (arith, at)) is apart
