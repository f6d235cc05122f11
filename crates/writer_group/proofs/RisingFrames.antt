-- The frames of a turn stand in the order of their writers, and of each writer there is one at most.
use Rattle.std.proofs.Common.{arith, ℕ, ◌+◌, ◌<◌, ◌≤◌, List, [], ◌∷◌, ◌++◌, All, AllPairs, Option, Some, None, option_map}
use Rattle.std.proofs.lemmas.List.Elements.{All-cons, All-nil, All-append}
use Rattle.std.proofs.lemmas.List.Kept.{AllPairs-cons}
use Rattle.dataset_meta.specs.Metas.{MetaData}
use Rattle.pubsub_model.specs.Frames.{PlacedFrame}
use Rattle.pubsub_model.specs.Cadence.{WriterTurn}
use Rattle.ps_config.specs.declared.parts.GroupPart.{GroupPart}
use Rattle.writer_group.specs.Payloads.{Spelled, spelled_by}
use Rattle.writer_group.specs.Turns.{GroupDeed, answer_of, frame_of_writer, frames_from, list_of}

abbrev pub IsFrom : ℕ → Spelled → Type 0
IsFrom from frame = from ≤ frame.writer

abbrev pub RisesTo : Spelled → Spelled → Type 0
RisesTo one other = one.writer < other.writer

answer-from : (group : GroupPart) (metas : List MetaData) (writer : ℕ) (answer : Option PlacedFrame) (low : ℕ) → low ≤ writer → All (IsFrom low) (list_of (option_map (spelled_by group metas writer) answer))
answer-from group metas writer None low le = All-nil (IsFrom low)
answer-from group metas writer (Some placed) low le = All-cons (IsFrom low) (spelled_by group metas writer placed) [] le (All-nil (IsFrom low))

took-from : (group : GroupPart) (metas : List MetaData) (past : List GroupDeed) (writer : ℕ) (took : Option WriterTurn) (low : ℕ) → low ≤ writer → All (IsFrom low) (list_of (frame_of_writer group metas past writer took))
took-from group metas past writer None low le = All-nil (IsFrom low)
took-from group metas past writer (Some turn) low le = answer-from group metas writer (answer_of group past writer turn) low le

frames-low : (group : GroupPart) (metas : List MetaData) (past : List GroupDeed) (from low : ℕ) (tooks : List (Option WriterTurn)) → low ≤ from → All (IsFrom low) (frames_from group metas past from tooks)
frames-low group metas past from low [] le = All-nil (IsFrom low)
frames-low group metas past from low (took ∷ tooks) le =
    All-append (IsFrom low) (list_of (frame_of_writer group metas past from took)) (frames_from group metas past (from + 1) tooks) (took-from group metas past from took low le)
    (frames-low group metas past (from + 1) low tooks (omega (arith, le)))

answer-rise : (group : GroupPart) (metas : List MetaData) (from : ℕ) (answer : Option PlacedFrame) (later : List Spelled) → All (IsFrom (from + 1)) later → AllPairs RisesTo later
    → AllPairs RisesTo (list_of (option_map (spelled_by group metas from) answer) ++ later)
answer-rise group metas from None later all rise = rise
answer-rise group metas from (Some placed) later all rise =
    AllPairs-cons RisesTo (spelled_by group metas from placed) later (λ k d below. let h = all k d below in omega (arith, h)) rise

pub frames-rise : (group : GroupPart) (metas : List MetaData) (past : List GroupDeed) (from : ℕ) (tooks : List (Option WriterTurn)) → AllPairs RisesTo (frames_from group metas past from tooks)
frames-rise group metas past from [] = λ i j d less below. absurd (omega (arith, below))
frames-rise group metas past from (None ∷ tooks) = frames-rise group metas past (from + 1) tooks
frames-rise group metas past from (Some turn ∷ tooks) =
    answer-rise group metas from (answer_of group past from turn) (frames_from group metas past (from + 1) tooks) (frames-low group metas past (from + 1) (from + 1) tooks (omega arith)) (frames-rise group metas past (from + 1) tooks)
