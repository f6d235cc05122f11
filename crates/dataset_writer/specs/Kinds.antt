-- The words of the rows in frames.
use Rattle.std.specs.Prelude.{ℕ, List, replicate}
use Rattle.frame_codec.specs.declared.frame.FrameKind.{FrameKind}
use Rattle.frame_codec.specs.declared.frame.FrameKind.TheVariants.{Whole, Change, Alive}

-- the words of the row of a frame, or of its patch; zeros where it has neither
abbrev pub words_of_kind : FrameKind → List ℕ
words_of_kind (Whole row) = row.words
words_of_kind (Change patch) = patch.row.words
words_of_kind Alive = replicate 125 0
