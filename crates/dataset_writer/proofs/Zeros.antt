-- What stands behind the words that are used of what a writer keeps.
use Rattle.std.proofs.Common.{◌≡◌, ℕ, replicate, refl, sym, subst, arith}
use Rattle.row_words.specs.declared.row.Row.{Row}
use Rattle.row_words.specs.declared.patch.Patch.{Patch}
use Rattle.key_delta.specs.Fronts.{HasZerosBehind}
use Rattle.key_delta.proofs.FrontLaws.{opening_behind}
use Rattle.frame_codec.specs.declared.frame.FrameKind.{FrameKind}
use Rattle.frame_codec.specs.declared.frame.FrameKind.TheVariants as kinds
use Rattle.dataset_writer.specs.declared.sends.Sends.{Sends}
use Rattle.dataset_writer.specs.Kinds.{words_of_kind}
use Rattle.dataset_writer.specs.Sends.{EndsInZeros}

-- the row of a key frame, the patch of a delta frame, nothing in a keep-alive
pub whole_behind : (used : ℕ) (kind : FrameKind) (row : Row) → kind ≡ kinds.Whole row → HasZerosBehind used row.words → HasZerosBehind used (words_of_kind kind)
whole_behind used kind row is behind = subst (λ (k : FrameKind). HasZerosBehind used (words_of_kind k)) (sym is) behind

pub change_behind : (used : ℕ) (kind : FrameKind) (patch : Patch) → kind ≡ kinds.Change patch → HasZerosBehind used patch.row.words → HasZerosBehind used (words_of_kind kind)
change_behind used kind patch is behind = subst (λ (k : FrameKind). HasZerosBehind used (words_of_kind k)) (sym is) behind

-- what is kept, after a frame was sent
pub data_ends : (old new : Sends) (row : Row) → EndsInZeros old → HasZerosBehind old.used row.words → new.used ≡ old.used → new.row ≡ row → new.frame.kind ≡ old.frame.kind → EndsInZeros new
data_ends old new row ends behind used is kind =
    let rows : HasZerosBehind new.used new.row.words = subst (λ (n : ℕ). HasZerosBehind n new.row.words) (sym used) (subst (λ (r : Row). HasZerosBehind old.used r.words) (sym is) behind) in
    let frames : HasZerosBehind new.used (words_of_kind new.frame.kind) =
    subst (λ (n : ℕ). HasZerosBehind n (words_of_kind new.frame.kind)) (sym used) (subst (λ (k : FrameKind). HasZerosBehind old.used (words_of_kind k)) (sym kind) ends.frame) in
    record { narrow = omega (arith, used, ends.narrow); row = rows; frame = frames }

pub alive_ends : (old new : Sends) → EndsInZeros old → new.used ≡ old.used → new.row ≡ old.row → new.frame.kind ≡ kinds.Alive → EndsInZeros new
alive_ends old new ends used is kind =
    let rows : HasZerosBehind new.used new.row.words = subst (λ (n : ℕ). HasZerosBehind n new.row.words) (sym used) (subst (λ (r : Row). HasZerosBehind old.used r.words) (sym is) ends.row) in
    let frames : HasZerosBehind new.used (words_of_kind new.frame.kind) =
    subst (λ (k : FrameKind). HasZerosBehind new.used (words_of_kind k)) (sym kind) (opening_behind new.used (replicate 125 0) refl) in
    record { narrow = omega (arith, used, ends.narrow); row = rows; frame = frames }
