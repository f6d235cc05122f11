-- The frames of a turn in their bytes.
use Rattle.std.proofs.Common.{◌≡◌, ℕ, ◌≤◌, Bool, List, [], length, sym, ap, subst, ◌∙◌, arith}
use Rattle.std.specs.Vec.{with_items}
use Rattle.std.proofs.lemmas.List.{with_items_is}
use Rattle.dataset_meta.specs.Metas.{MetaData}
use Rattle.ps_config.specs.declared.parts.GroupPart.{GroupPart}
use Rattle.writer_group.specs.declared.datagrams.Datagrams.{Datagrams}
use Rattle.writer_group.specs.declared.spelled.Frames.{Frames}
use Rattle.writer_group.specs.Answering.{AreAnswers}
use Rattle.writer_group.specs.Holding.{AreSpelledIn, frames_at, listed}
use Rattle.writer_group.specs.Making.{AreSpelled, spelled_in}
use Rattle.writer_group.specs.Standing.{KeepsRoom}

-- the datagrams of a turn once its frames are spelled, and nothing else was done
abbrev pub spelled_out : Datagrams → List ℕ → Frames → Datagrams
spelled_out cleared bytes frames = record cleared { spelled = with_items cleared.spelled bytes; frames = frames }

pub record WereSpelled (part : GroupPart) (metas : List MetaData) (on : List Bool) (cleared : Datagrams) (bytes : List ℕ) (frames : Frames) : Type 0 where
  pub no_loads : cleared.loads.items ≡ []
  pub no_ranges : cleared.ranges.items ≡ []
  pub long : length bytes ≡ length cleared.spelled.items
  pub on_are : length on ≡ length part.writer
  pub few : length (listed frames) ≤ length on
  pub spelled : AreSpelledIn bytes frames
  pub answers : AreAnswers part metas (length part.writer) (frames_at bytes frames)

bytes-out : (part : GroupPart) (metas : List MetaData) (on : List Bool) (cleared : Datagrams) (bytes : List ℕ) (frames : Frames)
    → WereSpelled part metas on cleared bytes frames → (with_items cleared.spelled bytes).items ≡ bytes
bytes-out part metas on cleared bytes frames were = with_items_is cleared.spelled bytes (were.long ∙ sym cleared.spelled.ok.0)

pub spelled-out : (part : GroupPart) (metas : List MetaData) (on : List Bool) (cleared : Datagrams) (bytes : List ℕ) (frames : Frames)
    → WereSpelled part metas on cleared bytes frames → spelled_in (spelled_out cleared bytes frames) ≡ frames_at bytes frames
spelled-out part metas on cleared bytes frames were =
    ap (λ (l : List ℕ). frames_at l frames) (bytes-out part metas on cleared bytes frames were)

pub are-spelled : (part : GroupPart) (metas : List MetaData) (on : List Bool) (cleared : Datagrams) (bytes : List ℕ) (frames : Frames)
    → WereSpelled part metas on cleared bytes frames → AreSpelled part metas (spelled_out cleared bytes frames)
are-spelled part metas on cleared bytes frames were =
    record {
      no_loads = were.no_loads;
      no_ranges = were.no_ranges;
      spelled = subst (λ (l : List ℕ). AreSpelledIn l frames) (sym (bytes-out part metas on cleared bytes frames were)) were.spelled;
      few = omega (arith, were.few, were.on_are);
      answers = subst (AreAnswers part metas (length part.writer)) (sym (spelled-out part metas on cleared bytes frames were)) were.answers;
    }

pub spelled-room : (cleared : Datagrams) (bytes : List ℕ) (frames : Frames) → KeepsRoom cleared (spelled_out cleared bytes frames)
spelled-room cleared bytes frames need has = record {
  within = record { frames = has.within.frames; bytes = has.within.bytes; ranges = has.within.ranges };
  frames = has.frames;
  bytes = has.bytes;
  loads = has.loads;
  ranges = has.ranges;
}
