use Rattle.std.proofs.Common.{◌≡◌, ◌∙◌, refl, sym, ◌+◌, ◌-◌, length, arith, ◌∷◌, true, false}
use Rattle.chunker.specs.Chunks.{cover}
use Rattle.chunker.specs.Joining.{chunk_of}
use Rattle.chunker.proofs.JoinerLaws.{HasLaid-laid, HasLaid-full}
use Rattle.chunker.proofs.joiner.Joiner.lay.Goals as goal

pub returns-then-is_whole-clause-case : goal.returns-then-is_whole-clause-case
returns-then-is_whole-clause-case c =
    λ kept has.
    let more = HasLaid-laid c.args.number c.args.offset c.args.total (c.args.offset + length c.args.part.now - c.args.offset) c.args.part.now c.copy_from_slice.new.self kept.chunks
    c.args.self.now.cover c.mark.new.words c.args.self.now.bytes (omega arith) (omega arith) c.copy_from_slice.ensures.after c.mark.ensures has in
    let whole = c.is_full-is_whole.ensures ∙ HasLaid-full c.args.number c.args.total _ c.mark.new.words _ more in
    (record { current_is = refl; whole_is = whole; has = more }, let covered : cover (chunk_of c.args.number c.args.offset c.args.total c.args.part.now ∷ kept.chunks) c.args.number c.args.total ≡ true = sym whole ∙ c.if-is_whole.true in rw covered refl)

pub returns-else-is_whole-clause-case : goal.returns-else-is_whole-clause-case
returns-else-is_whole-clause-case c =
    λ kept has.
    let more = HasLaid-laid c.args.number c.args.offset c.args.total (c.args.offset + length c.args.part.now - c.args.offset) c.args.part.now c.copy_from_slice.new.self kept.chunks
    c.args.self.now.cover c.mark.new.words c.args.self.now.bytes (omega arith) (omega arith) c.copy_from_slice.ensures.after c.mark.ensures has in
    let whole = c.is_full-is_whole.ensures ∙ HasLaid-full c.args.number c.args.total _ c.mark.new.words _ more in
    (record { current_is = refl; whole_is = whole; has = more }, let covered : cover (chunk_of c.args.number c.args.offset c.args.total c.args.part.now ∷ kept.chunks) c.args.number c.args.total ≡ false = sym whole ∙ c.if-is_whole.false in rw covered refl)
