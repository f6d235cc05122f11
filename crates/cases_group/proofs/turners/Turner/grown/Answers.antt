use Rattle.std.proofs.Common.{◌≡◌, sym, ap, ◌∙◌, length, arith}
use Rattle.writer_group.specs.Standing.{metas_for}
use Rattle.cases_group.proofs.Longer.{grown-own, grown-others}
use Rattle.cases_group.proofs.turners.Turner.grown.Goals as goal

pub returns-then-writes_none : goal.returns-then-writes_none
returns-then-writes_none c =
    grown-others c.args.config.now c.args._old.now c.args.new.now c.args.self c.args.set c.requires.turner c.requires.grows
    (sym c.lacks_room.ensures ∙ c.if-lacks_room.false) (c.writes_none.ensures c.if-writes_none.true)

pub returns : goal.returns
returns c =
    let turner = c.args.self in
    let part = turner.part.now in
    let config = c.args.config.now in
    let old = c.args._old.now in
    let new = c.args.new.now in
    let one = ap length c.as_slice.ensures in
    let writers = c.requires.turner.made.writers in
    grown-own config old new turner c.refresh.new.self c.args.set c.requires.turner c.requires.grows (sym c.lacks_room.ensures ∙ c.if-lacks_room.false)
    (sym c.is_fixed.ensures ∙ c.if-is_fixed.false) c.refresh.ensures.index (c.refresh.ensures.made config part)
    (c.refresh.ensures.goes_on (metas_for part old) (metas_for part new) part turner.left (λ writer within other. absurd (other (omega (arith, within, one, writers)))))
