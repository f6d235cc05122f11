use Rattle.std.proofs.Common.{ℕ, false, ◌∷◌, sym, ◌∙◌, subst}
use Rattle.std.specs.Prelude.{OnOk, Result, Ok, Err}
use Rattle.ps_script.specs.declared.script.Act.{Act}
use Rattle.cmd_lanes.specs.Courses.{IsCourse, IsTicked, IsWritten, MayFollow}
use Rattle.cmd_lanes.proofs.Following.{follows-tick, follows-write}
use Rattle.cmd_lanes.proofs.course.Course.follow.Goals as goal

-- what holds of an answer that is Ok
on-ok : {T E : Type 0} (r : Result T E) {P Q : Type 0} → OnOk r P → (P → Q) → OnOk r Q
on-ok (Ok x) p f = f p
on-ok (Err x) p f = tt

pub returns-in-Write : goal.returns-in-Write
returns-in-Write c = λ lines line is was.
    let low = (subst (λ (what : Act). MayFollow c.args.metas.now what c.args.self.now) c.in-Write.is c.requires.may).there in
    subst (λ (what : Act). IsCourse c.args.metas.now (record { at = line.at; act = what } ∷ lines) c.write.new.self) (sym (is ∙ c.in-Write.is))
    (follows-write c.args.metas.now lines line.at c.args.self.now c.write.new.self was c.in-Write.thread c.in-Write.set c.in-Write.patch low
    (subst (λ (index : ℕ). IsWritten c.args.metas.now index c.in-Write.patch c.args.self.now c.write.new.self) c.from.ensures c.write.ensures))

pub returns-in-Tick : goal.returns-in-Tick
returns-in-Tick c =
    on-ok c.tick.result c.tick.ensures
    (λ ticked lines line is was.
    subst (λ (what : Act). IsCourse c.args.metas.now (record { at = line.at; act = what } ∷ lines) c.tick.new.self) (sym (is ∙ c.in-Tick.is))
    (follows-tick c.args.metas.now lines line.at c.args.self.now c.tick.new.self was c.in-Tick.ms
    (subst (λ (ms : ℕ). IsTicked ms false c.args.self.now c.tick.new.self) c.from-in-Tick.ensures ticked)))
