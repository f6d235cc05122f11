use Rattle.std.proofs.Common.{[], ◌++◌, Option, append-nil, sym, ap, ◌∙◌}
use Rattle.ps_script.specs.declared.script.Act.{Act}
use Rattle.ps_script.specs.Past.{done_by}
use Rattle.ps_script.specs.Acts.{with_act}
use Rattle.ps_script.proofs.Heads.{wrote_one, idle_faultless, idle_after, idle_act}
use Rattle.ps_script.proofs.lines.Reading.read.Goals as goal

pub returns-then-is_idle_line-clause-steps : goal.returns-then-is_idle_line-clause-steps
returns-then-is_idle_line-clause-steps c = λ reader.
    let idle = sym c.is_idle_line.ensures ∙ c.if-is_idle_line.true in
    (idle_faultless reader c.args.given.now.config.now c.args.given.now.takes_fates (done_by c.args.self.now.past) c.args.line.now idle, idle_after c.args.given.now.config.now (done_by c.args.self.now.past) c.args.line.now idle)

pub returns-then-is_idle_line-clause-lines : goal.returns-then-is_idle_line-clause-lines
returns-then-is_idle_line-clause-lines c = λ reader.
    let idle = sym c.is_idle_line.ensures ∙ c.if-is_idle_line.true in
    let none = idle_act reader c.args.given.now.config.now c.args.self.now.past.metas.items c.args.line.now idle in
    sym (append-nil c.args.self.now.lines.items) ∙ ap (λ (found : Option Act). c.args.self.now.lines.items ++ with_act c.args.number found []) (sym none)

pub sound_write-requires-clause-empty : goal.sound_write-requires-clause-empty
sound_write-requires-clause-empty c = record { of = c.empty-patch.ensures.of; empty = c.empty-patch.ensures.empty }

pub returns-clause-steps : goal.returns-clause-steps
returns-clause-steps c = λ reader.
    let sound = c.in-Some.ensures.sound reader c.args.given.now.config.now c.args.given.now.takes_fates in
    (sound.faultless, wrote_one c.args.given.now.config.now (done_by c.args.self.now.past) c.args.line.now sound.is_write)

pub returns-clause-lines : goal.returns-clause-lines
returns-clause-lines c = λ reader.
    let sound = c.in-Some.ensures.sound reader c.args.given.now.config.now c.args.given.now.takes_fates in
    c.in_ok-push.ensures.items ∙ ap (λ (found : Option Act). c.args.self.now.lines.items ++ with_act c.args.number found []) (sym sound.acts)
