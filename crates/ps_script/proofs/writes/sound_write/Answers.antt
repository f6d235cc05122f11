use Rattle.std.proofs.Common.{◌≡◌, ◌<◌, length, Some, slice_get, refl, sym, ◌∙◌, subst, arith}
use Rattle.std.proofs.lemmas.Option.{slice_get_read}
use Rattle.ps_script.specs.Past.{done_by}
use Rattle.ps_script.specs.Writes.{BeginsWrite}
use Rattle.ps_script.proofs.Heads.{sound_write}
use Rattle.ps_script.proofs.writes.sound_write.Goals as goal

pub overflow_cast-result : goal.overflow_cast-result
overflow_cast-result c =
    let there : c.in_ok-head.head.set < length c.args.past.now.metas.items = subst (λ xs. c.in_ok-head.head.set < length xs) c.deref.ensures.value c.in_ok-head.ensures.there in
    omega (arith, there, c.requires.few)

pub returns-clause-sound : goal.returns-clause-sound
returns-clause-sound c = λ reader config takes_fates.
    let metas = c.args.past.now.metas.items in
    let head = c.in_ok-head.head in
    let begins : BeginsWrite metas c.args.line.now head.thread head.set head.fields.now = subst (λ xs. BeginsWrite xs c.args.line.now head.thread head.set head.fields.now) c.deref.ensures.value c.in_ok-head.ensures in
    let found : slice_get metas head.set ≡ Some c.index.result.now = slice_get_read metas (length metas) head.set c.index.result.now refl begins.there c.index.ensures in
    sound_write reader config takes_fates (done_by c.args.past.now) c.args.line.now head.fields.now head.thread head.set c.index.result.now c.fill.new.patch
    (sym c.is_bad_text.ensures ∙ c.if-is_bad_text.false) (sym c.is_long.ensures ∙ c.if-is_long.false) (omega arith) begins found (c.fill.ensures reader c.if-not-fill.false)
