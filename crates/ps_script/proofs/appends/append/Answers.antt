use Rattle.std.proofs.Common.{◌≡◌, ◌<◌, Some, None, slice_get, length, refl, sym, ap, ◌∙◌, subst}
use Rattle.std.specs.List.{list_any}
use Rattle.std.proofs.lemmas.Option.{slice_get_read}
use Rattle.ps_config.specs.Rooms.{lacks_room}
use Rattle.ps_script.specs.Texts.{word}
use Rattle.ps_script.specs.Names.{set_named}
use Rattle.ps_script.specs.Past.{done_by}
use Rattle.ps_script.specs.Faults.{IsGrowth}
use Rattle.ps_script.proofs.Growth.{unknown_appends, unfit_appends, mute_appends, room_appends}
use Rattle.ps_script.proofs.appends.append.Goals as goal

pub returns-in_default-clause-appends : goal.returns-in_default-clause-appends
returns-in_default-clause-appends c =
    let named : set_named c.args.past.now.metas.items (word 1 c.args.line.now) ≡ None = cc in
    unknown_appends c.args.config.now (done_by c.args.past.now) _ c.args.line.now named refl

pub returns-in_default-2-clause-appends : goal.returns-in_default-2-clause-appends
returns-in_default-2-clause-appends c =
    let named : set_named c.args.past.now.metas.items (word 1 c.args.line.now) ≡ Some c.in-Some.set = cc in
    let lt : c.in-Some.set < length c.args.past.now.metas.items = subst (λ xs. c.in-Some.set < length xs) c.deref.ensures.value c.in-Some.ensures.bound in
    let found : slice_get c.args.past.now.metas.items c.in-Some.set ≡ Some c.index.result.now = slice_get_read c.args.past.now.metas.items (length c.args.past.now.metas.items) c.in-Some.set c.index.result.now refl lt c.index.ensures in
    unfit_appends c.args.config.now (done_by c.args.past.now) _ c.args.line.now c.in-Some.set c.index.result.now named found (subst (IsGrowth c.index.result.now c.args.line.now) c.in_default-2.is c.in_ok-meta.ensures)

pub returns-then-has_mute_writer-clause-appends : goal.returns-then-has_mute_writer-clause-appends
returns-then-has_mute_writer-clause-appends c =
    let named : set_named c.args.past.now.metas.items (word 1 c.args.line.now) ≡ Some c.in-Some.set = cc in
    let lt : c.in-Some.set < length c.args.past.now.metas.items = subst (λ xs. c.in-Some.set < length xs) c.deref.ensures.value c.in-Some.ensures.bound in
    let found : slice_get c.args.past.now.metas.items c.in-Some.set ≡ Some c.index.result.now = slice_get_read c.args.past.now.metas.items (length c.args.past.now.metas.items) c.in-Some.set c.index.result.now refl lt c.index.ensures in
    let growth = subst (IsGrowth c.index.result.now c.args.line.now) c.in-Some-2.is c.in_ok-meta.ensures in
    mute_appends c.args.config.now (done_by c.args.past.now) _ c.args.line.now c.in-Some.set c.index.result.now c.in-Some-2.meta c.has_mute_writer.result named found growth.0 growth.1 refl c.has_mute_writer.ensures c.if-has_mute_writer.true

pub returns-else-has_mute_writer-clause-appends : goal.returns-else-has_mute_writer-clause-appends
returns-else-has_mute_writer-clause-appends c =
    let named : set_named c.args.past.now.metas.items (word 1 c.args.line.now) ≡ Some c.in-Some.set = ap (set_named c.args.past.now.metas.items) (sym c.word.ensures) ∙ ap (λ xs. set_named xs c.word.result.now) (sym c.deref.ensures.value) ∙ sym c.in-Some.ensures.place in
    let lt : c.in-Some.set < length c.args.past.now.metas.items = subst (λ xs. c.in-Some.set < length xs) c.deref.ensures.value c.in-Some.ensures.bound in
    let found : slice_get c.args.past.now.metas.items c.in-Some.set ≡ Some c.index.result.now = slice_get_read c.args.past.now.metas.items (length c.args.past.now.metas.items) c.in-Some.set c.index.result.now refl lt c.index.ensures in
    let growth = subst (IsGrowth c.index.result.now c.args.line.now) c.in-Some-2.is c.in_ok-meta.ensures in
    room_appends c.args.config.now (done_by c.args.past.now) _ c.args.line.now c.in-Some.set c.index.result.now c.in-Some-2.meta c.has_mute_writer.result c.is_room_lacking.result named found growth.0 growth.1 refl c.has_mute_writer.ensures c.if-has_mute_writer.false
    (c.is_room_lacking.ensures ∙ ap (λ metas. list_any (lacks_room c.args.config.now.publisher.id metas) c.args.config.now.group) c.deref-else-has_mute_writer.ensures.value)
