use Rattle.std.proofs.Common.{◌<◌, ◌≤◌, List, length, rules, sym, ap, arith}
use Rattle.std.proofs.lemmas.Bool.{ltb-true, ltb-false}
use Rattle.dataset_meta.specs.declared.field.Field.{Field}
use Rattle.ua_binary.specs.Reading.{HasRead, number_at, short}
use Rattle.std.specs.Int.{w16}
use Rattle.row_words.specs.Patches.{patch_in}
use Rattle.frame_codec.proofs.Setting.{change_put, change_surplus, change_past}
use Rattle.frame_codec.proofs.content.read_change.Goals as goal

pub returns-in-Some-clause-answer : goal.returns-in-Some-clause-answer
returns-in-Some-clause-answer c =
    let number : HasRead c.in_ok-index.index c.args.cursor.now c.read_u16.new.self (number_at short w16) = search rules in
    let within : c.in_ok-index.index < length c.args.meta.now.fields = (omega (arith, ltb-true c.from.result (length c.fields.result.now) (sym c.in-Some.ensures.lookup.0), c.from.ensures, ap (λ (l : List Field). length l) c.fields.ensures.fields)) in
    change_put c.args.meta.now c.args.newer c.args.encoding c.in_ok-index.index (patch_in c.args.meta.now.fields c.args.patch.now) _ short c.args.cursor.now c.read_u16.new.self _ c.read_put.result number within c.read_put.ensures.answer

pub returns-in-None-clause-answer : goal.returns-in-None-clause-answer
returns-in-None-clause-answer c =
    let number : HasRead c.in_ok-index.index c.args.cursor.now c.read_u16.new.self (number_at short w16) = search rules in
    let past : length c.args.meta.now.fields ≤ c.in_ok-index.index = (omega (arith, ltb-false c.from.result (length c.fields.result.now) (sym c.in-None.ensures.lookup.0), c.from.ensures, ap (λ (l : List Field). length l) c.fields.ensures.fields)) in
    change_surplus c.args.meta.now c.args.newer c.args.encoding c.in_ok-index.index (patch_in c.args.meta.now.fields c.args.patch.now) short c.args.cursor.now c.read_u16.new.self _ c.read_surplus.result number past c.if-newer.true c.read_surplus.ensures

pub returns-in-None-2-clause-answer : goal.returns-in-None-2-clause-answer
returns-in-None-2-clause-answer c =
    let number : HasRead c.in_ok-index.index c.args.cursor.now c.read_u16.new.self (number_at short w16) = search rules in
    let past : length c.args.meta.now.fields ≤ c.in_ok-index.index = (omega (arith, ltb-false c.from.result (length c.fields.result.now) (sym c.in-None-2.ensures.lookup.0), c.from.ensures, ap (λ (l : List Field). length l) c.fields.ensures.fields)) in
    change_past c.args.meta.now c.args.newer c.args.encoding c.in_ok-index.index (patch_in c.args.meta.now.fields c.args.patch.now) short c.args.cursor.now c.read_u16.new.self number past c.if-newer.false
