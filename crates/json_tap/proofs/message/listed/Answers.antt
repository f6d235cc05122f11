use Rattle.std.proofs.Common.{◌∙◌, ap, sym, subst, refl, List, Option, map}
use Rattle.std.specs.Prelude.{IfOk}
use Rattle.std.proofs.lemmas.Bool.{false≢true}
use Rattle.payload_layout.specs.Payloads.{frame_at}
use Rattle.json_frames.specs.Parts.{Part}
use Rattle.json_tap.specs.Parts.{ArePartsIf}
use Rattle.json_tap.proofs.Listed.{places-count, listed-found, listed-refused}
use Rattle.json_tap.proofs.message.listed.Goals as goal

pub parts_at-requires-clause-count : goal.parts_at-requires-clause-count
parts_at-requires-clause-count c =
    places-count c.args.ids.now c.args.payload.now c.as_slice.result.now c.requires.1 (ap (map (frame_at c.args.payload.now)) c.as_slice.ensures.value ∙ c.in-Ok.ensures.frames)

pub returns-in-Ok : goal.returns-in-Ok
returns-in-Ok c =
    let found = listed-found c.args.config.now c.args.ids.now c.args.payload.now c.as_slice.result.now (λ bad. false≢true (c.in-Ok.ensures.refused.1 bad)) (ap (map (frame_at c.args.payload.now)) c.as_slice.ensures.value ∙ c.in-Ok.ensures.frames) in
    subst (λ (read : Option (List Part)). IfOk c.parts_at.result (λ found. ArePartsIf c.args.config.now found read)) (sym found) c.parts_at.ensures

pub returns-in-Err : goal.returns-in-Err
returns-in-Err c = listed-refused c.args.config.now c.args.ids.now c.args.payload.now (c.in-Err.ensures.refused.0 refl)
