use Rattle.std.proofs.Common.{◌≡◌, ◌+◌, ◌<◌, List, ◌∷◌, [], ◌++◌, length, map, take, sym, ap, subst, ◌∙◌, arith}
use Rattle.std.proofs.lemmas.List.{map-append}
use Rattle.std.proofs.lemmas.List.Elements.{All-push}
use Rattle.std.specs.List.{All}
use Rattle.serde_json.specs.Data.{Data}
use Rattle.serde_json.specs.View.{view, items_of}
use Rattle.json_frames.specs.declared.message.JsonPart.{JsonPart}
use Rattle.json_frames.specs.Parts.{Part, IsPartOf, part_in, parts_in}
use Rattle.json_frames.specs.Reading.{ReadAs}
use Rattle.json_frames.proofs.PartsRead.{read_other, read_part, read_bad, one_more, part_of}
use Rattle.json_frames.proofs.document.read_parts.Goals as goal
use Rattle.json_frames.proofs.document.read_parts.Goals.{in-Other, in-Gives+in_ok-push-in-Gives, in-Bad}

pub loop-json-preserved : goal.loop-json-preserved
loop-json-preserved c =
    let metas = c.args.metas.now in
    let sets = c.args.sets.now in
    let vs = c.args.messages.now in
    let i = c.loop-json.json-index in
    let v = c.json-item.result in
    let old = c.loop-json.parts.items in
    let done = map view (take i vs) in
    let inv = c.loop-json.invariant in
    let inside : i < length vs = c.loop-json-test.true in
    let cut : map view (take (i + 1) vs) ≡ done ++ view v ∷ [] = one_more vs i v inside c.json-item.is in
    elim c.match-read_element.branch [
      | in-Other w ↦ (
        inv.0,
        w.bad-is ∙ inv.1,
        subst (λ (l : List Data). ReadAs metas sets (items_of l) (parts_in metas c.match-read_element.parts.items) inv.0) (sym cut)
            (subst (λ (ps : List JsonPart). ReadAs metas sets (items_of (done ++ view v ∷ [])) (parts_in metas ps) inv.0) (sym (ap (λ x. x.items) w.parts-is))
            (read_other metas sets done (view v) (parts_in metas old) inv.0 inv.2 w.in-Other.ensures)),
        subst (λ (ps : List JsonPart). All (IsPartOf metas) ps) (sym (ap (λ x. x.items) w.parts-is)) inv.3,
      )
      | in-Gives+in_ok-push-in-Gives w ↦
          let same : parts_in metas c.match-read_element.parts.items ≡ parts_in metas old ++ part_in metas w.in-Gives.part ∷ [] =
          ap (λ x. parts_in metas x.items) w.parts-is ∙ ap (parts_in metas) w.in_ok-push-in-Gives.ensures.items ∙ map-append (part_in metas) old (w.in-Gives.part ∷ []) in (
            inv.0,
            w.bad-is ∙ inv.1,
            subst (λ (l : List Data). ReadAs metas sets (items_of l) (parts_in metas c.match-read_element.parts.items) inv.0) (sym cut)
                (subst (λ (ps : List Part). ReadAs metas sets (items_of (done ++ view v ∷ [])) ps inv.0) (sym same)
                (read_part metas sets done (view v) (parts_in metas old) inv.0 (part_in metas w.in-Gives.part) inv.2 w.in-Gives.ensures.0)),
            subst (λ (ps : List JsonPart). All (IsPartOf metas) ps) (sym (ap (λ x. x.items) w.parts-is ∙ w.in_ok-push-in-Gives.ensures.items))
                (All-push (IsPartOf metas) old w.in-Gives.part inv.3 (part_of metas sets (view v) w.in-Gives.part c.requires w.in-Gives.ensures.0 w.in-Gives.ensures.1)),
          )
      | in-Bad w ↦ (
        inv.0 + 1,
        omega (arith, w.bad-is, w.saturating_add-bad.ensures, inv.1),
        subst (λ (l : List Data). ReadAs metas sets (items_of l) (parts_in metas c.match-read_element.parts.items) (inv.0 + 1)) (sym cut)
            (subst (λ (ps : List JsonPart). ReadAs metas sets (items_of (done ++ view v ∷ [])) (parts_in metas ps) (inv.0 + 1)) (sym (ap (λ x. x.items) w.parts-is))
            (read_bad metas sets done (view v) (parts_in metas old) inv.0 inv.2 w.in-Bad.ensures)),
        subst (λ (ps : List JsonPart). All (IsPartOf metas) ps) (sym (ap (λ x. x.items) w.parts-is)) inv.3,
      )
    ]
