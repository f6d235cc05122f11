use Rattle.std.proofs.Common.{◌≡◌, ◌∙◌, ℕ, ◌<◌, List, [], length, get_or, refl, sym, ap, subst, append-nil}
use Rattle.std.proofs.lemmas.Result.{on_ok_weaker}
use Rattle.group_laws.specs.Matching.{IsMatchedTo}
use Rattle.ps_config.specs.declared.parts.ReadGroupPart.{ReadGroupPart}
use Rattle.reader_group.specs.Settings.{group_at as read_group_at, no_group}
use Rattle.writer_group.specs.Parts.{group_at}
use Rattle.session_laws.specs.Reading.{IsMatchedIn}
use Rattle.gateway_core.specs.Lived.{session_steps}
use Rattle.gateway_core.specs.Holding.{sources_of}
use Rattle.cmd_relay.specs.Texts.{kept_by_index, reader_line}
use Rattle.cmd_relay.proofs.Lining.{matched-text}
use Rattle.cmd_relay.proofs.Matched.{read-at}
use Rattle.cmd_relay.proofs.Origins.{sole}
use Rattle.cmd_relay.proofs.TextOf.{unmatched-text}
use Rattle.cmd_relay.proofs.text.put_reader.Goals as goal

pub returns-in-Some : goal.returns-in-Some
returns-in-Some c =
    let second = c.args.second.now in
    let r = c.args.r in
    let i = c.args.i in
    let g = c.in-Some.g in
    let w = c.in-Some.w in
    let from = sources_of c.args.gateway.now in
    let group = c.index-groups-r.result in
    let same : read_group_at second r ≡ group = read-at second.readgroup r group no_group c.requires.within (c.index-groups-r.is ∙ ap (λ (l : List ReadGroupPart). get_or l r group) c.as_slice-groups.ensures) in
    let matched : IsMatchedIn second r i g w = subst (λ (x : ReadGroupPart). IsMatchedTo second x i (group_at second g) w) (sym same) c.in-Some.ensures.reads in
    on_ok_weaker c.put_matched.result
    (λ put lived stands. (
      reader_line second (session_steps from lived) (kept_by_index from lived) r i g w,
      matched-text second (session_steps from lived) (kept_by_index from lived) r i g w (reader_line second (session_steps from lived) (kept_by_index from lived) r i g w) refl
          (λ h v low other. sole second r i g w h v c.requires.gateway.good.sound c.in-Some.ensures.matched low matched other) c.in-Some.ensures.matched matched,
      put lived stands,
    ))
    c.put_matched.ensures

pub returns-in-None : goal.returns-in-None
returns-in-None c = λ lived stands.
    let second = c.args.second.now in
    let r = c.args.r in
    let i = c.args.i in
    let from = sources_of c.args.gateway.now in
    let group = c.index-groups-r.result in
    let same : read_group_at second r ≡ group = read-at second.readgroup r group no_group c.requires.within (c.index-groups-r.is ∙ ap (λ (l : List ReadGroupPart). get_or l r group) c.as_slice-groups.ensures) in
    let none : (g w : ℕ) → g < length second.group → IsMatchedIn second r i g w → ⊥ =
    λ g w low matched. c.matched_writer.ensures.none c.in-None.is g w low (subst (λ (x : ReadGroupPart). IsMatchedTo second x i (group_at second g) w) same matched) in
    ([], unmatched-text second (session_steps from lived) (kept_by_index from lived) r i none, sym (append-nil c.args.out.now.items))
