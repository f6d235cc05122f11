use Rattle.std.proofs.Common.{◌≡◌, ◌<◌, ℕ, Bool, false, List, ◌∷◌, length, refl, ap, sym, ◌∙◌, subst, arith, get_or}
use Rattle.std.specs.Prelude.{fold, Vec}
use Rattle.std.specs.declared.alloc.Global.{Global}
use Rattle.std.specs.Option.{option_map_or}
use Rattle.std.specs.List.{range_with_len}
use Rattle.dataset_meta.specs.Rows.{cons_if}
use Rattle.message_guard.specs.Senders.{SenderState}
use Rattle.ps_config.specs.declared.parts.GroupPart.{GroupPart}
use Rattle.pubsub_states.specs.declared.component.Component.TheVariants.{Group}
use Rattle.writer_group.specs.declared.group.Group.{Group as GroupWords}
use Rattle.session_model.specs.Deeds.{Deed, CameTo, RefreshedBelow, is_rekeyed}
use Rattle.writer_group.specs.Parts.{group_at}
use Rattle.session_parts.specs.declared.publisher.Publisher.{Publisher}
use Rattle.session_parts.specs.Holding.{AreAllLogged, AreGroups, MayAllGoOn}
use Rattle.session_parts.specs.Standing.{HavePast, HaveSent}
use Rattle.session_parts.proofs.Coming.{rekeyed-is, turned-sent}
use Rattle.session_parts.proofs.Counting.{fold-more}
use Rattle.session_parts.proofs.Few.{key-there}
use Rattle.session_parts.proofs.publisher.Publisher.come_to.Goals as goal

pub loop-g-init : goal.loop-g-init
loop-g-init c =
    let same : c.turn_senders-is_changed.new.self.groups ≡ c.args.self.now.groups = ap (λ (p : Publisher). p.groups) c.turn_senders-is_changed.ensures.rest in
    record {
      groups = subst (λ (v : Vec GroupWords Global). AreGroups c.args.config.now v.items) (sym same) c.requires.holds.groups;
      past = λ metas deeds sent past. subst (λ (v : Vec GroupWords Global). HavePast c.args.config.now metas deeds v.items) (sym same) past;
      goes_on = λ metas turns may. subst (λ (v : Vec GroupWords Global). MayAllGoOn c.args.config.now metas turns v.items) (sym same) may;
      logs = λ most all. subst (λ (v : Vec GroupWords Global). AreAllLogged most v.items) (sym same) all;
      rest = refl;
    }

pub loop-g-preserved : goal.loop-g-preserved
loop-g-preserved c =
    let e = c.refresh_if.ensures in
    let config = c.args.config.now in
    let inv = c.loop-g.invariant in
    let same : c.turn_senders-is_changed.new.self.groups ≡ c.args.self.now.groups = ap (λ (p : Publisher). p.groups) c.turn_senders-is_changed.ensures.rest in
    let low : c.loop-g.g < length config.group = omega (arith, c.loop-g-test.true, c.len-g-end.ensures, ap (λ (v : Vec GroupWords Global). v.len) same, c.args.self.now.groups.ok.0, c.requires.holds.groups.count) in
    record {
      groups = e.groups;
      past = λ metas deeds sent past.
          let so_far = fold (λ so_far g. cons_if (is_rekeyed config c.args.moment deeds g) (RefreshedBelow (Group g)) so_far) (CameTo c.args.moment ∷ deeds) (range_with_len 0 c.loop-g.g) in
          let is : c.is_rekeyed-is_new.result ≡ is_rekeyed config c.args.moment deeds c.loop-g.g
          = c.is_rekeyed-is_new.ensures
          ∙ ap (λ (p : GroupPart). option_map_or (λ k. get_or c.turn_senders-is_changed.result k false) p.keygroup false) c.group_part.ensures
          ∙ rekeyed-is config c.args.moment c.loop-g.g deeds c.args.self.now.senders.items c.turn_senders-is_changed.new.self.senders.items c.turn_senders-is_changed.result
          (group_at config c.loop-g.g).keygroup refl (key-there config c.loop-g.g c.requires.good low) c.requires.holds.senders.count c.turn_senders-is_changed.ensures.each sent in
          subst (λ (l : List Deed). HavePast config metas l c.refresh_if.new.self.groups.items)
          (ap (λ (b : Bool). cons_if b (RefreshedBelow (Group c.loop-g.g)) so_far) is
          ∙ sym (fold-more (λ so_far g. cons_if (is_rekeyed config c.args.moment deeds g) (RefreshedBelow (Group g)) so_far) (CameTo c.args.moment ∷ deeds) c.loop-g.g))
          (e.past metas so_far (inv.past metas deeds sent past));
      goes_on = λ metas turns may. e.goes_on metas turns (inv.goes_on metas turns may);
      logs = λ most all. e.logs most (inv.logs most all);
      rest = e.rest ∙ ap (λ (p : Publisher). record p { groups = c.refresh_if.new.self.groups }) inv.rest;
    }

pub returns-clause-past : goal.returns-clause-past
returns-clause-past c =
    λ metas deeds sent past.
    let config = c.args.config.now in
    let same : c.turn_senders-is_changed.new.self.groups ≡ c.args.self.now.groups = ap (λ (p : Publisher). p.groups) c.turn_senders-is_changed.ensures.rest in
    let all : c.loop-g.g ≡ length config.group = omega (arith, c.loop-g-test.false, c.loop-g.auto.g-end, c.len-g-end.ensures, ap (λ (v : Vec GroupWords Global). v.len) same, c.args.self.now.groups.ok.0, c.requires.holds.groups.count) in
    subst (λ (n : ℕ). HavePast config metas
    (fold (λ so_far g. cons_if (is_rekeyed config c.args.moment deeds g) (RefreshedBelow (Group g)) so_far) (CameTo c.args.moment ∷ deeds) (range_with_len 0 n)) c.loop-g.self.groups.items) all
    (c.loop-g.invariant.past metas deeds sent past)

pub returns-clause-senders : goal.returns-clause-senders
returns-clause-senders c =
    λ deeds sent.
    let config = c.args.config.now in
    let same : c.loop-g.self.senders ≡ c.turn_senders-is_changed.new.self.senders = ap (λ (p : Publisher). p.senders) c.loop-g.invariant.rest in
    subst (λ (v : Vec SenderState Global). HaveSent config
    (fold (λ so_far g. cons_if (is_rekeyed config c.args.moment deeds g) (RefreshedBelow (Group g)) so_far) (CameTo c.args.moment ∷ deeds) (range_with_len 0 (length config.group))) v.items) (sym same)
    (turned-sent config c.args.moment deeds c.args.self.now.senders.items c.turn_senders-is_changed.new.self.senders.items c.turn_senders-is_changed.result (is_rekeyed config c.args.moment deeds) Group
    (range_with_len 0 (length config.group)) c.requires.holds.senders.count c.turn_senders-is_changed.ensures.each sent)
