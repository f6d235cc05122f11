use Rattle.std.proofs.Common.{ℕ, List, length, sym, subst, ap, ◌∙◌, arith}
use Rattle.std.specs.List.{AllZip}
use Rattle.dataset_meta.specs.Metas.{MetaData}
use Rattle.ps_config.specs.declared.parts.KeyGroupPart.{KeyGroupPart}
use Rattle.writer_group.specs.Standing.{AreRowsOf}
use Rattle.device.specs.Sides.{IsConfiguredRing, IsOpeningSender}
use Rattle.device.proofs.Placing.{placed-opening}
use Rattle.device.proofs.Rings.{rings-opening}
use Rattle.device.proofs.publisher.publisher_of.Goals as goal

pub returns-clause-publisher : goal.returns-clause-publisher
returns-clause-publisher c =
    let senders = c.in_ok-senders.senders.items in
    let rings = c.in_ok-rings.rings.items in
    record {
      good = c.requires;
      rows_are = subst (λ (l : List MetaData). AreRowsOf l c.in_ok-rows.rows.items) c.as_slice.ensures c.in_ok-rows.ensures.rows;
      rows_count = c.in_ok-rows.ensures.count ∙ ap (λ (l : List MetaData). length l) c.as_slice.ensures;
      senders_are = c.in_ok-senders.ensures.senders;
      senders_count = c.in_ok-senders.ensures.count ∙ ap (λ (l : List KeyGroupPart). length l) c.as_slice-2.ensures;
      rings_are = rings-opening c.args.config.keygroup senders rings (subst (λ (l : List KeyGroupPart). AllZip IsOpeningSender l senders) c.as_slice-2.ensures c.in_ok-senders.ensures.opening)
          (subst (λ (l : List KeyGroupPart). AllZip IsConfiguredRing l rings) c.as_slice-3.ensures c.in_ok-rings.ensures.opening);
      sides_are = c.in_ok-sides.ensures.sides;
      places = placed-opening c.args.config c.in_ok-sides.sides.items c.in_ok-sides.ensures.opening;
      reserved = c.in_ok-out.ensures.room;
      made_is = sym (ap (λ (l : List (List ℕ)). length l) c.in_ok-out.ensures.none);
      handed_is = omega arith;
    }
