use Rattle.std.proofs.Common.{◌≡◌, ◌<◌, List, Bool, true, length, get_or, sym, subst, ap, ◌∙◌, arith}
use Rattle.std.proofs.lemmas.List.{length-replicate}
use Rattle.dataset_meta.specs.Metas.{MetaData}
use Rattle.version_cell.specs.Sets.{ArePassesOf}
use Rattle.ps_config.specs.declared.parts.GroupPart.{GroupPart}
use Rattle.ps_config.specs.declared.parts.WriterPart.{WriterPart}
use Rattle.ps_config.specs.Headers.{is_secured}
use Rattle.example_publisher.proofs.Planting.{all-hands, bank-of-set, is-secured, new-group, one-bank}
use Rattle.example_publisher.proofs.making.plant_of.Goals as goal

pub mark-requires-clause-hands : goal.mark-requires-clause-hands
mark-requires-clause-hands g c =
    let bank = c.in_ok-bank.bank in
    let config = c.args.config.now in
    let meta = c.meta-item.result in
    let short : length c.as_slice.result.now ≡ 1 = omega arith in
    let one : length config.dataset ≡ 1 = ap (λ (l : List MetaData). length l) (sym c.as_slice.ensures) ∙ short in
    let is : meta ≡ get_or config.dataset 0 meta = rw c.as_slice.ensures at c.meta-item.is in
    let whole = one-bank bank config.dataset meta c.in_ok-bank.ensures.cells (c.in_ok-bank.ensures.metas ∙ c.as_slice-4.ensures) one is in
    all-hands bank c.in_ok-bank.hands.items whole.one c.in_ok-bank.ensures.hands

pub returns : goal.returns
returns g c =
    let bank = c.in_ok-bank.bank in
    let config = c.args.config.now in
    let meta = c.meta-item.result in
    let part = c.part-item.result in
    let short : length c.as_slice.result.now ≡ 1 = omega arith in
    let one : length config.dataset ≡ 1 = ap (λ (l : List MetaData). length l) (sym c.as_slice.ensures) ∙ short in
    let is : meta ≡ get_or config.dataset 0 meta = rw c.as_slice.ensures at c.meta-item.is in
    let bank_is = one-bank bank config.dataset meta c.in_ok-bank.ensures.cells (c.in_ok-bank.ensures.metas ∙ c.as_slice-4.ensures) one is in
    let few : length c.as_slice-2.result.now ≡ 1 = omega arith in
    let groups : length config.group ≡ 1 = ap (λ (l : List GroupPart). length l) (sym c.as_slice-2.ensures) ∙ few in
    let there : 0 < length config.group = omega (arith, groups) in
    let part_is : part ≡ get_or config.group 0 part = rw c.as_slice-2.ensures at c.part-item.is in
    let secured : is_secured part.security ≡ true = is-secured config part c.in-Some.keygroup c.requires.good there part_is c.in-Some.is in
    let on : length c.in_ok-vec.field-0.items ≡ length part.writer =
    ap (λ (l : List Bool). length l) (c.in_ok-vec.ensures.items_if_clones_equal (λ y is. is)) ∙ length-replicate {A = Bool} (length c.as_slice-5.result.now) true
    ∙ ap (λ (l : List WriterPart). length l) c.as_slice-5.ensures in
    record {
      plant = record {
        bank_is = bank_is;
        workers_are = c.in_ok-workers.ensures.workers;
        device_is = record {
          good = c.requires.good;
          first = c.in_ok-lasting.ensures.index;
          there = there;
          one_set = one;
          bank_is = bank-of-set bank config.dataset meta one is bank_is;
          group_is = new-group config c.args.turns (length c.in_ok-vec.field-0.items) c.in_ok-lasting.field-0 part there part_is c.in_ok-lasting.ensures.made c.in_ok-lasting.ensures.goes_on secured on;
          sender_is = c.in_ok-sender.ensures.sender;
          reserved = c.in_ok-sender.ensures.reserved;
          own = subst (ArePassesOf bank) (sym c.passes.view_is) c.in_ok-bank.ensures.own;
          out_is = c.in_ok-new.ensures.reserved;
        };
      };
    }
