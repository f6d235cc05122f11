use Rattle.std.proofs.Common.{◌≡◌, ◌<◌, ◌++◌, ℕ, List, length, take, get_or, sym, ap, ◌∙◌, arith}
use Rattle.payload_layout.specs.declared.packing.Pack.{Pack}
use Rattle.writer_group.specs.declared.load.Load.{Load}
use Rattle.writer_group.specs.Planning.{loads_from}
use Rattle.writer_group.proofs.PackLoads.{counted, loads_at, loads-more, loads-fewer, counted-more, pack-within}
use Rattle.writer_group.proofs.planning.plan_dynamic.Goals as goal

pub push_pack-requires-clause-first : goal.push_pack-requires-clause-first
push_pack-requires-clause-first c =
    let packs = c.plan.new.packs.items in
    let i = c.loop-index.index in
    let pack = c.pack_at-pack.result in
    let is : pack ≡ get_or packs i pack = c.pack_at-pack.ensures pack in
    let below : i < length packs = omega arith in
    let within = pack-within c.args.rooms.frame c.args.sizes.now packs i pack c.plan.ensures below in
    omega (arith, within.some, within.within, c.loop-index.invariant.first_is)

pub push_pack-requires-clause-left : goal.push_pack-requires-clause-left
push_pack-requires-clause-left c =
    let packs = c.plan.new.packs.items in
    let i = c.loop-index.index in
    let room = c.args.rooms.chunk in
    let sizes = c.args.sizes.now in
    let pack = c.pack_at-pack.result in
    let is : pack ≡ get_or packs i pack = c.pack_at-pack.ensures pack in
    let below : i < length packs = omega arith in
    let first : length (loads_at room sizes c.loop-index.first pack) ≡ length (loads_at room sizes (counted (take i packs)) pack) =
    ap (λ (n : ℕ). length (loads_at room sizes n pack)) c.loop-index.invariant.first_is in
    let same : length (loads_at room sizes (counted (take i packs)) pack) ≡ length (loads_at room sizes (counted (take i packs)) (get_or packs i pack)) =
    ap (λ (p : Pack). length (loads_at room sizes (counted (take i packs)) p)) is in
    omega (
      arith,
      first,
      same,
      loads-fewer room sizes packs i pack below,
      ap (λ (l : List Pack). length (loads_from room sizes 0 l)) c.plan.ensures,
      ap length c.loop-index.invariant.pushed,
      c.loop-index.loads.ok.0,
      c.loop-index.invariant.capacity,
      c.requires.left,
    )

pub overflow_add-first : goal.overflow_add-first
overflow_add-first c =
    let packs = c.plan.new.packs.items in
    let i = c.loop-index.index in
    let pack = c.pack_at-pack.result in
    let is : pack ≡ get_or packs i pack = c.pack_at-pack.ensures pack in
    let below : i < length packs = omega arith in
    let within = pack-within c.args.rooms.frame c.args.sizes.now packs i pack c.plan.ensures below in
    omega (arith, within.within, c.loop-index.invariant.first_is, ap (λ (p : Pack). p.count) is, c.requires.few)

pub loop-index-preserved : goal.loop-index-preserved
loop-index-preserved c =
    let packs = c.plan.new.packs.items in
    let i = c.loop-index.index in
    let room = c.args.rooms.chunk in
    let sizes = c.args.sizes.now in
    let pack = c.pack_at-pack.result in
    let is : pack ≡ get_or packs i pack = c.pack_at-pack.ensures pack in
    let below : i < length packs = omega arith in
    let so_far = loads_from room sizes 0 (take i packs) in
    record {
      pushed = c.push_pack.ensures.pushed
          ∙ ap (λ (l : List Load). l ++ loads_at room sizes c.loop-index.first pack) c.loop-index.invariant.pushed
          ∙ ap (λ (n : ℕ). so_far ++ loads_at room sizes n pack) c.loop-index.invariant.first_is
          ∙ ap (λ (p : Pack). so_far ++ loads_at room sizes (counted (take i packs)) p) is
          ∙ sym (loads-more room sizes packs i pack below);
      first_is = omega (arith, c.loop-index.invariant.first_is, counted-more packs i pack below, ap (λ (p : Pack). p.count) is);
      capacity = omega (arith, c.loop-index.invariant.capacity, c.push_pack.ensures.capacity);
    }
