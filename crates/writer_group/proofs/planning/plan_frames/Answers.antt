use Rattle.std.proofs.Common.{List, length, sym, ap, ◌++◌, ◌∷◌, [], ◌∙◌, arith}
use Rattle.writer_group.specs.declared.load.Load.{Load}
use Rattle.writer_group.specs.declared.load.Load.TheVariants.{Frames}
use Rattle.writer_group.proofs.PackLoads.{nothing-planned}
use Rattle.writer_group.proofs.planning.plan_frames.Goals as goal

pub returns-then-is_empty-clause-planned : goal.returns-then-is_empty-clause-planned
returns-then-is_empty-clause-planned c = nothing-planned _ _ c.args.sizes.now c.args.loads.now.items c.requires.empty (sym c.is_empty.ensures ∙ c.if-is_empty.true)

pub push_load-requires : goal.push_load-requires
push_load-requires c =
    omega (
      arith,
      ap length (c.fits_alone.ensures c.if-fits_alone.true c.args.rooms.chunk),
      ap length c.requires.empty,
      c.args.loads.now.ok.0,
      c.requires.left,
    )

pub returns-then-fits_alone-clause-planned : goal.returns-then-fits_alone-clause-planned
returns-then-fits_alone-clause-planned c =
    c.push_load.ensures.pushed ∙ ap (λ (l : List Load). l ++ Frames 0 1 ∷ []) c.requires.empty
    ∙ sym (c.fits_alone.ensures c.if-fits_alone.true c.args.rooms.chunk)
