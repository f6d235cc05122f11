use Rattle.std.proofs.Common.{◌≡◌, ◌<◌, ℕ, length, get_or, ap, sym, ◌∙◌, subst, arith}
use Rattle.std.specs.Prelude.{Vec}
use Rattle.std.specs.declared.alloc.Global.{Global}
use Rattle.std.specs.Vec.{with_item}
use Rattle.std.proofs.lemmas.List.{length-set, get_or_read}
use Rattle.std.proofs.lemmas.List.FromFn.{fill_by_all}
use Rattle.dataset_meta.specs.Metas.{MetaData, HasGrown}
use Rattle.row_words.specs.Belonging.{Belongs}
use Rattle.writer_group.specs.declared.sampled.Sampled.{Sampled}
use Rattle.dataset_meta.specs.Metas.{no_meta}
use Rattle.writer_group.specs.Turns.{no_sample}
use Rattle.session_model.specs.Sets.{cut_sample, meta_in}
use Rattle.pubsub_engine.specs.declared.sampling.Samples.{Samples}
use Rattle.std.proofs.lemmas.Slice.Zip.{AllZip-long}
use Rattle.pubsub_engine.proofs.Cutting.{allzip-at, allzip-from, more-places}
use Rattle.pubsub_engine.proofs.sampling.Samples.cut_to.Goals as goal

pub index-requires-in-loop-set-2 : goal.index-requires-in-loop-set-2
index-requires-in-loop-set-2 c =
    let sets = c.args.sets.now in
    let taken : c.loop-set.self.taken ≡ c.args.self.now.taken = ap (λ (s : Samples). s.taken) c.loop-set.invariant.rest in
    omega (
      arith,
      c.loop-set-test.true,
      c.len-set-end.ensures,
      sets.metas.ok.0,
      AllZip-long HasGrown sets.metas.items sets.full.items c.requires.grow,
      AllZip-long (λ (meta : MetaData) (sampled : Sampled). Belongs meta sampled.row.words) sets.full.items c.args.self.now.taken.items c.requires.rows,
      c.args.self.now.taken.ok.0,
      ap (λ (v : Vec Sampled Global). v.len) taken,
    )

pub cut_sample-requires-clause-row : goal.cut_sample-requires-clause-row
cut_sample-requires-clause-row c =
    let sets = c.args.sets.now in
    let f = c.index-in-loop-set.result.now in
    let t = c.index-in-loop-set-2.result.now in
    let taken : c.loop-set.self.taken ≡ c.args.self.now.taken = ap (λ (s : Samples). s.taken) c.loop-set.invariant.rest in
    let low : c.loop-set.set < length sets.full.items
    = omega (arith, c.loop-set-test.true, c.len-set-end.ensures, sets.metas.ok.0, AllZip-long HasGrown sets.metas.items sets.full.items c.requires.grow) in
    subst (λ (m : MetaData). Belongs m t.row.words) (sym c.index-in-loop-set.ensures)
    (subst (λ (x : Sampled). Belongs (get_or sets.full.items c.loop-set.set f) x.row.words)
    (sym (c.index-in-loop-set-2.ensures ∙ ap (λ (v : Vec Sampled Global). get_or v.items c.loop-set.set t) taken))
    (allzip-at (λ (meta : MetaData) (sampled : Sampled). Belongs meta sampled.row.words) sets.full.items c.args.self.now.taken.items c.loop-set.set f t c.requires.rows low))

pub cut_sample-requires-clause-grown : goal.cut_sample-requires-clause-grown
cut_sample-requires-clause-grown c =
    let sets = c.args.sets.now in
    let m = c.index.result.now in
    let f = c.index-in-loop-set.result.now in
    let low : c.loop-set.set < length sets.metas.items = omega (arith, c.loop-set-test.true, c.len-set-end.ensures, sets.metas.ok.0) in
    subst (λ (x : MetaData). HasGrown x f) (sym c.index.ensures)
    (subst (λ (x : MetaData). HasGrown (get_or sets.metas.items c.loop-set.set m) x) (sym c.index-in-loop-set.ensures)
    (allzip-at HasGrown sets.metas.items sets.full.items c.loop-set.set m f c.requires.grow low))

pub loop-set-preserved : goal.loop-set-preserved
loop-set-preserved c =
    let sets = c.args.sets.now in
    let inv = c.loop-set.invariant in
    let n = c.loop-set.set in
    let m = c.index.result.now in
    let f = c.index-in-loop-set.result.now in
    let t = c.index-in-loop-set-2.result.now in
    let x = c.cut_sample.result in
    let taken : c.loop-set.self.taken ≡ c.args.self.now.taken = ap (λ (s : Samples). s.taken) inv.rest in
    let low : n < length sets.metas.items = omega (arith, c.loop-set-test.true, c.len-set-end.ensures, sets.metas.ok.0) in
    let low_full : n < length sets.full.items = omega (arith, low, AllZip-long HasGrown sets.metas.items sets.full.items c.requires.grow) in
    let low_taken : n < length c.args.self.now.taken.items
    = omega (arith, low_full, AllZip-long (λ (meta : MetaData) (sampled : Sampled). Belongs meta sampled.row.words) sets.full.items c.args.self.now.taken.items c.requires.rows) in
    let low_cut : n < length c.loop-set.self.cut.items = omega (arith, low, inv.count, c.requires.count, c.args.self.now.cut.ok.0, sets.metas.ok.0) in
    let meta_is : m ≡ meta_in sets.metas.items n = get_or_read sets.metas.items n m low c.index.ensures no_meta in
    let full_is : f ≡ meta_in sets.full.items n = get_or_read sets.full.items n f low_full c.index-in-loop-set.ensures no_meta in
    let sample_is : t ≡ get_or c.args.self.now.taken.items n no_sample
    = get_or_read c.args.self.now.taken.items n t low_taken (c.index-in-loop-set-2.ensures ∙ ap (λ (v : Vec Sampled Global). get_or v.items n t) taken) no_sample in
    let new : x ≡ cut_sample (meta_in sets.metas.items n) (meta_in sets.full.items n) (get_or c.args.self.now.taken.items n no_sample)
    = c.cut_sample.ensures.cut
    ∙ ap (λ (y : MetaData). cut_sample y f t) meta_is
    ∙ ap (λ (y : MetaData). cut_sample (meta_in sets.metas.items n) y t) full_is
    ∙ ap (λ (y : Sampled). cut_sample (meta_in sets.metas.items n) (meta_in sets.full.items n) y) sample_is in
    record {
      count = length-set c.loop-set.self.cut.items n x ∙ inv.count;
      each = more-places (λ (k : ℕ) (y : Sampled). y ≡ cut_sample (meta_in sets.metas.items k) (meta_in sets.full.items k) (get_or c.args.self.now.taken.items k no_sample))
          c.loop-set.self.cut.items n x no_sample low_cut new inv.each;
      belong = more-places (λ (k : ℕ) (y : Sampled). Belongs (meta_in sets.metas.items k) y.row.words) c.loop-set.self.cut.items n x no_sample low_cut
          (subst (λ (y : MetaData). Belongs y x.row.words) meta_is c.cut_sample.ensures.belongs) inv.belong;
      rest = ap (λ (s : Samples). record s { cut = with_item c.loop-set.self.cut n x }) inv.rest;
    }

pub returns-clause-cut : goal.returns-clause-cut
returns-clause-cut c =
    let sets = c.args.sets.now in
    let inv = c.loop-set.invariant in
    let all : c.loop-set.set ≡ length sets.metas.items = omega (arith, c.loop-set-test.false, c.loop-set.auto.set-end, c.len-set-end.ensures, sets.metas.ok.0) in
    fill_by_all (λ k. cut_sample (meta_in sets.metas.items k) (meta_in sets.full.items k) (get_or c.args.self.now.taken.items k no_sample))
    c.loop-set.self.cut.items (length sets.metas.items) no_sample (omega (arith, inv.count, c.requires.count, c.args.self.now.cut.ok.0, sets.metas.ok.0))
    (λ k low. inv.each k (omega (arith, low, all)))

pub returns-clause-belong : goal.returns-clause-belong
returns-clause-belong c =
    let sets = c.args.sets.now in
    let inv = c.loop-set.invariant in
    let all : c.loop-set.set ≡ length sets.metas.items = omega (arith, c.loop-set-test.false, c.loop-set.auto.set-end, c.len-set-end.ensures, sets.metas.ok.0) in
    allzip-from (λ (meta : MetaData) (sampled : Sampled). Belongs meta sampled.row.words) sets.metas.items c.loop-set.self.cut.items no_meta no_sample
    (omega (arith, inv.count, c.requires.count, c.args.self.now.cut.ok.0, sets.metas.ok.0))
    (λ k low. inv.belong k (omega (arith, low, all)))
