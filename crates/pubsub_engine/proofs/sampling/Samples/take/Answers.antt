use Rattle.std.proofs.Common.{◌≡◌, ◌+◌, ◌<◌, ℕ, ◌∙◌, refl, sym, subst, arith, length}
use Rattle.std.specs.Prelude.{slice_set}
use Rattle.std.proofs.lemmas.List.{length-set}
use Rattle.pubsub_engine.proofs.SampleLoop.{HasTaken, taken-all, taken-more, taken-none}
use Rattle.pubsub_engine.proofs.sampling.Samples.take.Goals as goal

pub loop-set-init : goal.loop-set-init
loop-set-init g c = record {
  count = refl;
  own = c.requires.own;
  taken = taken-none c.args.self.now.passes c.args.self.now.taken.items;
  cut = refl;
}

pub loop-set-preserved : goal.loop-set-preserved
loop-set-preserved g c =
    let inv = c.loop-set.invariant in
    let e = c.read.ensures in
    let n = c.loop-set.set in
    let taken = c.loop-set.self.taken.items in
    let x = c.sample_of.result in
    let first = c.args.self.now.passes in
    let low : n < length taken = omega (arith, c.loop-set-test.true, c.len-set-end.ensures, inv.count, c.args.self.now.taken.ok.0) in
    record {
      count = length-set taken c.from.result x ∙ inv.count;
      own = e.own;
      taken = subst (λ (i : ℕ). HasTaken (n + 1) first c.read.new.passes (slice_set taken i x)) (sym c.from.ensures)
          (taken-more n first c.loop-set.self.passes c.read.new.passes taken x low e.others e.seen e.lawful c.sample_of.ensures inv.taken);
      cut = inv.cut;
    }

pub returns : goal.returns
returns g c =
    let inv = c.loop-set.invariant in
    let taken = c.loop-set.self.taken.items in
    let all : c.loop-set.set ≡ length taken = omega (arith, c.loop-set-test.false, c.loop-set.auto.set-end, c.len-set-end.ensures, inv.count, c.args.self.now.taken.ok.0) in
    let same : length c.loop-set.self.passes ≡ length taken = omega (arith, inv.own.count, c.requires.count, inv.count, c.args.self.now.taken.ok.0) in
    record {
      taken = taken-all c.loop-set.set c.args.self.now.passes c.loop-set.self.passes taken inv.taken all same;
      more = λ set low. inv.taken.more set (omega (arith, low, all, same, inv.own.count, c.requires.own.count));
      lawful = λ set low. inv.taken.lawful set (omega (arith, low, all, same));
      own = inv.own;
      cut = inv.cut;
    }
