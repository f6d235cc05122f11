use Rattle.std.proofs.Common.{ℕ, ◌-◌, List, take, get_or, set, sym, ap, ◌∙◌}
use Rattle.std.proofs.lemmas.List.{take_more}
use Rattle.app_threads.specs.Items.{versions_in}
use Rattle.pubsub_engine.specs.Authored.{filled}
use Rattle.pubsub_engine.proofs.Authors.{filled-more, filled-same}
use Rattle.pubsub_engine.proofs.closing.fill.Goals as goal
use Rattle.pubsub_engine.proofs.closing.fill.Goals.{then-written-set, else-written-set}

pub loop-written-preserved : goal.loop-written-preserved
loop-written-preserved c =
    let versions = c.args.versions.now in
    let k : ℕ = c.loop-written.written-index in
    let none : ℕ × ℕ = (0, 0) in
    let next = ap (λ (vs : List (ℕ × ℕ)). filled c.args.thread (versions_in c.args.set vs) c.args.threads.now.items)
    (sym (take_more versions k none c.loop-written-test.true)) in
    elim c.if-written-set.branch [
      | then-written-set w ↦
          ap (λ v. v.items) w.threads-is
          ∙ w.put.ensures
          ∙ ap (λ (l : List ℕ). set l ((get_or versions k none).1 - 1) c.args.thread) c.loop-written.invariant
          ∙ sym (filled-more c.args.thread c.args.set (take k versions) (get_or versions k none) c.args.threads.now.items w.if-written-set.true)
          ∙ next
      | else-written-set w ↦
          ap (λ v. v.items) w.threads-is
          ∙ c.loop-written.invariant
          ∙ sym (filled-same c.args.thread c.args.set (take k versions) (get_or versions k none) c.args.threads.now.items w.if-written-set.false)
          ∙ next
    ]
