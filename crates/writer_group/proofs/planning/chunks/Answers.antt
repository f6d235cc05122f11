use Rattle.std.proofs.Common.{◌≡◌, ◌+◌, ◌-◌, ◌/◌, ℕ, ap, ◌∙◌, arith}
use Rattle.writer_group.proofs.Cutting.{chunk-few}
use Rattle.writer_group.proofs.planning.chunks.Goals as goal

pub overflow_cast-result : goal.overflow_cast-result
overflow_cast-result c =
    let same : (c.from.result + c.from-2.result - 1) / c.from-3.result ≡ (c.args.size + c.args.room - 1) / c.args.room =
    ap (λ (n : ℕ). (n + c.from-2.result - 1) / c.from-3.result) c.from.ensures
    ∙ ap (λ (n : ℕ). (c.args.size + n - 1) / c.from-3.result) c.from-2.ensures
    ∙ ap (λ (n : ℕ). (c.args.size + c.args.room - 1) / n) c.from-3.ensures in
    omega (arith, same, chunk-few c.args.room c.args.size c.requires)
