use Rattle.std.proofs.Common.{ℕ, zero, suc, ◌^◌, ◌<◌, ◌≤◌, arith}
use Rattle.row_words.proofs.meta_shape.+codes_of.Goals as goal

-- three codes are below 2 ^ 48
three : (n x : ℕ) → n ≤ 3 → x < 65536 ^ n → x < 2 ^ 48
three zero x few below = omega arith
three (suc zero) x few below = omega arith
three (suc (suc zero)) x few below = omega arith
three (suc (suc (suc zero))) x few below = omega arith
three (suc (suc (suc (suc n)))) x few below = absurd (omega arith)

pub overflow_mul-result : goal.overflow_mul-result
overflow_mul-result t c = let below = three _ _ (omega arith) c.codes_of.ensures.small in omega arith

pub overflow_add-result : goal.overflow_add-result
overflow_add-result t c = let below = three _ _ (omega arith) c.codes_of.ensures.small in omega arith
