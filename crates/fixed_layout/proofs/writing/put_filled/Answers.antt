use Rattle.std.proofs.Common.{◌≡◌, ℕ, ◌-◌, ◌++◌, length, subst, arith}
use Rattle.std.specs.Prelude.{replicate}
use Rattle.ua_binary.specs.Spelling.{block}
use Rattle.ua_binary.specs.Writing.{Puts}
use Rattle.ua_binary.proofs.Laying.{Puts-then}
use Rattle.fixed_layout.proofs.writing.put_filled.Goals as goal

pub returns : goal.returns
returns c =
    let bytes = c.args.bytes.now in
    let front = Puts-then c.args.pen.now c.put_u32.new.self c.put_bytes.new.self _ _ c.put_u32.ensures c.put_bytes.ensures in
    let whole = Puts-then c.args.pen.now c.put_bytes.new.self c.put_zeros.new.pen _ _ front c.put_zeros.ensures in
    let count : c.saturating_sub.result ≡ c.args.cap - length bytes = omega arith in
    subst (λ (n : ℕ). Puts c.args.pen.now c.put_zeros.new.pen (block bytes ++ replicate n 0)) count whole
