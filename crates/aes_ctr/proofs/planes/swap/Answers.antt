use Rattle.std.proofs.Common.{ap₂, ◌*◌, ◌/◌, ◌%◌, ◌^◌, List, ℕ, bit_and, bit_xor, replicate}
use Rattle.std.specs.Simd.Lanes.{zip2}
use Rattle.aes_ctr.proofs.Lists.{values_of}
use Rattle.aes_ctr.proofs.planes.swap.Goals as goal

-- what changes in the second
abbrev changes : ℕ → ℕ → List ℕ → List ℕ → List ℕ
changes n m a b = zip2 bit_and (zip2 bit_xor (zip2 (λ x n. x / 2 ^ n) a (replicate 16 n)) b) (replicate 16 m)

pub returns-clause-first : goal.returns-clause-first
returns-clause-first c =
    ap₂ (λ a b. zip2 bit_xor a (zip2 (λ x n. x * 2 ^ n % 2 ^ 8) (changes c.args.by c.args.mask a b) (replicate 16 c.args.by)))
    (values_of c.args.a 16 c.fits-a.0) (values_of c.args.b 16 c.fits-b.0)

pub returns-clause-second : goal.returns-clause-second
returns-clause-second c =
    ap₂ (λ a b. zip2 bit_xor b (changes c.args.by c.args.mask a b)) (values_of c.args.a 16 c.fits-a.0) (values_of c.args.b 16 c.fits-b.0)
