-- How many chunks a frame has, and where each begins.
use Rattle.std.proofs.Common.{ℕ, ◌+◌, ◌-◌, ◌*◌, ◌/◌, ◌<◌, ◌≤◌, arith}
use Rattle.std.proofs.Math.Nat.{div-le_of_le-mul, div-mul-le_self}
use Rattle.std.proofs.lemmas.Nat.{le-div, mul-le}
use Rattle.writer_group.specs.Planning.{chunk_count}

pub chunk-below : (room size index : ℕ) → 1 ≤ room → index < chunk_count room size → index * room < size
chunk-below room size index some below =
    let count : ℕ = (size + room - 1) / room in
    let whole : count * room ≤ size + room - 1 = div-mul-le_self (size + room - 1) room in
    let rows : (index + 1) * room ≤ count * room = mul-le (index + 1) room count room (omega arith) (omega arith) in
    omega arith

pub chunk-few : (room size : ℕ) → 1 ≤ room → chunk_count room size ≤ size + 1
chunk-few room size some =
    let row : size ≤ room * size = grind arith in
    div-le_of_le-mul room (omega arith)

-- a frame has a byte, and so a chunk
pub chunk-some : (room size : ℕ) → 1 ≤ room → 1 ≤ size → 1 ≤ chunk_count room size
chunk-some room size some byte = le-div 1 (size + room - 1) room (omega arith) (omega arith)

-- a longer frame has no fewer
pub chunk-more : (room size most : ℕ) → 1 ≤ room → size ≤ most → chunk_count room size ≤ chunk_count room most
chunk-more room size most some more =
    let count : ℕ = (size + room - 1) / room in
    let whole : count * room ≤ size + room - 1 = div-mul-le_self (size + room - 1) room in
    le-div count (most + room - 1) room (omega arith) (omega arith)
