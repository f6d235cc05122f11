use Rattle.std.proofs.Common.{◌≡◌, ◌≤◌, ℕ, Bool, List, true, length, ap, ◌∙◌, arith, take}
use Rattle.std.specs.Prelude.{replicate}
use Rattle.std.proofs.lemmas.List.{length-replicate, take-replicate}
use Rattle.lane_groups.proofs.Passing.{few-writers, may-turn, turns-are}
use Rattle.lane_groups.proofs.place.Place.turn.Goals as goal

-- the first so many of all
first : (all : List Bool) (count : ℕ) → all ≡ replicate 16 true → count ≤ 16 → take count all ≡ replicate count true
first all count is low = ap (take count) is ∙ take-replicate count 16 true low

long : (all : List Bool) (count : ℕ) → all ≡ replicate 16 true → count ≤ 16 → length (take count all) ≡ count
long all count is low = ap length (first all count is low) ∙ length-replicate count true

pub slice_bounds-all_on-end : goal.slice_bounds-all_on-end
slice_bounds-all_on-end c =
    omega (arith, c.writers_in-count.ensures, few-writers c.args.told.now c.args.g c.args.self.now c.args.sender.now c.requires.may)

pub slice_bounds-on-end : goal.slice_bounds-on-end
slice_bounds-on-end c =
    let few = few-writers c.args.told.now c.args.g c.args.self.now c.args.sender.now c.requires.may in
    let count = c.writers_in-count.ensures in
    omega (arith, count, few, long c.every_on-all_on.result c.writers_in-count.result c.every_on-all_on.ensures (omega (arith, few, count)))

pub turn_with-made-requires-clause-may : goal.turn_with-made-requires-clause-may
turn_with-made-requires-clause-may c =
    let few = few-writers c.args.told.now c.args.g c.args.self.now c.args.sender.now c.requires.may in
    let count = c.writers_in-count.ensures in
    may-turn c.args.told.now c.args.g c.args.self.now c.args.sender.now c.requires.may (take c.writers_in-count.result c.every_on-all_on.result)
    (long c.every_on-all_on.result c.writers_in-count.result c.every_on-all_on.ensures (omega (arith, few, count)) ∙ count) c.requires.unspent

pub returns : goal.returns
returns c =
    let few = few-writers c.args.told.now c.args.g c.args.self.now c.args.sender.now c.requires.may in
    let count = c.writers_in-count.ensures in
    turns-are c.args.told.now c.args.g c.args.self.now c.args.sender.now c.requires.may (take c.writers_in-count.result c.every_on-all_on.result) c.turn_with-made.result c.turn_with-made.new.group
    c.turn_with-made.new.out c.turn_with-made.new.sender
    (first c.every_on-all_on.result c.writers_in-count.result c.every_on-all_on.ensures (omega (arith, few, count)) ∙ ap (λ (n : ℕ). replicate n true) count)
    c.turn_with-made.ensures.turned c.turn_with-made.ensures.few c.turn_with-made.ensures.sender
