use Rattle.std.proofs.Common.{◌≡◌, ℕ, List, Some, None, subst, ap, ◌∙◌, arith}
use Rattle.std.specs.Option.{option_copied}
use Rattle.group_keys.specs.declared.key_set.KeySet.{KeySet}
use Rattle.group_keys.specs.Faults.{IsAccepted}
use Rattle.group_keys.specs.Ring.{is_long}
use Rattle.device.specs.Due.{first_above}
use Rattle.device.proofs.Tokens.{first-of, key-calm, key-due, key-never}
use Rattle.device.proofs.due.key_due.Goals as goal

pub returns-in-None : goal.returns-in-None
returns-in-None c = λ t low high.
    let sender = c.args.sender.now in
    let none : first_above sender.sets sender.keys.token ≡ None =
    first-of c.key_sets.result.now sender.sets c.standing-token.result.0 sender.keys.token c.first_above.result None (c.key_sets.ensures.sets ∙ c.requires)
    (ap (λ (p : ℕ × ℕ). p.0) c.standing-token.ensures) c.first_above.ensures (ap option_copied c.in-None.is) in
    key-never sender t none

pub returns-in-Some : goal.returns-in-Some
returns-in-Some c =
    let sender = c.args.sender.now in
    let first = c.in-Some.set.now in
    let ring = c.args.ring.now in
    let is : first_above sender.sets sender.keys.token ≡ Some first =
    first-of c.key_sets.result.now sender.sets c.standing-token.result.0 sender.keys.token c.first_above.result (Some first) (c.key_sets.ensures.sets ∙ c.requires)
    (ap (λ (p : ℕ × ℕ). p.0) c.standing-token.ensures) c.first_above.ensures (ap option_copied c.in-Some.is) in
    let accepted : IsAccepted (is_long ring) sender.sets = subst (λ (sets : List KeySet). IsAccepted (is_long ring) sets) c.requires c.key_sets.ensures.ring in
    record {
      from_now = omega (arith, c.max.ensures);
      within = c.max.type_inv;
      calm = λ t low below. key-calm sender first t accepted.rises is (omega (arith, c.max.ensures, low, below));
      due = key-due sender (is_long ring) first c.max.result accepted is (omega (arith, c.max.ensures));
    }
