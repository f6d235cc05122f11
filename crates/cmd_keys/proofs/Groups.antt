-- The key group of a name.
use Rattle.std.proofs.Common.{◌≡◌, List, ℕ, Some, sym}
use Rattle.std.specs.Str.{bytes_eq}
use Rattle.std.proofs.lemmas.Slice.Eq.{bytes_eq-Decides}
use Rattle.group_keys.proofs.Finding.{found_at}
use Rattle.ps_config.specs.declared.parts.KeyGroupPart.{KeyGroupPart}
use Rattle.cmd_keys.specs.Answers.{group_named}

pub found_named : (groups : List KeyGroupPart) (name : List ℕ) (group : KeyGroupPart) → Some group ≡ group_named groups name → group.name ≡ name
found_named groups name group is =
    (bytes_eq-Decides group.name name).0 (found_at (λ (g : KeyGroupPart). bytes_eq g.name name) groups group (sym is)).passes
