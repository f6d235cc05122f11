-- What the command does to its links.
use Rattle.std.specs.Prelude.{◌≡◌, ◌≢◌, ◌≤◌, ◌⊎◌, ℕ, [], Option, Some}
use Rattle.ua_base.specs.Cause.{Rose}
use Rattle.ua_base.specs.Links.{Opening, TellsOn}
use Rattle.ps_config.specs.declared.parts.Config.{Config}
use Rattle.cmd_base.specs.Links.{IsOpenedOnce}
use Rattle.cmd_base.specs.Outside.{Wire}

-- the second configuration's port, and no fates
abbrev pub opening_again : Config → Opening
opening_again second = record { port = second.publisher.port; fates = [] }

-- a link is opened so or not at all
abbrev pub OpensSo : Option Opening → Wire → Wire → Type 0
OpensSo opening before after = after.opened_with ≢ before.opened_with → after.opened_with ≡ opening

-- one that can't be opened stays as it was, its count of faults aside, which rose
pub record StaysClosed (before after : Wire) : Type 0 where
  pub told : after.told ≡ before.told
  pub opened_with : after.opened_with ≡ before.opened_with
  pub openings : after.openings ≡ before.openings
  pub rose : Rose before.faults after.faults

-- either `lab` can't be opened and `wire` is left alone, or `wire` can't be
abbrev pub LeavesUnopened : Wire → Wire → Wire → Wire → Type 0
LeavesUnopened lab lab_after wire wire_after =
    (StaysClosed lab lab_after × (wire_after ≡ wire)) ⊎ StaysClosed wire wire_after

-- One link before and after calls that open it so, once or not at all, and keep it after that, of which so many at most answered Nothing.
-- Where all was done it was opened. What it was made to do stays, it tells on, and its count of faults doesn't fall.
pub record OpensOne (opening : Opening) (done : Type 0) (nothings : ℕ) (before after : Wire) : Type 0 where
  pub opened : done → after.opened_with ≡ Some opening
  pub opens : OpensSo (Some opening) before after
  pub once : IsOpenedOnce done before after
  pub lasts : TellsOn (λ (w : Wire). w.told) (λ (w : Wire). w.patience) nothings before after
  pub counts : before.faults ≤ after.faults

-- Two links before and after calls that open `lab` so and then `wire` so, each once or not at all, and keep them after that, of which so many at
-- most answered Nothing over each. Where all was done both were opened; one that can't be opened stays closed, and `wire` unused if that is `lab`.
pub record OpensBoth (first second : Opening) (done refused : Type 0) (nothings : ℕ) (lab lab_after wire wire_after : Wire) : Type 0 where
  pub lab_opens : OpensOne first done nothings lab lab_after
  pub wire_opens : OpensOne second done nothings wire wire_after
  pub unopened : refused → LeavesUnopened lab lab_after wire wire_after
