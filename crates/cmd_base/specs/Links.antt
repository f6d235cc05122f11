-- What a command does to the link of its session.
use Rattle.std.specs.Prelude.{◌≡◌, ◌≢◌, ◌⊎◌, Option}
use Rattle.ua_base.specs.Cause.{HasCause}
use Rattle.ua_base.specs.Links.{Opening, TellsOn}
use Rattle.session_model.specs.Counts.{session_nothings}
use Rattle.script_player.specs.Openings.{OpensOnce, PerformsOver}
use Rattle.cmd_base.specs.declared.status.Status.{Status}
use Rattle.cmd_base.specs.Outside.{Wire, IsQuiet}
use Rattle.cmd_base.specs.Statuses.{IsConfigRefused, IsScriptRefused, IsUnread, IsTooLong}

-- the link was opened once or not at all, and once where the command's work was done
abbrev pub IsOpenedOnce : Type 0 → Wire → Wire → Type 0
IsOpenedOnce performed before after = OpensOnce (λ (w : Wire). w.made) (λ (w : Wire). w.openings) performed before after

-- a link that tells, and has the patience for what a session's pumps are answered, tells after it too
abbrev pub TellsToTheEnd : Wire → Wire → Type 0
TellsToTheEnd before after = TellsOn (λ (w : Wire). w.told) (λ (w : Wire). w.patience) session_nothings before after

-- a session of this opening was performed over the link, or was to be
abbrev pub PerformsWire : Opening → Type 0 → Type 0 → Wire → Wire → Type 0
PerformsWire opening performed unopened before after =
    PerformsOver (λ (w : Wire). w.told) (λ (w : Wire). w.patience) (λ (w : Wire). w.opened_with) (λ (w : Wire). w.faults) (λ (w : Wire). w.made) (λ (w : Wire). w.openings)
    opening performed unopened before after

-- the link is opened so, and once, or not at all, and one that can't be opened stays as it was, its count of faults aside; it tells to the end
pub record UsesLink (Opens : Option Opening → Type 0) (unopened performed : Type 0) (before after : Wire) : Type 0 where
  pub opens : after.opened_with ≢ before.opened_with → Opens after.opened_with
  pub unused : unopened → (after.told ≡ before.told) × (after.opened_with ≡ before.opened_with) × (after.openings ≡ before.openings)
  pub once : IsOpenedOnce performed before after
  pub lasts : TellsToTheEnd before after
  pub cause : HasCause before.faults after.faults unopened

-- no opening of the link failed: no call over it failed at all, or it was opened
abbrev pub IsQuietOrOpened : Wire → Wire → Type 0
IsQuietOrOpened before after = IsQuiet before.faults after.faults ⊎ (after.openings ≢ before.openings)

-- the statuses that come before a link is used
abbrev pub IsBeforeLink : Status → Type 0
IsBeforeLink status = IsConfigRefused status ⊎ IsScriptRefused status ⊎ IsUnread status ⊎ IsTooLong status
