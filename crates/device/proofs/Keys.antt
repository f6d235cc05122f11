-- The keys of read groups.
use Rattle.std.proofs.Common.{◌≡◌, ℕ, ◌<◌, ◌≤◌, length, sym, subst, ◌∙◌}
use Rattle.std.specs.Prelude.{Bool, Option, Some, None, IfNone, IfSome}
use Rattle.std.specs.List.{HoldsAt}
use Rattle.std.proofs.lemmas.Option.{none-some, same_Some}
use Rattle.ps_config.specs.declared.parts.Config.{Config}
use Rattle.reader_group.specs.Settings.{no_group}
use Rattle.device.specs.Sides.{HasLongKeys, IsKeyedBy, IsUnkeyed, ReadsLongKeys, ReadsNoKeys}

pub keyed-at : (config : Config) (group : ℕ) (keygroup : Option ℕ) → group < length config.readgroup → HoldsAt (λ part. part.keygroup ≡ keygroup) config.readgroup group
    → IfSome keygroup (IsKeyedBy config group)
keyed-at config group None within is = tt
keyed-at config group (Some keygroup) within is = record { within = within; is = is }

pub unkeyed-at : (config : Config) (group : ℕ) (keygroup : Option ℕ) → HoldsAt (λ part. part.keygroup ≡ keygroup) config.readgroup group
    → IfNone keygroup (IsUnkeyed config group)
unkeyed-at config group None is = λ within. is
unkeyed-at config group (Some keygroup) is = tt

pub reads-long : (config : Config) (group keygroup : ℕ) (long : Option Bool) → IsKeyedBy config group keygroup → IfSome long (HasLongKeys config keygroup)
    → IfSome long (ReadsLongKeys config group)
reads-long config group keygroup None keyed is = tt
reads-long config group keygroup (Some long) keyed is = record { keygroup = keygroup; keyed = keyed; is = is }

pub reads-none : (config : Config) (group keygroup : ℕ) (long : Option Bool) → IsKeyedBy config group keygroup → IfNone long (length config.keygroup ≤ keygroup)
    → IfNone long (ReadsNoKeys config group)
reads-none config group keygroup (Some long) keyed is = tt
reads-none config group keygroup None keyed is =
    λ other by. subst (λ (k : ℕ). length config.keygroup ≤ k) (same_Some keygroup other (sym (keyed.is no_group) ∙ by.is no_group)) is

pub reads-unkeyed : (config : Config) (group : ℕ) → IsUnkeyed config group → ReadsNoKeys config group
reads-unkeyed config group unkeyed = λ keygroup by. absurd (none-some keygroup (sym (unkeyed by.within no_group) ∙ by.is no_group))
