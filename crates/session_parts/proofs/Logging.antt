-- The logs of all writers keep as many data frames as before.
use Rattle.std.proofs.Common.{ℕ, ◌<◌, ◌≡◌, List, length, get_or, sym, subst, arith}
use Rattle.std.specs.Prelude.{slice_set}
use Rattle.std.proofs.lemmas.List.Elements.{All-set}
use Rattle.writer_group.specs.declared.group.Group.{Group}
use Rattle.writer_group.specs.Standing.{AreLogged, KeepsOnLogging}
use Rattle.session_parts.specs.Holding.{AreAllLogged, AreStillLogged}
use Rattle.session_parts.proofs.Each.{EachTo}

-- ---- of one group

pub logs-same : (group : Group) → KeepsOnLogging group group
logs-same group = record { logged = λ most all. all; all = λ all. all }

pub logs-then : (old mid new : Group) → KeepsOnLogging mid new → KeepsOnLogging old mid → KeepsOnLogging old new
logs-then old mid new later before = record {
  logged = λ most all. later.logged most (before.logged most all);
  all = λ all. later.all (before.all all);
}

-- ---- of all groups

-- each was changed in its place
pub each-logged : (R : ℕ → Group → Group → Type 0) → ((g : ℕ) (x y : Group) → R g x y → KeepsOnLogging x y) → (old new : List Group) → EachTo R (length old) old new → AreStillLogged old new
each-logged R logs old new each most all g d within =
    let there : g < length old = omega (arith, within, each.count) in
    (logs g (get_or old g d) (get_or new g d) (each.done g there there d)).logged most (all g d there)

-- one was changed in its place
pub set-logged : (groups : List Group) (g : ℕ) (group new : Group) → g < length groups → group ≡ get_or groups g group → KeepsOnLogging group new → AreStillLogged groups (slice_set groups g new)
set-logged groups g group new low at logs most all =
    All-set (AreLogged most) groups g new (logs.logged most (subst (AreLogged most) (sym at) (all g group low))) all
