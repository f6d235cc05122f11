-- Writers that can tell of a new field.
use Rattle.std.proofs.Common.{◌≡◌, ℕ, ◌==◌, Bool, true, false, ◌&&◌, ◌||◌, not, List, get_or, refl, sym, ◌∙◌}
use Rattle.std.specs.Prelude.{All}
use Rattle.std.specs.List.{list_any}
use Rattle.std.proofs.lemmas.Bool.{false≢true, eq-eqb, eqb-true}
use Rattle.std.proofs.lemmas.List.Folds.{list_any_none, list_any_at}
use Rattle.ps_config.specs.declared.parts.GroupPart.{GroupPart}
use Rattle.ps_config.specs.declared.parts.WriterPart.{WriterPart}
use Rattle.ps_config.specs.Rooms.{is_fixed}
use Rattle.ps_script.specs.Faults.{has_mute_writer, CanTellOf}

-- where no element passes the test, each fails it
all_fail : {X : Type 0} (p : X → Bool) (xs : List X) → list_any p xs ≡ false → All (λ x. p x ≡ false) xs
all_fail p xs none k d within = go (p (get_or xs k d)) refl
  where
    go : (b : Bool) → p (get_or xs k d) ≡ b → b ≡ false
    go true passes = absurd (false≢true (sym none ∙ list_any_at p xs k d within passes))
    go false fails = refl

-- a writer with these settings is not mute exactly where it can tell, if it is of the data set
tells : (is_set versions fixed : Bool) → (is_set && (not versions || fixed)) ≡ false → is_set ≡ true → (versions ≡ true) × (fixed ≡ false)
tells true true false none is = (refl, refl)
tells true true true none is = absurd (false≢true (sym none))
tells true false fixed none is = absurd (false≢true (sym none))
tells false versions fixed none is = absurd (false≢true is)

silent : (is_set versions fixed : Bool) → (is_set ≡ true → (versions ≡ true) × (fixed ≡ false)) → (is_set && (not versions || fixed)) ≡ false
silent false versions fixed can = refl
silent true true false can = refl
silent true true true can = (can refl).1
silent true false fixed can = absurd (false≢true (can refl).0)

group_tells : (set : ℕ) (group : GroupPart) → has_mute_writer set group ≡ false → CanTellOf set group
group_tells set group none k d within is =
    let writer : WriterPart = get_or group.writer k d in
    tells (writer.dataset == set) writer.versions (is_fixed group.layout)
    (all_fail (λ (w : WriterPart). w.dataset == set && (not w.versions || is_fixed group.layout)) group.writer none k d within)
    (eq-eqb writer.dataset set is)

group_silent : (set : ℕ) (group : GroupPart) → CanTellOf set group → has_mute_writer set group ≡ false
group_silent set group can =
    list_any_none (λ (w : WriterPart). w.dataset == set && (not w.versions || is_fixed group.layout)) group.writer
    (λ k d within.
    let writer : WriterPart = get_or group.writer k d in
    silent (writer.dataset == set) writer.versions (is_fixed group.layout) (λ is. can k d within (eqb-true writer.dataset set is)))

pub none_mute_tell : (set : ℕ) (groups : List GroupPart) → list_any (has_mute_writer set) groups ≡ false → All (CanTellOf set) groups
none_mute_tell set groups none k d within = group_tells set (get_or groups k d) (all_fail (has_mute_writer set) groups none k d within)

pub tell_none_mute : (set : ℕ) (groups : List GroupPart) → All (CanTellOf set) groups → list_any (has_mute_writer set) groups ≡ false
tell_none_mute set groups can = list_any_none (has_mute_writer set) groups (λ k d within. group_silent set (get_or groups k d) (can k d within))
