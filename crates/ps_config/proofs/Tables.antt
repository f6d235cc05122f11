-- The faults that tables have, and the last of all.
use Rattle.std.proofs.Common.{◌≡◌, ◌≢◌, ℕ, zero, suc, ◌<◌, Bool, true, not, List, [], ◌∷◌, ◌++◌, length, get_or, Option, Some, None, option_map, refl, sym, ap, ◌∙◌, subst, arith}
use Rattle.std.specs.Option.{option_or}
use Rattle.std.specs.List.{list_all}
use Rattle.std.proofs.lemmas.Bool.{false≢true, and_parts}
use Rattle.config_tables.specs.declared.fault.Fault.{Fault}
use Rattle.config_tables.specs.declared.fault.Fault.TheVariants.{FrameLarge}
use Rattle.config_tables.specs.declared.place.Place.{Place}
use Rattle.config_tables.specs.FaultNumbers.{is_same}
use Rattle.config_tables.specs.Tables.{Located}
use Rattle.ps_config.specs.Refusals.{table_faults, first_at, refusal_by, refusal}

abbrev is_other : Fault → Bool
is_other fault = not (is_same fault FrameLarge)

others : list_all is_other table_faults ≡ true
unfolding table_faults
others = refl

other_at : (fs : List Fault) (k : ℕ) (d : Fault) → list_all is_other fs ≡ true → k < length fs → is_other (get_or fs k d) ≡ true
other_at [] k d all within = absurd (omega arith)
other_at (f ∷ fs) zero d all within = (and_parts (is_other f) (list_all is_other fs) all).0
other_at (f ∷ fs) (suc k) d all within = other_at fs k d (and_parts (is_other f) (list_all is_other fs) all).1 (omega arith)

-- the last fault isn't among those of tables
pub not_the_last : (fs : List Fault) (k : ℕ) (d : Fault) → fs ≡ table_faults → k < length fs → get_or fs k d ≢ FrameLarge
not_the_last fs k d same within last =
    false≢true (subst (λ (g : Fault). is_other g ≡ true) last (other_at fs k d (ap (list_all is_other) same ∙ others) within))

or_or : {X : Type 0} (a b c : Option X) → option_or (option_or a b) c ≡ option_or a (option_or b c)
or_or None b c = refl
or_or (Some x) b c = refl

-- faults in front of others are judged before them
pub refusal_by-append : (fs gs : List Fault) (ts : List Located) → refusal_by (fs ++ gs) ts ≡ option_or (refusal_by fs ts) (refusal_by gs ts)
refusal_by-append [] gs ts = refl
refusal_by-append (f ∷ fs) gs ts =
    ap (option_or (option_map (λ place. (f, place)) (first_at f ts))) (refusal_by-append fs gs ts)
    ∙ sym (or_or (option_map (λ place. (f, place)) (first_at f ts)) (refusal_by fs ts) (refusal_by gs ts))

-- a refusal of the tables is one of the document
pub told_by_tables : (ts : List Located) (r : Fault × Place) → refusal_by table_faults ts ≡ Some r → refusal ts ≡ Some r
told_by_tables ts r e = refusal_by-append table_faults (FrameLarge ∷ []) ts ∙ ap (λ o. option_or o (refusal_by (FrameLarge ∷ []) ts)) e

abbrev pub at_place : Place → Fault × Place
at_place place = (FrameLarge, place)

last_told : (o : Option Place) → option_or (option_map at_place o) None ≡ option_map at_place o
last_told None = refl
last_told (Some p) = refl

-- where the tables refuse nothing, the last fault decides
pub told_last : (ts : List Located) → refusal_by table_faults ts ≡ None → refusal ts ≡ option_map at_place (first_at FrameLarge ts)
told_last ts e =
    refusal_by-append table_faults (FrameLarge ∷ []) ts ∙ ap (λ o. option_or o (refusal_by (FrameLarge ∷ []) ts)) e ∙ last_told (first_at FrameLarge ts)
