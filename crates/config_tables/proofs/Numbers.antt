-- The number that digits spell.
use Rattle.std.proofs.Common.{◌≡◌, ◌≢◌, ℕ, ◌^◌, ◌<◌, Bool, true, false, ◌&&◌, cond, nat_le, List, Some, None, refl, ap, ◌∙◌, arith}
use Rattle.std.specs.Fmt.{decimal}
use Rattle.std.specs.Str.{bytes_eq}
use Rattle.std.specs.Str.Parse.{digits_value}
use Rattle.std.proofs.lemmas.Bool.Decides.{nat_tests}
use Rattle.std.proofs.lemmas.Fmt.{decimal_is_IsNumeral}
use Rattle.std.proofs.lemmas.Slice.Eq.{bytes_eq-Decides}
use Rattle.config_tables.specs.Texts.{number_spelled}

value_of_decimal : (bs : List ℕ) (n : ℕ) → n < 2 ^ 64 → bs ≡ decimal n → digits_value 10 bs ≡ n
value_of_decimal bs n lt is = ap (digits_value 10) is ∙ (decimal_is_IsNumeral n lt).1

chosen : (bs : List ℕ) (n v most : ℕ) → v ≡ n → bs ≡ decimal n → cond (nat_le v most && bytes_eq bs (decimal v)) (Some v) None ≡ cond (nat_le n most) (Some n) None
chosen bs n v most e is = rw (e, (bytes_eq-Decides bs (decimal n)).1 is) (go (nat_le n most))
  where
    go : (b : Bool) → cond (b && true) (Some n) None ≡ cond b (Some n) None
    go true = refl
    go false = refl

pub spelled : (bs : List ℕ) (n most : ℕ) → n < 2 ^ 64 → bs ≡ decimal n → number_spelled most bs ≡ cond (nat_le n most) (Some n) None
spelled bs n most lt is = chosen bs n (digits_value 10 bs) most (value_of_decimal bs n lt is) is

not_chosen : (bs : List ℕ) (v most : ℕ) (b d : Bool) → nat_le v most ≡ b → bytes_eq bs (decimal v) ≡ d → most < 2 ^ 64 → ((n : ℕ) → n < 2 ^ 64 → bs ≢ decimal n) → None ≡ cond (b && d) (Some v) None
not_chosen bs v most false d e f lt none = refl
not_chosen bs v most true false e f lt none = refl
not_chosen bs v most true true e f lt none = absurd (none v (grind (arith, nat_tests)) ((bytes_eq-Decides bs (decimal v)).0 f))

pub spells_none : (bs : List ℕ) (most : ℕ) → most < 2 ^ 64 → ((n : ℕ) → n < 2 ^ 64 → bs ≢ decimal n) → None ≡ number_spelled most bs
spells_none bs most lt none = not_chosen bs (digits_value 10 bs) most _ _ refl refl lt none
