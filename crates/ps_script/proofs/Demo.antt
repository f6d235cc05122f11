-- The fields of the built-in data set.
use Rattle.std.proofs.Common.{◌≡◌, ℕ, zero, suc, ◌+◌, ◌<◌, List, [], ◌∷◌, ◌++◌, map, length, Some, refl, sym, ap, ◌∙◌, arith}
use Rattle.std.specs.List.{HoldsAt, range_with_len}
use Rattle.std.proofs.lemmas.List.FromFn.{map-range_with_len_more}
use Rattle.ps_script.specs.declared.script.Line.{Line}
use Rattle.ps_script.specs.declared.script.Act.{Act}
use Rattle.ps_script.specs.Acts.{with_act}
use Rattle.ps_script.specs.Generated.{generated_line, generated_act}
use Rattle.ua_values.specs.declared.value.Value.TheVariants.{UInt32}
use Rattle.ua_values.specs.Values.{Fits}
use Rattle.ps_config.specs.BuiltIn.{demo}

-- a number fits each of the four
pub demo_fits : (index n : ℕ) → index < 4 → HoldsAt (λ field. Fits (UInt32 n) field.kind field.cap) demo.fields index
unfolding demo
demo_fits zero n lt d = record { same_kind = refl; within = omega arith }
demo_fits (suc zero) n lt d = record { same_kind = refl; within = omega arith }
demo_fits (suc (suc zero)) n lt d = record { same_kind = refl; within = omega arith }
demo_fits (suc (suc (suc zero))) n lt d = record { same_kind = refl; within = omega arith }
demo_fits (suc (suc (suc (suc index)))) n lt d = absurd (omega arith)

pub four : length demo.fields ≡ 4
unfolding demo
four = refl

pub lines_more : (lines more : List Line) (index : ℕ) (line : Line) → lines ≡ map generated_line (range_with_len 0 index) → more ≡ lines ++ line ∷ [] → line ≡ generated_line index → more ≡ map generated_line (range_with_len 0 (index + 1))
lines_more lines more index line so_far is here =
    is ∙ ap (λ (ls : List Line). ls ++ line ∷ []) so_far ∙ ap (λ (l : Line). map generated_line (range_with_len 0 index) ++ l ∷ []) here
    ∙ sym (map-range_with_len_more generated_line 0 index index (omega arith))

-- the lines with the next one
pub acts_more : (lines more : List Line) (index : ℕ) (act : Act) → lines ≡ map generated_line (range_with_len 0 index) → more ≡ lines ++ with_act (index + 1) (Some act) [] → act ≡ generated_act index → more ≡ map generated_line (range_with_len 0 (index + 1))
acts_more lines more index act so_far is here =
    let line : Act → Line = λ a. record { at = index + 1; act = a } in
    lines_more lines more index (line act) so_far is (ap line here)
