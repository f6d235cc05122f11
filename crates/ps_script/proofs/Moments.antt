-- The moments of ticks.
use Rattle.std.proofs.Common.{◌≡◌, ℕ, zero, suc, ◌+◌, ◌*◌, ◌≤◌, cond, List, [], ◌∷◌, ◌++◌, take, Some, slice_get, refl, ap, ◌∙◌, subst, arith}
use Rattle.std.specs.Prelude.{sum, flat_map}
use Rattle.std.proofs.lemmas.List.Concat.{flat_map-append}
use Rattle.std.proofs.lemmas.List.Sums.{sum_by-append, sum_by-cons}
use Rattle.dataset_meta.specs.Metas.{MetaData}
use Rattle.ps_config.specs.declared.parts.Config.{Config}
use Rattle.ps_script.specs.declared.script.Line.{Line}
use Rattle.ps_script.specs.declared.script.Act.{Act}
use Rattle.ps_script.specs.declared.script.Act.TheVariants as act
use Rattle.ps_script.specs.declared.script.Script.{Script}
use Rattle.ps_script.specs.Sessions.{is_tick, ticks_in, spans_by, moment_after}
use Rattle.ps_script.specs.Sound.{IsAct, IsScript}

sum_parts : (xs ys : List ℕ) → sum (xs ++ ys) ≡ sum xs + sum ys
sum_parts xs ys = sum_by-append (λ (x : ℕ). x) xs ys

moment_cons : (line : Line) (lines : List Line) → moment_after (line ∷ lines) ≡ sum (spans_by line.act) + moment_after lines
moment_cons line lines = sum_parts (spans_by line.act) (flat_map (λ (l : Line). spans_by l.act) lines)

moment_append : (lines more : List Line) → moment_after (lines ++ more) ≡ moment_after lines + moment_after more
moment_append lines more =
    ap (λ (spans : List ℕ). sum spans) (flat_map-append (λ (l : Line). spans_by l.act) lines more)
    ∙ sum_parts (flat_map (λ (l : Line). spans_by l.act) lines) (flat_map (λ (l : Line). spans_by l.act) more)

pub moment_later : (lines more : List Line) → moment_after lines ≤ moment_after (lines ++ more)
moment_later lines more = let both = moment_append lines more in omega (arith, both)

pub moment_tick : (lines : List Line) (at ms : ℕ) → moment_after (lines ++ record { at = at; act = act.Tick ms } ∷ []) ≡ moment_after lines + ms
moment_tick lines at ms =
    let one : Line = record { at = at; act = act.Tick ms } in
    let span : 0 + ms ≡ ms = omega arith in
    moment_append lines (one ∷ []) ∙ ap (λ (n : ℕ). moment_after lines + n) span

zero_le : (n : ℕ) → 0 ≤ n
zero_le n = omega arith

-- a line's milliseconds, at most an hour where it is a tick
span_most : (config : Config) (full : List MetaData) (before : List Line) (a : Act) → IsAct config full before a → sum (spans_by a) ≤ cond (is_tick a) 1 0 * 3600000
span_most config full before (act.Tick ms) is = let span : ms ≡ 0 + ms = omega arith in subst (λ (n : ℕ). n ≤ 3600000) span is.1
span_most config full before (act.Write thread set patch) is = zero_le 0
span_most config full before (act.Enable id) is = zero_le 0
span_most config full before (act.Disable id) is = zero_le 0
span_most config full before (act.Fated number fate) is = zero_le 0
span_most config full before (act.Watch thread reader times) is = zero_le 0
span_most config full before (act.Append set) is = zero_le 0

spans_most : (lines : List Line) → ((k : ℕ) (line : Line) → slice_get lines k ≡ Some line → sum (spans_by line.act) ≤ cond (is_tick line.act) 1 0 * 3600000) → moment_after lines ≤ ticks_in lines * 3600000
spans_most [] each = zero_le 0
spans_most (line ∷ lines) each =
    let here : sum (spans_by line.act) ≤ cond (is_tick line.act) 1 0 * 3600000 = each zero line refl in
    let rest : moment_after lines ≤ ticks_in lines * 3600000 = spans_most lines (λ k l found. each (suc k) l found) in
    let count : ticks_in (line ∷ lines) ≡ cond (is_tick line.act) 1 0 + ticks_in lines = sum_by-cons (λ (l : Line). cond (is_tick l.act) 1 0) line lines in
    let moment = moment_cons line lines in
    omega (arith, here, rest, count, moment)

pub moment_most : (config : Config) (script : Script) → IsScript config script → moment_after script.lines ≤ 4096 * 3600000
moment_most config script is =
    let spans : moment_after script.lines ≤ ticks_in script.lines * 3600000 =
    spans_most script.lines (λ k line found. span_most config script.metas (take k script.lines) line.act (is.acts k line found)) in
    let ticks : ticks_in script.lines ≤ 4096 = is.few.ticks in
    omega (arith, spans, ticks)
