-- The ticks of a script's lines, one line after another, and how often the pumps behind them are answered Nothing at most.
use Rattle.std.proofs.Common.{◌≡◌, ℕ, ◌+◌, ◌<◌, ◌≤◌, cond, List, length, take, get_or, refl, ap, arith}
use Rattle.std.proofs.lemmas.List.Sums.{sum_by-take-le, sum_by_more}
use Rattle.ps_config.specs.declared.parts.Config.{Config}
use Rattle.ps_script.specs.declared.script.Line.{Line}
use Rattle.ps_script.specs.declared.script.Script.{Script}
use Rattle.ps_script.specs.Sessions.{is_tick, ticks_in}
use Rattle.ps_script.specs.Sound.{IsScript}
use Rattle.session_model.specs.Counts.{session_nothings}
use Rattle.script_player.specs.Passing.{nothings_by}
use Rattle.script_player.proofs.Next.{no_line}

-- one line more
pub ticks-more : (lines items : List Line) (k ticks : ℕ) → items ≡ lines → k < length items → ticks ≡ ticks_in (take k lines)
    → ticks + cond (is_tick (get_or items k no_line).act) 1 0 ≡ ticks_in (take (k + 1) lines)
ticks-more lines items k ticks alike lt so =
    let within : k < length lines = (let e = ap length alike in omega (arith, lt, e)) in
    let all = sum_by_more (λ (l : Line). cond (is_tick l.act) 1 0) lines k no_line within in
    let same : cond {A = ℕ} (is_tick (get_or items k no_line).act) 1 0 ≡ cond (is_tick (get_or lines k no_line).act) 1 0 =
    ap {B = ℕ} (λ (l : List Line). cond {A = ℕ} (is_tick (get_or l k no_line).act) 1 0) alike in
    omega (arith, so, all, same)

-- the first lines have no more ticks than all
pub ticks-within : (lines : List Line) (k : ℕ) → ticks_in (take k lines) ≤ ticks_in lines
ticks-within lines k = sum_by-take-le (λ (l : Line). cond (is_tick l.act) 1 0) lines k

-- so often the pumps of one line more may be answered Nothing
pub nothings-next : (lines items : List Line) (k : ℕ) → items ≡ lines → k < length items
    → ticks_in (take k lines) + nothings_by (get_or items k no_line).act ≤ ticks_in (take (k + 1) lines)
nothings-next lines items k alike lt =
    let more : ticks_in (take k lines) + cond (is_tick (get_or items k no_line).act) 1 0 ≡ ticks_in (take (k + 1) lines) = ticks-more lines items k (ticks_in (take k lines)) alike lt refl in
    omega (arith, more)

-- and so no more often than all of them
pub nothings-within : (lines items : List Line) (k : ℕ) → items ≡ lines → k < length items
    → ticks_in (take k lines) + nothings_by (get_or items k no_line).act ≤ ticks_in lines
nothings-within lines items k alike lt = omega (arith, nothings-next lines items k alike lt, ticks-within lines (k + 1))

-- those of a whole script, with the closing one
pub few-nothings : (config : Config) (script : Script) → IsScript config script → ticks_in script.lines + 1 ≤ session_nothings
few-nothings config script is =
    let few : ticks_in script.lines + 1 ≤ 4096 + 1 = omega (arith, is.few.ticks) in few
