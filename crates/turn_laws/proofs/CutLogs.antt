-- A number that stands in a log's beginning stands nowhere behind it, where there are few data frames.
use Rattle.std.proofs.Common.{◌≡◌, sym, refl, ap, ◌∙◌, subst, arith, ◌⊎◌, inl, inr, ℕ, ◌+◌, ◌<◌, ◌≤◌, ◌==◌, Bool, true, List, length, take, drop, reverse, find, get_or, slice_get, Option, Some, None, option_map}
use Rattle.std.specs.Prelude.{◌%◌}
use Rattle.std.specs.Option.{option_or}
use Rattle.std.proofs.lemmas.Bool.Decides.{nat_tests}
use Rattle.std.proofs.lemmas.List.{get_or-drop, get_or-take, length-drop, length-take, reverse-append, take-append-drop}
use Rattle.std.proofs.lemmas.List.Folds.{find-append}
use Rattle.std.proofs.lemmas.Option.{none-some, slice_get-get_or}
use Rattle.pubsub_model.specs.Answers.{version_of}
use Rattle.pubsub_model.proofs.PlaceLaws.{log-in_row}
use Rattle.group_keys.proofs.Finding.{last_found_listed, last_found_passes}
use Rattle.writer_group.specs.Parts.{group_at}
use Rattle.writer_group.specs.Turns.{writer_past}
use Rattle.session_model.specs.Steps.{Plan}
use Rattle.session_model.specs.Keeping.{AreStepsOf}
use Rattle.session_model.specs.Deeds.{group_past}
use Rattle.session_model.specs.Lives.{Lived, account_in, log_in, steps_in}
use Rattle.session_model.proofs.Lasting.{ticks-few}
use Rattle.session_model.proofs.Ticks.{log-few-in, log-whole-in}
use Rattle.session_laws.specs.Pasts.{settings_at}
use Rattle.turn_laws.specs.Cut.{TellsAsWhole}

abbrev has_number : ℕ → ℕ × ℕ → Bool
has_number number entry = entry.0 % 65536 == number

-- the places of a log are in a row from this one on
abbrev IsInRow : ℕ → List (ℕ × ℕ) → Type 0
IsInRow first log = (j : ℕ) (entry : ℕ × ℕ) → slice_get log j ≡ Some entry → entry.0 ≡ first + j

place-at : (first : ℕ) (log : List (ℕ × ℕ)) (i : ℕ) (entry : ℕ × ℕ) → IsInRow first log → i < length log → entry ≡ get_or log i entry → entry.0 ≡ first + i
place-at first log i entry row low is = row i entry (slice_get-get_or log i entry low ∙ ap Some (sym is))

number-is : (number : ℕ) (entry : ℕ × ℕ) → has_number number entry ≡ true → entry.0 % 65536 ≡ number
number-is number entry has = let same : (entry.0 % 65536 == number) ≡ true = has in grind (arith, nat_tests)

apart : (first j k number one other : ℕ) → one ≡ first + j → other ≡ first + k → one % 65536 ≡ number → other % 65536 ≡ number → j < k → k < 65536 → ⊥
apart first j k number one other one_is other_is one_has other_has less few = omega arith

-- of few data frames none behind the beginning has the number of one in it
none-behind : (first most number : ℕ) (log : List (ℕ × ℕ)) (one other : ℕ × ℕ) → IsInRow first log → length log ≤ 65536
    → find (has_number number) (reverse (take most log)) ≡ Some one → find (has_number number) (reverse (drop most log)) ≡ Some other → ⊥
none-behind first most number log one other row few in_front behind =
    let at = last_found_listed (has_number number) (take most log) one in_front in
    let past = last_found_listed (has_number number) (drop most log) other behind in
    let j : ℕ = at.0 in
    let k : ℕ = past.0 in
    let low : j < length (take most log) = at.1.0 in
    let less : k < length (drop most log) = past.1.0 in
    let taken = length-take most log in
    let dropped = length-drop most log in
    let front : j < most = omega (arith, low, taken) in
    let within : j < length log = omega (arith, low, taken) in
    let all : most + k < length log = omega (arith, less, dropped) in
    apart first j (most + k) number one.0 other.0
    (place-at first log j one row within (at.1.1 ∙ get_or-take most log j one front))
    (place-at first log (most + k) other row all (past.1.1 ∙ get_or-drop most log k other))
    (number-is number one (last_found_passes (has_number number) (take most log) one in_front))
    (number-is number other (last_found_passes (has_number number) (drop most log) other behind))
    (omega (arith, front)) (omega (arith, all, few))

split : (most number : ℕ) (log : List (ℕ × ℕ))
    → find (has_number number) (reverse log) ≡ option_or (find (has_number number) (reverse (drop most log))) (find (has_number number) (reverse (take most log)))
split most number log =
    ap (λ (l : List (ℕ × ℕ)). find (has_number number) (reverse l)) (sym (take-append-drop most log))
    ∙ ap (λ (l : List (ℕ × ℕ)). find (has_number number) l) (reverse-append (take most log) (drop most log))
    ∙ find-append (has_number number) (reverse (drop most log)) (reverse (take most log))

abbrev version_in : Option (ℕ × ℕ) → Option ℕ
version_in found = option_map (λ entry. entry.1) found

by-parts : (behind in_front : Option (ℕ × ℕ)) (version : ℕ) → ((one other : ℕ × ℕ) → in_front ≡ Some one → behind ≡ Some other → ⊥) → version_in in_front ≡ Some version
    → version_in (option_or behind in_front) ≡ Some version
by-parts None in_front version none told = told
by-parts (Some other) None version none told = absurd (none-some version told)
by-parts (Some other) (Some one) version none told = absurd (none one other refl refl)

cut-same : (first most number version : ℕ) (log : List (ℕ × ℕ)) → IsInRow first log → length log ≤ 65536 → version_of (take most log) number ≡ Some version → version_of log number ≡ Some version
cut-same first most number version log row few told =
    ap version_in (split most number log)
    ∙ by-parts (find (has_number number) (reverse (drop most log))) (find (has_number number) (reverse (take most log))) version
    (λ one other in_front behind. none-behind first most number log one other row few in_front behind) told

pub tells-as-whole : (ticks most : ℕ) (p : Plan) (life : List Lived) → AreStepsOf ticks p (steps_in life) → (ticks < 65536) ⊎ (ticks < most) → (g w : ℕ) → TellsAsWhole most (log_in p life g w)
tells-as-whole ticks most p life are (inl few) g w number version told =
    let short = log-few-in p g w life in
    let came = ticks-few ticks p (steps_in life) are in
    let settings = settings_at (group_at p.config g) w in
    let past = writer_past w (group_past p.config g (account_in p life).deeds) in
    cut-same settings.first_number most number version (log_in p life g w) (λ j entry at. log-in_row settings past j entry at) (omega (arith, short, came, few)) told
tells-as-whole ticks most p life are (inr whole) g w number version told =
    subst (λ (log : List (ℕ × ℕ)). version_of log number ≡ Some version) (log-whole-in most ticks p life are whole g w) told
