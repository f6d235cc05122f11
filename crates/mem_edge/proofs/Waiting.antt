-- What waits for a number, from fates that are sorted once.
use Rattle.std.proofs.Common.{◌≡◌, ℕ, ◌+◌, ◌<◌, ◌≤◌, Bool, true, false, cond, List, [], ◌∷◌, ◌++◌, length, get_or, map, replicate, All, Option, Some, None, refl, sym, ap, ◌∙◌, subst, append_assoc, inl, inr, arith, length-append}
use Rattle.std.specs.Prelude.{◌==◌, filter, find, slice_get, unwrap_or, if◌then◌else◌}
use Rattle.std.specs.List.{filter_map, cons_option, enumerate_from, list_any}
use Rattle.std.specs.List.Sorted.{IsNonDecreasingBy}
use Rattle.std.specs.Option.{option_map, option_map_or}
use Rattle.std.proofs.lemmas.Bool.{cases_eq}
use Rattle.std.proofs.lemmas.Bool.Decides.{nat_tests}
use Rattle.std.proofs.lemmas.List.{get_or-map}
use Rattle.std.proofs.lemmas.List.Elements.{All-cons, All-filter, All-nil}
use Rattle.std.proofs.lemmas.List.Sorted.{IsNonDecreasingBy-drop}
use Rattle.std.proofs.lemmas.Option.{slice_get_past}
use Rattle.ua_base.specs.declared.link.Fate.{Fate}
use Rattle.ua_base.specs.declared.link.Fate.TheVariants as fate
use Rattle.ua_base.specs.Fates.{AreFates}
use Rattle.mem_edge.specs.Holds.{hold_of}
use Rattle.mem_edge.specs.declared.plan.Plan.{Plan}
use Rattle.mem_edge.specs.Plans.{IsOnce, IsPlan, places_of}
use Rattle.mem_edge.specs.Queueing.{fate_of, waits_for, copies_of, waiting_for, injected_after, own_copies, queued_by}

-- ---- look-ups in a list with the pairs of a number together

pub find_filter : {X : Type 0} (p : X → Bool) (xs : List X) → slice_get (filter p xs) 0 ≡ find p xs
find_filter p [] = refl
find_filter {X} p (x ∷ xs) = elim (p x) as (λ b. slice_get (cond b (x ∷ filter p xs) (filter p xs)) 0 ≡ cond b (Some x) (find p xs)) [ true ↦ refl | false ↦ find_filter p xs ]

pub same_fate : (sorted fates : List (ℕ × Fate)) (number : ℕ) → filter (λ f. f.0 == number) sorted ≡ filter (λ f. f.0 == number) fates → fate_of sorted number ≡ fate_of fates number
same_fate sorted fates number same =
    ap (λ (o : Option (ℕ × Fate)). option_map (λ f. f.1) o)
    (sym (find_filter (λ (f : ℕ × Fate). f.0 == number) sorted) ∙ ap (λ (l : List (ℕ × Fate)). slice_get l 0) same ∙ find_filter (λ (f : ℕ × Fate). f.0 == number) fates)

-- ---- fates in rising order

-- each number is at least this one, and above those before it
abbrev RisingFrom : ℕ → List (ℕ × Fate) → Type 0
RisingFrom low [] = Unit {0}
RisingFrom low (f ∷ fates) = (low ≤ f.0) × RisingFrom (f.0 + 1) fates

abbrev StartsFrom : ℕ → List (ℕ × Fate) → Type 0
StartsFrom low [] = Unit {0}
StartsFrom low (f ∷ fates) = low ≤ f.0

fewer : {X : Type 0} (p : X → Bool) (x : X) (xs : List X) → length (filter p xs) ≤ length (filter p (x ∷ xs))
fewer {X} p x xs = elim (p x) as (λ b. length (filter p xs) ≤ length (cond b (x ∷ filter p xs) (filter p xs))) [ true ↦ omega arith | false ↦ omega arith ]

twice : (f g : ℕ × Fate) (fates : List (ℕ × Fate)) → g.0 ≡ f.0 → length (filter (λ p. p.0 == f.0) (f ∷ g ∷ fates)) ≤ 1 → ⊥
twice f g fates same once =
    let here : (f.0 == f.0) ≡ true = grind (arith, nat_tests) in
    let there : (g.0 == f.0) ≡ true = grind (arith, nat_tests) in
    omega (arith, rw (here, there) at once)

next_above : (f : ℕ × Fate) (fates : List (ℕ × Fate)) → IsNonDecreasingBy (λ p. p.0) (f ∷ fates) → IsOnce (f ∷ fates) → StartsFrom (f.0 + 1) fates
next_above f [] sorted once = tt
next_above f (g ∷ fates) sorted once =
    elim (cases_eq g.0 f.0) [
      | inl same ↦ absurd (twice f g fates same (once f.0))
      | inr differ ↦ let le : f.0 ≤ g.0 = sorted 0 1 f (omega arith) (omega arith) in omega (arith, le, differ)
    ]

rising : (low : ℕ) (fates : List (ℕ × Fate)) → IsNonDecreasingBy (λ p. p.0) fates → IsOnce fates → StartsFrom low fates → RisingFrom low fates
rising low [] sorted once start = tt
rising low (f ∷ fates) sorted once start = (
  start,
  rising (f.0 + 1) fates (IsNonDecreasingBy-drop (λ (p : ℕ × Fate). p.0) 1 (f ∷ fates) sorted)
      (λ number. omega (arith, once number, fewer (λ (p : ℕ × Fate). p.0 == number) f fates)) (next_above f fates sorted once),
)

starts_low : (fates : List (ℕ × Fate)) → StartsFrom 0 fates
starts_low [] = tt
starts_low (f ∷ fates) = omega arith

-- no fate below the lowest
none_below : (low number : ℕ) (fates : List (ℕ × Fate)) → RisingFrom low fates → number < low → fate_of fates number ≡ None
none_below low number [] up lt = refl
none_below low number (f ∷ fates) up lt =
    let other : (f.0 == number) ≡ false = grind (arith, nat_tests, up.0) in
    rw other (none_below (f.0 + 1) number fates up.1 (omega (arith, up.0, lt)))

-- ---- what waits for a number: by the sorted fates, and by the sends

abbrev by_fate : ℕ → List (Option (List ℕ)) → ℕ × Fate → Option (List ℕ)
by_fate number sends f = if waits_for number f.1 then unwrap_or (slice_get sends f.0) None else None

abbrev by_send : ℕ → List (ℕ × Fate) → ℕ × Option (List ℕ) → Option (List ℕ)
by_send number fates s = if option_map_or (waits_for number) (fate_of fates s.0) false then s.1 else None

one_hold : (number m : ℕ) (this : Fate) (rest : List (ℕ × ℕ)) (sends : List (Option (List ℕ)))
    → filter_map (λ h. unwrap_or (slice_get sends h.1) None) (filter (λ h. h.0 == number) (cons_option (hold_of m this) rest))
    ≡ cons_option (by_fate number sends (m, this)) (filter_map (λ h. unwrap_or (slice_get sends h.1) None) (filter (λ h. h.0 == number) rest))
one_hold number m fate.Drop rest sends = refl
one_hold number m (fate.Repeat times) rest sends = refl
one_hold number m (fate.Hold after) rest sends =
    let g : ℕ × ℕ → Option (List ℕ) = λ h. unwrap_or (slice_get sends h.1) None in
    let left : List (ℕ × ℕ) = filter (λ (h : ℕ × ℕ). h.0 == number) rest in
    elim (after == number) as (λ b. filter_map g (cond b ((after, m) ∷ left) left) ≡ cons_option (if b then unwrap_or (slice_get sends m) None else None) (filter_map g left)) [ true ↦ refl | false ↦ refl ]
one_hold number m (fate.Again after) rest sends =
    let g : ℕ × ℕ → Option (List ℕ) = λ h. unwrap_or (slice_get sends h.1) None in
    let left : List (ℕ × ℕ) = filter (λ (h : ℕ × ℕ). h.0 == number) rest in
    elim (after == number) as (λ b. filter_map g (cond b ((after, m) ∷ left) left) ≡ cons_option (if b then unwrap_or (slice_get sends m) None else None) (filter_map g left)) [ true ↦ refl | false ↦ refl ]

holds_by_fate : (number : ℕ) (fates : List (ℕ × Fate)) (sends : List (Option (List ℕ)))
    → filter_map (λ h. unwrap_or (slice_get sends h.1) None) (filter (λ h. h.0 == number) (filter_map (λ f. hold_of f.0 f.1) fates)) ≡ filter_map (by_fate number sends) fates
holds_by_fate number [] sends = refl
holds_by_fate number (f ∷ fates) sends =
    one_hold number f.0 f.1 (filter_map (λ (f : ℕ × Fate). hold_of f.0 f.1) fates) sends
    ∙ ap (λ (l : List (List ℕ)). cons_option (by_fate number sends f) l) (holds_by_fate number fates sends)

either_none : (b : Bool) → cond b (let none : Option (List ℕ) = None in none) None ≡ None
either_none true = refl
either_none false = refl

-- fates of numbers that weren't sent
by_fate_past : (number low : ℕ) (sends : List (Option (List ℕ))) (fates : List (ℕ × Fate)) → length sends ≤ low → RisingFrom low fates → filter_map (by_fate number sends) fates ≡ []
by_fate_past number low sends [] le up = refl
by_fate_past number low sends (f ∷ fates) le up =
    rw (slice_get_past sends f.0 (omega (arith, up.0, le)), either_none (waits_for number f.1)) (by_fate_past number (f.0 + 1) sends fates (omega (arith, up.0, le)) up.1)

-- a fate of an earlier number
by_send_later : (number low : ℕ) (f : ℕ × Fate) (fates : List (ℕ × Fate)) (sends : List (Option (List ℕ))) → f.0 < low
    → filter_map (by_send number (f ∷ fates)) (enumerate_from low sends) ≡ filter_map (by_send number fates) (enumerate_from low sends)
by_send_later number low f fates [] lt = refl
by_send_later number low f fates (s ∷ sends) lt =
    let other : (f.0 == low) ≡ false = grind (arith, nat_tests, lt) in
    rw (other, by_send_later number (low + 1) f fates sends (omega (arith, lt))) refl

slice_get_middle : {X : Type 0} (front : List X) (x : X) (rest : List X) → slice_get (front ++ x ∷ rest) (length front) ≡ Some x
slice_get_middle [] x rest = refl
slice_get_middle (y ∷ front) x rest = slice_get_middle front x rest

by_both : (number low : ℕ) (sends front rest : List (Option (List ℕ))) (fates : List (ℕ × Fate)) → low ≡ length front → sends ≡ front ++ rest → RisingFrom low fates
    → filter_map (by_fate number sends) fates ≡ filter_map (by_send number fates) (enumerate_from low rest)
by_both number low sends front [] fates at_low is up = by_fate_past number low sends fates (omega (arith, ap length is, length-append front [], at_low)) up
by_both number low sends front (s ∷ rest) [] at_low is up =
    by_both number (low + 1) sends (front ++ s ∷ []) rest [] (omega (arith, length-append front (s ∷ []), at_low)) (is ∙ sym (append_assoc front (s ∷ []) rest)) tt
by_both number low sends front (s ∷ rest) (f ∷ fates) at_low is up =
    elim (cases_eq f.0 low) [
      | inl here ↦
          let found : slice_get sends f.0 ≡ Some s = ap (slice_get sends) (here ∙ at_low) ∙ ap (λ (l : List (Option (List ℕ))). slice_get l (length front)) is ∙ slice_get_middle front s rest in
          let test : (f.0 == low) ≡ true = grind (arith, nat_tests, here) in
          let later : filter_map (by_fate number sends) fates ≡ filter_map (by_send number (f ∷ fates)) (enumerate_from (low + 1) rest) =
          by_both number (low + 1) sends (front ++ s ∷ []) rest fates (omega (arith, length-append front (s ∷ []), at_low)) (is ∙ sym (append_assoc front (s ∷ []) rest)) (subst (λ (n : ℕ). RisingFrom (n + 1) fates) here up.1)
          ∙ sym (by_send_later number (low + 1) f fates rest (omega (arith, here))) in
          rw (found, test, later) refl
      | inr above ↦
          let lt : low < f.0 = omega (arith, up.0, above) in
          let none : fate_of (f ∷ fates) low ≡ None = none_below f.0 low (f ∷ fates) (let low_here : f.0 ≤ f.0 = omega arith in (low_here, up.1)) lt in
          by_both number (low + 1) sends (front ++ s ∷ []) rest (f ∷ fates) (omega (arith, length-append front (s ∷ []), at_low)) (is ∙ sym (append_assoc front (s ∷ []) rest)) (let up_here : low + 1 ≤ f.0 = omega arith in (up_here, up.1))
          ∙ sym (ap (λ (o : Option Fate). cons_option (if option_map_or (waits_for number) o false then s else None) (filter_map (by_send number (f ∷ fates)) (enumerate_from (low + 1) rest))) none)
    ]

same_sends : (number : ℕ) (sorted fates : List (ℕ × Fate)) (sends : List (ℕ × Option (List ℕ))) → ((n : ℕ) → fate_of sorted n ≡ fate_of fates n) → filter_map (by_send number sorted) sends ≡ filter_map (by_send number fates) sends
same_sends number sorted fates [] same = refl
same_sends number sorted fates (s ∷ sends) same = rw (same s.0, same_sends number sorted fates sends same) refl

-- the held datagrams of a number that were sent are those that wait for it
pub waiting_is : (number : ℕ) (fates sorted : List (ℕ × Fate)) (held : List (ℕ × ℕ)) (sends : List (Option (List ℕ)))
    → held ≡ filter (λ h. h.0 == number) (filter_map (λ f. hold_of f.0 f.1) sorted) → ((n : ℕ) → filter (λ f. f.0 == n) sorted ≡ filter (λ f. f.0 == n) fates)
    → IsNonDecreasingBy (λ p. p.0) sorted → IsOnce fates
    → filter_map (λ h. unwrap_or (slice_get sends h.1) None) held ≡ waiting_for number fates sends
waiting_is number fates sorted held sends is same order once =
    ap (filter_map (λ (h : ℕ × ℕ). unwrap_or (slice_get sends h.1) None)) is ∙ holds_by_fate number sorted sends
    ∙ by_both number 0 sends [] sends sorted refl refl (rising 0 sorted order (λ n. rw (same n) (once n)) (starts_low sorted))
    ∙ same_sends number sorted fates (enumerate_from 0 sends) (λ n. same_fate sorted fates n (same n))

-- ---- no datagram has two fates

none_of : (number : ℕ) (fates : List (ℕ × Fate)) → list_any (λ f. f.0 == number) fates ≡ false → filter (λ f. f.0 == number) fates ≡ []
none_of number [] none = refl
none_of number (f ∷ fates) none = grind (arith, none_of number fates)

one_fate : (f : ℕ × Fate) (fates : List (ℕ × Fate)) → list_any (λ g. g.0 == f.0) fates ≡ false → IsOnce fates → (number : ℕ) → length (filter (λ g. g.0 == number) (f ∷ fates)) ≤ 1
one_fate f fates alone once number =
    elim (cases_eq f.0 number) [
      | inl same ↦
          let here : (f.0 == number) ≡ true = grind (arith, nat_tests, same) in
          let none : filter (λ (g : ℕ × Fate). g.0 == number) fates ≡ [] = subst (λ (n : ℕ). filter (λ (g : ℕ × Fate). g.0 == n) fates ≡ []) same (none_of f.0 fates alone) in
          rw (here, none) (omega arith)
      | inr differ ↦ let other : (f.0 == number) ≡ false = grind (arith, nat_tests, differ) in rw other (once number)
    ]

pub once_from_fates : (fates : List (ℕ × Fate)) → AreFates fates → IsOnce fates
once_from_fates [] are = λ number. omega arith
once_from_fates (f ∷ fates) are = one_fate f fates are.1 (once_from_fates fates are.2)

-- ---- injected datagrams

abbrev places_from : ℕ → List (ℕ × List ℕ) → List (ℕ × ℕ)
places_from low injected = map (λ e. (e.1.0, e.0)) (enumerate_from low injected)

middle : {X : Type 0} (front : List X) (x : X) (rest : List X) (d : X) → get_or (front ++ x ∷ rest) (length front) d ≡ x
middle [] x rest d = refl
middle (y ∷ front) x rest d = middle front x rest d

bytes_at : (injected front rest : List (ℕ × List ℕ)) (x : ℕ × List ℕ) (low : ℕ) → low ≡ length front → injected ≡ front ++ x ∷ rest → get_or (map (λ p. p.1) injected) low [] ≡ x.1
bytes_at injected front rest x low at_low is =
    let low_lt : low < length injected = omega (arith, at_low, ap length is, length-append front (x ∷ rest)) in
    get_or-map (λ (p : ℕ × List ℕ). p.1) injected low x [] low_lt ∙ ap (λ (p : ℕ × List ℕ). p.1) (ap (λ (l : List (ℕ × List ℕ)). get_or l low x) is ∙ ap (λ (n : ℕ). get_or (front ++ x ∷ rest) n x) at_low ∙ middle front x rest x)

injected_from : (number low : ℕ) (injected front rest : List (ℕ × List ℕ)) → low ≡ length front → injected ≡ front ++ rest
    → map (λ p. get_or (map (λ q. q.1) injected) p.1 []) (filter (λ p. p.0 == number) (places_from low rest)) ≡ map (λ p. p.1) (filter (λ p. p.0 == number) rest)
injected_from number low injected front [] at_low is = refl
injected_from number low injected front (x ∷ rest) at_low is =
    let g : ℕ × ℕ → List ℕ = λ p. get_or (map (λ (q : ℕ × List ℕ). q.1) injected) p.1 [] in
    let places : List (ℕ × ℕ) = filter (λ (p : ℕ × ℕ). p.0 == number) (places_from (low + 1) rest) in
    let left : List (ℕ × List ℕ) = filter (λ (p : ℕ × List ℕ). p.0 == number) rest in
    let others : map g places ≡ map (λ (p : ℕ × List ℕ). p.1) left =
    injected_from number (low + 1) injected (front ++ x ∷ []) rest (omega (arith, length-append front (x ∷ []), at_low)) (is ∙ sym (append_assoc front (x ∷ []) rest)) in
    let here : g (x.0, low) ≡ x.1 = bytes_at injected front rest x low at_low is in
    elim (x.0 == number) as (λ b. map g (cond b ((x.0, low) ∷ places) places) ≡ map (λ (p : ℕ × List ℕ). p.1) (cond b (x ∷ left) left)) [
      | true ↦ ap (λ (l : List (List ℕ)). g (x.0, low) ∷ l) others ∙ ap (λ (d : List ℕ). d ∷ map (λ (p : ℕ × List ℕ). p.1) left) here
      | false ↦ others
    ]

-- the injected datagrams of a number, by their places
pub injected_is : (number : ℕ) (injected : List (ℕ × List ℕ)) (run : List (ℕ × ℕ)) → run ≡ filter (λ p. p.0 == number) (places_of injected) → map (λ p. get_or (map (λ q. q.1) injected) p.1 []) run ≡ injected_after number injected
injected_is number injected run is =
    ap (map (λ (p : ℕ × ℕ). get_or (map (λ (q : ℕ × List ℕ). q.1) injected) p.1 [])) is ∙ injected_from number 0 injected [] injected refl refl

low_from : (low bound : ℕ) (injected : List (ℕ × List ℕ)) → low + length injected ≤ bound → All (λ p. p.1 < bound) (places_from low injected)
low_from low bound [] le = All-nil (λ (p : ℕ × ℕ). p.1 < bound)
low_from low bound (x ∷ injected) le = All-cons (λ (p : ℕ × ℕ). p.1 < bound) (x.0, low) (places_from (low + 1) injected) (omega arith) (low_from (low + 1) bound injected (omega arith))

-- and each place is one of the list
pub injected_low : (number : ℕ) (injected : List (ℕ × List ℕ)) (run : List (ℕ × ℕ)) → run ≡ filter (λ p. p.0 == number) (places_of injected) → All (λ p. p.1 < length injected) run
injected_low number injected run is =
    subst (λ (l : List (ℕ × ℕ)). All (λ (p : ℕ × ℕ). p.1 < length injected) l) (sym is) (All-filter (λ (p : ℕ × ℕ). p.0 == number) (λ (p : ℕ × ℕ). p.1 < length injected) (places_of injected) (low_from 0 (length injected) injected (omega arith)))

-- the places of injected datagrams are those of their bytes
pub places_same : {V : Type 0} (bytes : V → List ℕ) (low : ℕ) (injected : List (ℕ × V)) → map (λ e. (e.1.0, e.0)) (enumerate_from low injected) ≡ places_from low (map (λ p. (p.0, bytes p.1)) injected)
places_same bytes low [] = refl
places_same {V} bytes low (x ∷ injected) = ap (λ (l : List (ℕ × ℕ)). (x.0, low) ∷ l) (places_same bytes (low + 1) injected)

-- ---- all that a send queues

pub queued_is : (number copies : ℕ) (fates : List (ℕ × Fate)) (injected : List (ℕ × List ℕ)) (plan : Plan) (sends : List (Option (List ℕ))) (datagram : List ℕ) (held run : List (ℕ × ℕ)) → number ≡ length sends → IsPlan fates injected plan → IsOnce fates
    → copies ≡ option_map_or copies_of (fate_of plan.fates.pairs.items number) 1 → held ≡ filter (λ h. h.0 == number) plan.held.pairs.items → run ≡ filter (λ p. p.0 == number) plan.injected.pairs.items
    → replicate copies datagram ++ filter_map (λ h. unwrap_or (slice_get sends h.1) None) held ++ map (λ p. get_or (map (λ q. q.1) injected) p.1 []) run ≡ queued_by fates injected sends datagram
queued_is number copies fates injected plan sends datagram held run numbered planned once own heard others =
    let own_is : replicate copies datagram ≡ own_copies (fate_of fates number) datagram =
    ap (λ (k : ℕ). replicate k datagram) (own ∙ ap (λ (o : Option Fate). option_map_or copies_of o 1) (same_fate plan.fates.pairs.items fates number (planned.fated number))) in
    let heard_is : filter_map (λ (h : ℕ × ℕ). unwrap_or (slice_get sends h.1) None) held ≡ waiting_for number fates sends =
    waiting_is number fates plan.fates.pairs.items held sends (heard ∙ planned.held number) planned.fated plan.fates.rising once in
    let others_is : map (λ (p : ℕ × ℕ). get_or (map (λ (q : ℕ × List ℕ). q.1) injected) p.1 []) run ≡ injected_after number injected = injected_is number injected run (others ∙ planned.placed number) in
    rw (own_is, heard_is, others_is) (ap (λ (n : ℕ). own_copies (fate_of fates n) datagram ++ waiting_for n fates sends ++ injected_after n injected) numbered)
