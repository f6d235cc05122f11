-- Causes that came are named, each with its count, in one order; one that isn't named never came.
use Rattle.std.proofs.Common.{◌≡◌, ℕ, Bool, true, false, List, [], ◌∷◌, ◌++◌, length, refl, sym, ◌∙◌, subst, arith, append_assoc}
use Rattle.std.specs.Prelude.{nat_eq, not, ◌&&◌, ◌||◌}
use Rattle.std.specs.List.{list_all, flat_map, zip, AllByRecursion}
use Rattle.std.specs.Fmt.{decimal}
use Rattle.std.proofs.lemmas.Bool.{and_parts}
use Rattle.std.proofs.lemmas.List.{append_cancel_left}
use Rattle.std.proofs.lemmas.Bool.Decides.{nat_tests}
use Rattle.ps_report.specs.Lines.{cause_text, causes_text}
use Rattle.ps_report.specs.Words.{cause_words}
use Rattle.report_laws.specs.Numbers.{IsNumber}
use Rattle.report_laws.proofs.Cutting.{Stops, cut, is_visible, stops_digits, head_same, tail_same}
use Rattle.report_laws.proofs.Entries.{number_cut}

-- ---- words apart from one another

abbrev is_same : List ℕ → List ℕ → Bool
is_same [] [] = true
is_same [] (d ∷ other) = false
is_same (c ∷ word) [] = false
is_same (c ∷ word) (d ∷ other) = nat_eq c d && is_same word other

same_itself : (word : List ℕ) → is_same word word ≡ true
same_itself [] = refl
same_itself (c ∷ word) = let e : nat_eq c c ≡ true = grind (arith, nat_tests) in rw e (same_itself word)

-- the word is one of these
abbrev is_among : List ℕ → List (List ℕ) → Bool
is_among word [] = false
is_among word (other ∷ words) = is_same other word || is_among word words

-- no byte of a word ends it, and none is there twice
abbrev is_word_byte : ℕ → Bool
is_word_byte byte = not (nat_eq byte 61)

abbrev are_apart : List (List ℕ) → Bool
are_apart [] = true
are_apart (word ∷ words) = list_all is_word_byte word && (not (is_among word words) && are_apart words)

twenty : length cause_words ≡ 20
unfolding cause_words
twenty = refl

apart_all : are_apart cause_words ≡ true
unfolding cause_words
apart_all = refl

record AreApart (word : List ℕ) (words : List (List ℕ)) : Type 0 where
  bytes : list_all is_word_byte word ≡ true
  other : is_among word words ≡ false
  rest : are_apart words ≡ true

not_true : (b : Bool) → not b ≡ true → b ≡ false
not_true false is = refl
not_true true is = absurd (cc)

apart : (word : List ℕ) (words : List (List ℕ)) → are_apart (word ∷ words) ≡ true → AreApart word words
apart word words is =
    let one = and_parts (list_all is_word_byte word) (not (is_among word words) && are_apart words) is in
    let two = and_parts (not (is_among word words)) (are_apart words) one.1 in
    record { bytes = one.0; other = not_true (is_among word words) two.0; rest = two.1 }

-- ---- named causes

abbrev named_text : List (List ℕ) → List ℕ → List ℕ
named_text words counts = flat_map (λ cause. cause_text cause.0 cause.1) (zip words counts)

-- what a cause that came begins with
named_is : (word : List ℕ) (count : ℕ) (s : List ℕ) → nat_eq count 0 ≡ false → cause_text word count ++ s ≡ 32 ∷ (word ++ (61 ∷ (decimal count ++ s)))
unfolding cause_text
named_is word count s came = rw came (simp append_assoc)

none_is : (word : List ℕ) (count : ℕ) (s : List ℕ) → nat_eq count 0 ≡ true → cause_text word count ++ s ≡ s
unfolding cause_text
none_is word count s never = rw never refl

either_any : (a b : Bool) → b ≡ true → (a || b) ≡ true
either_any true b is = refl
either_any false b is = is

-- what begins as a named cause names one of these
named_among : (word : List ℕ) (words : List (List ℕ)) (counts : List ℕ) (s t : List ℕ) → list_all is_word_byte word ≡ true → are_apart words ≡ true
    → named_text words counts ++ 10 ∷ s ≡ 32 ∷ (word ++ (61 ∷ t)) → is_among word words ≡ true
named_among word [] counts s t bytes are same = absurd (let e : 10 ≡ 32 = head_same 10 32 s (word ++ (61 ∷ t)) same in omega arith)
named_among word (other ∷ words) [] s t bytes are same = absurd (let e : 10 ≡ 32 = head_same 10 32 s (word ++ (61 ∷ t)) same in omega arith)
named_among word (other ∷ words) (count ∷ counts) s t bytes are same =
    let a = apart other words are in
    let rest = named_text words counts in
    let from : cause_text other count ++ (rest ++ 10 ∷ s) ≡ 32 ∷ (word ++ (61 ∷ t)) = sym (append_assoc (cause_text other count) rest (10 ∷ s)) ∙ same in
    let none : nat_eq count 0 ≡ true → is_among word (other ∷ words) ≡ true =
    λ never. either_any (is_same other word) (is_among word words)
    (named_among word words counts s t bytes a.rest (sym (none_is other count (rest ++ 10 ∷ s) never) ∙ from)) in
    let came : nat_eq count 0 ≡ false → is_among word (other ∷ words) ≡ true =
    λ was. let read : other ++ (61 ∷ (decimal count ++ (rest ++ 10 ∷ s))) ≡ word ++ (61 ∷ t) =
    tail_same 32 32 (other ++ (61 ∷ (decimal count ++ (rest ++ 10 ∷ s)))) (word ++ (61 ∷ t)) (sym (named_is other count (rest ++ 10 ∷ s) was) ∙ from) in
    let parts = cut is_word_byte other word (61 ∷ (decimal count ++ (rest ++ 10 ∷ s))) (61 ∷ t) a.bytes bytes refl refl read in
    let it : is_same other word ≡ true = subst (λ w. is_same other w ≡ true) parts.0 (same_itself other) in
    rw it refl in
    by_test (nat_eq count 0) (is_among word (other ∷ words) ≡ true) none came
  where
    by_test : (b : Bool) (P : Type 0) → (b ≡ true → P) → (b ≡ false → P) → P
    by_test true P yes_so not_so = yes_so refl
    by_test false P yes_so not_so = not_so refl

-- what follows a count is a space or a line feed
named_stop : (words : List (List ℕ)) (counts : List ℕ) (s : List ℕ) → Stops is_visible (named_text words counts ++ 10 ∷ s)
named_stop [] counts s = refl
named_stop (word ∷ words) [] s = refl
named_stop (word ∷ words) (count ∷ counts) s =
    subst (Stops is_visible) (sym (append_assoc (cause_text word count) (named_text words counts) (10 ∷ s)))
    (go (nat_eq count 0) refl (named_stop words counts s))
  where
    go : (b : Bool) → nat_eq count 0 ≡ b → Stops is_visible (named_text words counts ++ 10 ∷ s) → Stops is_visible (cause_text word count ++ (named_text words counts ++ 10 ∷ s))
    go true never rest = subst (Stops is_visible) (sym (none_is word count (named_text words counts ++ 10 ∷ s) never)) rest
    go false came rest = subst (Stops is_visible) (sym (named_is word count (named_text words counts ++ 10 ∷ s) came)) refl

-- one cause and those behind it
cause_step : (word : List ℕ) (words : List (List ℕ)) (x y : ℕ) (xs ys : List ℕ) (s t : List ℕ) → AreApart word words → IsNumber x → IsNumber y
    → (named_text words xs ++ 10 ∷ s ≡ named_text words ys ++ 10 ∷ t → (xs ≡ ys) × (s ≡ t))
    → (a b : Bool) → nat_eq x 0 ≡ a → nat_eq y 0 ≡ b
    → cause_text word x ++ (named_text words xs ++ 10 ∷ s) ≡ cause_text word y ++ (named_text words ys ++ 10 ∷ t)
    → (x ∷ xs ≡ y ∷ ys) × (s ≡ t)
cause_step word words x y xs ys s t a in_x in_y others true true never_x never_y same =
    let rest = others (sym (none_is word x (named_text words xs ++ 10 ∷ s) never_x) ∙ same ∙ none_is word y (named_text words ys ++ 10 ∷ t) never_y) in
    let left : x ≡ 0 = grind (arith, nat_tests) in
    let right : y ≡ 0 = grind (arith, nat_tests) in
    let lists : xs ≡ ys = rest.0 in
    (cc, rest.1)
cause_step word words x y xs ys s t a in_x in_y others true false never_x came_y same =
    let there : is_among word words ≡ true =
    named_among word words xs s (decimal y ++ (named_text words ys ++ 10 ∷ t)) a.bytes a.rest
    (sym (none_is word x (named_text words xs ++ 10 ∷ s) never_x) ∙ same ∙ named_is word y (named_text words ys ++ 10 ∷ t) came_y) in
    let gone : is_among word words ≡ false = a.other in
    absurd (cc)
cause_step word words x y xs ys s t a in_x in_y others false true came_x never_y same =
    let there : is_among word words ≡ true =
    named_among word words ys t (decimal x ++ (named_text words xs ++ 10 ∷ s)) a.bytes a.rest
    (sym (none_is word y (named_text words ys ++ 10 ∷ t) never_y) ∙ sym same ∙ named_is word x (named_text words xs ++ 10 ∷ s) came_x) in
    let gone : is_among word words ≡ false = a.other in
    absurd (cc)
cause_step word words x y xs ys s t a in_x in_y others false false came_x came_y same =
    let left = named_text words xs ++ 10 ∷ s in
    let right = named_text words ys ++ 10 ∷ t in
    let from : word ++ (61 ∷ (decimal x ++ left)) ≡ word ++ (61 ∷ (decimal y ++ right)) =
    tail_same 32 32 (word ++ (61 ∷ (decimal x ++ left))) (word ++ (61 ∷ (decimal y ++ right))) (sym (named_is word x left came_x) ∙ same ∙ named_is word y right came_y) in
    let counts : decimal x ++ left ≡ decimal y ++ right =
    tail_same 61 61 (decimal x ++ left) (decimal y ++ right) (append_cancel_left word (61 ∷ (decimal x ++ left)) (61 ∷ (decimal y ++ right)) from) in
    let first = number_cut x y left right in_x in_y (stops_digits left (named_stop words xs s)) (stops_digits right (named_stop words ys t)) counts in
    let rest = others first.1 in
    let head : x ≡ y = first.0 in
    let lists : xs ≡ ys = rest.0 in
    (cc, rest.1)

named_cut : (words : List (List ℕ)) (xs ys : List ℕ) (s t : List ℕ) → are_apart words ≡ true → length xs ≡ length words → length ys ≡ length words
    → AllByRecursion IsNumber xs → AllByRecursion IsNumber ys
    → named_text words xs ++ 10 ∷ s ≡ named_text words ys ++ 10 ∷ t → (xs ≡ ys) × (s ≡ t)
named_cut [] [] [] s t are len_xs len_ys in_xs in_ys same = (refl, tail_same 10 10 s t same)
named_cut [] [] (y ∷ ys) s t are len_xs len_ys in_xs in_ys same = absurd (omega arith)
named_cut [] (x ∷ xs) ys s t are len_xs len_ys in_xs in_ys same = absurd (omega arith)
named_cut (word ∷ words) [] ys s t are len_xs len_ys in_xs in_ys same = absurd (omega arith)
named_cut (word ∷ words) (x ∷ xs) [] s t are len_xs len_ys in_xs in_ys same = absurd (omega arith)
named_cut (word ∷ words) (x ∷ xs) (y ∷ ys) s t are len_xs len_ys in_xs in_ys same =
    let a = apart word words are in
    cause_step word words x y xs ys s t a in_xs.0 in_ys.0
    (named_cut words xs ys s t a.rest (omega arith) (omega arith) in_xs.1 in_ys.1)
    (nat_eq x 0) (nat_eq y 0) refl refl
    (sym (append_assoc (cause_text word x) (named_text words xs) (10 ∷ s)) ∙ same ∙ append_assoc (cause_text word y) (named_text words ys) (10 ∷ t))

-- ` CAUSE=K ..`
pub causes_cut : (xs ys : List ℕ) (s t : List ℕ) → length xs ≡ 20 → length ys ≡ 20 → AllByRecursion IsNumber xs → AllByRecursion IsNumber ys
    → causes_text xs ++ 10 ∷ s ≡ causes_text ys ++ 10 ∷ t → (xs ≡ ys) × (s ≡ t)
causes_cut xs ys s t len_xs len_ys = named_cut cause_words xs ys s t apart_all (len_xs ∙ sym twenty) (len_ys ∙ sym twenty)
