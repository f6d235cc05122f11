-- Numbers, and entries of a line: each entry begins with a space, and a line ends with a line feed.
use Rattle.std.proofs.Common.{◌≡◌, ℕ, zero, suc, ◌/◌, ◌%◌, ◌<◌, Bool, true, false, List, [], ◌∷◌, ◌++◌, length, refl, sym, ap, ◌∙◌, arith, append_assoc}
use Rattle.std.specs.Prelude.{cond, nat_eq, Option, Some, None, IfSome}
use Rattle.std.specs.Char.{is_ascii_digit}
use Rattle.std.specs.Fmt.{digits, digits_onto, digit_glyph, decimal}
use Rattle.std.specs.List.{list_all, flat_map, AllByRecursion}
use Rattle.std.proofs.lemmas.Bool.Decides.{nat_tests}
use Rattle.std.proofs.lemmas.Fmt.{decimal_injective, decimal_nonempty}
use Rattle.pubsub_model.specs.declared.reading.Break.{Break}
use Rattle.ps_report.specs.Lines.{count_text, number_or_dash, numbers_text, log_text, breaks_text}
use Rattle.report_laws.specs.Numbers.{IsNumber}
use Rattle.report_laws.proofs.Cutting.{Stops, cut, is_visible, stops_digits, head_same, tail_same}

glyph_digit : (n : ℕ) → is_ascii_digit (digit_glyph false (n % 10)) ≡ true
glyph_digit n = let small : n % 10 < 10 = omega arith in grind (arith, nat_tests)

either : (b : Bool) (xs ys : List ℕ) → list_all is_ascii_digit xs ≡ true → list_all is_ascii_digit ys ≡ true → list_all is_ascii_digit (cond b xs ys) ≡ true
either true xs ys in_xs in_ys = in_xs
either false xs ys in_xs in_ys = in_ys

onto_digits : (k n : ℕ) (acc : List ℕ) → list_all is_ascii_digit acc ≡ true → list_all is_ascii_digit (digits_onto k 10 false n acc) ≡ true
onto_digits zero n acc all = all
onto_digits (suc k) n acc all =
    let more : list_all is_ascii_digit (digit_glyph false (n % 10) ∷ acc) ≡ true = rw (glyph_digit n) all in
    either (nat_eq (n / 10) 0) (digit_glyph false (n % 10) ∷ acc) (digits_onto k 10 false (n / 10) (digit_glyph false (n % 10) ∷ acc)) more
    (onto_digits k (n / 10) (digit_glyph false (n % 10) ∷ acc) more)

-- however large the number is
pub decimal_digits : (n : ℕ) → list_all is_ascii_digit (decimal n) ≡ true
unfolding digits
decimal_digits n = onto_digits 64 n [] refl

pub number_cut : (m n : ℕ) (s t : List ℕ) → IsNumber m → IsNumber n → Stops is_ascii_digit s → Stops is_ascii_digit t
    → decimal m ++ s ≡ decimal n ++ t → (m ≡ n) × (s ≡ t)
number_cut m n s t in_m in_n end_s end_t same =
    let parts = cut is_ascii_digit (decimal m) (decimal n) s t (decimal_digits m) (decimal_digits n) end_s end_t same in
    (decimal_injective m n in_m in_n parts.0, parts.1)

-- ` N:`
counted_is : (n : ℕ) (s : List ℕ) → count_text n ++ s ≡ 32 ∷ (decimal n ++ 58 ∷ s)
unfolding count_text
counted_is n s = ap (λ l. 32 ∷ l) (append_assoc (decimal n) (58 ∷ []) s)

-- whatever the numbers are, what follows is determined
pub count_left : (m n : ℕ) (s t : List ℕ) → count_text m ++ s ≡ count_text n ++ t → s ≡ t
count_left m n s t same =
    let from = tail_same 32 32 (decimal m ++ 58 ∷ s) (decimal n ++ 58 ∷ t) (sym (counted_is m s) ∙ same ∙ counted_is n t) in
    let parts = cut is_ascii_digit (decimal m) (decimal n) (58 ∷ s) (58 ∷ t) (decimal_digits m) (decimal_digits n) refl refl from in
    tail_same 58 58 s t parts.1

pub count_cut : (m n : ℕ) (s t : List ℕ) → IsNumber m → IsNumber n → count_text m ++ s ≡ count_text n ++ t → (m ≡ n) × (s ≡ t)
count_cut m n s t in_m in_n same =
    let from = tail_same 32 32 (decimal m ++ 58 ∷ s) (decimal n ++ 58 ∷ t) (sym (counted_is m s) ∙ same ∙ counted_is n t) in
    let parts = number_cut m n (58 ∷ s) (58 ∷ t) in_m in_n refl refl from in
    (parts.0, tail_same 58 58 s t parts.1)

-- ---- entries

-- an entry's text, where a space or a line feed follows
abbrev pub IsCut : {A : Type 0} → (A → List ℕ) → (A → Type 0) → Type 0
IsCut {A} body Has = (a b : A) (s t : List ℕ) → Has a → Has b → Stops is_visible s → Stops is_visible t → body a ++ s ≡ body b ++ t → (a ≡ b) × (s ≡ t)

pub entries_stop : {A : Type 0} (body : A → List ℕ) (xs : List A) (s : List ℕ) → Stops is_visible s → Stops is_visible (flat_map (λ a. 32 ∷ body a) xs ++ s)
entries_stop body [] s is = is
entries_stop body (x ∷ xs) s is = refl

pub entries_cut : {A : Type 0} (body : A → List ℕ) (Has : A → Type 0) → IsCut body Has → (xs ys : List A) (s t : List ℕ) → AllByRecursion Has xs → AllByRecursion Has ys
    → flat_map (λ a. 32 ∷ body a) xs ++ 10 ∷ s ≡ flat_map (λ a. 32 ∷ body a) ys ++ 10 ∷ t → (xs ≡ ys) × (s ≡ t)
entries_cut body Has one [] [] s t in_xs in_ys same = (refl, tail_same 10 10 s t same)
entries_cut body Has one [] (y ∷ ys) s t in_xs in_ys same =
    absurd (let e : 10 ≡ 32 = head_same 10 32 s ((body y ++ flat_map (λ a. 32 ∷ body a) ys) ++ 10 ∷ t) same in omega arith)
entries_cut body Has one (x ∷ xs) [] s t in_xs in_ys same =
    absurd (let e : 32 ≡ 10 = head_same 32 10 ((body x ++ flat_map (λ a. 32 ∷ body a) xs) ++ 10 ∷ s) t same in omega arith)
entries_cut body Has one (x ∷ xs) (y ∷ ys) s t in_xs in_ys same =
    let left = flat_map (λ a. 32 ∷ body a) xs in
    let right = flat_map (λ a. 32 ∷ body a) ys in
    let from : body x ++ (left ++ 10 ∷ s) ≡ body y ++ (right ++ 10 ∷ t) =
    sym (append_assoc (body x) left (10 ∷ s)) ∙ tail_same 32 32 ((body x ++ left) ++ 10 ∷ s) ((body y ++ right) ++ 10 ∷ t) same
    ∙ append_assoc (body y) right (10 ∷ t) in
    let first = one x y (left ++ 10 ∷ s) (right ++ 10 ∷ t) in_xs.0 in_ys.0 (entries_stop body xs (10 ∷ s) refl) (entries_stop body ys (10 ∷ t) refl) from in
    let rest = entries_cut body Has one xs ys s t in_xs.1 in_ys.1 first.1 in
    let head : x ≡ y = first.0 in
    let others : xs ≡ ys = rest.0 in
    (cc, rest.1)

pub number_is_cut : IsCut decimal IsNumber
number_is_cut a b s t in_a in_b end_s end_t same = number_cut a b s t in_a in_b (stops_digits s end_s) (stops_digits t end_t) same

-- ` T ..`
pub numbers_cut : (xs ys : List ℕ) (s t : List ℕ) → AllByRecursion IsNumber xs → AllByRecursion IsNumber ys
    → numbers_text xs ++ 10 ∷ s ≡ numbers_text ys ++ 10 ∷ t → (xs ≡ ys) × (s ≡ t)
numbers_cut = entries_cut decimal IsNumber number_is_cut

-- two numbers and a byte between them
abbrev pair_text : ℕ → ℕ → ℕ → List ℕ
pair_text mark a b = decimal a ++ (mark ∷ []) ++ decimal b

pair_is : (mark a b : ℕ) (s : List ℕ) → pair_text mark a b ++ s ≡ decimal a ++ (mark ∷ (decimal b ++ s))
pair_is mark a b s = simp append_assoc

pair_cut : (mark : ℕ) → is_ascii_digit mark ≡ false → (a b c d : ℕ) (s t : List ℕ) → IsNumber a → IsNumber b → IsNumber c → IsNumber d → Stops is_visible s → Stops is_visible t
    → pair_text mark a b ++ s ≡ pair_text mark c d ++ t → ((a ≡ c) × (b ≡ d)) × (s ≡ t)
pair_cut mark is a b c d s t in_a in_b in_c in_d end_s end_t same =
    let first = number_cut a c (mark ∷ (decimal b ++ s)) (mark ∷ (decimal d ++ t)) in_a in_c is is (sym (pair_is mark a b s) ∙ same ∙ pair_is mark c d t) in
    let second = number_cut b d s t in_b in_d (stops_digits s end_s) (stops_digits t end_t) (tail_same mark mark (decimal b ++ s) (decimal d ++ t) first.1) in
    ((first.0, second.0), second.1)

abbrev entry_body : ℕ × ℕ → List ℕ
entry_body entry = pair_text 61 entry.0 entry.1

abbrev pub EntryHasNumbers : ℕ × ℕ → Type 0
EntryHasNumbers entry = IsNumber entry.0 × IsNumber entry.1

entry_is_cut : IsCut entry_body EntryHasNumbers
entry_is_cut a b s t in_a in_b end_s end_t same =
    let parts = pair_cut 61 refl a.0 a.1 b.0 b.1 s t in_a.0 in_a.1 in_b.0 in_b.1 end_s end_t same in
    let place : a.0 ≡ b.0 = parts.0.0 in
    let version : a.1 ≡ b.1 = parts.0.1 in
    (ap (λ n. (n, a.1)) place ∙ ap (λ n. (b.0, n)) version, parts.1)

-- ` P=V ..`
pub log_cut : (xs ys : List (ℕ × ℕ)) (s t : List ℕ) → AllByRecursion EntryHasNumbers xs → AllByRecursion EntryHasNumbers ys
    → log_text xs ++ 10 ∷ s ≡ log_text ys ++ 10 ∷ t → (xs ≡ ys) × (s ≡ t)
log_cut = entries_cut entry_body EntryHasNumbers entry_is_cut

abbrev break_body : Break → List ℕ
break_body at = pair_text 47 at.expected at.got

abbrev pub BreakHasNumbers : Break → Type 0
BreakHasNumbers at = IsNumber at.expected × IsNumber at.got

break_is_cut : IsCut break_body BreakHasNumbers
break_is_cut a b s t in_a in_b end_s end_t same =
    let parts = pair_cut 47 refl a.expected a.got b.expected b.got s t in_a.0 in_a.1 in_b.0 in_b.1 end_s end_t same in
    let due : a.expected ≡ b.expected = parts.0.0 in
    let came : a.got ≡ b.got = parts.0.1 in
    (ap (λ n. let at : Break = record { expected = n; got = a.got } in at) due ∙ ap (λ n. let at : Break = record { expected = b.expected; got = n } in at) came, parts.1)

-- ` E/G ..`
pub breaks_cut : (xs ys : List Break) (s t : List ℕ) → AllByRecursion BreakHasNumbers xs → AllByRecursion BreakHasNumbers ys
    → breaks_text xs ++ 10 ∷ s ≡ breaks_text ys ++ 10 ∷ t → (xs ≡ ys) × (s ≡ t)
breaks_cut = entries_cut break_body BreakHasNumbers break_is_cut

-- ---- a number or a dash

-- a number's digits don't begin with a dash
no_dash : (n : ℕ) (s t : List ℕ) → IsNumber n → Stops is_ascii_digit t → 45 ∷ s ≡ decimal n ++ t → ⊥
no_dash n s t in_n end_t same =
    let parts = cut is_ascii_digit [] (decimal n) (45 ∷ s) t refl (decimal_digits n) refl end_t same in
    let some : 0 < length (decimal n) = decimal_nonempty n in_n in
    let none : 0 ≡ length (decimal n) = ap length parts.0 in
    omega arith

pub dash_cut : (m n : Option ℕ) (s t : List ℕ) → IfSome m IsNumber → IfSome n IsNumber → Stops is_ascii_digit s → Stops is_ascii_digit t
    → number_or_dash m ++ s ≡ number_or_dash n ++ t → (m ≡ n) × (s ≡ t)
unfolding number_or_dash
dash_cut None None s t in_m in_n end_s end_t same = (refl, tail_same 45 45 s t same)
dash_cut None (Some n) s t in_m in_n end_s end_t same = absurd (no_dash n s t in_n end_t same)
dash_cut (Some m) None s t in_m in_n end_s end_t same = absurd (no_dash m t s in_m end_s (sym same))
dash_cut (Some m) (Some n) s t in_m in_n end_s end_t same =
    let parts = number_cut m n s t in_m in_n end_s end_t same in (ap Some parts.0, parts.1)
