-- What a word spells.
use Rattle.std.proofs.Common.{◌≡◌, ℕ, ◌/◌, ◌%◌, ◌<◌, ◌≤◌, Bool, true, false, cond, List, [], ◌∷◌, ◌++◌, length, get_or, drop, suc, refl, sym, ap, ◌∙◌, subst, inl, inr, arith, append_assoc}
use Rattle.std.specs.Fmt.{digit_glyph}
use Rattle.std.specs.List.{All, flat_map}
use Rattle.std.proofs.lemmas.Bool.{false≢true}
use Rattle.std.proofs.lemmas.Bool.Decides.{nat_tests}
use Rattle.std.proofs.lemmas.List.Elements.{All-head, All-tail}
use Rattle.std.specs.Prelude.{nat_lt, Ok, Err, IfSome}
use Rattle.std.specs.Result.{result_ok}
use Rattle.std.specs.Str.{IsUtf8, is_utf8}
use Rattle.std.proofs.lemmas.List.{append-nil, length-append}
use Rattle.std.proofs.lemmas.Str.{IsUtf8-from_is_utf8, is_utf8-from_IsUtf8}
use Rattle.ua_values.specs.declared.text.TextFault.TheVariants.{TooLong, BadUtf8}
use Rattle.ua_values.specs.Texts.{text_of, IsText}
use Rattle.value_texts.specs.Texts.{is_plain, digits_of, escape, byte_text}
use Rattle.value_texts.specs.Spelling.{BeginsWith, Spells}

pub glyph_once : (d e : ℕ) → d < 16 → e < 16 → digit_glyph true d ≡ digit_glyph true e → d ≡ e
glyph_once d e low small same = grind (arith, nat_tests)

-- two digits stand for one byte
pub digits_once : (a b : ℕ) (r s : List ℕ) → a < 256 → b < 256 → digits_of a ++ r ≡ digits_of b ++ s → (a ≡ b) × (r ≡ s)
digits_once a b r s low small same =
    let high : digit_glyph true (a / 16) ≡ digit_glyph true (b / 16) = ap (λ (l : List ℕ). get_or l 0 0) same in
    let less : digit_glyph true (a % 16) ≡ digit_glyph true (b % 16) = ap (λ (l : List ℕ). get_or l 1 0) same in
    let h : a / 16 ≡ b / 16 = glyph_once (a / 16) (b / 16) (omega arith) (omega arith) high in
    let l : a % 16 ≡ b % 16 = glyph_once (a % 16) (b % 16) (omega arith) (omega arith) less in
    (omega arith, ap (λ (l : List ℕ). drop 2 l) same)

percent : (a : ℕ) → is_plain a ≡ true → a ≡ 37 → ⊥
percent a plain is = false≢true (subst (λ (n : ℕ). is_plain n ≡ true) is plain)

-- a word begins with one byte
pub begins_once : (word : List ℕ) (a b : ℕ) (r s : List ℕ) → BeginsWith word a r → BeginsWith word b s → (a ≡ b) × (r ≡ s)
begins_once word a b r s (inl h) (inl k) =
    let e : a ∷ r ≡ b ∷ s = sym h.1 ∙ k.1 in (ap (λ (l : List ℕ). get_or l 0 0) e, ap (λ (l : List ℕ). drop 1 l) e)
begins_once word a b r s (inl h) (inr k) =
    let e : a ∷ r ≡ escape b ++ s = sym h.1 ∙ k.1 in absurd (percent a h.0 (ap (λ (l : List ℕ). get_or l 0 0) e))
begins_once word a b r s (inr h) (inl k) =
    let e : b ∷ s ≡ escape a ++ r = sym k.1 ∙ h.1 in absurd (percent b k.0 (ap (λ (l : List ℕ). get_or l 0 0) e))
begins_once word a b r s (inr h) (inr k) =
    let e : escape a ++ r ≡ escape b ++ s = sym h.1 ∙ k.1 in digits_once a b r s h.0 k.0 (ap (λ (l : List ℕ). drop 1 l) e)

pub begins_longer : (word : List ℕ) (a : ℕ) (r : List ℕ) → BeginsWith word a r → length r < length word
begins_longer word a r (inl h) = let e : length word ≡ suc (length r) = ap length h.1 in omega arith
begins_longer word a r (inr h) = let e : length word ≡ suc (suc (suc (length r))) = ap length h.1 in omega arith

pub nothing_begins : (a : ℕ) (r : List ℕ) → BeginsWith [] a r → ⊥
nothing_begins a r (inl h) = let e : 0 ≡ suc (length r) = ap length h.1 in omega arith
nothing_begins a r (inr h) = let e : 0 ≡ suc (suc (suc (length r))) = ap length h.1 in omega arith

-- a word spells one text
pub spells_once : (word s t : List ℕ) → Spells word s → Spells word t → s ≡ t
spells_once word [] [] h k = refl
spells_once word [] (b ∷ t) h k = absurd (nothing_begins b k.0 (subst (λ (w : List ℕ). BeginsWith w b k.0) h k.1.0))
spells_once word (a ∷ s) [] h k = absurd (nothing_begins a h.0 (subst (λ (w : List ℕ). BeginsWith w a h.0) k h.1.0))
spells_once word (a ∷ s) (b ∷ t) h k =
    let e = begins_once word a b h.0 k.0 h.1.0 k.1.0 in
    let same : s ≡ t = spells_once h.0 s t h.1.1 (subst (λ (w : List ℕ). Spells w t) (sym e.1) k.1.1) in
    ap (λ (x : ℕ). x ∷ s) e.0 ∙ ap (λ (l : List ℕ). b ∷ l) same

byte_begins : (byte : ℕ) (rest : List ℕ) → byte < 256 → BeginsWith (byte_text byte ++ rest) byte rest
byte_begins byte rest small = go (is_plain byte) refl
  where
    go : (plain : Bool) → is_plain byte ≡ plain → BeginsWith (cond plain (byte ∷ []) (escape byte) ++ rest) byte rest
    go true is = inl (is, refl)
    go false is = inr (small, refl)

-- what is printed of a text spells it
pub printed_spells : (text : List ℕ) → All (λ byte. byte < 256) text → Spells (flat_map byte_text text) text
printed_spells [] small = refl
printed_spells (byte ∷ text) small =
    (flat_map byte_text text, (byte_begins byte (flat_map byte_text text) (All-head (λ b. b < 256) byte text small), printed_spells text (All-tail (λ b. b < 256) byte text small)))

-- the front of a word is read, as a text, and the rest is left
pub record IsRead (word front rest : List ℕ) : Type 0 where
  pub onward : (text : List ℕ) → Spells rest text → Spells word (front ++ text)
  pub back : (text : List ℕ) → Spells word text → (tail : List ℕ) × ((text ≡ front ++ tail) × Spells rest tail)

pub none_read : (word : List ℕ) → IsRead word [] word
none_read word = record { onward = λ text h. h; back = λ text h. (text, (refl, h)) }

tail_more : (front rest behind : List ℕ) (byte : ℕ) (text tail : List ℕ) → BeginsWith rest byte behind → text ≡ front ++ tail → Spells rest tail
    → (more : List ℕ) × ((text ≡ (front ++ byte ∷ []) ++ more) × Spells behind more)
tail_more front rest behind byte text [] begins is h = absurd (nothing_begins byte behind (subst (λ (w : List ℕ). BeginsWith w byte behind) h begins))
tail_more front rest behind byte text (b ∷ tail) begins is h =
    let e = begins_once rest b byte h.0 behind h.1.0 begins in
    (tail, (is ∙ ap (λ (x : ℕ). front ++ x ∷ tail) e.0 ∙ sym (append_assoc front (byte ∷ []) tail), subst (λ (w : List ℕ). Spells w tail) e.1 h.1.1))

pub read_more : (word front rest behind : List ℕ) (byte : ℕ) → IsRead word front rest → BeginsWith rest byte behind → IsRead word (front ++ byte ∷ []) behind
read_more word front rest behind byte read begins = record {
  onward = λ text h. subst (Spells word) (sym (append_assoc front (byte ∷ []) text)) (read.onward (byte ∷ text) (behind, (begins, h)));
  back = λ text h. let old = read.back text h in tail_more front rest behind byte text old.0 begins old.1.0 old.1.1;
}

nothing : (l : List ℕ) → length l ≡ 0 → l ≡ []
nothing [] none = refl
nothing (x ∷ l) none = absurd (omega arith)

-- all of the word is read
pub read_all : (word front rest : List ℕ) → IsRead word front rest → length rest ≡ 0 → Spells word front
read_all word front rest read none = subst (Spells word) (append-nil front) (read.onward [] (nothing rest none))

empty_spells : (rest tail : List ℕ) → rest ≡ [] → Spells rest tail → tail ≡ []
empty_spells rest [] none h = refl
empty_spells rest (b ∷ tail) none h = absurd (nothing_begins b h.0 (subst (λ (w : List ℕ). BeginsWith w b h.0) none h.1.0))

-- and it spells no other text
pub only_read : (word front rest text : List ℕ) → IsRead word front rest → length rest ≡ 0 → Spells word text → text ≡ front
only_read word front rest text read none spells =
    let b = read.back text spells in
    b.1.0 ∙ ap (λ (l : List ℕ). front ++ l) (empty_spells rest b.0 (nothing rest none) b.1.1) ∙ append-nil front

-- a word that begins with no byte spells nothing
stuck : (rest tail : List ℕ) → 0 < length rest → ((byte : ℕ) (behind : List ℕ) → BeginsWith rest byte behind → ⊥) → Spells rest tail → ⊥
stuck rest [] some none h = let e : length rest ≡ 0 = ap length h in omega arith
stuck rest (b ∷ tail) some none h = none b h.0 h.1.0

pub no_text : (word front rest text : List ℕ) → IsRead word front rest → 0 < length rest
    → ((byte : ℕ) (behind : List ℕ) → BeginsWith rest byte behind → ⊥) → Spells word text → ⊥
no_text word front rest text read some none spells = let b = read.back text spells in stuck rest b.0 some none b.1.1

not_empty : (rest tail : List ℕ) → 0 < length rest → Spells rest tail → 0 < length tail
not_empty rest [] some h = absurd (let e : length rest ≡ 0 = ap length h in omega arith)
not_empty rest (b ∷ tail) some h = omega arith

-- the text is longer than what is read while something is left
pub longer_text : (word front rest text : List ℕ) → IsRead word front rest → 0 < length rest → Spells word text → length front < length text
longer_text word front rest text read some spells =
    let b = read.back text spells in
    let more : 0 < length b.0 = not_empty rest b.0 some b.1.1 in
    let whole : length text ≡ length (front ++ b.0) = ap length b.1.0 in
    omega (arith, length-append front b.0)

-- what is judged to be a text
pub judged : (P : List ℕ → Type 0) (bytes : List ℕ) → (length bytes ≤ 256 → IsUtf8 bytes → P bytes) → IfSome (result_ok (text_of bytes)) P
judged P bytes holds = go (nat_lt 256 (length bytes)) (is_utf8 bytes) refl refl
  where
    go : (long utf8 : Bool) → nat_lt 256 (length bytes) ≡ long → is_utf8 bytes ≡ utf8
        → IfSome (result_ok (cond long (Err TooLong) (cond utf8 (Ok bytes) (Err BadUtf8)))) P
    go true utf8 is_long is_utf = tt
    go false false is_long is_utf = tt
    go false true is_long is_utf = holds (grind (arith, nat_tests)) (IsUtf8-from_is_utf8 bytes is_utf)

pub accepted : (bytes : List ℕ) → IsText bytes → text_of bytes ≡ Ok bytes
accepted bytes text = go (nat_lt 256 (length bytes)) (is_utf8 bytes) (let h : length bytes ≤ 256 = text.short.at_most_256 in grind (arith, nat_tests)) (is_utf8-from_IsUtf8 bytes text.utf8)
  where
    go : (long utf8 : Bool) → long ≡ false → utf8 ≡ true → cond long (Err TooLong) (cond utf8 (Ok bytes) (Err BadUtf8)) ≡ Ok bytes
    go true utf8 e f = absurd (false≢true (sym e))
    go false false e f = absurd (false≢true f)
    go false true e f = refl
