-- Lengths with their bytes, and texts, are read as exactly what spells them.
use Rattle.std.proofs.Common.{◌≡◌, ℕ, zero, suc, ◌<◌, ◌≤◌, ◌^◌, ◌⊎◌, inl, inr, Bool, true, false, cond, List, [], ◌∷◌, ◌++◌, length, Result, Ok, Err, ℤ, pos, negsuc, refl, sym, ap, subst, ◌∙◌, append-nil, arith}
use Rattle.std.specs.Prelude.{nat_lt, if◌then◌else◌}
use Rattle.std.specs.Int.{w32, to_le_bytes, cast_signed, cast_unsigned}
use Rattle.std.specs.Str.{is_utf8, IsUtf8}
use Rattle.std.proofs.lemmas.Bool.{le-ltb, ltb-false}
use Rattle.std.proofs.lemmas.Int.{ints, to_z_pos, of_z-to_z}
use Rattle.std.proofs.lemmas.Str.{IsUtf8-from_is_utf8, is_utf8-from_IsUtf8}
use Rattle.ua_values.specs.InPlace.{IsShort}
use Rattle.ua_binary.specs.declared.fault.ValueFault.{ValueFault}
use Rattle.ua_binary.specs.declared.fault.ValueFault.TheVariants.{Short, BadUtf8, BadLength}
use Rattle.ua_binary.specs.Reading.{◌>>=◌, bytes_at, number_at}
use Rattle.ua_binary.specs.ReadingValues.{length_of, block_at, text_at}
use Rattle.ua_binary.specs.Spelling.{block}
use Rattle.ua_binary.proofs.Grammar.{IsGrammar, Joined, then_grammar, alone, Done, done_grammar, refused_grammar, same_grammar}
use Rattle.ua_binary.proofs.Parts.{IsPartOf, bytes_grammar, IsNumber, number_grammar, coded32}

abbrev pub null : List ℕ
null = 0xff ∷ 0xff ∷ 0xff ∷ 0xff ∷ []

pub record SpellsBlock (bytes text : List ℕ) : Type 0 where
  pub short : IsShort bytes
  pub spelled : (text ≡ block bytes) ⊎ ((bytes ≡ []) × (text ≡ null))

-- the bytes that a length field counts
pub record Counted (field : ℕ) (part text : List ℕ) : Type 0 where
  pub len : ℕ
  pub is_len : length_of (cast_signed w32 field) ≡ Ok len
  pub spells : IsPartOf len part text

counted_grammar : (field : ℕ) → IsGrammar (List ℕ) ValueFault Short (Counted field) (λ bytes. length_of (cast_signed w32 field) >>= λ len. bytes_at Short len bytes)
counted_grammar field = by_length (length_of (cast_signed w32 field)) refl
  where
    by_length : (r : Result ℕ ValueFault) → length_of (cast_signed w32 field) ≡ r → IsGrammar (List ℕ) ValueFault Short (Counted field) (λ bytes. length_of (cast_signed w32 field) >>= λ len. bytes_at Short len bytes)
    by_length (Ok len) is =
        subst (λ (r : Result ℕ ValueFault). IsGrammar (List ℕ) ValueFault Short (Counted field) (λ bytes. r >>= λ n. bytes_at Short n bytes)) (sym is)
        (same_grammar (List ℕ) ValueFault Short (IsPartOf len) (Counted field) (bytes_at Short len) (λ part text spells. record { len = len; is_len = is; spells = spells })
        (λ part text c. subst (λ (n : ℕ). IsPartOf n part text) (same_len c.len (sym c.is_len ∙ is)) c.spells) (bytes_grammar ValueFault Short len))
      where
        same_len : (n : ℕ) → Path (Result ℕ ValueFault) (Ok n) (Ok len) → n ≡ len
        same_len n e = cc
    by_length (Err fault) is =
        subst (λ (r : Result ℕ ValueFault). IsGrammar (List ℕ) ValueFault Short (Counted field) (λ bytes. r >>= λ n. bytes_at Short n bytes)) (sym is)
        (same_grammar (List ℕ) ValueFault Short (λ part text. ⊥) (Counted field) (λ bytes. Err fault) (λ part text never. absurd never)
        (λ part text c. absurd (no c.len (sym c.is_len ∙ is))) (refused_grammar (List ℕ) ValueFault Short fault))
      where
        no : (n : ℕ) → Path (Result ℕ ValueFault) (Ok n) (Err fault) → ⊥
        no n e = cc

-- what a length that is taken says of its field
field-of : (field len : ℕ) → field < 2 ^ 32 → (z : ℤ) → cast_signed w32 field ≡ z → length_of z ≡ Ok len → ((field ≡ len) × (len ≤ 256)) ⊎ ((len ≡ 0) × (field ≡ 4294967295))
field-of field len below (pos n) is e = by_size (nat_lt 256 n) refl
  where
    by_size : (b : Bool) → nat_lt 256 n ≡ b → ((field ≡ len) × (len ≤ 256)) ⊎ ((len ≡ 0) × (field ≡ 4294967295))
    by_size true large =
        let no : Path (Result ℕ ValueFault) (Err BadLength) (Ok len) = sym (ap (λ (b : Bool). if b then Err BadLength else Ok n) large) ∙ e in
        absurd cc
    by_size false small =
        let found : Path (Result ℕ ValueFault) (Ok n) (Ok len) = sym (ap (λ (b : Bool). if b then Err BadLength else Ok n) small) ∙ e in
        let same : n ≡ len = cc in
        let at_most : n ≤ 256 = ltb-false 256 n small in
        let back : cast_unsigned w32 (pos n) ≡ field = ap (cast_unsigned w32) (sym is) ∙ of_z-to_z w32 field below in
        inl (omega (arith, ints), omega arith)
field-of field len below (negsuc zero) is e =
    let found : Path (Result ℕ ValueFault) (Ok 0) (Ok len) = e in
    let same : 0 ≡ len = cc in
    let back : cast_unsigned w32 (negsuc 0) ≡ field = ap (cast_unsigned w32) (sym is) ∙ of_z-to_z w32 field below in
    inr (sym same, omega (arith, ints))
field-of field len below (negsuc (suc n)) is e = let no : Path (Result ℕ ValueFault) (Err BadLength) (Ok len) = e in absurd cc

-- and the length that a field of at most 256 says
pub length-of : (n : ℕ) → n ≤ 256 → length_of (cast_signed w32 n) ≡ Ok n
length-of n short =
    let signed : cast_signed w32 n ≡ pos n = to_z_pos w32 n (omega arith) in
    ap length_of signed ∙ ap (λ b. cond b (Err BadLength) (Ok n)) (le-ltb 256 n short)

pub block_grammar : IsGrammar (List ℕ) ValueFault Short SpellsBlock block_at
unfolding block_at
block_grammar =
    same_grammar (List ℕ) ValueFault Short (Joined ℕ (List ℕ) (IsNumber w32 32) Counted) SpellsBlock (λ bytes. number_at Short w32 bytes >>= λ field. length_of (cast_signed w32 field.0) >>= λ len. bytes_at Short len field.1) there here
    (then_grammar ℕ (List ℕ) ValueFault Short (IsNumber w32 32) Counted (number_at Short w32) (λ field bytes. length_of (cast_signed w32 field) >>= λ len. bytes_at Short len bytes) (number_grammar ValueFault Short w32 32 coded32) (λ field text _. counted_grammar field))
  where
    there : (part text : List ℕ) → Joined ℕ (List ℕ) (IsNumber w32 32) Counted part text → SpellsBlock part text
    there part text j = by_field (field-of j.first j.spells.len j.spells_first.0 (cast_signed w32 j.first) refl j.spells.is_len)
      where
        whole : text ≡ to_le_bytes w32 j.first ++ part
        whole = j.split ∙ ap (λ (l : List ℕ). l ++ j.back) j.spells_first.1 ∙ ap (λ (l : List ℕ). to_le_bytes w32 j.first ++ l) j.spells.spells.1

        len_is : length part ≡ j.spells.len
        len_is = j.spells.spells.0.0

        by_field : ((j.first ≡ j.spells.len) × (j.spells.len ≤ 256)) ⊎ ((j.spells.len ≡ 0) × (j.first ≡ 4294967295)) → SpellsBlock part text
        by_field (inl is) =
            record {
              short = record { at_most_256 = omega (arith, len_is, is.1); in_range = j.spells.spells.0.1 };
              spelled = inl (whole ∙ ap (λ (n : ℕ). to_le_bytes w32 n ++ part) (is.0 ∙ sym len_is));
            }
        by_field (inr is) =
            let nothing : part ≡ [] = no_bytes part (len_is ∙ is.0) in
            record {
              short = record { at_most_256 = omega (arith, len_is, is.0); in_range = j.spells.spells.0.1 };
              spelled = inr (nothing, whole ∙ ap (λ (n : ℕ). to_le_bytes w32 n ++ part) is.1 ∙ ap (λ (l : List ℕ). null ++ l) nothing);
            }
          where
            no_bytes : (l : List ℕ) → length l ≡ 0 → l ≡ []
            no_bytes [] e = refl
            no_bytes (x ∷ xs) e = absurd (omega arith)

    here : (part text : List ℕ) → SpellsBlock part text → Joined ℕ (List ℕ) (IsNumber w32 32) Counted part text
    here part text s = by_form s.spelled
      where
        by_form : (text ≡ block part) ⊎ ((part ≡ []) × (text ≡ null)) → Joined ℕ (List ℕ) (IsNumber w32 32) Counted part text
        by_form (inl is) = record {
          first = length part;
          front = to_le_bytes w32 (length part);
          back = part;
          spells_first = (omega (arith, s.short.at_most_256), refl);
          spells = record { len = length part; is_len = length-of (length part) s.short.at_most_256; spells = ((refl, s.short.in_range), refl) };
          split = is;
        }
        by_form (inr is) = record {
          first = 4294967295;
          front = null;
          back = [];
          spells_first = (omega arith, refl);
          spells = record { len = 0; is_len = refl; spells = ((ap length is.0, s.short.in_range), sym is.0) };
          split = is.1;
        }

pub record SpellsText (bytes text : List ℕ) : Type 0 where
  pub spells : SpellsBlock bytes text
  pub utf8 : IsUtf8 bytes

-- the bytes of a text are judged when all are there
Judged : List ℕ → List ℕ → List ℕ → Type 0
Judged bytes found text = (is_utf8 bytes ≡ true) × Done bytes found text

judged_grammar : (bytes : List ℕ) → IsGrammar (List ℕ) ValueFault Short (Judged bytes) (λ rest. if is_utf8 bytes then Ok (bytes, rest) else Err BadUtf8)
unfolding Judged
judged_grammar bytes = by_test (is_utf8 bytes) refl
  where
    by_test : (b : Bool) → is_utf8 bytes ≡ b → IsGrammar (List ℕ) ValueFault Short (Judged bytes) (λ rest. if is_utf8 bytes then Ok (bytes, rest) else Err BadUtf8)
    by_test true is =
        subst (λ (b : Bool). IsGrammar (List ℕ) ValueFault Short (Judged bytes) (λ rest. if b then Ok (bytes, rest) else Err BadUtf8)) (sym is)
        (same_grammar (List ℕ) ValueFault Short (Done bytes) (Judged bytes) (λ rest. Ok (bytes, rest)) (λ found text done. (is, done)) (λ found text j. j.1) (done_grammar (List ℕ) ValueFault Short bytes))
    by_test false is =
        subst (λ (b : Bool). IsGrammar (List ℕ) ValueFault Short (Judged bytes) (λ rest. if b then Ok (bytes, rest) else Err BadUtf8)) (sym is)
        (same_grammar (List ℕ) ValueFault Short (λ found text. ⊥) (Judged bytes) (λ rest. Err BadUtf8) (λ found text never. absurd never) (λ found text j. absurd (let no : Path Bool false true = sym is ∙ j.0 in cc)) (refused_grammar (List ℕ) ValueFault Short BadUtf8))

pub text_grammar : IsGrammar (List ℕ) ValueFault Short SpellsText text_at
unfolding text_at Judged
text_grammar =
    same_grammar (List ℕ) ValueFault Short (Joined (List ℕ) (List ℕ) SpellsBlock Judged) SpellsText (λ bytes. block_at bytes >>= λ text. if is_utf8 text.0 then Ok text else Err BadUtf8) there here
    (then_grammar (List ℕ) (List ℕ) ValueFault Short SpellsBlock Judged block_at (λ text rest. if is_utf8 text then Ok (text, rest) else Err BadUtf8) block_grammar (λ bytes text _. judged_grammar bytes))
  where
    there : (bytes text : List ℕ) → Joined (List ℕ) (List ℕ) SpellsBlock Judged bytes text → SpellsText bytes text
    there bytes text j =
        subst (λ (found : List ℕ). SpellsText found text) (sym j.spells.1.0) (record { spells = subst (SpellsBlock j.first) (alone j.front j.back text j.split j.spells.1.1) j.spells_first; utf8 = IsUtf8-from_is_utf8 j.first j.spells.0 })

    here : (bytes text : List ℕ) → SpellsText bytes text → Joined (List ℕ) (List ℕ) SpellsBlock Judged bytes text
    here bytes text s = record { first = bytes; front = text; back = []; spells_first = s.spells; spells = (is_utf8-from_IsUtf8 bytes s.utf8, (refl, refl)); split = sym (append-nil text) }
