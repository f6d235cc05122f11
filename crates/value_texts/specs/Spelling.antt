-- Which words are texts of a value. A String has several, every other value one.
use Rattle.std.specs.Prelude.{◌≡◌, ℕ, ◌<◌, ◌⊎◌, List, [], ◌∷◌, ◌++◌, IsTrue}
use Rattle.ua_values.specs.declared.value.Value.{Value}
use Rattle.ua_values.specs.declared.value.Value.TheVariants as values
use Rattle.value_texts.specs.Texts.{is_plain, escape, value_text_of}

-- a word begins with a byte, which stands as itself where it is printed so, or as `%` and two
-- upper-case digits; the rest follows
abbrev pub BeginsWith : List ℕ → ℕ → List ℕ → Type 0
BeginsWith word byte rest =
    (IsTrue (is_plain byte) × (word ≡ byte ∷ rest)) ⊎ ((byte < 256) × (word ≡ escape byte ++ rest))

-- a word spells a text, byte for byte
abbrev pub Spells : List ℕ → List ℕ → Type 0
Spells word [] = word ≡ []
Spells word (byte ∷ text) = (rest : List ℕ) × (BeginsWith word byte rest × Spells rest text)

abbrev pub IsTextOf : List ℕ → Value → Type 0
IsTextOf word (values.String text) = Spells word text
IsTextOf word value = word ≡ value_text_of value
