-- What the content of an element is, by the word of its type.
use Rattle.std.proofs.Common.{◌≡◌, ℕ, List, length, get_or, true, false, Option, Some, refl, sym, ap, ◌∙◌, subst, arith}
use Rattle.std.specs.Prelude.{◌==◌, codes}
use Rattle.std.proofs.lemmas.Option.{same_Some}
use Rattle.std.proofs.lemmas.Bool.{false≢true}
use Rattle.std.proofs.lemmas.Bool.Decides.{nat_tests}
use Rattle.serde_json.specs.Data.{Data}
use Rattle.dataset_meta.specs.DataValues.{DataValue}
use Rattle.dataset_meta.specs.Metas.{MetaData}
use Rattle.dataset_meta.proofs.RowLaws.{length_row}
use Rattle.row_words.specs.declared.patch.Patch.{Patch}
use Rattle.row_words.specs.Belonging.{row_in}
use Rattle.row_words.specs.Patches.{IsPatchOf, patch_in}
use Rattle.frame_codec.specs.Frames.{Content, Whole, Change, Alive}
use Rattle.json_values.specs.Numbers.{text_at}
use Rattle.json_frames.specs.Parts.{numbered}
use Rattle.json_frames.specs.Reading.{Names, HasPayload, HasContent}
use Rattle.json_frames.proofs.Namings.{names_once}
use Rattle.json_frames.proofs.FieldsRead.{patch_all, length_numbered}

abbrev pub word_at : Data → Option (List ℕ)
word_at element = text_at (codes "MessageType") element

pub key_delta : (o : Option (List ℕ)) → o ≡ Some (codes "ua-keyframe") → o ≡ Some (codes "ua-deltaframe") → ⊥
key_delta o one other = let e : ◌≡◌ {A = ℕ} 107 100 = ap (λ (l : List ℕ). get_or l 3 0) (same_Some _ _ (sym one ∙ other)) in false≢true (subst (λ (n : ℕ). (n == 107) ≡ true) e refl)

pub key_alive : (o : Option (List ℕ)) → o ≡ Some (codes "ua-keyframe") → o ≡ Some (codes "ua-keepalive") → ⊥
key_alive o one other = let e : ◌≡◌ {A = ℕ} 102 112 = ap (λ (l : List ℕ). get_or l 6 0) (same_Some _ _ (sym one ∙ other)) in false≢true (subst (λ (n : ℕ). (n == 102) ≡ true) e refl)

pub delta_alive : (o : Option (List ℕ)) → o ≡ Some (codes "ua-deltaframe") → o ≡ Some (codes "ua-keepalive") → ⊥
delta_alive o one other = let e : ◌≡◌ {A = ℕ} 100 107 = ap (λ (l : List ℕ). get_or l 3 0) (same_Some _ _ (sym one ∙ other)) in false≢true (subst (λ (n : ℕ). (n == 100) ≡ true) e refl)

pub no_whole : (meta : MetaData) (element : Data) (content : Content) → word_at element ≡ Some (codes "ua-keyframe") → ((changes : List (ℕ × DataValue)) → ¬ HasPayload meta element changes)
    → HasContent meta element content → ⊥
no_whole meta element (Whole row) word none has = none (numbered 0 row) has.2
no_whole meta element (Change patch) word none has = key_delta (word_at element) word has.0
no_whole meta element Alive word none has = key_alive (word_at element) word has

pub no_change : (meta : MetaData) (element : Data) (content : Content) → word_at element ≡ Some (codes "ua-deltaframe") → ((changes : List (ℕ × DataValue)) → ¬ HasPayload meta element changes)
    → HasContent meta element content → ⊥
no_change meta element (Whole row) word none has = key_delta (word_at element) has.0 word
no_change meta element (Change patch) word none has = none patch has.1
no_change meta element Alive word none has = delta_alive (word_at element) word has

-- an element has one payload
pub payload_once : (meta : MetaData) (element : Data) (a b : List (ℕ × DataValue)) → HasPayload meta element a → HasPayload meta element b → a ≡ b
payload_once meta element a b one other =
    let same : one.payload ≡ other.payload = same_Some one.payload other.payload (sym one.here ∙ other.here) in
    names_once meta.quality other.payload 0 meta.fields a b (subst (λ (p : Data). Names meta.quality p 0 meta.fields a) same one.names) other.names

-- not every field is named
pub not_whole : (meta : MetaData) (element : Data) (content : Content) (changes : List (ℕ × DataValue)) → word_at element ≡ Some (codes "ua-keyframe") → HasPayload meta element changes
    → (length changes == length meta.fields) ≡ false → HasContent meta element content → ⊥
not_whole meta element (Whole row) changes word is fewer has =
    let l : length changes ≡ length (numbered 0 row) = ap length (payload_once meta element changes (numbered 0 row) is has.2) in
    let n : length (numbered 0 row) ≡ length row = length_numbered row 0 in
    let m : length row ≡ length meta.fields = has.1 in
    let all : (length changes == length meta.fields) ≡ true = grind (arith, nat_tests) in
    absurd (let e : false ≡ true = sym fewer ∙ all in cc)
not_whole meta element (Change patch) changes word is fewer has = key_delta (word_at element) word has.0
not_whole meta element Alive changes word is fewer has = key_alive (word_at element) word has

equal_test : (m n : ℕ) → (m == n) ≡ true → m ≡ n
equal_test m n is = grind (arith, nat_tests)

-- every field is named
pub is_whole : (meta : MetaData) (element : Data) (patch : Patch) → word_at element ≡ Some (codes "ua-keyframe") → IsPatchOf meta patch → HasPayload meta element (patch_in meta.fields patch)
    → (length (patch_in meta.fields patch) == length meta.fields) ≡ true → HasContent meta element (Whole (row_in meta.fields patch.row.words))
is_whole meta element patch word of is all =
    let row = row_in meta.fields patch.row.words in
    let len : length meta.fields ≡ length row = length_row meta.quality meta.fields row of.belongs.row in
    let same : length (patch_in meta.fields patch) ≡ length row = equal_test _ _ all ∙ len in
    (word, sym len, subst (HasPayload meta element) (patch_all meta.fields patch same) is)
