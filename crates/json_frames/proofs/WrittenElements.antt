-- What is written of a part is read as that part.
use Rattle.std.proofs.Common.{◌≡◌, ℕ, ◌%◌, ◌^◌, ◌<◌, List, [], ◌∷◌, cond, Bool, true, Option, Some, None, IfSome, IsSome, option_map, option_and_then, unwrap_or, inl, inr, refl, sym, ap, ◌∙◌, subst, arith}
use Rattle.std.specs.Prelude.{nat_lt, codes}
use Rattle.std.specs.List.{AllByRecursion}
use Rattle.std.proofs.lemmas.Bool.{false≢true}
use Rattle.std.proofs.lemmas.Bool.Decides.{nat_tests}
use Rattle.serde_json.specs.Data.{Data, number, string, unsigned}
use Rattle.serde_json.specs.Find.{get}
use Rattle.dataset_meta.specs.DataValues.{DataValue}
use Rattle.dataset_meta.specs.Metas.{MetaData, IsMeta}
use Rattle.dataset_meta.specs.Rows.{IsPatchFrom}
use Rattle.dataset_meta.proofs.RowLaws.{length_row}
use Rattle.frame_codec.specs.Frames.{Content, Whole, Change, Alive, IsContent}
use Rattle.json_values.specs.Numbers.{natural_in, fitting}
use Rattle.json_frames.specs.Parts.{Part, meta_at, HasVersions, IsPart, numbered}
use Rattle.json_frames.specs.Written.{kind_word, fields_json, payload_json, versions_json, element_of, element_json, elements_json}
use Rattle.json_frames.specs.Reading.{both, HasPayload, HasContent, IsNamedPart, versions_in, versions_at, sequence_at, GivesFrame, set_of, GivesPart, ReadAs}
use Rattle.json_frames.proofs.WrittenPayloads.{written_names, whole_is_patch}

-- ---- the members of an element

get_writer : (w : ℕ) (word : List ℕ) (v p : Option Data) (n : ℕ) → get (codes "DataSetWriterId") (element_of w word v p n) ≡ Some (number (unsigned w))
get_writer w word v p n = refl

get_word : (w : ℕ) (word : List ℕ) (v p : Option Data) (n : ℕ) → get (codes "MessageType") (element_of w word v p n) ≡ Some (string word)
get_word w word v p n = refl

get_versions : (w : ℕ) (word : List ℕ) (v p : Option Data) (n : ℕ) → get (codes "MetaDataVersion") (element_of w word v p n) ≡ v
get_versions w word None None n = refl
get_versions w word None (Some p) n = refl
get_versions w word (Some v) p n = refl

get_payload : (w : ℕ) (word : List ℕ) (v p : Option Data) (n : ℕ) → get (codes "Payload") (element_of w word v p n) ≡ p
get_payload w word None None n = refl
get_payload w word None (Some p) n = refl
get_payload w word (Some v) None n = refl
get_payload w word (Some v) (Some p) n = refl

get_sequence : (w : ℕ) (word : List ℕ) (v p : Option Data) (n : ℕ) → get (codes "SequenceNumber") (element_of w word v p n) ≡ Some (number (unsigned n))
get_sequence w word None None n = refl
get_sequence w word None (Some p) n = refl
get_sequence w word (Some v) None n = refl
get_sequence w word (Some v) (Some p) n = refl

-- ---- a frame

fits : (bits n : ℕ) → n < 2 ^ bits → fitting bits n ≡ Some n
fits bits n low =
    let is : nat_lt n (2 ^ bits) ≡ true = grind (arith, nat_tests) in
    ap (λ (b : Bool). cond b (Some n) None) is

sequence : (w : ℕ) (word : List ℕ) (v p : Option Data) (n : ℕ) → n < 2 ^ 16 → sequence_at (element_of w word v p n) ≡ Some n
sequence w word v p n low =
    let wide : n < 2 ^ 32 = omega arith in
    let same : n % 2 ^ 16 ≡ n = omega arith in
    ap (λ (o : Option Data). option_map (λ (m : ℕ). m % 2 ^ 16) (option_and_then (fitting 32) (option_and_then natural_in o))) (get_sequence w word v p n)
    ∙ ap (option_map (λ (m : ℕ). m % 2 ^ 16)) (fits 32 n wide) ∙ ap Some same

abbrev versions_of : Option Data → Option (ℕ × ℕ)
versions_of o = option_and_then versions_in o

versions_read : (major minor : Option ℕ) → IfSome major (λ n. n < 2 ^ 32) → IfSome minor (λ n. n < 2 ^ 32) → HasVersions major minor
    → (major ≡ option_map (λ v. v.0) (versions_of (versions_json major minor))) × (minor ≡ option_map (λ v. v.1) (versions_of (versions_json major minor)))
versions_read (Some m) (Some n) one other has =
    let a = fits 32 m one in
    let b = fits 32 n other in (
      sym (ap (option_map (λ (v : ℕ × ℕ). v.0)) (ap (λ (o : Option ℕ). both o (fitting 32 n)) a ∙ ap (both (Some m)) b)),
      sym (ap (option_map (λ (v : ℕ × ℕ). v.1)) (ap (λ (o : Option ℕ). both o (fitting 32 n)) a ∙ ap (both (Some m)) b)),
    )
versions_read None None one other has = (refl, refl)
versions_read (Some m) None one other has = elim has [
  | inl h ↦ absurd (false≢true h.1)
  | inr h ↦ absurd (let e : Some m ≡ None = h.0 in cc)
]
versions_read None (Some n) one other has = elim has [
  | inl h ↦ absurd (false≢true h.0)
  | inr h ↦ absurd (let e : Some n ≡ None = h.1 in cc)
]

-- an element with this payload names these fields
payload_is : (meta : MetaData) (element : Data) (changes : List (ℕ × DataValue)) → IsMeta meta.fields → IsPatchFrom 0 meta.quality meta.fields changes
    → get (codes "Payload") element ≡ Some (fields_json meta changes) → HasPayload meta element changes
payload_is meta element changes is patch at =
    record { payload = fields_json meta changes; here = at; object = refl; names = written_names meta changes is.distinct patch }

content_is : (meta : MetaData) (w n : ℕ) (v : Option Data) (content : Content) → IsMeta meta.fields → IsContent meta content
    → HasContent meta (element_of w (kind_word content) v (payload_json meta content) n) content
content_is meta w n v (Whole row) is fits = (
  refl,
  sym (length_row meta.quality meta.fields row fits),
  payload_is meta _ (numbered 0 row) is (whole_is_patch meta.quality meta.fields row fits) (get_payload w (codes "ua-keyframe") v (Some (fields_json meta (numbered 0 row))) n),
)
content_is meta w n v (Change patch) is fits =
    (refl, payload_is meta _ patch is fits (get_payload w (codes "ua-deltaframe") v (Some (fields_json meta patch)) n))
content_is meta w n v Alive is fits = refl

frame_number : (o : Option ℕ) → IsSome o → (n : ℕ) × (o ≡ Some n)
frame_number None is = absurd (false≢true is)
frame_number (Some n) is = (n, refl)

pub frame_is : (metas : List MetaData) (part : Part) → IsPart metas part → GivesFrame (meta_at metas part.set) (element_json metas part) part.frame
frame_is metas part is =
    let meta = meta_at metas part.set in
    let f = part.frame in
    let n = frame_number f.number is.number in
    let low : n.0 < 2 ^ 16 = subst (λ (o : Option ℕ). IfSome o (λ m. m < 2 ^ 16)) n.1 is.frame.number in
    let same : unwrap_or f.number 0 ≡ n.0 = ap (λ (o : Option ℕ). unwrap_or o 0) n.1 in
    let v = versions_json f.major f.minor in
    let p = payload_json meta f.content in
    let element : ℕ → Data = element_of part.writer (kind_word f.content) v p in
    let read = versions_read f.major f.minor is.frame.major is.frame.minor is.versions in
    let number : sequence_at (element n.0) ≡ Some n.0 = sequence part.writer (kind_word f.content) v p n.0 low in
    let versions : versions_at (element (unwrap_or f.number 0)) ≡ versions_of v = ap versions_of (get_versions part.writer (kind_word f.content) v p (unwrap_or f.number 0)) in
    record {
      numbered = is.number;
      number = n.1 ∙ sym number ∙ sym (ap (λ (m : ℕ). sequence_at (element m)) same);
      major = read.0 ∙ sym (ap (option_map (λ (w : ℕ × ℕ). w.0)) versions);
      minor = read.1 ∙ sym (ap (option_map (λ (w : ℕ × ℕ). w.1)) versions);
      content = content_is meta part.writer (unwrap_or f.number 0) v f.content is.meta is.frame.content;
    }

pub part_is : (metas : List MetaData) (sets : List (ℕ × ℕ)) (part : Part) → IsPart metas part → set_of sets part.writer ≡ Some part.set → GivesPart metas sets (element_json metas part) part
part_is metas sets part is named =
    record { writer = fits 16 part.writer is.writer; set = named; frame = frame_is metas part is }

-- the elements are read as the parts, and none is bad
pub parts_are : (metas : List MetaData) (sets : List (ℕ × ℕ)) (parts : List Part) → AllByRecursion (IsNamedPart metas sets) parts
    → ReadAs metas sets (elements_json metas parts) parts 0
parts_are metas sets [] each = (refl, refl)
parts_are metas sets (part ∷ parts) each =
    inr (inl (part, parts, refl, part_is metas sets part each.0.0 each.0.1, parts_are metas sets parts each.1))
