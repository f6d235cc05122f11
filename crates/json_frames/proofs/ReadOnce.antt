-- Elements are read as one list of parts.
use Rattle.std.proofs.Common.{◌≡◌, ℕ, ◌+◌, List, [], ◌∷◌, map, inl, inr, refl, sym, ap, ◌∙◌, subst}
use Rattle.std.proofs.lemmas.Option.{none-some, same_Some}
use Rattle.serde_json.specs.Data.{Data, Items, item, no_items}
use Rattle.dataset_meta.specs.DataValues.{DataValue}
use Rattle.dataset_meta.specs.Metas.{MetaData}
use Rattle.frame_codec.specs.Frames.{Content, Whole, Change, Alive, Frame}
use Rattle.json_frames.specs.Parts.{Part, meta_at, numbered}
use Rattle.json_frames.specs.Reading.{HasContent, GivesFrame, set_of, IsOther, GivesPart, ReadAs}
use Rattle.json_frames.proofs.ContentsRead.{word_at, key_delta, key_alive, delta_alive, payload_once}

seconds : (row : List DataValue) (i : ℕ) → map (λ (c : ℕ × DataValue). c.1) (numbered i row) ≡ row
seconds [] i = refl
seconds (x ∷ row) i = ap (λ (l : List DataValue). x ∷ l) (seconds row (i + 1))

numbered_once : (i : ℕ) (a b : List DataValue) → numbered i a ≡ numbered i b → a ≡ b
numbered_once i a b same = sym (seconds a i) ∙ ap (map (λ (c : ℕ × DataValue). c.1)) same ∙ seconds b i

content_once : (meta : MetaData) (element : Data) (a b : Content) → HasContent meta element a → HasContent meta element b → a ≡ b
content_once meta element (Whole a) (Whole b) one other =
    ap Whole (numbered_once 0 a b (payload_once meta element (numbered 0 a) (numbered 0 b) one.2 other.2))
content_once meta element (Change a) (Change b) one other = ap Change (payload_once meta element a b one.1 other.1)
content_once meta element Alive Alive one other = refl
content_once meta element (Whole a) (Change b) one other = absurd (key_delta (word_at element) one.0 other.0)
content_once meta element (Change a) (Whole b) one other = absurd (key_delta (word_at element) other.0 one.0)
content_once meta element (Whole a) Alive one other = absurd (key_alive (word_at element) one.0 other)
content_once meta element Alive (Whole b) one other = absurd (key_alive (word_at element) other.0 one)
content_once meta element (Change a) Alive one other = absurd (delta_alive (word_at element) one.0 other)
content_once meta element Alive (Change b) one other = absurd (delta_alive (word_at element) other.0 one)

same_frame : (f g : Frame) → f.number ≡ g.number → f.major ≡ g.major → f.minor ≡ g.minor → f.content ≡ g.content → f ≡ g
same_frame f g number major minor content = rw (← number, ← major, ← minor, ← content) refl

frame_once : (meta : MetaData) (element : Data) (f g : Frame) → GivesFrame meta element f → GivesFrame meta element g → f ≡ g
frame_once meta element f g one other =
    same_frame f g (one.number ∙ sym other.number) (one.major ∙ sym other.major) (one.minor ∙ sym other.minor)
    (content_once meta element f.content g.content one.content other.content)

same_part : (p q : Part) → p.writer ≡ q.writer → p.set ≡ q.set → p.frame ≡ q.frame → p ≡ q
same_part p q writer set frame = rw (← writer, ← set, ← frame) refl

part_once : (metas : List MetaData) (sets : List (ℕ × ℕ)) (d : Data) (p q : Part) → GivesPart metas sets d p → GivesPart metas sets d q → p ≡ q
part_once metas sets d p q one other =
    let writer : p.writer ≡ q.writer = same_Some p.writer q.writer (sym one.writer ∙ other.writer) in
    let set : p.set ≡ q.set = same_Some p.set q.set (sym one.set ∙ ap (set_of sets) writer ∙ other.set) in
    let there : GivesFrame (meta_at metas p.set) d q.frame = subst (λ (n : ℕ). GivesFrame (meta_at metas n) d q.frame) (sym set) other.frame in
    same_part p q writer set (frame_once (meta_at metas p.set) d p.frame q.frame one.frame there)

other_part : (metas : List MetaData) (sets : List (ℕ × ℕ)) (d : Data) (p : Part) → IsOther sets d → GivesPart metas sets d p → ⊥
other_part metas sets d p is gives =
    let writer : is.0 ≡ p.writer = same_Some is.0 p.writer (sym is.1 ∙ gives.writer) in
    none-some p.set (sym is.2 ∙ ap (set_of sets) writer ∙ gives.set)

pub elements_once : (metas : List MetaData) (sets : List (ℕ × ℕ)) (items : Items) (a b : List Part) (m n : ℕ) → ReadAs metas sets items a m → ReadAs metas sets items b n → (a ≡ b) × (m ≡ n)
elements_once metas sets no_items a b m n one other = (one.0 ∙ sym other.0, one.1 ∙ sym other.1)
elements_once metas sets (item d ds) a b m n one other = elim one [
  | inl o ↦ elim other [
    | inl p ↦ elements_once metas sets ds a b m n o.1 p.1
    | inr w ↦ elim w [
      | inl p ↦ absurd (other_part metas sets d p.0 o.0 p.3)
      | inr p ↦ absurd (p.2.ours o.0)
    ]
  ]
  | inr v ↦ elim v [
    | inl o ↦ elim other [
      | inl p ↦ absurd (other_part metas sets d o.0 p.0 o.3)
      | inr w ↦ elim w [
        | inl p ↦
            let part : o.0 ≡ p.0 = part_once metas sets d o.0 p.0 o.3 p.3 in
            let later = elements_once metas sets ds o.1 p.1 m n o.4 p.4 in
            (o.2 ∙ ap (λ (x : Part). x ∷ o.1) part ∙ ap (λ (l : List Part). p.0 ∷ l) later.0 ∙ sym p.2, later.1)
        | inr p ↦ absurd (p.2.no_part o.0 o.3)
      ]
    ]
    | inr o ↦ elim other [
      | inl p ↦ absurd (o.2.ours p.0)
      | inr w ↦ elim w [
        | inl p ↦ absurd (o.2.no_part p.0 p.3)
        | inr p ↦
            let later = elements_once metas sets ds a b o.0 p.0 o.3 p.3 in
            (later.0, o.1 ∙ ap (λ (k : ℕ). k + 1) later.1 ∙ sym p.1)
      ]
    ]
  ]
]
