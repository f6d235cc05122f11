-- The elements of the messages, one after another.
use Rattle.std.proofs.Common.{◌≡◌, ℕ, ◌+◌, ◌<◌, List, [], ◌∷◌, ◌++◌, length, get_or, map, take, Option, Some, None, IsSome, option_map, inl, inr, refl, sym, ap, ◌∙◌, subst}
use Rattle.frame_codec.specs.Words.{IsFrameOf}
use Rattle.std.proofs.lemmas.List.{map-append, take_more}
use Rattle.serde_json.specs.Data.{Data}
use Rattle.serde_json.specs.View.{view, items_of}
use Rattle.serde_json.specs.declared.value.Value.{Value}
use Rattle.dataset_meta.specs.Metas.{MetaData}
use Rattle.json_frames.specs.declared.message.JsonPart.{JsonPart}
use Rattle.json_frames.specs.Parts.{Part, IsPartOf, HasVersions, meta_at, part_in}
use Rattle.json_frames.specs.Reading.{IsOther, GivesPart, IsBad, ReadAs, HavePlaces, versions_at}
use Rattle.json_frames.proofs.Sets.{set_within}

pub read_other : (metas : List MetaData) (sets : List (ℕ × ℕ)) (ds : List Data) (d : Data) (ps : List Part) (b : ℕ) → ReadAs metas sets (items_of ds) ps b → IsOther sets d
    → ReadAs metas sets (items_of (ds ++ d ∷ [])) ps b
read_other metas sets [] d ps b h is = inl (is, h)
read_other metas sets (e ∷ ds) d ps b h is = elim h [
  | inl n ↦ inl (n.0, read_other metas sets ds d ps b n.1 is)
  | inr m ↦ elim m [
    | inl n ↦ inr (inl (n.0, n.1, n.2, n.3, read_other metas sets ds d n.1 b n.4 is))
    | inr n ↦ inr (inr (n.0, n.1, n.2, read_other metas sets ds d ps n.0 n.3 is))
  ]
]

pub read_part : (metas : List MetaData) (sets : List (ℕ × ℕ)) (ds : List Data) (d : Data) (ps : List Part) (b : ℕ) (p : Part) → ReadAs metas sets (items_of ds) ps b → GivesPart metas sets d p
    → ReadAs metas sets (items_of (ds ++ d ∷ [])) (ps ++ p ∷ []) b
read_part metas sets [] d ps b p h is = inr (inl (p, [], ap (λ (l : List Part). l ++ p ∷ []) h.0, is, (refl, h.1)))
read_part metas sets (e ∷ ds) d ps b p h is = elim h [
  | inl n ↦ inl (n.0, read_part metas sets ds d ps b p n.1 is)
  | inr m ↦ elim m [
    | inl n ↦ inr (inl (n.0, n.1 ++ p ∷ [], ap (λ (l : List Part). l ++ p ∷ []) n.2, n.3, read_part metas sets ds d n.1 b p n.4 is))
    | inr n ↦ inr (inr (n.0, n.1, n.2, read_part metas sets ds d ps n.0 p n.3 is))
  ]
]

pub read_bad : (metas : List MetaData) (sets : List (ℕ × ℕ)) (ds : List Data) (d : Data) (ps : List Part) (b : ℕ) → ReadAs metas sets (items_of ds) ps b → IsBad metas sets d
    → ReadAs metas sets (items_of (ds ++ d ∷ [])) ps (b + 1)
read_bad metas sets [] d ps b h is = inr (inr (b, refl, is, h))
read_bad metas sets (e ∷ ds) d ps b h is = elim h [
  | inl n ↦ inl (n.0, read_bad metas sets ds d ps b n.1 is)
  | inr m ↦ elim m [
    | inl n ↦ inr (inl (n.0, n.1, n.2, n.3, read_bad metas sets ds d n.1 b n.4 is))
    | inr n ↦ inr (inr (n.0 + 1, ap (λ (k : ℕ). k + 1) n.1, n.2, read_bad metas sets ds d ps n.0 n.3 is))
  ]
]

-- one element more among those that were looked at
pub one_more : (vs : List Value) (i : ℕ) (v : Value) → i < length vs → v ≡ get_or vs i v → map view (take (i + 1) vs) ≡ map view (take i vs) ++ view v ∷ []
one_more vs i v inside is =
    ap (map view) (take_more vs i v inside) ∙ map-append view (take i vs) (get_or vs i v ∷ []) ∙ ap (λ (x : Value). map view (take i vs) ++ view x ∷ []) (sym is)

versions_by : (o : Option (ℕ × ℕ)) (major minor : Option ℕ) → major ≡ option_map (λ v. v.0) o → minor ≡ option_map (λ v. v.1) o → HasVersions major minor
versions_by None major minor one other = inr (one, other)
versions_by (Some v) major minor one other = inl (subst (λ (o : Option ℕ). IsSome o) (sym one) refl, subst (λ (o : Option ℕ). IsSome o) (sym other) refl)

-- a part that an element gives can be written
pub part_of : (metas : List MetaData) (sets : List (ℕ × ℕ)) (d : Data) (part : JsonPart) → HavePlaces metas sets → GivesPart metas sets d (part_in metas part) → IsFrameOf (meta_at metas part.set) part.frame
    → IsPartOf metas part
part_of metas sets d part places gives of =
    record {
      set = set_within sets part.writer part.set (length metas) places gives.set;
      frame = of;
      number = gives.frame.numbered;
      versions = versions_by (versions_at d) part.frame.major part.frame.minor gives.frame.major gives.frame.minor;
    }
