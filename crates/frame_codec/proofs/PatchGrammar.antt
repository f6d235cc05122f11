-- A delta frame is read of exactly what spells it.
use Rattle.std.proofs.Common.{◌≡◌, ℕ, zero, suc, ◌<◌, ◌^◌, Bool, true, false, List, [], ◌∷◌, ◌++◌, length, Option, Some, None, Ok, Err, refl, sym, ap, ◌∙◌, append-nil, arith}
use Rattle.std.specs.Prelude.{slice_get}
use Rattle.std.specs.Int.{w16, to_le_bytes}
use Rattle.ua_binary.specs.Reading.{◌>>=◌, number_at}
use Rattle.ua_binary.proofs.Grammar.{IsGrammar, Joined, then_grammar, Done, done_grammar, Never, refused_grammar, same_grammar, Made, made_grammar, alone}
use Rattle.ua_binary.proofs.Parts.{IsNumber, number_grammar, coded16}
use Rattle.dataset_meta.specs.declared.field.Field.{Field}
use Rattle.dataset_meta.specs.DataValues.{DataValue}
use Rattle.dataset_meta.specs.Metas.{MetaData}
use Rattle.dataset_meta.specs.Rows.{put_in}
use Rattle.frame_codec.specs.declared.fault.FrameFault.{FrameFault}
use Rattle.frame_codec.specs.declared.fault.FrameFault.TheVariants.{Short, BadIndex}
use Rattle.frame_codec.specs.Contents.{field_at, surplus_at, put_at, change_at, changes_at, patch_at}
use Rattle.frame_codec.specs.Wire.{WireField, field_bytes, wire_change_bytes, wire_changes_bytes, IsFor, AreChanges, put_read, patch_read}
use Rattle.frame_codec.proofs.ContentGrammar.{SpellsField, field_grammar, SpellsSurplus, surplus_grammar}

-- a patch
abbrev Changes : Type 0
Changes = List (ℕ × DataValue)

-- a value for this field, put into a patch
pub record SpellsPut (quality newer : Bool) (encoding : ℕ) (patch : List (ℕ × DataValue)) (index : ℕ) (found : Option Field) (result : List (ℕ × DataValue)) (text : List ℕ) : Type 0 where
  pub wire : WireField
  pub is_for : IsFor newer encoding found wire
  pub meaning : put_read quality patch index found wire ≡ result
  pub spelled : text ≡ field_bytes wire

SurplusPut : ℕ → List (ℕ × DataValue) → List (ℕ × DataValue) → List ℕ → Type 0
SurplusPut encoding patch = Joined (Unit {0}) Changes (SpellsSurplus encoding) (λ _. Done patch)

pub put_grammar : (quality newer : Bool) (encoding : ℕ) (patch : List (ℕ × DataValue)) (index : ℕ) (found : Option Field) → IsGrammar Changes FrameFault Short (SpellsPut quality newer encoding patch index found) (put_at quality newer encoding patch index found)
unfolding SurplusPut
put_grammar quality newer encoding patch index (Some field) =
    same_grammar Changes FrameFault Short (Made DataValue Changes (SpellsField quality encoding field) (λ x. put_in patch index x)) (SpellsPut quality newer encoding patch index (Some field)) (put_at quality newer encoding patch index (Some field))
    (λ result text m. record { wire = m.spells.wire; is_for = m.spells.is_for; meaning = ap (put_in patch index) m.spells.meaning ∙ sym m.is; spelled = m.spells.spelled })
    (λ result text s. record { found = _; spells = record { wire = s.wire; is_for = s.is_for; meaning = refl; spelled = s.spelled }; is = sym s.meaning })
    (made_grammar DataValue Changes FrameFault Short (SpellsField quality encoding field) (λ x. put_in patch index x) (field_at quality encoding field) (field_grammar quality encoding field))
put_grammar quality true encoding patch index None =
    same_grammar Changes FrameFault Short (SurplusPut encoding patch) (SpellsPut quality true encoding patch index None) (λ bytes. surplus_at encoding bytes >>= λ value. Ok (patch, value.1))
    (λ result text j. record {
      wire = j.spells_first.wire;
      is_for = record { grown = refl; is_wire = j.spells_first.is_wire; present = j.spells_first.present };
      meaning = sym j.spells.0;
      spelled = sym (alone j.front j.back text j.split j.spells.1) ∙ j.spells_first.spelled;
    })
    (λ result text s. record {
      first = tt;
      front = text;
      back = [];
      spells_first = record { wire = s.wire; is_wire = s.is_for.is_wire; present = s.is_for.present; spelled = s.spelled };
      spells = (sym s.meaning, refl);
      split = sym (append-nil text);
    })
    (then_grammar (Unit {0}) Changes FrameFault Short (SpellsSurplus encoding) (λ _. Done patch) (surplus_at encoding) (λ _ rest. Ok (patch, rest)) (surplus_grammar encoding) (λ _ _ _. done_grammar Changes FrameFault Short patch))
put_grammar quality false encoding patch index None =
    same_grammar Changes FrameFault Short Never (SpellsPut quality false encoding patch index None) (λ bytes. Err (BadIndex index)) (λ result text never. absurd never)
    (λ result text s. absurd (let e : Path Bool false true = s.is_for.grown in cc)) (refused_grammar Changes FrameFault Short (BadIndex index))

-- a change, put into a patch
pub record SpellsChange (meta : MetaData) (newer : Bool) (encoding : ℕ) (patch : List (ℕ × DataValue)) (result : List (ℕ × DataValue)) (text : List ℕ) : Type 0 where
  pub index : ℕ
  pub wire : WireField
  pub small : index < 2 ^ 16
  pub is_for : IsFor newer encoding (slice_get meta.fields index) wire
  pub meaning : put_read meta.quality patch index (slice_get meta.fields index) wire ≡ result
  pub spelled : text ≡ wire_change_bytes (index, wire)

PutIn : MetaData → Bool → ℕ → List (ℕ × DataValue) → ℕ → List (ℕ × DataValue) → List ℕ → Type 0
PutIn meta newer encoding patch index = SpellsPut meta.quality newer encoding patch index (slice_get meta.fields index)

ChangeJoined : MetaData → Bool → ℕ → List (ℕ × DataValue) → List (ℕ × DataValue) → List ℕ → Type 0
ChangeJoined meta newer encoding patch = Joined ℕ Changes (IsNumber w16 16) (PutIn meta newer encoding patch)

pub change_grammar : (meta : MetaData) (newer : Bool) (encoding : ℕ) (patch : List (ℕ × DataValue)) → IsGrammar Changes FrameFault Short (SpellsChange meta newer encoding patch) (change_at meta newer encoding patch)
unfolding change_at ChangeJoined PutIn
change_grammar meta newer encoding patch =
    same_grammar Changes FrameFault Short (ChangeJoined meta newer encoding patch) (SpellsChange meta newer encoding patch) (change_at meta newer encoding patch)
    (λ result text j. record {
      index = j.first;
      wire = j.spells.wire;
      small = j.spells_first.0;
      is_for = j.spells.is_for;
      meaning = j.spells.meaning;
      spelled = j.split ∙ ap (λ (l : List ℕ). l ++ j.back) j.spells_first.1 ∙ ap (λ (l : List ℕ). to_le_bytes w16 j.first ++ l) j.spells.spelled;
    })
    (λ result text s. record {
      first = s.index;
      front = to_le_bytes w16 s.index;
      back = field_bytes s.wire;
      spells_first = (s.small, refl);
      spells = record { wire = s.wire; is_for = s.is_for; meaning = s.meaning; spelled = refl };
      split = s.spelled;
    })
    (then_grammar ℕ Changes FrameFault Short (IsNumber w16 16) (PutIn meta newer encoding patch) (number_at Short w16) (λ index rest. put_at meta.quality newer encoding patch index (slice_get meta.fields index) rest) (number_grammar FrameFault Short w16 16 coded16)
    (λ index _ _. put_grammar meta.quality newer encoding patch index (slice_get meta.fields index)))

-- so many changes, put into a patch
pub record SpellsChanges (meta : MetaData) (newer : Bool) (encoding count : ℕ) (patch : List (ℕ × DataValue)) (result : List (ℕ × DataValue)) (text : List ℕ) : Type 0 where
  pub changes : List (ℕ × WireField)
  pub counted : length changes ≡ count
  pub are : AreChanges newer encoding meta.fields changes
  pub meaning : patch_read meta.quality meta.fields patch changes ≡ result
  pub spelled : text ≡ wire_changes_bytes changes

none_left : (changes : List (ℕ × WireField)) → length changes ≡ 0 → changes ≡ []
none_left [] none = refl
none_left (change ∷ changes) none = absurd (omega (arith, none))

ChangesJoined : MetaData → Bool → ℕ → ℕ → List (ℕ × DataValue) → List (ℕ × DataValue) → List ℕ → Type 0
ChangesJoined meta newer encoding count patch = Joined Changes Changes (SpellsChange meta newer encoding patch) (SpellsChanges meta newer encoding count)

changes_here : (meta : MetaData) (newer : Bool) (encoding count : ℕ) (patch result : List (ℕ × DataValue)) (text : List ℕ) (changes : List (ℕ × WireField)) → length changes ≡ suc count
    → AreChanges newer encoding meta.fields changes → patch_read meta.quality meta.fields patch changes ≡ result → text ≡ wire_changes_bytes changes → ChangesJoined meta newer encoding count patch result text
unfolding ChangesJoined
changes_here meta newer encoding count patch result text [] counted are meaning spelled = absurd (omega (arith, counted))
changes_here meta newer encoding count patch result text (change ∷ changes) counted are meaning spelled = record {
  first = put_read meta.quality patch change.0 (slice_get meta.fields change.0) change.1;
  front = wire_change_bytes change;
  back = wire_changes_bytes changes;
  spells_first = record { index = change.0; wire = change.1; small = are.0; is_for = are.1; meaning = refl; spelled = refl };
  spells = record { changes = changes; counted = omega (arith, counted); are = are.2; meaning = meaning; spelled = refl };
  split = spelled;
}

pub changes_grammar : (meta : MetaData) (newer : Bool) (encoding count : ℕ) (patch : List (ℕ × DataValue)) → IsGrammar Changes FrameFault Short (SpellsChanges meta newer encoding count patch) (changes_at meta newer encoding count patch)
unfolding ChangesJoined
changes_grammar meta newer encoding zero patch =
    same_grammar Changes FrameFault Short (Done patch) (SpellsChanges meta newer encoding 0 patch) (λ bytes. Ok (patch, bytes)) (λ result text d. record { changes = []; counted = refl; are = tt; meaning = sym d.0; spelled = d.1 })
    (λ result text s. (sym s.meaning ∙ ap (patch_read meta.quality meta.fields patch) (none_left s.changes s.counted), s.spelled ∙ ap wire_changes_bytes (none_left s.changes s.counted))) (done_grammar Changes FrameFault Short patch)
changes_grammar meta newer encoding (suc count) patch =
    same_grammar Changes FrameFault Short (ChangesJoined meta newer encoding count patch) (SpellsChanges meta newer encoding (suc count) patch) (changes_at meta newer encoding (suc count) patch)
    (λ result text j. record {
      changes = (j.spells_first.index, j.spells_first.wire) ∷ j.spells.changes;
      counted = ap suc j.spells.counted;
      are = (j.spells_first.small, j.spells_first.is_for, j.spells.are);
      meaning = ap (λ (p : List (ℕ × DataValue)). patch_read meta.quality meta.fields p j.spells.changes) j.spells_first.meaning ∙ j.spells.meaning;
      spelled = j.split ∙ ap (λ (l : List ℕ). l ++ j.back) j.spells_first.spelled ∙ ap (λ (l : List ℕ). wire_change_bytes (j.spells_first.index, j.spells_first.wire) ++ l) j.spells.spelled;
    })
    (λ result text s. changes_here meta newer encoding count patch result text s.changes s.counted s.are s.meaning s.spelled)
    (then_grammar Changes Changes FrameFault Short (SpellsChange meta newer encoding patch) (SpellsChanges meta newer encoding count) (change_at meta newer encoding patch) (λ before rest. changes_at meta newer encoding count before rest) (change_grammar meta newer encoding patch)
    (λ before _ _. changes_grammar meta newer encoding count before))

pub record SpellsPatch (meta : MetaData) (newer : Bool) (encoding : ℕ) (patch : List (ℕ × DataValue)) (text : List ℕ) : Type 0 where
  pub changes : List (ℕ × WireField)
  pub few : length changes < 2 ^ 16
  pub are : AreChanges newer encoding meta.fields changes
  pub meaning : patch_read meta.quality meta.fields [] changes ≡ patch
  pub spelled : text ≡ to_le_bytes w16 (length changes) ++ wire_changes_bytes changes

AllChanges : MetaData → Bool → ℕ → ℕ → List (ℕ × DataValue) → List ℕ → Type 0
AllChanges meta newer encoding count = SpellsChanges meta newer encoding count []

PatchJoined : MetaData → Bool → ℕ → List (ℕ × DataValue) → List ℕ → Type 0
PatchJoined meta newer encoding = Joined ℕ Changes (IsNumber w16 16) (AllChanges meta newer encoding)

pub patch_grammar : (meta : MetaData) (newer : Bool) (encoding : ℕ) → IsGrammar Changes FrameFault Short (SpellsPatch meta newer encoding) (patch_at meta newer encoding)
unfolding patch_at PatchJoined AllChanges
patch_grammar meta newer encoding =
    same_grammar Changes FrameFault Short (PatchJoined meta newer encoding) (SpellsPatch meta newer encoding) (patch_at meta newer encoding)
    (λ patch text j. record {
      changes = j.spells.changes;
      few = omega (arith, j.spells.counted, j.spells_first.0);
      are = j.spells.are;
      meaning = j.spells.meaning;
      spelled = j.split ∙ ap (λ (l : List ℕ). l ++ j.back) j.spells_first.1 ∙ ap (λ (n : ℕ). to_le_bytes w16 n ++ j.back) (sym j.spells.counted) ∙ ap (λ (l : List ℕ). to_le_bytes w16 (length j.spells.changes) ++ l) j.spells.spelled;
    })
    (λ patch text s. record {
      first = length s.changes;
      front = to_le_bytes w16 (length s.changes);
      back = wire_changes_bytes s.changes;
      spells_first = (s.few, refl);
      spells = record { changes = s.changes; counted = refl; are = s.are; meaning = s.meaning; spelled = refl };
      split = s.spelled;
    })
    (then_grammar ℕ Changes FrameFault Short (IsNumber w16 16) (AllChanges meta newer encoding) (number_at Short w16) (λ count rest. changes_at meta newer encoding count [] rest) (number_grammar FrameFault Short w16 16 coded16)
    (λ count _ _. changes_grammar meta newer encoding count []))
