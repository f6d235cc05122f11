-- What a group is made of.
use Rattle.std.proofs.Common.{◌≡◌, ℕ, zero, suc, ◌+◌, ◌-◌, ◌<◌, ◌≤◌, List, [], ◌∷◌, ◌++◌, length, take, get_or, refl, sym, ap, subst, ◌∙◌, arith, All, Bool, true, false}
use Rattle.std.specs.Prelude.{if◌then◌else◌}
use Rattle.std.specs.List.{AllZip}
use Rattle.std.proofs.lemmas.List.{take_more}
use Rattle.std.proofs.lemmas.List.Elements.{All-weaker}
use Rattle.std.proofs.lemmas.List.Folds.{length-flat_map-take}
use Rattle.fixed_layout.specs.declared.slot.Slot.{Slot}
use Rattle.fixed_layout.specs.Slots.{AreSlots}
use Rattle.ps_config.specs.declared.parts.Config.{Config}
use Rattle.ps_config.specs.declared.parts.GroupPart.{GroupPart}
use Rattle.ps_config.specs.declared.parts.WriterPart.{WriterPart}
use Rattle.ps_config.specs.FixedSound.{IsFixedGroup}
use Rattle.ps_config.specs.Headers.{signature_len}
use Rattle.ps_config.specs.Rooms.{is_fixed}
use Rattle.ps_config.specs.Sound.{IsGroup as IsSoundGroup, IsSound, IsWriter as IsSoundWriter}
use Rattle.writer_group.specs.Payloads.{fixed_header, slots_of}

pub zip-push : {A B : Type 0} (R : A → B → Type 0) (xs : List A) (ys : List B) (x : A) (y : B) → AllZip R xs ys → R x y → AllZip R (xs ++ x ∷ []) (ys ++ y ∷ [])
zip-push R [] [] x y all is = (is, tt)
zip-push R [] (z ∷ ys) x y all is = absurd all
zip-push R (z ∷ xs) [] x y all is = absurd all
zip-push R (a ∷ xs) (b ∷ ys) x y all is = (all.0, zip-push R xs ys x y all.1 is)

pub zip-more : {A B : Type 0} (R : A → B → Type 0) (xs : List A) (ys : List B) (index : ℕ) (x : A) (y : B) → index < length xs → x ≡ get_or xs index x → AllZip R (take index xs) ys → R x y
    → AllZip R (take (index + 1) xs) (ys ++ y ∷ [])
zip-more {A} {B} R xs ys index x y within is all own =
    subst (λ (l : List A). AllZip R l (ys ++ y ∷ [])) (sym (take_more xs index x within))
    (subst (λ (a : A). AllZip R (take index xs ++ a ∷ []) (ys ++ y ∷ [])) is (zip-push R (take index xs) ys x y all own))

pub length-zip : {A B : Type 0} (R : A → B → Type 0) (xs : List A) (ys : List B) → AllZip R xs ys → length xs ≡ length ys
length-zip R [] [] all = refl
length-zip R [] (y ∷ ys) all = absurd all
length-zip R (x ∷ xs) [] all = absurd all
length-zip R (x ∷ xs) (y ∷ ys) all = ap suc (length-zip R xs ys all.1)

pub zip-at : {A B : Type 0} (R : A → B → Type 0) (xs : List A) (ys : List B) (index : ℕ) (d : A) (e : B) → AllZip R xs ys → index < length ys → R (get_or xs index d) (get_or ys index e)
zip-at R [] [] index d e all within = absurd (omega arith)
zip-at R [] (y ∷ ys) index d e all within = absurd all
zip-at R (x ∷ xs) [] index d e all within = absurd all
zip-at R (x ∷ xs) (y ∷ ys) zero d e all within = all.0
zip-at R (x ∷ xs) (y ∷ ys) (suc index) d e all within = zip-at R xs ys index d e all.1 (omega arith)

-- a group has no more writers than all groups
pub few-writers : (config : Config) (index : ℕ) (part : GroupPart) → IsSound config → index < length config.group → part ≡ get_or config.group index part → length part.writer ≤ 16
few-writers config index part sound within is =
    omega (
      arith,
      ap (λ (g : GroupPart). length g.writer) is,
      length-flat_map-take (λ (g : GroupPart). g.writer) config.group index part within,
      sound.few.writers,
    )

pub no-slots : (start limit : ℕ) → AreSlots start limit []
no-slots start limit = record {
  apart = λ i j d less within. absurd (omega arith);
  large = λ k d within. absurd (omega arith);
  within = λ k d within. absurd (omega arith);
}

-- the slots of a group, or none where its layout is dynamic, are accepted
pub slots-accepted : (config : Config) (part : GroupPart) (slots : List Slot) → slots ≡ (if is_fixed part.layout then slots_of config part else []) → (is_fixed part.layout ≡ true → IsFixedGroup config part)
    → AreSlots (fixed_header config.publisher.id part) (part.max_size - signature_len part.security) slots
slots-accepted config part slots is fixed = by_layout (is_fixed part.layout) refl
  where
    start : ℕ
    start = fixed_header config.publisher.id part

    limit : ℕ
    limit = part.max_size - signature_len part.security

    by_layout : (b : Bool) → is_fixed part.layout ≡ b → AreSlots start limit slots
    by_layout true same = subst (AreSlots start limit) (sym (is ∙ ap (λ (b : Bool). if b then slots_of config part else []) same)) (fixed same).slots
    by_layout false same = subst (AreSlots start limit) (sym (is ∙ ap (λ (b : Bool). if b then slots_of config part else []) same)) (no-slots start limit)

-- the data sets of a group's writers are there
pub data-sets-there : (config : Config) (part : GroupPart) → IsSoundGroup config part → All (λ (writer : WriterPart). writer.dataset < length config.dataset) part.writer
data-sets-there config part sound =
    All-weaker (IsSoundWriter config part) (λ (writer : WriterPart). writer.dataset < length config.dataset) (λ (writer : WriterPart) (is : IsSoundWriter config part writer). is.dataset) part.writer sound.writers

pub counts-there : (config : Config) (part : GroupPart) → IsSoundGroup config part → All (λ (writer : WriterPart). 1 ≤ writer.key_frame_count) part.writer
counts-there config part sound =
    All-weaker (IsSoundWriter config part) (λ (writer : WriterPart). 1 ≤ writer.key_frame_count) (λ (writer : WriterPart) (is : IsSoundWriter config part writer). is.key_frame_count.0) part.writer sound.writers
