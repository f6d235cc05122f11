-- Which slots clash, and what slots of which none does.
use Rattle.std.proofs.Common.{◌≡◌, ℕ, zero, suc, ◌<◌, ◌⊎◌, inl, inr, List, ◌∷◌, length, take, get_or, refl, sym, ap, subst, ◌∙◌, arith, length-take-le}
use Rattle.std.specs.Prelude.{Any}
use Rattle.std.proofs.lemmas.Bool.{cases_order}
use Rattle.std.proofs.lemmas.List.{get_or-take, get_or_default}
use Rattle.fixed_layout.specs.declared.slot.Slot.{Slot}
use Rattle.fixed_layout.specs.declared.slot_fault.SlotFault.{SlotFault}
use Rattle.fixed_layout.specs.declared.slot_fault.SlotFault.TheVariants.{Clash, Small, Past}
use Rattle.fixed_layout.specs.Slots.{ShareAByte, header_of, AreApart, AreLarge, AreWithin, AreSlots}
use Rattle.fixed_layout.specs.Faults.{IsClash, IsSmall, IsPast, IsFirstSlot, RefusesSlots}

abbrev Shares : Slot → List Slot → Type 0
Shares slot earlier = Any (λ (one : Slot). ShareAByte one slot) earlier

-- with the header, or with an earlier slot
pub clash-from : (start : ℕ) (slots : List Slot) (index : ℕ) (slot : Slot) → index < length slots → slot ≡ get_or slots index slot → ShareAByte (header_of start) slot ⊎ Shares slot (take index slots) → IsClash start slots index
clash-from start slots index slot within at shares = λ d. subst (λ (s : Slot). Shares s (header_of start ∷ take index slots)) (at ∙ get_or_default slots index slot d within) (by_case shares)
  where
    by_case : ShareAByte (header_of start) slot ⊎ Shares slot (take index slots) → Shares slot (header_of start ∷ take index slots)
    by_case (inl share) = (zero, header_of start, omega arith, refl, share)
    by_case (inr any) = (suc any.0, any.1, omega (arith, any.2), any.3, any.4)

pub clash-gives : (start : ℕ) (slots : List Slot) (index : ℕ) (slot : Slot) → slot ≡ get_or slots index slot → IsClash start slots index → ShareAByte (header_of start) slot ⊎ Shares slot (take index slots)
clash-gives start slots index slot at clash = by_case (subst (λ (s : Slot). Shares s (header_of start ∷ take index slots)) (sym at) (clash slot))
  where
    by_place : (k : ℕ) (x : Slot) → k < length (header_of start ∷ take index slots) → get_or (header_of start ∷ take index slots) k x ≡ x → ShareAByte x slot → ShareAByte (header_of start) slot ⊎ Shares slot (take index slots)
    by_place zero x within here share = inl (subst (λ (one : Slot). ShareAByte one slot) (sym here) share)
    by_place (suc k) x within here share = inr (k, x, omega (arith, within), here, share)

    by_case : Shares slot (header_of start ∷ take index slots) → ShareAByte (header_of start) slot ⊎ Shares slot (take index slots)
    by_case any = by_place any.0 any.1 any.2 any.3 any.4

-- the same of the slot as it is read
abbrev none : Slot
none = record { offset = 0; size = 0; need = 0 }

pub clash-shares : (start : ℕ) (slots : List Slot) (index : ℕ) → index < length slots → Shares (get_or slots index none) (take index slots) → IsClash start slots index
clash-shares start slots index within shares = clash-from start slots index (get_or slots index none) within (get_or_default slots index none (get_or slots index none) within) (inr shares)

pub clash-cases : (start : ℕ) (slots : List Slot) (index : ℕ) → index < length slots → IsClash start slots index → ShareAByte (header_of start) (get_or slots index none) ⊎ Shares (get_or slots index none) (take index slots)
clash-cases start slots index within clash = clash-gives start slots index (get_or slots index none) (get_or_default slots index none (get_or slots index none) within) clash

-- those in front of a slot are those in front of it in the whole list
earlier : (start : ℕ) (slots : List Slot) (i k : ℕ) (d : Slot) → i < suc k → get_or (header_of start ∷ take k slots) i d ≡ get_or (header_of start ∷ slots) i d
earlier start slots zero k d before = refl
earlier start slots (suc i) k d before = get_or-take k slots i d (omega arith)

-- slots of which none clashes lie apart
pub apart-from : (start : ℕ) (slots : List Slot) → ((k : ℕ) → k < length slots → ¬ IsClash start slots k) → AreApart start slots
apart-from start slots none i zero d before within = absurd (omega arith)
apart-from start slots none i (suc k) d before within = λ share.
    let in_slots : k < length slots = omega arith in
    let one : Slot = get_or (header_of start ∷ slots) i d in
    let there : i < length (header_of start ∷ take k slots) = omega (arith, length-take-le k slots (omega arith)) in
    let same : get_or (header_of start ∷ take k slots) i one ≡ one = get_or_default (header_of start ∷ take k slots) i one d there ∙ earlier start slots i k d before in
    none k in_slots (λ e. (i, one, there, same, subst (λ (s : Slot). ShareAByte one s) (get_or_default slots k d e in_slots) share))

-- and of slots that lie apart none does
pub apart-clash : (start : ℕ) (slots : List Slot) (index : ℕ) → AreApart start slots → index < length slots → ¬ IsClash start slots index
apart-clash start slots index apart within clash = by_any (clash (header_of start))
  where
    by_any : Shares (get_or slots index (header_of start)) (header_of start ∷ take index slots) → ⊥
    by_any any =
        let before : any.0 < suc index = omega (arith, any.2, length-take-le index slots (omega arith)) in
        let same : get_or (header_of start ∷ slots) any.0 (header_of start) ≡ any.1 =
        sym (earlier start slots any.0 index (header_of start) before) ∙ get_or_default (header_of start ∷ take index slots) any.0 (header_of start) any.1 any.2 ∙ any.3 in
        apart any.0 (suc index) (header_of start) before (omega arith) (subst (λ (one : Slot). ShareAByte one (get_or slots index (header_of start))) (sym same) any.4)

pub large-small : (slots : List Slot) (index : ℕ) → AreLarge slots → index < length slots → ¬ IsSmall slots index
large-small slots index are within small = omega (arith, are index (header_of 0) within, small (header_of 0))

pub within-past : (limit : ℕ) (slots : List Slot) (index : ℕ) → AreWithin limit slots → index < length slots → ¬ IsPast limit slots index
within-past limit slots index are within past = omega (arith, are index (header_of 0) within, past (header_of 0))

-- there is one first slot
first-one : (slots : List Slot) (P : ℕ → Type 0) (one other : ℕ) → IsFirstSlot slots P one → IsFirstSlot slots P other → one ≡ other
first-one slots P one other first second = by_order (cases_order one other)
  where
    by_order : (one ≡ other) ⊎ ((one < other) ⊎ (other < one)) → one ≡ other
    by_order (inl same) = same
    by_order (inr (inl before)) = absurd (second.none_before one before first.here)
    by_order (inr (inr behind)) = absurd (first.none_before other behind second.here)

pub one-fault : (start limit : ℕ) (slots : List Slot) (fault other : SlotFault) → RefusesSlots start limit slots fault → RefusesSlots start limit slots other → fault ≡ other
one-fault start limit slots (Clash i) (Clash j) first second = ap Clash (first-one slots (IsClash start slots) i j first second)
one-fault start limit slots (Clash i) (Small j) first second = absurd (apart-clash start slots i second.0 first.within first.here)
one-fault start limit slots (Clash i) (Past j) first second = absurd (apart-clash start slots i second.0 first.within first.here)
one-fault start limit slots (Small i) (Clash j) first second = absurd (apart-clash start slots j first.0 second.within second.here)
one-fault start limit slots (Small i) (Small j) first second = ap Small (first-one slots (IsSmall slots) i j first.1 second.1)
one-fault start limit slots (Small i) (Past j) first second = absurd (large-small slots i second.1 first.1.within first.1.here)
one-fault start limit slots (Past i) (Clash j) first second = absurd (apart-clash start slots j first.0 second.within second.here)
one-fault start limit slots (Past i) (Small j) first second = absurd (large-small slots j first.1 second.1.within second.1.here)
one-fault start limit slots (Past i) (Past j) first second = ap Past (first-one slots (IsPast limit slots) i j first.2 second.2)

pub no-fault : (start limit : ℕ) (slots : List Slot) (fault : SlotFault) → RefusesSlots start limit slots fault → ¬ AreSlots start limit slots
no-fault start limit slots (Clash i) refused are = apart-clash start slots i are.apart refused.within refused.here
no-fault start limit slots (Small i) refused are = large-small slots i are.large refused.1.within refused.1.here
no-fault start limit slots (Past i) refused are = within-past limit slots i are.within refused.2.within refused.2.here
