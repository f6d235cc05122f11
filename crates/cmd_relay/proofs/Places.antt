-- What holds of all writers or of all readers, place by place.
use Rattle.std.proofs.Common.{◌≡◌, ℕ, zero, suc, ◌+◌, ◌<◌, ◌≤◌, List, [], ◌∷◌, ◌++◌, length, map, Some, sym, ap, subst, inl, inr, arith}
use Rattle.std.specs.Prelude.{◌⊎◌, reverse, slice_get}
use Rattle.std.specs.List.{AllByRecursion, flat_map, range_with_len}
use Rattle.std.proofs.lemmas.Bool.{cases_lt}
use Rattle.std.proofs.lemmas.List.{get_or_past, reverse-append}
use Rattle.ps_config.specs.declared.parts.Config.{Config}
use Rattle.ps_config.specs.declared.parts.ReadGroupPart.{ReadGroupPart}
use Rattle.reader_group.specs.Settings.{group_at as read_group_at, no_group as no_read_group}
use Rattle.writer_group.specs.Parts.{group_at}
use Rattle.session_model.specs.Closing.{MemberPlace, writer_places}
use Rattle.session_model.specs.Deeds.{writer_indexes}

-- ---- lists

all-both : {X : Type 0} (P : X → Type 0) (xs ys : List X) → AllByRecursion P xs → AllByRecursion P ys → AllByRecursion P (xs ++ ys)
all-both P [] ys in_xs in_ys = in_ys
all-both P (x ∷ xs) ys in_xs in_ys = (in_xs.0, all-both P xs ys in_xs.1 in_ys)

pub all-back : {X : Type 0} (P : X → Type 0) (xs : List X) → AllByRecursion P xs → AllByRecursion P (reverse xs)
all-back P [] all = tt
all-back P (x ∷ xs) all = subst (AllByRecursion P) (sym (reverse-append (x ∷ []) xs)) (all-both P (reverse xs) (x ∷ []) (all-back P xs all.1) (all.0, tt))

pub everywhere : (P : MemberPlace → Type 0) → ((place : MemberPlace) → P place) → (places : List MemberPlace) → AllByRecursion P places
everywhere P each [] = tt
everywhere P each (place ∷ places) = (each place, everywhere P each places)

pub all-at : (P : MemberPlace → Type 0) (places : List MemberPlace) (k : ℕ) (place : MemberPlace) → AllByRecursion P places → slice_get places k ≡ Some place → P place
all-at P [] k place all at = absurd (cc)
all-at P (x ∷ places) zero place all at = let same : x ≡ place = cc in subst P same all.0
all-at P (x ∷ places) (suc k) place all at = all-at P places k place all.1 at

-- ---- writers

in-group : (P : MemberPlace → Type 0) (g start n : ℕ) → ((w : ℕ) → w < start + n → P (g, w)) → AllByRecursion P (map (λ w. (g, w)) (range_with_len start n))
in-group P g start zero each = tt
in-group P g start (suc n) each = (each start (omega arith), in-group P g (start + 1) n (λ w low. each w (omega (arith, low))))

in-groups : (config : Config) (P : MemberPlace → Type 0) → ((g w : ℕ) → w < length (group_at config g).writer → P (g, w)) → (start n : ℕ)
    → AllByRecursion P (flat_map (λ g. map (λ w. (g, w)) (writer_indexes (group_at config g))) (range_with_len start n))
in-groups config P each start zero = tt
in-groups config P each start (suc n) =
    all-both P (map (λ w. (start, w)) (writer_indexes (group_at config start)))
    (flat_map (λ g. map (λ w. (g, w)) (writer_indexes (group_at config g))) (range_with_len (start + 1) n))
    (in-group P start 0 (length (group_at config start).writer) (λ w low. each start w (omega (arith, low)))) (in-groups config P each (start + 1) n)

pub writers-all : (config : Config) (P : MemberPlace → Type 0) → ((g w : ℕ) → w < length (group_at config g).writer → P (g, w)) → AllByRecursion P (writer_places config)
writers-all config P each = in-groups config P each 0 (length config.group)

-- ---- readers

-- a read group with a reader is there
pub read-group-there : (config : Config) (r i : ℕ) → i < length (read_group_at config r).reader → r < length config.readgroup
read-group-there config r i within = on (cases_lt r (length config.readgroup))
  where
    on : (r < length config.readgroup) ⊎ (length config.readgroup ≤ r) → r < length config.readgroup
    on (inl less) = less
    on (inr past) =
        let none : length (read_group_at config r).reader ≡ 0 = ap (λ (group : ReadGroupPart). length group.reader) (get_or_past config.readgroup r no_read_group past) in
        absurd (omega (arith, within, none))
