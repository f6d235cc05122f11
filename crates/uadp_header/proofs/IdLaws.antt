-- Writer ids as bytes and as numbers.
use Rattle.std.proofs.Common.{◌≡◌, ℕ, zero, suc, ◌*◌, ◌/◌, ◌^◌, ◌<◌, List, [], ◌∷◌, ◌++◌, length, take, drop, refl, sym, ap, ◌∙◌, arith}
use Rattle.std.specs.Prelude.{slice_index}
use Rattle.std.specs.Int.{w16, from_le_bytes, to_le_bytes}
use Rattle.std.specs.List.{All, flat_map}
use Rattle.std.proofs.lemmas.List.Elements.{All-cons, All-head, All-tail}
use Rattle.std.proofs.lemmas.Nat.{from_le_bytes-to_le_bytes_2}
use Rattle.ua_binary.specs.Wire.{AreBytes, IsPart}
use Rattle.ua_binary.proofs.Parts.{coded16}
use Rattle.uadp_header.specs.Headers.{ids_of}

abbrev IsByte : ℕ → Type 0
IsByte byte = byte < 256

abbrev IsId : ℕ → Type 0
IsId id = id < 2 ^ 16

pub ids-again : (ids : List ℕ) → All (λ id. id < 2 ^ 16) ids → ids_of (flat_map (to_le_bytes w16) ids) ≡ ids
ids-again [] are = refl
ids-again (id ∷ ids) are =
    ap (λ (n : ℕ). n ∷ ids_of (flat_map (to_le_bytes w16) ids)) (from_le_bytes-to_le_bytes_2 id (All-head IsId id ids are))
    ∙ ap (λ (l : List ℕ). id ∷ l) (ids-again ids (All-tail IsId id ids are))

-- two bytes for each id
pub record AreIdsOf (bytes : List ℕ) : Type 0 where
  pub in_range : All (λ id. id < 2 ^ 16) (ids_of bytes)
  pub spelled : flat_map (to_le_bytes w16) (ids_of bytes) ≡ bytes

pub ids-spelled : (count : ℕ) (bytes : List ℕ) → length bytes ≡ 2 * count → AreBytes bytes → AreIdsOf bytes
ids-spelled count [] even are = record { in_range = λ i d below. absurd (omega arith); spelled = refl }
ids-spelled count (low ∷ []) even are = absurd (omega (arith, even))
ids-spelled zero (low ∷ high ∷ bytes) even are = absurd (omega (arith, even))
ids-spelled (suc count) (low ∷ high ∷ bytes) even are =
    let behind : AreBytes (high ∷ bytes) = All-tail IsByte low (high ∷ bytes) are in
    let more = ids-spelled count bytes (omega (arith, even)) (All-tail IsByte high bytes behind) in
    let none : AreBytes [] = λ i d below. absurd (omega arith) in
    let part : IsPart 2 (low ∷ high ∷ []) = (refl, All-cons IsByte low (high ∷ []) (All-head IsByte low (high ∷ bytes) are) (All-cons IsByte high [] (All-head IsByte high bytes behind) none)) in
    let id : ℕ = from_le_bytes w16 (low ∷ high ∷ []) in
    record {
      in_range = All-cons IsId id (ids_of bytes) (coded16.below (low ∷ high ∷ []) part) more.in_range;
      spelled = ap (λ (l : List ℕ). l ++ flat_map (to_le_bytes w16) (ids_of bytes)) (coded16.bytes (low ∷ high ∷ []) part) ∙ ap (λ (l : List ℕ). (low ∷ high ∷ []) ++ l) more.spelled;
    }

pub ids-count : (bytes : List ℕ) → length (ids_of bytes) ≡ length bytes / 2
ids-count [] = refl
ids-count (low ∷ []) = refl
ids-count (low ∷ high ∷ bytes) = let more = ids-count bytes in omega (arith, more)

-- the id with this index
pub ids-at : (bytes : List ℕ) (k : ℕ) → k < length bytes / 2 → slice_index (ids_of bytes) k ≡ from_le_bytes w16 (take 2 (drop (2 * k) bytes))
ids-at [] k below = absurd (omega (arith, below))
ids-at (low ∷ []) k below = absurd (omega (arith, below))
ids-at (low ∷ high ∷ bytes) zero below = refl
ids-at (low ∷ high ∷ bytes) (suc k) below =
    let far : 2 * suc k ≡ suc (suc (2 * k)) = omega arith in
    ids-at bytes k (omega (arith, below)) ∙ sym (ap (λ (n : ℕ). from_le_bytes w16 (take 2 (drop n (low ∷ high ∷ bytes)))) far)
