-- Sizes behind one another.
use Rattle.std.proofs.Common.{◌≡◌, ℕ, ◌+◌, ◌*◌, ◌<◌, ◌≤◌, Bool, List, [], ◌∷◌, ◌++◌, length, take, get_or, refl, ap, ◌∙◌, append-nil, arith}
use Rattle.std.specs.Prelude.{if◌then◌else◌}
use Rattle.std.specs.Int.{w16, to_le_bytes}
use Rattle.std.specs.List.{flat_map}
use Rattle.std.proofs.lemmas.Bool.{lt-ltb, le-ltb}
use Rattle.std.proofs.lemmas.List.{length-append, take_more}
use Rattle.std.proofs.lemmas.List.Concat.{flat_map-append}
use Rattle.payload_layout.specs.Payloads.{sizes_bytes}

pub length-sizes : (sizes : List ℕ) → length (flat_map (to_le_bytes w16) sizes) ≡ 2 * length sizes
length-sizes [] = refl
length-sizes (size ∷ sizes) = omega (arith, length-append (to_le_bytes w16 size) (flat_map (to_le_bytes w16) sizes), length-sizes sizes)

pub sizes-more : (sizes : List ℕ) (i : ℕ) → i < length sizes → flat_map (to_le_bytes w16) (take (i + 1) sizes) ≡ flat_map (to_le_bytes w16) (take i sizes) ++ to_le_bytes w16 (get_or sizes i 0)
sizes-more sizes i below =
    ap (flat_map (to_le_bytes w16)) (take_more sizes i 0 below) ∙ flat_map-append (to_le_bytes w16) (take i sizes) (get_or sizes i 0 ∷ [])
    ∙ ap (λ (l : List ℕ). flat_map (to_le_bytes w16) (take i sizes) ++ l) (append-nil (to_le_bytes w16 (get_or sizes i 0)))

pub sizes-several : (sizes : List ℕ) → 1 < length sizes → sizes_bytes sizes ≡ flat_map (to_le_bytes w16) sizes
sizes-several sizes more = ap (λ (b : Bool). if b then flat_map (to_le_bytes w16) sizes else []) (lt-ltb 1 (length sizes) more)

pub sizes-few : (sizes : List ℕ) → length sizes ≤ 1 → sizes_bytes sizes ≡ []
sizes-few sizes few = ap (λ (b : Bool). if b then flat_map (to_le_bytes w16) sizes else []) (le-ltb 1 (length sizes) few)
