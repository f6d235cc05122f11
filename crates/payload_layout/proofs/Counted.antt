-- Payloads are as long as packing counts.
use Rattle.std.proofs.Common.{◌≡◌, ℕ, ◌+◌, ◌*◌, Bool, true, false, List, [], ◌∷◌, map, length, refl, sym, ap, ◌∙◌}
use Rattle.std.specs.Prelude.{nat_lt, sum_by, if◌then◌else◌}
use Rattle.std.specs.Int.{w16, to_le_bytes}
use Rattle.std.specs.List.{flat_map}
use Rattle.std.proofs.lemmas.List.{length-append, length-map}
use Rattle.std.proofs.lemmas.List.Sums.{sum_by-cons}
use Rattle.payload_layout.specs.Packing.{payload_size}
use Rattle.payload_layout.specs.Payloads.{dynamic_payload, sizes_bytes, part_size, frames_in}
use Rattle.payload_layout.proofs.Laid.{length-sizes}

abbrev counted : ℕ → ℕ
counted n = if nat_lt 1 n then 2 * n else 0

sizes-counted : (sizes : List ℕ) → length (sizes_bytes sizes) ≡ counted (length sizes)
sizes-counted sizes = by_test (nat_lt 1 (length sizes))
  where
    by_test : (b : Bool) → length (if b then flat_map (to_le_bytes w16) sizes else []) ≡ (if b then 2 * length sizes else 0)
    by_test true = length-sizes sizes
    by_test false = refl

frames-counted : (frames : List (List ℕ)) → length (flat_map (λ frame. frame) frames) ≡ sum_by length frames
frames-counted [] = refl
frames-counted (frame ∷ frames) =
    length-append frame (flat_map (λ frame. frame) frames) ∙ ap (λ (n : ℕ). length frame + n) (frames-counted frames) ∙ sym (sum_by-cons length frame frames)

pub payload-counted : (frames : List (List ℕ)) → payload_size length frames ≡ length (dynamic_payload frames)
payload-counted frames =
    sym (length-append (sizes_bytes (map length frames)) (flat_map (λ frame. frame) frames)
    ∙ ap (λ (n : ℕ). n + length (flat_map (λ frame. frame) frames)) (sizes-counted (map length frames) ∙ ap counted (length-map frames length))
    ∙ ap (λ (n : ℕ). counted (length frames) + n) (frames-counted frames))

parts-sum : (parts : List (ℕ × List ℕ)) → sum_by part_size parts ≡ sum_by length (frames_in parts)
parts-sum [] = refl
parts-sum (part ∷ parts) =
    sum_by-cons part_size part parts ∙ ap (λ (n : ℕ). part_size part + n) (parts-sum parts) ∙ sym (sum_by-cons length part.1 (frames_in parts))

pub parts-counted : (parts : List (ℕ × List ℕ)) → payload_size part_size parts ≡ length (dynamic_payload (frames_in parts))
parts-counted parts =
    ap (λ (n : ℕ). counted (length parts) + n) (parts-sum parts)
    ∙ ap (λ (n : ℕ). counted n + sum_by length (frames_in parts)) (sym (length-map parts (λ (part : ℕ × List ℕ). part.1)))
    ∙ payload-counted (frames_in parts)
