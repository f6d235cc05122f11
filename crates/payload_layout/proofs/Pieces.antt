-- One piece after another.
use Rattle.std.proofs.Common.{◌≡◌, ℕ, suc, ◌+◌, ◌*◌, ◌-◌, ◌<◌, List, [], ◌∷◌, ◌++◌, map, take, drop, refl, sym, ap, ◌∙◌, append_assoc, arith}
use Rattle.std.specs.Prelude.{sum}
use Rattle.std.specs.Int.{w16, from_le_bytes}
use Rattle.std.proofs.lemmas.List.{drop-drop, map-append}
use Rattle.std.proofs.lemmas.List.Sums.{sum_by-cons}
use Rattle.payload_layout.specs.declared.parts.Part.{Part}
use Rattle.payload_layout.specs.Payloads.{sizes_of, cut_by, frame_at, StandBehind}

-- the sizes from an index on are the one there, and those from the next on
pub sizes-step : (count index : ℕ) (payload : List ℕ) → index < count
    → sizes_of (count - index) (drop (2 * index) payload) ≡ from_le_bytes w16 (take 2 (drop (2 * index) payload)) ∷ sizes_of (count - (index + 1)) (drop (2 * (index + 1)) payload)
sizes-step count index payload below =
    let more : count - index ≡ suc (count - (index + 1)) = omega arith in
    let far : 2 * index + 2 ≡ 2 * (index + 1) = omega arith in
    ap (λ (n : ℕ). sizes_of n (drop (2 * index) payload)) more
    ∙ ap (λ (l : List ℕ). from_le_bytes w16 (take 2 (drop (2 * index) payload)) ∷ sizes_of (count - (index + 1)) l) (drop-drop 2 (2 * index) payload ∙ ap (λ (n : ℕ). drop n payload) far)

pub sum-step : (count index size : ℕ) (payload : List ℕ) → index < count → size ≡ from_le_bytes w16 (take 2 (drop (2 * index) payload))
    → sum (sizes_of (count - index) (drop (2 * index) payload)) ≡ size + sum (sizes_of (count - (index + 1)) (drop (2 * (index + 1)) payload))
sum-step count index size payload below is =
    ap sum (sizes-step count index payload below)
    ∙ sum_by-cons (λ (n : ℕ). n) (from_le_bytes w16 (take 2 (drop (2 * index) payload))) (sizes_of (count - (index + 1)) (drop (2 * (index + 1)) payload))
    ∙ ap (λ (n : ℕ). n + sum (sizes_of (count - (index + 1)) (drop (2 * (index + 1)) payload))) (sym is)

pub piece-step : (payload : List ℕ) (start size : ℕ) (sizes : List ℕ) (parts : List Part)
    → map (frame_at payload) parts ++ cut_by (size ∷ sizes) (drop start payload) ≡ map (frame_at payload) (parts ++ record { start = start; end = start + size } ∷ []) ++ cut_by sizes (drop (start + size) payload)
piece-step payload start size sizes parts =
    let same : start + size - start ≡ size = omega arith in
    let part : Part = record { start = start; end = start + size } in
    ap (λ (n : ℕ). map (frame_at payload) parts ++ (take n (drop start payload) ∷ cut_by sizes (drop size (drop start payload)))) (sym same)
    ∙ ap (λ (l : List ℕ). map (frame_at payload) parts ++ (frame_at payload part ∷ cut_by sizes l)) (drop-drop size start payload)
    ∙ sym (append_assoc (map (frame_at payload) parts) (frame_at payload part ∷ []) (cut_by sizes (drop (start + size) payload)))
    ∙ ap (λ (l : List (List ℕ)). l ++ cut_by sizes (drop (start + size) payload)) (sym (map-append (frame_at payload) parts (part ∷ [])))

-- where the last of parts that stand one behind the other ends
abbrev pub end_of : ℕ → List Part → ℕ
end_of start [] = start
end_of start (part ∷ parts) = end_of part.end parts

pub end-push : (start : ℕ) (parts : List Part) (part : Part) → end_of start (parts ++ part ∷ []) ≡ part.end
end-push start [] part = refl
end-push start (first ∷ parts) part = end-push first.end parts part

pub behind-push : (start : ℕ) (parts : List Part) (part : Part) → StandBehind start parts → part.start ≡ end_of start parts → StandBehind start (parts ++ part ∷ [])
behind-push start [] part all is = (is, tt)
behind-push start (first ∷ parts) part all is = (all.0, behind-push first.end parts part all.1 is)
