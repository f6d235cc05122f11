-- Payloads are split as they are laid out.
use Rattle.std.proofs.Common.{◌≡◌, ℕ, zero, suc, ◌+◌, ◌*◌, ◌<◌, ◌≤◌, Bool, true, false, List, [], ◌∷◌, ◌++◌, map, length, take, drop, refl, sym, ap, subst, ◌∙◌, append_assoc, append-nil, arith}
use Rattle.std.specs.Prelude.{nat_lt, sum, zip, if◌then◌else◌}
use Rattle.std.specs.Int.{w16, to_le_bytes, from_le_bytes}
use Rattle.std.specs.List.{All, flat_map}
use Rattle.std.proofs.lemmas.Bool.{lt-ltb, ltb-true, ltb-false}
use Rattle.std.proofs.lemmas.List.{length-append, length-map, length-drop, length-take-le, take-append-drop, drop-drop}
use Rattle.std.proofs.lemmas.List.Elements.{All-cons, All-head, All-tail, All-take, All-drop}
use Rattle.std.proofs.lemmas.List.Sums.{sum_by-cons}
use Rattle.std.proofs.lemmas.Nat.{from_le_bytes-to_le_bytes_2}
use Rattle.std.proofs.Math.Seq.{take-append_seam, drop-append_seam}
use Rattle.ua_binary.specs.Wire.{AreBytes}
use Rattle.ua_binary.proofs.Parts.{coded16}
use Rattle.payload_layout.specs.Payloads.{dynamic_payload, sizes_of, cut_by, frames_of, parts_of, ids_in, frames_in, HasBadSizes, AreShort, BeginsWithPayload}
use Rattle.payload_layout.proofs.Laid.{length-sizes, sizes-several}

abbrev whole : List ℕ → List ℕ
whole frame = frame

-- ---- what is laid out is split again

sizes-again : (sizes more : List ℕ) → All (λ size. size < 65536) sizes → sizes_of (length sizes) (flat_map (to_le_bytes w16) sizes ++ more) ≡ sizes
sizes-again [] more short = refl
sizes-again (size ∷ sizes) more short =
    ap (λ (n : ℕ). n ∷ sizes_of (length sizes) (flat_map (to_le_bytes w16) sizes ++ more)) (from_le_bytes-to_le_bytes_2 size (omega (arith, All-head (λ (n : ℕ). n < 65536) size sizes short)))
    ∙ ap (λ (l : List ℕ). size ∷ l) (sizes-again sizes more (All-tail (λ (n : ℕ). n < 65536) size sizes short))

pieces-again : (frames : List (List ℕ)) (rest : List ℕ) → cut_by (map length frames) (flat_map whole frames ++ rest) ≡ frames
pieces-again [] rest = refl
pieces-again (frame ∷ frames) rest =
    let behind = flat_map whole frames ++ rest in
    ap (λ (l : List ℕ). take (length frame) l ∷ cut_by (map length frames) (drop (length frame) l)) (append_assoc frame (flat_map whole frames) rest)
    ∙ ap (λ (l : List ℕ). l ∷ cut_by (map length frames) (drop (length frame) (frame ++ behind))) (take-append_seam frame behind)
    ∙ ap (λ (l : List ℕ). frame ∷ cut_by (map length frames) l) (drop-append_seam frame behind)
    ∙ ap (λ (l : List (List ℕ)). frame ∷ l) (pieces-again frames rest)

lengths-short : (frames : List (List ℕ)) → AreShort frames → All (λ size. size < 65536) (map length frames)
lengths-short [] short = λ k d below. absurd (omega arith)
lengths-short (frame ∷ frames) short =
    All-cons (λ (n : ℕ). n < 65536) (length frame) (map length frames) (All-head (λ (f : List ℕ). length f < 65536) frame frames short) (lengths-short frames (All-tail (λ (f : List ℕ). length f < 65536) frame frames short))

abbrev fronts : List (List ℕ) → List ℕ
fronts frames = flat_map (to_le_bytes w16) (map length frames)

several-laid : (frames : List (List ℕ)) (rest : List ℕ) → 1 < length frames → dynamic_payload frames ++ rest ≡ fronts frames ++ (flat_map whole frames ++ rest)
several-laid frames rest more =
    ap (λ (l : List ℕ). (l ++ flat_map whole frames) ++ rest) (sizes-several (map length frames) (omega (arith, length-map frames length)))
    ∙ append_assoc (fronts frames) (flat_map whole frames) rest

fronts-len : (frames : List (List ℕ)) → length (fronts frames) ≡ 2 * length frames
fronts-len frames = length-sizes (map length frames) ∙ ap (λ (n : ℕ). 2 * n) (length-map frames length)

sizes-laid : (frames : List (List ℕ)) (rest : List ℕ) → AreShort frames → 1 < length frames → sizes_of (length frames) (dynamic_payload frames ++ rest) ≡ map length frames
sizes-laid frames rest short more =
    ap (sizes_of (length frames)) (several-laid frames rest more)
    ∙ ap (λ (n : ℕ). sizes_of n (fronts frames ++ (flat_map whole frames ++ rest))) (sym (length-map frames length))
    ∙ sizes-again (map length frames) (flat_map whole frames ++ rest) (lengths-short frames short)

behind-sizes : (frames : List (List ℕ)) (rest : List ℕ) → 1 < length frames → drop (2 * length frames) (dynamic_payload frames ++ rest) ≡ flat_map whole frames ++ rest
behind-sizes frames rest more =
    ap (drop (2 * length frames)) (several-laid frames rest more)
    ∙ ap (λ (n : ℕ). drop n (fronts frames ++ (flat_map whole frames ++ rest))) (sym (fronts-len frames))
    ∙ drop-append_seam (fronts frames) (flat_map whole frames ++ rest)

several-frames : (count : ℕ) (payload : List ℕ) → 1 < count → frames_of count payload ≡ cut_by (sizes_of count payload) (drop (2 * count) payload)
several-frames count payload more = ap (λ (b : Bool). if b then cut_by (sizes_of count payload) (drop (2 * count) payload) else take count (payload ∷ [])) (lt-ltb 1 count more)

pub several-again : (frames : List (List ℕ)) (rest : List ℕ) → AreShort frames → 1 < length frames → frames_of (length frames) (dynamic_payload frames ++ rest) ≡ frames
several-again frames rest short more =
    several-frames (length frames) (dynamic_payload frames ++ rest) more
    ∙ ap (λ (sizes : List ℕ). cut_by sizes (drop (2 * length frames) (dynamic_payload frames ++ rest))) (sizes-laid frames rest short more)
    ∙ ap (cut_by (map length frames)) (behind-sizes frames rest more)
    ∙ pieces-again frames rest

pub one-again : (frame : List ℕ) → frames_of 1 (dynamic_payload (frame ∷ [])) ≡ frame ∷ []
one-again frame = ap (λ (l : List ℕ). l ∷ []) (append-nil frame)

whole-len : (frames : List (List ℕ)) → length (flat_map whole frames) ≡ sum (map length frames)
whole-len [] = refl
whole-len (frame ∷ frames) =
    length-append frame (flat_map whole frames) ∙ ap (λ (n : ℕ). length frame + n) (whole-len frames) ∙ sym (sum_by-cons (λ (n : ℕ). n) (length frame) (map length frames))

pub laid-good : (frames : List (List ℕ)) (rest : List ℕ) → AreShort frames → HasBadSizes (length frames) (dynamic_payload frames ++ rest) → ⊥
laid-good frames rest short bad =
    let sizes = ap sum (sizes-laid frames rest short bad.several) in
    let len = ap length (several-laid frames rest bad.several) in
    omega (arith, bad.past, sizes, len, length-append (fronts frames) (flat_map whole frames ++ rest), length-append (flat_map whole frames) rest, fronts-len frames, whole-len frames)

-- ---- frames with their ids

zipped : (parts : List (ℕ × List ℕ)) → zip (ids_in parts) (frames_in parts) ≡ parts
zipped [] = refl
zipped (part ∷ parts) = ap (λ (l : List (ℕ × List ℕ)). part ∷ l) (zipped parts)

ids-count : (parts : List (ℕ × List ℕ)) → length (ids_in parts) ≡ length (frames_in parts)
ids-count parts = length-map parts (λ (part : ℕ × List ℕ). part.0) ∙ sym (length-map parts (λ (part : ℕ × List ℕ). part.1))

by-frames : (parts : List (ℕ × List ℕ)) (payload : List ℕ) → frames_of (length (frames_in parts)) payload ≡ frames_in parts → parts_of (ids_in parts) payload ≡ parts
by-frames parts payload same =
    ap (λ (n : ℕ). zip (ids_in parts) (frames_of n payload)) (ids-count parts) ∙ ap (zip (ids_in parts)) same ∙ zipped parts

pub parts-several : (parts : List (ℕ × List ℕ)) (rest : List ℕ) → AreShort (frames_in parts) → 1 < length parts → parts_of (ids_in parts) (dynamic_payload (frames_in parts) ++ rest) ≡ parts
parts-several parts rest short more =
    by-frames parts (dynamic_payload (frames_in parts) ++ rest) (several-again (frames_in parts) rest short (omega (arith, more, length-map parts (λ (part : ℕ × List ℕ). part.1))))

pub parts-again : (parts : List (ℕ × List ℕ)) → AreShort (frames_in parts) → parts_of (ids_in parts) (dynamic_payload (frames_in parts)) ≡ parts
parts-again [] short = refl
parts-again (part ∷ []) short = by-frames (part ∷ []) (dynamic_payload (part.1 ∷ [])) (one-again part.1)
parts-again (part ∷ other ∷ parts) short =
    let all = part ∷ other ∷ parts in
    ap (parts_of (ids_in all)) (sym (append-nil (dynamic_payload (frames_in all)))) ∙ parts-several all [] short (omega arith)

-- ---- what is split was laid out

sizes-spell : (count : ℕ) (payload : List ℕ) → AreBytes payload → 2 * count ≤ length payload → flat_map (to_le_bytes w16) (sizes_of count payload) ++ drop (2 * count) payload ≡ payload
sizes-spell zero payload all within = refl
sizes-spell (suc count) payload all within =
    let two : length (take 2 payload) ≡ 2 = length-take-le 2 payload (omega arith) in
    let front : to_le_bytes w16 (from_le_bytes w16 (take 2 payload)) ≡ take 2 payload = coded16.bytes (take 2 payload) (two, All-take (λ (b : ℕ). b < 256) 2 payload all) in
    let far : 2 + 2 * count ≡ 2 * suc count = omega arith in
    let later = flat_map (to_le_bytes w16) (sizes_of count (drop 2 payload)) in
    append_assoc (to_le_bytes w16 (from_le_bytes w16 (take 2 payload))) later (drop (2 * suc count) payload)
    ∙ ap (λ (l : List ℕ). l ++ (later ++ drop (2 * suc count) payload)) front
    ∙ ap (λ (l : List ℕ). take 2 payload ++ (later ++ l)) (sym (drop-drop (2 * count) 2 payload ∙ ap (λ (n : ℕ). drop n payload) far))
    ∙ ap (λ (l : List ℕ). take 2 payload ++ l) (sizes-spell count (drop 2 payload) (All-drop (λ (b : ℕ). b < 256) 2 payload all) (omega (arith, length-drop 2 payload)))
    ∙ take-append-drop 2 payload

pieces-spell : (sizes bytes : List ℕ) → sum sizes ≤ length bytes → flat_map whole (cut_by sizes bytes) ++ drop (sum sizes) bytes ≡ bytes
pieces-spell [] bytes within = refl
pieces-spell (size ∷ sizes) bytes within =
    let sums : sum (size ∷ sizes) ≡ size + sum sizes = sum_by-cons (λ (n : ℕ). n) size sizes in
    let later = flat_map whole (cut_by sizes (drop size bytes)) in
    append_assoc (take size bytes) later (drop (sum (size ∷ sizes)) bytes)
    ∙ ap (λ (l : List ℕ). take size bytes ++ (later ++ l)) (ap (λ (n : ℕ). drop n bytes) sums ∙ sym (drop-drop (sum sizes) size bytes))
    ∙ ap (λ (l : List ℕ). take size bytes ++ l) (pieces-spell sizes (drop size bytes) (omega (arith, length-drop size bytes, sums)))
    ∙ take-append-drop size bytes

pieces-lengths : (sizes bytes : List ℕ) → sum sizes ≤ length bytes → map length (cut_by sizes bytes) ≡ sizes
pieces-lengths [] bytes within = refl
pieces-lengths (size ∷ sizes) bytes within =
    let sums : sum (size ∷ sizes) ≡ size + sum sizes = sum_by-cons (λ (n : ℕ). n) size sizes in
    ap (λ (n : ℕ). n ∷ map length (cut_by sizes (drop size bytes))) (length-take-le size bytes (omega (arith, sums)))
    ∙ ap (λ (l : List ℕ). size ∷ l) (pieces-lengths sizes (drop size bytes) (omega (arith, length-drop size bytes, sums)))

sizes-count : (count : ℕ) (payload : List ℕ) → length (sizes_of count payload) ≡ count
sizes-count zero payload = refl
sizes-count (suc count) payload = ap suc (sizes-count count (drop 2 payload))

pub split-spelled : (count : ℕ) (payload : List ℕ) → AreBytes payload → 1 < count → (HasBadSizes count payload → ⊥) → BeginsWithPayload payload (frames_of count payload)
split-spelled count payload all more good = by_size (nat_lt (length payload) (2 * count + sum (sizes_of count payload))) refl
  where
    by_size : (b : Bool) → nat_lt (length payload) (2 * count + sum (sizes_of count payload)) ≡ b → BeginsWithPayload payload (frames_of count payload)
    by_size true past = absurd (good (record { several = more; past = ltb-true (length payload) (2 * count + sum (sizes_of count payload)) past }))
    by_size false within =
        let fit : 2 * count + sum (sizes_of count payload) ≤ length payload = ltb-false (length payload) (2 * count + sum (sizes_of count payload)) within in
        let sizes = sizes_of count payload in
        let bytes = drop (2 * count) payload in
        let inside : sum sizes ≤ length bytes = omega (arith, length-drop (2 * count) payload) in
        let lengths = pieces-lengths sizes bytes inside in
        let several : 1 < length (cut_by sizes bytes) = omega (arith, ap length lengths, length-map (cut_by sizes bytes) length, sizes-count count payload) in
        let rest = drop (sum sizes) bytes in
        subst (BeginsWithPayload payload) (sym (several-frames count payload more)) (record {
          rest = rest;
          split = sym (several-laid (cut_by sizes bytes) rest several
              ∙ ap (λ (l : List ℕ). flat_map (to_le_bytes w16) l ++ (flat_map whole (cut_by sizes bytes) ++ rest)) lengths
              ∙ ap (λ (l : List ℕ). flat_map (to_le_bytes w16) sizes ++ l) (pieces-spell sizes bytes inside)
              ∙ sizes-spell count payload all (omega arith));
        })
