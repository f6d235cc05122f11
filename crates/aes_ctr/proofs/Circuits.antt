-- What keeps the gates of a circuit keeps the circuit.
use Rattle.std.proofs.Common.{◌≡◌, ℕ, zero, suc, List, [], ◌∷◌, ◌++◌, length, map, slice_index_or, replicate, bit_and, bit_xor, refl, ap, ap₂, sym, ◌∙◌, arith}
use Rattle.std.specs.Simd.Lanes.{zip2}
use Rattle.std.proofs.lemmas.List.{map-append, length-map}
use Rattle.aes_ctr.specs.Circuit.{Gate, Stage, wire_of, run, outputs, join_stage, on_planes, planes_from}
use Rattle.aes_ctr.specs.Circuit.Gate.{Xor, And}

-- the stages of the S-box: sums, a norm, its inverse, products, and the gates of the last
abbrev pub Circuit : Type 0
Circuit = Stage × Stage × Stage × Stage × List Gate

abbrev pub result_wires : List ℕ
result_wires = join_stage.1

-- the wires that go into the last stage
abbrev pub before_last : {A : Type 0} → A → (A → A → A) → (A → A → A) → A → Circuit → List A → List A
before_last d xor and one c ws =
    let y = outputs d xor and c.0 ws in
    outputs d xor and c.3 (y ++ outputs d xor and c.2 (outputs d xor and c.1 y)) ++ one ∷ []

abbrev pub circuit : {A : Type 0} → A → (A → A → A) → (A → A → A) → A → Circuit → List A → List A
circuit d xor and one c ws = outputs d xor and (c.4, result_wires) (before_last d xor and one c ws)

module _ {A B : Type 0} (h : A → B) (d : A) (xor and : A → A → A) (xor' and' : B → B → B)
    (is_xor : (a b : A) → h (xor a b) ≡ xor' (h a) (h b)) (is_and : (a b : A) → h (and a b) ≡ and' (h a) (h b)) where
  map_push : (xs : List A) (y : A) → map h (xs ++ y ∷ []) ≡ map h xs ++ h y ∷ []
  map_push [] y = refl
  map_push (x ∷ xs) y = ap (λ (r : List B). h x ∷ r) (map_push xs y)

  get_map : (xs : List A) (k : ℕ) → slice_index_or (map h xs) k (h d) ≡ h (slice_index_or xs k d)
  get_map [] k = refl
  get_map (x ∷ xs) zero = refl
  get_map (x ∷ xs) (suc k) = get_map xs k

  wire_is : (ws : List A) (g : Gate) → h (wire_of d xor and ws g) ≡ wire_of (h d) xor' and' (map h ws) g
  wire_is ws (Xor a b) = is_xor _ _ ∙ sym (ap₂ xor' (get_map ws a) (get_map ws b))
  wire_is ws (And a b) = is_and _ _ ∙ sym (ap₂ and' (get_map ws a) (get_map ws b))

  run_is : (gs : List Gate) (ws : List A) → map h (run d xor and gs ws) ≡ run (h d) xor' and' gs (map h ws)
  run_is [] ws = refl
  run_is (g ∷ gs) ws =
      run_is gs _ ∙ ap (run (h d) xor' and' gs) (map_push ws _ ∙ ap (λ (w : B). map h ws ++ w ∷ []) (wire_is ws g))

  pick_is : (all : List A) (out : List ℕ) → map h (map (λ k. slice_index_or all k d) out) ≡ map (λ k. slice_index_or (map h all) k (h d)) out
  pick_is all [] = refl
  pick_is all (k ∷ out) = ap₂ (λ (x : B) (r : List B). x ∷ r) (sym (get_map all k)) (pick_is all out)

  stage_is : (s : Stage) (ws : List A) (ws' : List B) → map h ws ≡ ws' → map h (outputs d xor and s ws) ≡ outputs (h d) xor' and' s ws'
  stage_is s ws ws' e =
      pick_is (run d xor and s.0 ws) s.1
      ∙ ap (λ (all : List B). map (λ k. slice_index_or all k (h d)) s.1) (run_is s.0 ws ∙ ap (run (h d) xor' and' s.0) e)

  pub circuit_is : (one : A) (c : Circuit) (ws : List A) → map h (circuit d xor and one c ws) ≡ circuit (h d) xor' and' (h one) c (map h ws)
  circuit_is one c ws =
      let y = outputs d xor and c.0 ws in
      let n = outputs d xor and c.1 y in
      let t = outputs d xor and c.2 n in
      let y_is = stage_is c.0 ws (map h ws) refl in
      let t_is = stage_is c.2 n _ (stage_is c.1 y _ y_is) in
      let z_is = stage_is c.3 (y ++ t) _ (map-append h y t ∙ ap₂ (λ (u v : List B). u ++ v) y_is t_is) in
      stage_is (c.4, result_wires) _ _ (map_push (outputs d xor and c.3 (y ++ t)) one ∙ ap (λ (z : List B). z ++ h one ∷ []) z_is)

-- ---- the stages as they are called

planes_suc : (x : List ℕ) (q : List (List ℕ)) (i n : ℕ) → planes_from (x ∷ q) (suc i) n ≡ planes_from q i n
planes_suc x q i zero = refl
planes_suc x q i (suc n) = ap (λ (r : List (List ℕ)). slice_index_or q i [] ∷ r) (planes_suc x q (suc i) n)

planes_are : (q : List (List ℕ)) (n : ℕ) → length q ≡ n → planes_from q 0 n ≡ q
planes_are [] zero h = refl
planes_are [] (suc n) h = absurd (omega arith)
planes_are (x ∷ q) zero h = absurd (omega arith)
planes_are (x ∷ q) (suc n) h =
    let shorter : length q ≡ n = omega arith in
    ap (λ (r : List (List ℕ)). x ∷ r) (planes_suc x q 0 n ∙ planes_are q n shorter)

-- so many wires leave each stage but the last
abbrev pub IsWired : Circuit → Type 0
IsWired c = (length c.0.1 ≡ 22) × (length c.1.1 ≡ 4) × (length c.2.1 ≡ 9) × (length c.3.1 ≡ 15)

module _ (c : Circuit) (wired : IsWired c) (q y n t z result : List (List ℕ))
    (y_is : y ≡ on_planes c.0 (planes_from q 0 8)) (n_is : n ≡ on_planes c.1 (planes_from y 0 22))
    (t_is : t ≡ on_planes c.2 (planes_from n 0 4)) (z_is : z ≡ on_planes c.3 (planes_from y 0 22 ++ planes_from t 0 9))
    (result_is : result ≡ on_planes (c.4, result_wires) (planes_from z 0 15 ++ replicate 16 255 ∷ [])) where
  -- what leaves a stage is what goes into the next
  whole : (s : Stage) (n : ℕ) (ws q : List (List ℕ)) → length s.1 ≡ n → q ≡ on_planes s ws → planes_from q 0 n ≡ on_planes s ws
  whole s n ws q h e =
      planes_are q n (ap length e ∙ length-map s.1 (λ k. slice_index_or (run (replicate 16 0) (zip2 bit_xor) (zip2 bit_and) s.0 ws) k (replicate 16 0)) ∙ h) ∙ e

  pub staged_is : result ≡ circuit (replicate 16 0) (zip2 bit_xor) (zip2 bit_and) (replicate 16 255) c (planes_from q 0 8)
  staged_is =
      let y_whole = whole c.0 22 (planes_from q 0 8) y wired.0 y_is in
      let n_whole = whole c.1 4 _ n wired.1 n_is ∙ ap (on_planes c.1) y_whole in
      let t_whole = whole c.2 9 _ t wired.2 t_is ∙ ap (on_planes c.2) n_whole in
      let z_whole = whole c.3 15 _ z wired.3 z_is ∙ ap₂ (λ (u v : List (List ℕ)). on_planes c.3 (u ++ v)) y_whole t_whole in
      result_is ∙ ap (λ (u : List (List ℕ)). on_planes (c.4, result_wires) (u ++ replicate 16 255 ∷ [])) z_whole
