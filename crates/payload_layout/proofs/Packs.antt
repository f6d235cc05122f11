-- What packing makes of frames.
use Rattle.std.proofs.Common.{◌≡◌, ℕ, ◌+◌, ◌*◌, ◌-◌, ◌<◌, Bool, true, false, not, ◌&&◌, List, [], ◌∷◌, ◌++◌, map, length, refl, sym, ap, ◌∙◌, append_assoc, append-nil, arith}
use Rattle.std.specs.Prelude.{nat_le, nat_lt, sum_by, fold, reverse, if◌then◌else◌}
use Rattle.std.specs.List.{All, flat_map}
use Rattle.std.proofs.lemmas.Bool.Decides.{nat_tests}
use Rattle.std.proofs.lemmas.List.{length-append, length-map, map-append, reverse-append}
use Rattle.std.proofs.lemmas.List.Concat.{flat_map-append}
use Rattle.std.proofs.lemmas.List.Elements.{All-cons, All-head, All-tail, All-push, All-same}
use Rattle.std.proofs.lemmas.List.Sums.{sum_by-cons}
use Rattle.payload_layout.specs.declared.packing.Pack.{Pack}
use Rattle.payload_layout.specs.Packing.{Packed, fits, alone, packed_on, packs_of, pack_of, IsSound}
use Rattle.payload_layout.proofs.Filled.{itself}

reverse-cons : (X : Type 0) (x : X) (xs : List X) → reverse (x ∷ xs) ≡ reverse xs ++ x ∷ []
reverse-cons X x xs = reverse-append (x ∷ []) xs

-- ---- each frame stands in one pack, in order

abbrev frames_in : (X : Type 0) → List (Packed X) → List X
frames_in X packs = flat_map (λ pack. pack.frames) packs

last-in : (X : Type 0) (packs : List (Packed X)) (pack : Packed X) → frames_in X (reverse (pack ∷ packs)) ≡ frames_in X (reverse packs) ++ pack.frames
last-in X packs pack =
    ap (frames_in X) (reverse-cons (Packed X) pack packs) ∙ flat_map-append (λ (p : Packed X). p.frames) (reverse packs) (pack ∷ [])
    ∙ ap (λ (l : List X). frames_in X (reverse packs) ++ l) (append-nil pack.frames)

one-more : {X : Type 0} (size : X → ℕ) (room : ℕ) (packs : List (Packed X)) (x : X) → frames_in X (reverse (packed_on size room packs x)) ≡ frames_in X (reverse packs) ++ x ∷ []
one-more {X} size room [] x = last-in X [] (alone size room x)
one-more {X} size room (last ∷ packs) x = by_test (not last.cut && fits size room (last.frames ++ x ∷ []))
  where
    by_test : (b : Bool) → frames_in X (reverse (if b then record { frames = last.frames ++ x ∷ []; cut = false } ∷ packs else alone size room x ∷ last ∷ packs)) ≡ frames_in X (reverse (last ∷ packs)) ++ x ∷ []
    by_test true =
        last-in X packs (record { frames = last.frames ++ x ∷ []; cut = false }) ∙ sym (append_assoc (frames_in X (reverse packs)) last.frames (x ∷ []))
        ∙ ap (λ (l : List X). l ++ x ∷ []) (sym (last-in X packs last))
    by_test false = last-in X (last ∷ packs) (alone size room x)

all-more : {X : Type 0} (size : X → ℕ) (room : ℕ) (packs : List (Packed X)) (frames : List X) → frames_in X (reverse (fold (packed_on size room) packs frames)) ≡ frames_in X (reverse packs) ++ frames
all-more {X} size room packs [] = sym (append-nil (frames_in X (reverse packs)))
all-more {X} size room packs (x ∷ frames) =
    all-more size room (packed_on size room packs x) frames ∙ ap (λ (l : List X). l ++ frames) (one-more size room packs x) ∙ append_assoc (frames_in X (reverse packs)) (x ∷ []) frames

pub packs-frames : {X : Type 0} (size : X → ℕ) (room : ℕ) (frames : List X) → flat_map (λ pack. pack.frames) (packs_of size room frames) ≡ frames
packs-frames size room frames = all-more size room [] frames

-- ---- a pack fits, or is one frame that doesn't

big_one : {X : Type 0} (size : X → ℕ) (room : ℕ) (x : X) → fits size room (x ∷ []) ≡ false → room < size x
big_one size room x e =
    let one : sum_by size (x ∷ []) ≡ size x = omega (arith, sum_by-cons size x []) in
    big_case (sum_by size (x ∷ [])) e one
  where
    big_case : (n : ℕ) → (nat_le (0 + n + 0) room && nat_le 1 255) ≡ false → n ≡ size x → room < size x
    big_case n e one = grind (arith, nat_tests)

alone-sound : {X : Type 0} (size : X → ℕ) (room : ℕ) (x : X) → IsSound size room (alone size room x)
alone-sound {X} size room x = by_test (fits size room (x ∷ [])) refl
  where
    by_test : (b : Bool) → fits size room (x ∷ []) ≡ b → IsSound size room (record { frames = x ∷ []; cut = not b })
    by_test true is = record { some = omega arith; uncut = λ e. is; alone = λ e. absurd (let no : Path Bool false true = e in cc) }
    by_test false is = record { some = omega arith; uncut = λ e. absurd (let no : Path Bool true false = e in cc); alone = λ e. (x, refl, big_one size room x is) }

on-sound : {X : Type 0} (size : X → ℕ) (room : ℕ) (packs : List (Packed X)) (x : X) → All (IsSound size room) packs → All (IsSound size room) (packed_on size room packs x)
on-sound {X} size room [] x all = All-cons (IsSound size room) (alone size room x) [] (alone-sound size room x) all
on-sound {X} size room (last ∷ packs) x all = by_test last.cut (fits size room (last.frames ++ x ∷ [])) refl
  where
    by_test : (c f : Bool) → fits size room (last.frames ++ x ∷ []) ≡ f → All (IsSound size room) (if not c && f then record { frames = last.frames ++ x ∷ []; cut = false } ∷ packs else alone size room x ∷ last ∷ packs)
    by_test true f is = All-cons (IsSound size room) (alone size room x) (last ∷ packs) (alone-sound size room x) all
    by_test false false is = All-cons (IsSound size room) (alone size room x) (last ∷ packs) (alone-sound size room x) all
    by_test false true is =
        All-cons (IsSound size room) (record { frames = last.frames ++ x ∷ []; cut = false }) packs
        (record { some = omega (arith, length-append last.frames (x ∷ [])); uncut = λ e. is; alone = λ e. absurd (let no : Path Bool false true = e in cc) }) (All-tail (IsSound size room) last packs all)

fold-sound : {X : Type 0} (size : X → ℕ) (room : ℕ) (packs : List (Packed X)) (frames : List X) → All (IsSound size room) packs → All (IsSound size room) (fold (packed_on size room) packs frames)
fold-sound size room packs [] all = all
fold-sound size room packs (x ∷ frames) all = fold-sound size room (packed_on size room packs x) frames (on-sound size room packs x all)

all-reverse : {X : Type 0} (P : X → Type 0) (xs : List X) → All P xs → All P (reverse xs)
all-reverse P [] all = all
all-reverse {X} P (x ∷ xs) all = All-same P (reverse (x ∷ xs)) (reverse xs ++ x ∷ []) (reverse-cons X x xs) (All-push P (reverse xs) x (all-reverse P xs (All-tail P x xs all)) (All-head P x xs all))

nothing-in : {X : Type 0} (P : X → Type 0) → All P []
nothing-in P = λ k d below. absurd (omega arith)

pub packs-sound : {X : Type 0} (size : X → ℕ) (room : ℕ) (frames : List X) → All (IsSound size room) (packs_of size room frames)
packs-sound size room frames =
    all-reverse (IsSound size room) (fold (packed_on size room) [] frames) (fold-sound size room [] frames (nothing-in (IsSound size room)))

-- ---- packing looks at the sizes alone

abbrev sized : {X : Type 0} → (X → ℕ) → Packed X → Packed ℕ
sized size pack = record { frames = map size pack.frames; cut = pack.cut }

sum-sized : {X : Type 0} (size : X → ℕ) (xs : List X) → sum_by itself (map size xs) ≡ sum_by size xs
sum-sized size [] = refl
sum-sized size (x ∷ xs) = sum_by-cons itself (size x) (map size xs) ∙ ap (λ (n : ℕ). size x + n) (sum-sized size xs) ∙ sym (sum_by-cons size x xs)

fits-sized : {X : Type 0} (size : X → ℕ) (room : ℕ) (xs : List X) → fits size room xs ≡ fits itself room (map size xs)
fits-sized size room xs =
    ap (λ (n : ℕ). nat_le ((if nat_lt 1 n then 2 * n else 0) + sum_by size xs + 2 * (n - 1)) room && nat_le n 255) (sym (length-map xs size))
    ∙ ap (λ (s : ℕ). nat_le ((if nat_lt 1 (length (map size xs)) then 2 * length (map size xs) else 0) + s + 2 * (length (map size xs) - 1)) room && nat_le (length (map size xs)) 255) (sym (sum-sized size xs))

on-sized : {X : Type 0} (size : X → ℕ) (room : ℕ) (packs : List (Packed X)) (x : X) → map (sized size) (packed_on size room packs x) ≡ packed_on itself room (map (sized size) packs) (size x)
on-sized size room [] x = ap (λ (b : Bool). record { frames = size x ∷ []; cut = not b } ∷ []) (fits-sized size room (x ∷ []))
on-sized {X} size room (last ∷ packs) x = by_test (not last.cut && fits size room (last.frames ++ x ∷ [])) ∙ ap choice (ap (λ (b : Bool). not last.cut && b) same)
  where
    same : fits size room (last.frames ++ x ∷ []) ≡ fits itself room (map size last.frames ++ size x ∷ [])
    same = fits-sized size room (last.frames ++ x ∷ []) ∙ ap (fits itself room) (map-append size last.frames (x ∷ []))

    choice : Bool → List (Packed ℕ)
    choice b =
        if b then record { frames = map size last.frames ++ size x ∷ []; cut = false } ∷ map (sized size) packs else alone itself room (size x) ∷ map (sized size) (last ∷ packs)

    by_test : (b : Bool) → map (sized size) (if b then record { frames = last.frames ++ x ∷ []; cut = false } ∷ packs else alone size room x ∷ last ∷ packs) ≡ choice b
    by_test true = ap (λ (l : List ℕ). record { frames = l; cut = false } ∷ map (sized size) packs) (map-append size last.frames (x ∷ []))
    by_test false = ap (λ (b : Bool). record { frames = size x ∷ []; cut = not b } ∷ map (sized size) (last ∷ packs)) (fits-sized size room (x ∷ []))

fold-sized : {X : Type 0} (size : X → ℕ) (room : ℕ) (packs : List (Packed X)) (frames : List X) → map (sized size) (fold (packed_on size room) packs frames) ≡ fold (packed_on itself room) (map (sized size) packs) (map size frames)
fold-sized size room packs [] = refl
fold-sized size room packs (x ∷ frames) =
    fold-sized size room (packed_on size room packs x) frames ∙ ap (λ (p : List (Packed ℕ)). fold (packed_on itself room) p (map size frames)) (on-sized size room packs x)

map-reverse : {X Y : Type 0} (f : X → Y) (xs : List X) → map f (reverse xs) ≡ reverse (map f xs)
map-reverse f [] = refl
map-reverse {X} {Y} f (x ∷ xs) =
    ap (map f) (reverse-cons X x xs) ∙ map-append f (reverse xs) (x ∷ []) ∙ ap (λ (l : List Y). l ++ f x ∷ []) (map-reverse f xs) ∙ sym (reverse-cons Y (f x) (map f xs))

told-sized : {X : Type 0} (size : X → ℕ) (packs : List (Packed X)) → map pack_of packs ≡ map pack_of (map (sized size) packs)
told-sized size [] = refl
told-sized size (pack ∷ packs) =
    ap (λ (n : ℕ). record { count = n; chunked = pack.cut } ∷ map pack_of packs) (sym (length-map pack.frames size)) ∙ ap (λ (l : List Pack). pack_of (sized size pack) ∷ l) (told-sized size packs)

pub packs-sized : {X : Type 0} (size : X → ℕ) (room : ℕ) (frames : List X) → map pack_of (packs_of size room frames) ≡ map pack_of (packs_of itself room (map size frames))
packs-sized size room frames =
    told-sized size (packs_of size room frames)
    ∙ ap (map pack_of) (map-reverse (sized size) (fold (packed_on size room) [] frames) ∙ ap (λ (p : List (Packed ℕ)). reverse p) (fold-sized size room [] frames))
