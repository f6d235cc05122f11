-- What the packing of one frame after another keeps.
use Rattle.std.proofs.Common.{◌≡◌, ℕ, ◌+◌, ◌*◌, ◌-◌, ◌<◌, ◌≤◌, Bool, true, false, not, ◌&&◌, List, [], ◌∷◌, ◌++◌, map, length, refl, sym, ap, ◌∙◌, take, get_or, add-one, arith}
use Rattle.std.specs.Prelude.{nat_le, nat_lt, sum_by, fold, reverse, if◌then◌else◌}
use Rattle.std.proofs.lemmas.Bool.Decides.{nat_tests}
use Rattle.std.proofs.lemmas.List.{length-append, map-append, reverse-append}
use Rattle.std.proofs.lemmas.List.Sums.{sum_by-cons, sum_by-append, fold_more}
use Rattle.payload_layout.specs.declared.packing.Pack.{Pack}
use Rattle.payload_layout.specs.declared.packing.Filling.{Filling}
use Rattle.payload_layout.specs.Packing.{Packed, fits, alone, packed_on, pack_of}

abbrev pub itself : ℕ → ℕ
itself size = size

-- The packs of n frames so far, the last first: the last is being filled, and the others are told.
pub record Filled (room n : ℕ) (packs : List (Packed ℕ)) (items : List Pack) (filling : Filling) : Type 0 where
  pub last : Packed ℕ
  pub before : List (Packed ℕ)
  pub split : packs ≡ last ∷ before
  pub told : items ≡ map pack_of (reverse before)
  pub count : filling.pack.count ≡ length last.frames
  pub chunked : filling.pack.chunked ≡ last.cut
  pub bytes : filling.bytes ≡ sum_by itself last.frames
  pub some : 1 ≤ length last.frames
  pub few : length items + length last.frames ≤ n
  pub small : sum_by itself last.frames ≤ 65535 * length last.frames

sum_one : (size : ℕ) → sum_by itself (size ∷ []) ≡ size
sum_one size = omega (arith, sum_by-cons itself size [])

alone-cut : (room size : ℕ) → nat_lt room size ≡ not (fits itself room (size ∷ []))
alone-cut room size = ap (λ (n : ℕ). nat_lt room n) (sym (sum_one size)) ∙ turned (sum_by itself (size ∷ []))
  where
    turned : (n : ℕ) → nat_lt room n ≡ not (nat_le (0 + n + 0) room && nat_le 1 255)
    turned n = grind (arith, nat_tests)

-- one more frame fits as the sum of its parts does
fits-more : (room size : ℕ) (frames : List ℕ) → 1 ≤ length frames → length frames ≤ 16
    → fits itself room (frames ++ size ∷ []) ≡ nat_le (2 * (length frames + 1) + (sum_by itself frames + size) + 2 * length frames) room
fits-more room size frames some few =
    let len : length (frames ++ size ∷ []) ≡ length frames + 1 = length-append frames (size ∷ []) in
    let sum : sum_by itself (frames ++ size ∷ []) ≡ sum_by itself frames + size = omega (arith, sum_by-append itself frames (size ∷ []), sum_one size) in
    ap (λ (n : ℕ). nat_le ((if nat_lt 1 n then 2 * n else 0) + sum_by itself (frames ++ size ∷ []) + 2 * (n - 1)) room && nat_le n 255) len
    ∙ ap (λ (s : ℕ). nat_le ((if nat_lt 1 (length frames + 1) then 2 * (length frames + 1) else 0) + s + 2 * (length frames + 1 - 1)) room && nat_le (length frames + 1) 255) sum
    ∙ tested (length frames) (sum_by itself frames + size) some few
  where
    tested : (n s : ℕ) → 1 ≤ n → n ≤ 16 → (nat_le ((if nat_lt 1 (n + 1) then 2 * (n + 1) else 0) + s + 2 * (n + 1 - 1)) room && nat_le (n + 1) 255) ≡ nat_le (2 * (n + 1) + s + 2 * n) room
    tested n s some few = grind (arith, nat_tests)

pub filled-first : (room size : ℕ) (filling : Filling) → size < 65536 → filling.pack.count ≡ 1 → filling.pack.chunked ≡ nat_lt room size → filling.bytes ≡ size
    → Filled room 1 (packed_on itself room [] size) [] filling
filled-first room size filling range count chunked bytes = record {
  last = alone itself room size;
  before = [];
  split = refl;
  told = refl;
  count = count;
  chunked = chunked ∙ alone-cut room size;
  bytes = bytes ∙ sym (sum_one size);
  some = omega arith;
  few = omega arith;
  small = omega (arith, sum_one size);
}

-- the test of the code is that of the packing
abbrev test : ℕ → Filling → ℕ → Bool
test room filling size = not filling.pack.chunked && nat_le (2 * (filling.pack.count + 1) + (filling.bytes + size) + 2 * filling.pack.count) room

test-is : (room n size : ℕ) (packs : List (Packed ℕ)) (items : List Pack) (filling : Filling) → n ≤ 16 → (f : Filled room n packs items filling)
    → test room filling size ≡ (not f.last.cut && fits itself room (f.last.frames ++ size ∷ []))
test-is room n size packs items filling below f =
    ap (λ (c : Bool). not c && nat_le (2 * (filling.pack.count + 1) + (filling.bytes + size) + 2 * filling.pack.count) room) f.chunked
    ∙ ap (λ (k : ℕ). not f.last.cut && nat_le (2 * (k + 1) + (filling.bytes + size) + 2 * k) room) f.count
    ∙ ap (λ (s : ℕ). not f.last.cut && nat_le (2 * (length f.last.frames + 1) + (s + size) + 2 * length f.last.frames) room) f.bytes
    ∙ ap (λ (b : Bool). not f.last.cut && b) (sym (fits-more room size f.last.frames f.some (omega (arith, f.few))))

abbrev choice : ℕ → ℕ → Packed ℕ → List (Packed ℕ) → Bool → List (Packed ℕ)
choice room size last before b =
    if b then record { frames = last.frames ++ size ∷ []; cut = false } ∷ before else alone itself room size ∷ last ∷ before

packed-is : (room n size : ℕ) (packs : List (Packed ℕ)) (items : List Pack) (filling : Filling) → n ≤ 16 → (f : Filled room n packs items filling) → (b : Bool) → test room filling size ≡ b
    → packed_on itself room packs size ≡ choice room size f.last f.before b
packed-is room n size packs items filling below f b is =
    ap (λ (p : List (Packed ℕ)). packed_on itself room p size) f.split ∙ ap (choice room size f.last f.before) (sym (test-is room n size packs items filling below f) ∙ is)

not_cut : (c b : Bool) → (not c && b) ≡ true → c ≡ false
not_cut true b e = absurd cc
not_cut false b e = refl

pub filled-joined : (room n size : ℕ) (packs : List (Packed ℕ)) (items : List Pack) (filling after : Filling) → n ≤ 16 → Filled room n packs items filling → size < 65536
    → test room filling size ≡ true → after.pack.count ≡ filling.pack.count + 1 → after.pack.chunked ≡ filling.pack.chunked → after.bytes ≡ filling.bytes + size
    → Filled room (n + 1) (packed_on itself room packs size) items after
filled-joined room n size packs items filling after below f range is count chunked bytes =
    let len = length-append f.last.frames (size ∷ []) in
    let sum : sum_by itself (f.last.frames ++ size ∷ []) ≡ sum_by itself f.last.frames + size = omega (arith, sum_by-append itself f.last.frames (size ∷ []), sum_one size) in
    record {
      last = record { frames = f.last.frames ++ size ∷ []; cut = false };
      before = f.before;
      split = packed-is room n size packs items filling below f true is;
      told = f.told;
      count = omega (arith, len, count, f.count);
      chunked = chunked ∙ not_cut filling.pack.chunked _ is;
      bytes = omega (arith, sum, bytes, f.bytes);
      some = omega (arith, len);
      few = omega (arith, len, f.few);
      small = omega (arith, len, sum, f.small);
    }

pack-is : (pack : Pack) (n : ℕ) (c : Bool) → pack.count ≡ n → pack.chunked ≡ c → pack ≡ record { count = n; chunked = c }
pack-is pack n c count chunked = ap (λ (k : ℕ). record { count = k; chunked = pack.chunked }) count ∙ ap (λ (b : Bool). record { count = n; chunked = b }) chunked

-- the last is told too
pub filled-told : (room n : ℕ) (packs : List (Packed ℕ)) (items : List Pack) (filling : Filling) → Filled room n packs items filling → items ++ filling.pack ∷ [] ≡ map pack_of (reverse packs)
filled-told room n packs items filling f =
    ap (λ (l : List Pack). l ++ filling.pack ∷ []) f.told
    ∙ ap (λ (p : Pack). map pack_of (reverse f.before) ++ p ∷ []) (pack-is filling.pack (length f.last.frames) f.last.cut f.count f.chunked)
    ∙ sym (map-append pack_of (reverse f.before) (f.last ∷ []))
    ∙ ap (map pack_of) (sym (reverse-append (f.last ∷ []) f.before))
    ∙ ap (λ (p : List (Packed ℕ)). map pack_of (reverse p)) (sym f.split)

pub filled-next : (room n size : ℕ) (packs : List (Packed ℕ)) (items : List Pack) (filling after : Filling) → n ≤ 16 → Filled room n packs items filling → size < 65536
    → test room filling size ≡ false → after.pack.count ≡ 1 → after.pack.chunked ≡ nat_lt room size → after.bytes ≡ size
    → Filled room (n + 1) (packed_on itself room packs size) (items ++ filling.pack ∷ []) after
filled-next room n size packs items filling after below f range is count chunked bytes = record {
  last = alone itself room size;
  before = f.last ∷ f.before;
  split = packed-is room n size packs items filling below f false is;
  told = filled-told room n packs items filling f ∙ ap (λ (p : List (Packed ℕ)). map pack_of (reverse p)) f.split;
  count = count;
  chunked = chunked ∙ alone-cut room size;
  bytes = bytes ∙ sym (sum_one size);
  some = omega arith;
  few = omega (arith, length-append items (filling.pack ∷ []), f.few, f.some);
  small = omega (arith, sum_one size);
}

-- one more frame behind the first ones
pub packed-more : (room i first : ℕ) (sizes rest : List ℕ) → sizes ≡ first ∷ rest → i < length rest
    → fold (packed_on itself room) [] (take (i + 1 + 1) sizes) ≡ packed_on itself room (fold (packed_on itself room) [] (take (i + 1) sizes)) (get_or rest i 0)
packed-more room i first sizes rest split below =
    let within : i + 1 < length sizes = omega (arith, ap length split) in
    fold_more (packed_on itself room) [] sizes (i + 1) 0 within
    ∙ ap (packed_on itself room (fold (packed_on itself room) [] (take (i + 1) sizes))) (ap (λ (l : List ℕ). get_or l (i + 1) 0) split ∙ ap (λ (k : ℕ). get_or (first ∷ rest) k 0) (add-one i))
