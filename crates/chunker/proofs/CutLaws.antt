-- The chunks of a cut: each is of its message, together they cover it, and chunks that cover a message give it back.
use Rattle.std.proofs.Common.{◌≡◌, refl, sym, ap, ◌∙◌, arith, ℕ, zero, suc, ◌+◌, ◌-◌, ◌*◌, ◌/◌, ◌<◌, ◌≤◌, min, Bool, true, false, ◌&&◌, ◌||◌, cond, List, [], ◌∷◌, length, take, drop, Some, subst}
use Rattle.std.specs.Prelude.{nat_le, nat_lt, ◌==◌, find, slice_index, slice_get}
use Rattle.std.specs.List.{list_any, Contains, All}
use Rattle.std.proofs.lemmas.Bool.{and_parts, and_from, or_right, le-leb, lt-ltb, leb-true, ltb-true, eqb-true, eq-eqb}
use Rattle.std.proofs.lemmas.List.{get_or-take, get_or-drop, length-take, length-drop, take_min}
use Rattle.std.proofs.lemmas.Option.{slice_get-get_or}
use Rattle.std.proofs.lemmas.List.Elements.{All-contains}
use Rattle.std.proofs.lemmas.List.FromFn.{length-map-range_with_len, get_or-map-range_with_len, fill_by_all}
use Rattle.std.proofs.Math.Nat.{div-mul-le_self, mul-le-mul_right, mod-lt}
use Rattle.std.proofs.lemmas.Nat.{le-div, div-add-mod'}
use Rattle.chunker.specs.Chunks.{Chunk, cut_at, cuts, is_at, cover, byte_in}
use Rattle.chunker.specs.Joining.{chunk_of}
use Rattle.chunker.specs.Joins.{IsCutOf, CoverGivesBack, IsWithinRoom}
use Rattle.chunker.proofs.RangeLaws.{all_below, all_from_below}

-- how many chunks there are
abbrev pub cut_count : ℕ → ℕ → ℕ
cut_count room total = (total + room - 1) / room

-- ---- elements

pub any_from : (test : Chunk → Bool) (chunks : List Chunk) (c : Chunk) → Contains chunks c → test c ≡ true → list_any test chunks ≡ true
any_from test [] c h e = absurd (omega (arith, h.1))
any_from test (d ∷ chunks) c (zero, lt, is) e = let first : test d ≡ true = ap test is ∙ e in ap (λ (b : Bool). b || list_any test chunks) first
any_from test (d ∷ chunks) c (suc k, lt, is) e = or_right (test d) (list_any test chunks) (any_from test chunks c (k, omega (arith, lt), is) e)

more_contain : (chunks : List Chunk) (d c : Chunk) → Contains chunks c → Contains (d ∷ chunks) c
more_contain chunks d c h = (suc h.0, omega (arith, h.1), h.2)

find_in : (test : Chunk → Bool) (chunks : List Chunk) → list_any test chunks ≡ true → (c : Chunk) × (find test chunks ≡ Some c) × Contains chunks c × (test c ≡ true)
find_in test [] e = absurd (let wrong : false ≡ true = e in cc)
find_in test (d ∷ chunks) e = found_on (test d) refl (find_in test chunks)
  where
    found_on : (b : Bool) → test d ≡ b → (list_any test chunks ≡ true → (c : Chunk) × (find test chunks ≡ Some c) × Contains chunks c × (test c ≡ true))
        → (c : Chunk) × (cond (test d) (Some d) (find test chunks) ≡ Some c) × Contains (d ∷ chunks) c × (test c ≡ true)
    found_on true is rest = (d, ap (λ (b : Bool). cond b (Some d) (find test chunks)) is, (0, omega arith, refl), is)
    found_on false is rest =
        let h = rest (sym (ap (λ (b : Bool). b || list_any test chunks) is) ∙ e) in
        (h.0, ap (λ (b : Bool). cond b (Some d) (find test chunks)) is ∙ h.1, more_contain chunks d h.0 h.2, h.3)

-- ---- a chunk of a cut

pub record IsCutAt (room place : ℕ) (message : List ℕ) (c : Chunk) : Type 0 where
  pub k : ℕ
  pub within : k < cut_count room (length message)
  pub is : cut_at room place message k ≡ c

pub cut-at : (room place : ℕ) (message : List ℕ) (c : Chunk) → Contains (cuts room place message) c → IsCutAt room place message c
cut-at room place message c h =
    let n = cut_count room (length message) in
    let long = length-map-range_with_len (cut_at room place message) 0 n in
    let less : h.0 < n = omega (arith, h.1, long) in
    record {
      k = h.0;
      within = less;
      is = sym (get_or-map-range_with_len (cut_at room place message) 0 n h.0 h.0 c less (omega arith)) ∙ h.2;
    }

pub cut-contains : (room place : ℕ) (message : List ℕ) (k : ℕ) → k < cut_count room (length message) → Contains (cuts room place message) (cut_at room place message k)
cut-contains room place message k less =
    let n = cut_count room (length message) in
    let long = length-map-range_with_len (cut_at room place message) 0 n in
    (k, omega (arith, less, long), get_or-map-range_with_len (cut_at room place message) 0 n k k (cut_at room place message k) less (omega arith))

-- it is the chunk with this offset and length
pub cut-is : (room place total k len : ℕ) (message : List ℕ) → 1 ≤ room → k * room < total → len ≡ min room (total - k * room) → length message ≡ total
    → slice_get (cuts room place message) k ≡ Some (chunk_of place (k * room) total (take len (drop (k * room) message)))
cut-is room place total k len message has_room within len_is long =
    let n = cut_count room (length message) in
    let rest = drop (k * room) message in
    let one : (k + 1) * room ≡ k * room + room = omega arith in
    let counted : k + 1 ≤ n = le-div (k + 1) (length message + room - 1) room (omega (arith, has_room)) (omega (arith, one, within, long)) in
    let less : k < n = omega (arith, counted) in
    let size : len ≡ min room (length rest) = omega (arith, len_is, length-drop (k * room) message, long) in
    let bytes : take room rest ≡ take len rest = sym (ap (λ m. take m rest) size ∙ take_min room rest) in
    slice_get-get_or (cuts room place message) k (cut_at room place message k) (omega (arith, less, length-map-range_with_len (cut_at room place message) 0 n))
    ∙ ap Some (get_or-map-range_with_len (cut_at room place message) 0 n k k (cut_at room place message k) less (omega arith))
    ∙ ap (λ t. Some (chunk_of place (k * room) t (take room rest))) long ∙ ap (λ l. Some (chunk_of place (k * room) total l)) bytes

pub cut-within : (room total k : ℕ) → 1 ≤ total → k < cut_count room total → k * room < total
cut-within room total k some less =
    let most : cut_count room total * room ≤ total + room - 1 = div-mul-le_self (total + room - 1) room in
    let below : (k + 1) * room ≤ cut_count room total * room = mul-le-mul_right room (omega (arith, less)) in
    let one : (k + 1) * room ≡ k * room + room = omega arith in
    omega (arith, most, below, one, some)

pub cut-of : (room place : ℕ) (message : List ℕ) (c : Chunk) → Contains (cuts room place message) c → (c.place ≡ place) × IsCutOf message c
cut-of room place message c h =
    let of = cut-at room place message c h in
    let long = length-take room (drop (of.k * room) message) in
    subst (λ (c : Chunk). (c.place ≡ place) × IsCutOf message c) of.is
    (refl, record { total = refl; bytes = λ j lt. get_or-take room (drop (of.k * room) message) j 0 (omega (arith, lt, long)) ∙ get_or-drop (of.k * room) message j 0 })

-- its size
pub record HasSize (total : ℕ) (c : Chunk) : Type 0 where
  pub total_is : c.total ≡ total
  pub some : 0 < length c.bytes
  pub within : c.offset + length c.bytes ≤ c.total

pub cut-size : (room place : ℕ) (message : List ℕ) (c : Chunk) → 1 ≤ room → 1 ≤ length message → Contains (cuts room place message) c → HasSize (length message) c
cut-size room place message c has_room some h =
    let of = cut-at room place message c h in
    let less = cut-within room (length message) of.k some of.within in
    let long = length-take room (drop (of.k * room) message) in
    let rest = length-drop (of.k * room) message in
    subst (HasSize (length message)) of.is (record { total_is = refl; some = omega (arith, less, long, rest, has_room); within = omega (arith, less, long, rest) })

pub cut-room : (room place : ℕ) (message : List ℕ) (c : Chunk) → 1 ≤ room → 1 ≤ length message → Contains (cuts room place message) c → IsWithinRoom room c
cut-room room place message c has_room some h =
    let of = cut-at room place message c h in
    let size = cut-size room place message c has_room some h in
    let most : length c.bytes ≤ room = subst (λ (c : Chunk). length c.bytes ≤ room) of.is (omega (arith, length-take room (drop (of.k * room) message))) in
    record { some = size.some; at_most = most; within = size.within }

-- ---- all of them cover the message

cut_has : (room place : ℕ) (message : List ℕ) (o : ℕ) → 1 ≤ room → o < length message → is_at place o (cut_at room place message (o / room)) ≡ true
cut_has room place message o has_room less =
    let low : o / room * room ≤ o = div-mul-le_self o room in
    let high : o < o / room * room + room = next o room has_room in
    let long = length-take room (drop (o / room * room) message) in
    let rest = length-drop (o / room * room) message in
    and_from ((place == place) && nat_le (o / room * room) o) (nat_lt o (o / room * room + length (take room (drop (o / room * room) message))))
    (and_from (place == place) (nat_le (o / room * room) o) (eq-eqb place place refl) (le-leb (o / room * room) o low))
    (lt-ltb o (o / room * room + length (take room (drop (o / room * room) message))) (omega (arith, high, long, rest, less, low)))
  where
    next : (o room : ℕ) → 1 ≤ room → o < o / room * room + room
    next o room has_room = omega (arith, div-add-mod' o room, mod-lt o {m = room} has_room)

pub cuts-cover : (room place : ℕ) (message : List ℕ) (given : List Chunk) → 1 ≤ room → All (Contains given) (cuts room place message) → cover given place (length message) ≡ true
cuts-cover room place message given has_room each = all_from_below (λ o. list_any (is_at place o) given) (length message) (λ o less.
    let low : o / room * room ≤ o = div-mul-le_self o room in
    let one : (o / room + 1) * room ≡ o / room * room + room = omega arith in
    let within : o / room + 1 ≤ cut_count room (length message) = le-div (o / room + 1) (length message + room - 1) room (omega (arith, has_room)) (omega (arith, low, one, less)) in
    any_from (is_at place o) given (cut_at room place message (o / room))
    (All-contains (Contains given) (cuts room place message) (cut_at room place message (o / room)) each (cut-contains room place message (o / room) (omega (arith, within))))
    (cut_has room place message o has_room less))

-- ---- a message that is covered

at_parts : (p a b : Bool) → (p && a && b) ≡ true → (p ≡ true) × (a ≡ true) × (b ≡ true)
at_parts p a b e = let h = and_parts (p && a) b e in let g = and_parts p a h.0 in (g.0, g.1, h.1)

byte_at : (message : List ℕ) (place offset : ℕ) (chunks : List Chunk) → ((c : Chunk) → Contains chunks c → c.place ≡ place → IsCutOf message c) → list_any (is_at place offset) chunks ≡ true
    → byte_in offset (find (is_at place offset) chunks) ≡ slice_index message offset
byte_at message place offset chunks cut e =
    let found = find_in (is_at place offset) chunks e in
    let c = found.0 in
    let parts = at_parts (c.place == place) (nat_le c.offset offset) (nat_lt offset (c.offset + length c.bytes)) found.3 in
    let at : c.place ≡ place = eqb-true c.place place parts.0 in
    let low : c.offset ≤ offset = leb-true c.offset offset parts.1 in
    let high : offset < c.offset + length c.bytes = ltb-true offset (c.offset + length c.bytes) parts.2 in
    let is = cut c found.2 at in
    let back : c.offset + (offset - c.offset) ≡ offset = omega (arith, low) in
    ap (byte_in offset) found.1 ∙ is.bytes (offset - c.offset) (omega (arith, low, high)) ∙ ap (slice_index message) back

-- chunks of one message that cover it give it back
pub message-back : (message : List ℕ) (place : ℕ) (chunks : List Chunk) → CoverGivesBack message place chunks
message-back message place chunks cut covered =
    sym (fill_by_all (λ o. byte_in o (find (is_at place o) chunks)) message (length message) 0 refl
    (λ o less. sym (byte_at message place o chunks cut (all_below (λ o. list_any (is_at place o) chunks) (length message) o covered less))))
