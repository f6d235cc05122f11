-- Faults of slots stand in the fixed groups and read groups whose slots no fixed layout takes.
use Rattle.std.proofs.Common.{◌≡◌, ℕ, suc, ◌+◌, ◌-◌, ◌<◌, ◌≤◌, Bool, true, false, ◌&&◌, ◌||◌, cond, nat_lt, nat_le, List, [], ◌∷◌, ◌++◌, length, get_or, map, filter, All, AllPairs, refl, sym, ap, ◌∙◌, subst, arith, length-append}
use Rattle.std.specs.List.{list_any, AllByRecursion}
use Rattle.std.proofs.lemmas.Bool.{false≢true, and_parts, or_parts}
use Rattle.std.proofs.lemmas.Bool.Decides.{nat_tests}
use Rattle.std.proofs.lemmas.List.{map-append}
use Rattle.std.proofs.lemmas.List.Elements.{filter-append, All-map}
use Rattle.std.proofs.lemmas.List.Kept.{AllPairs-cons}
use Rattle.toml.specs.Data.{Members}
use Rattle.fixed_layout.specs.declared.slot.Slot.{Slot}
use Rattle.fixed_layout.specs.Slots.{ShareAByte, LieApart, AreSlots, header_of as header_slot, end_of}
use Rattle.config_tables.specs.declared.key.Key.TheVariants as key
use Rattle.config_tables.specs.declared.place.Part.{Part}
use Rattle.config_tables.specs.declared.place.Part.TheVariants.{Group, ReadGroup}
use Rattle.config_tables.specs.declared.place.Place.{Place}
use Rattle.config_tables.specs.declared.place.Place.TheVariants.{Inner}
use Rattle.config_tables.specs.Places.{is_outer, is_inner, is_inner_of, index_of, shares_outer}
use Rattle.config_tables.specs.Tables.{Located, tables}
use Rattle.config_tables.specs.Values.{number_at, truth_at}
use Rattle.ps_config.specs.Fields.{outer_tables, elements_of, width_named}
use Rattle.ps_config.specs.Headers.{signature_len}
use Rattle.ps_config.specs.Layouts.{slot_of, LackSlotFaults, IsJudgedByLayout, IsReadByLayout}
use Rattle.ps_config.specs.Rooms.{is_fixed}
use Rattle.ps_config.specs.Settings.{layout_at, security_at}
use Rattle.ps_config.specs.Slots.{is_slot, offset_of, size_of, overlaps, header_of_fixed, overlaps_header, has_slot_clash, front_length, slot_limit, is_slot_past}
use Rattle.ps_config.proofs.Elements.{in_own_table}
use Rattle.ps_config.proofs.Pairs.{Test, pairs}
use Rattle.ps_config.proofs.Passing.{passing, inner_place}
use Rattle.ps_config.proofs.Sound.{and_right}

-- ---- two slots that pass the tests share no byte

any_split : {X : Type 0} (q : X → Bool) (front : List X) (x : X) (back : List X) → list_any q (front ++ x ∷ back) ≡ false → q x ≡ false
any_split q [] x back h = (or_parts (q x) (list_any q back) h).0
any_split q (y ∷ front) x back h = any_split q front x back (or_parts (q y) (list_any q (front ++ x ∷ back)) h).1

-- a byte of both makes both tests hold
no_byte : (a b : Slot) → (nat_lt 0 b.size && (nat_lt 0 a.size && (nat_lt b.offset (a.offset + a.size) && nat_lt a.offset (b.offset + b.size)))) ≡ false → LieApart a b
no_byte a b h shared =
    let one : nat_lt 0 b.size ≡ true = grind (arith, nat_tests, shared.of_other.begun, shared.of_other.not_over) in
    let two : nat_lt 0 a.size ≡ true = grind (arith, nat_tests, shared.of_one.begun, shared.of_one.not_over) in
    let three : nat_lt b.offset (a.offset + a.size) ≡ true = grind (arith, nat_tests, shared.of_other.begun, shared.of_one.not_over) in
    let four : nat_lt a.offset (b.offset + b.size) ≡ true = grind (arith, nat_tests, shared.of_one.begun, shared.of_other.not_over) in
    false≢true (sym h ∙ rw (one, two, three, four) refl)

no_header_byte : (start : ℕ) (b : Slot) → (nat_lt 0 b.size && nat_lt b.offset start) ≡ false → LieApart (header_slot start) b
no_header_byte start b h shared =
    let one : nat_lt 0 b.size ≡ true = grind (arith, nat_tests, shared.of_other.begun, shared.of_other.not_over) in
    let two : nat_lt b.offset start ≡ true = grind (arith, nat_tests, shared.of_other.begun, shared.of_one.not_over) in
    false≢true (sym h ∙ rw (one, two) refl)

not_below : (n m : ℕ) → nat_lt n m ≡ false → m ≤ n
not_below n m h = grind (arith, nat_tests)

-- ---- two slots that share no byte pass the tests

shared : (a b : Slot) (first : Bool) → nat_le a.offset b.offset ≡ first
    → (nat_lt 0 b.size ≡ true) × (nat_lt 0 a.size ≡ true) × (nat_lt b.offset (a.offset + a.size) ≡ true) × (nat_lt a.offset (b.offset + b.size) ≡ true) → ShareAByte a b
shared a b true is h =
    let before : a.offset ≤ b.offset = grind (arith, nat_tests, is) in
    let some : 0 < b.size = grind (arith, nat_tests, h.0) in
    let reach : b.offset < a.offset + a.size = grind (arith, nat_tests, h.2) in
    record {
      place = b.offset;
      of_one = record { begun = before; not_over = reach };
      of_other = record { begun = omega arith; not_over = omega (arith, some) };
    }
shared a b false is h =
    let behind : b.offset ≤ a.offset = grind (arith, nat_tests, is) in
    let some : 0 < a.size = grind (arith, nat_tests, h.1) in
    let reach : a.offset < b.offset + b.size = grind (arith, nat_tests, h.3) in
    record {
      place = a.offset;
      of_one = record { begun = omega arith; not_over = omega (arith, some) };
      of_other = record { begun = behind; not_over = reach };
    }

by_parts : (p q r s : Bool) → (p && (q && (r && s))) ≡ true → (p ≡ true) × (q ≡ true) × (r ≡ true) × (s ≡ true)
by_parts p q r s h =
    let one = and_parts p (q && (r && s)) h in
    let two = and_parts q (r && s) one.1 in
    let three = and_parts r s two.1 in
    (one.0, two.0, three.0, three.1)

apart_pass : (a b : Slot) → LieApart a b → (nat_lt 0 b.size && (nat_lt 0 a.size && (nat_lt b.offset (a.offset + a.size) && nat_lt a.offset (b.offset + b.size)))) ≡ false
apart_pass a b apart =
    go _ refl
  where
    go : (c : Bool) → (nat_lt 0 b.size && (nat_lt 0 a.size && (nat_lt b.offset (a.offset + a.size) && nat_lt a.offset (b.offset + b.size)))) ≡ c → c ≡ false
    go true is = absurd (apart (shared a b (nat_le a.offset b.offset) refl (by_parts (nat_lt 0 b.size) (nat_lt 0 a.size) (nat_lt b.offset (a.offset + a.size)) (nat_lt a.offset (b.offset + b.size)) is)))
    go false is = refl

behind_pass : (start : ℕ) (b : Slot) → LieApart (header_slot start) b → (nat_lt 0 b.size && nat_lt b.offset start) ≡ false
behind_pass start b apart =
    go _ refl
  where
    go : (c : Bool) → (nat_lt 0 b.size && nat_lt b.offset start) ≡ c → c ≡ false
    go true is =
        let both = and_parts (nat_lt 0 b.size) (nat_lt b.offset start) is in
        let some : 0 < b.size = grind (arith, nat_tests, both.0) in
        let inside : b.offset < start = grind (arith, nat_tests, both.1) in
        absurd (apart (record {
          place = b.offset;
          of_one = record { begun = omega arith; not_over = omega (arith, inside) };
          of_other = record { begun = omega arith; not_over = omega (arith, some) };
        }))
    go false is = refl

-- ---- one element of a list, and those before it

get_middle : {X : Type 0} (a : List X) (x : X) (b : List X) (d : X) → get_or (a ++ x ∷ b) (length a) d ≡ x
get_middle [] x b d = refl
get_middle (y ∷ a) x b d = get_middle a x b d

all_middle : {X : Type 0} (P : X → Type 0) (xs : List X) (y : X) (zs : List X) → All P (xs ++ y ∷ zs) → P y
all_middle P xs y zs all = subst P (get_middle xs y zs y) (all (length xs) y (omega (arith, length-append xs (y ∷ zs))))

all_before : {X : Type 0} (R : X → X → Type 0) (xs : List X) (y : X) (zs : List X) → AllPairs R (xs ++ y ∷ zs) → AllByRecursion (λ x. R x y) xs
all_before R [] y zs all = tt
all_before R (x ∷ xs) y zs all = (
  subst (R x) (get_middle xs y zs y) (all 0 (suc (length xs)) y (omega arith) (omega (arith, length-append xs (y ∷ zs)))),
  all_before R xs y zs (λ i j d lt within. all (suc i) (suc j) d (omega (arith, lt)) (omega (arith, within))),
)

-- what passes, around one that does
passed : (p : Test) (ts front : List Located) (s : Located) (back : List Located) → ts ≡ front ++ s ∷ back → p s ≡ true → filter p ts ≡ filter p front ++ s ∷ filter p back
passed p ts front s back split is = ap (filter p) split ∙ filter-append p front (s ∷ back) ∙ ap (λ b. filter p front ++ cond b (s ∷ filter p back) (filter p back)) is

none_overlaps : (need : Located → Slot) (p : Test) (s : Located) → ((x : Located) → LieApart (need x) (need s) → overlaps s x ≡ false)
    → (front : List Located) → AllByRecursion (λ x. LieApart x (need s)) (map need (filter p front)) → list_any (λ x. p x && overlaps s x) front ≡ false
none_overlaps need p s none [] h = refl
none_overlaps need p s none (x ∷ front) h =
    go (p x) h (none_overlaps need p s none front)
  where
    go : (b : Bool) → AllByRecursion (λ y. LieApart y (need s)) (map need (cond b (x ∷ filter p front) (filter p front)))
        → (AllByRecursion (λ y. LieApart y (need s)) (map need (filter p front)) → list_any (λ y. p y && overlaps s y) front ≡ false)
        → ((b && overlaps s x) || list_any (λ y. p y && overlaps s y) front) ≡ false
    go true all rest = ap (λ c. c || list_any (λ y. p y && overlaps s y) front) (none x all.0) ∙ rest all.1
    go false all rest = rest all

-- ---- the elements of an array

-- an element of this element's array
record IsSlotIn (part : Part) (index : ℕ) (members : Members) (s : Located) : Type 0 where
  inner : ℕ
  place : s.place ≡ Inner part index inner
  outer : s.outer ≡ members

-- the array of a fixed group or read group: its slots are judged by these numbers
record IsSlotArray (part : Part) (index : ℕ) (members : Members) (ts : List Located) (start most : ℕ) : Type 0 where
  own : All (IsSlotIn part index members) (elements_of part index ts)
  slot : (s : Located) → IsSlotIn part index members s → is_slot s ≡ true
  header : (s : Located) → IsSlotIn part index members s → overlaps_header ts s ≡ (nat_lt 0 (size_of s) && nat_lt (offset_of s) start)
  limit : (s : Located) → IsSlotIn part index members s → slot_limit s ≡ most

signed : (part : Part) (index : ℕ) (members : Members) (s : Located) → IsSlotIn part index members s → signature_len (security_at s.outer) ≡ signature_len (security_at members)
signed part index ms s i = ap (λ (m : Members). signature_len (security_at m)) i.outer

has_front : (s : Located) → 0 < front_length s
has_front s = go (is_inner Group s.place && truth_at key.Versions false s.members)
  where
    go : (b : Bool) → 0 < cond b 11 3
    go true = omega arith
    go false = omega arith

and_none : (a b : Bool) → b ≡ false → (a && b) ≡ false
and_none true b h = h
and_none false b h = refl

or_none : (a b : Bool) → a ≡ false → b ≡ false → (a || b) ≡ false
or_none true b one other = one
or_none false b one other = other

reached : (n m : ℕ) → m ≤ n → nat_lt n m ≡ false
reached n m h = grind (arith, nat_tests)

module _ (part : Part) (index : ℕ) (members : Members) (ts : List Located) (start most : ℕ) (a : IsSlotArray part index members ts start most) where
  at_split : (front : List Located) (s : Located) (back : List Located) → ts ≡ front ++ s ∷ back → is_inner_of part index s.place ≡ true → IsSlotIn part index members s
  at_split front s back split is =
      all_middle (IsSlotIn part index members) _ s _ (subst (All (IsSlotIn part index members)) (passed (λ x. is_inner_of part index x.place) ts front s back split is) a.own)

  same_array : (front : List Located) (s : Located) → IsSlotIn part index members s
      → list_any (λ x. shares_outer s.place x.place && overlaps s x) front ≡ list_any (λ x. is_inner_of part index x.place && overlaps s x) front
  same_array front s i = ap (λ (q : Place). list_any (λ x. shares_outer q x.place && overlaps s x) front) i.place

  -- ---- without fault: slots of a layout

  clash_parts : (front : List Located) (s : Located) → IsSlotIn part index members s → has_slot_clash ts front s ≡ false
      → (list_any (λ x. is_inner_of part index x.place && overlaps s x) front ≡ false) × ((nat_lt 0 (size_of s) && nat_lt (offset_of s) start) ≡ false)
  clash_parts front s i none =
      let both = or_parts (list_any (λ x. shares_outer s.place x.place && overlaps s x) front) (overlaps_header ts s) (and_right (is_slot s) _ (a.slot s i) none) in
      (sym (same_array front s i) ∙ both.0, sym (a.header s i) ∙ both.1)

  apart_before : (front : List Located) (s : Located) → list_any (λ x. is_inner_of part index x.place && overlaps s x) front ≡ false
      → All (λ x. LieApart x (slot_of ts s)) (map (slot_of ts) (filter (λ x. is_inner_of part index x.place) front))
  apart_before front s none =
      All-map (λ (x : Slot). LieApart x (slot_of ts s)) (slot_of ts) (filter (λ x. is_inner_of part index x.place) front)
      (passing (λ x. is_inner_of part index x.place) (λ x. LieApart (slot_of ts x) (slot_of ts s)) front
      (λ f x b split passes.
      no_byte (slot_of ts x) (slot_of ts s)
      (and_right (is_inner_of part index x.place) (overlaps s x) passes
      (any_split (λ y. is_inner_of part index y.place && overlaps s y) f x b (subst (λ (l : List Located). list_any (λ y. is_inner_of part index y.place && overlaps s y) l ≡ false) split none)))))

  within_limit : (s : Located) → IsSlotIn part index members s → is_slot_past s ≡ false → end_of (slot_of ts s) ≤ most - signature_len (security_at members)
  within_limit s i none =
      let past = not_below (slot_limit s) (offset_of s + size_of s + signature_len (security_at s.outer)) (and_right (is_slot s) _ (a.slot s i) none) in
      omega (arith, past, a.limit s i, signed part index members s i)

  faultless_slots : LackSlotFaults part ts index → AreSlots start (most - signature_len (security_at members)) (map (slot_of ts) (elements_of part index ts))
  faultless_slots none = record {
    apart = AllPairs-cons LieApart (header_slot start) (map (slot_of ts) (elements_of part index ts))
        (All-map (LieApart (header_slot start)) (slot_of ts) (elements_of part index ts)
        (passing (λ x. is_inner_of part index x.place) (λ s. LieApart (header_slot start) (slot_of ts s)) ts
        (λ front s back split is. no_header_byte start (slot_of ts s) (clash_parts front s (at_split front s back split is) (none front s back split is).clash).1)))
        (pairs LieApart (λ x. is_inner_of part index x.place) (slot_of ts) ts
        (λ front s back split is. apart_before front s (clash_parts front s (at_split front s back split is) (none front s back split is).clash).0));
    large = All-map (λ (slot : Slot). slot.need ≤ slot.size) (slot_of ts) (elements_of part index ts)
        (passing (λ x. is_inner_of part index x.place) (λ s. front_length s + width_named ts s ≤ size_of s) ts
        (λ front s back split is.
        not_below (size_of s) (front_length s + width_named ts s) (and_right (is_slot s) _ (a.slot s (at_split front s back split is)) (none front s back split is).small)));
    within = All-map (λ (slot : Slot). end_of slot ≤ most - signature_len (security_at members)) (slot_of ts) (elements_of part index ts)
        (passing (λ x. is_inner_of part index x.place) (λ s. end_of (slot_of ts s) ≤ most - signature_len (security_at members)) ts
        (λ front s back split is. within_limit s (at_split front s back split is) (none front s back split is).past));
  }

  -- ---- slots of a layout: without fault

  parts_at : (front : List Located) (s : Located) (back : List Located) → ts ≡ front ++ s ∷ back → is_inner_of part index s.place ≡ true
      → map (slot_of ts) (elements_of part index ts)
      ≡ map (slot_of ts) (filter (λ x. is_inner_of part index x.place) front) ++ slot_of ts s ∷ map (slot_of ts) (filter (λ x. is_inner_of part index x.place) back)
  parts_at front s back split is =
      ap (map (slot_of ts)) (passed (λ x. is_inner_of part index x.place) ts front s back split is)
      ∙ map-append (slot_of ts) (filter (λ x. is_inner_of part index x.place) front) (s ∷ filter (λ x. is_inner_of part index x.place) back)

  at_slot : (P : Slot → Type 0) → All P (map (slot_of ts) (elements_of part index ts))
      → (front : List Located) (s : Located) (back : List Located) → ts ≡ front ++ s ∷ back → is_inner_of part index s.place ≡ true → P (slot_of ts s)
  at_slot P all front s back split is = all_middle P _ (slot_of ts s) _ (subst (All P) (parts_at front s back split is) all)

  no_clash : AllPairs LieApart (header_slot start ∷ map (slot_of ts) (elements_of part index ts))
      → (front : List Located) (s : Located) (back : List Located) → ts ≡ front ++ s ∷ back → is_inner_of part index s.place ≡ true → has_slot_clash ts front s ≡ false
  no_clash apart front s back split is =
      let i = at_split front s back split is in
      let before = all_before LieApart (header_slot start ∷ map (slot_of ts) (filter (λ x. is_inner_of part index x.place) front)) (slot_of ts s) (map (slot_of ts) (filter (λ x. is_inner_of part index x.place) back))
      (subst (λ (l : List Slot). AllPairs LieApart (header_slot start ∷ l)) (parts_at front s back split is) apart) in
      let others : list_any (λ x. is_inner_of part index x.place && overlaps s x) front ≡ false =
      none_overlaps (slot_of ts) (λ x. is_inner_of part index x.place) s (λ x. apart_pass (slot_of ts x) (slot_of ts s)) front before.1 in
      and_none (is_slot s) _
      (or_none (list_any (λ x. shares_outer s.place x.place && overlaps s x) front) (overlaps_header ts s) (same_array front s i ∙ others) (a.header s i ∙ behind_pass start (slot_of ts s) before.0))

  no_past : (s : Located) → IsSlotIn part index members s → front_length s + width_named ts s ≤ size_of s → end_of (slot_of ts s) ≤ most - signature_len (security_at members)
      → is_slot_past s ≡ false
  no_past s i large within =
      and_none (is_slot s) _
      (reached (slot_limit s) (offset_of s + size_of s + signature_len (security_at s.outer)) (omega (arith, large, within, has_front s, a.limit s i, signed part index members s i)))

  slots_faultless : AreSlots start (most - signature_len (security_at members)) (map (slot_of ts) (elements_of part index ts)) → LackSlotFaults part ts index
  slots_faultless slots front s back split is =
      let large = at_slot (λ slot. slot.need ≤ slot.size) slots.large front s back split is in
      record {
        clash = no_clash slots.apart front s back split is;
        small = and_none (is_slot s) _ (reached (size_of s) (front_length s + width_named ts s) large);
        past = no_past s (at_split front s back split is) large (at_slot (λ slot. end_of slot ≤ most - signature_len (security_at members)) slots.within front s back split is);
      }

-- ---- the groups and read groups of a document

slots_own : (part : Part) (document : Members) (front : List Located) (t : Located) (back : List Located) → tables document ≡ front ++ t ∷ back → is_outer part t.place ≡ true
    → All (IsSlotIn part (index_of t.place) t.members) (elements_of part (index_of t.place) (tables document))
slots_own part document front t back split passes =
    let ts = tables document in
    let places : All (λ s. (j : ℕ) × (s.place ≡ Inner part (index_of t.place) j)) (elements_of part (index_of t.place) ts) =
    passing (λ s. is_inner_of part (index_of t.place) s.place) (λ s. (j : ℕ) × (s.place ≡ Inner part (index_of t.place) j)) ts
    (λ f s b inside is. inner_place part (index_of t.place) s.place is) in
    λ k d within. record { inner = (places k d within).0; place = (places k d within).1; outer = in_own_table part document front t back split passes k d within }

fixed_slot : (part : Part) (index : ℕ) (members : Members) → ((j : ℕ) → (is_inner Group (Inner part index j) || is_inner ReadGroup (Inner part index j)) ≡ true)
    → is_fixed (layout_at members) ≡ true → (s : Located) → IsSlotIn part index members s → is_slot s ≡ true
fixed_slot part index ms kind fixed s i =
    let here : (is_inner Group s.place || is_inner ReadGroup s.place) ≡ true = subst (λ (q : Place). (is_inner Group q || is_inner ReadGroup q) ≡ true) (sym i.place) (kind i.inner) in
    let layout : is_fixed (layout_at s.outer) ≡ true = subst (λ (m : Members). is_fixed (layout_at m) ≡ true) (sym i.outer) fixed in
    rw (here, layout) refl

writer_array : (document : Members) (front : List Located) (t : Located) (back : List Located) → tables document ≡ front ++ t ∷ back → is_outer Group t.place ≡ true
    → is_fixed (layout_at t.members) ≡ true
    → IsSlotArray Group (index_of t.place) t.members (tables document) (header_of_fixed (tables document) t.members) (number_at key.MaxSize 65000 1400 t.members)
writer_array document front t back split passes fixed =
    let ts = tables document in
    record {
      own = slots_own Group document front t back split passes;
      slot = fixed_slot Group (index_of t.place) t.members (λ j. refl) fixed;
      header = λ s i. ap (λ b. b && (nat_lt 0 (size_of s) && nat_lt (offset_of s) (header_of_fixed ts s.outer))) (ap (is_inner Group) i.place)
          ∙ ap (λ (ms : Members). nat_lt 0 (size_of s) && nat_lt (offset_of s) (header_of_fixed ts ms)) i.outer;
      limit = λ s i. ap (λ b. cond b (number_at key.MaxSize 65000 1400 s.outer) 65000) (ap (is_inner Group) i.place) ∙ ap (λ (ms : Members). number_at key.MaxSize 65000 1400 ms) i.outer;
    }

reader_array : (document : Members) (front : List Located) (t : Located) (back : List Located) → tables document ≡ front ++ t ∷ back → is_outer ReadGroup t.place ≡ true
    → is_fixed (layout_at t.members) ≡ true → IsSlotArray ReadGroup (index_of t.place) t.members (tables document) 0 65000
reader_array document front t back split passes fixed =
    let ts = tables document in
    record {
      own = slots_own ReadGroup document front t back split passes;
      slot = fixed_slot ReadGroup (index_of t.place) t.members (λ j. refl) fixed;
      header = λ s i. ap (λ b. b && (nat_lt 0 (size_of s) && nat_lt (offset_of s) (header_of_fixed ts s.outer))) (ap (is_inner Group) i.place)
          ∙ sym (and_none (nat_lt 0 (size_of s)) (nat_lt (offset_of s) 0) (reached (offset_of s) 0 (omega arith)));
      limit = λ s i. ap (λ b. cond b (number_at key.MaxSize 65000 1400 s.outer) 65000) (ap (is_inner Group) i.place);
    }

pub group_judged : (document : Members) (front : List Located) (t : Located) (back : List Located) → tables document ≡ front ++ t ∷ back → is_outer Group t.place ≡ true
    → IsJudgedByLayout (tables document) t
group_judged document front t back split passes fixed =
    let ts = tables document in
    let a = writer_array document front t back split passes fixed in (
      faultless_slots Group (index_of t.place) t.members ts (header_of_fixed ts t.members) (number_at key.MaxSize 65000 1400 t.members) a,
      slots_faultless Group (index_of t.place) t.members ts (header_of_fixed ts t.members) (number_at key.MaxSize 65000 1400 t.members) a,
    )

pub read_group_judged : (document : Members) (front : List Located) (t : Located) (back : List Located) → tables document ≡ front ++ t ∷ back → is_outer ReadGroup t.place ≡ true
    → IsReadByLayout (tables document) t
read_group_judged document front t back split passes fixed =
    let ts = tables document in
    let a = reader_array document front t back split passes fixed in (
      faultless_slots ReadGroup (index_of t.place) t.members ts 0 65000 a,
      slots_faultless ReadGroup (index_of t.place) t.members ts 0 65000 a,
    )

pub judged_by_layout : (document : Members) → All (IsJudgedByLayout (tables document)) (outer_tables Group (tables document))
judged_by_layout document = passing (λ t. is_outer Group t.place) (IsJudgedByLayout (tables document)) (tables document) (group_judged document)

pub read_by_layout : (document : Members) → All (IsReadByLayout (tables document)) (outer_tables ReadGroup (tables document))
read_by_layout document = passing (λ t. is_outer ReadGroup t.place) (IsReadByLayout (tables document)) (tables document) (read_group_judged document)
