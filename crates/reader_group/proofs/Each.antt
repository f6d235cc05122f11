-- Readers one after another: what is kept for each, once those below an index have changed.
use Rattle.std.proofs.Common.{◌≡◌, sym, ap, ◌∙◌, subst, arith, ℕ, ◌+◌, ◌<◌, ◌≤◌, ◌≢◌, ◌⊎◌, inl, inr, List, length, map, get_or}
use Rattle.std.specs.Prelude.{slice_set}
use Rattle.std.specs.List.{HoldsAt}
use Rattle.std.proofs.lemmas.Bool.{cases_lt}
use Rattle.std.proofs.lemmas.List.{length-map, get_or-set_other, get_or-set_same, get_or-map}
use Rattle.std.proofs.lemmas.List.FromFn.{get_or-map-range_with_len, length-map-range_with_len}
use Rattle.reader_group.specs.declared.member.Member.{Member}
use Rattle.reader_group.specs.Members.{Seat, MemberValue, seat_at, new_member}
use Rattle.reader_group.specs.MemberWords.{HoldsRowsOf, IsMemberOf}
use Rattle.reader_group.specs.Groups.{AreMembers, AreReaders, ChangesAt}
use Rattle.reader_group.specs.Plain.{Fed, unfed, member_at, each}

-- what the reader at this index has by f
abbrev pub by_seat : {A : Type 0} → List Seat → List MemberValue → (ℕ → Seat → MemberValue → A) → ℕ → A
by_seat seats values f k = f k (seat_at seats k) (member_at values k)

-- the readers below this index have what g makes of what was kept for them, and the others what was kept
pub record ArePartly (seats : List Seat) (values : List MemberValue) (g : ℕ → Seat → MemberValue → MemberValue) (i : ℕ) (members : List Member) : Type 0 where
  pub below : (k : ℕ) → k < i → k < length seats → HoldsAt (IsMemberOf (seat_at seats k) (by_seat seats values g k)) members k
  pub above : (k : ℕ) → i ≤ k → k < length seats → HoldsAt (IsMemberOf (seat_at seats k) (member_at values k)) members k

-- the reader at another index stays
pub stays_at : (P : Member → Type 0) (i k : ℕ) (old new : List Member) → k ≢ i → ChangesAt i old new → HoldsAt P old k → HoldsAt P new k
stays_at P i k old new other changes h d =
    subst P (sym (ap (λ (l : List Member). get_or l k d) (changes d) ∙ get_or-set_other old i k (get_or new i d) d other)) (h d)

less_other : (k i : ℕ) → k < i → k ≢ i
less_other k i less same = omega (arith, less, same)

more_other : (k i : ℕ) → i < k → k ≢ i
more_other k i more same = omega (arith, more, same)

pub partly-none : (seats : List Seat) (values : List MemberValue) (g : ℕ → Seat → MemberValue → MemberValue) (members : List Member)
    → AreMembers seats values members → ArePartly seats values g 0 members
partly-none seats values g members h = record { below = λ k low within. absurd (omega (arith, low)); above = λ k high within. h.each k within }

pub partly-more : (seats : List Seat) (values : List MemberValue) (g : ℕ → Seat → MemberValue → MemberValue) (i : ℕ) (old new : List Member)
    → ChangesAt i old new → HoldsAt (IsMemberOf (seat_at seats i) (by_seat seats values g i)) new i
    → ArePartly seats values g i old → ArePartly seats values g (i + 1) new
partly-more seats values g i old new changes here h = record {
  below = λ k low within. below_on k low within (cases_lt k i);
  above = λ k high within.
      let far : i < k = omega (arith, high) in
      stays_at (IsMemberOf (seat_at seats k) (member_at values k)) i k old new (more_other k i far) changes (h.above k (omega (arith, high)) within);
}
  where
    below_on : (k : ℕ) → k < i + 1 → k < length seats → (k < i) ⊎ (i ≤ k) → HoldsAt (IsMemberOf (seat_at seats k) (by_seat seats values g k)) new k
    below_on k low within (inl less) = stays_at (IsMemberOf (seat_at seats k) (by_seat seats values g k)) i k old new (less_other k i less) changes (h.below k less within)
    below_on k low within (inr more) =
        let same : i ≡ k = omega (arith, low, more) in
        subst (λ (j : ℕ). HoldsAt (IsMemberOf (seat_at seats j) (by_seat seats values g j)) new j) same here

-- each reader by its index
pub each-at : {A : Type 0} (seats : List Seat) (values : List MemberValue) (f : ℕ → Seat → MemberValue → A) (k : ℕ) (d : A) → k < length seats
    → get_or (each seats values f) k d ≡ by_seat seats values f k
each-at seats values f k d within = let same : 0 + k ≡ k = omega arith in get_or-map-range_with_len (by_seat seats values f) 0 (length seats) k k d within same

pub each-length : {A : Type 0} (seats : List Seat) (values : List MemberValue) (f : ℕ → Seat → MemberValue → A) → length (each seats values f) ≡ length seats
each-length seats values f = length-map-range_with_len (by_seat seats values f) 0 (length seats)

pub partly-all : (seats : List Seat) (values : List MemberValue) (g : ℕ → Seat → MemberValue → MemberValue) (i : ℕ) (members : List Member)
    → length members ≡ length seats → length seats ≤ i → ArePartly seats values g i members → AreMembers seats (each seats values g) members
partly-all seats values g i members count all h = record {
  count = count;
  values_count = each-length seats values g;
  each = λ k within.
      subst (λ (v : MemberValue). HoldsAt (IsMemberOf (seat_at seats k) v) members k) (sym (each-at seats values g k new_member within)) (h.below k (omega (arith, all, within)) within);
}

-- the member of each that was fed
abbrev pub fed_members : List Fed → List MemberValue
fed_members feds = map (λ (fed : Fed). fed.member) feds

abbrev pub fed_member : (ℕ → Seat → MemberValue → Fed) → ℕ → Seat → MemberValue → MemberValue
fed_member f k seat value = (f k seat value).member

pub fed_member-at : (seats : List Seat) (values : List MemberValue) (f : ℕ → Seat → MemberValue → Fed) (k : ℕ) → k < length seats
    → member_at (fed_members (each seats values f)) k ≡ by_seat seats values (fed_member f) k
fed_member-at seats values f k within =
    let inside : k < length (each seats values f) = omega (arith, within, each-length seats values f) in
    get_or-map (λ (fed : Fed). fed.member) (each seats values f) k (unfed new_member) new_member inside
    ∙ ap (λ (fed : Fed). fed.member) (each-at seats values f k (unfed new_member) within)

pub fed_members-length : (seats : List Seat) (values : List MemberValue) (f : ℕ → Seat → MemberValue → Fed) → length (fed_members (each seats values f)) ≡ length seats
fed_members-length seats values f = length-map (each seats values f) (λ (fed : Fed). fed.member) ∙ each-length seats values f

pub partly-fed : (seats : List Seat) (values : List MemberValue) (f : ℕ → Seat → MemberValue → Fed) (i : ℕ) (members : List Member)
    → length members ≡ length seats → length seats ≤ i → ArePartly seats values (fed_member f) i members → AreMembers seats (fed_members (each seats values f)) members
partly-fed seats values f i members count all h = record {
  count = count;
  values_count = fed_members-length seats values f;
  each = λ k within.
      subst (λ (v : MemberValue). HoldsAt (IsMemberOf (seat_at seats k) v) members k) (sym (fed_member-at seats values f k within)) (h.below k (omega (arith, all, within)) within);
}

-- one reader changes, and holds rows of its meta still
pub readers-change : (seats : List Seat) (i : ℕ) (old new : List Member) → length new ≡ length old → ChangesAt i old new → HoldsAt (HoldsRowsOf (seat_at seats i).meta) new i
    → AreReaders seats old → AreReaders seats new
readers-change seats i old new long changes here h = record { count = long ∙ h.count; each = λ k within. each_on k within (cases_lt k i) (cases_lt i k) }
  where
    each_on : (k : ℕ) → k < length seats → (k < i) ⊎ (i ≤ k) → (i < k) ⊎ (k ≤ i) → HoldsAt (HoldsRowsOf (seat_at seats k).meta) new k
    each_on k within (inl less) far = stays_at (HoldsRowsOf (seat_at seats k).meta) i k old new (less_other k i less) changes (h.each k within)
    each_on k within (inr more) (inl above) = stays_at (HoldsRowsOf (seat_at seats k).meta) i k old new (more_other k i above) changes (h.each k within)
    each_on k within (inr more) (inr below) =
        let same : i ≡ k = omega (arith, more, below) in
        subst (λ (j : ℕ). HoldsAt (HoldsRowsOf (seat_at seats j).meta) new j) same here

-- what holds of the reader that is put at an index
pub held_set : (P : Member → Type 0) (members : List Member) (i : ℕ) (member : Member) → i < length members → P member → HoldsAt P (slice_set members i member) i
held_set P members i member within h d = subst P (sym (get_or-set_same members i member d within)) h
