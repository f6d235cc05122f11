-- The readers of a group at a look at their timers, and where one is cut by hand.
use Rattle.std.proofs.Common.{◌≡◌, ◌≢◌, refl, sym, ◌∙◌, subst, arith, ℕ, ◌+◌, ◌<◌, ◌≤◌, Bool, true, false, List, length}
use Rattle.std.specs.Prelude.{◌==◌}
use Rattle.std.specs.List.{HoldsAt}
use Rattle.std.proofs.lemmas.Bool.Decides.{nat_tests}
use Rattle.dataset_meta.specs.Metas.{MetaData}
use Rattle.pubsub_model.specs.declared.reading.Why.{Why}
use Rattle.reader_group.specs.declared.member.Member.{Member}
use Rattle.reader_group.specs.Members.{Seat, MemberValue, seat_at, new_member, expired, stopped}
use Rattle.reader_group.specs.MemberWords.{HoldsRowsOf, IsMemberOf}
use Rattle.reader_group.specs.Groups.{AreMembers, AreReaders, ChangesAt}
use Rattle.reader_group.specs.Plain.{member_at, each, stopped_if, one_stopped}
use Rattle.reader_group.proofs.Each.{ArePartly, partly-none, partly-more, partly-all, stays_at, each-at, each-length, readers-change}

-- ---- timers

abbrev pub expiring : ℕ → ℕ → Seat → MemberValue → MemberValue
expiring now k seat value = expired seat.part.timeout now value

-- the timers of the readers below this index were looked at
pub record ExpiredBelow (now : ℕ) (old : List Member) (i : ℕ) (members : List Member) : Type 0 where
  pub count : length members ≡ length old
  pub partly : (seats : List Seat) (values : List MemberValue) → AreMembers seats values old → ArePartly seats values (expiring now) i members
  pub readers : (seats : List Seat) → AreReaders seats old → AreReaders seats members

pub expired-none : (now : ℕ) (old : List Member) → ExpiredBelow now old 0 old
expired-none now old = record { count = refl; partly = λ seats values are. partly-none seats values (expiring now) old are; readers = λ seats are. are }

pub expired-more : (now : ℕ) (old : List Member) (i : ℕ) (before after : List Member) → i < length before
    → ((seat : Seat) (value : MemberValue) → HoldsAt (IsMemberOf seat value) before i → HoldsAt (IsMemberOf seat (expired seat.part.timeout now value)) after i)
    → ((meta : MetaData) → HoldsAt (HoldsRowsOf meta) before i → HoldsAt (HoldsRowsOf meta) after i)
    → ChangesAt i before after → length after ≡ length before → ExpiredBelow now old i before → ExpiredBelow now old (i + 1) after
expired-more now old i before after within member reader others count h = record {
  count = count ∙ h.count;
  partly = λ seats values are.
      let inside : i < length seats = omega (arith, within, h.count, are.count) in
      let was = (h.partly seats values are).above i (omega arith) inside in
      partly-more seats values (expiring now) i before after others (member (seat_at seats i) (member_at values i) was) (h.partly seats values are);
  readers = λ seats are.
      let so_far = h.readers seats are in
      let inside : i < length seats = omega (arith, within, so_far.count) in
      readers-change seats i before after count others (reader (seat_at seats i).meta (so_far.each i inside)) so_far;
}

pub expired-all : (now : ℕ) (old : List Member) (i : ℕ) (members : List Member) → length members ≤ i → ExpiredBelow now old i members
    → (seats : List Seat) (values : List MemberValue) → AreMembers seats values old → AreMembers seats (each seats values (expiring now)) members
expired-all now old i members all h seats values are =
    partly-all seats values (expiring now) i members (h.count ∙ are.count) (omega (arith, all, h.count, are.count)) (h.partly seats values are)

-- ---- a cut by hand

abbrev stopping : ℕ → Why → ℕ → Seat → MemberValue → MemberValue
stopping index why k seat value = stopped_if (k == index) why value

pub one-stopped : (index : ℕ) (why : Why) (old new : List Member) → index < length old
    → ((seat : Seat) (value : MemberValue) → HoldsAt (IsMemberOf seat value) old index → HoldsAt (IsMemberOf seat (stopped why value)) new index)
    → ChangesAt index old new → length new ≡ length old
    → (seats : List Seat) (values : List MemberValue) → AreMembers seats values old → AreMembers seats (one_stopped seats index why values) new
one-stopped index why old new within member others count seats values are = record {
  count = count ∙ are.count;
  values_count = each-length seats values (stopping index why);
  each = λ k inside.
      subst (λ (v : MemberValue). HoldsAt (IsMemberOf (seat_at seats k) v) new k) (sym (each-at seats values (stopping index why) k new_member inside))
      (each_on k inside (k == index) refl);
}
  where
    each_on : (k : ℕ) → k < length seats → (b : Bool) → (k == index) ≡ b → HoldsAt (IsMemberOf (seat_at seats k) (stopped_if (k == index) why (member_at values k))) new k
    each_on k inside true e =
        let same : k ≡ index = grind (arith, nat_tests) in
        let was : HoldsAt (IsMemberOf (seat_at seats k) (member_at values k)) old index = subst (λ (j : ℕ). HoldsAt (IsMemberOf (seat_at seats k) (member_at values k)) old j) same (are.each k inside) in
        let now : HoldsAt (IsMemberOf (seat_at seats k) (stopped why (member_at values k))) new index = member (seat_at seats k) (member_at values k) was in
        subst (λ (b : Bool). HoldsAt (IsMemberOf (seat_at seats k) (stopped_if b why (member_at values k))) new k) (sym e)
        (subst (λ (j : ℕ). HoldsAt (IsMemberOf (seat_at seats k) (stopped why (member_at values k))) new j) (sym same) now)
    each_on k inside false e =
        let other : k ≢ index = λ same. absurd (grind (arith, nat_tests, e, same)) in
        subst (λ (b : Bool). HoldsAt (IsMemberOf (seat_at seats k) (stopped_if b why (member_at values k))) new k) (sym e)
        (stays_at (IsMemberOf (seat_at seats k) (member_at values k)) index k old new other others (are.each k inside))

pub readers-stopped : (index : ℕ) (old new : List Member) → index < length old → ((meta : MetaData) → HoldsAt (HoldsRowsOf meta) old index → HoldsAt (HoldsRowsOf meta) new index)
    → ChangesAt index old new
    → length new ≡ length old → (seats : List Seat) → AreReaders seats old → AreReaders seats new
readers-stopped index old new within reader others count seats are =
    let inside : index < length seats = omega (arith, within, are.count) in
    readers-change seats index old new count others (reader (seat_at seats index).meta (are.each index inside)) are
