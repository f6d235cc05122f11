-- What a datagram has brought the readers below an index.
use Rattle.std.proofs.Common.{◌≡◌, refl, sym, ap, ◌∙◌, subst, arith, ℕ, ◌+◌, ◌*◌, ◌<◌, ◌≤◌, Bool, false, List, length, map}
use Rattle.std.specs.Prelude.{slice_index_or}
use Rattle.std.specs.List.{HoldsAt, range_with_len, sum_by}
use Rattle.std.proofs.lemmas.List.FromFn.{sum_by-map-range_with_len_more}
use Rattle.reader_group.specs.declared.member.Member.{Member}
use Rattle.reader_group.specs.declared.tally.Tally.{Tally}
use Rattle.reader_group.specs.Members.{Seat, MemberValue, seat_at}
use Rattle.reader_group.specs.MemberWords.{HoldsRowsOf, IsMemberOf, Tells}
use Rattle.reader_group.specs.declared.receipt.Receipt.{Receipt}
use Rattle.reader_group.specs.Payloads.{Payload}
use Rattle.reader_group.specs.Groups.{AreMembers, AreReaders, ChangesAt, IsTallyOf}
use Rattle.reader_group.specs.Plain.{Fed, fed_by, member_at, each}
use Rattle.reader_group.proofs.Each.{by_seat, ArePartly, partly-none, partly-more, fed_member, readers-change}

-- the sums of what those below this index were given
pub record TalliesBelow (seats : List Seat) (values : List MemberValue) (f : ℕ → Seat → MemberValue → Fed) (i : ℕ) (tally : Tally) : Type 0 where
  pub matched : tally.matched ≡ sum_by (λ (fed : Fed). fed.matched) (map (by_seat seats values f) (range_with_len 0 i))
  pub bad : tally.bad ≡ sum_by (λ (fed : Fed). fed.bad) (map (by_seat seats values f) (range_with_len 0 i))

pub tallies-none : (seats : List Seat) (values : List MemberValue) (f : ℕ → Seat → MemberValue → Fed) (tally : Tally) → tally.matched ≡ 0 → tally.bad ≡ 0
    → TalliesBelow seats values f 0 tally
tallies-none seats values f tally matched bad = record { matched = matched; bad = bad }

pub tallies-more : (seats : List Seat) (values : List MemberValue) (f : ℕ → Seat → MemberValue → Fed) (i : ℕ) (old new fed : Tally)
    → new.matched ≡ old.matched + fed.matched → new.bad ≡ old.bad + fed.bad → Tells (by_seat seats values f i) fed
    → TalliesBelow seats values f i old → TalliesBelow seats values f (i + 1) new
tallies-more seats values f i old new fed matched bad tells h =
    let at : 0 + i ≡ i = omega arith in
    let more = sum_by-map-range_with_len_more (λ (fed : Fed). fed.matched) (by_seat seats values f) 0 i i at in
    let more_bad = sum_by-map-range_with_len_more (λ (fed : Fed). fed.bad) (by_seat seats values f) 0 i i at in
    record { matched = omega (arith, matched, tells.matched, h.matched, more); bad = omega (arith, bad, tells.bad, h.bad, more_bad) }

pub tallies-all : (seats : List Seat) (values : List MemberValue) (f : ℕ → Seat → MemberValue → Fed) (i : ℕ) (tally : Tally) → i ≡ length seats
    → TalliesBelow seats values f i tally → IsTallyOf tally (each seats values f)
tallies-all seats values f i tally all h =
    record {
      matched = h.matched ∙ ap (λ (n : ℕ). sum_by (λ (fed : Fed). fed.matched) (map (by_seat seats values f) (range_with_len 0 n))) all;
      bad = h.bad ∙ ap (λ (n : ℕ). sum_by (λ (fed : Fed). fed.bad) (map (by_seat seats values f) (range_with_len 0 n))) all;
    }

-- ---- the readers of a group

-- what a datagram brings a reader by its index
abbrev pub feeding : Receipt → Bool → List Bool → Payload → ℕ → Seat → MemberValue → Fed
feeding receipt raised on payload k seat value = fed_by seat receipt raised (slice_index_or on k false) payload value

-- the readers below this index have what the datagram brought them, and their parts are counted
pub record FedBelow (seats : List Seat) (f : ℕ → Seat → MemberValue → Fed) (old : List Member) (i : ℕ) (now : List Member) (tally : Tally) : Type 0 where
  pub count : length now ≡ length old
  pub readers : AreReaders seats now
  pub partly : (values : List MemberValue) → AreMembers seats values old → ArePartly seats values (fed_member f) i now
  pub tallies : (values : List MemberValue) → AreMembers seats values old → TalliesBelow seats values f i tally
  pub few : tally.matched ≤ 255 * i
  pub few_bad : tally.bad ≤ 255 * i

pub fed-none : (seats : List Seat) (f : ℕ → Seat → MemberValue → Fed) (old : List Member) (tally : Tally) → AreReaders seats old → tally.matched ≡ 0 → tally.bad ≡ 0
    → FedBelow seats f old 0 old tally
fed-none seats f old tally readers matched bad = record {
  count = refl;
  readers = readers;
  partly = λ values are. partly-none seats values (fed_member f) old are;
  tallies = λ values are. tallies-none seats values f tally matched bad;
  few = omega (arith, matched);
  few_bad = omega (arith, bad);
}

-- one reader more
pub record FeedsOne (g : Seat → MemberValue → Fed) (i : ℕ) (seat : Seat) (before after : List Member) (fed : Tally) : Type 0 where
  pub member : (value : MemberValue) → HoldsAt (IsMemberOf seat value) before i → HoldsAt (IsMemberOf seat (g seat value).member) after i
  pub tally : (value : MemberValue) → HoldsAt (IsMemberOf seat value) before i → Tells (g seat value) fed
  pub reader : HoldsAt (HoldsRowsOf seat.meta) after i
  pub others : ChangesAt i before after
  pub count : length after ≡ length before
  pub matched : fed.matched ≤ 255
  pub bad : fed.bad ≤ 255

pub fed-more : (seats : List Seat) (f : ℕ → Seat → MemberValue → Fed) (old : List Member) (i : ℕ) (seat : Seat) (before after : List Member) (tally new fed : Tally)
    → i < length seats → seat_at seats i ≡ seat → FeedsOne (f i) i seat before after fed
    → new.matched ≡ tally.matched + fed.matched → new.bad ≡ tally.bad + fed.bad
    → FedBelow seats f old i before tally → FedBelow seats f old (i + 1) after new
fed-more seats f old i seat before after tally new fed within is feeds matched bad h =
    let here : FeedsOne (f i) i (seat_at seats i) before after fed = subst (λ (s : Seat). FeedsOne (f i) i s before after fed) (sym is) feeds in
    record {
      count = feeds.count ∙ h.count;
      readers = readers-change seats i before after feeds.count feeds.others here.reader h.readers;
      partly = λ values are.
          let was = (h.partly values are).above i (omega arith) within in
          partly-more seats values (fed_member f) i before after feeds.others (here.member (member_at values i) was) (h.partly values are);
      tallies = λ values are.
          let was = (h.partly values are).above i (omega arith) within in
          tallies-more seats values f i tally new fed matched bad (here.tally (member_at values i) was) (h.tallies values are);
      few = omega (arith, matched, feeds.matched, h.few);
      few_bad = omega (arith, bad, feeds.bad, h.few_bad);
    }
