-- Lists of chunks: near ones are joined as Chunks says, refused ones leave what is kept, and those of a cut give the message once.
use Rattle.std.proofs.Common.{◌≡◌, refl, sym, ap, ◌∙◌, subst, arith, ℕ, ◌+◌, ◌<◌, ◌≤◌, Bool, true, false, not, ◌&&◌, ◌||◌, cond, List, [], ◌∷◌, length, Option, Some, None}
use Rattle.std.specs.Prelude.{nat_le, nat_lt, ◌==◌, filter, if◌then◌else◌}
use Rattle.std.specs.List.{list_all, All, Contains, count_by}
use Rattle.std.proofs.lemmas.Bool.{le-leb, lt-ltb, le-ltb, and_from}
use Rattle.std.proofs.lemmas.Bool.Decides.{nat_tests}
use Rattle.std.proofs.lemmas.List.Elements.{All-head, All-tail, All-weaker, All-contains}
use Rattle.std.proofs.lemmas.List.Sums.{sum_by-cons}
use Rattle.seq_number.specs.Numbers.{number_of_place, newer, greatest, IsNear}
use Rattle.chunker.specs.declared.joiner.Joined.{Joined}
use Rattle.chunker.specs.declared.joiner.Joined.TheVariants.{Older, TooLong, BadRange, Differs}
use Rattle.chunker.specs.Chunks.{Chunk, cuts, cover, is_proper, message_of, at_greatest, places, all_counted}
use Rattle.chunker.specs.Joining.{Joining, empty, laid, current_case, chunk_case, is_laid, is_whole, joined_bytes}
use Rattle.chunker.specs.Joins.{numbered, JoinsOver, IsNearTo, NearChunksJoin, kept_after, answers, IsNewFor, ComesOnce, CutComesOnce, IsCutOf}
use Rattle.chunker.proofs.ChunkLaws.{joins-chunk, laid_if, cover_none, cover-more}
use Rattle.chunker.proofs.CutLaws.{HasSize, cut-of, cut-size, cuts-cover, message-back}

-- ---- a chunk that isn't laid in

tests_left : (p q s n : Bool) (kept : Joining) (chunk : Chunk) (first : ℕ) → is_laid (if p then (if q then (kept, Older) else if not s then (kept, Differs first chunk.total) else laid kept chunk) else if n then laid empty chunk else (kept, Older)).1 ≡ false
    → (if p then (if q then (kept, Older) else if not s then (kept, Differs first chunk.total) else laid kept chunk) else if n then laid empty chunk else (kept, Older)).0 ≡ kept
tests_left true true s n kept chunk first e = refl
tests_left true false false n kept chunk first e = refl
tests_left true false true n kept chunk first e = absurd (let wrong : true ≡ false = sym (laid_if (cover (chunk ∷ kept.chunks) chunk.place chunk.total) chunk.total) ∙ e in cc)
tests_left false q s true kept chunk first e = absurd (let wrong : true ≡ false = sym (laid_if (cover (chunk ∷ []) chunk.place chunk.total) chunk.total) ∙ e in cc)
tests_left false q s false kept chunk first e = refl

current_left : (kept : Joining) (chunk : Chunk) (current : Option (ℕ × ℕ)) → is_laid (current_case kept chunk current).1 ≡ false → (current_case kept chunk current).0 ≡ kept
current_left kept chunk None e = absurd (let wrong : true ≡ false = sym (laid_if (cover (chunk ∷ []) chunk.place chunk.total) chunk.total) ∙ e in cc)
current_left kept chunk (Some now) e = tests_left (chunk.place == now.0) (cover kept.chunks now.0 now.1) (chunk.total == now.1) (newer chunk.place now.0) kept chunk now.1 e

sizes_left : (a b : Bool) (kept : Joining) (chunk : Chunk)
    → is_laid (if a then (kept, BadRange chunk.offset chunk.total) else if b then (kept, TooLong chunk.total) else current_case kept chunk kept.current).1 ≡ false
    → (if a then (kept, BadRange chunk.offset chunk.total) else if b then (kept, TooLong chunk.total) else current_case kept chunk kept.current).0 ≡ kept
sizes_left true b kept chunk e = refl
sizes_left false true kept chunk e = refl
sizes_left false false kept chunk e = current_left kept chunk kept.current e

pub refused-left : (kept : Joining) (chunk : Chunk) → is_laid (chunk_case kept chunk).1 ≡ false → (chunk_case kept chunk).0 ≡ kept
refused-left kept chunk e = sizes_left _ _ kept chunk e

-- ---- near chunks

near_tail : (b : Bool) (chunks : List Chunk) (c : Chunk) → IsNear (places (if b then c ∷ chunks else chunks)) → IsNear (places chunks)
near_tail true [] c h = h
near_tail true (d ∷ chunks) c h = h.2
near_tail false chunks c h = h

near_to : (b : Bool) (chunks : List Chunk) (c : Chunk) → IsNear (places (if b then c ∷ chunks else chunks)) → b ≡ true → IsNearTo chunks c
near_to true [] c h e = tt
near_to true (d ∷ chunks) c h e = (h.0, h.1)
near_to false chunks c h e = absurd (let wrong : false ≡ true = e in cc)

over-none : JoinsOver [] empty
over-none = record {
  current = refl;
  whole = refl;
  laid_in = λ _. refl;
  total = refl;
}

pub near-list : (before : List Chunk) (chunk : Chunk) → NearChunksJoin before chunk
near-list [] chunk near = joins-chunk [] chunk empty (near_to (is_proper [] chunk) [] chunk near) over-none
near-list (c ∷ before) chunk near =
    let chunks = all_counted (c ∷ before) in
    let last = near-list before c (near_tail (is_proper chunks chunk) chunks chunk near) in
    joins-chunk chunks chunk (kept_after empty (c ∷ before)) (near_to (is_proper chunks chunk) chunks chunk near) last.joins

-- ---- chunks of one place and one total

pub record IsOf (place total : ℕ) (c : Chunk) : Type 0 where
  pub place_is : c.place ≡ place
  pub size : HasSize total c

all_in : (test : Chunk → Bool) (place total : ℕ) (chunks : List Chunk) → ((c : Chunk) → IsOf place total c → test c ≡ true) → All (IsOf place total) chunks → list_all test chunks ≡ true
all_in test place total [] each of = refl
all_in test place total (c ∷ chunks) each of =
    and_from (test c) (list_all test chunks) (each c (All-head (IsOf place total) c chunks of)) (all_in test place total chunks each (All-tail (IsOf place total) c chunks of))

filtered : (test keep : Chunk → Bool) (chunks : List Chunk) → list_all test chunks ≡ true → list_all test (filter keep chunks) ≡ true
filtered test keep [] e = refl
filtered test keep (c ∷ chunks) e = filtered_on (keep c) (test c) refl e (filtered test keep chunks)
  where
    filtered_on : (b t : Bool) → test c ≡ t → (t && list_all test chunks) ≡ true → (list_all test chunks ≡ true → list_all test (filter keep chunks) ≡ true)
        → list_all test (cond b (c ∷ filter keep chunks) (filter keep chunks)) ≡ true
    filtered_on true true is e rest = and_from (test c) (list_all test (filter keep chunks)) is (rest e)
    filtered_on false true is e rest = rest e
    filtered_on b false is e rest = absurd (let wrong : false ≡ true = e in cc)

greatest_of : (place total : ℕ) (chunks : List Chunk) → All (IsOf place total) chunks → greatest (places chunks) ≤ place
greatest_of place total [] of = omega arith
greatest_of place total (c ∷ chunks) of =
    omega (arith, (All-head (IsOf place total) c chunks of).place_is, greatest_of place total chunks (All-tail (IsOf place total) c chunks of))

near_one : (place total : ℕ) (chunks : List Chunk) (c : Chunk) → All (IsOf place total) chunks → IsOf place total c → IsNearTo chunks c
near_one place total [] c of is = tt
near_one place total (d ∷ chunks) c of is =
    let first = (All-head (IsOf place total) d chunks of).place_is in
    (omega (arith, first, is.place_is), omega (arith, greatest_of place total (d ∷ chunks) of, is.place_is))

same_totals : (a b c d e : ℕ) → b ≡ e → d ≡ e → (not (a == c) || (b == d)) ≡ true
same_totals a b c d e x y = grind (arith, nat_tests)

proper_one : (place total : ℕ) (chunks : List Chunk) (c : Chunk) → total ≤ 4096 → All (IsOf place total) chunks → IsOf place total c → is_proper chunks c ≡ true
proper_one place total chunks c short of is =
    let totals : list_all (λ (o : Chunk). not (o.place == c.place) || (o.total == c.total)) (at_greatest chunks) ≡ true =
    filtered (λ (o : Chunk). not (o.place == c.place) || (o.total == c.total)) (λ (o : Chunk). o.place == greatest (places chunks)) chunks
    (all_in (λ (o : Chunk). not (o.place == c.place) || (o.total == c.total)) place total chunks (λ o h. same_totals o.place o.total c.place c.total total h.size.total_is is.size.total_is) of) in
    and_from (nat_lt 0 (length c.bytes) && nat_le (c.offset + length c.bytes) c.total && nat_le c.total 4096) _
    (and_from (nat_lt 0 (length c.bytes) && nat_le (c.offset + length c.bytes) c.total) (nat_le c.total 4096)
    (and_from (nat_lt 0 (length c.bytes)) (nat_le (c.offset + length c.bytes) c.total) (lt-ltb 0 (length c.bytes) is.size.some) (le-leb (c.offset + length c.bytes) c.total is.size.within))
    (le-leb c.total 4096 (omega (arith, is.size.total_is, short)))) totals

above_one : (place total : ℕ) (chunks : List Chunk) (c : Chunk) → All (IsOf place total) chunks → IsOf place total c → list_all (λ (o : Chunk). nat_le o.place c.place) chunks ≡ true
above_one place total chunks c of is = all_in (λ (o : Chunk). nat_le o.place c.place) place total chunks (λ o h. le-leb o.place c.place (omega (arith, h.place_is, is.place_is))) of

cover_same : (chunks : List Chunk) (p q t u : ℕ) → p ≡ q → t ≡ u → cover chunks p t ≡ cover chunks q u
cover_same chunks p q t u a b = ap (λ (n : ℕ). cover chunks n t) a ∙ ap (λ (n : ℕ). cover chunks q n) b

-- ---- the chunks of a cut, from an empty joiner

pub record CutState (place : ℕ) (message : List ℕ) (given : List Chunk) (kept : Joining) (answered : List Joined) : Type 0 where
  pub over : JoinsOver given kept
  pub bytes : cover given place (length message) ≡ true → joined_bytes kept ≡ message
  pub times : count_by is_whole answered ≡ cond (cover given place (length message)) 1 0

one_more : (answer : Joined) (answered : List Joined) → count_by is_whole (answer ∷ answered) ≡ cond (is_whole answer) 1 0 + count_by is_whole answered
one_more answer answered = sum_by-cons (λ (a : Joined). cond (is_whole a) 1 0) answer answered

-- one more
step_on : (b d : Bool) (place : ℕ) (message : List ℕ) (given : List Chunk) (c : Chunk) (old new : Joining) (answer : Joined) (answered : List Joined)
    → cover given place (length message) ≡ b → cover (c ∷ given) place (length message) ≡ d
    → JoinsOver (c ∷ given) new → is_whole answer ≡ (d && not b) → (is_laid answer ≡ not b) → (is_laid answer ≡ false → new ≡ old) → (is_whole answer ≡ true → joined_bytes new ≡ message)
    → CutState place message given old answered → CutState place message (c ∷ given) new (answer ∷ answered)
step_on true d place message given c old new answer answered was is over whole laid_is left gives state =
    let still : cover (c ∷ given) place (length message) ≡ true = cover-more c given place (length message) was in
    let none : is_whole answer ≡ false = whole ∙ none_of d in
    record {
      over = over;
      bytes = λ _. ap joined_bytes (left laid_is) ∙ state.bytes was;
      times = one_more answer answered ∙ ap (λ (t : Bool). cond t 1 0 + count_by is_whole answered) none ∙ (let before : count_by is_whole answered ≡ 1 = state.times ∙ ap (λ (t : Bool). cond t 1 0) was in omega (arith, before))
          ∙ sym (ap (λ (t : Bool). cond t 1 0) still);
    }
  where
    none_of : (d : Bool) → (d && false) ≡ false
    none_of true = refl
    none_of false = refl
step_on false true place message given c old new answer answered was is over whole laid_is left gives state = record {
  over = over;
  bytes = λ _. gives whole;
  times = one_more answer answered ∙ ap (λ (t : Bool). cond t 1 0 + count_by is_whole answered) whole ∙ (let before : count_by is_whole answered ≡ 0 = state.times ∙ ap (λ (t : Bool). cond t 1 0) was in omega (arith, before))
      ∙ sym (ap (λ (t : Bool). cond t 1 0) is);
}
step_on false false place message given c old new answer answered was is over whole laid_is left gives state = record {
  over = over;
  bytes = λ e. absurd (let wrong : false ≡ true = sym is ∙ e in cc);
  times = one_more answer answered ∙ ap (λ (t : Bool). cond t 1 0 + count_by is_whole answered) whole ∙ (let before : count_by is_whole answered ≡ 0 = state.times ∙ ap (λ (t : Bool). cond t 1 0) was in omega (arith, before))
      ∙ sym (ap (λ (t : Bool). cond t 1 0) is);
}

parts_whole : (p a x y d b : Bool) → p ≡ true → a ≡ true → x ≡ d → y ≡ b → (p && (a && x && not y)) ≡ (d && not b)
parts_whole p a x y d b ep ea ex ey = rw (ep, ea, ex, ey) refl

parts_laid : (p a y b : Bool) → p ≡ true → a ≡ true → y ≡ b → (p && (a && not y)) ≡ not b
parts_laid p a y b ep ea ey = rw (ep, ea, ey) refl

-- what the law asks of each
abbrev pub IsCutHere : ℕ → List ℕ → Chunk → Type 0
IsCutHere place message c = IsOf place (length message) c × IsCutOf message c

of_each : (place : ℕ) (message : List ℕ) (given : List Chunk) → All (IsCutHere place message) given → All (IsOf place (length message)) given
of_each place message given all = All-weaker (IsCutHere place message) (IsOf place (length message)) (λ c h. h.0) given all

pub cut-state : (place : ℕ) (message : List ℕ) (given : List Chunk) → 1 ≤ length message → length message ≤ 4096 → All (IsCutHere place message) given
    → CutState place message given (kept_after empty given) (answers empty given)
cut-state place message [] some short all = record {
  over = over-none;
  bytes = λ e. absurd (let wrong : false ≡ true = sym (cover_none place (length message) some) ∙ e in cc);
  times = sym (ap (λ (t : Bool). cond t 1 0) (cover_none place (length message) some));
}
cut-state place message (c ∷ given) some short all =
    let n = length message in
    let here : IsCutHere place message c = All-head (IsCutHere place message) c given all in
    let rest = All-tail (IsCutHere place message) c given all in
    let of = of_each place message given rest in
    let state = cut-state place message given some short rest in
    let old = kept_after empty given in
    let proper = proper_one place n given c short of here.0 in
    let more = joins-chunk given c old (λ _. near_one place n given c of here.0) state.over in
    let above = above_one place n given c of here.0 in
    let was = cover_same given c.place place c.total n here.0.place_is here.0.size.total_is in
    let is = cover_same (c ∷ given) c.place place c.total n here.0.place_is here.0.size.total_is in
    let over : JoinsOver (c ∷ given) (kept_after empty (c ∷ given)) = subst (λ (b : Bool). JoinsOver (if b then c ∷ given else given) (kept_after empty (c ∷ given))) proper more.joins in
    let whole = more.whole ∙ parts_whole (is_proper given c) _ _ _ _ _ proper above is was in
    let laid_is = more.laid ∙ parts_laid (is_proper given c) _ _ _ proper above was in
    let gives : is_whole (chunk_case old (numbered c)).1 ≡ true → joined_bytes (kept_after empty (c ∷ given)) ≡ message =
    λ e. more.bytes e ∙ ap (λ (p : ℕ). message_of (c ∷ given) p c.total) here.0.place_is ∙ ap (λ (t : ℕ). message_of (c ∷ given) place t) here.0.size.total_is
    ∙ message-back message place (c ∷ given) (λ o h _. (All-contains (IsCutHere place message) (c ∷ given) o all h).1) (covered_of (cover (c ∷ given) place n) (cover given place n) (sym whole ∙ e)) in
    step_on _ _ place message given c old (kept_after empty (c ∷ given)) (chunk_case old (numbered c)).1 (answers empty given) refl refl over whole laid_is (refused-left old (numbered c)) gives state
  where
    covered_of : (d b : Bool) → (d && not b) ≡ true → d ≡ true
    covered_of true b e = refl
    covered_of false b e = absurd (let wrong : false ≡ true = e in cc)

-- ---- from any joiner to which the message is new

sized_case : (kept : Joining) (c : Chunk) (total : ℕ) → total ≤ 4096 → HasSize total c → chunk_case kept (numbered c) ≡ current_case kept (numbered c) kept.current
sized_case kept c total short size =
    let good : (not (nat_lt 0 (length c.bytes)) || nat_lt c.total (c.offset + length c.bytes)) ≡ false = good_size (length c.bytes) (c.offset + length c.bytes) c.total size.some size.within in
    let brief : nat_lt 4096 c.total ≡ false = le-ltb 4096 c.total (omega (arith, size.total_is, short)) in
    rw (good, brief) refl
  where
    good_size : (l e t : ℕ) → 0 < l → e ≤ t → (not (nat_lt 0 l) || nat_lt t e) ≡ false
    good_size l e t a b = grind (arith, nat_tests)

new_case : (kept : Joining) (chunk : Chunk) (current : Option (ℕ × ℕ)) → IsNewFor current chunk.place → current_case kept chunk current ≡ laid empty chunk
new_case kept chunk None new = refl
new_case kept chunk (Some now) new = let other : (chunk.place == now.0) ≡ false = apart chunk.place now.0 new in rw (other, new) refl
  where
    apart : (a b : ℕ) → newer a b ≡ true → (a == b) ≡ false
    apart a b e = grind (arith, nat_tests)

start_same : (kept : Joining) (c : Chunk) (total : ℕ) → total ≤ 4096 → HasSize total c → IsNewFor kept.current (number_of_place c.place) → chunk_case kept (numbered c) ≡ chunk_case empty (numbered c)
start_same kept c total short size new = sized_case kept c total short size ∙ new_case kept (numbered c) kept.current new ∙ sym (sized_case empty c total short size)

pub record StartsSame (kept : Joining) (given : List Chunk) : Type 0 where
  pub kept_is : kept_after kept given ≡ kept_after empty given
  pub answers_are : answers kept given ≡ answers empty given

starts-same : (kept : Joining) (place total : ℕ) (c : Chunk) (given : List Chunk) → total ≤ 4096 → IsNewFor kept.current (number_of_place place) → All (IsOf place total) (c ∷ given) → StartsSame kept (c ∷ given)
starts-same kept place total c [] short new of =
    let here = All-head (IsOf place total) c [] of in
    let same = start_same kept c total short here.size (subst (λ (p : ℕ). IsNewFor kept.current (number_of_place p)) (sym here.place_is) new) in
    record { kept_is = ap (λ (p : Joining × Joined). p.0) same; answers_are = ap (λ (p : Joining × Joined). p.1 ∷ []) same }
starts-same kept place total c (d ∷ given) short new of =
    let rest = starts-same kept place total d given short new (All-tail (IsOf place total) c (d ∷ given) of) in
    record {
      kept_is = ap (λ (k : Joining). (chunk_case k (numbered c)).0) rest.kept_is;
      answers_are = ap (λ (k : Joining). (chunk_case k (numbered c)).1 ∷ answers kept (d ∷ given)) rest.kept_is
          ∙ ap (λ (l : List Joined). (chunk_case (kept_after empty (d ∷ given)) (numbered c)).1 ∷ l) rest.answers_are;
    }

comes_once : (place : ℕ) (message : List ℕ) (kept : Joining) (given : List Chunk) → 1 ≤ length message → length message ≤ 4096 → IsNewFor kept.current (number_of_place place)
    → cover given place (length message) ≡ true → All (IsCutHere place message) given → ComesOnce message (kept_after kept given) (answers kept given)
comes_once place message kept [] some short new covered all = absurd (let wrong : false ≡ true = sym (cover_none place (length message) some) ∙ covered in cc)
comes_once place message kept (c ∷ given) some short new covered all =
    let state = cut-state place message (c ∷ given) some short all in
    let same = starts-same kept place (length message) c given short new (of_each place message (c ∷ given) all) in
    record {
      once = ap (count_by is_whole) same.answers_are ∙ state.times ∙ ap (λ (t : Bool). cond t 1 0) covered;
      bytes = ap joined_bytes same.kept_is ∙ state.bytes covered;
    }

pub cut-once : (room place : ℕ) (message : List ℕ) (kept : Joining) (given : List Chunk) → CutComesOnce room place message kept given
cut-once room place message kept given has_room some short new cut =
    comes_once place message kept given some short new (cuts-cover room place message given has_room cut.each)
    (All-weaker (Contains (cuts room place message)) (IsCutHere place message)
    (λ c h. let of = cut-of room place message c h in (record { place_is = of.0; size = cut-size room place message c has_room some h }, of.1)) given cut.cut_from_it)
