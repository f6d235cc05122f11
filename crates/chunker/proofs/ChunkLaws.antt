-- The joiner against Chunks: what one more chunk does to the chunks of the greatest place.
use Rattle.std.proofs.Common.{◌≡◌, refl, sym, ap, ◌∙◌, arith, ℕ, zero, suc, ◌+◌, ◌<◌, ◌≤◌, Bool, true, false, not, ◌&&◌, ◌||◌, cond, List, [], ◌∷◌, map, length, Option, Some, None, subst}
use Rattle.std.specs.Prelude.{nat_lt, nat_le, ◌==◌, max, find, filter, option_map, is_some, if◌then◌else◌}
use Rattle.std.specs.Option.{option_map_or}
use Rattle.std.specs.List.{list_all, list_any, range_with_len}
use Rattle.std.proofs.Math.Path.{fun_ext}
use Rattle.std.proofs.lemmas.Bool.Decides.{nat_tests}
use Rattle.seq_number.specs.Numbers.{number_of_place, newer, greatest}
use Rattle.seq_number.proofs.NumberLaws.{newer-near}
use Rattle.chunker.specs.declared.joiner.Joined.{Joined}
use Rattle.chunker.specs.declared.joiner.Joined.TheVariants.{Whole, Part, Older, TooLong, BadRange, Differs}
use Rattle.chunker.specs.Chunks.{Chunk, is_at, cover, is_laid_at, is_whole_at, is_proper, byte_in, message_of, at_greatest, places}
use Rattle.chunker.specs.Joining.{Joining, empty, laid, current_case, chunk_case, is_laid, is_whole, joined_bytes}
use Rattle.chunker.specs.Joins.{numbered, current_of, is_complete, has_one_total, JoinsTop, JoinsOver, JoinsOneMore, IsNearTo}

-- ---- the chunks at a place

abbrev pub at_place : ℕ → List Chunk → List Chunk
at_place p chunks = filter (λ (c : Chunk). c.place == p) chunks

same_place : (p : ℕ) → (p == p) ≡ true
same_place p = grind (arith, nat_tests)

is_place : (n p : ℕ) → (n == p) ≡ true → n ≡ p
is_place n p e = grind (arith, nat_tests)

find_same : (x y : Bool) (c : Chunk) (a b : Option Chunk) → x ≡ y → a ≡ option_map numbered b
    → cond x (Some (numbered c)) a ≡ option_map numbered (cond y (Some c) b)
find_same x true c a b e ih = rw e refl
find_same x false c a b e ih = rw e ih

find_on : (t : Bool) (p o : ℕ) (c : Chunk) (chunks : List Chunk) → (c.place == p) ≡ t
    → find (is_at (number_of_place p) o) (map numbered (at_place p chunks)) ≡ option_map numbered (find (is_at p o) chunks)
    → find (is_at (number_of_place p) o) (map numbered (cond t (c ∷ at_place p chunks) (at_place p chunks))) ≡ option_map numbered (find (is_at p o) (c ∷ chunks))
find_on true p o c chunks e ih =
    let same : (number_of_place c.place == number_of_place p) ≡ (c.place == p) = ap (λ (n : ℕ). number_of_place n == number_of_place p) (is_place c.place p e) ∙ same_place (number_of_place p) ∙ sym e in
    find_same (is_at (number_of_place p) o (numbered c)) (is_at p o c) c _ _ (ap (λ (b : Bool). b && nat_le c.offset o && nat_lt o (c.offset + length c.bytes)) same) ih
find_on false p o c chunks e ih = rw e ih

-- what is found among the chunks of a place, in 16 bits, is what is found among all
find-numbered : (p o : ℕ) (chunks : List Chunk) → find (is_at (number_of_place p) o) (map numbered (at_place p chunks)) ≡ option_map numbered (find (is_at p o) chunks)
find-numbered p o [] = refl
find-numbered p o (c ∷ chunks) = find_on (c.place == p) p o c chunks refl (find-numbered p o chunks)

find_kept : (t : Bool) (p o : ℕ) (c : Chunk) (chunks : List Chunk) → (c.place == p) ≡ t
    → find (is_at p o) (at_place p chunks) ≡ find (is_at p o) chunks
    → find (is_at p o) (cond t (c ∷ at_place p chunks) (at_place p chunks)) ≡ find (is_at p o) (c ∷ chunks)
find_kept true p o c chunks e ih = ap (λ (r : Option Chunk). cond (is_at p o c) (Some c) r) ih
find_kept false p o c chunks e ih = rw e ih

find-at_place : (p o : ℕ) (chunks : List Chunk) → find (is_at p o) (at_place p chunks) ≡ find (is_at p o) chunks
find-at_place p o [] = refl
find-at_place p o (c ∷ chunks) = find_kept (c.place == p) p o c chunks refl (find-at_place p o chunks)

any_step : (b : Bool) (c : Chunk) (r : Option Chunk) (a : Bool) → a ≡ is_some r → (b || a) ≡ is_some (cond b (Some c) r)
any_step true c r a e = refl
any_step false c r a e = e

any-find : (test : Chunk → Bool) (chunks : List Chunk) → list_any test chunks ≡ is_some (find test chunks)
any-find test [] = refl
any-find test (c ∷ chunks) = any_step (test c) c (find test chunks) (list_any test chunks) (any-find test chunks)

some_map : (o : Option Chunk) → is_some (option_map numbered o) ≡ is_some o
some_map None = refl
some_map (Some c) = refl

byte_map : (n : ℕ) (o : Option Chunk) → byte_in n (option_map numbered o) ≡ byte_in n o
byte_map n None = refl
byte_map n (Some c) = refl

pub cover-numbered : (p t : ℕ) (chunks : List Chunk) → cover (map numbered (at_place p chunks)) (number_of_place p) t ≡ cover chunks p t
cover-numbered p t chunks =
    let same : (λ (o : ℕ). list_any (is_at (number_of_place p) o) (map numbered (at_place p chunks))) ≡ (λ (o : ℕ). list_any (is_at p o) chunks) =
    fun_ext (λ (o : ℕ). any-find (is_at (number_of_place p) o) (map numbered (at_place p chunks)) ∙ ap (λ (r : Option Chunk). is_some r) (find-numbered p o chunks)
    ∙ some_map (find (is_at p o) chunks) ∙ sym (any-find (is_at p o) chunks)) in
    ap (λ (f : ℕ → Bool). list_all f (range_with_len 0 t)) same

pub cover-at_place : (p t : ℕ) (chunks : List Chunk) → cover (at_place p chunks) p t ≡ cover chunks p t
cover-at_place p t chunks =
    let same : (λ (o : ℕ). list_any (is_at p o) (at_place p chunks)) ≡ (λ (o : ℕ). list_any (is_at p o) chunks) =
    fun_ext (λ (o : ℕ). any-find (is_at p o) (at_place p chunks) ∙ ap (λ (r : Option Chunk). is_some r) (find-at_place p o chunks) ∙ sym (any-find (is_at p o) chunks)) in
    ap (λ (f : ℕ → Bool). list_all f (range_with_len 0 t)) same

pub message-numbered : (p t : ℕ) (chunks : List Chunk) → message_of (map numbered (at_place p chunks)) (number_of_place p) t ≡ message_of chunks p t
message-numbered p t chunks =
    let same : (λ (o : ℕ). byte_in o (find (is_at (number_of_place p) o) (map numbered (at_place p chunks)))) ≡ (λ (o : ℕ). byte_in o (find (is_at p o) chunks)) =
    fun_ext (λ (o : ℕ). ap (byte_in o) (find-numbered p o chunks) ∙ byte_map o (find (is_at p o) chunks)) in
    ap (λ (f : ℕ → ℕ). map f (range_with_len 0 t)) same

-- ---- covers

all_more : (f h : ℕ → Bool) (xs : List ℕ) → ((o : ℕ) → f o ≡ true → h o ≡ true) → list_all f xs ≡ true → list_all h xs ≡ true
all_more f h [] more e = refl
all_more f h (x ∷ xs) more e = all_on (f x) refl e (λ (rest : list_all f xs ≡ true). all_more f h xs more rest)
  where
    all_on : (b : Bool) → f x ≡ b → (b && list_all f xs) ≡ true → (list_all f xs ≡ true → list_all h xs ≡ true) → (h x && list_all h xs) ≡ true
    all_on true is e ih = rw (more x is) (ih e)
    all_on false is e ih = absurd (grind arith)

or_more : (a b : Bool) → b ≡ true → (a || b) ≡ true
or_more true b e = refl
or_more false b e = e

-- one more chunk leaves what is covered
pub cover-more : (c : Chunk) (chunks : List Chunk) (p t : ℕ) → cover chunks p t ≡ true → cover (c ∷ chunks) p t ≡ true
cover-more c chunks p t e =
    all_more (λ (o : ℕ). list_any (is_at p o) chunks) (λ (o : ℕ). list_any (is_at p o) (c ∷ chunks)) (range_with_len 0 t) (λ (o : ℕ) (is : list_any (is_at p o) chunks ≡ true). or_more (is_at p o c) (list_any (is_at p o) chunks) is) e

-- no chunk covers no message but the empty one
pub cover_none : (p t : ℕ) → 0 < t → cover [] p t ≡ false
cover_none p zero a = absurd (omega arith)
cover_none p (suc t) a = refl

-- ---- the greatest place

all-le : (chunks : List Chunk) (p : ℕ) → list_all (λ (c : Chunk). nat_le c.place p) chunks ≡ nat_le (greatest (map (λ (c : Chunk). c.place) chunks)) p
all-le [] p = grind (arith, nat_tests)
all-le (c ∷ chunks) p = ap (λ (b : Bool). nat_le c.place p && b) (all-le chunks p) ∙ max_le c.place (greatest (map (λ (c : Chunk). c.place) chunks)) p
  where
    max_le : (x g p : ℕ) → (nat_le x p && nat_le g p) ≡ nat_le (max x g) p
    max_le x g p = grind (arith, nat_tests)

-- above the greatest place there is no chunk
none_above : (p : ℕ) (chunks : List Chunk) → greatest (map (λ (c : Chunk). c.place) chunks) < p → at_place p chunks ≡ []
none_above p [] a = refl
none_above p (c ∷ chunks) a =
    let other : (c.place == p) ≡ false = grind (arith, nat_tests) in
    let below : greatest (map (λ (c : Chunk). c.place) chunks) < p = omega arith in
    rw other (none_above p chunks below)

at_head : (c : Chunk) (chunks : List Chunk) → at_place c.place (c ∷ chunks) ≡ c ∷ at_place c.place chunks
at_head c chunks = rw (same_place c.place) refl

-- a chunk at or above the greatest place is the first of the greatest place's
pub at_greatest-front : (c : Chunk) (chunks : List Chunk) → greatest (map (λ (c : Chunk). c.place) chunks) ≤ c.place → at_greatest (c ∷ chunks) ≡ c ∷ at_place c.place chunks
at_greatest-front c chunks a =
    let e : max c.place (greatest (map (λ (c : Chunk). c.place) chunks)) ≡ c.place = omega arith in
    ap (λ (g : ℕ). at_place g (c ∷ chunks)) e ∙ at_head c chunks

-- one below it leaves them
pub at_greatest-behind : (c : Chunk) (chunks : List Chunk) → c.place < greatest (map (λ (c : Chunk). c.place) chunks) → at_greatest (c ∷ chunks) ≡ at_greatest chunks
at_greatest-behind c chunks a =
    let g = greatest (map (λ (c : Chunk). c.place) chunks) in
    let e : max c.place g ≡ g = omega arith in
    let other : (c.place == g) ≡ false = grind (arith, nat_tests) in
    ap (λ (g : ℕ). at_place g (c ∷ chunks)) e ∙ rw other refl

-- the greatest place has a chunk
pub record HasTop (chunks : List Chunk) : Type 0 where
  pub first : Chunk
  pub more : List Chunk
  pub is : at_greatest chunks ≡ first ∷ more
  pub place : first.place ≡ greatest (map (λ (c : Chunk). c.place) chunks)

pub top_of : (c : Chunk) (chunks : List Chunk) → HasTop (c ∷ chunks)
top_of c [] = record {
  first = c;
  more = [];
  is = at_greatest-front c [] (omega arith);
  place = omega arith;
}
top_of c (d ∷ chunks) = top_on (nat_lt c.place (greatest (map (λ (c : Chunk). c.place) (d ∷ chunks)))) refl (top_of d chunks)
  where
    top_on : (b : Bool) → nat_lt c.place (greatest (map (λ (c : Chunk). c.place) (d ∷ chunks))) ≡ b → HasTop (d ∷ chunks) → HasTop (c ∷ d ∷ chunks)
    top_on true e h =
        let a : c.place < greatest (map (λ (c : Chunk). c.place) (d ∷ chunks)) = grind (arith, nat_tests) in
        record { first = h.first; more = h.more; is = at_greatest-behind c (d ∷ chunks) a ∙ h.is; place = omega (arith, h.place, a) }
    top_on false e h =
        let a : greatest (map (λ (c : Chunk). c.place) (d ∷ chunks)) ≤ c.place = grind (arith, nat_tests) in
        record { first = c; more = at_place c.place (d ∷ chunks); is = at_greatest-front c (d ∷ chunks) a; place = omega (arith, a) }

-- ---- totals

totals_same : (p : ℕ) (g : ℕ) (test : Chunk → Bool) (chunks : List Chunk) → p ≡ g
    → list_all (λ (c : Chunk). not (c.place == p) || test c) (at_place g chunks) ≡ list_all test (at_place g chunks)
totals_same p g test [] e = refl
totals_same p g test (c ∷ chunks) e = same_on (c.place == g) refl (totals_same p g test chunks e)
  where
    same_on : (b : Bool) → (c.place == g) ≡ b
        → list_all (λ (c : Chunk). not (c.place == p) || test c) (at_place g chunks) ≡ list_all test (at_place g chunks)
        → list_all (λ (c : Chunk). not (c.place == p) || test c) (cond b (c ∷ at_place g chunks) (at_place g chunks)) ≡ list_all test (cond b (c ∷ at_place g chunks) (at_place g chunks))
    same_on true is ih = let there : (c.place == p) ≡ true = grind (arith, nat_tests) in rw there (ap (λ (b : Bool). test c && b) ih)
    same_on false is ih = ih

totals_other : (p : ℕ) (g : ℕ) (test : Chunk → Bool) (chunks : List Chunk) → (p == g) ≡ false
    → list_all (λ (c : Chunk). not (c.place == p) || test c) (at_place g chunks) ≡ true
totals_other p g test [] e = refl
totals_other p g test (c ∷ chunks) e = other_on (c.place == g) refl (totals_other p g test chunks e)
  where
    other_on : (b : Bool) → (c.place == g) ≡ b
        → list_all (λ (c : Chunk). not (c.place == p) || test c) (at_place g chunks) ≡ true
        → list_all (λ (c : Chunk). not (c.place == p) || test c) (cond b (c ∷ at_place g chunks) (at_place g chunks)) ≡ true
    other_on true is ih = let elsewhere : (c.place == p) ≡ false = grind (arith, nat_tests) in rw elsewhere ih
    other_on false is ih = ih

-- chunks of one total have this total where the first has it
one_total : (t : ℕ) (h : Chunk) (more : List Chunk) → has_one_total (h ∷ more) ≡ true → list_all (λ (c : Chunk). c.total == t) (h ∷ more) ≡ (h.total == t)
one_total t h more e = total_on (h.total == t) refl
  where
    total_on : (b : Bool) → (h.total == t) ≡ b → (b && list_all (λ (c : Chunk). c.total == t) more) ≡ b
    total_on true is = let same : h.total ≡ t = grind (arith, nat_tests) in subst (λ (t : ℕ). list_all (λ (c : Chunk). c.total == t) more ≡ true) same e
    total_on false is = refl

-- ---- one more chunk

abbrev has_size : Chunk → Bool
has_size c = nat_lt 0 (length c.bytes) && nat_le (c.offset + length c.bytes) c.total && nat_le c.total 4096

abbrev agrees_in_total : List Chunk → Chunk → Bool
agrees_in_total chunks c = list_all (λ (o : Chunk). not (o.place == c.place) || (o.total == c.total)) (at_greatest chunks)

-- what is kept and answered then
abbrev pub After : List Chunk → Chunk → Joining × Joined → Type 0
After chunks c p = JoinsOneMore chunks c p.0 p.1

counts : (chunks : List Chunk) (c : Chunk) (new : Joining) (answer : Joined) → is_proper chunks c ≡ true → is_laid answer ≡ is_laid_at chunks c → is_whole answer ≡ is_whole_at chunks c → JoinsOver (c ∷ chunks) new
    → (is_whole answer ≡ true → joined_bytes new ≡ message_of (c ∷ chunks) c.place c.total) → JoinsOneMore chunks c new answer
counts chunks c new answer proper laid whole k bytes = record {
  joins = subst (λ (b : Bool). JoinsOver (if b then c ∷ chunks else chunks) new) (sym proper) k;
  laid = laid ∙ sym (ap (λ (b : Bool). b && is_laid_at chunks c) proper);
  whole = whole ∙ sym (ap (λ (b : Bool). b && is_whole_at chunks c) proper);
  bytes = bytes;
}

passed : (chunks : List Chunk) (c : Chunk) (new : Joining) (answer : Joined) → is_proper chunks c ≡ false → is_laid answer ≡ false → is_whole answer ≡ false → JoinsOver chunks new → JoinsOneMore chunks c new answer
passed chunks c new answer proper left part k = record {
  joins = subst (λ (b : Bool). JoinsOver (if b then c ∷ chunks else chunks) new) (sym proper) k;
  laid = left ∙ sym (ap (λ (b : Bool). b && is_laid_at chunks c) proper);
  whole = part ∙ sym (ap (λ (b : Bool). b && is_whole_at chunks c) proper);
  bytes = λ whole. absurd (let wrong : false ≡ true = sym part ∙ whole in cc);
}

-- a chunk of the greatest place is laid in
laid_joins : (chunks : List Chunk) (c : Chunk) (j : Joining) → greatest (places chunks) ≤ c.place
    → j.chunks ≡ map numbered (at_place c.place chunks) → list_all (λ (o : Chunk). o.total == c.total) (at_place c.place chunks) ≡ true
    → JoinsOver (c ∷ chunks) (laid j (numbered c)).0
laid_joins chunks c j a e total =
    let top = at_place c.place chunks in
    let all : at_place c.place (c ∷ chunks) ≡ c ∷ top = at_head c chunks in
    let in_bits : cover (map numbered (c ∷ top)) (number_of_place c.place) c.total ≡ cover (c ∷ chunks) c.place c.total =
    subst (λ (l : List Chunk). cover (map numbered l) (number_of_place c.place) c.total ≡ cover (c ∷ chunks) c.place c.total) all (cover-numbered c.place c.total (c ∷ chunks)) in
    let plain : cover (c ∷ top) c.place c.total ≡ cover (c ∷ chunks) c.place c.total =
    subst (λ (l : List Chunk). cover l c.place c.total ≡ cover (c ∷ chunks) c.place c.total) all (cover-at_place c.place c.total (c ∷ chunks)) in
    let whole : cover (numbered c ∷ j.chunks) (number_of_place c.place) c.total ≡ cover (c ∷ top) c.place c.total =
    ap (λ (l : List Chunk). cover (numbered c ∷ l) (number_of_place c.place) c.total) e ∙ in_bits ∙ sym plain in
    let joins : JoinsTop (c ∷ top) (laid j (numbered c)).0 = record {
      current = refl;
      whole = whole;
      laid_in = λ _. ap (λ (l : List Chunk). numbered c ∷ l) e;
      total = total;
    } in
    subst (λ (l : List Chunk). JoinsTop l (laid j (numbered c)).0) (sym (at_greatest-front c chunks a)) joins

whole_if : (w : Bool) (total : ℕ) → is_whole (if w then Whole total else Part) ≡ w
whole_if true total = refl
whole_if false total = refl

pub laid_if : (w : Bool) (total : ℕ) → is_laid (if w then Whole total else Part) ≡ true
laid_if true total = refl
laid_if false total = refl

laid_after : (chunks : List Chunk) (c : Chunk) (j : Joining) → greatest (places chunks) ≤ c.place
    → j.chunks ≡ map numbered (at_place c.place chunks) → list_all (λ (o : Chunk). o.total == c.total) (at_place c.place chunks) ≡ true
    → cover chunks c.place c.total ≡ false → is_proper chunks c ≡ true → After chunks c (laid j (numbered c))
laid_after chunks c j a e total uncovered proper =
    let top = at_place c.place chunks in
    let all : at_place c.place (c ∷ chunks) ≡ c ∷ top = at_head c chunks in
    let covered : cover (numbered c ∷ j.chunks) (number_of_place c.place) c.total ≡ cover (c ∷ chunks) c.place c.total =
    ap (λ (l : List Chunk). cover (numbered c ∷ l) (number_of_place c.place) c.total) e
    ∙ subst (λ (l : List Chunk). cover (map numbered l) (number_of_place c.place) c.total ≡ cover (c ∷ chunks) c.place c.total) all (cover-numbered c.place c.total (c ∷ chunks)) in
    let bytes : message_of (numbered c ∷ j.chunks) (number_of_place c.place) c.total ≡ message_of (c ∷ chunks) c.place c.total =
    ap (λ (l : List Chunk). message_of (numbered c ∷ l) (number_of_place c.place) c.total) e
    ∙ subst (λ (l : List Chunk). message_of (map numbered l) (number_of_place c.place) c.total ≡ message_of (c ∷ chunks) c.place c.total) all (message-numbered c.place c.total (c ∷ chunks)) in
    let above : list_all (λ (o : Chunk). nat_le o.place c.place) chunks ≡ true = all-le chunks c.place ∙ grind (arith, nat_tests, a) in
    let whole : is_whole_at chunks c ≡ cover (c ∷ chunks) c.place c.total = rw (above, uncovered) (and_true (cover (c ∷ chunks) c.place c.total)) in
    let answer = whole_if (cover (numbered c ∷ j.chunks) (number_of_place c.place) c.total) c.total in
    counts chunks c (laid j (numbered c)).0 (laid j (numbered c)).1 proper (laid_if (cover (numbered c ∷ j.chunks) (number_of_place c.place) c.total) c.total ∙ sym (rw (above, uncovered) refl)) (answer ∙ covered ∙ sym whole) (laid_joins chunks c j a e total)
    (λ is. ap (λ (b : Bool). if b then message_of (numbered c ∷ j.chunks) (number_of_place c.place) c.total else []) (sym answer ∙ is) ∙ bytes)
  where
    and_true : (b : Bool) → (b && true) ≡ b
    and_true true = refl
    and_true false = refl

-- ---- the cases of a chunk

no_size : (l s t : ℕ) (b : Bool) → (not (nat_lt 0 l) || nat_lt t s) ≡ true → (nat_lt 0 l && nat_le s t && nat_le t 4096 && b) ≡ false
no_size l s t b e = grind (arith, nat_tests)

too_long : (l s t : ℕ) (b : Bool) → nat_lt 4096 t ≡ true → (nat_lt 0 l && nat_le s t && nat_le t 4096 && b) ≡ false
too_long l s t b e = grind (arith, nat_tests)

sized : (l s t : ℕ) (b : Bool) → (not (nat_lt 0 l) || nat_lt t s) ≡ false → nat_lt 4096 t ≡ false → (nat_lt 0 l && nat_le s t && nat_le t 4096 && b) ≡ b
sized l s t b e f = grind (arith, nat_tests)

has_total : (l o t : ℕ) → (not (nat_lt 0 l) || nat_lt t (o + l)) ≡ false → 0 < t
has_total l o t e = grind (arith, nat_tests)

-- a chunk more of a message that is whole
again : (c h : Chunk) (more : List Chunk) (j : Joining) → c.place ≡ h.place → c.total ≡ h.total → is_complete (h ∷ more) ≡ true → JoinsTop (h ∷ more) j → JoinsTop (c ∷ h ∷ more) j
again c h more j place total complete k =
    let still : cover (h ∷ more) c.place c.total ≡ true = ap (λ (p : ℕ). cover (h ∷ more) p c.total) place ∙ ap (λ (t : ℕ). cover (h ∷ more) h.place t) total ∙ complete in
    let whole : is_complete (c ∷ h ∷ more) ≡ true = cover-more c (h ∷ more) c.place c.total still in
    let same : (h.total == c.total) ≡ true = grind (arith, nat_tests, total) in
    record {
      current = k.current ∙ rw (place, total) refl;
      whole = k.whole ∙ complete ∙ sym whole;
      laid_in = λ no. let wrong : true ≡ false = sym whole ∙ no in absurd (grind arith);
      total = one_total c.total h more k.total ∙ same;
    }

covered_at : (chunks : List Chunk) (c h : Chunk) (more : List Chunk) → at_place c.place chunks ≡ h ∷ more → c.place ≡ h.place → c.total ≡ h.total
    → cover chunks c.place c.total ≡ is_complete (h ∷ more)
covered_at chunks c h more is place total =
    sym (cover-at_place c.place c.total chunks) ∙ ap (λ (l : List Chunk). cover l c.place c.total) is ∙ ap (λ (p : ℕ). cover (h ∷ more) p c.total) place ∙ ap (λ (t : ℕ). cover (h ∷ more) h.place t) total

whole_no : (chunks : List Chunk) (c : Chunk) → cover chunks c.place c.total ≡ true → is_whole_at chunks c ≡ false
whole_no chunks c e = rw e (and_false (list_all (λ (o : Chunk). nat_le o.place c.place) chunks) (cover (c ∷ chunks) c.place c.total))
  where
    and_false : (a b : Bool) → (a && b && false) ≡ false
    and_false true true = refl
    and_false true false = refl
    and_false false b = refl

laid_no : (chunks : List Chunk) (c : Chunk) → cover chunks c.place c.total ≡ true → is_laid_at chunks c ≡ false
laid_no chunks c e = rw e (and_false (list_all (λ (o : Chunk). nat_le o.place c.place) chunks))
  where
    and_false : (a : Bool) → (a && false) ≡ false
    and_false true = refl
    and_false false = refl

laid_behind : (chunks : List Chunk) (c : Chunk) → c.place < greatest (places chunks) → is_laid_at chunks c ≡ false
laid_behind chunks c a =
    let behind : list_all (λ (o : Chunk). nat_le o.place c.place) chunks ≡ false = all-le chunks c.place ∙ grind (arith, nat_tests, a) in
    rw behind refl

whole_behind : (chunks : List Chunk) (c : Chunk) → c.place < greatest (places chunks) → is_whole_at chunks c ≡ false
whole_behind chunks c a =
    let behind : list_all (λ (o : Chunk). nat_le o.place c.place) chunks ≡ false = all-le chunks c.place ∙ grind (arith, nat_tests, a) in
    rw behind refl

-- a chunk of the greatest place: `q` says that the message is whole, `s` that the totals agree
same_case : (q s : Bool) (chunks : List Chunk) (c h : Chunk) (more : List Chunk) (j : Joining) → at_greatest chunks ≡ h ∷ more → at_place c.place chunks ≡ h ∷ more
    → greatest (places chunks) ≡ c.place → c.place ≡ h.place → is_proper chunks c ≡ s → (c.total == h.total) ≡ s → JoinsTop (h ∷ more) j → is_complete (h ∷ more) ≡ q
    → After chunks c (if q then (j, Older) else if not s then (j, Differs h.total c.total) else laid j (numbered c))
same_case true false chunks c h more j top is greatest place proper total k complete = passed chunks c j Older proper refl refl (subst (λ (l : List Chunk). JoinsTop l j) (sym top) k)
same_case false false chunks c h more j top is greatest place proper total k complete = passed chunks c j (Differs h.total c.total) proper refl refl (subst (λ (l : List Chunk). JoinsTop l j) (sym top) k)
same_case true true chunks c h more j top is greatest place proper total k complete =
    let equal : c.total ≡ h.total = grind (arith, nat_tests) in
    let front : at_greatest (c ∷ chunks) ≡ c ∷ h ∷ more = at_greatest-front c chunks (omega (arith, greatest)) ∙ ap (λ (l : List Chunk). c ∷ l) is in
    counts chunks c j Older proper (sym (laid_no chunks c (covered_at chunks c h more is place equal ∙ complete))) (sym (whole_no chunks c (covered_at chunks c h more is place equal ∙ complete)))
    (subst (λ (l : List Chunk). JoinsTop l j) (sym front) (again c h more j place equal complete k)) (λ wrong. absurd (cc wrong))
same_case false true chunks c h more j top is greatest place proper total k complete =
    let equal : c.total ≡ h.total = grind (arith, nat_tests) in
    let same : (h.total == c.total) ≡ true = grind (arith, nat_tests, equal) in
    laid_after chunks c j (omega (arith, greatest)) (k.laid_in complete ∙ ap (λ (l : List Chunk). map numbered l) (sym is))
    (ap (λ (l : List Chunk). list_all (λ (o : Chunk). o.total == c.total) l) is ∙ one_total c.total h more k.total ∙ same)
    (covered_at chunks c h more is place equal ∙ complete) proper

-- one above or below it: `n` says that it is above
other_case : (n : Bool) (chunks : List Chunk) (c : Chunk) (j : Joining) → nat_lt (greatest (places chunks)) c.place ≡ n → (c.place == greatest (places chunks)) ≡ false
    → 0 < c.total → is_proper chunks c ≡ true → JoinsOver chunks j → After chunks c (if n then laid empty (numbered c) else (j, Older))
other_case true chunks c j above other total proper k =
    let a : greatest (places chunks) < c.place = grind (arith, nat_tests) in
    let none = none_above c.place chunks a in
    laid_after chunks c empty (omega (arith, a)) (rw none refl) (rw none refl)
    (sym (cover-at_place c.place c.total chunks) ∙ ap (λ (l : List Chunk). cover l c.place c.total) none ∙ cover_none c.place c.total total) proper
other_case false chunks c j above other total proper k =
    let a : c.place < greatest (places chunks) = grind (arith, nat_tests) in
    counts chunks c j Older proper (sym (laid_behind chunks c a)) (sym (whole_behind chunks c a)) (subst (λ (l : List Chunk). JoinsTop l j) (sym (at_greatest-behind c chunks a)) k) (λ wrong. absurd (cc wrong))

wire_same : (p g : ℕ) → p ≤ g + 16384 → g < p + 49152 → (number_of_place p == number_of_place g) ≡ (p == g)
wire_same p g a b = grind (arith, nat_tests)

abbrev IsClose : ℕ → ℕ → Type 0
IsClose p g = (p ≤ g + 16384) × (g < p + 49152)

-- a chunk where there are some
place_case : (b : Bool) (chunks : List Chunk) (c : Chunk) (j : Joining) (t : HasTop chunks) → (c.place == greatest (places chunks)) ≡ b
    → 0 < c.total → is_proper chunks c ≡ agrees_in_total chunks c → (is_proper chunks c ≡ true → IsClose c.place (greatest (places chunks))) → JoinsOver chunks j
    → After chunks c (current_case j (numbered c) (Some (number_of_place t.first.place, t.first.total)))
place_case true chunks c j t same total proper near k =
    let g = greatest (places chunks) in
    let at : c.place ≡ g = is_place c.place g same in
    let place : c.place ≡ t.first.place = at ∙ sym t.place in
    let joins : JoinsTop (t.first ∷ t.more) j = subst (λ (l : List Chunk). JoinsTop l j) t.is k in
    let is : at_place c.place chunks ≡ t.first ∷ t.more = ap (λ (p : ℕ). at_place p chunks) at ∙ t.is in
    let there : (number_of_place c.place == number_of_place t.first.place) ≡ true = ap (λ (p : ℕ). number_of_place p == number_of_place t.first.place) place ∙ same_place (number_of_place t.first.place) in
    let joined : cover j.chunks (number_of_place t.first.place) t.first.total ≡ is_complete (t.first ∷ t.more) =
    ap (λ (o : Option (ℕ × ℕ)). option_map_or (λ (now : ℕ × ℕ). cover j.chunks now.0 now.1) o false) (sym joins.current) ∙ joins.whole in
    let agree : agrees_in_total chunks c ≡ (c.total == t.first.total) =
    totals_same c.place g (λ (o : Chunk). o.total == c.total) chunks at ∙ ap (λ (l : List Chunk). list_all (λ (o : Chunk). o.total == c.total) l) t.is
    ∙ one_total c.total t.first t.more joins.total ∙ same_total t.first.total c.total in
    rw there (same_case (cover j.chunks (number_of_place t.first.place) t.first.total) (c.total == t.first.total) chunks c t.first t.more j t.is is (sym at) place (proper ∙ agree) refl joins (sym joined))
  where
    same_total : (a b : ℕ) → (a == b) ≡ (b == a)
    same_total a b = grind (arith, nat_tests)
place_case false chunks c j t other total proper near k =
    let g = greatest (places chunks) in
    let is_one : is_proper chunks c ≡ true = proper ∙ totals_other c.place g (λ (o : Chunk). o.total == c.total) chunks other in
    let close = near is_one in
    let elsewhere : (number_of_place c.place == number_of_place t.first.place) ≡ false = ap (λ (p : ℕ). number_of_place c.place == number_of_place p) t.place ∙ wire_same c.place g close.0 close.1 ∙ other in
    let newer_is : newer (number_of_place c.place) (number_of_place t.first.place) ≡ nat_lt g c.place = ap (λ (p : ℕ). newer (number_of_place c.place) (number_of_place p)) t.place ∙ newer-near c.place g close.0 close.1 in
    rw elsewhere (subst (λ (b : Bool). After chunks c (if b then laid empty (numbered c) else (j, Older))) (sym newer_is) (other_case (nat_lt g c.place) chunks c j refl other total is_one k))

chunk_on : (chunks : List Chunk) (c : Chunk) (j : Joining) → 0 < c.total → is_proper chunks c ≡ agrees_in_total chunks c
    → (is_proper chunks c ≡ true → IsNearTo chunks c) → JoinsOver chunks j → After chunks c (current_case j (numbered c) j.current)
chunk_on [] c j total proper near k =
    subst (λ (o : Option (ℕ × ℕ)). After [] c (current_case j (numbered c) o)) (sym k.current) (laid_after [] c empty (omega arith) refl refl (cover_none c.place c.total total) proper)
chunk_on (d ∷ chunks) c j total proper near k =
    let t = top_of d chunks in
    let current : j.current ≡ Some (number_of_place t.first.place, t.first.total) = k.current ∙ ap current_of t.is in
    subst (λ (o : Option (ℕ × ℕ)). After (d ∷ chunks) c (current_case j (numbered c) o)) (sym current)
    (place_case (c.place == greatest (places (d ∷ chunks))) (d ∷ chunks) c j t refl total proper near k)

size_case : (a b : Bool) (chunks : List Chunk) (c : Chunk) (j : Joining) → (not (nat_lt 0 (length c.bytes)) || nat_lt c.total (c.offset + length c.bytes)) ≡ a → nat_lt 4096 c.total ≡ b
    → (is_proper chunks c ≡ true → IsNearTo chunks c) → JoinsOver chunks j
    → After chunks c (if a then (j, BadRange c.offset c.total) else if b then (j, TooLong c.total) else current_case j (numbered c) j.current)
size_case true b chunks c j size long near k = passed chunks c j (BadRange c.offset c.total) (no_size (length c.bytes) (c.offset + length c.bytes) c.total (agrees_in_total chunks c) size) refl refl k
size_case false true chunks c j size long near k = passed chunks c j (TooLong c.total) (too_long (length c.bytes) (c.offset + length c.bytes) c.total (agrees_in_total chunks c) long) refl refl k
size_case false false chunks c j size long near k =
    chunk_on chunks c j (has_total (length c.bytes) c.offset c.total size) (sized (length c.bytes) (c.offset + length c.bytes) c.total (agrees_in_total chunks c) size long) near k

-- one more chunk, whose place is near where it counts
pub joins-chunk : (chunks : List Chunk) (c : Chunk) (j : Joining) → (is_proper chunks c ≡ true → IsNearTo chunks c) → JoinsOver chunks j → After chunks c (chunk_case j (numbered c))
joins-chunk chunks c j near k = size_case _ _ chunks c j refl refl near k
