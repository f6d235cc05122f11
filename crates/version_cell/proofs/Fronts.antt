-- The fields of a pass after each step.
use Rattle.std.proofs.Common.{◌≡◌, ℕ, zero, suc, ◌+◌, ◌<◌, ◌≤◌, true, false, List, [], ◌∷◌, ◌++◌, length, take, drop, zero-le, refl, sym, ap, ◌∙◌, subst, arith, length-append, add-one, nat_eq, true≢false}
use Rattle.std.specs.Prelude.{Some, None, if◌then◌else◌, max, sum, slice_index, slice_range}
use Rattle.std.specs.List.{All}
use Rattle.std.proofs.lemmas.List.{append_cancel_right, nil_from_length, take_all}
use Rattle.std.proofs.lemmas.List.Elements.{All-nil, All-tail, All-head, All-push, All-weaker}
use Rattle.std.proofs.lemmas.List.Sums.{sum_by_more}
use Rattle.crossbeam_utils.specs.Seq.{cell_view, IsSamePass}
use Rattle.version_cell.specs.declared.pass.Pass.TheInside.{Inside}
use Rattle.version_cell.specs.declared.rule.Entry.{Entry}
use Rattle.version_cell.specs.declared.rule.View.{View}
use Rattle.row_words.specs.Shapes.{BelongsTo}
use Rattle.version_cell.specs.Histories.{StartsWith, entry, last_words, longer, opening_words, own, row_after}
use Rattle.version_cell.specs.Terms.{IsEntry, IsLawful, quota, shape_in}
use Rattle.version_cell.specs.Views.{blank, fresh, joined, view}
use Rattle.version_cell.specs.Rule.{Kept, spell}
use Rattle.version_cell.specs.Steps.{Closes, Reads, Tries}
use Rattle.version_cell.specs.Front.{IsFront, known_by, terms_in}
use Rattle.version_cell.specs.Passes.{Adds, HasLeft, Joins, SeesMore}
use Rattle.version_cell.proofs.Logs.{total, total_le, length_by_author, whole, own-push, last_words-push, own_between, longer_is, longer_keeps}
use Rattle.crossbeam_utils.specs.Register.{Turns}
use Rattle.version_cell.proofs.Keeps.{tries, within_after}
use native.Mathlib.Decide.{ℕ_discrete, dec_le}
use lib.Pointwise.{pointwise, bytes_decides}
use Rattle.version_cell.proofs.Spellings.{equal_parts, row_of_spell}

opening_wide : length opening_words ≡ 125
unfolding opening_words
opening_wide = refl

last_words_wide : (terms : List ℕ) (row : List ℕ) (log : List Entry) → length row ≡ 125 → All (IsEntry 8 terms) log → length (last_words row log) ≡ 125
last_words_wide terms row [] wide h = wide
last_words_wide terms row (e ∷ log) wide h = last_words_wide terms e.row log (All-head (IsEntry 8 terms) e log h).row.whole (All-tail (IsEntry 8 terms) e log h)

pub row_wide : (terms : List ℕ) (log : List Entry) → IsLawful terms log → length (row_after log) ≡ 125
row_wide terms log h = last_words_wide terms opening_words log opening_wide h.entries

total_is_sum : (n : ℕ) (xs : List ℕ) → n ≤ length xs → total n (λ t. slice_index xs t) ≡ sum (take n xs)
unfolding total
total_is_sum zero xs h = refl
total_is_sum (suc n) xs h =
    let a = total_is_sum n xs (omega arith) in
    let b = sum_by_more (λ x. x) xs n 0 (omega arith) in
    let c : sum (take (suc n) xs) ≡ sum (take (n + 1) xs) = ap (λ k. sum (take k xs)) (sym (add-one n)) in
    omega (arith, a, b, c)

pub version_small : (terms : List ℕ) (log : List Entry) → 8 ≤ length terms → IsLawful terms log → length log ≤ sum (take 8 terms)
version_small terms log wide h =
    let each : All (λ (e : Entry). e.author < 8) log = All-weaker (IsEntry 8 terms) (λ (e : Entry). e.author < 8) (λ e k. k.author) log h.entries in
    let a = length_by_author 8 log each in
    let b = total_le 8 (λ t. length (own t log)) (λ t. slice_index terms t) h.within in
    let c = total_is_sum 8 terms (omega arith) in
    omega (arith, a, b, c)

some_same : {A : Type 0} (x y : A) → Some x ≡ Some y → x ≡ y
some_same x y e = cc

-- after a load, or an exchange that lost
module _ (p p' : Inside) (x y : List ℕ) (f : IsFront p) (r : Reads (cell_view p.place) x y (cell_view p'.place)) where
  pub front_after_load : p'.version ≡ slice_index x 0 → p'.row.words ≡ slice_range x 26 151 → p'.author ≡ p.author → p'.made ≡ p.made → IsFront p'
  front_after_load ev er ea em =
      let w = cell_view p'.place in
      let wide = row_wide r.terms w.seen r.lawful in record {
        version = ev ∙ ap (λ l. slice_index l 0) r.spelled;
        row = er ∙ ap (λ l. slice_range l 26 151) r.spelled ∙ row_of_spell (length w.seen) w.count (row_after w.seen) r.terms r.wide wide;
        author = ea ∙ f.author ∙ sym r.author;
        made = λ t e. em ∙ f.made t (sym ea ∙ e) ∙ ap length (sym (r.own_same t (sym f.author ∙ sym ea ∙ e)).0);
        number = λ t e. f.number t (sym ea ∙ e);
        count = let a = f.count in let b = r.count_later in let c = r.few in omega arith;
        olds = r.olds ∙ f.olds;
        terms = r.terms;
        has_terms = r.has_terms;
        wide = r.wide;
        lawful = r.lawful;
      }

  pub sees_more : IsSamePass p.place p'.place → SeesMore (known_by p) (known_by p')
  sees_more same =
      let terms_is : f.terms ≡ r.terms = r.same_terms f.terms f.has_terms in
      let terms_now : terms_in (cell_view p'.place).terms ≡ r.terms = ap terms_in r.has_terms in record {
        cell = same.0;
        terms = terms_now ∙ sym terms_is ∙ sym (ap terms_in f.has_terms);
        author = r.author;
        seen = r.later;
        own_same = λ t e. (r.own_same t e).0;
      }

lawful_push : (terms : List ℕ) (log : List Entry) (t : ℕ) (row : List ℕ) → IsLawful terms log → t < 8 → BelongsTo (shape_in terms) row → length (own t log) < quota t terms → IsLawful terms (log ++ entry t row ∷ [])
lawful_push terms log t row h small fits below =
    record {
      entries = All-push (IsEntry 8 terms) log (entry t row) h.entries (record { author = small; row = fits });
      within = λ s k. within_after log terms t row h.within below s k (ℕ_discrete t s);
    }

-- a pass of the cell with these quotas and this shape
module _ (p : Inside) (q : List ℕ) (f : IsFront p) (known : terms_in (cell_view p.place).terms ≡ q) where
  terms_is : f.terms ≡ q
  terms_is = sym (ap terms_in f.has_terms) ∙ known

  pub has_terms : (cell_view p.place).terms ≡ Some q
  has_terms = f.has_terms ∙ ap Some terms_is

  pub lawful_now : IsLawful q (cell_view p.place).seen
  lawful_now = subst (λ l. IsLawful l (cell_view p.place).seen) terms_is f.lawful

  pub version_below : p.version ≤ sum (take 8 q)
  version_below = let a = version_small q (cell_view p.place).seen (let n = ap length terms_is in let w = f.wide in omega arith) lawful_now in let b = f.version in omega arith

  -- a write of this row
  module _ (t : ℕ) (row front next : List ℕ) (named : p.author ≡ Some t) (fits : BelongsTo (shape_in q) row) (below : p.made < quota t q)
      (is_front : front ≡ spell p.version 8 p.row.words q) (is_next : next ≡ spell (p.version + 1) 8 row q) where
    left : length (own t (cell_view p.place).seen) < quota t q
    left = let m = f.made t named in omega arith

    front_spelled : front ≡ spell (length (cell_view p.place).seen) (cell_view p.place).count (row_after (cell_view p.place).seen) q
    front_spelled = is_front ∙ (λ i. spell (f.version i) (sym f.count i) (f.row i) q)

    next_spelled : next ≡ spell (length (cell_view p.place).seen + 1) (cell_view p.place).count row q
    next_spelled = is_next ∙ (λ i. spell (f.version i + 1) (sym f.count i) row q)

    pub has_left : HasLeft (known_by p)
    has_left s e = let same : t ≡ s = some_same t s (sym named ∙ f.author ∙ e) in
        subst (λ j. length (own j (cell_view p.place).seen) < quota j (terms_in (cell_view p.place).terms)) same (subst (λ l. length (own t (cell_view p.place).seen) < quota t l) (sym known) left)

    pub may_write : (place : ℕ) → Turns Kept place (cell_view p.place) (λ x. if pointwise nat_eq x front then next else x) Tries
    may_write place = tries place (cell_view p.place) t q row front next (sym f.author ∙ named) f.olds has_terms fits left front_spelled next_spelled

    pub wrote : (x : List ℕ) (w : View) → pointwise nat_eq x front ≡ true → Tries (cell_view p.place) x next w
        → w ≡ view ((cell_view p.place).seen ++ entry t row ∷ []) (cell_view p.place).author (cell_view p.place).count (cell_view p.place).terms (cell_view p.place).olds
    wrote x w same tried =
        let v = cell_view p.place in
        let r = tried.1 (λ e. rises (sym is_next ∙ e ∙ (bytes_decides x front).0 same ∙ is_front)) in
        let by_is : r.by ≡ t = some_same r.by t (sym r.author ∙ sym f.author ∙ named) in
        let row_is : r.row ≡ row = (equal_parts (length v.seen + 1) (p.version + 1) v.count 8 r.row row r.terms q r.belongs.whole fits.whole (sym r.spelled ∙ is_next)).2 in
        r.after ∙ (λ i. view (v.seen ++ entry (by_is i) (row_is i) ∷ []) v.author v.count v.terms v.olds)
      where
        rises : spell (p.version + 1) 8 row q ≡ spell p.version 8 p.row.words q → ⊥
        rises e = let k : p.version + 1 ≡ p.version = cc in omega arith

    module _ (p' : Inside) (after : cell_view p'.place ≡ view ((cell_view p.place).seen ++ entry t row ∷ []) (cell_view p.place).author (cell_view p.place).count (cell_view p.place).terms (cell_view p.place).olds) where
      lawful_after : IsLawful q (cell_view p'.place).seen
      lawful_after = subst (λ (u : View). IsLawful q u.seen) (sym after) (lawful_push q (cell_view p.place).seen t row lawful_now (f.number t named) fits left)

      pub front_after_write : p'.version ≡ p.version + 1 → p'.row.words ≡ row → p'.author ≡ p.author → p'.made ≡ p.made + 1 → IsFront p'
      front_after_write ev er ea em =
          let v = cell_view p.place in
          let log' = v.seen ++ entry t row ∷ [] in
          let seen_is : (cell_view p'.place).seen ≡ log' = ap (λ (u : View). u.seen) after in record {
            version = let a = f.version in let b = ap length seen_is in omega (arith, length-append v.seen (entry t row ∷ []));
            row = er ∙ sym (last_words-push opening_words v.seen (entry t row)) ∙ ap row_after (sym seen_is);
            author = ea ∙ f.author ∙ ap (λ (u : View). u.author) (sym after);
            made = λ s e.
                let same : s ≡ t = some_same s t (sym e ∙ ea ∙ named) in
                let m = f.made t named in
                let own_is : own s (cell_view p'.place).seen ≡ own t v.seen ++ entry t row ∷ [] = ap (λ j. own j (cell_view p'.place).seen) same ∙ ap (own t) seen_is ∙ own-push t v.seen row in
                let b = ap length own_is in
                omega (arith, length-append (own t v.seen) (entry t row ∷ []));
            number = λ s e. f.number s (sym ea ∙ e);
            count = ap (λ (u : View). u.count) after ∙ f.count;
            olds = ap (λ (u : View). u.olds) after ∙ f.olds;
            terms = q;
            has_terms = ap (λ (u : View). u.terms) after ∙ has_terms;
            wide = ap length (sym terms_is) ∙ f.wide;
            lawful = lawful_after;
          }

      pub adds : IsSamePass p.place p'.place → Adds (known_by p) (known_by p') row
      adds same = record {
        cell = same.0;
        terms = ap (λ (u : View). terms_in u.terms) after;
        author = ap (λ (u : View). u.author) after;
        by = t;
        is_by = sym f.author ∙ named;
        seen = ap (λ (u : View). u.seen) after;
      }

    pub rose : (x : List ℕ) (w : View) → pointwise nat_eq x front ≡ false → Reads (cell_view p.place) x x w → length (cell_view p.place).seen < length w.seen
    rose x w other r = go (dec_le (length w.seen) (length (cell_view p.place).seen))
      where
        go : Dec (length w.seen ≤ length (cell_view p.place).seen) → length (cell_view p.place).seen < length w.seen
        go (yes le) =
            let v = cell_view p.place in
            let same : w.seen ≡ v.seen = whole w.seen v.seen r.later le in
            let count_is : w.count ≡ v.count = (let a = f.count in let b = r.count_later in let c = r.few in omega arith) in
            let terms_same : r.terms ≡ q = sym (r.same_terms q has_terms) in
            let x_is : x ≡ front = r.spelled ∙ (λ i. spell (length (same i)) (count_is i) (row_after (same i)) (terms_same i)) ∙ sym front_spelled in
            absurd (true≢false (sym ((bytes_decides x front).1 x_is) ∙ other))
        go (no n) = omega arith

-- after a join and the load that ends it
module _ (p o p' : Inside) (q : List ℕ) (f : IsFront p) (g : IsFront o) (known : terms_in (cell_view p.place).terms ≡ q) (known_o : terms_in (cell_view o.place).terms ≡ q)
    (j : View) (x : List ℕ) (j_is : j ≡ joined (cell_view p.place) (cell_view o.place)) (closed : Closes j x x (cell_view p'.place)) where
  ended : Closes (joined (cell_view p.place) (cell_view o.place)) x x (cell_view p'.place)
  ended = subst (λ (u : View). Closes u x x (cell_view p'.place)) j_is closed

  after_join : cell_view p'.place ≡ view (longer (cell_view p.place).seen (cell_view o.place).seen) (cell_view p.place).author (max (cell_view p.place).count (cell_view o.place).count) (cell_view p.place).terms []
  after_join = ended.rest

  parts : StartsWith ended.log (longer (cell_view p.place).seen (cell_view o.place).seen) × StartsWith (longer (cell_view p.place).seen (cell_view o.place).seen) (cell_view p.place).seen × StartsWith (longer (cell_view p.place).seen (cell_view o.place).seen) (cell_view o.place).seen
  unfolding ended
  parts =
      let P : List Entry → Type 0 = StartsWith ended.log in
      let olds = ended.olds in
      let first = All-head P (cell_view p.place).seen ((cell_view o.place).seen ∷ []) olds in
      let second = All-head P (cell_view o.place).seen [] (All-tail P (cell_view p.place).seen ((cell_view o.place).seen ∷ []) olds) in
      longer_is ended.log (cell_view p.place).seen (cell_view o.place).seen first second

  own_kept : (t : ℕ) → (cell_view p.place).author ≡ Some t → own t (longer (cell_view p.place).seen (cell_view o.place).seen) ≡ own t (cell_view p.place).seen
  unfolding ended
  own_kept t e = own_between t ended.log (cell_view p.place).seen (longer (cell_view p.place).seen (cell_view o.place).seen) parts.0 parts.1 (ended.own_same t e).1

  lawful_both : IsLawful q (longer (cell_view p.place).seen (cell_view o.place).seen)
  lawful_both = longer_keeps (IsLawful q) (cell_view p.place).seen (cell_view o.place).seen (lawful_now p q f known) (lawful_now o q g known_o)

  pub front_after_join : p'.version ≡ length (longer (cell_view p.place).seen (cell_view o.place).seen) → p'.row.words ≡ row_after (longer (cell_view p.place).seen (cell_view o.place).seen) → p'.author ≡ p.author → p'.made ≡ p.made → IsFront p'
  front_after_join ev er ea em =
      let seen_is : (cell_view p'.place).seen ≡ longer (cell_view p.place).seen (cell_view o.place).seen = ap (λ (u : View). u.seen) after_join in record {
        version = ev ∙ ap length (sym seen_is);
        row = er ∙ ap row_after (sym seen_is);
        author = ea ∙ f.author ∙ ap (λ (u : View). u.author) (sym after_join);
        made = λ t e. em ∙ f.made t (sym ea ∙ e) ∙ ap length (sym (own_kept t (sym f.author ∙ sym ea ∙ e))) ∙ ap (λ l. length (own t l)) (sym seen_is);
        number = λ t e. f.number t (sym ea ∙ e);
        count = let a = f.count in let b = g.count in let c = ap (λ (u : View). u.count) after_join in omega arith;
        olds = ap (λ (u : View). u.olds) after_join;
        terms = q;
        has_terms = ap (λ (u : View). u.terms) after_join ∙ has_terms p q f known;
        wide = ap length (sym (terms_is p q f known)) ∙ f.wide;
        lawful = subst (IsLawful q) (sym seen_is) lawful_both;
      }

  pub joins : IsSamePass p.place p'.place → Joins (known_by p) (known_by o) (known_by p')
  joins same =
      let seen_is : (cell_view p'.place).seen ≡ longer (cell_view p.place).seen (cell_view o.place).seen = ap (λ (u : View). u.seen) after_join in
      record {
        more = record {
          cell = same.0;
          terms = ap (λ (u : View). terms_in u.terms) after_join;
          author = ap (λ (u : View). u.author) after_join;
          seen = subst (λ l. StartsWith l (cell_view p.place).seen) (sym seen_is) parts.1;
          own_same = λ t e. ap (own t) seen_is ∙ own_kept t e;
        };
        longer_is = seen_is;
        other_too = subst (λ l. StartsWith l (cell_view o.place).seen) (sym seen_is) parts.2;
      }

-- a pass of a new cell
pub front_at_first : (p : Inside) (terms : List ℕ) → length terms ≡ 24 → cell_view p.place ≡ fresh p.author 8 terms → p.version ≡ 0 → p.row.words ≡ opening_words → p.made ≡ 0
    → ((t : ℕ) → p.author ≡ Some t → t < 8) → IsFront p
front_at_first p terms wide is ev er em small = record {
  version = ev ∙ ap (λ (u : View). length u.seen) (sym is);
  row = er ∙ ap (λ (u : View). row_after u.seen) (sym is);
  author = ap (λ (u : View). u.author) (sym is);
  made = λ t e. em ∙ ap (λ (u : View). length (own t u.seen)) (sym is);
  number = small;
  count = ap (λ (u : View). u.count) is;
  olds = ap (λ (u : View). u.olds) is;
  terms = terms;
  has_terms = ap (λ (u : View). u.terms) is;
  wide = wide;
  lawful = subst (λ (u : View). IsLawful terms u.seen) (sym is) (record { entries = All-nil (IsEntry 8 terms); within = λ t h. zero-le });
}

-- a first load that finds the words of a cell with no entries
-- the words of a cell with no entries are 151
pub anew_all : (words terms first : List ℕ) → length terms ≡ 24 → words ≡ spell 0 0 opening_words terms → first ≡ take 151 words → first ≡ words
anew_all words terms first wide is taken =
    let all : length words ≡ 151 = ap length is ∙ omega (arith, length-append terms opening_words, wide, opening_wide) in
    taken ∙ take_all 151 words (omega (arith, all))

pub found_nothing : (v w : View) (x start terms : List ℕ) → length terms ≡ 24 → v ≡ blank → start ≡ spell 0 0 opening_words terms → x ≡ start → Reads v x x w → w ≡ fresh None 0 terms
found_nothing v w x start terms wide is is_start same r =
    let spelled : spell (length w.seen) w.count (row_after w.seen) r.terms ≡ spell 0 0 opening_words terms = sym r.spelled ∙ same ∙ is_start in
    let none : length w.seen ≡ 0 = ap (λ l. slice_index l 0) spelled in
    let count_is : w.count ≡ 0 = ap (λ l. slice_index l 1) spelled in
    let seen_is : w.seen ≡ [] = nil_from_length w.seen none in
    let behind : r.terms ++ row_after w.seen ≡ terms ++ opening_words = ap (λ l. drop 2 l) spelled in
    let terms_is : r.terms ≡ terms = append_cancel_right r.terms terms opening_words (ap (λ l. r.terms ++ row_after l) (sym seen_is) ∙ behind) in
    let author_is : w.author ≡ None = r.author ∙ ap (λ (u : View). u.author) is in
    let olds_is : w.olds ≡ [] = r.olds ∙ ap (λ (u : View). u.olds) is in
    let terms_now : w.terms ≡ Some terms = r.has_terms ∙ ap Some terms_is in
    λ i. view (seen_is i) (author_is i) (count_is i) (terms_now i) (olds_is i)

-- what each pass has seen is lawful
pub is_lawful : (p : Inside) → IsFront p → IsLawful (known_by p).terms (known_by p).seen
is_lawful p f = subst (λ l. IsLawful l (cell_view p.place).seen) (sym (ap terms_in f.has_terms)) f.lawful
