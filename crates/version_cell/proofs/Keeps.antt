-- Each step keeps the rule.
use Rattle.std.proofs.Common.{◌≡◌, ◌≢◌, ℕ, ◌+◌, ◌<◌, ◌≤◌, Bool, true, false, eqb, cond, List, [], ◌∷◌, ◌++◌, length, set, refl, sym, ap, ◌∙◌, subst, ⊎_elim, arith, length-append, le_refl, eq-eqb, ne_eqb, nat_eq}
use Rattle.std.specs.Prelude.{Some, None, if◌then◌else◌}
use Rattle.std.specs.List.{All}
use Rattle.std.proofs.lemmas.List.Elements.{All-cons, All-nil, All-push, All-weaker}
use mathlib.Core.Option.{some, some-ne-none, some-injective}
use lib.ListN.{get_elem?}
use native.Mathlib.Decide.{ℕ_discrete}
use lib.Pointwise.{pointwise, bytes_decides}
use Rattle.crossbeam_utils.specs.Register.{Turns, TurnsAt, Forks, Merges}
use Rattle.atomic_table.proofs.Lists.{at_set, set_here, set_else, at_longer, at_last}
use Rattle.version_cell.specs.declared.rule.Entry.{Entry}
use Rattle.version_cell.specs.declared.rule.View.{View}
use Rattle.row_words.specs.Shapes.{BelongsTo}
use Rattle.version_cell.specs.Histories.{StartsWith, entry, longer, opening_words, own, row_after}
use Rattle.version_cell.specs.Terms.{IsEntry, quota, shape_in}
use Rattle.version_cell.specs.Views.{blank, copied, joined, view}
use Rattle.version_cell.specs.Rule.{FirstHasOwn, IsSeen, IsView, Kept, spell}
use Rattle.version_cell.specs.Steps.{Closes, Enrols, Reads, Tries}
use Rattle.version_cell.proofs.Logs.{starts_itself, starts_length, starts_longer, whole, own-push, own-push_other, own_between, last_words-push, longer_is, at_end, below_length}

module _ (F : ℕ → View → Type 0) (views : List View) where
  each_set : (pass : ℕ) (w : View) → ((j : ℕ) (u : View) → j ≢ pass → get_elem? views j ≡ some u → F j u) → F pass w → (j : ℕ) (u : View) → get_elem? (set views pass w) j ≡ some u → F j u
  each_set pass w others mine j u e =
      ⊎_elim
      (λ (x : (j ≡ pass) × (w ≡ u)). subst (λ (y : ℕ × View). F y.0 y.1) (λ i. (sym x.0 i, x.1 i)) mine)
      (λ (x : (j ≢ pass) × (get_elem? views j ≡ some u)). others j u x.0 x.1)
      (at_set views pass j w u e)

  each_snoc : (w : View) → ((j : ℕ) (u : View) → get_elem? views j ≡ some u → F j u) → F (length views) w → (j : ℕ) (u : View) → get_elem? (views ++ w ∷ []) j ≡ some u → F j u
  each_snoc w others mine j u e =
      ⊎_elim
      (λ (x : get_elem? views j ≡ some u). others j u x)
      (λ (x : (j ≡ length views) × (w ≡ u)). subst (λ (y : ℕ × View). F y.0 y.1) (λ i. (sym x.0 i, x.1 i)) mine)
      (at_end views w u j e)

-- some pass has seen the whole history
seen_here : (log : List Entry) (views : List View) (pass : ℕ) (v w : View) → get_elem? views pass ≡ some v → w.seen ≡ log → IsSeen log (set views pass w)
seen_here log views pass v w at e = (pass, w, set_here views pass w (below_length views pass v at), e)

seen_still : (log : List Entry) (views : List View) (pass : ℕ) (v w : View) → get_elem? views pass ≡ some v → w.seen ≡ v.seen → IsSeen log views → IsSeen log (set views pass w)
seen_still log views pass v w at e (j, u, there, all) = go (ℕ_discrete j pass)
  where
    go : Dec (j ≡ pass) → IsSeen log (set views pass w)
    go (yes k) = seen_here log views pass v w at (e ∙ ap (λ (x : View). x.seen) (some-injective v u (sym at ∙ ap (get_elem? views) (sym k) ∙ there)) ∙ all)
    go (no n) = (j, u, set_else views pass j w n ∙ there, all)

seen_snoc : (log : List Entry) (views : List View) (w : View) → IsSeen log views → IsSeen log (views ++ w ∷ [])
seen_snoc log views w (j, u, there, all) = (j, u, at_longer views (w ∷ []) j u there, all)

seen_moved : (log : List Entry) (views : List View) (pass : ℕ) (v : View) → get_elem? views pass ≡ some v → IsSeen log views → IsSeen log (set views pass blank ++ v ∷ [])
seen_moved log views pass v at (j, u, there, all) = go (ℕ_discrete j pass)
  where
    go : Dec (j ≡ pass) → IsSeen log (set views pass blank ++ v ∷ [])
    go (yes k) = (length (set views pass blank), v, at_last (set views pass blank) v (length (set views pass blank)) refl, ap (λ (x : View). x.seen) (some-injective v u (sym at ∙ ap (get_elem? views) (sym k) ∙ there)) ∙ all)
    go (no n) = (j, u, at_longer (set views pass blank) (v ∷ []) j u (set_else views pass j blank n ∙ there), all)

seen_joined : (log : List Entry) (views : List View) (pass other : ℕ) (v w : View) → other ≢ pass → get_elem? views pass ≡ some v → get_elem? views other ≡ some w
    → StartsWith log (longer v.seen w.seen) × StartsWith (longer v.seen w.seen) v.seen × StartsWith (longer v.seen w.seen) w.seen
    → IsSeen log views → IsSeen log (set (set views pass (joined v w)) other blank)
seen_joined log views pass other v w apart at there long (j, u, is, all) = go (ℕ_discrete j pass) (ℕ_discrete j other)
  where
    both_has : longer v.seen w.seen ≡ log → IsSeen log (set (set views pass (joined v w)) other blank)
    both_has e = (pass, joined v w, set_else (set views pass (joined v w)) other pass blank (λ k. apart (sym k)) ∙ set_here views pass (joined v w) (below_length views pass v at), e)

    all_of : (x : List Entry) → x ≡ log → StartsWith (longer v.seen w.seen) x → longer v.seen w.seen ≡ log
    all_of x e p = sym (whole log (longer v.seen w.seen) long.0 (let a = starts_length (longer v.seen w.seen) x p in let b = ap length e in omega arith))

    go : Dec (j ≡ pass) → Dec (j ≡ other) → IsSeen log (set (set views pass (joined v w)) other blank)
    go (yes k) _ = both_has (all_of v.seen (ap (λ (x : View). x.seen) (some-injective v u (sym at ∙ ap (get_elem? views) (sym k) ∙ is)) ∙ all) long.1)
    go (no n) (yes k) = both_has (all_of w.seen (ap (λ (x : View). x.seen) (some-injective w u (sym there ∙ ap (get_elem? views) (sym k) ∙ is)) ∙ all) long.2)
    go (no n) (no m) = (j, u, set_else (set views pass (joined v w)) other j blank m ∙ (set_else views pass j (joined v w) n ∙ is), all)

some_same : {A : Type 0} (x y : A) → Some x ≡ Some y → x ≡ y
some_same x y e = cc

no_number : (t : ℕ) → None ≡ Some t → ⊥
no_number t e = cc

opens_fits : (q : List ℕ) (holder : ℕ → ℕ) (j : ℕ) → IsView [] 0 q holder j blank
opens_fits q holder j = record {
  seen = starts_itself [];
  olds = All-nil (StartsWith []);
  count_reached = le_refl 0;
  same_terms = λ p e. cc;
  numbered = λ t e. absurd (no_number t e);
}

pub opens : (q words : List ℕ) → length q ≡ 24 → words ≡ spell 0 0 opening_words q → Kept words (blank ∷ [])
opens q words wide is = record {
  log = [];
  count = 0;
  terms = q;
  holder = λ _. 0;
  spelled = is;
  few = omega arith;
  wide = wide;
  entries = All-nil (IsEntry 0 q);
  within = λ t _. omega arith;
  longest = (0, blank, refl, refl);
  each = each_snoc (IsView [] 0 q (λ _. 0)) [] blank (λ j u e. absurd (some-ne-none u (sym e))) (opens_fits q (λ _. 0) 0);
}

-- a load
pub reads : (pass : ℕ) (v : View) → Turns Kept pass v (λ x. x) Reads
reads pass v x views h at =
    let mine = h.each pass v at in
    let w = view h.log v.author h.count (Some h.terms) v.olds in (
      w,
      record {
        log = h.log;
        count = h.count;
        terms = h.terms;
        holder = h.holder;
        spelled = h.spelled;
        few = h.few;
        wide = h.wide;
        entries = h.entries;
        within = h.within;
        longest = seen_here h.log views pass v w at refl;
        each = each_set (IsView h.log h.count h.terms h.holder) views pass w (λ j u _ e. h.each j u e)
            (record {
              seen = starts_itself h.log;
              olds = mine.olds;
              count_reached = le_refl h.count;
              same_terms = λ q e. sym (some_same h.terms q e);
              numbered = λ t e. let n = mine.numbered t e in record { given = n.given; alone = n.alone; seen = refl; first = n.first };
            });
      },
      record {
        later = mine.seen;
        author = refl;
        olds = refl;
        terms = h.terms;
        has_terms = refl;
        same_terms = mine.same_terms;
        count_later = mine.count_reached;
        few = h.few;
        spelled = h.spelled;
        wide = h.wide;
        lawful = record {
          entries = All-weaker (IsEntry h.count h.terms) (IsEntry 8 h.terms) (λ e k. let f = h.few in let a = k.author in record { author = omega arith; row = k.row }) h.log h.entries;
          within = h.within;
        };
        own_same = λ t e. let n = mine.numbered t e in (n.seen, n.given);
      },
    )

-- the load that ends a join
pub closes : (pass : ℕ) (v : View) → Turns Kept pass v (λ x. x) Closes
closes pass v x views h at =
    let mine = h.each pass v at in
    let w = view v.seen v.author v.count v.terms [] in (
      w,
      record {
        log = h.log;
        count = h.count;
        terms = h.terms;
        holder = h.holder;
        spelled = h.spelled;
        few = h.few;
        wide = h.wide;
        entries = h.entries;
        within = h.within;
        longest = seen_still h.log views pass v w at refl h.longest;
        each = each_set (IsView h.log h.count h.terms h.holder) views pass w (λ j u _ e. h.each j u e)
            (record {
              seen = mine.seen;
              olds = All-nil (StartsWith h.log);
              count_reached = mine.count_reached;
              same_terms = mine.same_terms;
              numbered = λ t e. let n = mine.numbered t e in record { given = n.given; alone = n.alone; seen = n.seen; first = tt };
            });
      },
      record {
        rest = refl;
        log = h.log;
        seen = mine.seen;
        olds = mine.olds;
        own_same = λ t e. let n = mine.numbered t e in (n.seen, n.first);
      },
    )

-- a pass with no number that has seen as much
pub copies : (pass : ℕ) (v : View) → Forks Kept pass v v (copied v)
copies pass v x views h at =
    let mine = h.each pass v at in
    let F = IsView h.log h.count h.terms h.holder in
    record {
      log = h.log;
      count = h.count;
      terms = h.terms;
      holder = h.holder;
      spelled = h.spelled;
      few = h.few;
      wide = h.wide;
      entries = h.entries;
      within = h.within;
      longest = seen_snoc h.log (set views pass v) (copied v) (seen_still h.log views pass v v at refl h.longest);
      each = each_snoc F (set views pass v) (copied v) (each_set F views pass v (λ j u _ e. h.each j u e) mine)
          (record {
            seen = mine.seen;
            olds = All-nil (StartsWith h.log);
            count_reached = mine.count_reached;
            same_terms = mine.same_terms;
            numbered = λ t e. absurd (no_number t e);
          });
    }

-- the whole view goes to a new pass
pub moves : (pass : ℕ) (v : View) → Forks Kept pass v blank v
moves pass v x views h at =
    let mine = h.each pass v at in
    let next : ℕ = length (set views pass blank) in
    let holder' : ℕ → ℕ = λ t. cond (eqb (h.holder t) pass) next (h.holder t) in
    let F = IsView h.log h.count h.terms holder' in
    record {
      log = h.log;
      count = h.count;
      terms = h.terms;
      holder = holder';
      spelled = h.spelled;
      few = h.few;
      wide = h.wide;
      entries = h.entries;
      within = h.within;
      longest = seen_moved h.log views pass v at h.longest;
      each = each_snoc F (set views pass blank) v
          (each_set F views pass blank
          (λ j u apart e.
          let f = h.each j u e in
          record {
            seen = f.seen;
            olds = f.olds;
            count_reached = f.count_reached;
            same_terms = f.same_terms;
            numbered = λ t k.
                let n = f.numbered t k in
                record { given = n.given; alone = ap (λ (b : Bool). cond b next (h.holder t)) (ne_eqb (h.holder t) pass (λ s. apart (sym n.alone ∙ s))) ∙ n.alone; seen = n.seen; first = n.first };
          })
          (record {
            seen = (h.log, refl);
            olds = All-nil (StartsWith h.log);
            count_reached = omega arith;
            same_terms = λ q e. cc;
            numbered = λ t e. absurd (no_number t e);
          }))
          (record {
            seen = mine.seen;
            olds = mine.olds;
            count_reached = mine.count_reached;
            same_terms = mine.same_terms;
            numbered = λ t k.
                let n = mine.numbered t k in
                record { given = n.given; alone = ap (λ (b : Bool). cond b next (h.holder t)) (eq-eqb (h.holder t) pass n.alone); seen = n.seen; first = n.first };
          });
    }

-- the pass takes in another
pub merges : (pass : ℕ) (v : View) (other : ℕ) (w : View) → Merges Kept pass v other w (joined v w) blank
merges pass v other w x views h at apart there =
    let both = joined v w in
    let F = IsView h.log h.count h.terms h.holder in
    let mine = h.each pass v at in
    let found : get_elem? views other ≡ some w = ⊎_elim (λ (t : (other ≡ pass) × (both ≡ w)). absurd (apart t.0)) (λ (t : (other ≢ pass) × (get_elem? views other ≡ some w)). t.1) (at_set views pass other both w there) in
    let theirs = h.each other w found in
    let long = longer_is h.log v.seen w.seen mine.seen theirs.seen in
    let new : F pass both = record {
      seen = long.0;
      olds = All-cons (StartsWith h.log) v.seen (w.seen ∷ []) mine.seen (All-cons (StartsWith h.log) w.seen [] theirs.seen (All-nil (StartsWith h.log)));
      count_reached = let a = mine.count_reached in let b = theirs.count_reached in omega arith;
      same_terms = mine.same_terms;
      numbered = λ t e.
          let n = mine.numbered t e in
          record { given = n.given; alone = n.alone; seen = n.seen ∙ sym (own_between t h.log v.seen (longer v.seen w.seen) long.0 long.1 n.seen); first = n.seen };
    } in
    record {
      log = h.log;
      count = h.count;
      terms = h.terms;
      holder = h.holder;
      spelled = h.spelled;
      few = h.few;
      wide = h.wide;
      entries = h.entries;
      within = h.within;
      longest = seen_joined h.log views pass other v w apart at found long h.longest;
      each = each_set F (set views pass both) other blank
          (λ j u _ e. each_set F views pass both (λ k y _ e'. h.each k y e') new j u e)
          (record {
            seen = (h.log, refl);
            olds = All-nil (StartsWith h.log);
            count_reached = omega arith;
            same_terms = λ q e. cc;
            numbered = λ t e. absurd (no_number t e);
          });
    }

-- the views of others after an entry of the author t, which the pass has
others_after : (log : List Entry) (count : ℕ) (terms : List ℕ) (holder : ℕ → ℕ) (pass t : ℕ) (row : List ℕ) → holder t ≡ pass
    → (j : ℕ) (u : View) → j ≢ pass → IsView log count terms holder j u → IsView (log ++ entry t row ∷ []) count terms holder j u
others_after log count terms holder pass t row held j u apart f = record {
  seen = starts_longer log (entry t row ∷ []) u.seen f.seen;
  olds = All-weaker (StartsWith log) (StartsWith (log ++ entry t row ∷ [])) (λ o p. starts_longer log (entry t row ∷ []) o p) u.olds f.olds;
  count_reached = f.count_reached;
  same_terms = f.same_terms;
  numbered = λ s k.
      let n = f.numbered s k in
      let other : t ≢ s = λ e. apart (sym n.alone ∙ ap holder (sym e) ∙ held) in
      let same = own-push_other s t log row other in
      record { given = n.given; alone = n.alone; seen = same ∙ n.seen; first = first_same s u.olds same n.first };
}
  where
    first_same : (s : ℕ) (olds : List (List Entry)) → own s (log ++ entry t row ∷ []) ≡ own s log → FirstHasOwn s log olds → FirstHasOwn s (log ++ entry t row ∷ []) olds
    first_same s [] e k = tt
    first_same s (o ∷ _) e k = e ∙ k

pub within_after : (log : List Entry) (terms : List ℕ) (t : ℕ) (row : List ℕ) → ((s : ℕ) → s < 8 → length (own s log) ≤ quota s terms) → length (own t log) < quota t terms
    → (s : ℕ) → s < 8 → Dec (t ≡ s) → length (own s (log ++ entry t row ∷ [])) ≤ quota s terms
within_after log terms t row within below s k (yes e) =
    subst (λ (j : ℕ). length (own j (log ++ entry t row ∷ [])) ≤ quota j terms) e
    (omega (arith, ap length (own-push t log row), length-append (own t log) (entry t row ∷ [])))
within_after log terms t row within below s k (no n) = let w = within s k in omega (arith, ap length (own-push_other s t log row n))

-- a write that found the words that the pass had seen
won : (pass : ℕ) (v : View) (t : ℕ) (q row : List ℕ) (x new : List ℕ) → v.author ≡ Some t → v.olds ≡ [] → v.terms ≡ Some q → BelongsTo (shape_in q) row → length (own t v.seen) < quota t q
    → x ≡ spell (length v.seen) v.count (row_after v.seen) q → new ≡ spell (length v.seen + 1) v.count row q → TurnsAt Kept pass v x new Tries
won pass v t q row x new named settled known fits below was is views h at =
    let mine = h.each pass v at in
    let n = mine.numbered t named in
    let spelled : spell (length h.log) h.count (row_after h.log) h.terms ≡ spell (length v.seen) v.count (row_after v.seen) q = sym h.spelled ∙ was in
    let long : length h.log ≡ length v.seen = cc in
    let count_is : h.count ≡ v.count = cc in
    let same : h.log ≡ v.seen = whole h.log v.seen mine.seen (omega arith) in
    let terms_is : q ≡ h.terms = mine.same_terms q known in
    let low : length (own t h.log) < quota t h.terms = subst (λ l. length (own t h.log) < quota t l) terms_is (subst (λ l. length (own t l) < quota t q) (sym same) below) in
    let log' = h.log ++ entry t row ∷ [] in
    let w = view (v.seen ++ entry t row ∷ []) v.author v.count v.terms v.olds in
    let same' : log' ≡ v.seen ++ entry t row ∷ [] = ap (λ l. l ++ entry t row ∷ []) same in
    let count' : length log' ≡ length v.seen + 1 = omega (arith, length-append h.log (entry t row ∷ [])) in
    let row' : row_after log' ≡ row = last_words-push opening_words h.log (entry t row) in
    let P : Entry → Type 0 = IsEntry h.count h.terms in (
      w,
      record {
        log = log';
        count = h.count;
        terms = h.terms;
        holder = h.holder;
        spelled = is ∙ (λ i. spell (sym count' i) (sym count_is i) (sym row' i) (terms_is i));
        few = h.few;
        wide = h.wide;
        entries = All-push P h.log (entry t row) h.entries (record { author = n.given; row = subst (λ l. BelongsTo (shape_in l) row) terms_is fits });
        within = λ s k. within_after h.log h.terms t row h.within low s k (ℕ_discrete t s);
        longest = seen_here log' views pass v w at (sym same');
        each = each_set (IsView log' h.count h.terms h.holder) views pass w
            (λ j u apart e. others_after h.log h.count h.terms h.holder pass t row n.alone j u apart (h.each j u e))
            (record {
              seen = subst (λ l. StartsWith log' l) same' (starts_itself log');
              olds = subst (λ o. All (StartsWith log') o) (sym settled) (All-nil (StartsWith log'));
              count_reached = mine.count_reached;
              same_terms = mine.same_terms;
              numbered = λ s k.
                  let ns = mine.numbered s k in
                  record { given = ns.given; alone = ns.alone; seen = ap (own s) same'; first = subst (λ o. FirstHasOwn s log' o) (sym settled) tt };
            });
      },
      (
        (λ e. absurd (raised (is' e))),
        (λ _. record {
          by = t;
          row = row;
          terms = q;
          author = named;
          after = refl;
          spelled = is;
          belongs = fits;
        }),
      ),
    )
  where
    is' : new ≡ x → spell (length v.seen + 1) v.count row q ≡ spell (length v.seen) v.count (row_after v.seen) q
    is' e = sym is ∙ e ∙ was

    raised : spell (length v.seen + 1) v.count row q ≡ spell (length v.seen) v.count (row_after v.seen) q → ⊥
    raised e = let k : length v.seen + 1 ≡ length v.seen = cc in omega arith

-- an exchange that expects what the pass has seen
pub tries : (pass : ℕ) (v : View) (t : ℕ) (q row current new : List ℕ) → v.author ≡ Some t → v.olds ≡ [] → v.terms ≡ Some q → BelongsTo (shape_in q) row → length (own t v.seen) < quota t q
    → current ≡ spell (length v.seen) v.count (row_after v.seen) q → new ≡ spell (length v.seen + 1) v.count row q
    → Turns Kept pass v (λ x. if pointwise nat_eq x current then new else x) Tries
tries pass v t q row current new named settled known fits below was is x views h at = go (pointwise nat_eq x current) refl
  where
    go : (b : Bool) → pointwise nat_eq x current ≡ b → (w : View) × Kept (if b then new else x) (set views pass w) × Tries v x (if b then new else x) w
    go true e = won pass v t q row x new named settled known fits below ((bytes_decides x current).0 e ∙ was) is views h at
    go false e = let r = reads pass v x views h at in (r.0, r.1, ((λ _. r.2), (λ ne. absurd (ne refl))))

-- an enrolment that found the words that the pass had seen
enrolled : (pass : ℕ) (v : View) (q : List ℕ) (x new : List ℕ) → v.olds ≡ [] → v.terms ≡ Some q → v.count < 8
    → x ≡ spell (length v.seen) v.count (row_after v.seen) q → new ≡ spell (length v.seen) (v.count + 1) (row_after v.seen) q → TurnsAt Kept pass v x new Enrols
enrolled pass v q x new settled known room was is views h at =
    let mine = h.each pass v at in
    let spelled : spell (length h.log) h.count (row_after h.log) h.terms ≡ spell (length v.seen) v.count (row_after v.seen) q = sym h.spelled ∙ was in
    let long : length h.log ≡ length v.seen = cc in
    let count_is : h.count ≡ v.count = cc in
    let same : h.log ≡ v.seen = whole h.log v.seen mine.seen (omega arith) in
    let terms_is : q ≡ h.terms = mine.same_terms q known in
    let number : ℕ = v.count in
    let count' : ℕ = v.count + 1 in
    let holder' : ℕ → ℕ = λ t. cond (eqb t number) pass (h.holder t) in
    let F = IsView h.log count' h.terms holder' in
    let w = view v.seen (Some number) count' v.terms v.olds in (
      w,
      record {
        log = h.log;
        count = count';
        terms = h.terms;
        holder = holder';
        spelled = is ∙ (λ i. spell (sym long i) count' (row_after (sym same i)) (terms_is i));
        few = omega arith;
        wide = h.wide;
        entries = All-weaker (IsEntry h.count h.terms) (IsEntry count' h.terms) (λ e k. let a = k.author in record { author = omega arith; row = k.row }) h.log h.entries;
        within = h.within;
        longest = seen_still h.log views pass v w at refl h.longest;
        each = each_set F views pass w
            (λ j u apart e.
            let f = h.each j u e in
            record {
              seen = f.seen;
              olds = f.olds;
              count_reached = let c = f.count_reached in omega arith;
              same_terms = f.same_terms;
              numbered = λ t k.
                  let n = f.numbered t k in
                  let a = n.given in
                  let other : t ≢ number = λ s. omega arith in
                  record { given = omega arith; alone = ap (λ (b : Bool). cond b pass (h.holder t)) (ne_eqb t number other) ∙ n.alone; seen = n.seen; first = n.first };
            })
            (record {
              seen = mine.seen;
              olds = mine.olds;
              count_reached = le_refl count';
              same_terms = mine.same_terms;
              numbered = λ t k.
                  let e : t ≡ number = sym (some_same number t k) in
                  record { given = omega arith; alone = ap (λ (b : Bool). cond b pass (h.holder t)) (eq-eqb t number e); seen = ap (own t) same; first = subst (λ o. FirstHasOwn t h.log o) (sym settled) tt };
            });
      },
      ((λ e. absurd (raised (sym is ∙ e ∙ was))), (λ _. record { after = refl; few = omega arith })),
    )
  where
    raised : spell (length v.seen) (v.count + 1) (row_after v.seen) q ≡ spell (length v.seen) v.count (row_after v.seen) q → ⊥
    raised e = let k : v.count + 1 ≡ v.count = cc in omega arith

pub enrols : (pass : ℕ) (v : View) (q current new : List ℕ) → v.olds ≡ [] → v.terms ≡ Some q → v.count < 8
    → current ≡ spell (length v.seen) v.count (row_after v.seen) q → new ≡ spell (length v.seen) (v.count + 1) (row_after v.seen) q
    → Turns Kept pass v (λ x. if pointwise nat_eq x current then new else x) Enrols
enrols pass v q current new settled known room was is x views h at = go (pointwise nat_eq x current) refl
  where
    go : (b : Bool) → pointwise nat_eq x current ≡ b → (w : View) × Kept (if b then new else x) (set views pass w) × Enrols v x (if b then new else x) w
    go true e = enrolled pass v q x new settled known room ((bytes_decides x current).0 e ∙ was) is views h at
    go false e = let r = reads pass v x views h at in (r.0, r.1, ((λ _. r.2), (λ ne. absurd (ne refl))))
