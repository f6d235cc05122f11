-- Lemmas on the window that a list of taken numbers leaves.
use Rattle.std.proofs.Common.{replicate, ◌≡◌, ◌≢◌, ℕ, ◌+◌, ◌%◌, ◌<◌, ◌≤◌, inl, inr, true, false, ◌||◌, List, [], ◌∷◌, refl, sym, ◌∙◌, ap, cond, arith}
use Rattle.std.proofs.Math.Dec.{eqb, leb}
use Rattle.std.proofs.lemmas.Bool.Decides.{eqb_tells, leb_tells}
use Rattle.replay_window.specs.Marks.{is_marked}
use Rattle.replay_window.specs.Taken.{greatest, is_taken, is_too_old, seen}
use Rattle.replay_window.specs.Window.{IsFresh, IsWindowOf}
use Rattle.replay_window.specs.declared.seen.Seen.{Seen}
use Rattle.replay_window.specs.declared.seen.Seen.TheVariants.{Fresh, Repeated, TooOld}
use Rattle.replay_window.specs.declared.window.Window.{Window}

differs : (a b : ℕ) → a ≢ b → eqb a b ≡ false
differs a b apart = elim (eqb_tells a b) [ inl t ↦ absurd (apart t.1) | inr f ↦ f.0 ]

not_le : (a b : ℕ) → b < a → leb a b ≡ false
not_le a b less = elim (leb_tells a b) [ inl t ↦ absurd (omega (arith, t.1)) | inr f ↦ f.0 ]

-- no number above the greatest was taken
pub none_above : (taken : List ℕ) (number : ℕ) → greatest taken < number → is_taken taken number ≡ false
none_above [] number above = refl
none_above (m ∷ taken) number above =
    ap (λ b. b || is_taken taken number) (differs m number (omega arith)) ∙ none_above taken number (omega arith)

-- a number above the greatest is fresh
pub fresh_above : (taken : List ℕ) (number : ℕ) → greatest taken < number → seen taken number ≡ Fresh
fresh_above taken number above =
    let recent : is_too_old taken number ≡ false = not_le (number + 1024) (greatest taken) (omega arith) in
    ap (λ b. cond b (TooOld (greatest taken)) (cond (is_taken taken number) Repeated Fresh)) recent
    ∙ ap (λ b. cond b Repeated Fresh) (none_above taken number above)

-- a fresh number isn't too old
pub recent_when_fresh : (taken : List ℕ) (number : ℕ) → seen taken number ≡ Fresh → greatest taken < number + 1024
recent_when_fresh taken number fresh =
    elim (leb_tells (number + 1024) (greatest taken)) [
      | inl t ↦ (
          let old : seen taken number ≡ TooOld (greatest taken) =
          ap (λ b. cond b (TooOld (greatest taken)) (cond (is_taken taken number) Repeated Fresh)) t.0 in
          cc
          )
      | inr f ↦ f.1
    ]

-- what a mark changes
pub record IsMarkedAt (old new : List ℕ) (number : ℕ) : Type 0 where
  pub marked : is_marked new number ≡ true
  pub others : (x : ℕ) → x % 1024 ≢ number % 1024 → is_marked new x ≡ is_marked old x

-- what an advance of the window's high changes
pub record IsAdvanced (old new : List ℕ) (high to : ℕ) : Type 0 where
  pub cleared : (x : ℕ) → high < x → x < to → to < x + 1024 → is_marked new x ≡ false
  pub kept : (x : ℕ) → x ≤ high → to < x + 1024 → is_marked new x ≡ is_marked old x

-- the mark of a number says whether it is among the taken, with the one that was marked
taken_with : (taken words old : List ℕ) (number x : ℕ) → IsMarkedAt old words number →
    (x ≢ number → x % 1024 ≢ number % 1024) → (x ≢ number → is_marked old x ≡ is_taken taken x) →
    is_marked words x ≡ is_taken (number ∷ taken) x
taken_with taken words old number x mark apart before =
    elim (eqb_tells number x) [
      | inl t ↦ ap (λ y. is_marked words y) (sym t.1) ∙ mark.marked ∙ sym (ap (λ b. b || is_taken taken x) t.0)
      | inr f ↦ (
          let other : x ≢ number = λ same. f.1 (sym same) in
          mark.others x (apart other) ∙ before other ∙ sym (ap (λ b. b || is_taken taken x) f.0)
          )
    ]

pub IsWindowOf-within : (taken : List ℕ) (window : Window) (words : List ℕ) (number : ℕ) → IsWindowOf taken window →
    number ≤ window.high → window.high < number + 1024 → IsMarkedAt window.words words number →
    IsWindowOf (number ∷ taken) (record { high = window.high; words = words })
IsWindowOf-within taken window words number is within recent mark = record {
  high_is = omega (arith, is.high_is);
  marks = λ x below near.
      taken_with taken words window.words number x mark (λ other. omega (arith, is.high_is))
      (λ other. is.marks x (omega (arith, is.high_is)) (omega (arith, is.high_is)));
}

advanced_mark : (taken : List ℕ) (window : Window) (advanced : List ℕ) (to x : ℕ) → IsWindowOf taken window →
    window.high < to → IsAdvanced window.words advanced window.high to → x < to → to < x + 1024 →
    is_marked advanced x ≡ is_taken taken x
advanced_mark taken window advanced to x is above advance below near =
    elim (leb_tells x window.high) [
      | inl t ↦ advance.kept x t.1 near ∙ is.marks x (omega (arith, t.1, is.high_is)) (omega (arith, is.high_is))
      | inr f ↦ advance.cleared x f.1 below near ∙ sym (none_above taken x (omega (arith, f.1, is.high_is)))
    ]

pub IsWindowOf-above : (taken : List ℕ) (window : Window) (advanced words : List ℕ) (number : ℕ) → IsWindowOf taken window →
    window.high < number → IsAdvanced window.words advanced window.high number → IsMarkedAt advanced words number →
    IsWindowOf (number ∷ taken) (record { high = number; words = words })
IsWindowOf-above taken window advanced words number is above advance mark = record {
  high_is = omega (arith, is.high_is);
  marks = λ x below near.
      taken_with taken words advanced number x mark (λ other. omega (arith, is.high_is))
      (λ other. advanced_mark taken window advanced number x is above advance (omega (arith, is.high_is)) (omega (arith, is.high_is)));
}

-- what the window says of a number that isn't too old
seen_recent : (taken : List ℕ) (window : Window) (number : ℕ) → IsWindowOf taken window → window.high < number + 1024 →
    cond (is_taken taken number) Repeated Fresh ≡ cond (leb number window.high) (cond (is_marked window.words number) Repeated Fresh) Fresh
seen_recent taken window number is recent =
    elim (leb_tells number window.high) [
      | inl t ↦ (
          ap (λ b. cond b Repeated Fresh) (sym (is.marks number (omega (arith, t.1, is.high_is)) (omega (arith, is.high_is))))
          ∙ sym (ap (λ b. cond b (cond (is_marked window.words number) Repeated Fresh) Fresh) t.0)
          )
      | inr f ↦ (
          ap (λ b. cond b Repeated Fresh) (none_above taken number (omega (arith, f.1, is.high_is)))
          ∙ sym (ap (λ b. cond b (cond (is_marked window.words number) Repeated Fresh) Fresh) f.0)
          )
    ]

-- what is seen of a number, from the window alone
seen_by : Window → ℕ → Seen
seen_by window number =
    cond (leb (number + 1024) window.high) (TooOld window.high)
    (cond (leb number window.high) (cond (is_marked window.words number) Repeated Fresh) Fresh)

seen_from : (taken : List ℕ) (window : Window) (number : ℕ) → IsWindowOf taken window → seen taken number ≡ seen_by window number
unfolding seen_by
seen_from taken window number is =
    ap (λ g. cond (leb (number + 1024) g) (TooOld g) (cond (is_taken taken number) Repeated Fresh)) (sym is.high_is) ∙ (
    elim (leb_tells (number + 1024) window.high) [
      | inl t ↦ (
          ap (λ b. cond b (TooOld window.high) (cond (is_taken taken number) Repeated Fresh)) t.0
          ∙ sym (ap (λ b. cond b (TooOld window.high) (cond (leb number window.high) (cond (is_marked window.words number) Repeated Fresh) Fresh)) t.0)
          )
      | inr f ↦ ap (λ s. cond (leb (number + 1024) window.high) (TooOld window.high) s) (seen_recent taken window number is f.1)
    ]
    )

-- two lists that leave one window answer alike
same_seen : (taken others : List ℕ) (window : Window) (number : ℕ) → IsWindowOf taken window → IsWindowOf others window →
    seen taken number ≡ seen others number
same_seen taken others window number is of_others =
    seen_from taken window number is ∙ sym (seen_from others window number of_others)

-- so a caller that follows one of them has `take`'s condition
pub IsFresh-from_list : (taken : List ℕ) (window : Window) (number : ℕ) → IsWindowOf taken window → seen taken number ≡ Fresh →
    IsFresh window number
IsFresh-from_list taken window number is fresh = λ others of_others. same_seen others taken window number of_others is ∙ fresh

-- before any number is taken each is fresh
fresh_at_first : (number : ℕ) → seen [] number ≡ Fresh
fresh_at_first number =
    ap (λ b. cond b (TooOld 0) Fresh) (not_le (number + 1024) 0 (omega arith))

-- the window with no mark
none_taken : IsWindowOf [] (record { high = 0; words = replicate 16 0 })
none_taken = record {
  high_is = refl;
  marks = λ number below near.
      let zero : number ≡ 0 = omega arith in
      ap (λ x. is_marked (replicate 16 0) x) zero;
}

pub IsFresh-none_taken : (number : ℕ) → IsFresh (record { high = 0; words = replicate 16 0 }) number
IsFresh-none_taken number = IsFresh-from_list [] _ number none_taken (fresh_at_first number)
