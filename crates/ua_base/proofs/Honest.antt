-- Journals in which each received datagram was sent before.
use Rattle.std.proofs.Common.{◌≡◌, ℕ, ◌⊎◌, true, List, [], ◌∷◌, ◌++◌, All, Contains, refl, sym, ap, ◌∙◌, subst, arith, inl, inr}
use Rattle.std.proofs.Math.Bool.{Bool-set}
use Rattle.std.proofs.Math.Logic.{∥∥₁_elim, ∥∥₁_map}
use Rattle.std.specs.Set.{is_member}
use Rattle.std.specs.Str.{bytes_eq}
use Rattle.std.proofs.lemmas.Slice.Eq.{bytes_eq-Decides}
use Rattle.std.proofs.lemmas.Map.Made.{is_member-Decides}
use Rattle.std.proofs.lemmas.List.Elements.{All-contains_itself, All-weaker, Contains-append_cases, Contains-append_left, Contains-append_right, Contains-get_or, Contains-push_cases}
use Rattle.ua_base.specs.Journal.{Entry, Sent, SendFailed, Got, Empty, Long, ReceiveFailed, IsHonest, sent_list, received_list}
use Rattle.ua_base.proofs.Parts.{sent_list-append}

-- ---- what was sent, in the journal and in the list of it

none_in : {X : Type 0} (x : X) → Contains [] x → ⊥
none_in x h = omega (arith, h.1)

only_in : {X : Type 0} (y x : X) → Contains (y ∷ []) x → y ≡ x
only_in y x h = elim (Contains-push_cases [] y x h) [ inl nothing ↦ absurd (none_in x nothing) | inr is ↦ is ]

pub sent_in : (journal : List Entry) (d : List ℕ) → Contains (sent_list journal) d → Contains journal (Sent d)
sent_in [] d h = absurd (none_in d h)
sent_in (Sent x ∷ journal) d h =
    elim (Contains-append_cases (x ∷ []) (sent_list journal) d h) [
      | inl first ↦ let here : Contains (Sent x ∷ journal) (Sent x) = Contains-get_or (Sent x ∷ journal) 0 (Sent x) (omega arith) in subst (λ (y : List ℕ). Contains (Sent x ∷ journal) (Sent y)) (only_in x d first) here
      | inr later ↦ Contains-append_right (Sent x ∷ []) journal (Sent d) (sent_in journal d later)
    ]
sent_in (SendFailed ∷ journal) d h = Contains-append_right (SendFailed ∷ []) journal (Sent d) (sent_in journal d h)
sent_in (Got x ∷ journal) d h = Contains-append_right (Got x ∷ []) journal (Sent d) (sent_in journal d h)
sent_in (Empty ∷ journal) d h = Contains-append_right (Empty ∷ []) journal (Sent d) (sent_in journal d h)
sent_in (Long n ∷ journal) d h = Contains-append_right (Long n ∷ []) journal (Sent d) (sent_in journal d h)
sent_in (ReceiveFailed ∷ journal) d h = Contains-append_right (ReceiveFailed ∷ []) journal (Sent d) (sent_in journal d h)

in_sent : (journal : List Entry) (d : List ℕ) → Contains journal (Sent d) → Contains (sent_list journal) d
in_sent [] d h = absurd (none_in (Sent d) h)
in_sent (x ∷ journal) d h =
    elim (Contains-append_cases (x ∷ []) journal (Sent d) h) [
      | inl first ↦ let here : Contains (sent_list (Sent d ∷ journal)) d = Contains-get_or (d ∷ sent_list journal) 0 d (omega arith) in subst (λ (e : Entry). Contains (sent_list (e ∷ journal)) d) (sym (only_in x (Sent d) first)) here
      | inr later ↦ subst (λ (l : List (List ℕ)). Contains l d) (sym (sent_list-append (x ∷ []) journal)) (Contains-append_right (sent_list (x ∷ [])) (sent_list journal) d (in_sent journal d later))
    ]

-- ---- a journal that grows by one entry

no_last : (before after : List Entry) (y : Entry) → [] ≡ before ++ y ∷ after → ⊥
no_last [] after y e = cc
no_last (b ∷ before) after y e = cc

-- an entry that stands in what grew stood there before, or it is the new one
split_last : (journal before after : List Entry) (x y : Entry) → journal ++ x ∷ [] ≡ before ++ y ∷ after → ((rest : List Entry) × (journal ≡ before ++ y ∷ rest)) ⊎ ((before ≡ journal) × (x ≡ y))
split_last [] [] after x y e = let same : x ≡ y = cc in inr (refl, same)
split_last [] (b ∷ before) after x y e = let rest : [] ≡ before ++ y ∷ after = cc in absurd (no_last before after y rest)
split_last (a ∷ journal) [] after x y e = let same : a ≡ y = cc in inl (journal, ap (λ (z : Entry). z ∷ journal) same)
split_last (a ∷ journal) (b ∷ before) after x y e =
    let first : a ≡ b = cc in
    let others : journal ++ x ∷ [] ≡ before ++ y ∷ after = cc in
    elim (split_last journal before after x y others) [
      | inl earlier ↦ inl (earlier.0, ap (λ (z : Entry). z ∷ journal) first ∙ ap (λ (l : List Entry). b ∷ l) earlier.1)
      | inr now ↦ inr (ap (λ (z : Entry). z ∷ before) (sym first) ∙ ap (λ (l : List Entry). a ∷ l) now.0, now.1)
    ]

pub honest_start : IsHonest []
honest_start = λ before after d is. absurd (no_last before after (Got d) is)

pub honest_more : (journal : List Entry) (x : Entry) → ((d : List ℕ) → x ≡ Got d → Contains journal (Sent d)) → IsHonest journal → IsHonest (journal ++ x ∷ [])
honest_more journal x sent honest = λ before after d is.
    elim (split_last journal before after x (Got d) is) [
      | inl earlier ↦ honest before earlier.0 d earlier.1
      | inr now ↦ subst (λ (l : List Entry). Contains l (Sent d)) (sym now.0) (sent d now.1)
    ]

-- where a new Got has a datagram that was sent, the journal stays honest
pub honest_after : (journal more : List Entry) (x : Entry) → more ≡ journal ++ x ∷ [] → ((d : List ℕ) → x ≡ Got d → Contains journal (Sent d)) → ∥ IsHonest journal ∥₁ → ∥ IsHonest more ∥₁
honest_after journal more x is sent honest =
    ∥∥₁_map honest (λ (h : IsHonest journal). subst IsHonest (sym is) (honest_more journal x sent h))

-- whether a datagram was sent is decided, so that nothing is lost where honesty is merely known
pub honest_known : (journal : List Entry) → ∥ IsHonest journal ∥₁ → IsHonest journal
honest_known journal honest = λ before after d is.
    let decided = is_member-Decides bytes_eq-Decides (sent_list before) d in
    sent_in before d (decided.0 (∥∥₁_elim honest (Bool-set (is_member bytes_eq (sent_list before) d) true) (λ (h : IsHonest journal). decided.1 (in_sent before d (h before after d is)))))

-- ---- what was received

received_in : (journal : List Entry) (d : List ℕ) → Contains (received_list journal) d → Contains journal (Got d)
received_in [] d h = absurd (none_in d h)
received_in (Got x ∷ journal) d h =
    elim (Contains-append_cases (x ∷ []) (received_list journal) d h) [
      | inl first ↦ let here : Contains (Got x ∷ journal) (Got x) = Contains-get_or (Got x ∷ journal) 0 (Got x) (omega arith) in subst (λ (y : List ℕ). Contains (Got x ∷ journal) (Got y)) (only_in x d first) here
      | inr later ↦ Contains-append_right (Got x ∷ []) journal (Got d) (received_in journal d later)
    ]
received_in (SendFailed ∷ journal) d h = Contains-append_right (SendFailed ∷ []) journal (Got d) (received_in journal d h)
received_in (Sent x ∷ journal) d h = Contains-append_right (Sent x ∷ []) journal (Got d) (received_in journal d h)
received_in (Empty ∷ journal) d h = Contains-append_right (Empty ∷ []) journal (Got d) (received_in journal d h)
received_in (Long n ∷ journal) d h = Contains-append_right (Long n ∷ []) journal (Got d) (received_in journal d h)
received_in (ReceiveFailed ∷ journal) d h = Contains-append_right (ReceiveFailed ∷ []) journal (Got d) (received_in journal d h)

-- where an entry stands
split_at : (journal : List Entry) (x : Entry) → Contains journal x → (before : List Entry) × (after : List Entry) × (journal ≡ before ++ x ∷ after)
split_at [] x h = absurd (none_in x h)
split_at (y ∷ journal) x h =
    elim (Contains-append_cases (y ∷ []) journal x h) [
      | inl first ↦ ([], journal, ap (λ (e : Entry). e ∷ journal) (only_in y x first))
      | inr later ↦ let rest = split_at journal x later in (y ∷ rest.0, rest.1, ap (λ (l : List Entry). y ∷ l) rest.2)
    ]

-- of an honest journal each received datagram was sent
pub received_sent : (journal : List Entry) → IsHonest journal → All (Contains (sent_list journal)) (received_list journal)
received_sent journal honest =
    All-weaker (Contains (received_list journal)) (Contains (sent_list journal))
    (λ d got.
    let at = split_at journal (Got d) (received_in journal d got) in
    subst (λ (l : List Entry). Contains (sent_list l) d) (sym at.2)
    (subst (λ (l : List (List ℕ)). Contains l d) (sym (sent_list-append at.0 (Got d ∷ at.1)))
    (Contains-append_left (sent_list at.0) (sent_list (Got d ∷ at.1)) d (in_sent at.0 d (honest at.0 at.1 d at.2)))))
    (received_list journal) (All-contains_itself (received_list journal))
