-- A link that is open, and what its calls leave of its sends.
use Rattle.std.proofs.Common.{◌≡◌, ℕ, ◌+◌, Bool, true, false, List, [], ◌∷◌, ◌++◌, length, Option, Some, None, IsSome, IsTrue, cond, refl, sym, ap, ◌∙◌, length-append}
use Rattle.std.specs.List.{cons_option}
use Rattle.std.proofs.lemmas.List.{append-nil}
use Rattle.std.proofs.lemmas.List.Elements.{filter_map-append}
use Rattle.ua_base.specs.Journal.{Entry}
use Rattle.mem_edge.specs.Sends.{send_in, sends_in}

pub is_open_from : {X : Type 0} (open_now : Bool) (x : X) → IsSome (cond open_now (Some x) None) → IsTrue open_now
is_open_from true x is = refl
is_open_from false x is = is

-- an entry that is no send
pub sends_kept : (before after : List Entry) (e : Entry) → after ≡ before ++ e ∷ [] → send_in e ≡ None → sends_in after ≡ sends_in before
sends_kept before after e is none = ap sends_in is ∙ filter_map-append send_in before (e ∷ []) ∙ rw none (append-nil (sends_in before))

one_option : (o : Option (Option (List ℕ))) → IsSome o → length (cons_option o []) ≡ 1
one_option None is = cc
one_option (Some x) is = refl

one_send : (e : Entry) → IsSome (send_in e) → length (sends_in (e ∷ [])) ≡ 1
one_send e is = one_option (send_in e) is

-- one more send
pub sends_counted : (before after : List Entry) (e : Entry) (sends : ℕ) → after ≡ before ++ e ∷ [] → IsSome (send_in e) → sends ≡ length (sends_in before) → length (sends_in after) ≡ sends + 1
sends_counted before after e sends is a_send counted =
    ap (λ (l : List Entry). length (sends_in l)) is ∙ ap (λ (l : List (Option (List ℕ))). length l) (filter_map-append send_in before (e ∷ []))
    ∙ length-append (sends_in before) (sends_in (e ∷ [])) ∙ ap (λ (n : ℕ). length (sends_in before) + n) (one_send e a_send) ∙ ap (λ (n : ℕ). n + 1) (sym counted)
