-- A link in memory tells on, for as many answers Nothing as it says.
use Rattle.std.proofs.Common.{◌≡◌, ◌≢◌, ◌≤◌, ℕ, zero, suc, ◌+◌, ◌-◌, ◌^◌, List, [], ◌∷◌, ◌++◌, replicate, Option, Some, None, IsSome, refl, sym, ap, ◌∙◌, subst, append_assoc, arith, add-one}
use Rattle.std.proofs.lemmas.List.{replicate_more}
use Rattle.std.proofs.lemmas.List.Sums.{fold_push}
use Rattle.ua_base.specs.declared.link.Received.{Received}
use Rattle.ua_base.specs.declared.link.Received.TheVariants as received
use Rattle.ua_base.specs.declared.link.Sent.{Sent as SentEnd}
use Rattle.ua_base.specs.declared.link.Sent.TheVariants as sent
use Rattle.ua_base.specs.Journal.{Entry, Sent, SendFailed, Got, Empty, Long, ReceiveFailed, LinkState, Tells, told_more}
use Rattle.ua_base.specs.Links.{TellsOn}
use Rattle.ua_base.specs.Net.{Receives, nothings_in}
use Rattle.mem_edge.specs.declared.memory_link.MemoryLink.{MemoryLink}
use Rattle.mem_edge.specs.Marks.{EndsInNothings}
use Rattle.mem_edge.specs.MemoryLinks.{told_by, nothings_with, nothings_behind, patience_in, patience_of, SendsInMemory}

-- ---- the answers Nothing at a journal's end

behind-push : (journal : List Entry) (entry : Entry) → nothings_behind (journal ++ entry ∷ []) ≡ nothings_with (nothings_behind journal) entry
behind-push journal entry = fold_push nothings_with 0 journal entry

-- so many at the end are counted
behind-end : (front : List Entry) (count : ℕ) → count ≤ nothings_behind (front ++ replicate count Empty)
behind-end front zero = omega arith
behind-end front (suc n) =
    let front_of : List Entry = front ++ replicate n Empty in
    let last : front ++ replicate (suc n) Empty ≡ front_of ++ Empty ∷ [] =
    ap (λ (k : ℕ). front ++ replicate k Empty) (sym (add-one n)) ∙ ap (λ (l : List Entry). front ++ l) (sym (replicate_more n Empty)) ∙ sym (append_assoc front (replicate n Empty) (Empty ∷ [])) in
    let more : nothings_behind (front ++ replicate (suc n) Empty) ≡ nothings_behind front_of + 1 = ap nothings_behind last ∙ behind-push front_of Empty in
    omega (arith, more, behind-end front n)

behind-full : (journal : List Entry) → EndsInNothings journal → 2 ^ 64 - 1 ≤ nothings_behind journal
behind-full journal ends =
    let same : nothings_behind journal ≡ nothings_behind (ends.1 ++ replicate ends.0 Empty) = ap nothings_behind ends.3 in
    omega (arith, same, ends.2, behind-end ends.1 ends.0)

-- ---- what is told, before and after a call

most_patience : (told : Option LinkState) → patience_in told ≤ 2 ^ 64 - 1
most_patience None = omega arith
most_patience (Some state) = omega arith

-- behind another entry it is whole again
whole_again : (old : Option LinkState) (after : LinkState) (journal : List Entry) (entry : Entry) (nothings : ℕ) → after.journal ≡ journal ++ entry ∷ [] → nothings_with (nothings_behind journal) entry ≡ 0
    → patience_in old ≤ patience_in (Some after) + nothings
whole_again old after journal entry nothings is other =
    let none : nothings_behind after.journal ≡ 0 = ap nothings_behind is ∙ behind-push journal entry ∙ other in
    omega (arith, none, most_patience old)

-- a call that stops no telling
some_on : (old new : Option LinkState) → (new ≡ None → old ≡ None) → IsSome old → IsSome new
some_on old None on is = subst (λ (o : Option LinkState). IsSome o) (on refl) is
some_on old (Some after) on is = refl

none_left : (old : Option LinkState) (n : ℕ) → old ≡ None → patience_in old ≤ n
none_left old n none =
    let nothing : patience_in old ≡ 0 = ap patience_in none in
    omega (arith, nothing)

some_more : (told : Option LinkState) (entries : List Entry) (more : List (List ℕ)) → IsSome told → IsSome (told_more told entries more)
some_more None entries more is = is
some_more (Some state) entries more is = refl

left_more : (told : Option LinkState) (entry : Entry) (more : List (List ℕ)) → ((n : ℕ) → nothings_with n entry ≡ 0) → patience_in told ≤ patience_in (told_more told (entry ∷ []) more) + 0
left_more None entry more other = omega arith
left_more (Some state) entry more other = whole_again (Some state) (record { journal = state.journal ++ entry ∷ []; waiting = state.waiting ++ more }) state.journal entry 0 refl (other (nothings_behind state.journal))

some_received : (result : Received) (old new : Option LinkState) → ((before : LinkState) → old ≡ Some before → new ≡ None → EndsInNothings before.journal) → (result ≢ received.Nothing → new ≡ None → old ≡ None)
    → nothings_in result ≤ patience_in old → IsSome old → IsSome new
some_received result old (Some after) ends on enough is = refl
some_received (received.Datagram n) old None ends on enough is = some_on old None (on (λ same. cc)) is
some_received (received.Long n) old None ends on enough is = some_on old None (on (λ same. cc)) is
some_received received.Failed old None ends on enough is = some_on old None (on (λ same. cc)) is
some_received received.Nothing None None ends on enough is = is
some_received received.Nothing (Some before) None ends on enough is = absurd (omega (arith, enough, behind-full before.journal (ends before refl refl)))

left_received : (result : Received) (into : List ℕ) (old new : Option LinkState) → ((before : LinkState) → old ≡ Some before → new ≡ None → EndsInNothings before.journal) → (result ≢ received.Nothing → new ≡ None → old ≡ None)
    → Tells old new (Receives result into) → patience_in old ≤ patience_in new + nothings_in result
left_received (received.Datagram n) into old None ends on did = none_left old _ (on (λ same. cc) refl)
left_received (received.Long n) into old None ends on did = none_left old _ (on (λ same. cc) refl)
left_received received.Failed into old None ends on did = none_left old _ (on (λ same. cc) refl)
left_received received.Nothing into None None ends on did = omega arith
left_received received.Nothing into (Some before) None ends on did = omega (arith, behind-full before.journal (ends before refl refl))
left_received (received.Datagram n) into old (Some after) ends on did = whole_again old after did.0.journal _ 0 did.2.0 refl
left_received (received.Long n) into old (Some after) ends on did = whole_again old after did.0.journal _ 0 did.2.0 refl
left_received received.Failed into old (Some after) ends on did = whole_again old after did.0.journal _ 0 did.2.0 refl
left_received received.Nothing into old (Some after) ends on did =
    let before : LinkState = did.0 in
    let was : patience_in old ≡ 2 ^ 64 - 1 - nothings_behind before.journal = ap patience_in did.1 in
    let one : nothings_behind after.journal ≡ nothings_behind before.journal + 1 = ap nothings_behind did.2.0 ∙ behind-push before.journal Empty in
    omega (arith, was, one)

-- ---- calls

pub same_lasts : (old new : MemoryLink) → told_by new ≡ told_by old → TellsOn told_by patience_of 0 old new
same_lasts old new same =
    let left : patience_in (told_by new) ≡ patience_in (told_by old) = ap patience_in same in
    record { tells = λ enough is. subst (λ (o : Option LinkState). IsSome o) (sym same) is; left = omega (arith, left) }

pub opened_lasts : (old new : MemoryLink) → Tells (told_by old) (told_by new) (λ before after. after ≡ record { journal = []; waiting = [] }) → (told_by new ≡ None → told_by old ≡ None) → TellsOn told_by patience_of 0 old new
opened_lasts old new empty on = record { tells = λ enough is. some_on (told_by old) (told_by new) on is; left = left_opened (told_by old) (told_by new) empty on }
  where
    left_opened : (was now : Option LinkState) → Tells was now (λ before after. after ≡ record { journal = []; waiting = [] }) → (now ≡ None → was ≡ None) → patience_in was ≤ patience_in now + 0
    left_opened was None did none = none_left was _ (none refl)
    left_opened was (Some after) did none =
        let nothing : nothings_behind after.journal ≡ 0 = ap (λ (w : LinkState). nothings_behind w.journal) did.2 in
        omega (arith, nothing, most_patience was)

pub more_lasts : (old new : MemoryLink) (entry : Entry) (more : List (List ℕ)) → ((n : ℕ) → nothings_with n entry ≡ 0) → told_by new ≡ told_more (told_by old) (entry ∷ []) more → TellsOn told_by patience_of 0 old new
more_lasts old new entry more other told =
    let left : patience_in (told_by new) ≡ patience_in (told_more (told_by old) (entry ∷ []) more) = ap patience_in told in
    record {
      tells = λ enough is. subst (λ (o : Option LinkState). IsSome o) (sym told) (some_more (told_by old) (entry ∷ []) more is);
      left = omega (arith, left, left_more (told_by old) entry more other);
    }

pub sent_lasts : (result : SentEnd) (datagram : List ℕ) (old new : MemoryLink) → SendsInMemory datagram result old new → TellsOn told_by patience_of 0 old new
sent_lasts sent.Done datagram old new did = more_lasts old new (Sent datagram) _ (λ n. refl) did.0
sent_lasts sent.Failed datagram old new did = more_lasts old new SendFailed _ (λ n. refl) did.0
sent_lasts sent.Memory datagram old new did = same_lasts old new did.0

pub received_lasts : (result : Received) (into : List ℕ) (old new : MemoryLink) → ((before : LinkState) → told_by old ≡ Some before → told_by new ≡ None → EndsInNothings before.journal) → (result ≢ received.Nothing → told_by new ≡ None → told_by old ≡ None)
    → Tells (told_by old) (told_by new) (Receives result into) → TellsOn told_by patience_of (nothings_in result) old new
received_lasts result into old new ends on did = record {
  tells = λ enough is. some_received result (told_by old) (told_by new) ends on enough is;
  left = left_received result into (told_by old) (told_by new) ends on did;
}
