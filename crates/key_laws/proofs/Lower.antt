-- A ring of lower tokens changes nothing that is sent.
use Rattle.std.proofs.Common.{◌≡◌, refl, sym, ap, ◌∙◌, subst, arith, ℕ, ◌+◌, ◌<◌, ◌≤◌, nat_lt, nat_le, Bool, true, false, List, [], ◌∷◌, Option, Some, None}
use Rattle.std.specs.Prelude.{if◌then◌else◌}
use Rattle.std.proofs.lemmas.Bool.Decides.{nat_tests}
use Rattle.std.proofs.lemmas.List.Elements.{All-get_or}
use Rattle.message_guard.proofs.Restoring.{number_is}
use Rattle.message_guard.specs.declared.mode.Mode.{Mode}
use Rattle.group_keys.specs.declared.key_set.KeySet.{KeySet}
use Rattle.group_keys.specs.KeySets.{current}
use Rattle.group_keys.proofs.Finding.{last_found_listed}
use Rattle.message_guard.specs.Protection.{keys_in}
use Rattle.message_guard.specs.Senders.{SenderState, SenderStep, TurnTo, Renew, Front, Protect, IsSender, advanced, after, datagrams_of, made_of, number_of, renewed, turned, turned_by}
use Rattle.key_laws.specs.Lower.{AreNoHigher, ChangesNothingSent, RenewNoHigher, next_front, sends_in}

-- the set of a moment has no higher token either
now-no-higher : (token now : ℕ) (sets : List KeySet) (set : KeySet) → AreNoHigher token sets → current sets now ≡ Some set → set.token ≤ token
now-no-higher token now sets set low is =
    let at = last_found_listed (λ (it : KeySet). nat_le it.from now) sets set is in
    subst (λ (it : KeySet). it.token ≤ token) (sym at.1.1) (All-get_or (λ (it : KeySet). it.token ≤ token) sets at.0 set at.1.0 low)

by-test : (s other : SenderState) (token : ℕ) (higher : Bool) → nat_lt s.keys.token token ≡ higher → token ≤ s.keys.token → (if higher then other else s) ≡ s
by-test s other token true above low = let high : s.keys.token < token = grind (arith, nat_tests, above) in absurd (omega (arith, high, low))
by-test s other token false below low = refl

by-set : (s : SenderState) (o : Option KeySet) → ((set : KeySet) → o ≡ Some set → set.token ≤ s.keys.token) → turned_by s o ≡ s
by-set s None low = refl
by-set s (Some set) low =
    by-test s (record s { keys = keys_in set; used = 0; fronted = None }) set.token (nat_lt s.keys.token set.token) refl (low set refl)

stays-put : (s : SenderState) (sets : List KeySet) (now : ℕ) → AreNoHigher s.keys.token sets → turned (renewed s sets) now ≡ renewed s sets
stays-put s sets now low = by-set (renewed s sets) (current sets now) (λ set is. now-no-higher s.keys.token now sets set low is)

sends-same : (s : SenderState) (sets : List KeySet) (steps : List SenderStep) → AreNoHigher s.keys.token sets → RenewNoHigher s.keys.token steps
    → datagrams_of (renewed s sets) steps ≡ datagrams_of s (sends_in steps)
sends-same s sets [] low are = refl
sends-same s sets (TurnTo now ∷ steps) low are =
    ap (λ (it : SenderState). datagrams_of it steps) (stays-put s sets now low) ∙ sends-same s sets steps low are
sends-same s sets (Renew others ∷ steps) low are = sends-same s others steps are.0 are.1
sends-same s sets (Front mode ∷ steps) low are = sends-same (advanced mode s) sets steps low are
sends-same s sets (Protect mode datagram payload ∷ steps) low are =
    ap (λ (l : List (List ℕ)). made_of mode s datagram payload ∷ l) (sends-same (record s { fronted = None }) sets steps low are)

-- behind the steps the sender is as it would be without moments and rings, but for its sets
sets-alone : (s : SenderState) (sets : List KeySet) (steps : List SenderStep) → AreNoHigher s.keys.token sets → RenewNoHigher s.keys.token steps
    → (others : List KeySet) × (after (renewed s sets) steps ≡ renewed (after s (sends_in steps)) others)
sets-alone s sets [] low are = (sets, refl)
sets-alone s sets (TurnTo now ∷ steps) low are =
    let rest = sets-alone s sets steps low are in
    (rest.0, ap (λ (it : SenderState). after it steps) (stays-put s sets now low) ∙ rest.1)
sets-alone s sets (Renew others ∷ steps) low are = sets-alone s others steps are.0 are.1
sets-alone s sets (Front mode ∷ steps) low are = sets-alone (advanced mode s) sets steps low are
sets-alone s sets (Protect mode datagram payload ∷ steps) low are = sets-alone (record s { fronted = None }) sets steps low are

next-number : (s : SenderState) (mode : Mode) → IsSender s → s.used < 4294967295 → number_of (next_front mode s) ≡ (s.keys.token, s.used + 1)
next-number s mode is room = ap (λ (n : ℕ). (s.keys.token, n)) (number_is s.random (s.used + 1) is.random (omega (arith, room)))

pub changes-nothing : (s : SenderState) (sets : List KeySet) → AreNoHigher s.keys.token sets → ChangesNothingSent s sets
changes-nothing s sets low = record {
  stays = λ now. stays-put s sets now low;
  number = λ mode now is room. ap (λ (it : SenderState). number_of (next_front mode it)) (stays-put s sets now low) ∙ next-number s mode is room;
  front = λ mode steps are. ap (next_front mode) (sets-alone s sets steps low are).1;
  sends = λ steps are. sends-same s sets steps low are;
}
