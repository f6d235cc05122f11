-- A sender that rings of lower tokens alone renew.
use Rattle.std.specs.Prelude.{◌≡◌, ⊤, ℕ, ◌+◌, ◌<◌, ◌≤◌, List, [], ◌∷◌, All}
use Rattle.group_keys.specs.declared.key_set.KeySet.{KeySet}
use Rattle.uadp_header.specs.Headers.{SecurityValue}
use Rattle.message_guard.specs.declared.mode.Mode.{Mode}
use Rattle.message_guard.specs.Senders.{SenderState, SenderStep, TurnTo, Renew, Front, Protect, IsSender, advanced, after, datagrams_of, front_value, number_of, renewed, turned}

-- none of these sets has a higher token than this
abbrev pub AreNoHigher : ℕ → List KeySet → Type 0
AreNoHigher token sets = All (λ set. set.token ≤ token) sets

-- none of the rings among the steps has one
abbrev pub RenewNoHigher : ℕ → List SenderStep → Type 0
RenewNoHigher token [] = ⊤
RenewNoHigher token (TurnTo now ∷ steps) = RenewNoHigher token steps
RenewNoHigher token (Renew sets ∷ steps) = AreNoHigher token sets × RenewNoHigher token steps
RenewNoHigher token (Front mode ∷ steps) = RenewNoHigher token steps
RenewNoHigher token (Protect mode datagram payload ∷ steps) = RenewNoHigher token steps

-- the fronts and what they protect, without the moments and the rings between them
abbrev pub sends_in : List SenderStep → List SenderStep
sends_in [] = []
sends_in (TurnTo now ∷ steps) = sends_in steps
sends_in (Renew sets ∷ steps) = sends_in steps
sends_in (Front mode ∷ steps) = Front mode ∷ sends_in steps
sends_in (Protect mode datagram payload ∷ steps) = Protect mode datagram payload ∷ sends_in steps

-- the next security header: what `Sender::front` then gives
abbrev pub next_front : Mode → SenderState → SecurityValue
next_front mode s = front_value mode (advanced mode s)

-- Renewed by these sets the sender keeps token, keys and number at whichever moment, and its next security header has the token, and
-- the number behind the last, where one is left. Behind whatever steps, also with further such rings among them, the next security
-- header is the same, and so is each datagram of the steps, as if the sender had come to no moment and no ring.
pub record ChangesNothingSent (s : SenderState) (sets : List KeySet) : Type 0 where
  pub stays : (now : ℕ) → turned (renewed s sets) now ≡ renewed s sets
  pub number : (mode : Mode) (now : ℕ) → IsSender s → s.used < 4294967295
      → number_of (next_front mode (turned (renewed s sets) now)) ≡ (s.keys.token, s.used + 1)
  pub front : (mode : Mode) (steps : List SenderStep) → RenewNoHigher s.keys.token steps
      → next_front mode (after (renewed s sets) steps) ≡ next_front mode (after s (sends_in steps))
  pub sends : (steps : List SenderStep) → RenewNoHigher s.keys.token steps
      → datagrams_of (renewed s sets) steps ≡ datagrams_of s (sends_in steps)
