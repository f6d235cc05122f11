-- Whether a datagram that comes to a subscriber is one for a read group of it.
use Rattle.std.proofs.Common.{◌≡◌, ◌≢◌, refl, sym, ap, ◌∙◌, subst, ℕ, Bool, true, false, List, inl, inr, Option, Some}
use Rattle.std.specs.Prelude.{◌⊎◌, ◌==◌, ◌&&◌, slice_get}
use Rattle.std.specs.List.{HoldsAt}
use Rattle.std.specs.Option.{option_map_or}
use Rattle.std.proofs.lemmas.Bool.Decides.{eqb_tells}
use Rattle.std.proofs.lemmas.Option.{get_or_from_slice_get}
use Rattle.reader_group.specs.Filter.{takes_number}
use Rattle.device.specs.declared.listening.Listening.{Listening}
use Rattle.device.specs.declared.subscriber.Subscriber.{Subscriber}
use Rattle.device.specs.Sides.{PassesNumber, TakesNumber}
use Rattle.device_laws.specs.Subscribing.{is_for, takes_at}

-- it comes to the read group with index r, which takes its number
abbrev pub Reaches : Subscriber → ℕ → ℕ → List ℕ → Type 0
Reaches subscriber group r datagram = (group ≡ r) × TakesNumber r datagram subscriber

-- it comes to another, or the read group takes another number
abbrev pub Misses : Subscriber → ℕ → ℕ → List ℕ → Type 0
Misses subscriber group r datagram = (group ≢ r) ⊎ ((group ≡ r) × PassesNumber r datagram subscriber)

abbrev pub Tells : Bool → Type 0 → Type 0 → Type 0
Tells b Hit Miss = ((b ≡ true) × Hit) ⊎ ((b ≡ false) × Miss)

pub reach : (subscriber : Subscriber) (group r : ℕ) (datagram : List ℕ) (l : Listening) → slice_get subscriber.groups.items r ≡ Some l
    → Tells (is_for subscriber group r datagram) (Reaches subscriber group r datagram) (Misses subscriber group r datagram)
reach subscriber group r datagram l at = on (group == r) (eqb_tells group r) (takes_number l.number datagram) refl
  where
    takes-is : takes_at subscriber r datagram ≡ takes_number l.number datagram
    takes-is = ap (λ (o : Option Listening). option_map_or (λ listening. takes_number listening.number datagram) o false) at

    at-r : (t : Bool) → takes_number l.number datagram ≡ t → HoldsAt (λ listening. takes_number listening.number datagram ≡ t) subscriber.groups.items r
    at-r t e = λ d. subst (λ (x : Listening). takes_number x.number datagram ≡ t) (sym (get_or_from_slice_get subscriber.groups.items r l d at)) e

    on : (b : Bool) → Tells b (group ≡ r) (group ≢ r) → (t : Bool) → takes_number l.number datagram ≡ t → Tells (b && takes_at subscriber r datagram) (Reaches subscriber group r datagram) (Misses subscriber group r datagram)
    on true (inl hit) true e = inl (takes-is ∙ e, (hit.1, at-r true e))
    on true (inl hit) false e = inr (takes-is ∙ e, inr (hit.1, at-r false e))
    on true (inr miss) t e = absurd (let m = miss.0 in cc)
    on false (inl hit) t e = absurd (let m = hit.0 in cc)
    on false (inr miss) t e = inr (refl, inl miss.1)
