-- A datagram is handed to one read group after another.
use Rattle.std.proofs.Common.{◌≡◌, refl, ap, ◌∙◌, subst, arith, ℕ, zero, suc, ◌+◌, ◌<◌, ◌≤◌, ◌≢◌, ◌⊎◌, inl, inr, Bool, true, false, List, length, get_or}
use Rattle.std.specs.Prelude.{◌==◌, if◌then◌else◌}
use Rattle.std.proofs.lemmas.Bool.Decides.{eqb_tells}
use Rattle.ua_base.specs.Journal.{Got}
use Rattle.ps_config.specs.declared.parts.Config.{Config}
use Rattle.pubsub_states.specs.Changes.{TreeValue}
use Rattle.reader_group.specs.Groups.{Stands}
use Rattle.reader_group.specs.Plain.{Event}
use Rattle.session_model.specs.Steps.{Step, moment_of}
use Rattle.session_model.specs.Readings.{Reading, answered_on, read_on, setting_in}
use Rattle.session_parts.specs.declared.subscriber.Subscriber.{Subscriber}
use Rattle.session_parts.specs.Standing.{IsTallyOf}
use Rattle.session_parts.specs.Pumping.{Hands, HasSwitches, HaveGot, brought, with_brought}

-- what befell the read groups matters for those that there are
pub got-same : (config : Config) (from : ℕ → Reading) (befell other : ℕ → List Event) (subscriber : Subscriber) → ((r : ℕ) → r < length config.readgroup → befell r ≡ other r)
    → HaveGot config from befell subscriber → HaveGot config from other subscriber
got-same config from befell other subscriber same got = record {
  readings = λ r low d. subst (λ (l : List Event). Stands (setting_in config r (from r)) (read_on (setting_in config r (from r)) (from r).value l) (get_or subscriber.groups.items r d)) (same r low) (got.readings r low d);
  tallies = λ r low d. subst (λ (l : List Event). IsTallyOf (answered_on (setting_in config r (from r)) (from r) l) (get_or subscriber.tallies.items r d)) (same r low) (got.tallies r low d);
}

-- what befell them once the first n were handed the datagram
pub brought_to : Config → List Step → List ℕ → (ℕ → List Event) → ℕ → ℕ → List Event
brought_to config before datagram befell zero q = befell q
brought_to config before datagram befell (suc n) q = with_brought config before datagram n (brought_to config before datagram befell n) q

above : (config : Config) (before : List Step) (datagram : List ℕ) (befell : ℕ → List Event) (n q : ℕ) → n ≤ q → brought_to config before datagram befell n q ≡ befell q
unfolding brought_to
above config before datagram befell zero q at = refl
above config before datagram befell (suc n) q at = by_case (eqb_tells q n) (above config before datagram befell n q (omega (arith, at)))
  where
    by_case : ((q == n) ≡ true) × (q ≡ n) ⊎ ((q == n) ≡ false) × (q ≢ n) → brought_to config before datagram befell n q ≡ befell q
        → (if q == n then brought config before (Got datagram) q (brought_to config before datagram befell n q) else brought_to config before datagram befell n q) ≡ befell q
    by_case (inl same) rest = absurd (omega (arith, same.1, at))
    by_case (inr other) rest =
        ap (λ (b : Bool). if b then brought config before (Got datagram) q (brought_to config before datagram befell n q) else brought_to config before datagram befell n q) other.0 ∙ rest

below : (config : Config) (before : List Step) (datagram : List ℕ) (befell : ℕ → List Event) (n q : ℕ) → q < n
    → brought_to config before datagram befell n q ≡ brought config before (Got datagram) q (befell q)
unfolding brought_to
below config before datagram befell zero q low = absurd (omega (arith, low))
below config before datagram befell (suc n) q low = by_case (eqb_tells q n) (λ less. below config before datagram befell n q less)
  where
    by_case : ((q == n) ≡ true) × (q ≡ n) ⊎ ((q == n) ≡ false) × (q ≢ n)
        → (q < n → brought_to config before datagram befell n q ≡ brought config before (Got datagram) q (befell q))
        → (if q == n then brought config before (Got datagram) q (brought_to config before datagram befell n q) else brought_to config before datagram befell n q)
        ≡ brought config before (Got datagram) q (befell q)
    by_case (inl same) rest =
        ap (λ (b : Bool). if b then brought config before (Got datagram) q (brought_to config before datagram befell n q) else brought_to config before datagram befell n q) same.0
        ∙ ap (brought config before (Got datagram) q) (above config before datagram befell n q (omega (arith, same.1)))
    by_case (inr other) rest =
        ap (λ (b : Bool). if b then brought config before (Got datagram) q (brought_to config before datagram befell n q) else brought_to config before datagram befell n q) other.0
        ∙ rest (omega (arith, low, other.1))

-- the first n read groups were handed the datagram
pub record HandedTo (config : Config) (tree : TreeValue) (moment : ℕ) (datagram : List ℕ) (n : ℕ) (old new : Subscriber) : Type 0 where
  pub got : (before : List Step) (from : ℕ → Reading) (befell : ℕ → List Event) → HasSwitches config before tree → moment ≡ moment_of before → HaveGot config from befell old
      → HaveGot config from (brought_to config before datagram befell n) new

pub handed-none : (config : Config) (tree : TreeValue) (moment : ℕ) (datagram : List ℕ) (subscriber : Subscriber) → HandedTo config tree moment datagram 0 subscriber subscriber
unfolding brought_to
handed-none config tree moment datagram subscriber = record { got = λ before from befell switches now got. got }

pub handed-more : (config : Config) (tree : TreeValue) (moment : ℕ) (datagram : List ℕ) (n : ℕ) (old mid new : Subscriber)
    → HandedTo config tree moment datagram n old mid → Hands config tree moment n datagram mid new → HandedTo config tree moment datagram (n + 1) old new
unfolding brought_to
handed-more config tree moment datagram n old mid new so_far hands = record {
  got = λ before from befell switches now got.
      let on : suc n ≡ n + 1 = omega arith in
      subst (λ (m : ℕ). HaveGot config from (brought_to config before datagram befell m) new) on
      (hands before from (brought_to config before datagram befell n) switches now (so_far.got before from befell switches now got));
}

-- all of them were
pub handed-all : (config : Config) (tree : TreeValue) (moment : ℕ) (datagram : List ℕ) (n : ℕ) (old new : Subscriber) → n ≡ length config.readgroup
    → HandedTo config tree moment datagram n old new
    → (before : List Step) (from : ℕ → Reading) (befell : ℕ → List Event) → HasSwitches config before tree → moment ≡ moment_of before → HaveGot config from befell old
    → HaveGot config from (λ r. brought config before (Got datagram) r (befell r)) new
handed-all config tree moment datagram n old new all handed before from befell switches now got =
    got-same config from (brought_to config before datagram befell n) (λ r. brought config before (Got datagram) r (befell r)) new
    (λ r low. below config before datagram befell n r (omega (arith, low, all))) (handed.got before from befell switches now got)
