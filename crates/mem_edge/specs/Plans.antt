-- What a plan holds of the fates and of the injected datagrams.
use Rattle.std.specs.Prelude.{◌≡◌, ◌≤◌, ℕ, ◌==◌, List, length, map, filter}
use Rattle.std.specs.List.{filter_map, enumerate_from}
use Rattle.ua_base.specs.declared.link.Fate.{Fate}
use Rattle.mem_edge.specs.declared.plan.Plan.{Plan}
use Rattle.mem_edge.specs.Holds.{hold_of}

-- the injected pairs, each with its place in the list in place of its bytes
abbrev pub places_of : List (ℕ × List ℕ) → List (ℕ × ℕ)
places_of injected = map (λ e. (e.1.0, e.0)) (enumerate_from 0 injected)

pub record IsPlan (fates : List (ℕ × Fate)) (injected : List (ℕ × List ℕ)) (plan : Plan) : Type 0 where
  pub fated : (number : ℕ) → filter (λ f. f.0 == number) plan.fates.pairs.items ≡ filter (λ f. f.0 == number) fates
  pub held : (number : ℕ) → filter (λ h. h.0 == number) plan.held.pairs.items ≡ filter (λ h. h.0 == number) (filter_map (λ f. hold_of f.0 f.1) plan.fates.pairs.items)
  pub placed : (number : ℕ) → filter (λ p. p.0 == number) plan.injected.pairs.items ≡ filter (λ p. p.0 == number) (places_of injected)

-- no datagram has two fates
abbrev pub IsOnce : List (ℕ × Fate) → Type 0
IsOnce fates = (number : ℕ) → length (filter (λ f. f.0 == number) fates) ≤ 1
