-- What a link in memory was made to do.
use Rattle.std.proofs.Common.{◌≡◌, ℕ, Bool, List, ap}
use Rattle.ua_base.specs.Links.{Making}

abbrev making_from : List ℕ → List ℕ → Bool → List (ℕ × List ℕ) → Making
making_from sends receives opening injected = record { injected = injected; send_fails = sends; receive_fails = receives; open_fails = opening }

pub same_making : (new old : List (ℕ × List ℕ)) (sends receives : List ℕ) (opening : Bool) → new ≡ old → making_from sends receives opening new ≡ making_from sends receives opening old
same_making new old sends receives opening same = ap (making_from sends receives opening) same
