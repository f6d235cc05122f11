-- The bytes of datagrams in lists of them.
use Rattle.std.specs.Prelude.{ℕ, List, map, Vec}
use Rattle.std.specs.declared.alloc.Global.{Global}

abbrev pub bytes_of : List (Vec ℕ Global) → List (List ℕ)
bytes_of datagrams = map (λ d. d.items) datagrams

-- injected datagrams with the numbers after which they come
abbrev pub injections : List (ℕ × Vec ℕ Global) → List (ℕ × List ℕ)
injections injected = map (λ p. (p.0, p.1.items)) injected

-- the bytes of injected datagrams
abbrev pub injected_bytes : List (ℕ × Vec ℕ Global) → List (List ℕ)
injected_bytes injected = map (λ p. p.1) (injections injected)
