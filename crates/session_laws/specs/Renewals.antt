-- Lives, in which rings renew a session's keys: what a writer did, what a key group protected, under which token it protects, and what a read group took.
use Rattle.std.specs.Prelude.{◌<◌, ◌≤◌, ◌≢◌, ◌^◌, ⊤, ℕ, List, [], ◌∷◌, map, All, AllPairs}
use Rattle.group_keys.specs.declared.key_set.KeySet.{KeySet}
use Rattle.message_guard.specs.Acceptance.{Accepted}
use Rattle.ps_config.specs.Rings.{key_set}
use Rattle.group_laws.specs.Witness.{three_keys}
use Rattle.pubsub_model.specs.Cadence.{WriterDeed}
use Rattle.writer_group.specs.Turns.{writer_past}
use Rattle.session_model.specs.Deeds.{group_past}
use Rattle.session_model.specs.Lives.{Lived, Stepped, Renewed, account_in}
use Rattle.session_model.specs.Steps.{Plan}
use Rattle.session_laws.specs.Fresh.{protected_in, token_after}
use Rattle.session_laws.specs.Witness.{three_session}

-- each token has 32 bits, as those of each ring in memory
abbrev pub HaveShortTokens : List KeySet → Type 0
HaveShortTokens sets = All (λ set. set.token < 2 ^ 32) sets

-- so have those of all rings of a life
abbrev pub HasShortTokens : List Lived → Type 0
HasShortTokens [] = ⊤
HasShortTokens (Stepped step ∷ before) = HasShortTokens before
HasShortTokens (Renewed keygroup sets ∷ before) = HaveShortTokens sets × HasShortTokens before

-- what a writer did, the latest first
abbrev pub deeds_in_life : Plan → ℕ → ℕ → List Lived → List WriterDeed
deeds_in_life p g w life = writer_past w (group_past p.config g (account_in p life).deeds)

-- the datagrams that a key group protected, the first first
abbrev pub protected_in_life : Plan → ℕ → List Lived → List (List ℕ)
protected_in_life p k life = protected_in p.config k (account_in p life).deeds

-- the token under which it protects after the life
abbrev pub token_in_life : Plan → ℕ → List Lived → ℕ
token_in_life p k life = token_after p.config k (account_in p life).deeds

-- the pairs of token and number that a read group took, the latest first
abbrev pub taken_in_life : Plan → ℕ → List Lived → Accepted
taken_in_life p r life = ((account_in p life).readings r).value.accepted

-- no pair comes twice
abbrev pub AreDistinctPairs : Accepted → Type 0
AreDistinctPairs taken = AllPairs (λ pair earlier. pair ≢ earlier) taken

-- no pair has a lower token than an earlier one
abbrev pub TokensRise : Accepted → Type 0
TokensRise taken = AllPairs (λ pair earlier. earlier.0 ≤ pair.0) taken

-- the small session of a signed group, which a ring with the keys of its configuration renews at its end
abbrev pub renewed_life : List Lived
renewed_life = Renewed 0 (map key_set three_keys.key) ∷ map Stepped three_session
