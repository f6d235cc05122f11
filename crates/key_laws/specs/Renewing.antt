-- A sender that the ring of its service renews.
use Rattle.std.specs.Prelude.{◌≡◌, ◌⊎◌, ℕ, ◌<◌, ◌≤◌, Some}
use Rattle.group_keys.specs.declared.key_set.KeySet.{KeySet}
use Rattle.group_keys.specs.declared.ring.Ring.{Ring}
use Rattle.group_keys.specs.KeySets.{current}
use Rattle.group_keys.specs.Ring.{key_sets}
use Rattle.message_guard.specs.Senders.{AreKeysOf, SenderState}

-- The ring takes the sender on at the moment: the set that it uses then has a higher token than the one in use, or it is the one in
-- use, with the keys in use.
abbrev pub TakesOn : Ring → ℕ → SenderState → Type 0
TakesOn ring moment s = (set : KeySet) → current (key_sets ring) moment ≡ Some set
    → (s.keys.token < set.token) ⊎ AreKeysOf s.keys set

-- the token in use isn't above that of the set which the ring uses at the moment
abbrev pub IsNotAhead : Ring → ℕ → SenderState → Type 0
IsNotAhead ring moment s = (set : KeySet) → current (key_sets ring) moment ≡ Some set → s.keys.token ≤ set.token
