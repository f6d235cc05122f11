-- The clone of a key set is the key set.
use Rattle.std.proofs.Common.{◌≡◌, ℕ, List, ◌∙◌, ap}
use Rattle.std.specs.List.{AllZip, each_same}
use Rattle.group_keys.specs.declared.key_set.KeySet.{KeySet}

-- what the derived clone says, field by field
abbrev IsCopy : KeySet → KeySet → Type 0
IsCopy set copy =
    (copy.token ≡ set.token) × ((copy.from ≡ set.from) × ((copy.signing ≡ set.signing)
    × (AllZip (λ x y. y ≡ x) set.encrypting.items copy.encrypting.items × (copy.nonce ≡ set.nonce))))

abbrev made : ℕ → ℕ → List ℕ → List ℕ → List ℕ → KeySet
made token from signing encrypting nonce =
    record { token = token; from = from; signing = signing; encrypting = record { items = encrypting }; nonce = nonce }

pub same_set : (set copy : KeySet) → IsCopy set copy → copy ≡ set
same_set set copy is =
    let encrypting : copy.encrypting.items ≡ set.encrypting.items =
    each_same set.encrypting.items copy.encrypting.items is.1.1.1.0 in
    ap (λ token. made token copy.from copy.signing copy.encrypting.items copy.nonce) is.0
    ∙ ap (λ from. made set.token from copy.signing copy.encrypting.items copy.nonce) is.1.0
    ∙ ap (λ signing. made set.token set.from signing copy.encrypting.items copy.nonce) is.1.1.0
    ∙ ap (λ bytes. made set.token set.from set.signing bytes copy.nonce) encrypting
    ∙ ap (λ nonce. made set.token set.from set.signing set.encrypting.items nonce) is.1.1.1.1
