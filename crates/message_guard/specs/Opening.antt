-- What a receiver says of a datagram whose header was read: the refusals in their order, each with its test.
use Rattle.std.specs.Prelude.{ℕ, ◌+◌, ◌-◌, List, [], ◌∷◌, ◌++◌, length, take, drop, min, find, Bool, false, not, ◌&&◌, nat_lt, ◌==◌, bytes_eq, Option, Some, None, is_none, Result, Ok, Err, slice_range, if◌then◌else◌}
use Rattle.hmac_sign.specs.Hmac.{hmac_sha256}
use Rattle.replay_window.specs.Taken.{greatest, is_taken, is_too_old}
use Rattle.uadp_header.specs.Headers.{SecurityValue}
use Rattle.message_guard.specs.declared.keys.TokenKeys.{TokenKeys}
use Rattle.message_guard.specs.declared.mode.Mode.{Mode}
use Rattle.message_guard.specs.declared.open_fault.OpenFault.{OpenFault}
use Rattle.message_guard.specs.declared.open_fault.OpenFault.TheVariants.{ModeDiffers, FooterOut, KeyResetOut, BadNonceLength, Short, UnknownToken, OldToken, BadSignature, Repeated, TooOld}
use Rattle.message_guard.specs.declared.pass.Pass1.{Pass1}
use Rattle.message_guard.specs.Modes.{is_secured, encrypts, is_same}
use Rattle.message_guard.specs.Protection.{keys_with, number_in, with_stream, body_of, signature_of, message_nonce}
use Rattle.message_guard.specs.Acceptance.{Accepted, highest, numbers_of}

-- the refusal of the first test that holds, or else the value
abbrev pub judged_by : {F X : Type 0} → Option (Bool × F) → X → Result X F
judged_by None x = Ok x
judged_by (Some refusal) x = Err refusal.1

-- tests in their order, each with the refusal where it holds: the first that holds is answered, or else the value
abbrev pub judged : {F X : Type 0} → List (Bool × F) → X → Result X F
judged list x = judged_by (find (λ test. test.0) list) x

-- a test, and the refusal where it holds
abbrev pub Refusals : Type 0
Refusals = List (Bool × OpenFault)

-- the header says signed and encrypted as the mode wants it; no security header counts as neither
abbrev pub has_mode : Mode → Option SecurityValue → Bool
has_mode mode None = not (is_secured mode)
has_mode mode (Some part) = is_same part.signed (is_secured mode) && is_same part.encrypted (encrypts mode)

-- the last 32 bytes are the signature of all before them, under these keys
abbrev pub is_signed : Option TokenKeys → List ℕ → Bool
is_signed None datagram = false
is_signed (Some keys) datagram = bytes_eq (signature_of datagram) (hmac_sha256 keys.signing (body_of datagram))

-- of the security header, and of the room behind it
abbrev pub front_refusals : SecurityValue → List ℕ → ℕ → Refusals
front_refusals part datagram payload =
    (part.footer, FooterOut)
    ∷ (part.reset, KeyResetOut)
    ∷ (not (length part.nonce == 8), BadNonceLength (min 255 (length part.nonce)))
    ∷ (nat_lt (length datagram) (payload + 32), Short)
    ∷ []

-- of the token, the signature under it, and the number
abbrev pub token_refusals : List TokenKeys → Accepted → ℕ → ℕ → List ℕ → Refusals
token_refusals keys accepted token number datagram =
    let taken = numbers_of accepted token in
    (is_none (keys_with keys token), UnknownToken token)
    ∷ (nat_lt token (highest accepted), OldToken token (highest accepted))
    ∷ (not (is_signed (keys_with keys token) datagram), BadSignature)
    ∷ (is_taken taken number && not (is_too_old taken number), Repeated)
    ∷ (is_too_old taken number, TooOld (greatest taken))
    ∷ []

abbrev pub secured_refusals : List TokenKeys → Accepted → SecurityValue → List ℕ → ℕ → Refusals
secured_refusals keys accepted part datagram payload =
    front_refusals part datagram payload ++ token_refusals keys accepted part.token (number_in part.nonce) datagram

-- all refusals in their order; with the mode None only ModeDiffers can come
abbrev pub later_refusals : Mode → List TokenKeys → Accepted → Option SecurityValue → List ℕ → ℕ → Refusals
later_refusals mode keys accepted None datagram payload = []
later_refusals mode keys accepted (Some part) datagram payload =
    if is_secured mode then secured_refusals keys accepted part datagram payload else []

abbrev pub refusals : Mode → List TokenKeys → Accepted → Option SecurityValue → List ℕ → ℕ → Refusals
refusals mode keys accepted security datagram payload =
    (not (has_mode mode security), ModeDiffers) ∷ later_refusals mode keys accepted security datagram payload

-- what is known of a datagram that isn't refused
abbrev pub open_pass : List ℕ → Pass1
open_pass datagram = record { token = 0; number = 0; random = 0 ∷ 0 ∷ 0 ∷ 0 ∷ []; end = length datagram }

abbrev pub signed_pass : SecurityValue → List ℕ → Pass1
signed_pass part datagram =
    record { token = part.token; number = number_in part.nonce; random = take 4 part.nonce; end = length datagram - 32 }

abbrev pub pass_of : Mode → Option SecurityValue → List ℕ → Pass1
pass_of mode None datagram = open_pass datagram
pass_of mode (Some part) datagram = if is_secured mode then signed_pass part datagram else open_pass datagram

-- what the guard answers
abbrev pub verdict : Mode → List TokenKeys → Accepted → Option SecurityValue → List ℕ → ℕ → Result Pass1 OpenFault
verdict mode keys accepted security datagram payload =
    judged (refusals mode keys accepted security datagram payload) (pass_of mode security datagram)

-- the pairs accepted once this pass is
abbrev pub accepts : Mode → Pass1 → Accepted → Accepted
accepts mode pass accepted = if is_secured mode then (pass.token, pass.number) ∷ accepted else accepted

-- the bytes under the keys of a token, or as they are where the ring lacks it
abbrev pub without_stream : Mode → Option TokenKeys → List ℕ → ℕ → List ℕ → List ℕ
without_stream mode None nonce first_block bytes = bytes
without_stream mode (Some keys) nonce first_block bytes = with_stream mode keys nonce first_block bytes

-- the datagram with what stands between the header and the pass's end decrypted
abbrev pub opened : Mode → List TokenKeys → ℕ → Pass1 → ℕ → List ℕ → List ℕ
opened mode keys first_block pass payload datagram =
    take payload datagram
    ++ without_stream mode (keys_with keys pass.token) (message_nonce pass.random pass.number) first_block (slice_range datagram payload pass.end)
    ++ drop pass.end datagram
