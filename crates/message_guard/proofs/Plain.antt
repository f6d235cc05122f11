-- Without security datagrams are passed as they are.
use Rattle.std.proofs.Common.{◌≡◌, ℕ, ◌-◌, ◌≤◌, true, false, not, List, [], ◌∷◌, ◌++◌, length, take, drop, refl, sym, ◌∙◌, ap, arith, append_assoc, Option, None, Some, Ok}
use Rattle.std.proofs.lemmas.List.{drop-drop, take-append-drop}
use Rattle.uadp_header.specs.Headers.{SecurityValue}
use Rattle.message_guard.specs.declared.keys.TokenKeys.{TokenKeys}
use Rattle.message_guard.specs.declared.mode.Mode.{Mode}
use Rattle.message_guard.specs.declared.mode.Mode.TheVariants as modes
use Rattle.message_guard.specs.declared.open_fault.OpenFault.TheVariants as faults
use Rattle.message_guard.specs.declared.pass.Pass1.{Pass1}
use Rattle.message_guard.specs.Acceptance.{Accepted}
use Rattle.message_guard.specs.Modes.{encrypts}
use Rattle.message_guard.specs.Opening.{has_mode, open_pass, verdict, accepts, without_stream, opened}
use Rattle.message_guard.specs.Protection.{keys_with, message_nonce}
use Rattle.message_guard.proofs.Judged.{judged-skip}

pub open_is_passed : (keys : List TokenKeys) (accepted : Accepted) (security : Option SecurityValue) (datagram : List ℕ) (payload : ℕ) → has_mode modes.None security ≡ true
    → verdict modes.None keys accepted security datagram payload ≡ Ok (open_pass datagram)
open_is_passed keys accepted None datagram payload fits = refl
open_is_passed keys accepted (Some part) datagram payload fits = judged-skip (not (has_mode modes.None (Some part))) faults.ModeDiffers [] (open_pass datagram) (ap not fits)

-- a mode that doesn't encrypt adds no stream
pub no_stream : (mode : Mode) (keys : Option TokenKeys) (nonce : List ℕ) (first_block : ℕ) (bytes : List ℕ) → encrypts mode ≡ false → without_stream mode keys nonce first_block bytes ≡ bytes
no_stream mode None nonce first_block bytes off = refl
no_stream modes.None (Some keys) nonce first_block bytes off = refl
no_stream modes.Sign (Some keys) nonce first_block bytes off = refl
no_stream modes.Encrypt (Some keys) nonce first_block bytes off = let wrong : true ≡ false = off in cc

pub open_is_left : (keys : List TokenKeys) (first_block payload : ℕ) (datagram : List ℕ) → payload ≤ length datagram
    → opened modes.None keys first_block (open_pass datagram) payload datagram ≡ datagram
open_is_left keys first_block payload datagram within =
    let size = length datagram - payload in
    let behind = drop payload datagram in
    let nonce = message_nonce (0 ∷ 0 ∷ 0 ∷ 0 ∷ []) 0 in
    let last : drop (length datagram) datagram ≡ drop size behind = ap (λ (n : ℕ). drop n datagram) (omega (arith, within)) ∙ sym (drop-drop size payload datagram) in
    append_assoc (take payload datagram) (without_stream modes.None (keys_with keys 0) nonce first_block (take size behind)) (drop (length datagram) datagram)
    ∙ ap (λ (xs : List ℕ). take payload datagram ++ (xs ++ drop (length datagram) datagram)) (no_stream modes.None (keys_with keys 0) nonce first_block (take size behind) refl)
    ∙ ap (λ (xs : List ℕ). take payload datagram ++ (take size behind ++ xs)) last
    ∙ ap (λ (xs : List ℕ). take payload datagram ++ xs) (take-append-drop size behind)
    ∙ take-append-drop payload datagram

pub none_is_accepted : (accepted : Accepted) (pass : Pass1) → accepts modes.None pass accepted ≡ accepted
none_is_accepted accepted pass = refl
