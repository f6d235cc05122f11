-- A protected datagram is passed, and its payload restored.
use Rattle.std.proofs.Common.{◌≡◌, ℕ, suc, ◌+◌, ◌-◌, ◌<◌, ◌≤◌, ◌^◌, Bool, true, false, not, ◌&&◌, List, [], ◌∷◌, ◌++◌, length, take, drop, refl, sym, ◌∙◌, ap, arith, append_assoc, nat_lt, ◌==◌, Option, Some, Ok}
use Rattle.std.specs.Prelude.{is_some, bytes_eq, slice_range}
use Rattle.std.specs.Int.{w32, to_le_bytes, from_le_bytes}
use Rattle.std.proofs.lemmas.Bool.Decides.{nat_tests}
use Rattle.std.proofs.lemmas.List.{length-append}
use Rattle.std.proofs.lemmas.Nat.{from_le_bytes-to_le_bytes_4}
use Rattle.std.proofs.lemmas.Slice.Eq.{bytes_eq-Decides}
use Rattle.std.proofs.Math.Seq.{take-append_seam, drop-append_seam}
use Rattle.aes_ctr.specs.Blocks.{streamed_from}
use Rattle.aes_ctr.specs.Keyed.{encrypted}
use Rattle.aes_ctr.proofs.Streaming.{twice}
use Rattle.hmac_sign.specs.Hmac.{hmac_sha256}
use Rattle.hmac_sign.proofs.Lengths.{signature_length}
use Rattle.replay_window.specs.Taken.{is_taken, is_too_old, seen}
use Rattle.replay_window.specs.declared.seen.Seen.TheVariants as answers
use Rattle.uadp_header.specs.Headers.{SecurityValue}
use Rattle.message_guard.specs.declared.keys.TokenKeys.{TokenKeys}
use Rattle.message_guard.specs.declared.mode.Mode.{Mode}
use Rattle.message_guard.specs.declared.mode.Mode.TheVariants as modes
use Rattle.message_guard.specs.declared.pass.Pass1.{Pass1}
use Rattle.message_guard.specs.Acceptance.{Accepted, highest, numbers_of}
use Rattle.message_guard.specs.Modes.{is_secured}
use Rattle.message_guard.specs.Opened.{MayOpen, sent_pass}
use Rattle.message_guard.specs.Opening.{has_mode, is_signed, front_refusals, judged, signed_pass, verdict, without_stream, opened}
use Rattle.message_guard.specs.Protection.{keys_with, number_in, message_nonce, with_stream, body_of, signature_of}
use Rattle.message_guard.specs.Senders.{SenderState, IsSender, front_value, sent}
use Rattle.message_guard.proofs.Judging.{judged_secured, verdict_secured}

length-streamed_from : (e : List ℕ → List ℕ) (front : List ℕ) (first i : ℕ) (xs : List ℕ) → length (streamed_from e front first i xs) ≡ length xs
unfolding streamed_from
length-streamed_from e front first i [] = refl
length-streamed_from e front first i (x ∷ xs) = ap suc (length-streamed_from e front first (suc i) xs)

pub length-with_stream : (mode : Mode) (keys : TokenKeys) (nonce : List ℕ) (first : ℕ) (payload : List ℕ) → length (with_stream mode keys nonce first payload) ≡ length payload
length-with_stream modes.None keys nonce first payload = refl
length-with_stream modes.Sign keys nonce first payload = refl
length-with_stream modes.Encrypt keys nonce first payload = length-streamed_from (encrypted keys.encrypting) (keys.nonce ++ nonce) first 0 payload

pub stream_twice : (mode : Mode) (keys : TokenKeys) (nonce : List ℕ) (first : ℕ) (payload : List ℕ) → with_stream mode keys nonce first (with_stream mode keys nonce first payload) ≡ payload
stream_twice modes.None keys nonce first payload = refl
stream_twice modes.Sign keys nonce first payload = refl
stream_twice modes.Encrypt keys nonce first payload = twice (encrypted keys.encrypting) (keys.nonce ++ nonce) first 0 payload

-- the parts of a list by the lengths of its parts
take_front : (xs ys : List ℕ) (n : ℕ) → n ≡ length xs → take n (xs ++ ys) ≡ xs
take_front xs ys n e = ap (λ (k : ℕ). take k (xs ++ ys)) e ∙ take-append_seam xs ys

drop_front : (xs ys : List ℕ) (n : ℕ) → n ≡ length xs → drop n (xs ++ ys) ≡ ys
drop_front xs ys n e = ap (λ (k : ℕ). drop k (xs ++ ys)) e ∙ drop-append_seam xs ys

middle : (xs ys zs : List ℕ) (at end : ℕ) → at ≡ length xs → end ≡ length xs + length ys → slice_range (xs ++ ys ++ zs) at end ≡ ys
middle xs ys zs at end at_is end_is =
    let behind : drop at (xs ++ ys ++ zs) ≡ ys ++ zs = rw append_assoc (drop_front xs (ys ++ zs) at at_is) in
    let long : end - at ≡ length ys = omega (arith, at_is, end_is) in
    ap (λ (t : List ℕ). take (end - at) t) behind ∙ take_front ys zs (end - at) long

same_bytes : (xs ys : List ℕ) → xs ≡ ys → bytes_eq xs ys ≡ true
same_bytes xs ys same = (bytes_eq-Decides xs ys).1 same

-- the lengths of what a sender sends
module _ (mode : Mode) (s : SenderState) (header payload : List ℕ) where
  abbrev pub sent_payload : List ℕ
  sent_payload = with_stream mode s.keys (message_nonce s.random s.used) s.first_block payload

  abbrev body : List ℕ
  body = header ++ sent_payload

  abbrev pub tail : List ℕ
  tail = hmac_sha256 s.keys.signing body

  length-body : length body ≡ length header + length payload
  length-body = length-append header sent_payload ∙ ap (λ (n : ℕ). length header + n) (length-with_stream mode s.keys (message_nonce s.random s.used) s.first_block payload)

  length-sent : length (sent mode s header payload) ≡ length header + length payload + 32
  length-sent = length-append body tail ∙ omega (arith, length-body, signature_length s.keys.signing body)

  end_is : length (sent mode s header payload) - 32 ≡ length body
  end_is = omega (arith, length-body, length-sent)

  body_is : body_of (sent mode s header payload) ≡ body
  body_is = take_front body tail (length (sent mode s header payload) - 32) end_is

  pub signature_is : signature_of (sent mode s header payload) ≡ tail
  signature_is = drop_front body tail (length (sent mode s header payload) - 32) end_is

  signed_right : is_signed (Some s.keys) (sent mode s header payload) ≡ true
  signed_right = same_bytes _ _ (signature_is ∙ ap (λ (b : List ℕ). hmac_sha256 s.keys.signing b) (sym body_is))

-- the nonce of what a sender sends
pub length-nonce : (random : List ℕ) (number : ℕ) → length random ≡ 4 → length (message_nonce random number) ≡ 8
length-nonce random number four =
    let back : length (to_le_bytes w32 number) ≡ 4 = refl in
    length-append random (to_le_bytes w32 number) ∙ omega (arith, four, back)

pub number_is : (random : List ℕ) (number : ℕ) → length random ≡ 4 → number < 2 ^ 32 → number_in (message_nonce random number) ≡ number
number_is random number four fits =
    ap (λ (bytes : List ℕ). from_le_bytes w32 bytes) (drop_front random (to_le_bytes w32 number) 4 (sym four)) ∙ from_le_bytes-to_le_bytes_4 number fits

random_is : (random : List ℕ) (number : ℕ) → length random ≡ 4 → take 4 (message_nonce random number) ≡ random
random_is random number four = take_front random (to_le_bytes w32 number) 4 (sym four)

-- what an acceptable pair says, test by test
record Tests (low taken old : Bool) : Type 0 where
  pub not_low : low ≡ false
  pub not_taken : taken ≡ false
  pub not_old : old ≡ false

tests_of : (known low taken old : Bool) → (known && not low && not taken && not old) ≡ true → Tests low taken old
tests_of true false false false all = record { not_low = refl; not_taken = refl; not_old = refl }
tests_of false low taken old all = absurd (grind arith)
tests_of true true taken old all = absurd (grind arith)
tests_of true false true old all = absurd (grind arith)
tests_of true false false true all = absurd (grind arith)

seen_fresh : (taken : List ℕ) (number : ℕ) → is_taken taken number ≡ false → is_too_old taken number ≡ false → seen taken number ≡ answers.Fresh
seen_fresh taken number not_taken not_old = rw (not_old, not_taken) refl

mode_fits : (mode : Mode) (s : SenderState) → is_secured mode ≡ true → has_mode mode (Some (front_value mode s)) ≡ true
mode_fits modes.None s secured = cc
mode_fits modes.Sign s secured = refl
mode_fits modes.Encrypt s secured = refl

none_of_front : (part : SecurityValue) (datagram : List ℕ) (payload : ℕ) → part.footer ≡ false → part.reset ≡ false → length part.nonce ≡ 8
    → payload + 32 ≤ length datagram → judged {X = Unit {0}} (front_refusals part datagram payload) tt ≡ Ok tt
none_of_front part datagram payload footer reset eight room =
    let nonce : not (length part.nonce == 8) ≡ false = grind (arith, nat_tests) in
    let short : nat_lt (length datagram) (payload + 32) ≡ false = grind (arith, nat_tests) in
    rw (footer, reset, nonce, short) refl

abbrev pass_with : ℕ → ℕ → List ℕ → ℕ → Pass1
pass_with token number random end = record { token = token; number = number; random = random; end = end }

pass_same : (token n n' : ℕ) (r r' : List ℕ) (end end' : ℕ) → n ≡ n' → r ≡ r' → end ≡ end' → pass_with token n r end ≡ pass_with token n' r' end'
pass_same token n n' r r' end end' a b c = cc

pub sent_is_found : (mode : Mode) (s : SenderState) (header payload : List ℕ) → IsSender s → signed_pass (front_value mode s) (sent mode s header payload) ≡ sent_pass s header payload
sent_is_found mode s header payload is =
    let long = length-sent mode s header payload in
    pass_same s.keys.token _ _ _ _ _ _ (number_is s.random s.used is.random is.used) (random_is s.random s.used is.random) (omega (arith, long))

pub sent_is_passed : (mode : Mode) (s : SenderState) (keys : List TokenKeys) (accepted : Accepted) (header payload : List ℕ) → MayOpen mode s keys accepted
    → verdict mode keys accepted (Some (front_value mode s)) (sent mode s header payload) (length header) ≡ Ok (sent_pass s header payload)
sent_is_passed mode s keys accepted header payload may =
    let datagram = sent mode s header payload in
    let part = front_value mode s in
    let long = length-sent mode s header payload in
    let front = none_of_front part datagram (length header) refl refl (length-nonce s.random s.used may.random) (omega (arith, long)) in
    let number : number_in part.nonce ≡ s.used = number_is s.random s.used may.random may.number in
    let numbers = numbers_of accepted s.keys.token in
    let tests = tests_of (is_some (keys_with keys s.keys.token)) (nat_lt s.keys.token (highest accepted)) (is_taken numbers s.used) (is_too_old numbers s.used) may.acceptable in
    let not_lower : highest accepted ≤ s.keys.token = grind (arith, nat_tests, tests.not_low) in
    let fresh : seen numbers (number_in part.nonce) ≡ answers.Fresh = ap (λ (n : ℕ). seen numbers n) number ∙ seen_fresh numbers s.used tests.not_taken tests.not_old in
    let right : is_signed (keys_with keys s.keys.token) datagram ≡ true = ap (λ (o : Option TokenKeys). is_signed o datagram) may.known ∙ signed_right mode s header payload in
    let passed : signed_pass part datagram ≡ sent_pass s header payload = sent_is_found mode s header payload (record { random = may.random; used = may.number }) in
    verdict_secured mode keys accepted part datagram (length header) may.secured (mode_fits mode s may.secured)
    ∙ judged_secured keys accepted part datagram (length header) answers.Fresh (signed_pass part datagram) front (ap is_some may.known) not_lower right fresh
    ∙ ap Ok passed

pub payload_restored : (mode : Mode) (s : SenderState) (keys : List TokenKeys) (header payload : List ℕ) → keys_with keys s.keys.token ≡ Some s.keys
    → opened mode keys s.first_block (sent_pass s header payload) (length header) (sent mode s header payload)
    ≡ header ++ payload ++ signature_of (sent mode s header payload)
payload_restored mode s keys header payload known =
    let datagram = sent mode s header payload in
    let nonce = message_nonce s.random s.used in
    let end = length header + length payload in
    let between : slice_range datagram (length header) end ≡ sent_payload mode s header payload =
    middle header (sent_payload mode s header payload) (tail mode s header payload) (length header) end refl
    (ap (λ (n : ℕ). length header + n) (sym (length-with_stream mode s.keys nonce s.first_block payload))) in
    let first : take (length header) datagram ≡ header = rw append_assoc (take_front header _ (length header) refl) in
    let last : drop end datagram ≡ signature_of datagram = drop_front (body mode s header payload) (tail mode s header payload) end (sym (length-body mode s header payload)) ∙ sym (signature_is mode s header payload) in
    let back : without_stream mode (keys_with keys s.keys.token) nonce s.first_block (slice_range datagram (length header) end) ≡ payload =
    ap (λ (o : Option TokenKeys). without_stream mode o nonce s.first_block (slice_range datagram (length header) end)) known
    ∙ ap (λ (xs : List ℕ). with_stream mode s.keys nonce s.first_block xs) between
    ∙ stream_twice mode s.keys nonce s.first_block payload in
    cc
