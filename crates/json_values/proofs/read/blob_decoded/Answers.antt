use Rattle.std.proofs.Common.{◌≡◌, ◌≤◌, length, Some, ap, ◌∙◌, arith}
use Rattle.std.proofs.lemmas.Grind.{common_steps}
use Rattle.base64.specs.GeneralPurpose.{decode_of}
use Rattle.base64.specs.Engines.{standard}
use Rattle.json_values.specs.Spelled.{base64_text}
use Rattle.json_values.proofs.Results.{err_ok, same_ok}
use Rattle.json_values.proofs.Bytes.{base64_short, base64_decodes, base64_found, base64_every}
use Rattle.json_values.proofs.read.blob_decoded.Goals as goal

pub returns-then-text-gt-MAX_BASE64_LEN-clause-every : goal.returns-then-text-gt-MAX_BASE64_LEN-clause-every
returns-then-text-gt-MAX_BASE64_LEN-clause-every c = λ bytes short is.
    let most : length (base64_text bytes) ≤ 344 = base64_short bytes short.at_most_256 in
    let same : length c.args.text.now ≡ length (base64_text bytes) = ap length is in
    absurd (omega arith)

pub returns-in_default-clause-every : goal.returns-in_default-clause-every
returns-in_default-clause-every c = λ bytes short is.
    absurd (err_ok (decode_of standard c.args.text.now) bytes _ c.in_default.ensures.err (ap (decode_of standard) is ∙ base64_decodes bytes short))

pub returns-in-Ok-from_bytes-clause-found : goal.returns-in-Ok-from_bytes-clause-found
returns-in-Ok-from_bytes-clause-found c =
    base64_found c.args.text.now _ _ _ c.from_bytes.result (λ i. omega (arith, c.type_inv.text i)) c.in-Ok.ensures.ok.0 c.from_bytes.ensures c.in-Ok-from_bytes.is (grind (arith, common_steps))

pub returns-in-Err-clause-every : goal.returns-in-Err-clause-every
returns-in-Err-clause-every c = λ bytes short is.
    absurd (err_ok c.from_bytes.result bytes _ c.in-Err.is
    (base64_every c.args.text.now _ _ bytes c.from_bytes.result short c.in-Ok.ensures.ok.0 is c.from_bytes.ensures (grind (arith, common_steps))))

pub returns-in-Ok-from_bytes-clause-every : goal.returns-in-Ok-from_bytes-clause-every
returns-in-Ok-from_bytes-clause-every c = λ bytes short is.
    ap Some (same_ok c.from_bytes.result _ _ c.in-Ok-from_bytes.is (base64_every c.args.text.now _ _ bytes c.from_bytes.result short c.in-Ok.ensures.ok.0 is c.from_bytes.ensures (grind (arith, common_steps))))
