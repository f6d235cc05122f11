use Rattle.std.proofs.Common.{◌≡◌, List, ℕ, sym, subst}
use Rattle.sha2.specs.Hashers.{Holds256}
use Rattle.sha2.specs.declared.Sha256.{Sha256}
use Rattle.hmac_sign.specs.Hmac.{hmac_sha256, ipad, opad, key_block, xor_bytes}
use Rattle.hmac_sign.proofs.hmac.SigningKey.sign.Goals as goal

pub returns : goal.returns
unfolding hmac_sha256
returns c =
    let key = c.self.inside.key in
    let inner = subst (λ (h : Sha256). Holds256 h (xor_bytes (key_block key) ipad)) (sym c.copy_of.ensures) c.self.invariant.0 in
    let outer = subst (λ (h : Sha256). Holds256 h (xor_bytes (key_block key) opad)) (sym c.copy_of-2.ensures) c.self.invariant.1 in
    subst (λ (k : List ℕ). c.finish.result ≡ hmac_sha256 k c.args.bytes.now) c.self.view_is (c.finish.ensures _ _ inner outer)
