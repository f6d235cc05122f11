use Rattle.hmac_sign.specs.Hmac.{hmac_sha256}
use Rattle.hmac_sign.proofs.hmac.sign.Goals as goal

pub returns : goal.returns
unfolding hmac_sha256
returns c = c.finish.ensures _ _ c.inner_hasher.ensures c.outer_hasher.ensures
