use Rattle.aes_ctr.specs.RoundKeys.{AreRoundKeys}
use Rattle.aes_ctr.proofs.cipher.fill_round_keys.Given as goal

abbrev pub invariant-each : goal.invariant-each
invariant-each l = AreRoundKeys l.keys l.words l.r
