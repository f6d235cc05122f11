-- The words for why a reader holds no row.
use Rattle.std.specs.Prelude.{ℕ, List, codes}
use Rattle.pubsub_model.specs.declared.reading.Why.{Why}
use Rattle.pubsub_model.specs.declared.reading.Why.TheVariants as whys

unfoldable pub why_word : Why → List ℕ
why_word whys.Start = codes "start"
why_word whys.Gap = codes "gap"
why_word whys.Timeout = codes "timeout"
why_word whys.NewToken = codes "newtoken"
why_word whys.Jump = codes "jump"
why_word whys.Restarted = codes "restarted"
