use Rattle.std.proofs.Common.{ap, ◌∙◌}
use Rattle.std.specs.Prelude.{is_ok}
use Rattle.std.proofs.lemmas.Bool.{false≢true}
use Rattle.cmd_keys.proofs.exchange.reply_back.Goals as goal

pub unreachable-requires : goal.unreachable-requires
unreachable-requires c = false≢true (ap is_ok c.in-Err.ensures ∙ c.requires)
