-- The writes are few, and the appends make the script's data sets.
use Rattle.std.proofs.Common.{sym, subst}
use Rattle.cell_bank.specs.Hands.{AreSmall}
use Rattle.script_player.proofs.Appended.{full-behind}
use Rattle.script_player.proofs.Quotas.{few-writes}
use Rattle.script_player.proofs.sizes.size_of.Goals as goal

pub returns-clause-small : goal.returns-clause-small
returns-clause-small c = subst AreSmall (sym c.writes_of.ensures) (few-writes _ c.args.script.now.lines c.requires.script.few)

pub returns-clause-full : goal.returns-clause-full
returns-clause-full c = full-behind c.args.config.now c.args.script.now c.appends_of.result.items c.requires.script c.appends_of.ensures
