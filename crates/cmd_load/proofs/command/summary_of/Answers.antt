use Rattle.script_player.proofs.Openings.{for-memory}
use Rattle.cmd_load.proofs.Ends.{uses-none}
use Rattle.cmd_load.proofs.command.summary_of.Goals as goal

-- the link wasn't used
pub returns-in_err-config-clause-link : goal.returns-in_err-config-clause-link
returns-in_err-config-clause-link g c =
    uses-none c.args.n _ (for-memory c.from_residual.result c.from_residual.ensures.1)

pub returns-in_err-script-clause-link : goal.returns-in_err-script-clause-link
returns-in_err-script-clause-link g c =
    uses-none c.args.n _ (for-memory c.from_residual-in_err-script.result c.from_residual-in_err-script.ensures.1)
