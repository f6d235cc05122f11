use Rattle.std.proofs.Common.{◌≡◌, false, [], Ok, subst}
use Rattle.std.proofs.lemmas.Result.{IfOk-weaker}
use Rattle.ps_script.specs.declared.script.Script.{Script}
use Rattle.ps_script.specs.Scripts.{script}
use Rattle.ps_script.specs.Sessions.{fates_of}
use Rattle.ps_script.specs.Sound.{IsScript}
use Rattle.ps_script.proofs.read.read_script.Goals as goal

pub returns-clause-sound : goal.returns-clause-sound
returns-clause-sound c =
    let reader = c.there_is_one_reader_of_values.ensures.reader in
    IfOk-weaker c.read.result (λ (found : Script). script reader c.args.config.now c.args.bytes.now c.args.takes_fates ≡ Ok found) (IsScript c.args.config.now)
    (λ found is. c.an_accepted_script_is_sound.ensures.sound reader c.args.config.now c.args.bytes.now c.args.takes_fates found c.requires is)
    (c.read.ensures.ok reader)

pub returns-clause-fateless : goal.returns-clause-fateless
returns-clause-fateless c =
    let reader = c.there_is_one_reader_of_values.ensures.reader in
    IfOk-weaker c.read.result (λ (found : Script). script reader c.args.config.now c.args.bytes.now c.args.takes_fates ≡ Ok found) (λ (found : Script). c.args.takes_fates ≡ false → fates_of found.lines ≡ [])
    (λ found is none. c.an_accepted_script_is_sound.ensures.fateless reader c.args.config.now c.args.bytes.now found c.requires
    (subst (λ takes_fates. script reader c.args.config.now c.args.bytes.now takes_fates ≡ Ok found) none is))
    (c.read.ensures.ok reader)
