use Rattle.std.proofs.Common.{sym, ap, ◌∙◌}
use Rattle.group_keys.specs.Ring.{key_sets}
use Rattle.key_service.specs.declared.service.Keys.{Keys}
use Rattle.key_service.specs.Pulled.{pulled_sets}
use Rattle.message_guard.specs.Guards.{setup_of}
use Rattle.cmd_keys.proofs.Known.{is_pullers}
use Rattle.cmd_keys.proofs.opening.guard_of.Goals as goal

pub returns-clause-setup : goal.returns-clause-setup
returns-clause-setup c =
    let sets = c.pulled.ensures.sets ∙ ap pulled_sets c.requires.back ∙ c.a_read_answer_is_pulled_as_the_answer.ensures.sets c.args.keys.now
    ∙ sym (ap (λ (keys : Keys). keys.keys.items) c.requires.back) in
    is_pullers c.args.back.now (key_sets c.pulled.result) (setup_of c.new.result) sets c.new.ensures.keys c.new.ensures.mode c.new.ensures.first_block
