use Rattle.std.proofs.Common.{refl}
use Rattle.config_tables.specs.declared.words.Layout.TheVariants as layouts
use Rattle.group_laws.proofs.TurnLaws.{dynamic-turn}
use Rattle.group_laws.proofs.laws.a_dynamic_turn_has_its_writers_frames.Goals as goal

pub returns : goal.returns
returns c = λ config group past input writer seat dynamic. dynamic-turn config group past input writer seat layouts.Dynamic refl dynamic
