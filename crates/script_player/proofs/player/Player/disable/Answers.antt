use Rattle.std.proofs.Common.{Bool, refl, ap, ◌∙◌}
use Rattle.std.specs.Prelude.{if◌then◌else◌}
use Rattle.pubsub_states.specs.declared.tree.Switched.TheVariants.{Done, InvalidState}
use Rattle.pubsub_engine.specs.declared.session.Session.{Session}
use Rattle.script_player.proofs.Staying.{player-stays}
use Rattle.script_player.proofs.player.Player.disable.Goals as goal

pub returns : goal.returns
returns c =
    let e = c.disable.ensures in
    record {
      player = player-stays c.args.self.now c.disable.new.self c.requires.player e.session e.passes;
      switches = record {
        stands = λ p steps stands is. e.stands (e.answer p steps stands ∙ ap (λ (on : Bool). if on then Done else InvalidState) is) p steps stands;
        stays = λ p steps stands is. ap (λ (session : Session). record c.args.self.now { session = session }) (e.refused (e.answer p steps stands ∙ ap (λ (on : Bool). if on then Done else InvalidState) is));
        keeps = e.passes;
        left = e.left;
        appends = e.appends;
        rest = refl;
      };
    }
