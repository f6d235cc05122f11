use Rattle.std.proofs.Common.{◌≡◌, ℕ, [], true, refl, sym, subst}
use Rattle.std.proofs.lemmas.List.Elements.{at_read}
use Rattle.ps_config.specs.FixedSound.{IsFixedGroup}
use Rattle.ps_config.specs.declared.parts.GroupPart.{GroupPart}
use Rattle.ps_config.specs.Rooms.{header_settings, is_fixed}
use Rattle.uadp_header.specs.Headers.{PublisherValue, publisher_in}
use Rattle.writer_group.specs.Leads.{AreLeadsOf}
use Rattle.ps_config.specs.Sound.{IsGroup as IsSoundGroup}
use Rattle.dataset_meta.specs.Metas.{MetaData}
use Rattle.writer_group.specs.declared.group.Group.{Group}
use Rattle.writer_group.specs.Standing.{IsGroup, IsMadeFor, MayGoOn}
use Rattle.writer_group.proofs.NewGroups.{IsNewGroup, new-count, new-goes-on, new-keeps, new-logged, new-stands}
use Rattle.writer_group.proofs.ReadyTurns.{keeps-new}
use Rattle.writer_group.proofs.SetupLaws.{counts-there, few-writers}
use Rattle.writer_group.proofs.group.Group.lasting.Goals as goal
use Rattle.writer_group.proofs.group.Group.lasting.Goals.{After-slots_of}

pub writers_of-requires-clause-counted : goal.writers_of-requires-clause-counted
writers_of-requires-clause-counted c =
    let config = c.args.config.now in
    let part = c.part_of-group.result.now in
    let sound = subst (IsSoundGroup config) (sym c.part_of-group.ensures) (c.requires.good.sound.groups c.args.index part c.requires.index) in
    counts-there config part sound

pub slots_of-requires-clause-few : goal.slots_of-requires-clause-few
slots_of-requires-clause-few c = few-writers c.args.config.now c.args.index c.part_of-group.result.now c.requires.good.sound c.requires.index c.part_of-group.ensures

pub slots_of-requires-clause-sound : goal.slots_of-requires-clause-sound
slots_of-requires-clause-sound c =
    subst (IsSoundGroup c.args.config.now) (sym c.part_of-group.ensures) (c.requires.good.sound.groups c.args.index c.part_of-group.result.now c.requires.index)

pub slots_of-requires-clause-fixed : goal.slots_of-requires-clause-fixed
slots_of-requires-clause-fixed c =
    subst (λ part. is_fixed part.layout ≡ true → IsFixedGroup c.args.config.now part) (sym c.part_of-group.ensures) (c.requires.good.fixed.groups c.args.index c.part_of-group.result.now c.requires.index)

abbrev made : After-slots_of → Group
made c = record { index = c.args.index; interval = c.part_of-group.result.now.interval; writers = c.in_ok-writers.writers; rooms = c.rooms_of.result; slots = c.slots_of.result; leads = c.new-leads.result; made = 0; turned_at = 0 }

new : (c : After-slots_of) → IsNewGroup c.part_of-group.result.now c.args.turns c.args.logged (made c)
new c = record { writers = c.in_ok-writers.ensures; made = refl; moment = refl }

made-for : (c : After-slots_of) → IsMadeFor c.args.config.now c.part_of-group.result.now (made c)
made-for c = record {
  interval = refl;
  start = c.slots_of.ensures.start;
  writers = new-count c.part_of-group.result.now c.args.turns c.args.logged (made c) (new c);
  slots = c.slots_of.ensures.slots;
  rooms = c.rooms_of.ensures;
  leads = subst (λ (p : PublisherValue). AreLeadsOf p (header_settings c.part_of-group.result.now) c.new-leads.result) c.new-parts.ensures.publisher
      (subst (λ (part : GroupPart). AreLeadsOf (publisher_in c.new-parts.result.publisher) (header_settings part) c.new-leads.result) c.new-parts.ensures.group c.new-leads.ensures);
}

pub returns-clause-made : goal.returns-clause-made
returns-clause-made c =
    at_read c.args.config.now.group (λ part. IsMadeFor c.args.config.now part (made c)) c.args.index c.part_of-group.result.now c.requires.index c.part_of-group.ensures (made-for c)

pub returns-clause-stands : goal.returns-clause-stands
returns-clause-stands c =
    at_read c.args.config.now.group (λ part. (metas : ℕ → MetaData) → IsGroup metas part [] (made c)) c.args.index c.part_of-group.result.now c.requires.index c.part_of-group.ensures
    (λ metas. new-stands metas c.part_of-group.result.now c.args.turns c.args.logged (made c) (new c))

pub returns-clause-goes_on : goal.returns-clause-goes_on
returns-clause-goes_on c =
    at_read c.args.config.now.group (λ part. (metas : ℕ → MetaData) → MayGoOn metas part c.args.turns (made c)) c.args.index c.part_of-group.result.now c.requires.index c.part_of-group.ensures
    (λ metas. new-goes-on metas c.part_of-group.result.now c.args.turns c.args.logged (made c) (new c))

pub returns-clause-logged : goal.returns-clause-logged
returns-clause-logged c = new-logged c.part_of-group.result.now c.args.turns c.args.logged (made c) (new c)

pub returns-clause-keeps : goal.returns-clause-keeps
returns-clause-keeps c = new-keeps c.part_of-group.result.now c.args.turns c.args.logged (made c) (new c)

pub returns-clause-keeps_to : goal.returns-clause-keeps_to
returns-clause-keeps_to c = keeps-new c.args.config.now c.args.index c.args.turns (made c) refl c.requires.index (returns-clause-made c) (returns-clause-goes_on c)
