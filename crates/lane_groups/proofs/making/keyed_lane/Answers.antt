use Rattle.std.proofs.Common.{sym, subst, ap, ◌∙◌}
use Rattle.std.proofs.lemmas.List.Elements.{All-get_or}
use Rattle.ps_config.specs.Sound.{IsKeyGroup}
use Rattle.reader_group.specs.Settings.{keygroup_at, no_keygroup}
use Rattle.session_model.specs.Deeds.{opening_sender}
use Rattle.lane_groups.proofs.NewLanes.{keyed-lane}
use Rattle.lane_groups.proofs.making.keyed_lane.Goals as goal

pub sender_of-requires : goal.sender_of-requires
sender_of-requires c =
    subst IsKeyGroup (sym (c.keygroup_part.ensures ∙ ap (keygroup_at c.args.config.now) c.from.ensures)) (All-get_or IsKeyGroup c.args.config.now.keygroup c.args.k no_keygroup c.requires.index c.requires.good.sound.keygroups)

pub returns : goal.returns
returns c =
    keyed-lane c.args.config.now c.args.turns c.args.k _ c.sender_of.result c.in_ok-places.ensures (c.sender_of.ensures.opening ∙ ap opening_sender (c.keygroup_part.ensures ∙ ap (keygroup_at c.args.config.now) c.from.ensures)) c.sender_of.ensures.sender
