use Rattle.std.proofs.Common.{sym, ap, subst, ◌∙◌}
use Rattle.std.specs.Prelude.{Option, None}
use Rattle.std.proofs.lemmas.List.{get_or_read}
use Rattle.group_threads.specs.Pairs.{Pair}
use Rattle.lane_groups.specs.declared.place.Place.{Place}
use Rattle.lane_groups.specs.Finding.{HasDatagram, datagram_of}
use Rattle.lane_groups.proofs.lane.LaneMakerWork.datagram.Goals as goal

pub datagram_in-requires : goal.datagram_in-requires
datagram_in-requires c =
    let f = c.find-g.ensures in
    subst (λ (o : Option Place). HasDatagram o c.find-g.result.1) (sym (get_or_read c.args.self.now.places.items c.find-g.result.0 c.index.result.now f.low c.index.ensures None)) f.has

pub returns : goal.returns
returns c =
    let f = c.find-g.ensures in
    c.datagram_in.ensures
    ∙ ap (λ (o : Option Place). datagram_of o c.find-g.result.1) (get_or_read c.args.self.now.places.items c.find-g.result.0 c.index.result.now f.low c.index.ensures None)
    ∙ sym (ap (λ (p : Pair). p.datagram) f.is)
