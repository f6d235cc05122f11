use Rattle.std.proofs.Common.{◌≡◌, Bool, List, take}
use Rattle.std.specs.Prelude.{vec_len}
use Rattle.ua_base.specs.Links.{KeepsLink}
use Rattle.writer_group.specs.Standing.{datagrams_in}
use Rattle.session_model.specs.Sends.{sends_by}
use Rattle.session_parts.specs.Ticking.{HaveBeenSent}
use Rattle.session_parts.proofs.publisher.Publisher.send_all.Given as goal

abbrev pub invariant-loop-i : goal.invariant-loop-i
invariant-loop-i g l = record {
  sent : (done : List Bool) × HaveBeenSent (sends_by l.g (take l.i (datagrams_in l.fn.self.out))) done l.fn.self l.self (g.L.Link.told l.fn.link) (g.L.Link.told l.link);
  count : vec_len l.self.sends ≡ vec_len l.fn.self.sends;
  rest : l.self ≡ record l.fn.self { sends = l.self.sends; link = l.self.link };
  link : KeepsLink g.L.Link.told g.L.Link.patience g.L.Link.opened_with g.L.Link.faults g.L.Link.made g.L.Link.openings 0 l.fn.link l.link;
}
