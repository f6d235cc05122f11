use Rattle.std.proofs.Common.{◌<◌, length, arith}
use Rattle.std.proofs.lemmas.List.Elements.{All-set}
use Rattle.device.specs.Sides.{IsSide}
use Rattle.device.proofs.Placing.{placed-set}
use Rattle.device.proofs.publisher.Publisher.switch.Goals as goal

pub returns-clause-publisher : goal.returns-clause-publisher
returns-clause-publisher c =
    let r = c.requires in
    let low : c.from-index.result < length c.args.self.now.sides.items = omega (arith, c.if-index-len.false, c.len.ensures, c.args.self.now.sides.ok.0) in
    record {
      good = r.good;
      rows_are = r.rows_are;
      rows_count = r.rows_count;
      senders_are = r.senders_are;
      senders_count = r.senders_count;
      rings_are = r.rings_are;
      sides_are = All-set (IsSide c.args.self.now.config) c.args.self.now.sides.items c.from-index.result c.switch.new.self c.switch.ensures.side r.sides_are;
      places = placed-set c.args.self.now.sides.items c.from-index.result c.index_mut.result.now c.switch.new.self low c.index_mut.ensures.value c.switch.ensures.switched.index r.places;
      reserved = r.reserved;
      made_is = r.made_is;
      handed_is = r.handed_is;
    }
