use Rattle.std.proofs.Common.{◌<◌, length, sym, ap, ◌∙◌, arith}
use Rattle.std.proofs.lemmas.List.{length-set}
use Rattle.std.proofs.lemmas.List.Elements.{All-set}
use Rattle.message_guard.specs.Senders.{IsSender, SenderState}
use Rattle.group_keys.specs.Ring.{key_sets}
use Rattle.device.proofs.Rings.{is-renewed, rings-count, rings-set}
use Rattle.device.proofs.publisher.Publisher.renew.Goals as goal

pub index_mut-requires : goal.index_mut-requires
index_mut-requires c =
    let self = c.args.self.now in
    omega (arith, c.if-index-len.false, c.len.ensures, self.senders.ok.0, self.rings.ok.0, rings-count self.senders.items self.rings.items c.requires.publisher.rings_are)

pub returns-clause-publisher : goal.returns-clause-publisher
returns-clause-publisher c =
    let self = c.args.self.now in
    let r = c.requires.publisher in
    let k = c.from-index.result in
    let low : k < length self.senders.items = omega (arith, c.if-index-len.false, c.len.ensures, self.senders.ok.0) in
    record {
      good = r.good;
      rows_are = r.rows_are;
      rows_count = r.rows_count;
      senders_are = All-set IsSender self.senders.items k c.renew.new.self
          (is-renewed (key_sets c.args.ring) self.senders.items k c.index_mut-2.result.now c.renew.new.self low c.index_mut-2.ensures.value c.renew.ensures.state r.senders_are) r.senders_are;
      senders_count = length-set self.senders.items k c.renew.new.self ∙ r.senders_count;
      rings_are = rings-set self.senders.items self.rings.items k c.renew.new.self c.copy_of.result (c.copy_of.ensures ∙ sym (ap (λ (s : SenderState). s.sets) c.renew.ensures.state)) r.rings_are;
      sides_are = r.sides_are;
      places = r.places;
      reserved = r.reserved;
      made_is = r.made_is;
      handed_is = r.handed_is;
    }
