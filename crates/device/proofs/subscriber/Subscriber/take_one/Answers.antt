use Rattle.std.proofs.Common.{◌≡◌, refl, subst, arith}
use Rattle.std.proofs.lemmas.List.{length-set}
use Rattle.std.proofs.lemmas.List.Elements.{All-set}
use Rattle.device.specs.Sides.{IsListening, NotesRefusal}
use Rattle.device.specs.Takings.{HadCopy}
use Rattle.device.specs.declared.listening.Listening.{Listening}
use Rattle.device.proofs.Taking.{listened-so}
use Rattle.device.proofs.subscriber.Subscriber.take_one.Goals as goal

pub returns-in-Some-clause-taken : goal.returns-in-Some-clause-taken
returns-in-Some-clause-taken c =
    let self = c.args.self.now in
    let was = c.index_mut-listening.result.now in
    let is = c.refuse.new.self in
    let refused = c.in-Some.ensures.refused in
    record {
      left = c.args.bytes.now;
      given = _;
      answer_is = refl;
      listened = listened-so c.args.index c.args.now c.args.bytes.now c.args.bytes.now self _ was is _ c.requires.index c.index_mut-listening.ensures.value refl refl (refused.had c.args.now was.on.items)
          refused.kept c.refuse.ensures.rest;
    }

pub returns-in-None-clause-subscriber : goal.returns-in-None-clause-subscriber
returns-in-None-clause-subscriber c =
    let r = c.requires.subscriber in
    let groups = c.args.self.now.groups.items in
    record {
      good = r.good;
      groups_are = All-set (IsListening c.args.self.now.config) groups c.args.index c.datagram_copied.new.self c.datagram_copied.ensures.listening r.groups_are;
      few = omega (arith, r.few, length-set groups c.args.index c.datagram_copied.new.self);
      room = r.room;
    }

pub returns-in-None-clause-taken : goal.returns-in-None-clause-taken
returns-in-None-clause-taken c =
    let self = c.args.self.now in
    let was = c.index_mut-listening.result.now in
    let is = c.datagram_copied.new.self in
    let same : c.refuse.new.self ≡ was = c.in-None.ensures.none in
    let had : HadCopy self.config c.args.now c.args.bytes.now was is c.datagram_copied.result =
    subst (λ (l : Listening). HadCopy self.config c.args.now c.args.bytes.now l is c.datagram_copied.result) same c.datagram_copied.ensures.had in
    record {
      left = had.left;
      given = c.datagram_copied.result;
      answer_is = refl;
      listened = listened-so c.args.index c.args.now c.args.bytes.now had.left self _ was is c.datagram_copied.result c.requires.index c.index_mut-listening.ensures.value refl refl had.had
          (subst (λ (l : Listening). NotesRefusal c.datagram_copied.result c.args.bytes.now l is) same c.datagram_copied.ensures.refused)
          (subst (λ (l : Listening). is ≡ record l { group = is.group }) same c.datagram_copied.ensures.rest);
    }
