use Rattle.std.proofs.Common.{◌≡◌, Bool, List, length, get_or, sym, subst, ◌∙◌, arith}
use Rattle.std.specs.List.{HoldsAt}
use Rattle.message_guard.specs.Senders.{numbers_left}
use Rattle.example_publisher.specs.Devices.{IsGroupOf}
use Rattle.example_publisher.proofs.Turning.{may-turn, row-of-set, turned-group, unspent-has}
use Rattle.example_publisher.proofs.device.Device.turn.Goals as goal

pub turn_secured-count-requires-clause-may : goal.turn_secured-count-requires-clause-may
turn_secured-count-requires-clause-may g c =
    let d = c.requires.device in
    let device = c.args.self.now in
    let config = device.config.now in
    let meta = c.index-as_slice-0.result in
    let is : meta ≡ get_or config.dataset 0 meta = rw c.as_slice.ensures at c.index-as_slice-0.is in
    may-turn config device.left c.deref.result.now device.group c.sample-sampled.result device.sender d.good d.first d.there d.one_set
    (row-of-set config.dataset meta c.sample-sampled.result d.one_set is c.sample-sampled.ensures.row)
    (subst (λ (on : List Bool). HoldsAt (IsGroupOf config device.left (length on) device.group) config.group 0) (sym c.deref.ensures.value) d.group_is)
    (omega (arith, c.if-self-eq0.false)) d.sender_is
    (unspent-has (numbers_left device.sender) c.spent.result c.spent.ensures c.if-spent.false)

pub returns-clause-device : goal.returns-clause-device
returns-clause-device g c =
    let d = c.requires.device in
    let device = c.args.self.now in
    let turned = c.turn_secured-count in
    record {
      good = d.good;
      first = turned.ensures.index ∙ d.first;
      there = d.there;
      one_set = d.one_set;
      bank_is = d.bank_is;
      group_is = turned-group device.config.now device.left (length device.on.items) device.group turned.new.group d.first (omega (arith, c.if-self-eq0.false)) turned.ensures.made turned.ensures.goes_on d.group_is;
      sender_is = turned.ensures.sender;
      reserved = (let reserved = rw c.standing-used.ensures at c.in_ok-reserve.ensures.reserved in omega (arith, turned.ensures.used, reserved));
      own = c.sample-sampled.ensures.own;
      out_is = turned.ensures.reserved;
    }
