-- A session goes on: its ticks may come, and what a tick and a renewal leave.
use Rattle.std.proofs.Common.{◌≡◌, ◌-◌, ◌<◌, false, true, refl, sym, ap, ◌∙◌, subst, arith, Option}
use Rattle.std.proofs.lemmas.Bool.{false≢true}
use Rattle.ua_base.specs.Journal.{LinkState}
use Rattle.session_model.specs.Steps.{Plan}
use Rattle.pubsub_engine.specs.declared.session.Left.{Left}
use Rattle.pubsub_engine.specs.declared.session.Session.{Session}
use Rattle.pubsub_engine.specs.Holding.{AreTargetsOf, IsBankOf, IsSession, KeepsPasses, left_of, plan_of}
use Rattle.script_player.specs.Passing.{MayPass, PassesOn}
use Rattle.script_player.proofs.Staying.{bank-stays, targets-stay}
use Rattle.test_sessions.specs.declared.device.Device.{Device}
use Rattle.test_sessions.specs.Devices.{IsDevice, IsSmall}

-- ---- ticks may come

pub may-tick : (device : Device) → IsDevice device → 0 < device.ticks → MayPass 100 false device.session
may-tick device is some = record {
  running = is.running;
  left = (let n = is.left in omega (arith, n, some));
  short = omega arith;
  still = λ e. absurd (false≢true e);
}

pub may-end : (device : Device) → IsDevice device → MayPass 0 true device.session
may-end device is = record {
  running = is.running;
  left = (let n = is.left in omega (arith, n));
  short = omega arith;
  still = λ e. refl;
}

-- ---- what calls leave

-- the session is of the same configuration
pub still-small : (old new : Session) → plan_of new ≡ plan_of old → IsSmall (plan_of old).config → IsSmall (plan_of new).config
still-small old new plan is = subst IsSmall (sym (ap (λ (p : Plan). p.config) plan)) is

pub ticked : (device : Device) (new : Session) (told after : Option LinkState) → IsDevice device → 0 < device.ticks → IsSession new → IsBankOf new device.bank
    → AreTargetsOf new device.targets → PassesOn 100 false device.session new told after → IsDevice (record device { session = new; ticks = device.ticks - 1 })
ticked device new told after is some holds bank targets on = record {
  session_is = holds;
  small = still-small device.session new on.plan is.small;
  bank_is = bank;
  targets_are = targets;
  running = on.closed;
  left = (let n = is.left in let m = on.ticks in omega (arith, n, m, some));
  cell_is = is.cell_is;
  hands_are = is.hands_are;
}

pub renewed : (device : Device) (new : Session) → IsDevice device → IsSession new → KeepsPasses device.session new → left_of new ≡ left_of device.session
    → IsDevice (record device { session = new })
renewed device new is holds keeps left = record {
  session_is = holds;
  small = still-small device.session new keeps.plan is.small;
  bank_is = bank-stays device.session new device.bank keeps.plan keeps.passes is.bank_is;
  targets_are = targets-stay device.session new device.targets keeps.plan keeps.keeper keeps.stores is.targets_are;
  running = ap (λ (l : Left). l.is_closed) left ∙ is.running;
  left = (let n = is.left in let m = ap (λ (l : Left). l.ticks) left in omega (arith, n, m));
  cell_is = is.cell_is;
  hands_are = is.hands_are;
}
