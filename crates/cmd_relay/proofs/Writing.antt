-- With status 0 the text of a relay was written.
use Rattle.std.proofs.Common.{◌≡◌, arith}
use Rattle.cmd_base.specs.declared.status.Status.{Status}
use Rattle.cmd_base.specs.declared.status.Status.TheVariants.{Done, BadWords, ConfigRefused, NoSource, ScriptRefused, NotInLanes, Unread, Unwritten, OutOfMemory, Unopened, Long}
use Rattle.cmd_base.specs.Outside.{Outside, Wire}
use Rattle.cmd_base.specs.Statuses.{number_of}
use Rattle.cmd_relay.specs.Ends.{Names, Says, WritesRelay}

pub writes-relay : (status : Status) (names : Names) (old new : Outside) (lab wire : Wire) → Says status names old new lab wire → number_of status ≡ 0 → WritesRelay names old new lab wire
writes-relay Done names old new lab wire h zero = record {
  accepted = h.1.accepted;
  accepts = h.1.accepts;
  lab_opened = h.1.lab_opened;
  wire_opened = h.1.wire_opened;
  text = h.0;
  relayed = h.1.relay;
  gateway = h.1.relay.gateway;
  written = h.2;
}
writes-relay BadWords names old new lab wire h zero = absurd h
writes-relay (ConfigRefused code path) names old new lab wire h zero = absurd (omega arith)
writes-relay (NoSource set) names old new lab wire h zero = absurd (omega arith)
writes-relay (ScriptRefused line fault) names old new lab wire h zero = absurd (omega arith)
writes-relay (NotInLanes line) names old new lab wire h zero = absurd (omega arith)
writes-relay (Unread unread) names old new lab wire h zero = absurd (omega arith)
writes-relay Unwritten names old new lab wire h zero = absurd (omega arith)
writes-relay OutOfMemory names old new lab wire h zero = absurd (omega arith)
writes-relay Unopened names old new lab wire h zero = absurd (omega arith)
writes-relay (Long which) names old new lab wire h zero = absurd (omega arith)
