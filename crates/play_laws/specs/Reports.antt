-- What a script with a fate leaves when it closes, and its report.
use Rattle.std.specs.Prelude.{◌≡◌, ℕ, List, [], ◌∷◌, ◌++◌, codes, replicate, Option, Some, None}
use Rattle.ps_config.specs.BuiltIn.{built_in_config}
use Rattle.ps_report.specs.declared.closed.Closed.{Closed}
use Rattle.ps_report.specs.declared.closed.HeldEnd.{HeldEnd}
use Rattle.ps_report.specs.FirstRun.{first_held, first_reader, first_run}
use Rattle.ps_report.specs.Reports.{report_text}
use Rattle.pubsub_states.specs.declared.state.State.{State}
use Rattle.pubsub_states.specs.declared.state.State.TheVariants.{Operational, PreOperational}

-- the session of the first run of `ps_report`, of which so many datagrams came, and whose reader has this state and this row
abbrev pub run_with : ℕ → State → Option HeldEnd → Closed
run_with count state held = record first_run {
  read_groups = record { state = Operational; taken = count; causes = replicate 20 0 } ∷ [];
  readers = record first_reader { state = state; held = held } ∷ [];
  link = record { sent = 2; failed = 0; received = count; broken = 0; long = 0; limit = 0 };
}

abbrev pub first_lost_run : Closed
first_lost_run = run_with 1 Operational (Some first_held)

abbrev pub last_lost_run : Closed
last_lost_run = run_with 1 Operational (Some (record first_held { number = Some 0 }))

abbrev pub both_lost_run : Closed
both_lost_run = run_with 0 PreOperational None

-- its report, by what the reader's line tells, and the count of received datagrams
abbrev pub text_with : List ℕ → List ℕ → List ℕ
text_with reader count =
    codes "history demo 1: 0\ngroup g1 operational sent 2\nwriter w1 operational 2: 0=1 1=1\nreadgroup rg1 operational taken " ++ count ++ codes ":\n"
    ++ codes "reader r1 " ++ reader ++ codes "\ngaps r1 0:\nlink sent 2 failed 0 received " ++ count ++ codes " broken 0 long 0 limit 0\nend\n"

abbrev pub first_lost_text : List ℕ
first_lost_text = text_with (codes "operational number 1 version 1: a=7 b=0 c=0 d=0") (codes "1")

abbrev pub last_lost_text : List ℕ
last_lost_text = text_with (codes "operational number 0 version 1: a=7 b=0 c=0 d=0") (codes "1")

abbrev pub both_lost_text : List ℕ
both_lost_text = text_with (codes "preoperational waits start") (codes "0")

-- a closed session with this report
pub record ReportsSo (closed is : Closed) (text : List ℕ) : Type 0 where
  pub closed_is : closed ≡ is
  pub report_is : report_text built_in_config closed ≡ text
