-- How the command ends, from what its status says and from the counts.
use Rattle.std.proofs.Common.{◌≡◌, ◌⊎◌, inl, inr, ℕ, List, Err, IsOk, refl, ap, arith}
use Rattle.ua_base.specs.Cause.{HasCause}
use Rattle.cmd_base.specs.declared.status.Status.{Status}
use Rattle.cmd_base.specs.declared.status.Status.TheVariants.{Done, BadWords, ConfigRefused, NoSource, ScriptRefused, NotInLanes, Unread, Unwritten, OutOfMemory, Unopened, Long}
use Rattle.cmd_base.specs.Outputs.{EndsWriting}
use Rattle.cmd_base.specs.Outside.{Wire}
use Rattle.cmd_base.specs.Statuses.{IsDone, IsUnwritten, IsOutOfMemory, IsUnopened, IsPerformed}
use Rattle.script_player.specs.declared.play.PlayEnd.{PlayEnd}
use Rattle.script_player.specs.declared.play.PlayEnd.TheVariants as ends
use Rattle.script_player.proofs.Openings.{ended}
use Rattle.cmd_base.specs.Endings.{status_of}
use Rattle.cmd_base.specs.Links.{UsesLink}
use Rattle.cmd_base.proofs.Ended.{written_late}
use Rattle.cmd_base.proofs.Ends.{not_unopened, stays-telling, stays-unopened}
use Rattle.cmd_load.specs.Loads.{LoadEnds, Loads, OpensForWork, Output, Summarizes}

-- the link wasn't used
pub uses-none : {performs fails : Type 0} (n : ℕ) (wire : Wire) → (performs → ⊥) × (fails → ⊥) → UsesLink (OpensForWork n) fails performs wire wire
uses-none n wire none = record {
  opens = λ differs. absurd (differs refl);
  unused = λ is. absurd (none.1 is);
  once = stays-unopened wire none.0;
  lasts = stays-telling wire;
  cause = record { later = omega arith; rose = λ is. absurd (none.1 is) };
}

-- the last write ends the command
loads_written : (status : Status) (n : ℕ) (old new : Output) (after : Wire) (text : List ℕ) → Summarizes n after text → EndsWriting old.written new.written text status → Loads status n old new after
loads_written Done n old new after text summary written = (text, summary, written)
loads_written Unwritten n old new after text summary written = (text, summary, written)
loads_written BadWords n old new after text summary written = absurd written
loads_written (ConfigRefused code path) n old new after text summary written = absurd written
loads_written (ScriptRefused line fault) n old new after text summary written = absurd written
loads_written (NoSource set) n old new after text summary written = absurd written
loads_written (NotInLanes line) n old new after text summary written = absurd written
loads_written (Unread file) n old new after text summary written = absurd written
loads_written OutOfMemory n old new after text summary written = absurd written
loads_written Unopened n old new after text summary written = absurd written
loads_written (Long file) n old new after text summary written = absurd written

-- and so does why there is no summary
loads_unplayed : (end : PlayEnd) (n : ℕ) (old new : Output) (after : Wire) → Loads (status_of end) n old new after
loads_unplayed ends.Memory n old new after = tt
loads_unplayed ends.Unopened n old new after = tt

not_written : (end : PlayEnd) → IsUnwritten (status_of end) → ⊥
not_written ends.Memory is = omega arith
not_written ends.Unopened is = omega arith

not_performed : (end : PlayEnd) → IsPerformed (status_of end) → ⊥
not_performed ends.Memory is = elim is [ inl e ↦ omega (arith, e) | inr e ↦ omega (arith, e) ]
not_performed ends.Unopened is = elim is [ inl e ↦ omega (arith, e) | inr e ↦ omega (arith, e) ]

unopened_is : (end : PlayEnd) → IsUnopened (status_of end) → end ≡ ends.Unopened
unopened_is ends.Memory is = absurd (omega arith)
unopened_is ends.Unopened is = refl

-- what is said of a status leaves four
completes : {X : Type 0} (status : Status) (n : ℕ) (old new : Output) (after : Wire) → Loads status n old new after → (IsUnwritten status → ⊥) → (IsUnopened status → X)
    → IsDone status ⊎ IsOutOfMemory status ⊎ X
completes Done n old new after says written other = inl refl
completes OutOfMemory n old new after says written other = inr (inl refl)
completes Unopened n old new after says written other = inr (inr (other refl))
completes Unwritten n old new after says written other = absurd (written refl)
completes BadWords n old new after says written other = absurd says
completes (ConfigRefused code path) n old new after says written other = absurd says
completes (ScriptRefused line fault) n old new after says written other = absurd says
completes (NoSource set) n old new after says written other = absurd says
completes (NotInLanes line) n old new after says written other = absurd says
completes (Unread file) n old new after says written other = absurd says
completes (Long file) n old new after says written other = absurd says

load_ends : (status : Status) (n : ℕ) (old new : Output) (before after : Wire) → Loads status n old new after → UsesLink (OpensForWork n) (IsUnopened status) (IsPerformed status) before after
    → HasCause old.faults new.faults (IsUnwritten status) → LoadEnds status n old new before after
load_ends status n old new before after says link writes = record {
  says = says;
  link = link;
  complete = λ out_quiet opened.
      elim (completes {X = ⊥} status n old new after says (λ is. out_quiet (writes.rose is))
      (λ is. not_unopened (OpensForWork n) (IsUnopened status) (IsPerformed status) before after link is opened)) [
        | inl e ↦ inl e
        | inr rest ↦ elim rest [ inl e ↦ inr e | inr e ↦ absurd e ]
      ];
  complete_but_for_opening = λ out_quiet. completes {X = IsUnopened status} status n old new after says (λ is. out_quiet (writes.rose is)) (λ is. is);
  writes = writes;
}

-- the summary was made, and the last write ends the command
pub ends_written : {U P : Type 0} (status : Status) (n : ℕ) (old new : Output) (before after : Wire) (text : List ℕ) → Summarizes n after text → EndsWriting old.written new.written text status
    → P → UsesLink (OpensForWork n) U P before after → HasCause old.faults new.faults (IsUnwritten status) → LoadEnds status n old new before after
ends_written status n old new before after text summary written performed link writes =
    let late = written_late status old.written new.written text written in
    load_ends status n old new before after (loads_written status n old new after text summary written)
    (record { opens = link.opens; unused = λ is. absurd (late.opened is); once = record { making = link.once.making; at_most_once = link.once.at_most_once; once = λ is. link.once.once performed }; lasts = link.lasts; cause = record { later = link.cause.later; rose = λ is. absurd (late.opened is) } }) writes

-- there was no summary
pub ends_unplayed : {T : Type 0} (end : PlayEnd) (n : ℕ) (old new : Output) (before after : Wire) → UsesLink (OpensForWork n) (ended {T = T} end ≡ Err ends.Unopened) (IsOk (ended {T = T} end)) before after
    → old.faults ≡ new.faults → LoadEnds (status_of end) n old new before after
ends_unplayed end n old new before after link same =
    load_ends (status_of end) n old new before after (loads_unplayed end n old new after)
    (record {
      opens = link.opens;
      unused = λ is. link.unused (ap (λ (e : PlayEnd). Err e) (unopened_is end is));
      once = record { making = link.once.making; at_most_once = link.once.at_most_once; once = λ is. absurd (not_performed end is) };
      lasts = link.lasts;
      cause = record { later = link.cause.later; rose = λ is. link.cause.rose (ap (λ (e : PlayEnd). Err e) (unopened_is end is)) };
    })
    (record { later = omega (arith, same); rose = λ is. absurd (not_written end is) })
