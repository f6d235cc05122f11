-- How the command ends, from what its parts did.
use Rattle.std.proofs.Common.{◌≡◌, ◌≤◌, ◌⊎◌, inl, inr, ℕ, Bool, List, Option, Some, None, refl, sym, subst, arith}
use Rattle.ua_base.specs.Cause.{Rose, HasCause}
use Rattle.ua_base.specs.Journal.{LinkState}
use Rattle.ua_base.specs.Links.{Making, Opening}
use Rattle.ua_base.proofs.Links.{TellsOn-more, TellsOn-refl}
use Rattle.ps_config.specs.declared.parts.Config.{Config}
use Rattle.ps_script.specs.declared.script.Script.{Script}
use Rattle.session_model.specs.Counts.{session_nothings}
use Rattle.script_player.specs.declared.play.PlayEnd.{PlayEnd}
use Rattle.script_player.specs.declared.play.PlayEnd.TheVariants as ends
use Rattle.script_player.specs.Openings.{PerformsOver}
use Rattle.script_player.specs.Plays.{opening_of}
use Rattle.cmd_base.specs.declared.status.Status.{Status}
use Rattle.cmd_base.specs.declared.status.Status.TheVariants.{NotInLanes}
use Rattle.cmd_base.specs.Outputs.{EndsWriting}
use Rattle.cmd_base.specs.Outside.{Outside, Wire, wire_of}
use Rattle.cmd_base.specs.Statuses.{IsUnread, IsUnwritten, IsUnopened, IsPerformed}
use Rattle.cmd_base.specs.Endings.{status_of}
use Rattle.cmd_base.specs.Links.{IsOpenedOnce, IsQuietOrOpened, PerformsWire, TellsToTheEnd, UsesLink}
use Rattle.cmd_base.specs.Sessions.{Text, Refusal, Accepts, EndsAccepting, OpensFor, Says, SessionEnds}
use Rattle.cmd_base.proofs.Ended.{says_written, says_unaccepted, written_late, accepting_early}
use Rattle.cmd_base.proofs.ToldSessions.{config_refused, config_long, script_refused, script_long, completes}

-- the folder's files are as they were, and its count of faults doesn't fall
abbrev pub KeepsFiles : Outside → Outside → Type 0
KeepsFiles old new = ((name : List ℕ) → new.file name ≡ old.file name) × (old.read_faults ≤ new.read_faults)

-- a link whose opening didn't fail wasn't left unopened
pub not_unopened : (Opens : Option Opening → Type 0) (unopened performed : Type 0) (before after : Wire) → UsesLink Opens unopened performed before after → unopened → IsQuietOrOpened before after → ⊥
not_unopened Opens unopened performed before after link is (inl quiet) = quiet (link.cause.rose is)
not_unopened Opens unopened performed before after link is (inr opened) = opened (link.unused is).2

-- what a session did to its link, said of what the link tells
pub over-wire : {L : Type 0} (told : L → Option LinkState) (patience : L → ℕ) (opened_with : L → Option Opening) (faults : L → ℕ) (made : L → Making) (openings : L → ℕ)
    (opening : Opening) (performed unopened : Type 0) (old new : L) → PerformsOver told patience opened_with faults made openings opening performed unopened old new
    → PerformsWire opening performed unopened (wire_of told patience faults opened_with made openings old) (wire_of told patience faults opened_with made openings new)
over-wire told patience opened_with faults made openings opening performed unopened old new over = record {
  opened = over.opened;
  opens = over.opens;
  once = record { making = over.once.making; at_most_once = over.once.at_most_once; once = over.once.once };
  failed = over.failed;
  unused = over.unused;
  counted = over.counted;
  lasts = record { tells = over.lasts.tells; left = over.lasts.left };
}

-- and with a status that says how the session ended
pub uses-wire : {performed unopened : Type 0} (Opens : Option Opening → Type 0) (opening : Opening) (fails performs : Type 0) (before after : Wire)
    → PerformsWire opening performed unopened before after → (performs → performed) → (fails → unopened) → Opens (Some opening) → UsesLink Opens fails performs before after
uses-wire Opens opening fails performs before after over done failed opens = record {
  opens = λ differs. subst Opens (sym (over.opens differs)) opens;
  unused = λ is. over.unused (failed is);
  once = record { making = over.once.making; at_most_once = over.once.at_most_once; once = λ is. over.once.once (done is) };
  lasts = over.lasts;
  cause = record { later = over.counted; rose = λ is. over.failed (failed is) };
}

-- a link that isn't used tells on
pub stays-telling : (wire : Wire) → TellsToTheEnd wire wire
stays-telling wire = TellsOn-more (λ (w : Wire). w.told) (λ (w : Wire). w.patience) 0 session_nothings wire wire (omega arith) (TellsOn-refl (λ (w : Wire). w.told) (λ (w : Wire). w.patience) wire)

-- a link that isn't used isn't opened
pub stays-unopened : {performed : Type 0} (wire : Wire) → (performed → ⊥) → IsOpenedOnce performed wire wire
stays-unopened wire not_so = record { making = refl; at_most_once = inl refl; once = λ is. absurd (not_so is) }

module _ (IsText : Text) (refusal : Refusal) (fates : Bool) where
  session_ends : (status : Status) (script_name : List ℕ) (config_name : Option (List ℕ)) (old new : Outside) (before after : Wire)
      → Says IsText refusal fates status script_name config_name old new after
      → UsesLink (OpensFor refusal fates old.file script_name config_name) (IsUnopened status) (IsPerformed status) before after → HasCause old.read_faults new.read_faults (IsUnread status)
      → HasCause old.write_faults new.write_faults (IsUnwritten status) → ((name : List ℕ) → new.file name ≡ old.file name)
      → SessionEnds IsText refusal fates status script_name config_name old new before after
  session_ends status script_name config_name old new before after h link reads writes files = record {
    says = h;
    link = link;
    config_refused = λ name bytes. config_refused IsText refusal fates status script_name config_name old new after name bytes h;
    script_refused = λ reader config bytes. script_refused IsText refusal fates status script_name config_name old new after reader config bytes h;
    config_long = λ name bytes. config_long IsText refusal fates status script_name config_name old new after name bytes h;
    script_long = λ config bytes. script_long IsText refusal fates status script_name config_name old new after config bytes h;
    complete = λ told folder_quiet out_quiet opened.
        elim (completes IsText refusal fates {X = ⊥} status script_name config_name old new after h told (λ is. folder_quiet (reads.rose is)) (λ is. out_quiet (writes.rose is))
        (λ is. not_unopened (OpensFor refusal fates old.file script_name config_name) (IsUnopened status) (IsPerformed status) before after link is opened)) [
          | inl e ↦ inl e
          | inr rest ↦ elim rest [ inl e ↦ inr e | inr e ↦ absurd e ]
        ];
    complete_but_for_opening = λ told folder_quiet out_quiet.
        completes IsText refusal fates {X = IsUnopened status} status script_name config_name old new after h told (λ is. folder_quiet (reads.rose is)) (λ is. out_quiet (writes.rose is)) (λ is. is);
    reads = reads;
    writes = writes;
    files = files;
  }

  -- no script was accepted, and the link was not used
  pub ends_unaccepted : (status : Status) (script_name : List ℕ) (config_name : Option (List ℕ)) (old new : Outside) (wire : Wire)
      → EndsAccepting fates old.file script_name config_name status → (IsUnread status → Rose old.read_faults new.read_faults) → KeepsFiles old new
      → old.write_faults ≡ new.write_faults → SessionEnds IsText refusal fates status script_name config_name old new wire wire
  ends_unaccepted status script_name config_name old new wire ends rose keeps same =
      let early = accepting_early fates status old.file script_name config_name ends in
      session_ends status script_name config_name old new wire wire (says_unaccepted IsText refusal fates status script_name config_name old new wire ends)
      (record { opens = λ differs. absurd (differs refl); unused = λ is. absurd (early.opened is); once = stays-unopened wire early.performed; lasts = stays-telling wire; cause = record { later = omega arith; rose = λ is. absurd (early.opened is) } })
      (record { later = keeps.1; rose = rose }) (record { later = omega (arith, same); rose = λ is. absurd (early.written is) }) keeps.0

  -- the script has a line that the command doesn't take, and the link was not used
  pub ends_refused : (line : ℕ) (script_name : List ℕ) (config_name : Option (List ℕ)) (old new : Outside) (wire : Wire) (config : Config) (script : Script)
      → Accepts fates old.file script_name config_name config script → refusal script ≡ Some line → KeepsFiles old new → old.write_faults ≡ new.write_faults
      → SessionEnds IsText refusal fates (NotInLanes line) script_name config_name old new wire wire
  ends_refused line script_name config_name old new wire config script accepts refused keeps same =
      session_ends (NotInLanes line) script_name config_name old new wire wire (record { config = config; script = script; accepts = accepts; refused = refused })
      (record { opens = λ differs. absurd (differs refl); unused = λ is. absurd (omega (arith, is)); once = stays-unopened wire (λ is. elim is [ inl e ↦ omega (arith, e) | inr e ↦ omega (arith, e) ]); lasts = stays-telling wire; cause = record { later = omega arith; rose = λ is. absurd (omega (arith, is)) } })
      (record { later = keeps.1; rose = λ is. absurd (omega (arith, is)) }) (record { later = omega (arith, same); rose = λ is. absurd (omega (arith, is)) }) keeps.0

  -- memory ran out, or the link could not be opened
  pub ends_unplayed : {performed unopened : Type 0} (end : PlayEnd) (script_name : List ℕ) (config_name : Option (List ℕ)) (old new : Outside) (before after : Wire) (config : Config) (script : Script)
      → Accepts fates old.file script_name config_name config script → refusal script ≡ None → PerformsWire (opening_of config script) performed unopened before after
      → (end ≡ ends.Unopened → unopened) → KeepsFiles old new → old.write_faults ≡ new.write_faults
      → SessionEnds IsText refusal fates (status_of end) script_name config_name old new before after
  ends_unplayed ends.Memory script_name config_name old new before after config script accepts taken over failed keeps same =
      session_ends (status_of ends.Memory) script_name config_name old new before after tt
      (uses-wire (OpensFor refusal fates old.file script_name config_name) (opening_of config script) (IsUnopened (status_of ends.Memory)) (IsPerformed (status_of ends.Memory)) before after over (λ is. absurd (elim is [ inl e ↦ omega (arith, e) | inr e ↦ omega (arith, e) ])) (λ is. absurd (omega (arith, is)))
      (record { config = config; script = script; accepts = accepts; taken = taken; opened_is = refl }))
      (record { later = keeps.1; rose = λ is. absurd (omega (arith, is)) }) (record { later = omega (arith, same); rose = λ is. absurd (omega (arith, is)) }) keeps.0
  ends_unplayed ends.Unopened script_name config_name old new before after config script accepts taken over failed keeps same =
      session_ends (status_of ends.Unopened) script_name config_name old new before after (record { config = config; script = script; accepts = accepts; taken = taken })
      (uses-wire (OpensFor refusal fates old.file script_name config_name) (opening_of config script) (IsUnopened (status_of ends.Unopened)) (IsPerformed (status_of ends.Unopened)) before after over (λ is. absurd (elim is [ inl e ↦ omega (arith, e) | inr e ↦ omega (arith, e) ])) (λ is. failed refl)
      (record { config = config; script = script; accepts = accepts; taken = taken; opened_is = refl }))
      (record { later = keeps.1; rose = λ is. absurd (omega (arith, is)) }) (record { later = omega (arith, same); rose = λ is. absurd (omega (arith, is)) }) keeps.0

  -- a status that is this one ends so too
  pub ends_as : (status other : Status) (script_name : List ℕ) (config_name : Option (List ℕ)) (old new : Outside) (before after : Wire) → other ≡ status
      → SessionEnds IsText refusal fates status script_name config_name old new before after
      → SessionEnds IsText refusal fates other script_name config_name old new before after
  ends_as status other script_name config_name old new before after is h =
      subst (λ (s : Status). SessionEnds IsText refusal fates s script_name config_name old new before after) (sym is) h

  -- the text was made, and the last write ends the command
  pub ends_written : {performed unopened : Type 0} (status : Status) (script_name : List ℕ) (config_name : Option (List ℕ)) (old new : Outside) (before after : Wire) (config : Config) (script : Script) (text : List ℕ)
      → Accepts fates old.file script_name config_name config script → refusal script ≡ None → IsText config script after.told text
      → PerformsWire (opening_of config script) performed unopened before after → performed → EndsWriting old.written new.written text status
      → HasCause old.write_faults new.write_faults (IsUnwritten status) → KeepsFiles old new
      → SessionEnds IsText refusal fates status script_name config_name old new before after
  ends_written status script_name config_name old new before after config script text accepts taken is_text over done written writes keeps =
      let late = written_late status old.written new.written text written in
      session_ends status script_name config_name old new before after
      (says_written IsText refusal fates status script_name config_name old new after text
      (record { config = config; script = script; accepts = accepts; taken = taken; opened = over.opened done; is_text = is_text }) written)
      (uses-wire (OpensFor refusal fates old.file script_name config_name) (opening_of config script) (IsUnopened status) (IsPerformed status) before after over (λ is. done) (λ is. absurd (late.opened is))
      (record { config = config; script = script; accepts = accepts; taken = taken; opened_is = refl }))
      (record { later = keeps.1; rose = λ is. absurd (late.read is) }) writes keeps.0
