-- How the parts of the command end it.
use Rattle.std.proofs.Common.{◌≡◌, ◌⊎◌, inl, inr, ℕ, Bool, List, Option, refl, arith}
use Rattle.ua_base.specs.Files.{ToldFile}
use Rattle.cmd_base.specs.declared.status.Status.{Status}
use Rattle.cmd_base.specs.declared.status.Status.TheVariants.{Done, BadWords, ConfigRefused, NoSource, ScriptRefused, NotInLanes, Unread, Unwritten, OutOfMemory, Unopened, Long}
use Rattle.cmd_base.specs.Outputs.{EndsWriting}
use Rattle.cmd_base.specs.Outside.{Outside, Wire}
use Rattle.cmd_base.specs.Statuses.{IsDone, IsUnread, IsUnwritten, IsUnopened, IsPerformed}
use Rattle.cmd_base.specs.Links.{IsBeforeLink}
use Rattle.cmd_base.specs.Sessions.{Text, Refusal, EndsAccepting, EndsBefore, Writes, Says}

-- writing gives two statuses, and none of those that come before it
pub record IsLate (status : Status) : Type 0 where
  pub read : IsUnread status → ⊥
  pub opened : IsUnopened status → ⊥
  pub behind_link : IsBeforeLink status → ⊥
  pub written : (IsDone status → ⊥) → (IsUnwritten status → ⊥) → ⊥

done_late : (n : ℕ) → (n ≡ 3) ⊎ (n ≡ 4) ⊎ (n ≡ 5) ⊎ (n ≡ 9) → (n ≡ 0 → ⊥) × (n ≡ 6 → ⊥)
done_late n (inl e) = ((λ z. omega arith), (λ z. omega arith))
done_late n (inr (inl e)) = ((λ z. omega arith), (λ z. omega arith))
done_late n (inr (inr (inl e))) = ((λ z. omega arith), (λ z. omega arith))
done_late n (inr (inr (inr e))) = ((λ z. omega arith), (λ z. omega arith))

pub written_late : (status : Status) (old new : Option (List ℕ)) (text : List ℕ) → EndsWriting old new text status → IsLate status
written_late Done old new text written = record { read = λ is. omega arith; opened = λ is. omega arith; behind_link = λ is. (done_late 0 is).0 refl; written = λ a b. a refl }
written_late Unwritten old new text written = record { read = λ is. omega arith; opened = λ is. omega arith; behind_link = λ is. (done_late 6 is).1 refl; written = λ a b. b refl }
written_late BadWords old new text written = absurd written
written_late (ConfigRefused code path) old new text written = absurd written
written_late (NoSource set) old new text written = absurd written
written_late (ScriptRefused line fault) old new text written = absurd written
written_late (NotInLanes line) old new text written = absurd written
written_late (Unread file) old new text written = absurd written
written_late OutOfMemory old new text written = absurd written
written_late Unopened old new text written = absurd written
written_late (Long file) old new text written = absurd written

-- a status without an accepted script tells of no link and of no output
pub record IsEarly (status : Status) : Type 0 where
  pub opened : IsUnopened status → ⊥
  pub written : IsUnwritten status → ⊥
  pub performed : IsPerformed status → ⊥

pub accepting_early : (fates : Bool) (status : Status) (tells : List ℕ → ToldFile) (script_name : List ℕ) (config_name : Option (List ℕ)) → EndsAccepting fates tells script_name config_name status
    → IsEarly status
accepting_early fates Unwritten tells script_name config_name ends = absurd ends
accepting_early fates Unopened tells script_name config_name ends = absurd ends
accepting_early fates Done tells script_name config_name ends = absurd ends
accepting_early fates BadWords tells script_name config_name ends = absurd ends
accepting_early fates (NoSource set) tells script_name config_name ends = absurd ends
accepting_early fates (NotInLanes line) tells script_name config_name ends = absurd ends
accepting_early fates (ConfigRefused code path) tells script_name config_name ends = record { opened = λ is. omega arith; written = λ is. omega arith; performed = λ is. elim is [ inl e ↦ omega (arith, e) | inr e ↦ omega (arith, e) ] }
accepting_early fates (ScriptRefused line fault) tells script_name config_name ends = record { opened = λ is. omega arith; written = λ is. omega arith; performed = λ is. elim is [ inl e ↦ omega (arith, e) | inr e ↦ omega (arith, e) ] }
accepting_early fates (Unread file) tells script_name config_name ends = record { opened = λ is. omega arith; written = λ is. omega arith; performed = λ is. elim is [ inl e ↦ omega (arith, e) | inr e ↦ omega (arith, e) ] }
accepting_early fates OutOfMemory tells script_name config_name ends = record { opened = λ is. omega arith; written = λ is. omega arith; performed = λ is. elim is [ inl e ↦ omega (arith, e) | inr e ↦ omega (arith, e) ] }
accepting_early fates (Long file) tells script_name config_name ends = record { opened = λ is. omega arith; written = λ is. omega arith; performed = λ is. elim is [ inl e ↦ omega (arith, e) | inr e ↦ omega (arith, e) ] }

module _ (IsText : Text) (refusal : Refusal) (fates : Bool) where
  -- the last write ends the command
  pub says_written : (status : Status) (script_name : List ℕ) (config_name : Option (List ℕ)) (old new : Outside) (after : Wire) (text : List ℕ)
      → Writes IsText refusal fates old.file script_name config_name after text → EndsWriting old.written new.written text status
      → Says IsText refusal fates status script_name config_name old new after
  says_written Done script_name config_name old new after text writes written = (text, writes, written)
  says_written Unwritten script_name config_name old new after text writes written = (text, writes, written)
  says_written BadWords script_name config_name old new after text writes written = absurd written
  says_written (ConfigRefused code path) script_name config_name old new after text writes written = absurd written
  says_written (NoSource set) script_name config_name old new after text writes written = absurd written
  says_written (ScriptRefused line fault) script_name config_name old new after text writes written = absurd written
  says_written (NotInLanes line) script_name config_name old new after text writes written = absurd written
  says_written (Unread file) script_name config_name old new after text writes written = absurd written
  says_written OutOfMemory script_name config_name old new after text writes written = absurd written
  says_written Unopened script_name config_name old new after text writes written = absurd written
  says_written (Long file) script_name config_name old new after text writes written = absurd written

  -- and so does a status without an accepted script
  pub says_unaccepted : (status : Status) (script_name : List ℕ) (config_name : Option (List ℕ)) (old new : Outside) (after : Wire)
      → EndsAccepting fates old.file script_name config_name status → Says IsText refusal fates status script_name config_name old new after
  says_unaccepted Done script_name config_name old new after ends = absurd ends
  says_unaccepted Unwritten script_name config_name old new after ends = absurd ends
  says_unaccepted BadWords script_name config_name old new after ends = absurd ends
  says_unaccepted Unopened script_name config_name old new after ends = absurd ends
  says_unaccepted (NoSource set) script_name config_name old new after ends = absurd ends
  says_unaccepted (NotInLanes line) script_name config_name old new after ends = absurd ends
  says_unaccepted (ConfigRefused code path) script_name config_name old new after ends = ends
  says_unaccepted (ScriptRefused line fault) script_name config_name old new after ends = ends
  says_unaccepted (Unread file) script_name config_name old new after ends = ends
  says_unaccepted OutOfMemory script_name config_name old new after ends = tt
  says_unaccepted (Long file) script_name config_name old new after ends = ends
