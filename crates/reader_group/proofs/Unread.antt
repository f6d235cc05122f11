-- A datagram that is refused for its header alone.
use Rattle.std.proofs.Common.{◌≡◌, ℕ, Bool, true, false, ◌&&◌, List, get_or, refl, sym, ap, subst, ◌∙◌, Some, None}
use Rattle.std.specs.Prelude.{Result, Ok, Err, if◌then◌else◌}
use Rattle.uadp_header.specs.declared.fault.HeaderFault.{HeaderFault}
use Rattle.uadp_header.specs.Headers.{HeaderValue}
use Rattle.uadp_header.specs.Layout.{header_at}
use Rattle.message_guard.specs.Acceptance.{Accepted}
use Rattle.message_guard.specs.Guards.{IsGuardOf, Setup, setup_of}
use Rattle.ps_config.specs.declared.parts.Config.{Config}
use Rattle.ps_config.specs.declared.parts.ReadGroupPart.{ReadGroupPart}
use Rattle.reader_group.specs.declared.group.ReaderGroup.{ReaderGroup}
use Rattle.reader_group.specs.declared.refusal.Refusal.{Refusal}
use Rattle.reader_group.specs.declared.refusal.Refusal.TheVariants as refusals
use Rattle.reader_group.specs.Filter.{is_any_or, is_of_number, is_ours}
use Rattle.reader_group.specs.Groups.{AreMembers, HadDatagram, HadIf, IsMadeOf, PassedDatagram, Stands, guard_of, index_of, members_of, notices_of, pair_of}
use Rattle.reader_group.specs.Notices.{notice_at, noticed_on}
use Rattle.reader_group.specs.Opening.{Opened, bytes_left, left_read, refusal_read, verdict, verdict_of}
use Rattle.reader_group.specs.Plain.{Got, Setting, answer, answer_on, step, taken_on, verdict_in, with_keys}
use Rattle.reader_group.specs.Settings.{setting_by}
use Rattle.reader_group.proofs.Asked.{not-ours}
use Rattle.reader_group.proofs.Steps.{at_part, stands_part}

-- the group is the same but for what it tells of refusals
pub record IsSameGroup (old new : ReaderGroup) : Type 0 where
  pub guard : guard_of new ≡ guard_of old
  pub pair : pair_of new ≡ pair_of old
  pub members : members_of new ≡ members_of old
  pub notices : notices_of new ≡ notices_of old

-- where the verdict is a refusal, whatever the guard accepted, and the bytes are left as they are, the datagram is had so
had-refused : (config : Config) (old new : ReaderGroup) (part : ReadGroupPart) (datagram : List ℕ) (refusal : Refusal) → IsMadeOf config old
    → part ≡ get_or config.readgroup (index_of old) part → IsSameGroup old new
    → ((setup : Setup) (accepted : Accepted) → verdict part setup accepted datagram ≡ Err refusal) → ((setup : Setup) (accepted : Accepted) → bytes_left part setup accepted datagram ≡ datagram)
    → (now : ℕ) (on : List Bool) → HadDatagram config old new now on datagram datagram (Err refusal)
had-refused config old new part datagram refusal made is same refused left now on = record {
  step = λ keys plain h.
      let own = with_keys (setting_by config part) keys in
      let before = stands_part config old part keys plain made is h in
      let after : Stands own plain new = record {
        setup = subst (λ g. setup_of g ≡ own.setup) (sym same.guard) before.setup;
        guard = subst (λ g. IsGuardOf plain.accepted g) (sym same.guard) before.guard;
        pair = same.pair ∙ before.pair;
        members = subst (λ l. AreMembers own.seats plain.members l) (sym same.members) before.members;
      } in
      subst (λ (s : Setting). Stands s (step s plain (Got now on datagram)) new) (sym (at_part config old part keys made is))
      (subst (λ (v : Result Opened Refusal). Stands own (taken_on own plain now on v) new) (sym (refused own.setup plain.accepted)) after);
  answer = λ keys plain h.
      let own = with_keys (setting_by config part) keys in
      subst (λ (s : Setting). Err refusal ≡ answer s plain now on datagram) (sym (at_part config old part keys made is))
      (ap (answer_on own plain now on) (sym (refused own.setup plain.accepted)));
  bytes_left = λ keys plain h.
      let own = with_keys (setting_by config part) keys in
      subst (λ (s : Setting). datagram ≡ bytes_left s.group s.setup plain.accepted datagram) (sym (at_part config old part keys made is)) (sym (left own.setup plain.accepted));
  notices = λ keys plain h k within.
      let own = with_keys (setting_by config part) keys in
      let was = notice_at (notices_of old) k in
      subst (λ (s : Setting). notice_at (notices_of new) k ≡ noticed_on s plain now on k (verdict_in s plain datagram) was) (sym (at_part config old part keys made is))
      (ap (λ l. notice_at l k) same.notices ∙ ap (λ (v : Result Opened Refusal). noticed_on own plain now on k v was) (sym (refused own.setup plain.accepted)));
}

none-some : (one : Refusal) → None ≡ Some one → ⊥
none-some one same = cc

left-other : (part : ReadGroupPart) (setup : Setup) (accepted : Accepted) (datagram : List ℕ) (read : HeaderValue × List ℕ) → is_ours part read.0 ≡ false
    → left_read part setup accepted datagram (Ok read) ≡ datagram
left-other part setup accepted datagram read not = rw not refl

some-is : (one other : Refusal) → Some one ≡ Some other → one ≡ other
some-is one other same = cc

-- by what was read of the header
pub had-unread : (config : Config) (old new : ReaderGroup) (part : ReadGroupPart) (number : ℕ) (datagram : List ℕ) (refusal : Refusal) (read : Result (HeaderValue × List ℕ) HeaderFault)
    → IsMadeOf config old → part ≡ get_or config.readgroup (index_of old) part → IsSameGroup old new → header_at datagram ≡ read → refusal_read part number read ≡ Some refusal
    → (now : ℕ) (on : List Bool) → HadIf (is_of_number number read) config old new now on datagram datagram (Err refusal)
had-unread config old new part number datagram refusal (Err fault) made is same at tells now on =
    let which : refusals.Header fault ≡ refusal = some-is (refusals.Header fault) refusal tells in
    subst (λ (r : Refusal). HadDatagram config old new now on datagram datagram (Err r)) which
    (had-refused config old new part datagram (refusals.Header fault) made is same (λ setup accepted. ap (verdict_of part setup accepted datagram) at)
    (λ setup accepted. ap (left_read part setup accepted datagram) at) now on)
had-unread config old new part number datagram refusal (Ok read) made is same at tells now on = by_tests (is_any_or number read.0.message_number) (is_ours part read.0) refl tells
  where
    others : is_ours part read.0 ≡ false → HadDatagram config old new now on datagram datagram (Err refusals.NotOurs)
    others not =
        had-refused config old new part datagram refusals.NotOurs made is same (not-ours part datagram read.0 read.1 at not)
        (λ setup accepted. ap (left_read part setup accepted datagram) at ∙ left-other part setup accepted datagram read not) now on

    by_tests : (asked ours : Bool) → is_ours part read.0 ≡ ours → (if asked && ours then None else Some refusals.NotOurs) ≡ Some refusal
        → HadIf asked config old new now on datagram datagram (Err refusal)
    by_tests true true is_so so = absurd (none-some refusal so)
    by_tests true false is_so so =
        subst (λ (r : Refusal). HadDatagram config old new now on datagram datagram (Err r)) (some-is refusals.NotOurs refusal so) (others is_so)
    by_tests false ours is_so so =
        subst (λ (r : Refusal). PassedDatagram old new datagram datagram (Err r)) (some-is refusals.NotOurs refusal so)
        (record { answer = refl; guard = same.guard; pair = same.pair; members = same.members; notices = same.notices; bytes_stay = refl })
