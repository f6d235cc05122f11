-- What is noted of the readers below an index, and of those of a group once it had a datagram.
use Rattle.std.proofs.Common.{◌≡◌, ◌≢◌, refl, sym, ap, ◌∙◌, subst, arith, ℕ, ◌+◌, ◌<◌, ◌≤◌, ◌⊎◌, inl, inr, Bool, false, List, length, get_or}
use Rattle.std.specs.Prelude.{slice_index_or, Result}
use Rattle.std.proofs.lemmas.Bool.{cases_lt}
use Rattle.std.proofs.lemmas.List.{get_or-set_other, get_or-set_same}
use Rattle.message_guard.specs.declared.guard.Guard.{Guard}
use Rattle.message_guard.specs.declared.keys.TokenKeys.{TokenKeys}
use Rattle.ps_config.specs.declared.parts.Config.{Config}
use Rattle.ps_config.specs.declared.parts.ReadGroupPart.{ReadGroupPart}
use Rattle.reader_group.specs.declared.account.Account.{Account}
use Rattle.reader_group.specs.declared.begun.Begun.{Begun}
use Rattle.reader_group.specs.declared.group.ReaderGroup.{ReaderGroup}
use Rattle.reader_group.specs.declared.member.Member.{Member}
use Rattle.reader_group.specs.declared.notice.Notice.{Notice}
use Rattle.reader_group.specs.declared.findings.Findings.{Findings}
use Rattle.reader_group.specs.declared.opening.Buffers.{Buffers}
use Rattle.reader_group.specs.declared.receipt.Receipt.{Receipt}
use Rattle.reader_group.specs.declared.refusal.Refusal.{Refusal}
use Rattle.reader_group.specs.declared.tally.Tally.{Tally}
use Rattle.reader_group.specs.Groups.{IsMadeOf, guard_of, index_of, members_of, setting_with}
use Rattle.reader_group.specs.Members.{Seat, MemberValue, seat_at}
use Rattle.reader_group.specs.MemberWords.{Accounts}
use Rattle.reader_group.specs.Notices.{AccountValue, IsNotedAt, account_by, no_notice, notice_at, noticed, noticed_as, noticed_on}
use Rattle.reader_group.specs.Opening.{Opened}
use Rattle.reader_group.specs.Payloads.{Payload}
use Rattle.reader_group.specs.Plain.{Setting, PlainGroup, member_at, verdict_in, with_keys}
use Rattle.reader_group.specs.Settings.{setting_by}
use Rattle.reader_group.proofs.Each.{by_seat}
use Rattle.reader_group.proofs.Steps.{IsTaken, at_part, brought-as, verdict-is}

-- ---- one reader after another

-- the account of what a datagram brings a reader by its index
abbrev pub accounting : Receipt → Bool → List Bool → Payload → ℕ → Seat → MemberValue → AccountValue
accounting receipt raised on payload k seat value = account_by seat receipt raised (slice_index_or on k false) payload value

-- the accounts of the readers below this index are noted
pub record NotedBelow (seats : List Seat) (values : List MemberValue) (f : ℕ → Seat → MemberValue → AccountValue) (moment : ℕ) (old : List Notice) (i : ℕ) (now : List Notice) : Type 0 where
  pub below : (k : ℕ) → k < i → notice_at now k ≡ noticed_as moment (by_seat seats values f k) (notice_at old k)
  pub above : (k : ℕ) → i ≤ k → notice_at now k ≡ notice_at old k

pub noted-none : (seats : List Seat) (values : List MemberValue) (f : ℕ → Seat → MemberValue → AccountValue) (moment : ℕ) (old : List Notice) → NotedBelow seats values f moment old 0 old
noted-none seats values f moment old = record { below = λ k low. absurd (omega (arith, low)); above = λ k high. refl }

account_as : (now : ℕ) (value : AccountValue) (account : Account) (before : Notice) → Accounts value account → noticed now account.findings account.tally.bad before ≡ noticed_as now value before
account_as now value account before is =
    ap (λ (findings : Findings). noticed now findings account.tally.bad before) is.findings
    ∙ ap (λ (bad : ℕ). noticed now value.findings bad before) is.bad

pub noted-more : (seats : List Seat) (values : List MemberValue) (f : ℕ → Seat → MemberValue → AccountValue) (moment : ℕ) (old : List Notice) (i : ℕ) (before after : List Notice) (account : Account)
    → i < length before → IsNotedAt i moment account before after → Accounts (by_seat seats values f i) account → NotedBelow seats values f moment old i before → NotedBelow seats values f moment old (i + 1) after
noted-more seats values f moment old i before after account within noted is h = record {
  below = λ k low. below_on k low (cases_lt k i);
  above = λ k high.
      let other : k ≢ i = λ same. absurd (omega (arith, high, same)) in
      stays k other ∙ h.above k (omega (arith, high));
}
  where
    new : Notice
    new = noticed moment account.findings account.tally.bad (notice_at before i)

    stays : (k : ℕ) → k ≢ i → notice_at after k ≡ notice_at before k
    stays k other = ap (λ (l : List Notice). notice_at l k) noted ∙ get_or-set_other before i k new no_notice other

    below_on : (k : ℕ) → k < i + 1 → (k < i) ⊎ (i ≤ k) → notice_at after k ≡ noticed_as moment (by_seat seats values f k) (notice_at old k)
    below_on k low (inl less) = stays k (λ same. absurd (omega (arith, less, same))) ∙ h.below k less
    below_on k low (inr more) =
        let same : i ≡ k = omega (arith, low, more) in
        let here : notice_at after i ≡ noticed_as moment (by_seat seats values f i) (notice_at old i) =
        ap (λ (l : List Notice). notice_at l i) noted ∙ get_or-set_same before i new no_notice within ∙ account_as moment (by_seat seats values f i) account (notice_at before i) is
        ∙ ap (noticed_as moment (by_seat seats values f i)) (h.above i (omega arith)) in
        subst (λ (j : ℕ). notice_at after j ≡ noticed_as moment (by_seat seats values f j) (notice_at old j)) same here

-- ---- a group

pub taken_notices : (config : Config) (old : ReaderGroup) (part : ReadGroupPart) (keys : List TokenKeys) (plain : PlainGroup) (now : ℕ) (on : List Bool) (datagram bytes : List ℕ) (after : Guard)
    (members : List Member) (begun : Begun) (room : Buffers) (raised : Bool) (receipt : Receipt) (payload : Payload) (tally : Tally) (before notices : List Notice) (k : ℕ)
    → IsMadeOf config old → part ≡ get_or config.readgroup (index_of old) part
    → IsTaken (with_keys (setting_by config part) keys) plain now on datagram bytes (guard_of old) after (members_of old) members begun room raised receipt payload tally
    → (k < length (setting_by config part).seats
    → notice_at notices k ≡ noticed_as receipt.moment (accounting receipt raised on payload k (seat_at (setting_by config part).seats k) (member_at plain.members k)) (notice_at before k))
    → k < length (setting_with config old keys).seats
    → notice_at notices k ≡ noticed_on (setting_with config old keys) plain now on k (verdict_in (setting_with config old keys) plain datagram) (notice_at before k)
taken_notices config old part keys plain now on datagram bytes after members begun room raised receipt payload tally before notices k made is taken noted =
    let setting = with_keys (setting_by config part) keys in
    let was = notice_at before k in
    let seat = seat_at setting.seats k in
    let value = member_at plain.members k in
    let read = verdict-is setting plain datagram bytes (guard_of old) begun room taken.opens taken.setup in
    let brought = brought-as (λ (r : Receipt) (b : Bool) (p : Payload). noticed_as r.moment (accounting r b on p k seat value) was) setting plain now on datagram bytes (guard_of old) after (members_of old) members
    begun room raised receipt payload tally taken in
    subst (λ (s : Setting). k < length s.seats → notice_at notices k ≡ noticed_on s plain now on k (verdict_in s plain datagram) was) (sym (at_part config old part keys made is))
    (λ within. noted within ∙ brought ∙ ap (λ (answer : Result Opened Refusal). noticed_on setting plain now on k answer was) (sym read))
