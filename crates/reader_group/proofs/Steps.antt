-- A datagram that is taken is one step of the group's plain reading.
use Rattle.std.proofs.Common.{◌≡◌, refl, sym, ap, ◌∙◌, subst, ℕ, Bool, true, false, ◌&&◌, List, ◌∷◌, map, get_or, Option, Some}
use Rattle.std.specs.Prelude.{Result, Ok, sum_by, if◌then◌else◌}
use Rattle.message_guard.specs.declared.guard.Guard.{Guard}
use Rattle.message_guard.specs.declared.keys.TokenKeys.{TokenKeys}
use Rattle.message_guard.specs.declared.mode.Mode.{Mode}
use Rattle.message_guard.specs.declared.pass.Pass1.{Pass1}
use Rattle.message_guard.specs.Acceptance.{Accepted, raises}
use Rattle.message_guard.specs.Guards.{Setup, IsGuardOf, setup_of}
use Rattle.message_guard.specs.Modes.{is_secured}
use Rattle.message_guard.specs.Opening.{accepts}
use Rattle.ps_config.specs.declared.parts.Config.{Config}
use Rattle.ps_config.specs.declared.parts.ReadGroupPart.{ReadGroupPart}
use Rattle.ps_config.specs.Headers.{mode_of}
use Rattle.reader_group.specs.declared.begun.Begun.{Begun}
use Rattle.reader_group.specs.declared.group.ReaderGroup.{ReaderGroup}
use Rattle.reader_group.specs.declared.member.Member.{Member}
use Rattle.reader_group.specs.declared.opening.Buffers.{Buffers}
use Rattle.reader_group.specs.declared.receipt.Receipt.{Receipt}
use Rattle.reader_group.specs.declared.refusal.Refusal.{Refusal}
use Rattle.reader_group.specs.declared.refusal.Taken.{Taken}
use Rattle.reader_group.specs.declared.tally.Tally.{Tally}
use Rattle.reader_group.specs.LastTaken.{last_pair, pair_on}
use Rattle.reader_group.specs.Members.{MemberValue}
use Rattle.reader_group.specs.Payloads.{Payload, part_count}
use Rattle.reader_group.specs.Opening.{Opened, bytes_left, verdict}
use Rattle.reader_group.specs.Begun.{LeavesBytes, payload_held, Opens}
use Rattle.reader_group.specs.Groups.{AreMembers, AreReaders, IsTallyOf, Stands, IsMadeOf, guard_of, members_of, index_of, pair_of, setting_with}
use Rattle.reader_group.specs.Plain.{Setting, PlainGroup, Fed, Got, all_fed, feds, is_raised, receipt_of, stamp_by, taken_on, answer_on, answer, step, verdict_in, with_keys}
use Rattle.reader_group.specs.Settings.{setting_by}
use Rattle.reader_group.proofs.Made.{setting-at}

-- the members of each that was fed
abbrev members_in : List Fed → List MemberValue
members_in list = map (λ (fed : Fed). fed.member) list

abbrev taken_with : ℕ → ℕ → ℕ → Result Taken Refusal
taken_with parts matched bad = Ok (record { parts = parts; matched = matched; bad = bad })

abbrev pub receipt_with : ℕ → Option ℕ → Receipt
receipt_with moment stamp = record { moment = moment; stamp = stamp }

-- what the group's calls ensured of a datagram that was opened: `guard` and `members` are those before
pub record IsTaken (setting : Setting) (plain : PlainGroup) (now : ℕ) (on : List Bool) (datagram bytes : List ℕ) (guard after : Guard) (members new : List Member)
    (begun : Begun) (room : Buffers) (raised : Bool) (receipt : Receipt) (payload : Payload) (tally : Tally) : Type 0 where
  pub opens : Opens setting.group (verdict setting.group (setup_of guard) plain.accepted datagram) (Ok begun) room bytes
  pub held : payload ≡ payload_held setting.group.layout begun room bytes
  pub receipt_is : receipt ≡ receipt_with now (stamp_by (mode_of setting.group.security) begun.pass.number)
  pub setup : setup_of guard ≡ setting.setup
  pub setup_stays : setup_of after ≡ setup_of guard
  pub mode : setting.setup.mode ≡ mode_of setting.group.security
  pub accepts_it : IsGuardOf (accepts (setup_of guard).mode begun.pass plain.accepted) after
  pub raised_is : raised ≡ (is_secured (setup_of guard).mode && raises plain.accepted begun.pass.token)
  pub members_are : AreMembers setting.seats (members_in (all_fed setting.seats plain.members receipt raised on payload)) new
  pub tally_is : IsTallyOf tally (all_fed setting.seats plain.members receipt raised on payload)

abbrev opened_of : ReadGroupPart → Begun → Buffers → List ℕ → Opened
opened_of part begun room bytes = record { pass = begun.pass; payload = payload_held part.layout begun room bytes }

-- the reading of a datagram that was opened so
pub verdict-is : (setting : Setting) (plain : PlainGroup) (datagram bytes : List ℕ) (guard : Guard) (begun : Begun) (room : Buffers)
    → Opens setting.group (verdict setting.group (setup_of guard) plain.accepted datagram) (Ok begun) room bytes → setup_of guard ≡ setting.setup
    → verdict_in setting plain datagram ≡ Ok (opened_of setting.group begun room bytes)
verdict-is setting plain datagram bytes guard begun room opens setup = ap (λ (s : Setup). verdict setting.group s plain.accepted datagram) (sym setup) ∙ opens

-- what is made of a datagram's receipt and payload, and of whether it raises the token, is made of those of the reading
-- the pair of the plain reading, after a datagram that is accepted
pair-accepted : (mode : Mode) (pass : Pass1) (accepted : Accepted) → pair_on mode pass (last_pair accepted) ≡ last_pair (accepts mode pass accepted)
pair-accepted mode pass accepted = by_mode (is_secured mode)
  where
    by_mode : (b : Bool) → (if b then Some (record { token = pass.token; number = pass.number }) else last_pair accepted) ≡ last_pair (if b then (pass.token, pass.number) ∷ accepted else accepted)
    by_mode true = refl
    by_mode false = refl

pub brought-as : {A : Type 0} (f : Receipt → Bool → Payload → A) (setting : Setting) (plain : PlainGroup) (now : ℕ) (on : List Bool) (datagram bytes : List ℕ) (guard after : Guard) (members new : List Member)
    (begun : Begun) (room : Buffers) (raised : Bool) (receipt : Receipt) (payload : Payload) (tally : Tally)
    → IsTaken setting plain now on datagram bytes guard after members new begun room raised receipt payload tally
    → f receipt raised payload
    ≡ f (receipt_of setting now (opened_of setting.group begun room bytes)) (is_raised setting plain.accepted (opened_of setting.group begun room bytes)) (opened_of setting.group begun room bytes).payload
brought-as f setting plain now on datagram bytes guard after members new begun room raised receipt payload tally h =
    let opened = opened_of setting.group begun room bytes in
    let mode : (setup_of guard).mode ≡ setting.setup.mode = ap (λ (s : Setup). s.mode) h.setup in
    let receipts : receipt ≡ receipt_of setting now opened =
    h.receipt_is ∙ ap (λ (m : Mode). receipt_with now (stamp_by m begun.pass.number)) (sym h.mode) in
    let raises_it : raised ≡ is_raised setting plain.accepted opened = h.raised_is ∙ ap (λ (m : Mode). is_secured m && raises plain.accepted begun.pass.token) mode in
    ap (λ (r : Receipt). f r raised payload) receipts
    ∙ ap (λ (b : Bool). f (receipt_of setting now opened) b payload) raises_it
    ∙ ap (f (receipt_of setting now opened) (is_raised setting plain.accepted opened)) h.held

-- all readers with what it brought them
feds-are : (setting : Setting) (plain : PlainGroup) (now : ℕ) (on : List Bool) (datagram bytes : List ℕ) (guard after : Guard) (members new : List Member)
    (begun : Begun) (room : Buffers) (raised : Bool) (receipt : Receipt) (payload : Payload) (tally : Tally)
    → IsTaken setting plain now on datagram bytes guard after members new begun room raised receipt payload tally
    → all_fed setting.seats plain.members receipt raised on payload ≡ feds setting plain now on (opened_of setting.group begun room bytes)
feds-are setting plain now on datagram bytes guard after members new begun room raised receipt payload tally h =
    brought-as (λ (r : Receipt) (b : Bool) (p : Payload). all_fed setting.seats plain.members r b on p) setting plain now on datagram bytes guard after members new begun room raised receipt payload tally h

pub taken-step : (setting : Setting) (plain : PlainGroup) (now : ℕ) (on : List Bool) (datagram bytes : List ℕ) (guard after : Guard) (members new : List Member)
    (begun : Begun) (room : Buffers) (raised : Bool) (receipt : Receipt) (payload : Payload) (tally : Tally) (group : ReaderGroup)
    → IsTaken setting plain now on datagram bytes guard after members new begun room raised receipt payload tally → guard_of group ≡ after → pair_of group ≡ pair_on (mode_of setting.group.security) begun.pass (last_pair plain.accepted) → members_of group ≡ new
    → Stands setting (step setting plain (Got now on datagram)) group
taken-step setting plain now on datagram bytes guard after members new begun room raised receipt payload tally group h guard_is pair_is members_is =
    let opened = opened_of setting.group begun room bytes in
    let mode : (setup_of guard).mode ≡ setting.setup.mode = ap (λ (s : Setup). s.mode) h.setup in
    let read = verdict-is setting plain datagram bytes guard begun room h.opens h.setup in
    let feds_is = feds-are setting plain now on datagram bytes guard after members new begun room raised receipt payload tally h in
    let stands : Stands setting (taken_on setting plain now on (Ok opened)) group = record {
      setup = subst (λ (g : Guard). setup_of g ≡ setting.setup) (sym guard_is) (h.setup_stays ∙ h.setup);
      guard = subst (λ (m : Mode). IsGuardOf (accepts m begun.pass plain.accepted) (guard_of group)) mode
          (subst (IsGuardOf (accepts (setup_of guard).mode begun.pass plain.accepted)) (sym guard_is) h.accepts_it);
      pair = pair_is ∙ ap (λ (m : Mode). pair_on m begun.pass (last_pair plain.accepted)) (sym h.mode) ∙ pair-accepted setting.setup.mode begun.pass plain.accepted;
      members = subst (λ (list : List Fed). AreMembers setting.seats (members_in list) (members_of group)) feds_is
          (subst (AreMembers setting.seats (members_in (all_fed setting.seats plain.members receipt raised on payload))) (sym members_is) h.members_are);
    } in
    subst (λ (answer : Result Opened Refusal). Stands setting (taken_on setting plain now on answer) group) (sym read) stands

pub taken-answer : (setting : Setting) (plain : PlainGroup) (now : ℕ) (on : List Bool) (datagram bytes : List ℕ) (guard after : Guard) (members new : List Member)
    (begun : Begun) (room : Buffers) (raised : Bool) (receipt : Receipt) (payload : Payload) (tally : Tally) (taken : Taken)
    → IsTaken setting plain now on datagram bytes guard after members new begun room raised receipt payload tally
    → taken.parts ≡ part_count on payload → taken.matched ≡ tally.matched → taken.bad ≡ tally.bad
    → Ok taken ≡ answer setting plain now on datagram
taken-answer setting plain now on datagram bytes guard after members new begun room raised receipt payload tally taken h parts matched bad =
    let opened = opened_of setting.group begun room bytes in
    let read = verdict-is setting plain datagram bytes guard begun room h.opens h.setup in
    let feds_is = feds-are setting plain now on datagram bytes guard after members new begun room raised receipt payload tally h in
    let tallies : IsTallyOf tally (feds setting plain now on opened) = subst (IsTallyOf tally) feds_is h.tally_is in
    ap (λ (n : ℕ). taken_with n taken.matched taken.bad) (parts ∙ ap (part_count on) h.held)
    ∙ ap (λ (n : ℕ). taken_with (part_count on opened.payload) n taken.bad) (matched ∙ tallies.matched)
    ∙ ap (λ (n : ℕ). taken_with (part_count on opened.payload) (sum_by (λ (f : Fed). f.matched) (feds setting plain now on opened)) n) (bad ∙ tallies.bad)
    ∙ ap (answer_on setting plain now on) (sym read)

-- ---- the same, of a group of a configuration

pub at_part : (config : Config) (group : ReaderGroup) (part : ReadGroupPart) (keys : List TokenKeys) → IsMadeOf config group → part ≡ get_or config.readgroup (index_of group) part
    → setting_with config group keys ≡ with_keys (setting_by config part) keys
at_part config group part keys made is = ap (λ (s : Setting). with_keys s keys) (setting-at config (index_of group) part made.index is)

-- what is left of the bytes, by the group's part and guard, is what is left of them by its setting
pub bytes-are : (config : Config) (group : ReaderGroup) (part : ReadGroupPart) (keys : List TokenKeys) (plain : PlainGroup) (datagram bytes : List ℕ) → IsMadeOf config group
    → part ≡ get_or config.readgroup (index_of group) part → Stands (setting_with config group keys) plain group → LeavesBytes part (guard_of group) datagram bytes
    → bytes ≡ bytes_left (setting_with config group keys).group (setting_with config group keys).setup plain.accepted datagram
bytes-are config group part keys plain datagram bytes made is stands left =
    let setting = setting_with config group keys in
    left plain.accepted stands.guard
    ∙ ap (λ (s : Setup). bytes_left part s plain.accepted datagram) stands.setup
    ∙ ap (λ (g : ReadGroupPart). bytes_left g setting.setup plain.accepted datagram) (sym (ap (λ (s : Setting). s.group) (at_part config group part keys made is)))

pub made_readers : (config : Config) (group : ReaderGroup) (part : ReadGroupPart) → IsMadeOf config group → part ≡ get_or config.readgroup (index_of group) part
    → AreReaders (setting_by config part).seats (members_of group)
made_readers config group part made is = subst (λ (s : Setting). AreReaders s.seats (members_of group)) (setting-at config (index_of group) part made.index is) made.readers

pub stands_part : (config : Config) (group : ReaderGroup) (part : ReadGroupPart) (keys : List TokenKeys) (plain : PlainGroup) → IsMadeOf config group
    → part ≡ get_or config.readgroup (index_of group) part → Stands (setting_with config group keys) plain group → Stands (with_keys (setting_by config part) keys) plain group
stands_part config group part keys plain made is h = subst (λ (s : Setting). Stands s plain group) (at_part config group part keys made is) h

pub taken_step : (config : Config) (old new : ReaderGroup) (after : Guard) (members : List Member) (part : ReadGroupPart) (keys : List TokenKeys) (plain : PlainGroup) (now : ℕ) (on : List Bool)
    (datagram bytes : List ℕ) (begun : Begun) (room : Buffers) (raised : Bool) (receipt : Receipt) (payload : Payload) (tally : Tally)
    → IsMadeOf config old → part ≡ get_or config.readgroup (index_of old) part
    → IsTaken (with_keys (setting_by config part) keys) plain now on datagram bytes (guard_of old) after (members_of old) members begun room raised receipt payload tally
    → guard_of new ≡ after → pair_of new ≡ pair_on (mode_of part.security) begun.pass (last_pair plain.accepted) → members_of new ≡ members
    → Stands (setting_with config old keys) (step (setting_with config old keys) plain (Got now on datagram)) new
taken_step config old new after members part keys plain now on datagram bytes begun room raised receipt payload tally made is taken guard_is pair_is members_are =
    subst (λ (s : Setting). Stands s (step s plain (Got now on datagram)) new) (sym (at_part config old part keys made is))
    (taken-step (with_keys (setting_by config part) keys) plain now on datagram bytes (guard_of old) after (members_of old) members begun room raised receipt payload tally new taken guard_is
    pair_is members_are)

pub taken_answer : (config : Config) (old : ReaderGroup) (after : Guard) (members : List Member) (part : ReadGroupPart) (keys : List TokenKeys) (plain : PlainGroup) (now : ℕ) (on : List Bool)
    (datagram bytes : List ℕ) (begun : Begun) (room : Buffers) (raised : Bool) (receipt : Receipt) (payload : Payload) (tally : Tally) (taken : Taken)
    → IsMadeOf config old → part ≡ get_or config.readgroup (index_of old) part
    → IsTaken (with_keys (setting_by config part) keys) plain now on datagram bytes (guard_of old) after (members_of old) members begun room raised receipt payload tally
    → taken.parts ≡ part_count on payload → taken.matched ≡ tally.matched → taken.bad ≡ tally.bad
    → Ok taken ≡ answer (setting_with config old keys) plain now on datagram
taken_answer config old after members part keys plain now on datagram bytes begun room raised receipt payload tally taken made is h parts matched bad =
    taken-answer (with_keys (setting_by config part) keys) plain now on datagram bytes (guard_of old) after (members_of old) members begun room raised receipt payload tally taken h parts matched bad
    ∙ ap (λ (s : Setting). answer s plain now on datagram) (sym (at_part config old part keys made is))
