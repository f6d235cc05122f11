-- A read group takes all datagrams of a turn that come in order, and gives them to its readers.
use Rattle.std.proofs.Common.{◌≡◌, refl, sym, ap, ◌∙◌, subst, arith, ℕ, suc, ◌+◌, ◌<◌, ◌≤◌, ◌^◌, Bool, true, false, not, ◌&&◌, ◌||◌, List, [], ◌∷◌, length, map, fold, All, Option, Some, None, Ok}
use Rattle.std.specs.Prelude.{slice_index_or, if◌then◌else◌}
use Rattle.std.specs.List.{range_with_len}
use Rattle.std.proofs.lemmas.List.{get_or-map}
use Rattle.std.proofs.lemmas.List.Elements.{All-head, All-tail}
use Rattle.std.proofs.lemmas.List.FromFn.{length-map-range_with_len, get_or-map-range_with_len}
use Rattle.uadp_header.specs.Spelling.{IsWritten}
use Rattle.pubsub_model.specs.declared.reading.Why.TheVariants.{NewToken}
use Rattle.message_guard.specs.declared.keys.TokenKeys.{TokenKeys}
use Rattle.message_guard.specs.declared.mode.Mode.{Mode}
use Rattle.message_guard.specs.declared.mode.Mode.TheVariants as modes
use Rattle.message_guard.specs.Acceptance.{Accepted, is_acceptable, raises}
use Rattle.message_guard.specs.Modes as guard_modes
use Rattle.message_guard.specs.Opening.{accepts}
use Rattle.message_guard.specs.Senders.{SenderState}
use Rattle.ps_config.specs.declared.parts.Config.{Config}
use Rattle.ps_config.specs.declared.parts.GroupPart.{GroupPart}
use Rattle.ps_config.specs.declared.parts.ReadGroupPart.{ReadGroupPart}
use Rattle.ps_config.specs.Headers.{mode_of}
use Rattle.writer_group.specs.Sealing.{AreWritten, envelope_with, Payload, Envelope, datagram_at, datagrams_from, header_at}
use Rattle.reader_group.specs.Members.{Seat, MemberValue, new_member, seat_at}
use Rattle.reader_group.specs.Opening.{Opened}
use Rattle.reader_group.specs.Plain.{PlainGroup, Fed, Setting, fed_by, cut_if, each, feds, is_raised, member_at, receipt_of, step, taken_on, verdict_in}
use Rattle.reader_group.specs.Settings.{setting_by}
use Rattle.group_laws.specs.Matching.{MaySend}
use Rattle.group_laws.specs.TurnDelivered.{AreDisabled, AreEnabled, Delivery, IsSenderAheadIf, received, delivered, is_first_raised}
use Rattle.group_laws.specs.TurnOpened.{opened_at, opened_from, sender_at, is_accepted}
use Rattle.group_laws.specs.TurnReading.{Received, given_by}
use Rattle.group_laws.proofs.Ahead.{IsAheadBy, next-acceptable, next-ahead, not-raised}
use Rattle.group_laws.proofs.PayloadsGood.{IsGood}
use Rattle.group_laws.proofs.TurnLaws.{AreOne, one-taken}
use Rattle.group_laws.proofs.TurnTaken.{IsOne, advanced-keys, advanced-used, guard-is, setup-open}

-- ---- one datagram that is taken

-- what one reader is given of it
pub member-fed : (setting : Setting) (group : PlainGroup) (now : ℕ) (on : List Bool) (opened : Opened) (reader : ℕ) → reader < length setting.seats
    → member_at (taken_on setting group now on (Ok opened)).members reader
    ≡ (fed_by (seat_at setting.seats reader) (receipt_of setting now opened) (is_raised setting group.accepted opened) (slice_index_or on reader false) opened.payload (member_at group.members reader)).member
member-fed setting group now on opened reader within =
    let f : ℕ → Fed = λ k. fed_by (seat_at setting.seats k) (receipt_of setting now opened) (is_raised setting group.accepted opened) (slice_index_or on k false) opened.payload (member_at group.members k) in
    let long = length-map-range_with_len f 0 (length setting.seats) in
    get_or-map (λ (fed : Fed). fed.member) (map f (range_with_len 0 (length setting.seats))) reader (f reader) new_member (omega (arith, long, within))
    ∙ ap (λ (fed : Fed). fed.member) (get_or-map-range_with_len f 0 (length setting.seats) reader reader (f reader) within (omega arith))

-- ---- what was accepted before the datagram with this index

abbrev pub Before : Option SenderState → Accepted → ℕ → Type 0
Before None accepted index = Unit {0}
Before (Some s) accepted index = IsAheadBy accepted s.keys.token (s.used + index)

-- the sender's token was accepted
abbrev pub IsSettled : Option SenderState → Accepted → Type 0
IsSettled None accepted = Unit {0}
IsSettled (Some s) accepted = raises accepted s.keys.token ≡ false

pub before-all : (sender : Option SenderState) (accepted : Accepted) → IsSenderAheadIf accepted sender → Before sender accepted 0
before-all None accepted ahead = tt
before-all (Some s) accepted ahead =
    let none : s.used ≡ s.used + 0 = omega arith in
    record { not_above = ahead.token; numbers = subst (λ (n : ℕ). All (λ (number : ℕ). number ≤ n) (Rattle.message_guard.specs.Acceptance.numbers_of accepted s.keys.token)) none ahead.numbers }

record Takes (setting : Setting) (group : PlainGroup) (sender : Option SenderState) (index : ℕ) (datagram : List ℕ) (opened : Opened) : Type 0 where
  verdict_is : verdict_in setting group datagram ≡ Ok opened
  before : Before sender (accepts setting.setup.mode opened.pass group.accepted) (suc index)
  settled : IsSettled sender (accepts setting.setup.mode opened.pass group.accepted)
  again : IsSettled sender group.accepted → is_raised setting group.accepted opened ≡ false

open-accepts : (setting : Setting) (accepted : Accepted) (opened : Opened) → setting.setup.mode ≡ modes.None → is_accepted setting.setup accepted opened.pass ≡ true
open-accepts setting accepted opened none = ap (λ (m : Mode). not (guard_modes.is_secured m) || is_acceptable setting.setup.keys accepted opened.pass.token opened.pass.number) none

takes : (config : Config) (group : GroupPart) (reads : ReadGroupPart) (plain : PlainGroup) (made index count : ℕ) (payload : Payload) (sender : Option SenderState) → IsOne config group reads payload → MaySend config group count sender
    → IsWritten (header_at (envelope_with config group made) sender index payload.0) → index < count → Before sender plain.accepted index
    → Takes (setting_by config reads) plain sender index (datagram_at (envelope_with config group made) sender index payload) (opened_at group.layout (envelope_with config group made) sender index payload)
takes config group reads plain made index count payload None one may written within before =
    let setting = setting_by config reads in
    let opened = opened_at group.layout (envelope_with config group made) None index payload in
    let none = setup-open config group reads payload one may in
    record {
      verdict_is = (one-taken config group reads plain.accepted made index count payload None one may written within).taken (open-accepts setting plain.accepted opened none);
      before = tt;
      settled = tt;
      again = λ e. ap (λ (m : Mode). guard_modes.is_secured m && raises plain.accepted opened.pass.token) none;
    }
takes config group reads plain made index count payload (Some s) one may written within before =
    let setting = setting_by config reads in
    let e = envelope_with config group made in
    let opened = opened_at group.layout e (Some s) index payload in
    let now = sender_at e s index in
    let mode = mode_of group.security in
    let fits : s.used + suc index < 2 ^ 32 = let most = may.1 in omega (arith, most, within) in
    let guard = guard-is config group reads payload index s one may.0 fits may.2 in
    let secured : guard_modes.is_secured setting.setup.mode ≡ true = ap guard_modes.is_secured guard.mode_is ∙ guard.secured in
    let token_is : now.keys.token ≡ s.keys.token = ap (λ (k : TokenKeys). k.token) (advanced-keys mode s (suc index)) in
    let used_is : now.used ≡ s.used + suc index = advanced-used mode s (suc index) in
    let ahead : IsAheadBy plain.accepted now.keys.token (s.used + index) = subst (λ (t : ℕ). IsAheadBy plain.accepted t (s.used + index)) (sym token_is) before in
    let above : s.used + index < now.used = omega (arith, used_is) in
    let acceptable = next-acceptable setting.setup.keys plain.accepted now.keys.token (s.used + index) now.used now.keys guard.known ahead above in
    let accepted_is : is_accepted setting.setup plain.accepted opened.pass ≡ true = ap (λ (b : Bool). not b || is_acceptable setting.setup.keys plain.accepted now.keys.token now.used) secured ∙ acceptable in
    let after : accepts setting.setup.mode opened.pass plain.accepted ≡ (now.keys.token, now.used) ∷ plain.accepted = ap (λ (b : Bool). if b then (now.keys.token, now.used) ∷ plain.accepted else plain.accepted) secured in
    let next : IsAheadBy ((now.keys.token, now.used) ∷ plain.accepted) s.keys.token (s.used + suc index) =
    subst (λ (t : ℕ). IsAheadBy ((now.keys.token, now.used) ∷ plain.accepted) t (s.used + suc index)) token_is
    (subst (λ (n : ℕ). IsAheadBy ((now.keys.token, now.used) ∷ plain.accepted) now.keys.token n) used_is (next-ahead plain.accepted now.keys.token (s.used + index) now.used ahead above)) in
    let known : raises ((now.keys.token, now.used) ∷ plain.accepted) s.keys.token ≡ false = subst (λ (t : ℕ). raises ((now.keys.token, now.used) ∷ plain.accepted) t ≡ false) token_is (not-raised plain.accepted now.keys.token now.used) in
    record {
      verdict_is = (one-taken config group reads plain.accepted made index count payload (Some s) one may written within).taken accepted_is;
      before = subst (λ (a : Accepted). IsAheadBy a s.keys.token (s.used + suc index)) (sym after) next;
      settled = subst (λ (a : Accepted). raises a s.keys.token ≡ false) (sym after) known;
      again = λ settled. ap (λ (b : Bool). b && raises plain.accepted now.keys.token) secured ∙ ap (raises plain.accepted) token_is ∙ settled;
    }

-- ---- all datagrams of a turn

module _ (config : Config) (group : GroupPart) (reads : ReadGroupPart) (made count : ℕ) (sender : Option SenderState) (are : AreOne config group reads count sender) where
  abbrev setting : Setting
  setting = setting_by config reads

  abbrev e : Envelope
  e = envelope_with config group made

  step-is : (plain : PlainGroup) (delivery : Delivery) (index : ℕ) (payload : Payload) → Takes setting plain sender index (datagram_at e sender index payload) (opened_at group.layout e sender index payload)
      → step setting plain (Rattle.reader_group.specs.Plain.Got delivery.moment delivery.on (datagram_at e sender index payload))
      ≡ taken_on setting plain delivery.moment delivery.on (Ok (opened_at group.layout e sender index payload))
  step-is plain delivery index payload takes_it = ap (taken_on setting plain delivery.moment delivery.on) takes_it.verdict_is

  takes-first : (plain : PlainGroup) (index : ℕ) (payload : Payload) (payloads : List Payload) → index + length (payload ∷ payloads) ≤ count → All (IsGood group.layout) (payload ∷ payloads) → AreWritten e sender index (payload ∷ payloads)
      → Before sender plain.accepted index → Takes setting plain sender index (datagram_at e sender index payload) (opened_at group.layout e sender index payload)
  takes-first plain index payload payloads fit good written before =
      takes config group reads plain made index count payload sender (are.one payload (All-head (IsGood group.layout) payload payloads good)) are.may written.0 (omega (arith, fit)) before

  -- what was accepted before goes on through them
  pub ahead-after : (plain : PlainGroup) (deliveries : List Delivery) (index : ℕ) (payloads : List Payload) → length deliveries ≡ length payloads → index + length payloads ≤ count → All (IsGood group.layout) payloads
      → AreWritten e sender index payloads → Before sender plain.accepted index
      → Before sender (fold (step setting) plain (delivered deliveries (datagrams_from e sender index payloads))).accepted (index + length payloads)
  ahead-after plain [] index [] same fit good written before = let none : index ≡ index + 0 = omega arith in subst (λ (n : ℕ). Before sender plain.accepted n) none before
  ahead-after plain [] index (payload ∷ payloads) same fit good written before = absurd (omega (arith, same))
  ahead-after plain (delivery ∷ deliveries) index [] same fit good written before = absurd (omega (arith, same))
  ahead-after plain (delivery ∷ deliveries) index (payload ∷ payloads) same fit good written before =
      let takes_it = takes-first plain index payload payloads fit good written before in
      let after = taken_on setting plain delivery.moment delivery.on (Ok (opened_at group.layout e sender index payload)) in
      let far : index + 1 + length payloads ≡ index + suc (length payloads) = omega arith in
      subst (λ (g : PlainGroup). Before sender (fold (step setting) g (delivered deliveries (datagrams_from e sender (index + 1) payloads))).accepted (index + suc (length payloads))) (sym (step-is plain delivery index payload takes_it))
      (subst (λ (n : ℕ). Before sender (fold (step setting) after (delivered deliveries (datagrams_from e sender (index + 1) payloads))).accepted n) far
      (ahead-after after deliveries (index + 1) payloads (omega (arith, same)) (omega (arith, fit)) (All-tail (IsGood group.layout) payload payloads good) written.1
      (subst (λ (n : ℕ). Before sender after.accepted n) (omega arith) takes_it.before)))

  module _ (reader : ℕ) (within : reader < length setting.seats) where
    abbrev seat : Seat
    seat = seat_at setting.seats reader

    -- what one step of the read group with a datagram that it takes does to a reader that is enabled, and to one that isn't
    step-fed : (plain : PlainGroup) (delivery : Delivery) (index : ℕ) (payload : Payload) → slice_index_or delivery.on reader false ≡ true
        → (let opened = opened_at group.layout e sender index payload in let after = taken_on setting plain delivery.moment delivery.on (Ok opened) in
        member_at after.members reader ≡ given_by seat (cut_if (is_raised setting plain.accepted opened) NewToken (member_at plain.members reader)) (record { receipt = receipt_of setting delivery.moment opened; opened = opened }))
    step-fed plain delivery index payload on =
        let opened = opened_at group.layout e sender index payload in
        member-fed setting plain delivery.moment delivery.on opened reader within
        ∙ ap (λ (b : Bool). (fed_by seat (receipt_of setting delivery.moment opened) (is_raised setting plain.accepted opened) b opened.payload (member_at plain.members reader)).member) on

    step-left : (plain : PlainGroup) (delivery : Delivery) (index : ℕ) (payload : Payload) → slice_index_or delivery.on reader false ≡ false
        → (let opened = opened_at group.layout e sender index payload in let after = taken_on setting plain delivery.moment delivery.on (Ok opened) in
        member_at after.members reader ≡ cut_if (is_raised setting plain.accepted opened) NewToken (member_at plain.members reader))
    step-left plain delivery index payload off =
        let opened = opened_at group.layout e sender index payload in
        member-fed setting plain delivery.moment delivery.on opened reader within
        ∙ ap (λ (b : Bool). (fed_by seat (receipt_of setting delivery.moment opened) (is_raised setting plain.accepted opened) b opened.payload (member_at plain.members reader)).member) off

    -- ---- a reader that is enabled

    rest-fed : (plain : PlainGroup) (deliveries : List Delivery) (index : ℕ) (payloads : List Payload) → AreEnabled reader deliveries → length deliveries ≡ length payloads → index + length payloads ≤ count
        → All (IsGood group.layout) payloads → AreWritten e sender index payloads → Before sender plain.accepted index → IsSettled sender plain.accepted
        → member_at (fold (step setting) plain (delivered deliveries (datagrams_from e sender index payloads))).members reader
        ≡ fold (given_by seat) (member_at plain.members reader) (received setting deliveries (opened_from group.layout e sender index payloads))
    rest-fed plain [] index [] enabled same fit good written before settled = refl
    rest-fed plain [] index (payload ∷ payloads) enabled same fit good written before settled = absurd (omega (arith, same))
    rest-fed plain (delivery ∷ deliveries) index [] enabled same fit good written before settled = absurd (omega (arith, same))
    rest-fed plain (delivery ∷ deliveries) index (payload ∷ payloads) enabled same fit good written before settled =
        let opened = opened_at group.layout e sender index payload in
        let takes_it = takes-first plain index payload payloads fit good written before in
        let on = All-head (λ (d : Delivery). slice_index_or d.on reader false ≡ true) delivery deliveries enabled in
        let after = taken_on setting plain delivery.moment delivery.on (Ok opened) in
        let this : Received = record { receipt = receipt_of setting delivery.moment opened; opened = opened } in
        let member_is : member_at after.members reader ≡ given_by seat (member_at plain.members reader) this =
        step-fed plain delivery index payload on ∙ ap (λ (b : Bool). given_by seat (cut_if b NewToken (member_at plain.members reader)) this) (takes_it.again settled) in
        ap (λ (g : PlainGroup). member_at (fold (step setting) g (delivered deliveries (datagrams_from e sender (index + 1) payloads))).members reader) (step-is plain delivery index payload takes_it)
        ∙ rest-fed after deliveries (index + 1) payloads (All-tail (λ (d : Delivery). slice_index_or d.on reader false ≡ true) delivery deliveries enabled) (omega (arith, same)) (omega (arith, fit))
        (All-tail (IsGood group.layout) payload payloads good) written.1 (subst (λ (n : ℕ). Before sender after.accepted n) (omega arith) takes_it.before) takes_it.settled
        ∙ ap (λ (m : MemberValue). fold (given_by seat) m (received setting deliveries (opened_from group.layout e sender (index + 1) payloads))) member_is

    pub all-fed : (plain : PlainGroup) (deliveries : List Delivery) (payloads : List Payload) → AreEnabled reader deliveries → length deliveries ≡ length payloads → length payloads ≤ count → All (IsGood group.layout) payloads
        → AreWritten e sender 0 payloads → IsSenderAheadIf plain.accepted sender
        → member_at (fold (step setting) plain (delivered deliveries (datagrams_from e sender 0 payloads))).members reader
        ≡ fold (given_by seat) (cut_if (is_first_raised setting plain.accepted (opened_from group.layout e sender 0 payloads)) NewToken (member_at plain.members reader)) (received setting deliveries (opened_from group.layout e sender 0 payloads))
    all-fed plain [] [] enabled same fit good written ahead = refl
    all-fed plain [] (payload ∷ payloads) enabled same fit good written ahead = absurd (omega (arith, same))
    all-fed plain (delivery ∷ deliveries) [] enabled same fit good written ahead = absurd (omega (arith, same))
    all-fed plain (delivery ∷ deliveries) (payload ∷ payloads) enabled same fit good written ahead =
        let takes_it = takes-first plain 0 payload payloads (omega (arith, fit)) good written (before-all sender plain.accepted ahead) in
        let on = All-head (λ (d : Delivery). slice_index_or d.on reader false ≡ true) delivery deliveries enabled in
        let after = taken_on setting plain delivery.moment delivery.on (Ok (opened_at group.layout e sender 0 payload)) in
        ap (λ (g : PlainGroup). member_at (fold (step setting) g (delivered deliveries (datagrams_from e sender 1 payloads))).members reader) (step-is plain delivery 0 payload takes_it)
        ∙ rest-fed after deliveries 1 payloads (All-tail (λ (d : Delivery). slice_index_or d.on reader false ≡ true) delivery deliveries enabled) (omega (arith, same)) (omega (arith, fit))
        (All-tail (IsGood group.layout) payload payloads good) written.1 takes_it.before takes_it.settled
        ∙ ap (λ (m : MemberValue). fold (given_by seat) m (received setting deliveries (opened_from group.layout e sender 1 payloads))) (step-fed plain delivery 0 payload on)

    -- ---- a reader that isn't

    rest-left : (plain : PlainGroup) (deliveries : List Delivery) (index : ℕ) (payloads : List Payload) → AreDisabled reader deliveries → length deliveries ≡ length payloads → index + length payloads ≤ count
        → All (IsGood group.layout) payloads → AreWritten e sender index payloads → Before sender plain.accepted index → IsSettled sender plain.accepted
        → member_at (fold (step setting) plain (delivered deliveries (datagrams_from e sender index payloads))).members reader ≡ member_at plain.members reader
    rest-left plain [] index [] disabled same fit good written before settled = refl
    rest-left plain [] index (payload ∷ payloads) disabled same fit good written before settled = absurd (omega (arith, same))
    rest-left plain (delivery ∷ deliveries) index [] disabled same fit good written before settled = absurd (omega (arith, same))
    rest-left plain (delivery ∷ deliveries) index (payload ∷ payloads) disabled same fit good written before settled =
        let takes_it = takes-first plain index payload payloads fit good written before in
        let off = All-head (λ (d : Delivery). slice_index_or d.on reader false ≡ false) delivery deliveries disabled in
        let after = taken_on setting plain delivery.moment delivery.on (Ok (opened_at group.layout e sender index payload)) in
        ap (λ (g : PlainGroup). member_at (fold (step setting) g (delivered deliveries (datagrams_from e sender (index + 1) payloads))).members reader) (step-is plain delivery index payload takes_it)
        ∙ rest-left after deliveries (index + 1) payloads (All-tail (λ (d : Delivery). slice_index_or d.on reader false ≡ false) delivery deliveries disabled) (omega (arith, same)) (omega (arith, fit))
        (All-tail (IsGood group.layout) payload payloads good) written.1 (subst (λ (n : ℕ). Before sender after.accepted n) (omega arith) takes_it.before) takes_it.settled
        ∙ step-left plain delivery index payload off
        ∙ ap (λ (b : Bool). cut_if b NewToken (member_at plain.members reader)) (takes_it.again settled)

    pub all-left : (plain : PlainGroup) (deliveries : List Delivery) (payloads : List Payload) → AreDisabled reader deliveries → length deliveries ≡ length payloads → length payloads ≤ count → All (IsGood group.layout) payloads
        → AreWritten e sender 0 payloads → IsSenderAheadIf plain.accepted sender
        → member_at (fold (step setting) plain (delivered deliveries (datagrams_from e sender 0 payloads))).members reader
        ≡ cut_if (is_first_raised setting plain.accepted (opened_from group.layout e sender 0 payloads)) NewToken (member_at plain.members reader)
    all-left plain [] [] disabled same fit good written ahead = refl
    all-left plain [] (payload ∷ payloads) disabled same fit good written ahead = absurd (omega (arith, same))
    all-left plain (delivery ∷ deliveries) [] disabled same fit good written ahead = absurd (omega (arith, same))
    all-left plain (delivery ∷ deliveries) (payload ∷ payloads) disabled same fit good written ahead =
        let takes_it = takes-first plain 0 payload payloads (omega (arith, fit)) good written (before-all sender plain.accepted ahead) in
        let off = All-head (λ (d : Delivery). slice_index_or d.on reader false ≡ false) delivery deliveries disabled in
        let after = taken_on setting plain delivery.moment delivery.on (Ok (opened_at group.layout e sender 0 payload)) in
        ap (λ (g : PlainGroup). member_at (fold (step setting) g (delivered deliveries (datagrams_from e sender 1 payloads))).members reader) (step-is plain delivery 0 payload takes_it)
        ∙ rest-left after deliveries 1 payloads (All-tail (λ (d : Delivery). slice_index_or d.on reader false ≡ false) delivery deliveries disabled) (omega (arith, same)) (omega (arith, fit))
        (All-tail (IsGood group.layout) payload payloads good) written.1 takes_it.before takes_it.settled
        ∙ step-left plain delivery 0 payload off
