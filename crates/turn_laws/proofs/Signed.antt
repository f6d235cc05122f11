-- What came signed was made by the key group's sender, whatever a publisher did whose turns are those of the definitions.
use Rattle.std.proofs.Common.{◌≡◌, refl, sym, ◌∙◌, subst, ℕ, Bool, true, false, List, [], ◌∷◌, Some, Result, Ok, Err, inl, inr, All}
use Rattle.std.specs.Prelude.{◌⊎◌, ◌==◌, if◌then◌else◌, slice_get, slice_index_or}
use Rattle.std.proofs.lemmas.List.Elements.{All-nil}
use Rattle.std.proofs.lemmas.Option.{slice_get-get_or}
use Rattle.pubsub_model.specs.declared.reading.Why.TheVariants.{NewToken, Timeout}
use Rattle.message_guard.specs.declared.keys.TokenKeys.{TokenKeys}
use Rattle.message_guard.specs.Acceptance.{Accepted}
use Rattle.message_guard.specs.Guards.{Setup}
use Rattle.message_guard.specs.Modes.{is_secured}
use Rattle.ps_config.specs.declared.parts.Config.{Config}
use Rattle.ps_config.specs.declared.parts.ReadGroupPart.{ReadGroupPart}
use Rattle.ps_config.specs.Sound.{IsSound}
use Rattle.reader_group.specs.Agreeing.{ChunksNear, IsWayOf, MemberIs, SendsRise}
use Rattle.reader_group.specs.Arrivals.{Mark, Way, accepted, arrivals_in, cut_on, goes_by_numbers, is_numbered, marks, runs_out, taken_in}
use Rattle.reader_group.specs.Members.{seat_at}
use Rattle.reader_group.specs.Opening.{Opened, verdict}
use Rattle.reader_group.specs.Payloads.{pieces}
use Rattle.reader_group.specs.Plain.{Setting, PlainGroup, Event, Got, Expired, Stopped, is_raised, member_at, plain, stamp_by, with_keys}
use Rattle.reader_group.specs.Settings.{setting_by, setup_by}
use Rattle.reader_group.specs.declared.refusal.Refusal.{Refusal}
use Rattle.reader_group.proofs.KeptParts.{keep-parts}
use Rattle.writer_group.specs.Parts.{group_at, no_group}
use Rattle.group_laws.specs.Matching.{IsMatchedTo}
use Rattle.session_model.specs.Deeds.{Deed, group_past}
use Rattle.session_laws.specs.Below.{TurnLaws}
use Rattle.session_laws.specs.Pasts.{CameAsMade, IsMade, WasMade, answered_by}
use Rattle.session_laws.specs.Readers.{IsMadeFor, IsPartFor, Making, SignedAreMade}
use Rattle.session_laws.proofs.HeldRows.Marks.{all-on, sent-cut}
use Rattle.turn_laws.specs.Makers.{ComesFromSender, HasItsRecords, IsMadeBySender, IsSigning, IsWriterUnder, Signing, its_making, its_part, its_pasts, its_sends, its_setting, its_way}
use Rattle.turn_laws.specs.Sent.{NamesPlaces, sends_in}
use Rattle.turn_laws.proofs.Contents.{AreSentMarks, AreSentPieces, IsSentChunk, IsSentFrame, IsSentPiece, Sending, marks-kept}
use Rattle.turn_laws.proofs.Holding.{HeldAt, all-held, made_with}
use Rattle.turn_laws.proofs.Others.{own-or-nothing}
use Rattle.turn_laws.proofs.Rings.{AreRingTurns, KnowsSenders, knows-own, ring-turns, secured-so}
use Rattle.turn_laws.proofs.Sharing.{own-risen}
use Rattle.turn_laws.proofs.Taken.{HasTaken, has-taken, signed-made, taken-made}

-- what a publisher did, a writer of a group of it, and a reader with these keys that is matched to it
module _ (laws : TurnLaws) (config : Config) (k g w : ℕ) (readers : ReadGroupPart) (reader : ℕ) (place : ℕ → ℕ → ℕ → ℕ) (keys : List TokenKeys) (matched : IsMatchedTo config readers reader (group_at config g) w)
    (keyed : (group_at config g).keygroup ≡ Some k) (sound : IsSound config) (there : slice_get config.group g ≡ Some (group_at config g))
    (list : List Deed) (turns : AreRingTurns config k list) (known : KnowsSenders config (record (setup_by config readers readers.keygroup) { keys = keys }) k g list) (names : NamesPlaces place (sends_in config k g w list)) where
  abbrev setup : Setup
  setup = record (setup_by config readers readers.keygroup) { keys = keys }

  abbrev way : Way
  way = record { index = reader; seat = seat_at (setting_by config readers).seats reader; place = place }

  pub held : HeldAt laws config k g w readers reader place keys matched keyed list
  held = all-held laws config k g w readers reader place keys matched keyed list turns known

  abbrev making : Making
  making = made_with (sends_in config k g w list) held.bytes

  pub made-for : is_numbered way.seat.part.numbering ≡ true → (datagram : List ℕ) → IsMade config (λ h. group_past config h list) datagram → IsMadeFor making (with_keys (setting_by config readers) keys) way datagram
  made-for numbered datagram was = λ pairs opened e. on pairs opened e (own-or-nothing laws config k (group_at config g) readers reader w setup matched g list sound there turns pairs datagram opened was e)
    where
      on : (pairs : Accepted) (opened : Opened) → verdict readers setup pairs datagram ≡ Ok opened → WasMade (group_past config g list) datagram ⊎ (pieces way.seat.part opened.payload ≡ [])
          → All (IsPartFor making way opened.pass.token opened.pass.number) (pieces way.seat.part opened.payload)
      on pairs opened e (inl own) = held.parts numbered names datagram pairs opened own e
      on pairs opened e (inr none) = subst (All (IsPartFor making way opened.pass.token opened.pass.number)) (sym none) (All-nil (IsPartFor making way opened.pass.token opened.pass.number))

  -- what was made has the writer's answers for the reader, where its read group takes it

  abbrev pub sending : Sending
  sending = record { answered = answered_by (group_at config g) w (group_past config g list); sent = sends_in config k g w list; bytes = held.bytes }

  pub contents-for : (datagram : List ℕ) → IsMade config (λ h. group_past config h list) datagram → (pairs : Accepted) (opened : Opened) → verdict readers setup pairs datagram ≡ Ok opened → AreSentPieces sending way.seat opened
  contents-for datagram was pairs opened e = on (own-or-nothing laws config k (group_at config g) readers reader w setup matched g list sound there turns pairs datagram opened was e)
    where
      on : WasMade (group_past config g list) datagram ⊎ (pieces way.seat.part opened.payload ≡ []) → AreSentPieces sending way.seat opened
      on (inl own) = held.contents datagram pairs opened own e
      on (inr none) =
          let token = opened.pass.token in
          let number = opened.pass.number in
          subst (All (IsSentPiece sending way.seat.meta token number)) (sym none) (All-nil (IsSentPiece sending way.seat.meta token number))

  -- so each item of its list is one of them, and each chunk is of one

  taken-contents : (setting : Setting) (now : ℕ) (enabled : Bool) (pairs : Accepted) (marked : List Mark) (answer : Result Opened Refusal) → ((opened : Opened) → answer ≡ Ok opened → AreSentPieces sending way.seat opened)
      → AreSentMarks sending way marked → AreSentMarks sending way (taken_in setting way now enabled pairs marked answer)
  taken-contents setting now enabled pairs marked (Err refusal) are h = h
  taken-contents setting now enabled pairs marked (Ok opened) are h =
      let meta = way.seat.meta in
      let token = opened.pass.token in
      let number = opened.pass.number in
      let stamp = stamp_by setting.setup.mode number in
      keep-parts (AreSentMarks sending way) (IsSentFrame sending meta token number) (IsSentChunk sending meta token number) way (place token number) now stamp
      (marks-kept sending way token number (λ own has. names token number own has) now stamp)
      (if enabled then pieces way.seat.part opened.payload else []) (cut_on (is_raised setting pairs opened) NewToken marked)
      (all-on (IsSentPiece sending meta token number) enabled (pieces way.seat.part opened.payload) (are opened refl))
      (sent-cut way.seat.part.numbering meta sending.answered sending.bytes (is_raised setting pairs opened) NewToken marked h)

  pub events-contents : (events : List Event) → CameAsMade (with_keys (setting_by config readers) keys) config (λ h. group_past config h list) events
      → AreSentMarks sending way (marks (with_keys (setting_by config readers) keys) way events)
  events-contents [] came = record { items = tt; chunks = tt }
  events-contents (Got now on datagram ∷ before) came =
      let setting = with_keys (setting_by config readers) keys in
      let pairs = accepted setting before in
      taken-contents setting now (slice_index_or on way.index false) pairs (marks setting way before) (verdict setting.group setting.setup pairs datagram)
      (λ opened e. contents-for datagram (came.0 opened e) pairs opened e) (events-contents before came.1)
  events-contents (Expired now ∷ before) came =
      let list = marks (with_keys (setting_by config readers) keys) way before in
      sent-cut way.seat.part.numbering way.seat.meta sending.answered sending.bytes (runs_out way now (arrivals_in list)) Timeout list (events-contents before came)
  events-contents (Stopped other why ∷ before) came =
      sent-cut way.seat.part.numbering way.seat.meta sending.answered sending.bytes (other == way.index) why (marks (with_keys (setting_by config readers) keys) way before) (events-contents before came)

-- ---- of a publisher's deeds, with the rings of the configuration

module _ (laws : TurnLaws) (s : Signing) (is : IsSigning s) where
  pub reads : s.readers.keygroup ≡ Some s.keygroup
  reads = is.matched.groups.keygroup ∙ is.keyed

  abbrev ring_keys : List TokenKeys
  ring_keys = (its_setting s).setup.keys

  pub known : KnowsSenders s.config (setup_by s.config s.readers s.readers.keygroup) s.keygroup s.group s.deeds
  known = knows-own s.config s.readers s.group s.keygroup s.deeds is.keyed reads is.turns

  pub turns : AreRingTurns s.config s.keygroup s.deeds
  turns = ring-turns s.config s.keygroup s.deeds is.turns

  abbrev bytes : ℕ → List ℕ
  bytes = (held laws s.config s.keygroup s.group s.writer s.readers s.reader s.place ring_keys is.matched is.keyed is.sound is.there s.deeds turns known is.names).bytes

  pub was-made-for : (datagram : List ℕ) → IsMade s.config (its_pasts s) datagram → IsMadeFor (its_making s bytes) (its_setting s) (its_way s) datagram
  was-made-for = made-for laws s.config s.keygroup s.group s.writer s.readers s.reader s.place ring_keys is.matched is.keyed is.sound is.there s.deeds turns known is.names is.numbered

  pub comes-from-sender : ComesFromSender s
  comes-from-sender =
      (events-contents laws s.config s.keygroup s.group s.writer s.readers s.reader s.place ring_keys is.matched is.keyed is.sound is.there s.deeds turns known is.names s.events is.came).items

  rises : SendsRise (its_sends s)
  rises = (own-risen s.config s.keygroup s.group s.writer is.keyed is.matched.reads.within s.deeds turns).each

  pub made-by-sender : IsMadeBySender s
  made-by-sender = record {
    named = reads;
    bytes = bytes;
    rise = rises;
    made = taken-made (its_setting s) s.config (its_pasts s) (its_making s bytes) (its_way s) was-made-for s.events is.came;
    signed = signed-made (its_setting s) s.config (its_pasts s) (its_making s bytes) (its_way s) was-made-for s.events;
  }

  -- what it took, apart from what it refused
  pub taken-of : HasTaken (its_setting s) s.config (its_pasts s) (its_making s bytes) (its_way s) was-made-for s.events
  taken-of = has-taken (its_setting s) s.config (its_pasts s) (its_making s bytes) (its_way s) was-made-for s.events is.came

-- ---- so its readers have their records

pub matched-secured : (config : Config) (readers : ReadGroupPart) (reader g w k : ℕ) → IsSound config → IsWriterUnder config k g w → IsMatchedTo config readers reader (group_at config g) w
    → is_secured (setting_by config readers).setup.mode ≡ true
matched-secured config readers reader g w k sound under matched =
    secured-so config g k (group_at config g) readers reader w sound (slice_get-get_or config.group g no_group under.there) under.keyed matched

-- the law of readers of a secured group, as `session_laws` has it
abbrev pub SignedLaw : Type 0
SignedLaw =
    (m : Making) (setting : Setting) (way : Way) (events : List Event) → is_secured setting.setup.mode ≡ true → goes_by_numbers way ≡ true → SendsRise m.sent → SignedAreMade m setting way events → IsWayOf setting way events
    → ChunksNear (marks setting way events) → MemberIs way (marks setting way events) (member_at (plain setting events).members way.index)

pub signed-member : TurnLaws → SignedLaw → (s : Signing) → IsSigning s → IsWayOf (its_setting s) (its_way s) s.events → HasItsRecords s
signed-member laws law s is way_of = λ near.
    let made = made-by-sender laws s is in
    let t = taken-of laws s is in
    let secured = secured-so s.config s.group s.keygroup (its_part s) s.readers s.reader s.writer is.sound is.there is.keyed is.matched in
    let way_taken : IsWayOf (its_setting s) (its_way s) t.taken = record { seat = way_of.seat; numbers = way_of.numbers; restarts = t.restarts way_of.restarts } in
    let own : MemberIs (its_way s) (marks (its_setting s) (its_way s) t.taken) (member_at (plain (its_setting s) t.taken).members s.reader) =
    law (its_making s (bytes laws s is)) (its_setting s) (its_way s) t.taken secured is.numbered made.rise t.made way_taken (subst ChunksNear (sym t.list_is) near) in
    subst (λ (group : PlainGroup). MemberIs (its_way s) (marks (its_setting s) (its_way s) s.events) (member_at group.members s.reader)) t.value_is
    (subst (λ (list : List Mark). MemberIs (its_way s) list (member_at (plain (its_setting s) t.taken).members s.reader)) t.list_is own)
