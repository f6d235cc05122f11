-- What a turn sends is what a reader of a matched read group is given, where its datagrams come in order.
use Rattle.std.proofs.Common.{◌≡◌, ◌≢◌, refl, sym, ap, ◌∙◌, subst, arith, ℕ, suc, ◌+◌, ◌<◌, ◌≤◌, List, [], ◌∷◌, length, map, All, Option, Some, None, option_map}
use Rattle.std.specs.List.{flat_map}
use Rattle.std.proofs.lemmas.List.Elements.{All-nil, All-weaker}
use Rattle.message_guard.specs.declared.keys.TokenKeys.{TokenKeys}
use Rattle.message_guard.specs.Acceptance.{Accepted, highest, numbers_of}
use Rattle.message_guard.specs.declared.mode.Mode.{Mode}
use Rattle.message_guard.specs.Senders.{SenderState}
use Rattle.config_tables.specs.declared.words.Layout.TheVariants as layouts
use Rattle.ps_config.specs.Headers.{mode_of}
use Rattle.writer_group.specs.Payloads.{meta_at, payloads_of}
use Rattle.writer_group.specs.Sealing.{Payload, Envelope, advanced_by, datagrams_from}
use Rattle.writer_group.specs.Turns.{frames_in, made_in, frame_by}
use Rattle.reader_group.specs.Opening.{Opened}
use Rattle.reader_group.specs.Payloads.{pieces}
use Rattle.reader_group.specs.Plain.{Fed, Setting, unfed}
use Rattle.group_laws.specs.Matching.{ReadsFrames, ReadsWriter}
use Rattle.group_laws.specs.TurnDelivered.{AreDisabled, AreEnabled, Course, Delivery, IsDelivered, IsDeliveredInSlot, IsSenderAhead, IsSenderAheadIf, IsTakenInOrder, all_fed, all_received, group_after, its_opened, its_seat, its_setting, member_after, member_before, received, sender_after}
use Rattle.group_laws.specs.TurnReading.{Received, frame_answered, IsBehind, IsFixedTurn, IsSampled}
use Rattle.group_laws.proofs.Delivering.{Before, ahead-after, all-fed, all-left, before-all}
use Rattle.group_laws.proofs.DynamicReading.{dynamic-read}
use Rattle.group_laws.proofs.FixedReading.{fixed-read}
use Rattle.group_laws.proofs.OtherReaders.{others-none}
use Rattle.group_laws.proofs.PartsReading.{Part, fed-parts, none-read, one-by-one, parts_for, pieces-of}
use Rattle.group_laws.proofs.PayloadsGood.{IsGood}
use Rattle.writer_group.proofs.SmallIds.{turn-small, group-sound}
use Rattle.group_laws.proofs.TurnLaws.{AreOne, payloads-good, turn-many}
use Rattle.group_laws.proofs.TurnTaken.{advanced-keys, advanced-used}

received-opened : (setting : Setting) (deliveries : List Delivery) (opened : List Opened) → length deliveries ≡ length opened → map (λ (a : Received). a.opened) (received setting deliveries opened) ≡ opened
received-opened setting [] [] same = refl
received-opened setting [] (first ∷ opened) same = absurd (omega (arith, same))
received-opened setting (delivery ∷ deliveries) [] same = absurd (omega (arith, same))
received-opened setting (delivery ∷ deliveries) (first ∷ opened) same = ap (λ (l : List Opened). first ∷ l) (received-opened setting deliveries opened (omega (arith, same)))

many : (e : Envelope) (sender : Option SenderState) (from : ℕ) (payloads : List Payload) → length (datagrams_from e sender from payloads) ≡ length payloads
many e sender from [] = refl
many e sender from (payload ∷ payloads) = ap suc (many e sender (from + 1) payloads)

ahead-next : (mode : Mode) (sender : Option SenderState) (accepted : Accepted) (count : ℕ) → Before sender accepted count → IsSenderAheadIf accepted (option_map (λ s. advanced_by mode s count) sender)
ahead-next mode None accepted count before = tt
ahead-next mode (Some s) accepted count before =
    let keys = advanced-keys mode s count in
    let token : s.keys.token ≡ (advanced_by mode s count).keys.token = sym (ap (λ (k : TokenKeys). k.token) keys) in
    let used : s.used + count ≡ (advanced_by mode s count).used = sym (advanced-used mode s count) in
    record {
      token = subst (λ (t : ℕ). highest accepted ≤ t) token before.not_above;
      numbers = subst (λ (t : ℕ). All (λ (n : ℕ). n ≤ (advanced_by mode s count).used) (numbers_of accepted t)) token
          (subst (λ (most : ℕ). All (λ (n : ℕ). n ≤ most) (numbers_of accepted s.keys.token)) used before.numbers);
    }

-- where nothing was accepted each sender is ahead
pub opening-ahead : (s : SenderState) → IsSenderAhead [] s
opening-ahead s = record { token = omega arith; numbers = All-nil (λ (n : ℕ). n ≤ s.used) }

-- a sender that others share stays ahead where it gives them fronts
pub shared-ahead : (accepted : Accepted) (mode : Mode) (s : SenderState) (count : ℕ) → IsSenderAhead accepted s → IsSenderAhead accepted (advanced_by mode s count)
shared-ahead accepted mode s count ahead =
    ahead-next mode (Some s) accepted count (record {
      not_above = ahead.token;
      numbers = All-weaker (λ (n : ℕ). n ≤ s.used) (λ (n : ℕ). n ≤ s.used + count) (λ n le. omega (arith, le)) (numbers_of accepted s.keys.token) ahead.numbers;
    })

module _ (c : Course) (taken : IsTakenInOrder c) where
  abbrev payloads : List Payload
  payloads = payloads_of c.config c.group (frames_in c.group c.past c.input)

  are : AreOne c.config c.group c.readers (length payloads) c.input.sender
  are = record {
    one = λ payload good. record { sound = taken.turn.sound; is = group-sound c.config c.group taken.turn.sound taken.turn.group_is; matched = taken.matched; good = good };
    may = taken.turn.sender;
  }

  all-good : All (IsGood c.group.layout) payloads
  all-good =
      let is = group-sound c.config c.group taken.turn.sound taken.turn.group_is in
      payloads-good c.group.layout c.config c.group (frames_in c.group c.past c.input) is (turn-small c.config c.group c.past c.input is)

  each-payload : length c.deliveries ≡ length payloads
  each-payload = taken.each ∙ many _ c.input.sender 0 payloads

  opened-are : map (λ (r : Received). r.opened) (all_received c) ≡ its_opened c
  opened-are = received-opened (its_setting c) c.deliveries (its_opened c) (taken.each ∙ sym (turn-many c.config c.group c.past c.input))

  pub next-ahead : IsSenderAheadIf (group_after c).accepted (sender_after c)
  next-ahead =
      let before : Before c.input.sender (group_after c).accepted (length payloads) = subst (λ (n : ℕ). Before c.input.sender (group_after c).accepted n) (omega arith)
      (ahead-after c.config c.group c.readers (made_in c.past) (length payloads) c.input.sender are c.before c.deliveries 0 payloads each-payload (omega arith) all-good taken.turn.written (before-all c.input.sender c.before.accepted taken.ahead)) in
      ahead-next (mode_of c.group.security) c.input.sender (group_after c).accepted (length payloads) before

  pub left-alone : c.reader < length (its_setting c).seats → AreDisabled c.reader c.deliveries → member_after c ≡ member_before c
  left-alone within disabled =
      all-left c.config c.group c.readers (made_in c.past) (length payloads) c.input.sender are c.reader within c.before c.deliveries payloads disabled each-payload (omega arith) all-good taken.turn.written taken.ahead

  module _ (within : c.reader < length (its_setting c).seats) (enabled : AreEnabled c.reader c.deliveries) where
    member-is : (all_fed c).member ≡ member_after c
    member-is =
        sym (one-by-one (its_seat c) (unfed (member_before c)) (all_received c))
        ∙ sym (all-fed c.config c.group c.readers (made_in c.past) (length payloads) c.input.sender are c.reader within c.before c.deliveries payloads enabled each-payload (omega arith) all-good taken.turn.written taken.ahead)

    pub dynamic-delivered : (writer : ℕ) → c.group.layout ≡ layouts.Dynamic → ReadsWriter c.group writer (its_seat c).part → ReadsFrames c.group c.input.told.metas writer (its_seat c).meta → IsSampled c.group c.past c.input writer
        → IsBehind c.config.publisher.id c.group (member_before c).joining (frame_by c.group c.past c.input writer) → IsDelivered c (frame_answered c.group c.past c.input writer (its_seat c))
    dynamic-delivered writer is reads metas sampled behind = record {
      member = member-is;
      read = dynamic-read c.config c.group c.past c.input writer (its_seat c) (unfed (member_before c)) (all_received c) is taken.turn reads metas sampled opened-are behind;
    }

    pub fixed-delivered : (writer : ℕ) → c.group.layout ≡ layouts.Fixed → IsFixedTurn c.config c.group c.past c.input → ReadsWriter c.group writer (its_seat c).part → (its_seat c).meta ≡ meta_at c.group c.config.dataset writer
        → IsDeliveredInSlot c (frame_answered c.group c.past c.input writer (its_seat c))
    fixed-delivered writer is fixed reads same = record {
      member = member-is;
      read = fixed-read c.config c.group c.past c.input writer (its_seat c) (unfed (member_before c)) (all_received c) is taken.turn fixed reads same opened-are;
    }

    -- a reader of a writer that isn't of the group
    pub others-left : c.group.layout ≡ layouts.Dynamic → 1 ≤ (its_seat c).part.writer → All (λ writer. writer.id ≢ (its_seat c).part.writer) c.group.writer → member_after c ≡ member_before c
    others-left is some all =
        let seat = its_seat c in
        let fed = unfed (member_before c) in
        let parts = parts_for seat (all_received c) in
        let none : map (λ (p : Part). p.piece) parts ≡ [] =
        pieces-of seat (all_received c) ∙ ap (flat_map (λ (o : Opened). pieces seat.part o.payload)) opened-are ∙ others-none c.config c.group c.past c.input seat is taken.turn some all in
        sym member-is ∙ ap (λ (f : Fed). f.member) (fed-parts seat fed (all_received c) ∙ none-read seat fed parts none)
