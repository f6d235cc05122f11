use Rattle.std.proofs.Common.{◌≡◌, refl, sym, ap, ◌∙◌, ◌&&◌, subst, arith, Option, Ok, ℕ, List}
use Rattle.message_guard.specs.Acceptance.{raises}
use Rattle.message_guard.specs.Guards.{IsGuardOf, setup_of}
use Rattle.message_guard.specs.Modes.{is_secured}
use Rattle.message_guard.specs.Opening.{accepts}
use Rattle.message_guard.specs.declared.guard.Guard.{Guard}
use Rattle.reader_group.specs.Begun.{LeavesBytes, Opens, payload_held}
use Rattle.reader_group.specs.Opening.{verdict}
use Rattle.reader_group.specs.declared.opening.Buffers.{Buffers}
use Rattle.message_guard.specs.declared.keys.TokenKeys.{TokenKeys}
use Rattle.std.proofs.lemmas.List.{with_items_is}
use Rattle.reader_group.specs.Held.{payload_in}
use Rattle.reader_group.specs.Groups.{AreMembers, Stands, guard_of, members_of, index_of, setting_with}
use Rattle.ps_config.specs.Headers.{mode_of}
use Rattle.reader_group.specs.LastTaken.{pair_on}
use Rattle.reader_group.specs.Plain.{PlainGroup, with_keys}
use Rattle.reader_group.specs.Settings.{setting_by}
use Rattle.reader_group.proofs.Made.{part_contained, setup-mode}
use Rattle.reader_group.proofs.Noticing.{taken_notices}
use Rattle.reader_group.proofs.Seats.{few_readers, seats-length}
use Rattle.reader_group.proofs.Steps.{IsTaken, bytes-are, receipt_with, made_readers, stands_part, taken_step, taken_answer}
use Rattle.reader_group.proofs.group.ReaderGroup.take.Goals as goal
use Rattle.reader_group.proofs.group.ReaderGroup.take.Goals.{After-self-4-1}

pub part_count-requires : goal.part_count-requires
part_count-requires c =
    let config = c.args.config.now in
    let group = c.args.self.now in
    let part = c.part_at-part.result.now in
    let readers = made_readers config group part c.requires.made c.part_at-part.ensures in
    let has = part_contained config (index_of group) part c.requires.made.index c.part_at-part.ensures in
    omega (arith, c.requires.on, readers.count, seats-length config part, few_readers config part c.requires.made.sound has)

-- what the calls ensured of a datagram that was opened
taken : (c : After-self-4-1) (keys : List TokenKeys) (plain : PlainGroup) → Stands (setting_with c.args.config.now c.args.self.now keys) plain c.args.self.now
    → IsTaken (with_keys (setting_by c.args.config.now c.part_at-part.result.now) keys) plain c.args.now c.args.on.now c.args.bytes.now c.open.new.bytes (guard_of c.args.self.now) c.accept-raised.new.self
    (members_of c.args.self.now) c.feed_all-tally.new.members c.in_ok-begun.begun c.open.new.room c.accept-raised.result (receipt_with c.args.now c.stamp_of.result)
    (payload_in c.payload_held-payload.result) c.feed_all-tally.result
taken c keys plain h =
    let config = c.args.config.now in
    let group = c.args.self.now in
    let part = c.part_at-part.result.now in
    let seats = (setting_by config part).seats in
    let before = stands_part config group part keys plain c.requires.made c.part_at-part.ensures h in
    let members : AreMembers seats plain.members c.deref_mut-3.result.now = subst (AreMembers seats plain.members) (sym c.deref_mut-3.ensures.value) before.members in
    let looked : c.deref.result.now ≡ guard_of group = c.deref.ensures in
    let changed : c.deref_mut-2.result.now ≡ guard_of group = c.deref_mut-2.ensures.value in
    record {
      opens = subst (λ (g : Guard). Opens part (verdict part (setup_of g) plain.accepted c.args.bytes.now) (Ok c.in_ok-begun.begun) c.open.new.room c.open.new.bytes) looked
          (c.in_ok-begun.ensures.verdict plain.accepted (subst (IsGuardOf plain.accepted) (sym looked) before.guard));
      held = c.payload_held-payload.ensures ∙ ap (λ (room : Buffers). payload_held part.layout c.in_ok-begun.begun room c.open.new.bytes) c.deref-2.ensures;
      receipt_is = ap (λ (stamp : Option ℕ). receipt_with c.args.now stamp) c.stamp_of.ensures;
      setup = before.setup;
      setup_stays = c.accept-raised.ensures.setup ∙ ap setup_of changed;
      mode = setup-mode config part part.keygroup;
      accepts_it = subst (λ (g : Guard). IsGuardOf (accepts (setup_of g).mode c.in_ok-begun.begun.pass plain.accepted) c.accept-raised.new.self) changed
          (c.accept-raised.ensures.accepted plain.accepted (subst (IsGuardOf plain.accepted) (sym changed) before.guard));
      raised_is = subst (λ (g : Guard). c.accept-raised.result ≡ (is_secured (setup_of g).mode && raises plain.accepted c.in_ok-begun.begun.pass.token)) changed
          (c.accept-raised.ensures.raised plain.accepted (subst (IsGuardOf plain.accepted) (sym changed) before.guard));
      members_are = c.feed_all-tally.ensures.members plain.members members;
      tally_is = c.feed_all-tally.ensures.tally plain.members members;
    }

pub returns-clause-step : goal.returns-clause-step
returns-clause-step c = λ keys plain h.
    let old = c.args.self.now in
    let part = c.part_at-part.result.now in
    let members = c.feed_all-tally.new.members in
    let count = c.feed_all-tally.ensures.readers.count ∙ sym (made_readers c.args.config.now old part c.requires.made c.part_at-part.ensures).count in
    taken_step c.args.config.now old _ c.accept-raised.new.self members part keys plain c.args.now c.args.on.now c.args.bytes.now c.open.new.bytes c.in_ok-begun.begun c.open.new.room
    c.accept-raised.result (receipt_with c.args.now c.stamp_of.result) (payload_in c.payload_held-payload.result) c.feed_all-tally.result c.requires.made c.part_at-part.ensures
    (taken c keys plain h) refl (c.pair_on-self.ensures ∙ ap (pair_on (mode_of part.security) c.in_ok-begun.begun.pass) h.pair) (with_items_is old.members members (count ∙ sym old.members.ok.0))

pub returns-clause-answer : goal.returns-clause-answer
returns-clause-answer c = λ keys plain h.
    taken_answer c.args.config.now c.args.self.now c.accept-raised.new.self c.feed_all-tally.new.members c.part_at-part.result.now keys plain c.args.now c.args.on.now c.args.bytes.now c.open.new.bytes
    c.in_ok-begun.begun c.open.new.room c.accept-raised.result (receipt_with c.args.now c.stamp_of.result) (payload_in c.payload_held-payload.result) c.feed_all-tally.result
    (record { parts = c.part_count.result; matched = c.feed_all-tally.result.matched; bad = c.feed_all-tally.result.bad }) c.requires.made c.part_at-part.ensures (taken c keys plain h)
    c.part_count.ensures refl refl

pub returns-in_err-begun-clause-bytes : goal.returns-in_err-begun-clause-bytes
returns-in_err-begun-clause-bytes c = λ keys plain h.
    let old = c.args.self.now in
    let part = c.part_at-part.result.now in
    bytes-are c.args.config.now old part keys plain c.args.bytes.now c.open.new.bytes c.requires.made c.part_at-part.ensures h
    (subst (λ (g : Guard). LeavesBytes part g c.args.bytes.now c.open.new.bytes) c.deref.ensures c.in_err-begun.ensures.bytes)

pub returns-clause-bytes : goal.returns-clause-bytes
returns-clause-bytes c = λ keys plain h.
    let old = c.args.self.now in
    let part = c.part_at-part.result.now in
    bytes-are c.args.config.now old part keys plain c.args.bytes.now c.open.new.bytes c.requires.made c.part_at-part.ensures h
    (subst (λ (g : Guard). LeavesBytes part g c.args.bytes.now c.open.new.bytes) c.deref.ensures c.in_ok-begun.ensures.bytes)

pub returns-clause-notices : goal.returns-clause-notices
returns-clause-notices c = λ keys plain h k within.
    let config = c.args.config.now in
    let old = c.args.self.now in
    let part = c.part_at-part.result.now in
    let seats = (setting_by config part).seats in
    let before = stands_part config old part keys plain c.requires.made c.part_at-part.ensures h in
    let members : AreMembers seats plain.members c.deref_mut-3.result.now = subst (AreMembers seats plain.members) (sym c.deref_mut-3.ensures.value) before.members in
    taken_notices config old part keys plain c.args.now c.args.on.now c.args.bytes.now c.open.new.bytes c.accept-raised.new.self c.feed_all-tally.new.members c.in_ok-begun.begun c.open.new.room
    c.accept-raised.result (receipt_with c.args.now c.stamp_of.result) (payload_in c.payload_held-payload.result) c.feed_all-tally.result old.notices c.feed_all-tally.new.notices k
    c.requires.made c.part_at-part.ensures (taken c keys plain h) (λ inside. c.feed_all-tally.ensures.notices plain.members members k inside) within
