use Rattle.std.proofs.Common.{◌≡◌, ◌∙◌, [], sym, refl, arith}
use Rattle.ua_base.specs.Journal.{ReceiveFailed}
use Rattle.mem_edge.specs.Calls.{next_call}
use Rattle.mem_edge.specs.Standings.{settings_with}
use Rattle.mem_edge.specs.Transits.{injected_in, told_in}
use Rattle.mem_edge.proofs.Fated.{fated-injected, fated-receive-failed, fated-received}
use Rattle.mem_edge.proofs.Named.{named_from-later, named_from-named}
use Rattle.mem_edge.proofs.Opened.{is_open_from, sends_kept}
use Rattle.mem_edge.proofs.Makings.{same_making}
use Rattle.mem_edge.proofs.Patience.{more_lasts, received_lasts}
use Rattle.mem_edge.proofs.memory_link.MemoryLinkLink.receive.Goals as goal

pub fail_receive-requires : goal.fail_receive-requires
fail_receive-requires c =
    let s = c.args.self.now in
    let is_open = is_open_from s.is_open _ c.requires in
    let named = sym (c.names-named.ensures.value s.receive_fails.items (s.receives_ahead is_open)) ∙ c.if-named.true in
    omega (arith, s.room is_open, c.if-named.ensures.bound, named_from-named s.receives c.saturating_add-self.result s.receive_fails.items (omega (arith, c.if-named.ensures.bound)) named)

pub invariant_of-self-clause-room : goal.invariant_of-self-clause-room
invariant_of-self-clause-room c = λ is_open.
    let s = c.args.self.now in
    let named = sym (c.names-named.ensures.value s.receive_fails.items (s.receives_ahead is_open)) ∙ c.if-named.true in
    omega (arith, c.fail_receive.ensures.room, s.room is_open, named_from-named s.receives c.saturating_add-self.result s.receive_fails.items (omega (arith, c.if-named.ensures.bound)) named)

pub invariant_of-self-clause-planned : goal.invariant_of-self-clause-planned
invariant_of-self-clause-planned c = λ is_open. rw c.fail_receive.ensures.injected (c.args.self.now.planned is_open)

pub invariant_of-self-clause-sends_ahead : goal.invariant_of-self-clause-sends_ahead
invariant_of-self-clause-sends_ahead c = λ is_open. rw (sends_kept _ _ ReceiveFailed c.fail_receive.ensures.journal refl) (c.args.self.now.sends_ahead is_open)

pub invariant_of-self-clause-receives_ahead : goal.invariant_of-self-clause-receives_ahead
invariant_of-self-clause-receives_ahead c = λ is_open.
    let s = c.args.self.now in
    let number : c.saturating_add-self.result ≡ next_call s.receives = omega arith in
    rw number (c.pass.ensures s.receive_fails.items (s.receives_ahead is_open))

pub invariant_of-self-clause-fated : goal.invariant_of-self-clause-fated
invariant_of-self-clause-fated c = λ is_open.
    let s = c.args.self.now in
    let named = sym (c.names-named.ensures.value s.receive_fails.items (s.receives_ahead is_open)) ∙ c.if-named.true in
    let number : c.saturating_add-self.result ≡ next_call s.receives = omega arith in
    fated-injected (injected_in c.fail_receive.new.self) (injected_in s.transit) s.send_fails.items s.receive_fails.items s.open_fails s.fates.items c.saturating_add-self.result (told_in c.fail_receive.new.self) c.fail_receive.ensures.injected
    (fated-receive-failed (settings_with (injected_in s.transit) s.send_fails.items s.receive_fails.items s.open_fails s.fates.items) s.receives c.saturating_add-self.result (told_in s.transit) (told_in c.fail_receive.new.self)
    (s.fated is_open) named number c.fail_receive.ensures.told)

pub returns-then-named-clause-sends : goal.returns-then-named-clause-sends
returns-then-named-clause-sends c = sends_kept _ _ ReceiveFailed c.fail_receive.ensures.journal refl

pub invariant_of-self-2-clause-room : goal.invariant_of-self-2-clause-room
invariant_of-self-2-clause-room c = λ is_open.
    let s = c.args.self.now in
    omega (arith, c.receive.ensures.room, s.room is_open, named_from-later s.receives c.saturating_add-self.result s.receive_fails.items (omega arith))

pub invariant_of-self-2-clause-planned : goal.invariant_of-self-2-clause-planned
invariant_of-self-2-clause-planned c = λ is_open. rw c.receive.ensures.injected (c.args.self.now.planned is_open)

pub invariant_of-self-2-clause-receives_ahead : goal.invariant_of-self-2-clause-receives_ahead
invariant_of-self-2-clause-receives_ahead c = λ is_open.
    let s = c.args.self.now in
    let number : c.saturating_add-self.result ≡ next_call s.receives = omega arith in
    rw number (c.pass.ensures s.receive_fails.items (s.receives_ahead is_open))

pub invariant_of-self-2-clause-fated : goal.invariant_of-self-2-clause-fated
invariant_of-self-2-clause-fated c = λ is_open.
    let s = c.args.self.now in
    let not_named = sym (c.names-named.ensures.value s.receive_fails.items (s.receives_ahead is_open)) ∙ c.if-named.false in
    let number : c.saturating_add-self.result ≡ next_call s.receives = omega arith in
    fated-injected (injected_in c.receive.new.self) (injected_in s.transit) s.send_fails.items s.receive_fails.items s.open_fails s.fates.items c.saturating_add-self.result (told_in c.receive.new.self) c.receive.ensures.injected
    (fated-received (settings_with (injected_in s.transit) s.send_fails.items s.receive_fails.items s.open_fails s.fates.items) s.receives c.saturating_add-self.result (told_in s.transit) (told_in c.receive.new.self) c.receive.result c.receive.new.into
    (s.fated is_open) c.receive.ensures.told c.receive.ensures.sizes c.receive.ensures.works not_named number)

-- it tells on
pub returns-then-named-clause-link : goal.returns-then-named-clause-link
returns-then-named-clause-link c =
    let s = c.args.self.now in
    record {
      lasts = more_lasts _ _ ReceiveFailed [] (λ n. refl) c.fail_receive.ensures.told;
      opening = refl;
      counted = omega arith;
      making = same_making _ _ s.send_fails.items s.receive_fails.items s.open_fails c.fail_receive.ensures.injected;
      opened = refl;
    }

pub returns-clause-link : goal.returns-clause-link
returns-clause-link c =
    let s = c.args.self.now in
    record {
      lasts = received_lasts c.receive.result c.receive.new.into _ _ c.receive.ensures.tells c.receive.ensures.tells_on c.receive.ensures.told;
      opening = refl;
      counted = omega arith;
      making = same_making _ _ s.send_fails.items s.receive_fails.items s.open_fails c.receive.ensures.injected;
      opened = refl;
    }
