use Rattle.std.proofs.Common.{[], ◌∷◌, List, ℕ, ap, sym, ◌∙◌, refl, arith}
use Rattle.ua_base.specs.Journal.{Sent, SendFailed, told_more}
use Rattle.mem_edge.specs.Calls.{is_named}
use Rattle.mem_edge.specs.Queueing.{queued_by}
use Rattle.mem_edge.specs.Standings.{settings_with}
use Rattle.mem_edge.specs.Transits.{injected_in, journal_in, told_in, waiting_in}
use Rattle.mem_edge.specs.MemoryLinks.{told_by}
use Rattle.mem_edge.specs.Sends.{sends_in}
use Rattle.mem_edge.proofs.Comes.{told_journal}
use Rattle.mem_edge.proofs.Failings.{next_is}
use Rattle.mem_edge.proofs.Fated.{fated-injected, fated-sent, fated-send-failed}
use Rattle.mem_edge.proofs.Opened.{is_open_from, sends_counted}
use Rattle.mem_edge.proofs.Waiting.{injected_low, queued_is}
use Rattle.mem_edge.proofs.Makings.{same_making}
use Rattle.mem_edge.proofs.Patience.{more_lasts, same_lasts}
use Rattle.mem_edge.proofs.memory_link.MemoryLinkLink.send.Goals as goal

pub send-requires-clause-injected : goal.send-requires-clause-injected
send-requires-clause-injected c =
    let s = c.args.self.now in
    let plan = s.planned (is_open_from s.is_open _ c.requires.open) in
    injected_low c.sends-number.result (injected_in s.transit) c.at-injected.result.now (c.at-injected.ensures ∙ plan.placed c.sends-number.result)

-- the call is over, and the next has the next number
pub invariant_of-self-then-names-clause-sends_ahead : goal.invariant_of-self-then-names-clause-sends_ahead
invariant_of-self-then-names-clause-sends_ahead c = λ is_open.
    let s = c.args.self.now in
    rw (sends_counted _ _ SendFailed c.sends-number.result c.in-Ok.ensures.journal refl c.sends-number.ensures)
    (next_is _ _ c.sends-number.result (omega arith) (c.pass.ensures s.send_fails.items (rw c.sends-number.ensures (s.sends_ahead is_open))))

pub invariant_of-self-in-Ok-send-clause-sends_ahead : goal.invariant_of-self-in-Ok-send-clause-sends_ahead
invariant_of-self-in-Ok-send-clause-sends_ahead c = λ is_open.
    let s = c.args.self.now in
    rw (sends_counted _ _ (Sent c.args.datagram.now) c.sends-number.result c.in-Ok-send.ensures.journal refl c.sends-number.ensures)
    (next_is _ _ c.sends-number.result (omega arith) (c.pass-in-Ok-send.ensures s.send_fails.items (rw c.sends-number.ensures (s.sends_ahead is_open))))

pub returns-in-Ok-send-clause-answers : goal.returns-in-Ok-send-clause-answers
returns-in-Ok-send-clause-answers c =
    let s = c.args.self.now in
    let is_open = is_open_from s.is_open _ c.requires.open in
    let plan = s.planned is_open in
    record {
      adds = (
        c.in-Ok-send.ensures.told ∙ ap (λ (more : List (List ℕ)). told_more (told_by s) (Sent c.args.datagram.now ∷ []) more)
            (queued_is c.sends-number.result c.copies-copies.result s.fates.items (injected_in s.transit) s.plan (sends_in (journal_in s.transit)) c.args.datagram.now c.at-held.result.now c.at-injected.result.now c.sends-number.ensures plan s.once c.copies-copies.ensures c.at-held.ensures c.at-injected.ensures),
        c.in-Ok-send.ensures.journal,
      );
      failed = λ is. cc;
      done = λ is.
          ap (λ (n : ℕ). is_named s.send_fails.items n) (sym c.sends-number.ensures) ∙ sym (c.names.ensures.value s.send_fails.items (rw c.sends-number.ensures (s.sends_ahead is_open))) ∙ c.if-names.false;
      receives = refl;
      making = same_making _ _ s.send_fails.items s.receive_fails.items s.open_fails c.in-Ok-send.ensures.injected;
      fates = refl;
    }

-- what is told is the list of its own calls
pub invariant_of-self-then-names-clause-fated : goal.invariant_of-self-then-names-clause-fated
invariant_of-self-then-names-clause-fated c = λ is_open.
    let s = c.args.self.now in
    let new = c.fail_send.new.self in
    let named = ap (λ (n : ℕ). is_named s.send_fails.items n) (sym c.sends-number.ensures) ∙ sym (c.names.ensures.value s.send_fails.items (rw c.sends-number.ensures (s.sends_ahead is_open))) ∙ c.if-names.true in
    fated-injected (injected_in new) (injected_in s.transit) s.send_fails.items s.receive_fails.items s.open_fails s.fates.items s.receives (told_in new) c.in-Ok.ensures.injected
    (fated-send-failed (settings_with (injected_in s.transit) s.send_fails.items s.receive_fails.items s.open_fails s.fates.items) s.receives (told_in s.transit) (told_in new) (journal_in s.transit)
    (s.fated is_open) (told_journal s.transit.tells (journal_in s.transit) (waiting_in s.transit)) named c.in-Ok.ensures.told)

pub invariant_of-self-in-Ok-send-clause-fated : goal.invariant_of-self-in-Ok-send-clause-fated
invariant_of-self-in-Ok-send-clause-fated c = λ is_open.
    let s = c.args.self.now in
    let new = c.send.new.self in
    let not_named = ap (λ (n : ℕ). is_named s.send_fails.items n) (sym c.sends-number.ensures) ∙ sym (c.names.ensures.value s.send_fails.items (rw c.sends-number.ensures (s.sends_ahead is_open))) ∙ c.if-names.false in
    let plan = s.planned is_open in
    let queued : List (List ℕ) = queued_by s.fates.items (injected_in s.transit) (sends_in (journal_in s.transit)) c.args.datagram.now in
    fated-injected (injected_in new) (injected_in s.transit) s.send_fails.items s.receive_fails.items s.open_fails s.fates.items s.receives (told_in new) c.in-Ok-send.ensures.injected
    (fated-sent (settings_with (injected_in s.transit) s.send_fails.items s.receive_fails.items s.open_fails s.fates.items) s.receives (told_in s.transit) (told_in new) (journal_in s.transit) c.args.datagram.now queued
    (s.fated is_open) (told_journal s.transit.tells (journal_in s.transit) (waiting_in s.transit)) not_named refl
    (c.in-Ok-send.ensures.told ∙ ap (λ (more : List (List ℕ)). told_more (told_in s.transit) (Sent c.args.datagram.now ∷ []) more)
    (queued_is c.sends-number.result c.copies-copies.result s.fates.items (injected_in s.transit) s.plan (sends_in (journal_in s.transit)) c.args.datagram.now c.at-held.result.now c.at-injected.result.now c.sends-number.ensures plan s.once c.copies-copies.ensures c.at-held.ensures c.at-injected.ensures)))

-- it tells on
pub returns-then-names-clause-link : goal.returns-then-names-clause-link
returns-then-names-clause-link c =
    let s = c.args.self.now in
    record {
      lasts = more_lasts _ _ SendFailed [] (λ n. refl) c.in-Ok.ensures.told;
      opening = refl;
      counted = omega arith;
      making = same_making _ _ s.send_fails.items s.receive_fails.items s.open_fails c.in-Ok.ensures.injected;
      opened = refl;
    }

pub returns-in-Ok-send-clause-link : goal.returns-in-Ok-send-clause-link
returns-in-Ok-send-clause-link c =
    let s = c.args.self.now in
    record {
      lasts = more_lasts _ _ (Sent c.args.datagram.now) _ (λ n. refl) c.in-Ok-send.ensures.told;
      opening = refl;
      counted = omega arith;
      making = same_making _ _ s.send_fails.items s.receive_fails.items s.open_fails c.in-Ok-send.ensures.injected;
      opened = refl;
    }
