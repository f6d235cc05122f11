use Rattle.std.proofs.Common.{◌≡◌, ◌<◌, ◌≤◌, ◌^◌, ℕ, List, ◌++◌, length, refl, ap, ◌∙◌, arith, All, Option, Some, Vec, vec_len}
use Rattle.std.specs.declared.alloc.Global.{Global}
use Rattle.std.proofs.lemmas.List.{length-map}
use Rattle.std.proofs.lemmas.Result.{err_from_is_err_and}
use Rattle.std.proofs.lemmas.List.Elements.{All-push, All-same, All-weaker}
use Rattle.mem_edge.specs.declared.mark.Mark.{Mark}
use Rattle.mem_edge.specs.declared.mark.Source.{Source}
use Rattle.mem_edge.specs.declared.mark.Answer.TheVariants as answer
use Rattle.mem_edge.specs.Contents.{bytes_of, injections}
use Rattle.mem_edge.specs.Marks.{reach_send, IsWithin}
use Rattle.mem_edge.proofs.Comes.{bytes_more, journal_sent, mark_within_more, numbered_more, places_more, queue_within, waiting_more, state_more}
use Rattle.mem_edge.proofs.Kept.{kept_send, marked_more}
use Rattle.mem_edge.proofs.transit.Transit.send.Goals as goal

-- what stands behind what
joined : {X : Type 0} (a b c d : List X) (own held others : List X) → b ≡ a ++ own → c ≡ b ++ held → d ≡ c ++ others → d ≡ a ++ own ++ held ++ others
joined {X} a b c d own held others first next last = last ∙ ap (λ (l : List X). l ++ others) (next ∙ ap (λ (l : List X). l ++ held) first)

-- the injected places are in the list
low : (injected : Vec (ℕ × Vec ℕ Global) Global) (run : List (ℕ × ℕ)) → All (λ p. p.1 < length (injections injected.items)) run → All (λ p. p.1 < vec_len injected) run
low injected run all =
    All-weaker (λ (p : ℕ × ℕ). p.1 < length (injections injected.items)) (λ (p : ℕ × ℕ). p.1 < vec_len injected) (λ p h. let len : length (injections injected.items) ≡ length injected.items = length-map injected.items (λ (x : ℕ × Vec ℕ Global). (x.0, x.1.items)) in omega (arith, h, len, injected.ok.0)) run all

bytes_len : (sent : Vec (Vec ℕ Global) Global) → vec_len sent ≡ length (bytes_of sent.items)
bytes_len sent = omega (arith, length-map sent.items (λ (d : Vec ℕ Global). d.items), sent.ok.0)

pub invariant_of-self-in-Break-branch-3 : goal.invariant_of-self-in-Break-branch-3
invariant_of-self-in-Break-branch-3 c =
    let s = c.args.self.now in
    let queue : length c.make_room.new.queue.items ≡ length s.queue.items = ap (λ (l : List Source). length l) c.make_room.ensures.queue_items in
    let log : length c.make_room.new.log.items ≡ length s.log.items = ap (λ (l : List Mark). length l) c.make_room.ensures.log_items in
    let received : length c.make_room.new.received.items ≡ length s.received.items = ap (λ (l : List Source). length l) c.make_room.ensures.received_items in
    record {
      next_in = omega (arith, s.next_in, queue, c.make_room.new.queue.ok.0, s.queue.ok.0);
      queued = rw (c.make_room.ensures.queue_items, c.make_place.ensures.sent_len) s.queued;
      taken = rw (c.make_room.ensures.received_items, c.make_place.ensures.sent_len) s.taken;
      marked = rw (c.make_room.ensures.log_items, c.make_place.ensures.sent_len) s.marked;
      numbered = rw (c.make_place.ensures.places_items, c.make_place.ensures.sent_len) s.numbered;
      short = rw c.make_place.ensures.sent_items s.short;
      short_injected = s.short_injected;
      room = omega (arith, s.room, queue, log, c.make_room.new.queue.ok.0, s.queue.ok.0, c.make_room.new.log.ok.0, s.log.ok.0, c.make_room.ensures.log_kept);
      place_room = omega (arith, s.place_room, queue, received, c.make_room.new.queue.ok.0, s.queue.ok.0, c.make_room.new.received.ok.0, s.received.ok.0, c.make_room.ensures.received_kept);
      kept = rw (c.make_place.ensures.sent_items, c.make_place.ensures.places_items, c.make_room.ensures.received_items, c.make_room.ensures.log_items) s.kept;
    }

pub returns-in_err-make_place-clause-refused : goal.returns-in_err-make_place-clause-refused
returns-in_err-make_place-clause-refused c =
    let s = c.args.self.now in
    let queue : length c.make_room.new.queue.items ≡ length s.queue.items = ap (λ (l : List Source). length l) c.make_room.ensures.queue_items in
    let log : length c.make_room.new.log.items ≡ length s.log.items = ap (λ (l : List Mark). length l) c.make_room.ensures.log_items in
    let p = err_from_is_err_and c.from_residual-in_err-make_place.result c.from_residual-in_err-make_place.ensures.1 in
    rw p.1 (record {
      told = rw (c.make_place.ensures.sent_items, c.make_room.ensures.log_items, c.make_room.ensures.queue_items) refl;
      journal = rw (c.make_place.ensures.sent_items, c.make_room.ensures.log_items) refl;
      waiting = rw (c.make_place.ensures.sent_items, c.make_room.ensures.queue_items) refl;
      injected = refl;
      room = omega (arith, s.room, queue, log, c.make_room.new.queue.ok.0, s.queue.ok.0, c.make_room.new.log.ok.0, s.log.ok.0, c.make_room.ensures.log_kept);
    })

pub invariant_of-self-2-clause-short_injected : goal.invariant_of-self-2-clause-short_injected
invariant_of-self-2-clause-short_injected c = c.args.self.now.short_injected

pub invariant_of-self-2-clause-queued : goal.invariant_of-self-2-clause-queued
invariant_of-self-2-clause-queued c =
    let s = c.args.self.now in
    let n : ℕ = c.len-index.result in
    let len : n ≡ vec_len s.sent = omega (arith, c.len-index.ensures, c.make_place.ensures.sent_len) in
    All-same (IsWithin (vec_len s.injected) (vec_len c.keep.new.sent)) _ _
    (joined s.queue.items _ _ _ _ _ _ (rw c.make_room.ensures.queue_items at c.queue_copies.ensures.items) (rw (c.deref.ensures.value, c.make_place.ensures.places_items) at c.queue_held.ensures.items) c.queue_injected.ensures.items)
    (queue_within (vec_len s.injected) n (vec_len c.keep.new.sent) c.args.copies s.queue.items s.places.items c.args.held.now c.args.injected.now (omega (arith, c.keep.ensures.len, c.make_place.ensures.sent_len, len))
    (places_more (vec_len s.injected) (vec_len s.sent) n (omega (arith, len)) s.queue.items s.queued) (numbered_more (vec_len s.sent) n (omega (arith, len)) s.places.items s.numbered) (low s.injected c.args.injected.now c.requires.injected))

pub invariant_of-self-2-clause-taken : goal.invariant_of-self-2-clause-taken
invariant_of-self-2-clause-taken c =
    let s = c.args.self.now in
    All-same (IsWithin (vec_len s.injected) (vec_len c.keep.new.sent)) _ _ c.make_room.ensures.received_items
    (places_more (vec_len s.injected) (vec_len s.sent) (vec_len c.keep.new.sent) (omega (arith, c.keep.ensures.len, c.make_place.ensures.sent_len)) s.received.items s.taken)

pub invariant_of-self-2-clause-marked : goal.invariant_of-self-2-clause-marked
invariant_of-self-2-clause-marked c =
    let s = c.args.self.now in
    marked_more (vec_len s.injected) (vec_len c.keep.new.sent) s.log.items _ (answer.Sent c.len-index.result) (rw c.make_room.ensures.log_items at c.note.ensures.items) (omega arith) (omega (arith, c.keep.ensures.len, c.len-index.ensures))
    (mark_within_more (vec_len s.injected) (vec_len s.sent) (vec_len c.keep.new.sent) (omega (arith, c.keep.ensures.len, c.make_place.ensures.sent_len)) s.log.items s.marked)

pub invariant_of-self-2-clause-numbered : goal.invariant_of-self-2-clause-numbered
invariant_of-self-2-clause-numbered c =
    let s = c.args.self.now in
    let P : Option ℕ → Type 0 = λ o. reach_send o ≤ vec_len c.keep.new.sent in
    All-same P _ _ (rw c.make_place.ensures.places_items at c.number.ensures.items)
    (All-push P s.places.items (Some c.len-index.result) (numbered_more (vec_len s.sent) (vec_len c.keep.new.sent) (omega (arith, c.keep.ensures.len, c.make_place.ensures.sent_len)) s.places.items s.numbered) (omega (arith, c.keep.ensures.len, c.len-index.ensures)))

pub invariant_of-self-2-clause-short : goal.invariant_of-self-2-clause-short
invariant_of-self-2-clause-short c =
    let P : Vec ℕ Global → Type 0 = λ d. vec_len d < 2 ^ 32 in
    All-same P _ _ (rw c.make_place.ensures.sent_items at c.keep.ensures.items) (All-push P c.args.self.now.sent.items c.in_ok-copy.copy c.args.self.now.short (omega (arith, c.in_ok-copy.ensures.len, c.requires.short)))

pub invariant_of-self-2-clause-kept : goal.invariant_of-self-2-clause-kept
invariant_of-self-2-clause-kept c =
    let s = c.args.self.now in
    let n : ℕ = c.len-index.result in
    let len : n ≡ vec_len s.sent = omega (arith, c.len-index.ensures, c.make_place.ensures.sent_len) in
    let grew = bytes_more s.sent.items c.keep.new.sent.items c.in_ok-copy.copy c.args.datagram.now (rw c.make_place.ensures.sent_items at c.keep.ensures.items) c.in_ok-copy.ensures.items in
    rw c.make_room.ensures.received_items
    (kept_send _ _ _ _ c.args.datagram.now (vec_len s.injected) n s.places.items _ s.received.items _ _
    (journal_sent _ _ _ c.args.datagram.now (vec_len s.injected) n s.first s.log.items _ grew (len ∙ bytes_len s.sent) (mark_within_more (vec_len s.injected) (vec_len s.sent) n (omega (arith, len)) s.log.items s.marked) (λ shown k. rw c.make_room.ensures.log_items at (c.note.ensures.entry shown k)))
    grew (len ∙ bytes_len s.sent) (rw c.make_place.ensures.places_items at c.number.ensures.items)
    (numbered_more (vec_len s.sent) n (omega (arith, len)) s.places.items s.numbered) (places_more (vec_len s.injected) (vec_len s.sent) n (omega (arith, len)) s.received.items s.taken) s.kept)

pub returns-clause-told : goal.returns-clause-told
returns-clause-told c =
    let s = c.args.self.now in
    let n : ℕ = c.len-index.result in
    let len : n ≡ vec_len s.sent = omega (arith, c.len-index.ensures, c.make_place.ensures.sent_len) in
    let grew = bytes_more s.sent.items c.keep.new.sent.items c.in_ok-copy.copy c.args.datagram.now (rw c.make_place.ensures.sent_items at c.keep.ensures.items) c.in_ok-copy.ensures.items in
    state_more s.tells _ _ _ _ _ _
    (journal_sent _ _ _ c.args.datagram.now (vec_len s.injected) n s.first s.log.items _ grew (len ∙ bytes_len s.sent) (mark_within_more (vec_len s.injected) (vec_len s.sent) n (omega (arith, len)) s.log.items s.marked) (λ shown k. rw c.make_room.ensures.log_items at (c.note.ensures.entry shown k)))
    (waiting_more _ _ _ c.args.datagram.now (vec_len s.injected) n s.next c.args.copies s.queue.items _ s.places.items _ c.args.held.now c.args.injected.now grew (len ∙ bytes_len s.sent) (omega (arith, s.next_in, s.queue.ok.0))
    (joined s.queue.items _ _ _ _ _ _ (rw c.make_room.ensures.queue_items at c.queue_copies.ensures.items) (rw (c.deref.ensures.value, c.make_place.ensures.places_items) at c.queue_held.ensures.items) c.queue_injected.ensures.items)
    (places_more (vec_len s.injected) (vec_len s.sent) n (omega (arith, len)) s.queue.items s.queued) (numbered_more (vec_len s.sent) n (omega (arith, len)) s.places.items s.numbered) s.kept.numbered)

pub returns-clause-journal : goal.returns-clause-journal
returns-clause-journal c =
    let s = c.args.self.now in
    let n : ℕ = c.len-index.result in
    let len : n ≡ vec_len s.sent = omega (arith, c.len-index.ensures, c.make_place.ensures.sent_len) in
    let grew = bytes_more s.sent.items c.keep.new.sent.items c.in_ok-copy.copy c.args.datagram.now (rw c.make_place.ensures.sent_items at c.keep.ensures.items) c.in_ok-copy.ensures.items in
    journal_sent _ _ _ c.args.datagram.now (vec_len s.injected) n s.first s.log.items _ grew (len ∙ bytes_len s.sent) (mark_within_more (vec_len s.injected) (vec_len s.sent) n (omega (arith, len)) s.log.items s.marked) (λ shown k. rw c.make_room.ensures.log_items at (c.note.ensures.entry shown k))
