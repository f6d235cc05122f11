use Rattle.std.proofs.Common.{◌≡◌, ℕ, List, length, refl, sym, ap, ◌∙◌, subst, arith, Vec, vec_len}
use Rattle.std.specs.declared.alloc.Global.{Global}
use Rattle.std.specs.Vec.{with_items}
use Rattle.std.proofs.lemmas.List.{length-map, with_items_is}
use Rattle.std.proofs.Math.Seq.{take-append_seam}
use Rattle.std.proofs.lemmas.List.Elements.{All-push, All-same}
use Rattle.mem_edge.specs.declared.mark.Mark.{Mark}
use Rattle.mem_edge.specs.declared.mark.Answer.TheVariants as answer
use Rattle.mem_edge.specs.Transits.{datagram_in}
use Rattle.mem_edge.specs.Marks.{entries, EndsInNothings, IsMarkWithin, IsWithin}
use Rattle.mem_edge.proofs.Comes.{none_told, told_journal, waiting_taken, tells_got, tells_long}
use Rattle.mem_edge.proofs.Kept.{kept_empty, kept_got, kept_long, marked_more}
use Rattle.mem_edge.proofs.transit.Transit.receive.Goals as goal

-- the marks as they are after the count
counted : (log : Vec Mark Global) (now : List Mark) → length now ≡ length log.items → (with_items log now).items ≡ now
counted log now same = with_items_is log now (same ∙ sym log.ok.0)

pub invariant_of-self-else-not-count_nothing-clause-marked : goal.invariant_of-self-else-not-count_nothing-clause-marked
invariant_of-self-else-not-count_nothing-clause-marked c =
    let s = c.args.self.now in
    All-same (IsMarkWithin (vec_len s.injected) (vec_len s.sent)) (with_items s.log c.count_nothing.new.log).items c.count_nothing.new.log
    (counted s.log c.count_nothing.new.log (c.count_nothing.auto.log ∙ ap (λ (l : List Mark). length l) c.deref_mut.ensures.value))
    (c.count_nothing.ensures.within (vec_len s.injected) (vec_len s.sent) (rw c.deref_mut.ensures.value s.marked))

pub invariant_of-self-else-not-count_nothing-clause-kept : goal.invariant_of-self-else-not-count_nothing-clause-kept
invariant_of-self-else-not-count_nothing-clause-kept c =
    let s = c.args.self.now in
    kept_empty _ _ _ _ _ _ _
    (ap (λ (marks : List Mark). entries (datagram_in s) c.count_nothing.new.first marks) (counted s.log c.count_nothing.new.log (c.count_nothing.auto.log ∙ ap (λ (l : List Mark). length l) c.deref_mut.ensures.value))
    ∙ (rw c.deref_mut.ensures.value at (c.if-not-count_nothing.ensures.counted (datagram_in s))))
    s.kept

pub returns-then-not-count_nothing-clause-tells : goal.returns-then-not-count_nothing-clause-tells
returns-then-not-count_nothing-clause-tells c = λ before told none.
    let s = c.args.self.now in
    subst EndsInNothings (told_journal s.tells _ _ before told) (rw c.deref_mut.ensures.value at (c.if-not-count_nothing.ensures.full (datagram_in s)))

pub invariant_of-self-then-len-into-clause-marked : goal.invariant_of-self-then-len-into-clause-marked
invariant_of-self-then-len-into-clause-marked c =
    let s = c.args.self.now in
    let within : IsWithin (vec_len s.injected) (vec_len s.sent) c.index-place.result.now = subst (IsWithin (vec_len s.injected) (vec_len s.sent)) (sym c.index-place.ensures) (s.queued s.next c.index-place.result.now (omega arith)) in
    marked_more _ _ _ _ (answer.Long c.index-place.result.now) c.note.ensures.items within.among_injected within.among_sent s.marked

pub invariant_of-self-then-len-into-clause-kept : goal.invariant_of-self-then-len-into-clause-kept
invariant_of-self-then-len-into-clause-kept c = kept_long _ _ _ _ _ _ _ _ (c.note.ensures.entry (datagram_in c.args.self.now) c.args.self.now.first) c.args.self.now.kept

pub invariant_of-self-2-clause-marked : goal.invariant_of-self-2-clause-marked
invariant_of-self-2-clause-marked c =
    let s = c.args.self.now in
    let within : IsWithin (vec_len s.injected) (vec_len s.sent) c.index-place.result.now = subst (IsWithin (vec_len s.injected) (vec_len s.sent)) (sym c.index-place.ensures) (s.queued s.next c.index-place.result.now (omega arith)) in
    marked_more _ _ _ _ (answer.Got c.index-place.result.now) c.note-2.ensures.items within.among_injected within.among_sent s.marked

pub invariant_of-self-2-clause-taken : goal.invariant_of-self-2-clause-taken
invariant_of-self-2-clause-taken c =
    let s = c.args.self.now in
    let within : IsWithin (vec_len s.injected) (vec_len s.sent) c.index-place.result.now = subst (IsWithin (vec_len s.injected) (vec_len s.sent)) (sym c.index-place.ensures) (s.queued s.next c.index-place.result.now (omega arith)) in
    All-same (IsWithin (vec_len s.injected) (vec_len s.sent)) _ _ c.queue_one.ensures.items (All-push (IsWithin (vec_len s.injected) (vec_len s.sent)) s.received.items c.index-place.result.now s.taken within)

pub invariant_of-self-2-clause-kept : goal.invariant_of-self-2-clause-kept
invariant_of-self-2-clause-kept c =
    let s = c.args.self.now in
    let within : IsWithin (vec_len s.injected) (vec_len s.sent) c.index-place.result.now = subst (IsWithin (vec_len s.injected) (vec_len s.sent)) (sym c.index-place.ensures) (s.queued s.next c.index-place.result.now (omega arith)) in
    kept_got _ _ _ _ _ _ c.index-place.result.now (vec_len s.injected) (vec_len s.sent) _ _ (c.note-2.ensures.entry (datagram_in s) s.first) c.queue_one.ensures.items within
    (omega (arith, length-map s.sent.items (λ (d : Vec ℕ Global). d.items), s.sent.ok.0)) (λ none. omega (arith, s.injected.ok.0, ap (λ (l : List (ℕ × Vec ℕ Global)). length l) none)) s.kept

pub returns-clause-told : goal.returns-clause-told
returns-clause-told c =
    let s = c.args.self.now in
    tells_got s.tells _ _ _ _ _ _ _ (c.note-2.ensures.entry (datagram_in s) s.first)
    (waiting_taken (datagram_in s) s.queue.items s.next c.index-place.result.now (omega arith) c.index-place.ensures)
    (rw c.copy_from_slice.ensures.after (take-append_seam c.datagram-datagram.result.now _ ∙ (rw (c.deref.ensures.value, c.deref-2.ensures.value) at c.datagram-datagram.ensures.value)))

pub invariant_of-self-else-not-count_nothing-clause-queued : goal.invariant_of-self-else-not-count_nothing-clause-queued
invariant_of-self-else-not-count_nothing-clause-queued c = c.args.self.now.queued

pub invariant_of-self-then-len-into-clause-queued : goal.invariant_of-self-then-len-into-clause-queued
invariant_of-self-then-len-into-clause-queued c = c.args.self.now.queued

pub invariant_of-self-2-clause-queued : goal.invariant_of-self-2-clause-queued
invariant_of-self-2-clause-queued c = c.args.self.now.queued

pub invariant_of-self-else-not-count_nothing-clause-taken : goal.invariant_of-self-else-not-count_nothing-clause-taken
invariant_of-self-else-not-count_nothing-clause-taken c = c.args.self.now.taken

pub invariant_of-self-then-len-into-clause-taken : goal.invariant_of-self-then-len-into-clause-taken
invariant_of-self-then-len-into-clause-taken c = c.args.self.now.taken

pub invariant_of-self-else-not-count_nothing-clause-numbered : goal.invariant_of-self-else-not-count_nothing-clause-numbered
invariant_of-self-else-not-count_nothing-clause-numbered c = c.args.self.now.numbered

pub invariant_of-self-then-len-into-clause-numbered : goal.invariant_of-self-then-len-into-clause-numbered
invariant_of-self-then-len-into-clause-numbered c = c.args.self.now.numbered

pub invariant_of-self-2-clause-numbered : goal.invariant_of-self-2-clause-numbered
invariant_of-self-2-clause-numbered c = c.args.self.now.numbered

pub invariant_of-self-else-not-count_nothing-clause-short : goal.invariant_of-self-else-not-count_nothing-clause-short
invariant_of-self-else-not-count_nothing-clause-short c = c.args.self.now.short

pub invariant_of-self-then-len-into-clause-short : goal.invariant_of-self-then-len-into-clause-short
invariant_of-self-then-len-into-clause-short c = c.args.self.now.short

pub invariant_of-self-2-clause-short : goal.invariant_of-self-2-clause-short
invariant_of-self-2-clause-short c = c.args.self.now.short

pub invariant_of-self-else-not-count_nothing-clause-short_injected : goal.invariant_of-self-else-not-count_nothing-clause-short_injected
invariant_of-self-else-not-count_nothing-clause-short_injected c = c.args.self.now.short_injected

pub invariant_of-self-then-len-into-clause-short_injected : goal.invariant_of-self-then-len-into-clause-short_injected
invariant_of-self-then-len-into-clause-short_injected c = c.args.self.now.short_injected

pub invariant_of-self-2-clause-short_injected : goal.invariant_of-self-2-clause-short_injected
invariant_of-self-2-clause-short_injected c = c.args.self.now.short_injected

pub invariant_of-self-then-len-into-clause-next_in : goal.invariant_of-self-then-len-into-clause-next_in
invariant_of-self-then-len-into-clause-next_in c = omega arith

pub invariant_of-self-2-clause-next_in : goal.invariant_of-self-2-clause-next_in
invariant_of-self-2-clause-next_in c = omega arith

pub invariant_of-self-then-len-into-clause-room : goal.invariant_of-self-then-len-into-clause-room
invariant_of-self-then-len-into-clause-room c = omega arith

pub invariant_of-self-2-clause-room : goal.invariant_of-self-2-clause-room
invariant_of-self-2-clause-room c = omega arith

pub invariant_of-self-then-len-into-clause-place_room : goal.invariant_of-self-then-len-into-clause-place_room
invariant_of-self-then-len-into-clause-place_room c = omega arith

pub invariant_of-self-2-clause-place_room : goal.invariant_of-self-2-clause-place_room
invariant_of-self-2-clause-place_room c = omega arith

pub returns-then-len-into-clause-told : goal.returns-then-len-into-clause-told
returns-then-len-into-clause-told c =
    let s = c.args.self.now in
    tells_long s.tells _ _ _ _ _ _ c.args.into.now (c.note.ensures.entry (datagram_in s) s.first)
    (waiting_taken (datagram_in s) s.queue.items s.next c.index-place.result.now (omega arith) c.index-place.ensures)
    (omega (arith, ap (λ (l : List ℕ). length l) (rw (c.deref.ensures.value, c.deref-2.ensures.value) at c.datagram-datagram.ensures.value)))

pub returns-then-not-count_nothing-clause-tells_on : goal.returns-then-not-count_nothing-clause-tells_on
returns-then-not-count_nothing-clause-tells_on c = λ other. absurd (other refl)

pub returns-else-not-count_nothing-clause-tells_on : goal.returns-else-not-count_nothing-clause-tells_on
returns-else-not-count_nothing-clause-tells_on c = λ other. absurd (other refl)

pub returns-then-len-into-clause-tells_on : goal.returns-then-len-into-clause-tells_on
returns-then-len-into-clause-tells_on c = λ other none. none_told c.args.self.now.tells _ _ _ _ none

pub returns-clause-tells_on : goal.returns-clause-tells_on
returns-clause-tells_on c = λ other none. none_told c.args.self.now.tells _ _ _ _ none
