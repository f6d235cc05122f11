-- A group's turn within a tick, put together of what its parts do.
use Rattle.std.proofs.Common.{◌≡◌, sym, ◌∙◌, subst, arith, ℕ, ◌+◌, ◌<◌, ◌≤◌, Bool, true, List, ◌∷◌, ◌++◌, length, Option, get_or, length-append}
use Rattle.std.specs.Prelude.{zip, count_by, Vec}
use Rattle.std.specs.declared.alloc.Global.{Global}
use Rattle.ua_base.specs.Journal.{LinkState}
use Rattle.message_guard.specs.Senders.{SenderState}
use Rattle.pubsub_states.specs.Components.{counts_of}
use Rattle.pubsub_states.specs.Changes.{TreeValue}
use Rattle.writer_group.specs.declared.group.Group.{Group}
use Rattle.writer_group.specs.Standing.{HasTicked, datagrams_in}
use Rattle.writer_group.specs.Turns.{GroupTurn, turn_datagrams}
use Rattle.session_model.specs.Sets.{metas_at}
use Rattle.session_model.specs.Deeds.{Deed, TookTurn, group_past, turn_input}
use Rattle.writer_group.specs.Parts.{group_at}
use Rattle.session_model.specs.Sends.{last_sends, last_failed, sends_by, is_done_by}
use Rattle.session_model.specs.Turns.{HoldsTurn}
use Rattle.session_parts.specs.declared.publisher.Publisher.{Publisher}
use Rattle.session_parts.specs.declared.sends.GroupSends.{GroupSends}
use Rattle.session_parts.specs.declared.sends.LinkSends.{LinkSends}
use Rattle.session_parts.specs.Standing.{AreSendsIn, HavePast, HaveSent, IsOfGroup}
use Rattle.session_parts.specs.Ticking.{TickData, HaveBeenSent, IsAt, Noted, NoneFailedFrom, OthersStay, TakesPart, TellsFaults, now_of}
use Rattle.session_parts.proofs.Turning.{past-turned, outcomes-turned, none-failed-turned, link-turned, tells-turned}
use Rattle.session_parts.proofs.Flags.{AreKeyed, but-faults, flags-told}
use Rattle.session_parts.proofs.Passing.{has, turn_in, passes-with}

-- zero is the publisher before, one behind the group's turn, two behind its sends
pub passes-turned : (t : TickData) (g : ℕ) (so_far : List Deed) (done more : List Bool) (zero one two : Publisher) (tree new : TreeValue) (told after : Option LinkState)
    (d : Group) (none : GroupSends) → has t so_far g ≡ true → IsAt t so_far done zero tree → NoneFailedFrom g so_far done
    → ((e : Group) → HasTicked t.plan.config (group_at t.plan.config g) (group_past t.plan.config g so_far)
    (turn_input t.plan t.before (now_of t) t.closing t.samples so_far g) (get_or one.groups.items g e) one.out)
    → length (datagrams_in one.out) ≤ 1024 → OthersStay g zero.groups.items one.groups.items
    → HaveSent t.plan.config (TookTurn g (turn_in t so_far g) ∷ so_far) one.senders.items
    → one.sends ≡ zero.sends → one.link ≡ zero.link → length zero.sends.items ≡ length t.plan.config.group
    → HaveBeenSent (sends_by g (datagrams_in one.out)) more one two told after
    → two.groups ≡ one.groups → two.senders ≡ one.senders
    → tree.counts ≡ counts_of t.plan.config → new.counts ≡ tree.counts → AreKeyed t.plan.config → TellsFaults t.plan.config two tree new
    → TakesPart t g so_far done two new told after
passes-turned t g so_far done more zero one two tree new told after d none so at unfailed ticked few others senders same_sends same_link count sent same_groups same_senders counts kept keyed faults =
    passes-with t g so_far done more two new told after so holds is (none-failed-turned g turn so_far done more at.sent unfailed) (tells-turned t g turn so_far done more told after at.sent been.tells)
  where
    turn : GroupTurn
    turn = turn_in t so_far g

    made : datagrams_in one.out ≡ turn_datagrams t.plan.config (group_at t.plan.config g) (group_past t.plan.config g so_far) (turn_input t.plan t.before (now_of t) t.closing t.samples so_far g)
    made = (ticked d).datagrams

    been : HaveBeenSent (sends_by g (turn_in t so_far g).made) more one two told after
    been = subst (λ (l : List (List ℕ)). HaveBeenSent (sends_by g l) more one two told after) made sent

    holds : HoldsTurn t.plan.config (group_at t.plan.config g) (group_past t.plan.config g so_far) (turn_input t.plan t.before (now_of t) t.closing t.samples so_far g)
    holds = record { written = (ticked d).written; answers = (ticked d).answers; few = subst (λ (l : List (List ℕ)). length l ≤ 1024) made few }

    counted_by : (h : ℕ) → h < length t.plan.config.group → (e : GroupSends)
        → IsOfGroup (t.account.sent h + count_by (is_done_by h) (zip (last_sends (TookTurn g (turn_in t so_far g) ∷ so_far)) (done ++ more)))
        (last_failed h (zip (last_sends (TookTurn g (turn_in t so_far g) ∷ so_far)) (done ++ more))) (get_or two.sends.items h e)
    counted_by h low e =
        let within : h < length one.sends.items = subst (λ (v : Vec GroupSends Global). h < length v.items) (sym same_sends) (subst (λ (n : ℕ). h < n) (sym count) low) in
        let noted : Noted (zip (sends_by g (turn_in t so_far g).made) more) h (get_or zero.sends.items h e) (get_or two.sends.items h e)
        = subst (λ (v : Vec GroupSends Global). Noted (zip (sends_by g (turn_in t so_far g).made) more) h (get_or v.items h e) (get_or two.sends.items h e)) same_sends (been.groups h within e) in
        outcomes-turned g h (t.account.sent h) (turn_in t so_far g) so_far done more (get_or zero.sends.items h e) (get_or two.sends.items h e) at.sent noted (at.outcomes h low e)

    sent_all : HaveSent t.plan.config (TookTurn g (turn_in t so_far g) ∷ so_far) two.senders.items
    sent_all = subst (λ (v : Vec SenderState Global). HaveSent t.plan.config (TookTurn g (turn_in t so_far g) ∷ so_far) v.items) (sym same_senders) senders

    is : IsAt t (TookTurn g (turn_in t so_far g) ∷ so_far) (done ++ more) two new
    is = record {
      sent = length-append done more ∙ omega (arith, at.sent, been.each, length-append (last_sends so_far) (sends_by g (turn_in t so_far g).made));
      groups = subst (λ (v : Vec Group Global). HavePast t.plan.config (metas_at t.plan.config t.before) (TookTurn g (turn_in t so_far g) ∷ so_far) v.items) (sym same_groups)
          (past-turned t.plan.config (metas_at t.plan.config t.before) so_far g (turn_in t so_far g) zero.groups.items one.groups.items others (λ e. (ticked e).stands) at.groups);
      senders = sent_all;
      outcomes = λ h low e. counted_by h low e;
      link = link-turned (t.account.journal) g (turn_in t so_far g) so_far done more zero.link two.link at.sent
          (λ entries are. been.link entries (subst (λ (l : LinkSends). AreSendsIn entries l) (sym same_link) are)) at.link;
      flags = flags-told t (TookTurn g (turn_in t so_far g) ∷ so_far) (done ++ more) two tree new counts kept keyed sent_all (λ h low e. (counted_by h low e).failing_is) none
          (but-faults t so_far (TookTurn g (turn_in t so_far g) ∷ so_far) done (done ++ more) tree counts at.flags) faults;
    }
