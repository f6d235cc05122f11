-- What a turn makes of the publisher.
use Rattle.std.proofs.Common.{◌≡◌, sym, ap, ◌∙◌, subst, arith, ℕ, ◌<◌, Bool, List, length, map, Some, None, get_or}
use Rattle.std.specs.Prelude.{Vec, slice_set}
use Rattle.std.specs.declared.alloc.Global.{Global}
use Rattle.std.specs.List.{range_with_len}
use Rattle.std.proofs.lemmas.List.{get_or-set_same}
use Rattle.message_guard.specs.Senders.{SenderState}
use Rattle.ps_config.specs.declared.parts.Config.{Config}
use Rattle.pubsub_states.specs.declared.component.Component.TheVariants.{Writer}
use Rattle.pubsub_states.specs.Changes.{TreeValue, flags_in}
use Rattle.pubsub_states.specs.States.{state_of, is_operational}
use Rattle.writer_group.specs.declared.group.Group.{Group as GroupWords}
use Rattle.writer_group.specs.Standing.{HasTicked}
use Rattle.ps_config.specs.Headers.{mode_of}
use Rattle.writer_group.specs.Sealing.{advanced_by}
use Rattle.session_model.specs.Deeds.{Deed, group_past, sender_after, turn_input}
use Rattle.writer_group.specs.Parts.{group_at}
use Rattle.session_parts.specs.declared.publisher.Publisher.{Publisher}
use Rattle.session_parts.specs.declared.publisher.Told.{Told}
use Rattle.session_parts.specs.Standing.{HaveSent}
use Rattle.session_parts.specs.Ticking.{TickData, HasTurned, IsBefore, MayPass, TakesTurn, now_of, turn_in}
use Rattle.session_parts.proofs.Turning.{senders-open, senders-secured}
use Rattle.session_parts.proofs.Taking.{has-ticked, key-low, on-is, open-is, secured-is}

pub turned-open : (t : TickData) (g n count : ℕ) (so_far : List Deed) (done : List Bool) (told : Told) (publisher after : Publisher) (tree : TreeValue) (on : List Bool) (group new : GroupWords)
    → MayPass told g publisher tree → group ≡ get_or publisher.groups.items g group → (group_at told.config.now g).keygroup ≡ None
    → n ≡ length (group_at told.config.now g).writer
    → on ≡ map (λ w. is_operational (state_of (flags_in tree) (Writer g w))) (range_with_len 0 n)
    → TakesTurn told g on None count group new after.out
    → after.groups.items ≡ slice_set publisher.groups.items g new → after.senders ≡ publisher.senders
    → IsBefore t g so_far done told publisher tree → HasTurned t g so_far after
turned-open t g n count so_far done told publisher after tree on group new may at none n_is on_at takes groups senders is = record {
  ticked = λ e. subst (λ (w : GroupWords). HasTicked t.plan.config (group_at t.plan.config g) (group_past t.plan.config g so_far)
      (turn_input t.plan t.before (now_of t) t.closing t.samples so_far g) w after.out)
      (sym (ap (λ (l : List GroupWords). get_or l g e) groups ∙ get_or-set_same publisher.groups.items g new e (omega (arith, may.within, may.holds.groups.count))))
      (has-ticked t g count so_far done told publisher tree on None group new after.out is may at takes
      (on-is t g n so_far done told publisher tree on is may n_is on_at) (open-is t g so_far told is.told_is.config none));
  senders = senders-open t.plan.config so_far g (turn_in t so_far g) after.senders.items (ap (λ (config : Config). (group_at config g).keygroup) (sym is.told_is.config) ∙ none)
      (subst (λ (v : Vec SenderState Global). HaveSent t.plan.config so_far v.items) (sym senders) is.at.senders);
}

pub turned-secured : (t : TickData) (g k n count : ℕ) (so_far : List Deed) (done : List Bool) (told : Told) (publisher after : Publisher) (tree : TreeValue) (on : List Bool) (group new : GroupWords)
    (s now : SenderState)
    → MayPass told g publisher tree → group ≡ get_or publisher.groups.items g group → (group_at told.config.now g).keygroup ≡ Some k
    → n ≡ length (group_at told.config.now g).writer
    → on ≡ map (λ w. is_operational (state_of (flags_in tree) (Writer g w))) (range_with_len 0 n)
    → s ≡ get_or publisher.senders.items k s
    → TakesTurn told g on (Some s) count group new after.out
    → now ≡ advanced_by (mode_of (group_at told.config.now g).security) s count
    → after.groups.items ≡ slice_set publisher.groups.items g new → after.senders.items ≡ slice_set publisher.senders.items k now
    → IsBefore t g so_far done told publisher tree → HasTurned t g so_far after
turned-secured t g k n count so_far done told publisher after tree on group new s now may at some n_is on_at s_at takes now_is groups senders is = record {
  ticked = λ e. subst (λ (w : GroupWords). HasTicked t.plan.config (group_at t.plan.config g) (group_past t.plan.config g so_far)
      (turn_input t.plan t.before (now_of t) t.closing t.samples so_far g) w after.out)
      (sym (ap (λ (l : List GroupWords). get_or l g e) groups ∙ get_or-set_same publisher.groups.items g new e (omega (arith, may.within, may.holds.groups.count))))
      ticks;
  senders = senders-secured t.plan.config so_far g k (turn_in t so_far g) publisher.senders.items after.senders.items now some_at low senders
      (now_is
      ∙ ap (λ (config : Config). advanced_by (mode_of (group_at config g).security) s count) is.told_is.config
      ∙ ap (λ (z : SenderState). advanced_by (mode_of (group_at t.plan.config g).security) z count) (s_at ∙ is.at.senders k low_key s)
      ∙ ap (advanced_by (mode_of (group_at t.plan.config g).security) (sender_after t.plan.config k so_far)) (takes.count_is ∙ ap length ticks.datagrams))
      is.at.senders;
}
  where
    low : k < length publisher.senders.items
    low = key-low told g k publisher tree may some

    low_key : k < length t.plan.config.keygroup
    low_key = subst (λ (config : Config). k < length config.keygroup) is.told_is.config (omega (arith, low, may.holds.senders.count))

    some_at : (group_at t.plan.config g).keygroup ≡ Some k
    some_at = ap (λ (config : Config). (group_at config g).keygroup) (sym is.told_is.config) ∙ some

    ticks : HasTicked t.plan.config (group_at t.plan.config g) (group_past t.plan.config g so_far) (turn_input t.plan t.before (now_of t) t.closing t.samples so_far g) new after.out
    ticks = has-ticked t g count so_far done told publisher tree on (Some s) group new after.out is may at takes
        (on-is t g n so_far done told publisher tree on is may n_is on_at) (secured-is t g k so_far told publisher.senders.items s is.told_is.config some low_key s_at is.at.senders)
