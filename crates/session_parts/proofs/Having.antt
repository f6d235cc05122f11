-- Whether a group has a turn.
use Rattle.std.proofs.Common.{◌≡◌, sym, ap, ◌∙◌, subst, arith, ℕ, ◌<◌, Bool, true, false, List, length, get_or}
use Rattle.std.specs.Prelude.{◌||◌, ◌&&◌}
use Rattle.dataset_meta.specs.Metas.{MetaData}
use Rattle.ps_config.specs.declared.parts.Config.{Config}
use Rattle.ps_config.specs.declared.parts.GroupPart.{GroupPart}
use Rattle.pubsub_states.specs.declared.component.Component.TheVariants.{Group}
use Rattle.pubsub_states.specs.Changes.{TreeValue, flags_in}
use Rattle.pubsub_states.specs.States.{state_of, is_operational}
use Rattle.writer_group.specs.declared.group.Group.{Group as GroupWords}
use Rattle.writer_group.specs.Standing.{IsGroup, IsMadeFor, metas_for}
use Rattle.writer_group.specs.Turns.{GroupDeed, is_due}
use Rattle.session_model.specs.Sets.{metas_at}
use Rattle.session_model.specs.Deeds.{Deed, group_past, has_turn, works}
use Rattle.writer_group.specs.Parts.{group_at}
use Rattle.session_parts.specs.declared.publisher.Publisher.{Publisher}
use Rattle.session_parts.specs.declared.publisher.Told.{Told}
use Rattle.session_parts.specs.Ticking.{TickData, IsBefore, MayPass, now_of}
use Rattle.session_parts.proofs.Few.{group-among}
use Rattle.session_parts.proofs.Passing.{group-works}

works-is : (t : TickData) (g : ℕ) (so_far : List Deed) (done : List Bool) (told : Told) (publisher : Publisher) (tree : TreeValue) → IsBefore t g so_far done told publisher tree
    → MayPass told g publisher tree → is_operational (state_of (flags_in tree) (Group g)) ≡ works t.plan.config t.before so_far (Group g)
works-is t g so_far done told publisher tree is may =
    group-works t g so_far done tree is.at.flags (is.none_failed g (omega arith)) (group-among told.config.now tree.counts g may.counts_are may.within)

pub has-not : (t : TickData) (g : ℕ) (so_far : List Deed) (done : List Bool) (told : Told) (publisher : Publisher) (tree : TreeValue) → MayPass told g publisher tree
    → is_operational (state_of (flags_in tree) (Group g)) ≡ false
    → IsBefore t g so_far done told publisher tree → false ≡ has_turn t.plan t.before (now_of t) t.closing so_far g
has-not t g so_far done told publisher tree may off is =
    sym (ap (λ (b : Bool). b && (t.closing || is_due (group_at t.plan.config g) (group_past t.plan.config g so_far) (now_of t))) (sym (works-is t g so_far done told publisher tree is may) ∙ off))

pub has-so : (t : TickData) (g : ℕ) (so_far : List Deed) (done : List Bool) (told : Told) (publisher : Publisher) (tree : TreeValue) (x : Bool) → MayPass told g publisher tree
    → is_operational (state_of (flags_in tree) (Group g)) ≡ true
    → IsBefore t g so_far done told publisher tree
    → x ≡ (t.closing || is_due (group_at t.plan.config g) (group_past t.plan.config g so_far) (now_of t))
    → x ≡ has_turn t.plan t.before (now_of t) t.closing so_far g
has-so t g so_far done told publisher tree x may on is due =
    due ∙ sym (ap (λ (b : Bool). b && (t.closing || is_due (group_at t.plan.config g) (group_past t.plan.config g so_far) (now_of t))) (sym (works-is t g so_far done told publisher tree is may) ∙ on))

pub has-closing : (t : TickData) (g : ℕ) (so_far : List Deed) (done : List Bool) (told : Told) (publisher : Publisher) (tree : TreeValue) → MayPass told g publisher tree
    → is_operational (state_of (flags_in tree) (Group g)) ≡ true → told.closing ≡ true
    → IsBefore t g so_far done told publisher tree → told.closing ≡ has_turn t.plan t.before (now_of t) t.closing so_far g
has-closing t g so_far done told publisher tree may on closing is =
    has-so t g so_far done told publisher tree told.closing may on is
    (closing ∙ sym (ap (λ (b : Bool). b || is_due (group_at t.plan.config g) (group_past t.plan.config g so_far) (now_of t)) (sym is.told_is.closing ∙ closing)))

pub has-due : (t : TickData) (g : ℕ) (so_far : List Deed) (done : List Bool) (told : Told) (publisher : Publisher) (tree : TreeValue) (group : GroupWords) (x : Bool)
    → MayPass told g publisher tree
    → is_operational (state_of (flags_in tree) (Group g)) ≡ true → told.closing ≡ false
    → group ≡ get_or publisher.groups.items g group
    → ((config : Config) (part : GroupPart) (metas : ℕ → MetaData) (past : List GroupDeed) → IsMadeFor config part group → IsGroup metas part past group → x ≡ is_due part past told.moment)
    → IsBefore t g so_far done told publisher tree → x ≡ has_turn t.plan t.before (now_of t) t.closing so_far g
has-due t g so_far done told publisher tree group x may on closing at due is =
    has-so t g so_far done told publisher tree x may on is
    (due t.plan.config (group_at t.plan.config g) (metas_for (group_at t.plan.config g) (metas_at t.plan.config t.before)) (group_past t.plan.config g so_far) made stands
    ∙ ap (λ (now : ℕ). is_due (group_at t.plan.config g) (group_past t.plan.config g so_far) now) is.told_is.moment
    ∙ sym (ap (λ (b : Bool). b || is_due (group_at t.plan.config g) (group_past t.plan.config g so_far) (now_of t)) (sym is.told_is.closing ∙ closing)))
  where
    made : IsMadeFor t.plan.config (group_at t.plan.config g) group
    made =
        subst (λ (config : Config). IsMadeFor config (group_at config g) group) is.told_is.config
        (subst (λ (w : GroupWords). IsMadeFor told.config.now (group_at told.config.now g) w) (sym at) (may.holds.groups.each g may.within group).made)

    low : g < length t.plan.config.group
    low = subst (λ (config : Config). g < length config.group) is.told_is.config may.within

    stands : IsGroup (metas_for (group_at t.plan.config g) (metas_at t.plan.config t.before)) (group_at t.plan.config g) (group_past t.plan.config g so_far) group
    stands =
        subst (λ (w : GroupWords). IsGroup (metas_for (group_at t.plan.config g) (metas_at t.plan.config t.before)) (group_at t.plan.config g) (group_past t.plan.config g so_far) w) (sym at)
        (is.at.groups g low group)
