-- A group's part of a tick, and what it keeps.
use Rattle.std.proofs.Common.{◌≡◌, refl, sym, ap, ◌∙◌, subst, arith, ℕ, ◌+◌, ◌<◌, ◌≤◌, Bool, true, false, List, [], ◌∷◌, length, Option, get_or}
use Rattle.std.specs.Prelude.{◌||◌}
use Rattle.std.proofs.lemmas.List.Elements.{All-weaker}
use Rattle.dataset_meta.specs.Metas.{MetaData}
use Rattle.ua_base.specs.Journal.{LinkState}
use Rattle.ps_config.specs.declared.parts.Config.{Config}
use Rattle.ps_config.specs.declared.parts.GroupPart.{GroupPart}
use Rattle.pubsub_states.specs.Changes.{TreeValue}
use Rattle.pubsub_states.specs.Components.{counts_of}
use Rattle.pubsub_states.specs.declared.flags.Flags.{Flags}
use Rattle.dataset_writer.specs.declared.writer.Writer.{Writer}
use Rattle.writer_group.specs.declared.group.Group.{Group as GroupWords}
use Rattle.writer_group.specs.Standing.{MayGoOn, datagrams_in}
use Rattle.session_model.specs.Deeds.{Deed}
use Rattle.writer_group.specs.Parts.{group_at}
use Rattle.session_model.specs.Sends.{sends_by}
use Rattle.session_parts.specs.declared.publisher.Publisher.{Publisher}
use Rattle.session_parts.specs.declared.publisher.Told.{Told}
use Rattle.session_parts.specs.declared.sends.GroupSends.{GroupSends}
use Rattle.session_parts.specs.Holding.{HoldPublisher}
use Rattle.session_parts.specs.Ticking.{TickData, HasTurned, HaveBeenSent, IsBefore, KnowsSpent, MayPass, OthersStay, TakesPart, TellsFaults, is_spent_by}
use Rattle.session_parts.proofs.Few.{keyed}
use Rattle.session_parts.proofs.Flags.{AreKeyed}
use Rattle.session_parts.proofs.Passing.{has}
use Rattle.session_parts.proofs.Assembling.{passes-turned}

pub fewer : (metas : ℕ → MetaData) (part : GroupPart) (turns : ℕ) (group : GroupWords) → MayGoOn metas part (turns + 1) group → MayGoOn metas part turns group
fewer metas part turns group may = record {
  left = All-weaker (λ (writer : Writer). turns + 1 ≤ writer.left) (λ (writer : Writer). turns ≤ writer.left) (λ writer low. omega (arith, low)) group.writers.items may.left;
  holds = may.holds;
  lived = may.lived;
}

-- sends change nothing else
pub hold-sent : (config : Config) (one two : Publisher) → two ≡ record one { sends = two.sends; link = two.link } → two.sends.len ≡ one.sends.len → HoldPublisher config one → HoldPublisher config two
hold-sent config one two rest count holds = subst (HoldPublisher config) (sym rest) (record {
  groups = holds.groups;
  senders = holds.senders;
  reserved = holds.reserved;
  sends = count ∙ holds.sends;
})

or-true : (a b : Bool) → b ≡ true → (a || b) ≡ true
or-true true b is = refl
or-true false b is = is

pub no_sends : GroupSends
no_sends = record { done = 0; is_failing = false }

pub knows-told : (config : Config) (publisher : Publisher) (old new : TreeValue) → TellsFaults config publisher old new → KnowsSpent config publisher.senders.items new
knows-told config publisher old new told g low spent =
    ap (λ (f : Flags). f.fault) (told.groups g low no_sends)
    ∙ or-true (get_or publisher.sends.items g no_sends).is_failing (is_spent_by publisher.senders.items (group_at config g).keygroup) spent

pub some-of : {X : Type 0} (xs : List X) → 0 < length xs → X
some-of [] low = absurd (omega (arith, low))
some-of (x ∷ xs) low = x

pub passed : (t : TickData) (g : ℕ) (so_far : List Deed) (done more : List Bool) (told : Told) (zero one two : Publisher) (tree new : TreeValue) (before after : Option LinkState)
    → MayPass told g zero tree → IsBefore t g so_far done told zero tree → has t so_far g ≡ true → HasTurned t g so_far one
    → length (datagrams_in one.out) ≤ 1024 → OthersStay g zero.groups.items one.groups.items
    → one.sends ≡ zero.sends → one.link ≡ zero.link
    → HaveBeenSent (sends_by g (datagrams_in one.out)) more one two before after
    → two ≡ record one { sends = two.sends; link = two.link }
    → new.counts ≡ tree.counts → TellsFaults told.config.now two tree new
    → TakesPart t g so_far done two new before after
passed t g so_far done more told zero one two tree new before after may is so turned few others same_sends same_link sent rest kept faults =
    passes-turned t g so_far done more zero one two tree new before after some no_sends so is.at is.none_failed turned.ticked few others turned.senders same_sends same_link count sent
    (ap (λ (p : Publisher). p.groups) rest) (ap (λ (p : Publisher). p.senders) rest)
    (subst (λ (config : Config). tree.counts ≡ counts_of config) is.told_is.config may.counts_are) kept
    (subst AreKeyed is.told_is.config (keyed told.config.now may.good))
    (subst (λ (config : Config). TellsFaults config two tree new) is.told_is.config faults)
  where
    some : GroupWords
    some = some-of zero.groups.items (omega (arith, may.within, may.holds.groups.count))

    count : length zero.sends.items ≡ length t.plan.config.group
    count = subst (λ (config : Config). length zero.sends.items ≡ length config.group) is.told_is.config (omega (arith, zero.sends.ok.0, may.holds.sends))
