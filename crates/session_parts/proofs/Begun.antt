-- The begin of a tick: where it leaves the publisher and the tree.
use Rattle.std.proofs.Common.{◌≡◌, refl, sym, ap, ◌∙◌, subst, arith, ℕ, ◌+◌, ◌<◌, ◌≢◌, Bool, false, List, [], ◌∷◌, ◌++◌, length, get_or}
use Rattle.std.specs.Prelude.{zip, count_by, Vec}
use Rattle.std.specs.declared.alloc.Global.{Global}
use Rattle.std.proofs.lemmas.List.{append-nil}
use Rattle.ua_base.specs.Journal.{Entry}
use Rattle.dataset_meta.specs.Metas.{MetaData}
use Rattle.ps_config.specs.declared.parts.Config.{Config}
use Rattle.pubsub_states.specs.declared.component.Component.{Component}
use Rattle.pubsub_states.specs.declared.component.Component.TheVariants.{Root, Connection, Group, Writer, ReadGroup, Reader}
use Rattle.pubsub_states.specs.Components.{Counts, IsAmong, counts_of}
use Rattle.pubsub_states.specs.Changes.{TreeValue, flags_in}
use Rattle.writer_group.specs.declared.group.Group.{Group as GroupWords}
use Rattle.writer_group.specs.Standing.{IsGood}
use Rattle.session_model.specs.Sets.{metas_at}
use Rattle.session_model.specs.Deeds.{Deed, rekeyed}
use Rattle.session_model.specs.Sends.{Send, last_sends, last_failed, is_done_by, send_entries}
use Rattle.session_model.specs.Lives.{flags_by, late_in, ready_in}
use Rattle.session_model.specs.Answers.{counted}
use Rattle.session_parts.specs.declared.publisher.Publisher.{Publisher}
use Rattle.session_parts.specs.declared.sends.GroupSends.{GroupSends}
use Rattle.session_parts.specs.declared.subscriber.Subscriber.{Subscriber}
use Rattle.session_parts.specs.Holding.{HoldPublisher, HoldSubscriber}
use Rattle.session_parts.specs.Standing.{AreSendsIn, HasFlags, HaveOutcomesOf, HavePast, HaveReadings, HaveSent, IsOfGroup}
use Rattle.session_parts.specs.Ticking.{TickData, ClearsSends, IsAt, TellsFaults, begun, flags_in_tick, now_of, readings_in}
use Rattle.session_parts.specs.Pumping.{TellsReaders}
use Rattle.session_parts.specs.Befalling.{HaveExpired}
use Rattle.session_parts.proofs.Few.{group-among, keyed}
use Rattle.session_parts.proofs.Flags.{AreKeyed, IsButFaults, flags-told}
use Rattle.session_parts.proofs.Passed.{no_sends}
use Rattle.session_parts.proofs.Ticks.{none-sent}

-- no group has a failed send
begun-outcome : (t : TickData) (g : ℕ) (old new : GroupSends) → IsOfGroup (t.account.sent g) (t.account.failing g) old
    → new ≡ record old { is_failing = false }
    → IsOfGroup (t.account.sent g + count_by (is_done_by g) (zip (last_sends (begun t)) [])) (last_failed g (zip (last_sends (begun t)) [])) new
begun-outcome t g old new is cleared =
    subst (λ (l : List Send). IsOfGroup (t.account.sent g + count_by (is_done_by g) (zip l [])) (last_failed g (zip l [])) new) (sym (none-sent t)) (record {
      done_are = ap (λ (s : GroupSends). s.done) cleared ∙ is.done_are ∙ ap counted (omega arith);
      failing_is = ap (λ (s : GroupSends). s.is_failing) cleared;
    })

-- readers were told, and nothing of the groups
but-begun : (t : TickData) (subscriber : Subscriber) (first tree : TreeValue) → HasFlags (flags_by t.plan.config t.before t.account) first
    → first.counts ≡ counts_of t.plan.config → tree.counts ≡ first.counts
    → HaveReadings t.plan.config (readings_in t []) subscriber.groups.items
    → TellsReaders t.plan.config subscriber first tree → IsButFaults t (begun t) [] tree
but-begun t subscriber first tree flags counts kept read told = record {
  others = other;
  enabled = λ g low. ap (λ f. f.enabled) (told.others (Group g) (group-among t.plan.config first.counts g counts low) refl) ∙ ap (λ f. f.enabled) (flags (Group g) (group-among t.plan.config first.counts g counts low));
  ready = λ g low. ap (λ f. f.ready) (told.others (Group g) (group-among t.plan.config first.counts g counts low) refl) ∙ ap (λ f. f.ready) (flags (Group g) (group-among t.plan.config first.counts g counts low));
}
  where
    back : (c : Component) → IsAmong tree.counts c → IsAmong first.counts c
    back c there = subst (λ (n : Counts). IsAmong n c) kept there

    other : (c : Component) → IsAmong tree.counts c → ((g : ℕ) → c ≢ Group g) → flags_in tree c ≡ flags_in_tick t (begun t) [] c
    other Root there apart = told.others Root (back Root there) refl ∙ flags Root (back Root there)
    other Connection there apart = told.others Connection (back Connection there) refl ∙ flags Connection (back Connection there)
    other (Group g) there apart = absurd (apart g refl)
    other (Writer g w) there apart = told.others (Writer g w) (back (Writer g w) there) refl ∙ flags (Writer g w) (back (Writer g w) there)
    other (ReadGroup r) there apart = told.others (ReadGroup r) (back (ReadGroup r) there) refl ∙ flags (ReadGroup r) (back (ReadGroup r) there)
    other (Reader r i) there apart =
        told.readers (readings_in t []) r i read (back (Reader r i) there)
        ∙ ap (λ (e : Bool). record {
          enabled = e;
          fault = late_in (readings_in t []) r i;
          ready = ready_in (readings_in t []) r i;
        }) (ap (λ f. f.enabled) (flags (Reader r i) (back (Reader r i) there)))

-- where the publisher then stands
begins : (t : TickData) (old publisher : Publisher) (subscriber : Subscriber) (first tree new : TreeValue) (none : GroupSends)
    → HaveOutcomesOf t.plan.config t.account.sent t.account.failing old.sends.items → AreSendsIn (t.account.journal) old.link → HasFlags (flags_by t.plan.config t.before t.account) first
    → first.counts ≡ counts_of t.plan.config → tree.counts ≡ first.counts → new.counts ≡ tree.counts → AreKeyed t.plan.config
    → length old.sends.items ≡ length t.plan.config.group
    → HavePast t.plan.config (metas_at t.plan.config t.before) (begun t) publisher.groups.items
    → HaveSent t.plan.config (begun t) publisher.senders.items
    → ClearsSends old.sends.items publisher.sends.items → publisher.link ≡ old.link
    → HaveReadings t.plan.config (readings_in t []) subscriber.groups.items
    → TellsReaders t.plan.config subscriber first tree → TellsFaults t.plan.config publisher tree new
    → IsAt t (begun t) [] publisher new
begins t old publisher subscriber first tree new none outcomes sends flags counts kept more keyed count past senders cleared same_link read told faults = record {
  sent = sym (ap length (none-sent t));
  groups = past;
  senders = senders;
  outcomes = λ g low e. outcome g low e;
  link = subst (λ (l : List Send). AreSendsIn (t.account.journal ++ send_entries l []) publisher.link) (sym (none-sent t))
      (subst (λ (l : List Entry). AreSendsIn l publisher.link) (sym (append-nil (t.account.journal)))
      (subst (λ l. AreSendsIn (t.account.journal) l) (sym same_link) sends));
  flags = flags-told t (begun t) [] publisher tree new (kept ∙ counts) more keyed senders (λ g low e. (outcome g low e).failing_is) none
      (but-begun t subscriber first tree flags counts kept read told) faults;
}
  where
    outcome : (g : ℕ) → g < length t.plan.config.group → (e : GroupSends)
        → IsOfGroup (t.account.sent g + count_by (is_done_by g) (zip (last_sends (begun t)) [])) (last_failed g (zip (last_sends (begun t)) [])) (get_or publisher.sends.items g e)
    outcome g low e =
        begun-outcome t g (get_or old.sends.items g e) (get_or publisher.sends.items g e) (outcomes g low e)
        (cleared.each g (subst (λ (n : ℕ). g < n) (sym count) low) e)

-- ---- its calls, put together

-- where publisher, subscriber and tree stand before a tick
pub record PartsStand (t : TickData) (publisher : Publisher) (subscriber : Subscriber) (tree : TreeValue) : Type 0 where
  pub past : HavePast t.plan.config (metas_at t.plan.config t.before) t.account.deeds publisher.groups.items
  pub sent : HaveSent t.plan.config t.account.deeds publisher.senders.items
  pub outcomes : HaveOutcomesOf t.plan.config t.account.sent t.account.failing publisher.sends.items
  pub link : AreSendsIn (t.account.journal) publisher.link
  pub read : HaveReadings t.plan.config t.account.readings subscriber.groups.items
  pub flags : HasFlags (flags_by t.plan.config t.before t.account) tree

-- what the calls of a begin ensure: senders come to the moment, failed sends are cleared, timers expire, and the tree is told of readers and of groups
pub record Begins (config : Config) (moment : ℕ) (old come cleared : Publisher) (was subscriber : Subscriber) (first tree new : TreeValue) : Type 0 where
  pub past : (metas : List MetaData) (deeds : List Deed) → HaveSent config deeds old.senders.items
      → HavePast config metas deeds old.groups.items → HavePast config metas (rekeyed config moment deeds) come.groups.items
  pub senders : (deeds : List Deed) → HaveSent config deeds old.senders.items → HaveSent config (rekeyed config moment deeds) come.senders.items
  pub come_rest : come ≡ record old { groups = come.groups; senders = come.senders }
  pub clears : ClearsSends come.sends.items cleared.sends.items
  pub clear_rest : cleared ≡ record come { sends = cleared.sends }
  pub read : HaveExpired moment was subscriber
  pub tree_counts : tree.counts ≡ first.counts
  pub told : TellsReaders config subscriber first tree
  pub new_counts : new.counts ≡ tree.counts
  pub faults : TellsFaults config cleared tree new

pub hold-cleared : (config : Config) (come cleared : Publisher) → HoldPublisher config come → ClearsSends come.sends.items cleared.sends.items → cleared ≡ record come { sends = cleared.sends }
    → HoldPublisher config cleared
hold-cleared config come cleared holds clears rest = subst (HoldPublisher config) (sym rest) (record {
  groups = holds.groups;
  senders = holds.senders;
  reserved = holds.reserved;
  sends = omega (arith, clears.count, cleared.sends.ok.0, come.sends.ok.0, holds.sends);
})

pub begun-at : (t : TickData) (old come cleared : Publisher) (was subscriber : Subscriber) (first tree new : TreeValue) → IsGood t.plan.config → HoldPublisher t.plan.config old
    → HoldSubscriber t.plan.config was → first.counts ≡ counts_of t.plan.config → PartsStand t old was first
    → Begins t.plan.config (now_of t) old come cleared was subscriber first tree new → IsAt t (begun t) [] cleared new
begun-at t old come cleared was subscriber first tree new good holds held counts stand does =
    begins t old cleared subscriber first tree new no_sends stand.outcomes stand.link stand.flags counts does.tree_counts does.new_counts (keyed t.plan.config good)
    (omega (arith, holds.sends, old.sends.ok.0))
    (subst (λ (v : Vec GroupWords Global). HavePast t.plan.config (metas_at t.plan.config t.before) (begun t) v.items) (sym (ap (λ (x : Publisher). x.groups) does.clear_rest))
    (does.past (metas_at t.plan.config t.before) t.account.deeds stand.sent stand.past))
    (subst (λ (x : Publisher). HaveSent t.plan.config (begun t) x.senders.items) (sym does.clear_rest) (does.senders t.account.deeds stand.sent))
    (subst (λ (v : Vec GroupSends Global). ClearsSends v.items cleared.sends.items) same_sends does.clears)
    (ap (λ (x : Publisher). x.link) does.clear_rest ∙ ap (λ (x : Publisher). x.link) does.come_rest)
    (does.read t.plan.config t.account.readings (λ r. []) held stand.read)
    does.told does.faults
  where
    same_sends : come.sends ≡ old.sends
    same_sends = ap (λ (x : Publisher). x.sends) does.come_rest
