-- A pump: what it makes of the flags, of the counts and of what the link tells.
use Rattle.std.proofs.Common.{◌≡◌, refl, sym, ap, ◌∙◌, subst, arith, ℕ, ◌<◌, Bool, List, ◌∷◌, ◌++◌, length, Option, Some}
use Rattle.std.specs.Prelude.{count_by}
use Rattle.std.proofs.lemmas.List.{length-map}
use Rattle.ua_base.specs.Journal.{LinkState, Entry, Tells}
use Rattle.pubsub_states.specs.declared.component.Component.{Component}
use Rattle.pubsub_states.specs.declared.component.Component.TheVariants.{Root, Connection, Group, Writer, ReadGroup, Reader}
use Rattle.pubsub_states.specs.Components.{Counts, IsAmong, counts_of}
use Rattle.pubsub_states.specs.Changes.{TreeValue, flags_in}
use Rattle.session_model.specs.Steps.{Plan, Step, Pump}
use Rattle.session_model.specs.Sends.{TellsJournal}
use Rattle.session_model.specs.Lives.{Account, flags_by, late_in, reading_after, ready_in, stepped}
use Rattle.session_model.specs.Answers.{counted}
use Rattle.session_model.specs.Closing.{is_sent, is_send_failed, is_got, is_broken, is_long, limits}
use Rattle.session_model.proofs.Sending.{count-append}
use Rattle.session_parts.specs.declared.receiving.Receiving.{Receiving}
use Rattle.session_parts.specs.declared.sends.LinkSends.{LinkSends}
use Rattle.session_parts.specs.declared.subscriber.Subscriber.{Subscriber}
use Rattle.session_parts.specs.Standing.{AreReceivesIn, AreSendsIn, HasFlags, HaveReadings}
use Rattle.session_parts.specs.Pumping.{HasSwitches, Pumps, TellsReaders}

-- ---- the tree

-- what switches left, as the flags have it
pub switches : (p : Plan) (before : List Step) (a : Account) (tree : TreeValue) → tree.counts ≡ counts_of p.config → HasFlags (flags_by p.config before a) tree → HasSwitches p.config before tree
switches p before a tree counts flags = record {
  counts = counts;
  root = flags Root tt;
  connection = flags Connection tt;
  groups = λ r low. flags (ReadGroup r) (among r low);
  readers = λ r i there. ap (λ f. f.enabled) (flags (Reader r i) there);
}
  where
    among : (r : ℕ) → r < length p.config.readgroup → IsAmong tree.counts (ReadGroup r)
    among r low =
        subst (λ (c : Counts). IsAmong c (ReadGroup r)) (sym counts)
        (subst (λ (n : ℕ). r < n) (sym (length-map p.config.readgroup (λ group. length group.reader))) low)

pub flags-pumped : (p : Plan) (before : List Step) (a : Account) (entries : List Entry) (subscriber : Subscriber) (old new : TreeValue) → new.counts ≡ old.counts
    → HaveReadings p.config (reading_after p.config before (Pump entries) a) subscriber.groups.items
    → TellsReaders p.config subscriber old new → HasFlags (flags_by p.config before a) old
    → HasFlags (flags_by p.config (Pump entries ∷ before) (stepped p before a (Pump entries))) new
flags-pumped p before a entries subscriber old new kept read told flags component among = on component (subst (λ (c : Counts). IsAmong c component) kept among)
  where
    on : (c : Component) → IsAmong old.counts c → flags_in new c ≡ flags_by p.config (Pump entries ∷ before) (stepped p before a (Pump entries)) c
    on Root there = told.others Root there refl ∙ flags Root there
    on Connection there = told.others Connection there refl ∙ flags Connection there
    on (Group g) there = told.others (Group g) there refl ∙ flags (Group g) there
    on (Writer g w) there = told.others (Writer g w) there refl ∙ flags (Writer g w) there
    on (ReadGroup r) there = told.others (ReadGroup r) there refl ∙ flags (ReadGroup r) there
    on (Reader r i) there =
        told.readers (reading_after p.config before (Pump entries) a) r i read there
        ∙ ap (λ (e : Bool). record {
          enabled = e;
          fault = late_in (reading_after p.config before (Pump entries) a) r i;
          ready = ready_in (reading_after p.config before (Pump entries) a) r i;
        }) (ap (λ f. f.enabled) (flags (Reader r i) there))

-- ---- the counts

pub receives-pumped : (p : Plan) (before : List Step) (a : Account) (entries : List Entry) (old new : Receiving) (subscriber after : Subscriber) (tree : TreeValue) (moment : ℕ)
    → Pumps p.config entries old new subscriber after tree moment → AreReceivesIn a.journal before old → AreReceivesIn (a.journal ++ entries) (Pump entries ∷ before) new
receives-pumped p before a entries old new subscriber after tree moment pumps are = record {
  received = pumps.received (count_by is_got a.journal) are.received ∙ ap counted (sym (count-append is_got a.journal entries));
  broken = pumps.broken (count_by is_broken a.journal) are.broken ∙ ap counted (sym (count-append is_broken a.journal entries));
  long = pumps.long (count_by is_long a.journal) are.long ∙ ap counted (sym (count-append is_long a.journal entries));
  limit = pumps.limit (limits before) are.limit;
}

-- a pump sends nothing
pub sends-pumped : (before entries : List Entry) (sends : LinkSends) → (count_by is_sent entries ≡ 0) × (count_by is_send_failed entries ≡ 0)
    → AreSendsIn before sends → AreSendsIn (before ++ entries) sends
sends-pumped before entries sends none are = record {
  done = are.done ∙ ap counted (omega (arith, count-append is_sent before entries, none.0));
  failed = are.failed ∙ ap counted (omega (arith, count-append is_send_failed before entries, none.1));
}

pub tells-pumped : (before entries : List Entry) (told after : Option LinkState) → Tells told after (λ x y. y.journal ≡ x.journal ++ entries)
    → TellsJournal before told → TellsJournal (before ++ entries) after
tells-pumped before entries told after tells run link is =
    let at : Tells told (Some link) (λ x y. y.journal ≡ x.journal ++ entries) = subst (λ (o : Option LinkState). Tells told o (λ x y. y.journal ≡ x.journal ++ entries)) is tells in
    at.2 ∙ ap (λ (l : List Entry). l ++ entries) (run at.0 at.1)
