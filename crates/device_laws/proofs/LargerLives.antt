-- Larger lives of two devices meet the premises of their laws.
use Rattle.std.proofs.Common.{◌≡◌, refl, sym, ap, ◌∙◌, subst, arith, ℕ, ◌<◌, List, [], ◌∷◌, ◌++◌, length, map, get_or, inl, Some, All, Contains}
use Rattle.std.proofs.lemmas.List.{get_or-map}
use Rattle.std.proofs.lemmas.List.Elements.{All-contains_itself, All-weaker, Contains-append_left, Contains-append_right}
use Rattle.group_keys.specs.declared.key_set.KeySet.{KeySet}
use Rattle.message_guard.specs.Protection.{keys_in}
use Rattle.ps_config.specs.declared.parts.Config.{Config}
use Rattle.reader_group.specs.Members.{MemberValue, Seat, new_member, no_seat}
use Rattle.reader_group.specs.Plain.{member_at, opening}
use Rattle.reader_group.specs.Settings.{group_at as read_group_at, setting_by, setting_of}
use Rattle.writer_group.specs.Parts.{group_at}
use Rattle.writer_group.specs.Standing.{datagrams_in}
use Rattle.group_laws.specs.Matching.{IsMatchedTo}
use Rattle.device.specs.declared.asked.Next.TheVariants.{Datagram}
use Rattle.device.specs.declared.publisher.Publisher.{Publisher}
use Rattle.device.specs.Coming.{HasCome, turned_to}
use Rattle.device_laws.specs.Alike.{ReadsAlike}
use Rattle.device_laws.specs.Larger.{IsRenewedRun, MeetsRenewed, MeetsSecured, sets_of}
use Rattle.device_laws.specs.Publishing.{CameTo, HandedOver, HasOffered, IsPublisherLife, PublisherLife, PublisherStep, Renewed, SetField, did_as}
use Rattle.device_laws.specs.Ringed.{AllKeysAreAmong, AreKeysAmong, IsRingedPair}
use Rattle.device_laws.specs.Small.{IsSmallRun}
use Rattle.device_laws.specs.Subscribing as reads
use Rattle.device_laws.specs.Subscribing.{IsSubscriberLife, SubscriberLife, SubscriberStep, TakenAre, setting_in}
use Rattle.device_laws.proofs.Alike.{alike-same, seated}
use Rattle.device_laws.proofs.OwnRinged.{own-ringed}
use Rattle.device_laws.proofs.Pairs.{one-text, same-config}
use Rattle.device_laws.proofs.SmallLife.{small-meets, taken-so}

-- ---- a small one

pub secured-meets : (text : List ℕ) (r i g w k : ℕ) (run : IsSmallRun text r) → g < length run.first.config.group → r < length run.reads.config.readgroup
    → IsMatchedTo run.first.config (read_group_at run.first.config r) i (group_at run.first.config g) w → (group_at run.first.config g).keygroup ≡ Some k → MeetsSecured text r i g w k run
unfolding small-meets
secured-meets text r i g w k run there read_there matched keyed =
    let m = small-meets text r i g w run there read_there matched in
    record {
      publisher = m.publisher;
      subscriber = m.subscriber;
      paired = own-ringed text text m.publisher m.subscriber (read_group_at run.first.config r) r i g w k (one-text text m.publisher m.subscriber r i g w m.paired) keyed (tt, (tt, tt));
      counted = m.counted;
      ends = m.ends;
      reads = m.reads;
    }

-- ---- one with a renewal and a loss

module _ (text : List ℕ) (r i g w k : ℕ) (run : IsRenewedRun text r k) (there : g < length run.first.config.group) (read_there : r < length run.reads.config.readgroup)
    (matched : IsMatchedTo run.first.config (read_group_at run.first.config r) i (group_at run.first.config g) w) (keyed : (group_at run.first.config g).keygroup ≡ Some k) where
  abbrev config : Config
  config = run.first.config

  abbrev all : List KeySet
  all = sets_of config k ++ run.sets

  own-among : All (Contains all) (sets_of config k)
  own-among = All-weaker (Contains (sets_of config k)) (Contains all) (λ set has. Contains-append_left (sets_of config k) run.sets set has) (sets_of config k) (All-contains_itself (sets_of config k))

  new-among : All (Contains all) run.sets
  new-among = All-weaker (Contains run.sets) (Contains all) (λ set has. Contains-append_right (sets_of config k) run.sets set has) run.sets (All-contains_itself run.sets)

  set-none : run.set.made ≡ 0
  set-none = ap (λ (p : Publisher). p.made) run.was_set.rest ∙ run.opened.none_waits

  renewed-none : run.renewed.made ≡ 0
  renewed-none = ap (λ (p : Publisher). p.made) run.was_renewed.rest ∙ set-none

  abbrev first_steps : List PublisherStep
  first_steps = record { call = Renewed k run.sets; after = run.renewed } ∷ record { call = SetField run.index run.field run.value run.status; after = run.set } ∷ []

  came-first : HasCome run.now Datagram run.renewed run.came
  came-first = run.comes.comes.came (omega (arith, renewed-none))

  came-then : HasCome run.later Datagram run.lost run.again
  came-then = run.comes_again.comes.came run.none_waits

  abbrev lost_steps : List PublisherStep
  lost_steps =
      record { call = HandedOver; after = run.lost }
      ∷ record { call = CameTo run.now Datagram (did_as run.now Datagram (turned_to run.now run.renewed.senders.items) came-first.sides run.came came-first.came); after = run.came } ∷ first_steps

  abbrev steps : List PublisherStep
  steps = record { call = CameTo run.later Datagram (did_as run.later Datagram (turned_to run.later run.lost.senders.items) came-then.sides run.again came-then.came); after = run.again } ∷ lost_steps

  abbrev pl : PublisherLife
  pl = record { first = run.first; steps = steps }

  publisher : IsPublisherLife text pl
  publisher = record {
    opened = run.opened;
    steps_are = (
      run.again_is,
      record { none_waited = run.none_waits; came = came-then; store = run.comes_again.store; did_is = refl },
      (
        run.lost_is,
        (run.waits, run.lost_as),
        (
          run.came_is,
          record { none_waited = omega (arith, renewed-none); came = came-first; store = run.comes.store; did_is = refl },
          (run.renewed_is, run.was_renewed, (run.set_is, run.was_set, tt)),
        ),
      ),
    );
  }

  abbrev waiting : SubscriberLife
  waiting = record { first = run.reads; steps = record { call = reads.Renewed r (map keys_in run.sets); after = run.keyed } ∷ [] }

  abbrev datagram : List ℕ
  datagram = get_or (datagrams_in run.again.out) run.again.handed []

  abbrev heard : SubscriberLife
  heard = record { first = run.reads; steps = record { call = reads.Came r run.moment datagram run.answer; after = run.heard } ∷ waiting.steps }

  is-waiting : IsSubscriberLife text waiting
  is-waiting = record { opened = run.reads_opened; steps_are = (run.keyed_is, run.was_keyed, tt) }

  is-heard : IsSubscriberLife text heard
  is-heard = record { opened = run.reads_opened; steps_are = (run.heard_is, (run.left, run.listened), (run.keyed_is, run.was_keyed, tt)) }

  alike : ReadsAlike i (setting_of run.reads.config r) (setting_by config (read_group_at config r))
  alike =
      alike-same i (setting_of run.reads.config r) (setting_of config r) (ap (λ (c : Config). setting_of c r) (same-config text run.first run.reads run.opened run.reads_opened))
      (seated config (read_group_at config r) i matched.within)

  keys-among : AreKeysAmong all (map keys_in run.sets)
  keys-among = record { sets = run.sets; among = new-among; are = refl }

  pair-of : (sl : SubscriberLife) → sl.first ≡ run.reads → IsSubscriberLife text sl → TakenAre sl.steps r (HasOffered steps) → AllKeysAreAmong r all sl.steps → IsRingedPair text text pl sl (read_group_at config r) r i g w k all
  pair-of sl first is took keys = record {
    publisher = publisher;
    subscriber = is;
    there = there;
    read_there = subst (λ s. r < length s.config.readgroup) (sym first) read_there;
    alike = subst (λ s. ReadsAlike i (setting_of s.config r) (setting_by config (read_group_at config r))) (sym first) alike;
    matched = matched;
    keyed = keyed;
    took = took;
    unresumed = (tt, (tt, (tt, (tt, (tt, tt)))));
    configured = own-among;
    rings = (tt, (tt, (tt, ((λ same. new-among), (tt, tt)))));
    keys = keys;
    named = run.named;
    fit = run.fit;
  }

  new-at : member_at (opening (setting_of run.reads.config r)).members i ≡ new_member
  new-at = get_or-map (λ (seat : Seat). new_member) (setting_of run.reads.config r).seats i no_seat new_member alike.within

  pub renewed-meets : MeetsRenewed text r i g w k run
  renewed-meets = record {
    publisher = pl;
    waiting = waiting;
    subscriber = heard;
    before = pair-of waiting refl is-waiting (tt, tt) ((λ same. keys-among), tt);
    paired = pair-of heard refl is-heard (taken-so r run.moment datagram run.answer (HasOffered steps) (inl (record { waits = run.waits_again; is = refl })), (tt, tt)) (tt, ((λ same. keys-among), tt));
    counted = omega arith;
    waits = ap (λ (m : MemberValue). m.kept.row) new-at;
    why = ap (λ (m : MemberValue). m.kept.why) new-at;
    ends = refl;
    still = refl;
    reads = refl;
  }
