-- Each datagram that a publisher gave was made by a turn of one of its groups.
use Rattle.std.proofs.Common.{◌≡◌, refl, sym, ap, ◌∙◌, subst, arith, ℕ, ◌+◌, ◌<◌, List, [], ◌∷◌, length, get_or, inl, inr, Contains}
use Rattle.std.specs.List.{range_with_len}
use Rattle.std.proofs.lemmas.List.{get_or_default, length-set}
use Rattle.std.proofs.lemmas.List.FromFn.{length-range_with_len}
use Rattle.std.proofs.lemmas.Option.{slice_get-get_or}
use Rattle.ps_config.specs.declared.parts.Config.{Config}
use Rattle.writer_group.specs.Parts.{group_at, no_group}
use Rattle.writer_group.specs.Standing.{datagrams_in}
use Rattle.writer_group.specs.Turns.{GroupDeed, GroupTurn}
use Rattle.writer_group.specs.declared.datagrams.Datagrams.{Datagrams}
use Rattle.writer_group.specs.declared.sampled.Sampled.{Sampled}
use Rattle.session_laws.specs.Pasts.{IsMade, WasMade}
use Rattle.device.specs.Coming.{HasItsTurn, HasMadeSome, IsRefreshedFor, turned_to}
use Rattle.device.specs.Resuming.{IsRefreshedWith}
use Rattle.device.specs.Coming.{HasOtherToken}
use Rattle.device.specs.Sides.{IsOpeningSide, IsPublisher}
use Rattle.device.specs.declared.asked.Next.{Next}
use Rattle.device.specs.declared.asked.Next.TheVariants.{Datagram, Nothing, Spent}
use Rattle.device.specs.declared.looking.Looked.{Looked}
use Rattle.device.specs.declared.looking.Looked.TheVariants.{Held, Idle, Made}
use Rattle.device.specs.declared.publisher.Publisher.{Publisher}
use Rattle.device.specs.declared.side.Side.{Side}
use Rattle.device_laws.specs.Publishing.{ArePublisherSteps, CameTo, ComesBy, HandedOver, HasOffered, IsOpenPublisher, IsPublisherCall, Waits, Offers, PublisherCall, PublisherStep, Aside, Renewed, Resumed, SetField, SetStatus, SetWord, Switched, Waited, publisher_after}
use Rattle.device_laws.specs.Turning.{came_on, fresh_on, looked_on, past_by, past_of, turn_at}
use Rattle.device_laws.proofs.Elements.{element, push-own, zip-length}
use Rattle.device_laws.proofs.Looking.{made-turn, place-low, sides-length}
use Rattle.device_laws.proofs.Standing.{all-turned, group-at, publisher-is, turn-ticked}
use Rattle.device_laws.proofs.Turns.{call-keeps}

-- ---- the groups are as many as the configuration's

sides-on : (call : PublisherCall) (old new : Publisher) → IsPublisher old → IsPublisher new → IsPublisherCall call old new → length new.sides.items ≡ length old.sides.items
sides-on (SetField k field value status) old new is_old is_new has = ap (λ (p : Publisher). length p.sides.items) has.rest
sides-on (SetWord k field kind word) old new is_old is_new has = ap (λ (p : Publisher). length p.sides.items) has.rest
sides-on (SetStatus k field status) old new is_old is_new has = ap (λ (p : Publisher). length p.sides.items) has.rest
sides-on (Waited now) old new is_old is_new has = ap (λ (p : Publisher). length p.sides.items) has.1
sides-on (CameTo now next did) old new is_old is_new has =
    sides-length now (turned_to now old.senders.items) has.came.sides new (all-turned now old.senders.items is_old.senders_are) is_new.senders_are next has.came.came
    ∙ sym (zip-length (IsRefreshedFor old.config now old.senders.items) old.sides.items has.came.sides has.came.refreshed)
sides-on HandedOver old new is_old is_new has = ap (λ (p : Publisher). length p.sides.items) has.1
sides-on (Switched group writer on) old new is_old is_new has =
    let d = element old.sides.items group has.within in
    ap (λ (l : List Side). length l) (has.others d) ∙ length-set old.sides.items group (get_or new.sides.items group d)
sides-on (Renewed k sets) old new is_old is_new has = ap (λ (p : Publisher). length p.sides.items) has.rest
sides-on (Resumed k now used sets) old new is_old is_new has =
    let d = element old.senders.items k has.within in
    sym (zip-length (IsRefreshedWith old.config k (HasOtherToken (get_or old.senders.items k d) (get_or new.senders.items k d))) old.sides.items new.sides.items (has.refreshed d d))
sides-on Aside old new is_old is_new has = ap (λ (p : Publisher). length p.sides.items) has.rest

pub sides-at : (text : List ℕ) (first : Publisher) (steps : List PublisherStep) → IsOpenPublisher text first → ArePublisherSteps first steps → length (publisher_after first steps).sides.items ≡ length first.config.group
sides-at text first [] opened are =
    let same = zip-length (IsOpeningSide first.config) (range_with_len 0 (length first.config.group)) first.sides.items opened.sides in
    sym same ∙ length-range_with_len 0 (length first.config.group)
sides-at text first (step ∷ before) opened are =
    sides-on step.call (publisher_after first before) step.after (publisher-is text first before opened are.2) are.0 are.1 ∙ sides-at text first before opened are.2

-- ---- what was made stays so

abbrev IsMadeBy : Publisher → List PublisherStep → List ℕ → Type 0
IsMadeBy first steps datagram = IsMade first.config (past_of first steps) datagram

made-stays : (first : Publisher) (step : PublisherStep) (before : List PublisherStep) (datagram : List ℕ) → IsMadeBy first before datagram → IsMadeBy first (step ∷ before) datagram
made-stays first step before datagram is =
    let old = publisher_after first before in
    record {
      group = is.group;
      part = is.part;
      there = is.there;
      made = call-keeps (λ past. WasMade past datagram) (λ writer past made. made) first.config step.call old step.after is.group (past_of first before is.group) (λ now next did made is_call is_made was. inr was) is.made;
    }

-- ---- the datagrams that wait

-- of a publisher of which one waits
AllMade : Publisher → List PublisherStep → Publisher → Type 0
AllMade first steps now = Waits now → (datagram : List ℕ) → Contains (datagrams_in now.out) datagram → IsMadeBy first steps datagram

all-same : (first : Publisher) (step : PublisherStep) (before : List PublisherStep) (old : Publisher) → step.after.out ≡ old.out → (Waits step.after → Waits old) → AllMade first before old → AllMade first (step ∷ before) step.after
unfolding AllMade
all-same first step before old same waits all = λ waiting datagram has.
    made-stays first step before datagram (all (waits waiting) datagram (subst (λ (o : Datagrams). Contains (datagrams_in o) datagram) same has))

-- where nothing of it changed but what is told
waits-same : (old new : Publisher) → new.made ≡ old.made → new.handed ≡ old.handed → Waits new → Waits old
waits-same old new made handed waits = omega (arith, made, handed, waits)

waits-handed : (old new : Publisher) → new.made ≡ old.made → new.handed ≡ old.handed + 1 → Waits new → Waits old
waits-handed old new made handed waits = omega (arith, made, handed, waits)

-- a turn that made the datagrams
now-made : (past : List GroupDeed) (turn : GroupTurn) (looked : Looked) (made : ℕ) (datagram : List ℕ) → looked ≡ Made made → Contains turn.made datagram → WasMade (looked_on looked turn past) datagram
now-made past turn Idle made datagram e has = absurd (cc)
now-made past turn Held made datagram e has = absurd (cc)
now-made past turn (Made n) made datagram e has = inl has

module _ (text : List ℕ) (first : Publisher) (opened : IsOpenPublisher text first) (before : List PublisherStep) (are : ArePublisherSteps first before) (new : Publisher) (is_new : IsPublisher new) (now : ℕ) (did : List Looked) where
  abbrev old : Publisher
  old = publisher_after first before

  some-made : (has : ComesBy now Datagram did old new) (datagram : List ℕ) → Contains (datagrams_in new.out) datagram → IsMade first.config (λ g. came_on first.config old now did g (past_of first before g)) datagram
  some-made has datagram there =
      let config = first.config in
      let is_old = publisher-is text first before opened are in
      let senders = turned_to now old.senders.items in
      let sides = has.came.sides in
      let some : HasMadeSome now senders sides new = has.came.came in
      let all = all-turned now old.senders.items is_old.senders_are in
      let g = length some.did in
      let low_sides = place-low now senders sides new all is_new.senders_are some in
      let same_length = zip-length (IsRefreshedFor old.config now old.senders.items) old.sides.items sides has.came.refreshed in
      let count = sides-at text first before opened are in
      let low : g < length config.group = omega (arith, low_sides, same_length, count) in
      let h = group-at text first g before opened low are in
      let past = past_of first before g in
      let fresh = fresh_on config old now g past in
      let was = h.side in
      let raw = made-turn now senders sides new all is_new.senders_are some was in
      let turn : HasItsTurn config now old.rows.items senders new.out new.made (get_or sides g was) (get_or new.sides.items g was) =
      subst (λ (rows : List Sampled). HasItsTurn config now rows senders new.out new.made (get_or sides g was) (get_or new.sides.items g was)) has.came.rows
      (subst (λ (c : Config). HasItsTurn c now new.rows.items senders new.out new.made (get_or sides g was) (get_or new.sides.items g was)) (has.came.config ∙ h.config) raw) in
      let ticked = turn-ticked first g old new past h is_old is_new low now Datagram did has new.out new.made (get_or new.sides.items g was) turn in
      let looked : get_or did g Idle ≡ Made new.made = ap (λ (l : List Looked). get_or l g Idle) has.did_is ∙ push-own some.did (Made new.made) Idle in
      record {
        group = g;
        part = group_at config g;
        there = slice_get-get_or config.group g no_group low;
        made = now-made fresh (turn_at config old now g fresh) (get_or did g Idle) new.made datagram looked (subst (λ (l : List (List ℕ)). Contains l datagram) ticked.datagrams there);
      }

all-came : (text : List ℕ) (first : Publisher) → IsOpenPublisher text first → (step : PublisherStep) (before : List PublisherStep) (now : ℕ) (next : Next) (did : List Looked) → ArePublisherSteps first before → IsPublisher step.after → step.call ≡ CameTo now next did
    → ComesBy now next did (publisher_after first before) step.after → AllMade first (step ∷ before) step.after
unfolding AllMade
all-came text first opened step before now Datagram did are is same has = λ waits datagram there.
    subst (λ (call : PublisherCall). IsMade first.config (λ g. past_by first.config call (publisher_after first before) step.after g (past_of first before g)) datagram) (sym same)
    (some-made text first opened before are step.after is now did has datagram there)
all-came text first opened step before now Nothing did are is same has = λ waits datagram there. absurd (let none = has.came.came.none_waits in omega (arith, none, waits))
all-came text first opened step before now Spent did are is same has = λ waits datagram there. absurd (let none = has.came.came.none_waits in omega (arith, none, waits))

all-rest : (first : Publisher) (step : PublisherStep) (before : List PublisherStep) → step.after.out ≡ (publisher_after first before).out → step.after.made ≡ (publisher_after first before).made
    → step.after.handed ≡ (publisher_after first before).handed → AllMade first before (publisher_after first before) → AllMade first (step ∷ before) step.after
all-rest first step before out made handed all =
    all-same first step before (publisher_after first before) out (waits-same (publisher_after first before) step.after made handed) all

all-none : (text : List ℕ) (first : Publisher) → IsOpenPublisher text first → AllMade first [] first
unfolding AllMade
all-none text first opened = λ waits datagram has. absurd (let none = opened.none_waits in omega (arith, none, waits))

module _ (text : List ℕ) (first : Publisher) (opened : IsOpenPublisher text first) where
  all-on : (step : PublisherStep) (before : List PublisherStep) (call : PublisherCall) → step.call ≡ call → ArePublisherSteps first before → IsPublisher step.after → IsPublisherCall call (publisher_after first before) step.after
      → AllMade first before (publisher_after first before) → AllMade first (step ∷ before) step.after
  all-on step before (SetField k field value status) same are is has all = all-rest first step before (ap (λ (p : Publisher). p.out) has.rest) (ap (λ (p : Publisher). p.made) has.rest) (ap (λ (p : Publisher). p.handed) has.rest) all
  all-on step before (SetWord k field kind word) same are is has all = all-rest first step before (ap (λ (p : Publisher). p.out) has.rest) (ap (λ (p : Publisher). p.made) has.rest) (ap (λ (p : Publisher). p.handed) has.rest) all
  all-on step before (SetStatus k field status) same are is has all = all-rest first step before (ap (λ (p : Publisher). p.out) has.rest) (ap (λ (p : Publisher). p.made) has.rest) (ap (λ (p : Publisher). p.handed) has.rest) all
  all-on step before (Waited now) same are is has all = all-rest first step before (ap (λ (p : Publisher). p.out) has.1) (ap (λ (p : Publisher). p.made) has.1) (ap (λ (p : Publisher). p.handed) has.1) all
  all-on step before (CameTo now next did) same are is has all = all-came text first opened step before now next did are is same has
  all-on step before HandedOver same are is has all =
      all-same first step before (publisher_after first before) (ap (λ (p : Publisher). p.out) has.1) (waits-handed (publisher_after first before) step.after (ap (λ (p : Publisher). p.made) has.1) (ap (λ (p : Publisher). p.handed) has.1)) all
  all-on step before (Switched group writer on) same are is has all = all-rest first step before (ap (λ (p : Publisher). p.out) has.rest) (ap (λ (p : Publisher). p.made) has.rest) (ap (λ (p : Publisher). p.handed) has.rest) all
  all-on step before (Renewed k sets) same are is has all = all-rest first step before (ap (λ (p : Publisher). p.out) has.rest) (ap (λ (p : Publisher). p.made) has.rest) (ap (λ (p : Publisher). p.handed) has.rest) all
  all-on step before (Resumed k now used sets) same are is has all = all-rest first step before (ap (λ (p : Publisher). p.out) has.rest) (ap (λ (p : Publisher). p.made) has.rest) (ap (λ (p : Publisher). p.handed) has.rest) all
  all-on step before Aside same are is has all = all-rest first step before (ap (λ (p : Publisher). p.out) has.rest) (ap (λ (p : Publisher). p.made) has.rest) (ap (λ (p : Publisher). p.handed) has.rest) all

  all-at : (steps : List PublisherStep) → ArePublisherSteps first steps → AllMade first steps (publisher_after first steps)
  all-at [] are = all-none text first opened
  all-at (step ∷ before) are = all-on step before step.call refl are.2 are.0 are.1 (all-at before are.2)

  offers-made : (steps : List PublisherStep) → ArePublisherSteps first steps → (datagram : List ℕ) → Offers (publisher_after first steps) datagram → IsMadeBy first steps datagram
  unfolding AllMade
  offers-made steps are datagram offers =
      let now = publisher_after first steps in
      let list = datagrams_in now.out in
      let is = publisher-is text first steps opened are in
      let waits = offers.waits in
      let count = is.made_is in
      let low : now.handed < length list = omega (arith, waits, count) in
      all-at steps are waits datagram (now.handed, low, sym (offers.is ∙ get_or_default list now.handed [] datagram low))

  pub offered-made : (steps : List PublisherStep) → ArePublisherSteps first steps → (datagram : List ℕ) → HasOffered steps datagram → IsMadeBy first steps datagram
  offered-made [] are datagram has = absurd has
  offered-made (step ∷ before) are datagram (inl offers) = offers-made (step ∷ before) are datagram offers
  offered-made (step ∷ before) are datagram (inr earlier) = made-stays first step before datagram (offered-made before are.2 datagram earlier)
