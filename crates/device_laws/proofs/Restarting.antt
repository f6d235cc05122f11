-- No token and number is given twice in a life of a publisher, nor over two lives.
use Rattle.std.proofs.Common.{◌≡◌, ◌≢◌, refl, sym, ap, ◌∙◌, subst, arith, ℕ, zero, suc, ◌<◌, Bool, true, false, nat_lt, List, [], ◌∷◌, get_or, inl, inr, Option, Some, None}
use Rattle.std.specs.Prelude.{◌⊎◌, ◌++◌, option_map, if◌then◌else◌}
use Rattle.std.proofs.lemmas.Bool.Decides.{nat_tests}
use Rattle.group_keys.specs.KeySets.{current}
use Rattle.group_keys.specs.declared.key_set.KeySet.{KeySet}
use Rattle.message_guard.specs.declared.keys.TokenKeys.{TokenKeys}
use Rattle.message_guard.specs.Protection.{keys_in}
use Rattle.message_guard.specs.Senders.{SenderState, turned, turned_by}
use Rattle.ps_config.specs.declared.parts.KeyGroupPart.{KeyGroupPart}
use Rattle.reader_group.specs.Settings.{no_keygroup}
use Rattle.device.specs.declared.asked.Next.{Next}
use Rattle.device.specs.declared.looking.Looked.{Looked}
use Rattle.device.specs.declared.publisher.Publisher.{Publisher}
use Rattle.device.specs.Calls as numbers
use Rattle.device.specs.Calls.{AreCalled, Call, FallBackNever, Gives, IsCalled, IsGiven}
use Rattle.device.specs.Sides.{IsNoLess, IsNoLower, IsResumed}
use Rattle.device.proofs.Sending.{no_sender}
use Rattle.device_laws.specs.Publishing.{ArePublisherSteps, ComesBy, CameTo, HandedOver, IsPublisherCall, PublisherCall, PublisherLife, PublisherStep, Aside, Renewed, Resumed, SetField, SetStatus, SetWord, Switched, Waited, publisher_after, publisher_in}
use Rattle.device_laws.specs.Restarts.{GivesAt, GoesOnAfter, HasGiven, numbers_of}

-- what the law of `device` says
abbrev pub FallLaw : Type 0
FallLaw = (calls : List Call) (old new : Publisher) → AreCalled calls old new → FallBackNever old.senders.items new.senders.items

-- where the key group's sender stands
abbrev stand_of : SenderState → ℕ × ℕ
stand_of s = (s.keys.token, s.used)

abbrev stand : ℕ → Publisher → ℕ × ℕ
stand k publisher = stand_of (get_or publisher.senders.items k no_sender)

abbrev IsLower : ℕ × ℕ → ℕ × ℕ → Type 0
IsLower old new = (old.0 < new.0) ⊎ ((old.0 ≡ new.0) × (old.1 < new.1))

-- ---- orders

no-lower : (a b c : ℕ × ℕ) → IsNoLower a b → IsNoLower b c → IsNoLower a c
no-lower a b c (inl one) (inl other) = inl (omega (arith, one, other))
no-lower a b c (inl one) (inr other) = let token = other.0 in inl (omega (arith, one, token))
no-lower a b c (inr one) (inl other) = let token = one.0 in inl (omega (arith, token, other))
no-lower a b c (inr one) (inr other) = let used = one.1 in let more = other.1 in inr (one.0 ∙ other.0, omega (arith, used, more))

lower : (a b c : ℕ × ℕ) → IsNoLower a b → IsLower b c → IsLower a c
lower a b c (inl one) (inl other) = inl (omega (arith, one, other))
lower a b c (inl one) (inr other) = let token = other.0 in inl (omega (arith, one, token))
lower a b c (inr one) (inl other) = let token = one.0 in inl (omega (arith, token, other))
lower a b c (inr one) (inr other) = let used = one.1 in let more = other.1 in inr (one.0 ∙ other.0, omega (arith, used, more))

apart : (a b : ℕ × ℕ) → IsLower a b → a ≢ b
apart a b (inl one) same = let token = ap (λ (p : ℕ × ℕ). p.0) same in omega (arith, one, token)
apart a b (inr one) same = let number = ap (λ (p : ℕ × ℕ). p.1) same in let less = one.1 in omega (arith, number, less)

no-lower-same : (a : ℕ × ℕ) → IsNoLower a a
no-lower-same a = inr (refl, omega arith)

-- ---- a call

came-called : (now : ℕ) (next : Next) (did : List Looked) (old new : Publisher) → ComesBy now next did old new → IsCalled (numbers.Came now next) old new
came-called now next did old new has = record {
  comes = record { waited = λ waits. absurd (let none = has.none_waited in omega (arith, waits, none)); came = λ none. has.came };
  store = has.store;
}

-- where the senders stay
stands-still : (k : ℕ) (old new : Publisher) → new.senders.items ≡ old.senders.items → IsNoLower (stand k old) (stand k new)
stands-still k old new same =
    subst (λ (senders : List SenderState). IsNoLower (stand k old) (stand_of (get_or senders k no_sender))) (sym same) (no-lower-same (stand k old))

at-key : (old new : List SenderState) (k : ℕ) (d : SenderState) → FallBackNever old new → IsNoLower (stand_of (get_or old k d)) (stand_of (get_or new k d))
at-key [] [] k d never = no-lower-same (stand_of d)
at-key [] (y ∷ new) k d never = absurd never
at-key (x ∷ old) [] k d never = absurd never
at-key (x ∷ old) (y ∷ new) zero d never = never.0
at-key (x ∷ old) (y ∷ new) (suc k) d never = at-key old new k d never.1

-- what was given, beside where the sender stands before and after
given-after : (k : ℕ) (call : PublisherCall) (old new : Publisher) (pair : ℕ × ℕ) → Gives k (numbers_of call) old new pair → IsNoLower pair (stand k new)
given-after k (CameTo now next did) old new pair gives = let is : IsGiven now pair (get_or old.senders.items k no_sender) (get_or new.senders.items k no_sender) = gives no_sender no_sender in inr (is.token, is.used)
given-after k (SetField set field value status) old new pair gives = absurd gives
given-after k (SetWord set field kind word) old new pair gives = absurd gives
given-after k (SetStatus set field status) old new pair gives = absurd gives
given-after k (Waited now) old new pair gives = absurd gives
given-after k HandedOver old new pair gives = absurd gives
given-after k (Switched group writer on) old new pair gives = absurd gives
given-after k (Renewed keygroup sets) old new pair gives = absurd gives
given-after k (Resumed keygroup now used sets) old new pair gives = absurd gives
given-after k Aside old new pair gives = absurd gives

turned-set : (s : SenderState) (set : KeySet) (b : Bool) → nat_lt s.keys.token set.token ≡ b → IsNoLess s (if b then record s { keys = keys_in set; used = 0; fronted = None } else s)
turned-set s set true higher = inl (grind (arith, nat_tests))
turned-set s set false higher = no-lower-same (stand_of s)

turned-by : (s : SenderState) (o : Option KeySet) → IsNoLess s (turned_by s o)
turned-by s None = no-lower-same (stand_of s)
turned-by s (Some set) = turned-set s set (nat_lt s.keys.token set.token) refl

turned-less : (now : ℕ) (s : SenderState) → IsNoLess s (turned s now)
turned-less now s = turned-by s (current s.sets now)

turned-lower : (s now_is : SenderState) (pair : ℕ × ℕ) → IsNoLower (stand_of s) (stand_of now_is) → pair.0 ≡ now_is.keys.token → now_is.used < pair.1 → IsLower (stand_of s) pair
turned-lower s now_is pair less token follows = lower (stand_of s) (stand_of now_is) pair less (inr (sym token, follows))

given-before : (k : ℕ) (call : PublisherCall) (old new : Publisher) (pair : ℕ × ℕ) → Gives k (numbers_of call) old new pair → IsLower (stand k old) pair
given-before k (CameTo now next did) old new pair gives =
    let was = get_or old.senders.items k no_sender in
    let is : IsGiven now pair was (get_or new.senders.items k no_sender) = gives no_sender no_sender in
    turned-lower was (turned was now) pair (turned-less now was) is.turned_token is.follows
given-before k (SetField set field value status) old new pair gives = absurd gives
given-before k (SetWord set field kind word) old new pair gives = absurd gives
given-before k (SetStatus set field status) old new pair gives = absurd gives
given-before k (Waited now) old new pair gives = absurd gives
given-before k HandedOver old new pair gives = absurd gives
given-before k (Switched group writer on) old new pair gives = absurd gives
given-before k (Renewed keygroup sets) old new pair gives = absurd gives
given-before k (Resumed keygroup now used sets) old new pair gives = absurd gives
given-before k Aside old new pair gives = absurd gives

-- ---- a life

module _ (falls : FallLaw) (k : ℕ) (first : Publisher) where
  called : (call : Call) (old new : Publisher) → IsCalled call old new → IsNoLower (stand k old) (stand k new)
  called call old new is = at-key old.senders.items new.senders.items k no_sender (falls (call ∷ []) old new (new, (is, refl)))

  one-call : (call : PublisherCall) (old new : Publisher) → IsPublisherCall call old new → IsNoLower (stand k old) (stand k new)
  one-call (SetField set field value status) old new has = stands-still k old new (ap (λ (p : Publisher). p.senders.items) has.rest)
  one-call (SetWord set field kind word) old new has = stands-still k old new (ap (λ (p : Publisher). p.senders.items) has.rest)
  one-call (SetStatus set field status) old new has = stands-still k old new (ap (λ (p : Publisher). p.senders.items) has.rest)
  one-call (Waited now) old new has = stands-still k old new (ap (λ (p : Publisher). p.senders.items) has.1)
  one-call (CameTo now next did) old new has = called (numbers.Came now next) old new (came-called now next did old new has)
  one-call HandedOver old new has = stands-still k old new (ap (λ (p : Publisher). p.senders.items) has.1)
  one-call (Switched group writer on) old new has = stands-still k old new (ap (λ (p : Publisher). p.senders.items) has.rest)
  one-call (Renewed keygroup sets) old new has = called (numbers.Renewed keygroup sets) old new has
  one-call (Resumed keygroup now used sets) old new has = called (numbers.Resumed keygroup now used sets) old new has
  one-call Aside old new has = stands-still k old new (ap (λ (p : Publisher). p.senders.items) has.rest)

  -- it stands no lower than what was given
  pub given-stands : (steps : List PublisherStep) (pair : ℕ × ℕ) → ArePublisherSteps first steps → HasGiven k first steps pair → IsNoLower pair (stand k (publisher_after first steps))
  given-stands [] pair are has = absurd has
  given-stands (step ∷ before) pair are (inl gives) = given-after k step.call (publisher_after first before) step.after pair gives
  given-stands (step ∷ before) pair are (inr has) =
      no-lower pair (stand k (publisher_after first before)) (stand k step.after) (given-stands before pair are.2 has)
      (one-call step.call (publisher_after first before) step.after are.1)

  -- no token and number comes twice in it
  pub once-given : (since : List PublisherStep) (step : PublisherStep) (before : List PublisherStep) (pair other : ℕ × ℕ) → ArePublisherSteps first (since ++ step ∷ before)
      → GivesAt k first step before pair → HasGiven k first before other → pair ≢ other
  once-given [] step before pair other are gives has same =
      apart other pair (lower other (stand k (publisher_after first before)) pair (given-stands before other are.2 has) (given-before k step.call (publisher_after first before) step.after pair gives)) (sym same)
  once-given (later ∷ since) step before pair other are gives has same = once-given since step before pair other are.2 gives has same

  -- what was given since is above where it stood
  since-stands : (since mid : List PublisherStep) → ArePublisherSteps first (since ++ mid) → IsNoLower (stand k (publisher_after first mid)) (stand k (publisher_after first (since ++ mid)))
  since-stands [] mid are = no-lower-same (stand k (publisher_after first mid))
  since-stands (step ∷ since) mid are =
      no-lower (stand k (publisher_after first mid)) (stand k (publisher_after first (since ++ mid))) (stand k step.after) (since-stands since mid are.2)
      (one-call step.call (publisher_after first (since ++ mid)) step.after are.1)

  since-lower : (since mid : List PublisherStep) (pair : ℕ × ℕ) → ArePublisherSteps first (since ++ mid) → HasGiven k first (since ++ mid) pair
      → IsLower (stand k (publisher_after first mid)) pair ⊎ HasGiven k first mid pair
  since-lower [] mid pair are has = inr has
  since-lower (step ∷ since) mid pair are (inl gives) =
      inl (lower (stand k (publisher_after first mid)) (stand k (publisher_after first (since ++ mid))) pair (since-stands since mid are.2)
      (given-before k step.call (publisher_after first (since ++ mid)) step.after pair gives))
  since-lower (step ∷ since) mid pair are (inr has) = since-lower since mid pair are.2 has

  pub mid-steps : (since mid : List PublisherStep) → ArePublisherSteps first (since ++ mid) → ArePublisherSteps first mid
  mid-steps [] mid are = are
  mid-steps (step ∷ since) mid are = mid-steps since mid are.2

-- ---- two lives

same-keys : (x y : TokenKeys) → Path (Option TokenKeys) (Some x) (Some y) → x ≡ y
same-keys x y e = cc

resumed-stands : (part : KeyGroupPart) (sets : List KeySet) (now used : ℕ) (s : SenderState) (set : KeySet) → IsResumed part sets now used s → current sets now ≡ Some set → stand_of s ≡ (set.token, used)
resumed-stands part sets now used s set is current_is =
    let keys : keys_in set ≡ s.keys = same-keys (keys_in set) s.keys (sym (ap (λ (o : Option KeySet). option_map keys_in o) current_is) ∙ is.keys) in
    ap (λ (x : TokenKeys). (x.token, s.used)) (sym keys) ∙ ap (λ (n : ℕ). (set.token, n)) is.used_is

pub restarted-apart : FallLaw → (k : ℕ) (earlier later : PublisherLife) (pair other : ℕ × ℕ) → ArePublisherSteps earlier.first earlier.steps → ArePublisherSteps later.first later.steps → GoesOnAfter k earlier later
    → HasGiven k earlier.first earlier.steps pair → HasGiven k later.first later.steps other → pair ≢ other
restarted-apart falls k earlier later pair other are_earlier are_later goes has_pair has_other = on split
  where
    resume : PublisherStep
    resume = record { call = Resumed k goes.now goes.used goes.sets; after = goes.resumed }

    mid : List PublisherStep
    mid = resume ∷ goes.before

    are_all : ArePublisherSteps later.first (goes.since ++ mid)
    are_all = subst (ArePublisherSteps later.first) goes.steps_are are_later

    split : IsLower (stand k goes.resumed) other ⊎ HasGiven k later.first mid other
    split = since-lower falls k later.first goes.since mid other are_all (subst (λ (steps : List PublisherStep). HasGiven k later.first steps other) goes.steps_are has_other)

    stands : stand k goes.resumed ≡ (goes.set.token, goes.used)
    stands =
        let behind = (mid-steps falls k later.first goes.since mid are_all).1 in
        resumed-stands (get_or (publisher_after later.first goes.before).config.keygroup k no_keygroup) goes.sets goes.now goes.used (get_or goes.resumed.senders.items k no_sender) goes.set
        (behind.is_resumed no_keygroup no_sender) goes.current_is

    below : IsNoLower pair (stand k goes.resumed)
    below =
        let end : goes.told ≡ stand k (publisher_in earlier) = goes.stood.is no_sender in
        no-lower pair (stand k (publisher_in earlier)) (stand k goes.resumed) (given-stands falls k earlier.first earlier.steps pair are_earlier has_pair)
        (subst (λ (s : ℕ × ℕ). IsNoLower s (stand k goes.resumed)) end (subst (IsNoLower goes.told) (sym stands) goes.no_lower))

    on : IsLower (stand k goes.resumed) other ⊎ HasGiven k later.first mid other → pair ≢ other
    on (inl above) = apart pair other (lower pair (stand k goes.resumed) other below above)
    on (inr (inl gives)) = absurd gives
    on (inr (inr has)) = absurd (goes.none_given other has)
