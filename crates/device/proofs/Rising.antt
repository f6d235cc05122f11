-- Senders that never fall back.
use Rattle.std.proofs.Common.{◌≡◌, ◌≢◌, ℕ, zero, suc, ◌+◌, ◌%◌, ◌/◌, ◌^◌, ◌<◌, ◌≤◌, ◌⊎◌, inl, inr, Bool, true, false, List, [], ◌∷◌, length, get_or, set, nat_lt, refl, sym, ap, subst, arith, ◌∙◌}
use Rattle.std.specs.Prelude.{Option, Some, None, if◌then◌else◌}
use Rattle.std.specs.List.{HoldsAt}
use Rattle.std.proofs.lemmas.Bool.{cases_lt}
use Rattle.std.proofs.lemmas.Bool.Decides.{nat_tests}
use Rattle.std.proofs.lemmas.List.{get_or-map, get_or-set_same, get_or_default, get_or_past, length-map}
use Rattle.group_keys.specs.KeySets.{current}
use Rattle.group_keys.specs.declared.key_set.KeySet.{KeySet}
use Rattle.message_guard.specs.declared.keys.TokenKeys.{TokenKeys}
use Rattle.message_guard.specs.declared.mode.Mode.{Mode}
use Rattle.message_guard.specs.Protection.{keys_in}
use Rattle.message_guard.specs.Senders.{SenderState, renewed, turned, turned_by}
use Rattle.ps_config.specs.declared.parts.Config.{Config}
use Rattle.ps_config.specs.declared.parts.KeyGroupPart.{KeyGroupPart}
use Rattle.stored_state.specs.declared.state.StoredState.{StoredState}
use Rattle.ps_config.specs.Headers.{mode_of}
use Rattle.writer_group.specs.Parts.{group_at}
use Rattle.writer_group.specs.Sealing.{advanced_by}
use Rattle.writer_group.proofs.Joining.{advanced-used}
use Rattle.device.specs.Calls.{AreCalled, Call, Came, FallBackNever, GiveOthers, GivesEach, IsCalled, IsGiven, Other, Renewed, Restored, Resumed, Saved, Stored, number_at}
use Rattle.device.specs.Coming.{Comes, ComesTo, turned_to}
use Rattle.device.specs.Restarts.{HasBegunAt, HasGoneOn, HasRestored, HaveGoneOn, HaveNumbersBegun, MayNotBegin, passed_over}
use Rattle.device.specs.Storing.{message_word, pair_in}
use Rattle.device.specs.Resuming.{IsBehind, WouldRepeat}
use Rattle.device.specs.Sides.{HasNumbered, HasRenewed, IsBecome, IsNoLess, numbered}
use Rattle.device.specs.declared.asked.Next.{Next}
use Rattle.device.specs.declared.asked.Next.TheVariants.{Datagram, Nothing, Spent}
use Rattle.device.specs.declared.publisher.Publisher.{Publisher}
use Rattle.device.specs.declared.side.Side.{Side}
use Rattle.device.proofs.Looks.{some-side}
use Rattle.device.proofs.Sending.{no_sender}

-- ---- one sender

same-less : (s : SenderState) → IsNoLess s s
same-less s = inr (refl, omega arith)

less-less : (a b c : SenderState) → IsNoLess a b → IsNoLess b c → IsNoLess a c
less-less a b c (inl one) (inl other) = inl (omega (arith, one, other))
less-less a b c (inl one) (inr other) = let token = other.0 in inl (omega (arith, one, token))
less-less a b c (inr one) (inl other) = let token = one.0 in inl (omega (arith, token, other))
less-less a b c (inr one) (inr other) = let used = one.1 in let more = other.1 in inr (one.0 ∙ other.0, omega (arith, used, more))

turned-set : (s : SenderState) (set : KeySet) (b : Bool) → nat_lt s.keys.token set.token ≡ b
    → IsNoLess s (if b then record s { keys = keys_in set; used = 0; fronted = None } else s)
turned-set s set true higher = inl (grind (arith, nat_tests))
turned-set s set false higher = same-less s

turned-less-by : (s : SenderState) (set : Option KeySet) → IsNoLess s (turned_by s set)
turned-less-by s None = same-less s
turned-less-by s (Some set) = turned-set s set (nat_lt s.keys.token set.token) refl

pub turned-less : (now : ℕ) (s : SenderState) → IsNoLess s (turned s now)
turned-less now s = turned-less-by s (current s.sets now)

advanced-keys : (mode : Mode) (s : SenderState) (count : ℕ) → (advanced_by mode s count).keys ≡ s.keys
advanced-keys mode s zero = refl
advanced-keys mode s (suc count) = advanced-keys mode s count

advanced-less : (mode : Mode) (s : SenderState) (count : ℕ) → IsNoLess s (advanced_by mode s count)
advanced-less mode s count = inr (sym (ap (λ (k : TokenKeys). k.token) (advanced-keys mode s count)), omega (arith, advanced-used mode s count))

-- ---- all senders

never-same : (l : List SenderState) → FallBackNever l l
never-same [] = tt
never-same (s ∷ l) = (same-less s, never-same l)

never-never : (a b c : List SenderState) → FallBackNever a b → FallBackNever b c → FallBackNever a c
never-never [] [] [] one other = tt
never-never [] [] (z ∷ c) one other = absurd other
never-never [] (y ∷ b) c one other = absurd one
never-never (x ∷ a) [] c one other = absurd one
never-never (x ∷ a) (y ∷ b) [] one other = absurd other
never-never (x ∷ a) (y ∷ b) (z ∷ c) one other = (less-less x y z one.0 other.0, never-never a b c one.1 other.1)

never-turned : (now : ℕ) (l : List SenderState) → FallBackNever l (turned_to now l)
never-turned now [] = tt
never-turned now (s ∷ l) = (turned-less now s, never-turned now l)

never-set : (l : List SenderState) (k : ℕ) (y : SenderState) → IsNoLess (get_or l k y) y → FallBackNever l (set l k y)
never-set [] k y less = tt
never-set (s ∷ l) zero y less = (less, never-same l)
never-set (s ∷ l) (suc k) y less = (same-less s, never-set l k y less)

never-same-as : (old new : List SenderState) → new ≡ old → FallBackNever old new
never-same-as old new same = subst (λ (l : List SenderState). FallBackNever old l) (sym same) (never-same old)

-- ---- calls

become-less : (keygroup : Option ℕ) (change : SenderState → SenderState) (old new : List SenderState) → ((s : SenderState) → IsNoLess s (change s)) → IsBecome keygroup change old new
    → FallBackNever old new
become-less None change old new less is = never-same-as old new is
become-less (Some k) change old new less is =
    let y = change (get_or old k no_sender) in
    subst (λ (l : List SenderState). FallBackNever old l) (sym (is no_sender)) (never-set old k y (at (cases_lt k (length old))))
  where
    at : (k < length old) ⊎ (length old ≤ k) → IsNoLess (get_or old k (change (get_or old k no_sender))) (change (get_or old k no_sender))
    at (inl low) =
        subst (λ (s : SenderState). IsNoLess s (change (get_or old k no_sender))) (get_or_default old k no_sender (change (get_or old k no_sender)) low) (less (get_or old k no_sender))
    at (inr past) =
        subst (λ (s : SenderState). IsNoLess s (change (get_or old k no_sender))) (sym (get_or_past old k (change (get_or old k no_sender)) past)) (same-less (change (get_or old k no_sender)))

numbered-less : (config : Config) (index made : ℕ) (old new : List SenderState) → HasNumbered config index made old new → FallBackNever old new
numbered-less config index made old new has =
    become-less (group_at config index).keygroup (numbered config index made) old new (λ s. advanced-less (mode_of (group_at config index).security) s made) has

comes-less : (now : ℕ) (next : Next) (senders : List SenderState) (sides : List Side) (new : Publisher) → Comes now next senders sides new → FallBackNever senders new.senders.items
comes-less now Datagram senders sides new comes =
    let d = some-side comes.mid (length comes.did) comes.within in
    numbered-less new.config (get_or comes.mid (length comes.did) d).index new.made senders new.senders.items (comes.numbers d)
comes-less now Nothing senders sides new comes = never-same-as senders new.senders.items comes.senders_are
comes-less now Spent senders sides new comes = never-same-as senders new.senders.items comes.senders_are

came-less : (now : ℕ) (next : Next) (old new : Publisher) → ComesTo now next old new → FallBackNever old.senders.items new.senders.items
came-less now next old new comes = by_case (cases_lt old.handed old.made)
  where
    by_case : (old.handed < old.made) ⊎ (old.made ≤ old.handed) → FallBackNever old.senders.items new.senders.items
    by_case (inl waits) = never-same-as old.senders.items new.senders.items (ap (λ (p : Publisher). p.senders.items) (comes.waited waits).stays)
    by_case (inr none) =
        let came = comes.came none in
        never-never old.senders.items (turned_to now old.senders.items) new.senders.items (never-turned now old.senders.items)
        (comes-less now next (turned_to now old.senders.items) came.sides new came.came)

renewed-less : (keygroup : ℕ) (sets : List KeySet) (old new : Publisher) → HasRenewed keygroup sets old new → FallBackNever old.senders.items new.senders.items
renewed-less keygroup sets old new has =
    become-less (Some keygroup) (λ s. renewed s sets) old.senders.items new.senders.items (λ s. same-less s) has.is

resumed-less : (keygroup now used : ℕ) (sets : List KeySet) (old new : Publisher) → IsBehind keygroup now used sets old new → FallBackNever old.senders.items new.senders.items
resumed-less keygroup now used sets old new behind =
    let y = get_or new.senders.items keygroup no_sender in
    subst (λ (l : List SenderState). FallBackNever old.senders.items l) (sym (behind.others no_sender)) (never-set old.senders.items keygroup y (behind.no_lower y no_sender))

-- ---- a restored publisher

-- numbers that begin leave the senders
pub begun-senders : (count : ℕ) (words : List ℕ) (old new : Publisher) → HaveNumbersBegun count words old new → new.senders.items ≡ old.senders.items
begun-senders zero words old new have = ap (λ (p : Publisher). p.senders.items) have
begun-senders (suc count) words old new (mid, (have, step)) = by_step step ∙ begun-senders count words old mid have
  where
    by_step : HasBegunAt (count / 16) (count % 16) (message_word words (count / 16) (count % 16) % 2 ^ 16) mid new ⊎ (MayNotBegin (count / 16) (count % 16) mid × (new ≡ mid))
        → new.senders.items ≡ mid.senders.items
    by_step (inl begun) = ap (λ (p : Publisher). p.senders.items) begun.rest
    by_step (inr stays) = ap (λ (p : Publisher). p.senders.items) stays.1

-- one sender that goes on leaves none behind
pub gone-less : (now keygroup : ℕ) (pair : ℕ × ℕ) (old new : Publisher) (sender : SenderState) → HasGoneOn now keygroup pair old new sender → FallBackNever old.senders.items new.senders.items
gone-less now keygroup pair old new sender gone = by_case gone.is
  where
    by_case : IsBehind keygroup now (passed_over pair gone.set.token) sender.sets old new
        ⊎ (HoldsAt (λ (part : KeyGroupPart). WouldRepeat part sender.sets now (passed_over pair gone.set.token) sender) old.config.keygroup keygroup × (new ≡ old))
        → FallBackNever old.senders.items new.senders.items
    by_case (inl behind) = resumed-less keygroup now (passed_over pair gone.set.token) sender.sets old new behind
    by_case (inr stays) = never-same-as old.senders.items new.senders.items (ap (λ (p : Publisher). p.senders.items) stays.1)

pub gone-all-less : (now count : ℕ) (words : List ℕ) (old new : Publisher) → HaveGoneOn now count words old new → FallBackNever old.senders.items new.senders.items
gone-all-less now zero words old new have = never-same-as old.senders.items new.senders.items (ap (λ (p : Publisher). p.senders.items) have)
gone-all-less now (suc count) words old new (mid, (have, step)) =
    never-never old.senders.items mid.senders.items new.senders.items (gone-all-less now count words old mid have)
    (gone-less now count (pair_in words count) mid new (get_or mid.senders.items count no_sender) (step no_sender))

pub restored-less : (now : ℕ) (state : StoredState) (old new : Publisher) → HasRestored now state old new → FallBackNever old.senders.items new.senders.items
restored-less now state old new has =
    never-never old.senders.items has.gone.senders.items new.senders.items
    (subst (λ (l : List SenderState). FallBackNever l has.gone.senders.items) (begun-senders 64 state.words old has.begun has.numbers)
    (gone-all-less now (length old.senders.items) state.words has.begun has.gone has.senders))
    (never-same-as has.gone.senders.items new.senders.items (ap (λ (p : Publisher). p.senders.items) has.rest))

called-less : (call : Call) (old new : Publisher) → IsCalled call old new → FallBackNever old.senders.items new.senders.items
called-less (Came now next) old new is = came-less now next old new is.comes
called-less (Renewed keygroup sets) old new is = renewed-less keygroup sets old new is
called-less (Resumed keygroup now used sets) old new is = resumed-less keygroup now used sets old new is
called-less (Saved ahead bytes) old new is = never-same-as old.senders.items new.senders.items (ap (λ (p : Publisher). p.senders.items) is.rest)
called-less Stored old new is = never-same-as old.senders.items new.senders.items (ap (λ (p : Publisher). p.senders.items) is)
called-less (Restored now state) old new is = restored-less now state old new is
called-less Other old new is = never-same-as old.senders.items new.senders.items is.senders

pub never-falls : (calls : List Call) (old new : Publisher) → AreCalled calls old new → FallBackNever old.senders.items new.senders.items
never-falls [] old new are = never-same-as old.senders.items new.senders.items (ap (λ (p : Publisher). p.senders.items) are)
never-falls (call ∷ calls) old new are =
    never-never old.senders.items are.0.senders.items new.senders.items (called-less call old are.0 are.1.0) (never-falls calls are.0 new are.1.1)

-- ---- numbers

pub never-at : (old new : List SenderState) (k : ℕ) (d : SenderState) → FallBackNever old new → IsNoLess (get_or old k d) (get_or new k d)
never-at [] [] k d never = same-less d
never-at [] (y ∷ new) k d never = absurd never
never-at (x ∷ old) [] k d never = absurd never
never-at (x ∷ old) (y ∷ new) zero d never = never.0
never-at (x ∷ old) (y ∷ new) (suc k) d never = never-at old new k d never.1

pub apart : (one two : SenderState) (pair other : ℕ × ℕ) → IsNoLess one two → pair.0 ≡ one.keys.token → pair.1 ≤ one.used → other.0 ≡ two.keys.token → two.used < other.1 → pair ≢ other
apart one two pair other (inl lower) token low later high same =
    let both : pair.0 ≡ other.0 = ap (λ (p : ℕ × ℕ). p.0) same in absurd (omega (arith, lower, token, later, both))
apart one two pair other (inr equal) token low later high same =
    let both : pair.1 ≡ other.1 = ap (λ (p : ℕ × ℕ). p.1) same in
    let more = equal.1 in absurd (omega (arith, more, low, high, both))

pub given-once : (keygroup : ℕ) (first : Call) (calls : List Call) (last : Call) → GiveOthers keygroup first calls last
given-once keygroup (Came now next) calls (Came later after) = λ one two three four pair other gives between more.
    let given = gives no_sender no_sender in
    let again = more no_sender no_sender in
    let is = get_or two.senders.items keygroup no_sender in
    let was = get_or three.senders.items keygroup no_sender in
    let less = never-at two.senders.items three.senders.items keygroup no_sender (never-falls calls two three between) in
    apart is (turned was later) pair other (less-less is was (turned was later) less (turned-less later was)) given.token given.used again.turned_token again.follows
given-once keygroup (Came now next) calls (Renewed k sets) = λ one two three four pair other gives between more. absurd more
given-once keygroup (Came now next) calls (Resumed k at used sets) = λ one two three four pair other gives between more. absurd more
given-once keygroup (Came now next) calls (Saved ahead bytes) = λ one two three four pair other gives between more. absurd more
given-once keygroup (Came now next) calls Stored = λ one two three four pair other gives between more. absurd more
given-once keygroup (Came now next) calls (Restored at state) = λ one two three four pair other gives between more. absurd more
given-once keygroup (Came now next) calls Other = λ one two three four pair other gives between more. absurd more
given-once keygroup (Renewed k sets) calls last = λ one two three four pair other gives between more. absurd gives
given-once keygroup (Resumed k at used sets) calls last = λ one two three four pair other gives between more. absurd gives
given-once keygroup (Saved ahead bytes) calls last = λ one two three four pair other gives between more. absurd gives
given-once keygroup Stored calls last = λ one two three four pair other gives between more. absurd gives
given-once keygroup (Restored at state) calls last = λ one two three four pair other gives between more. absurd gives
given-once keygroup Other calls last = λ one two three four pair other gives between more. absurd gives

-- ---- the numbers of a turn

-- the sender of the key group of the group whose datagrams wait, in front of the turn and behind it
is-given : (now place made : ℕ) (mode : Mode) (was is : SenderState) → place < made → is ≡ advanced_by mode (turned was now) made → IsGiven now (number_at now place was) was is
is-given now place made mode was is low same = record {
  turned_token = refl;
  token = sym (ap (λ (s : SenderState). s.keys.token) same ∙ ap (λ (k : TokenKeys). k.token) (advanced-keys mode (turned was now) made));
  follows = omega arith;
  used = let used : is.used ≡ (turned was now).used + made = ap (λ (s : SenderState). s.used) same ∙ advanced-used mode (turned was now) made in omega (arith, low, used);
}

pub gives-each : (keygroup now : ℕ) (old new : Publisher) → GivesEach keygroup now old new
gives-each keygroup now old new has within from place low =
    λ d was_d is_d.
    let some = has.came in
    let side = some-side some.mid (length some.did) some.within in
    let config = new.config in
    let senders = turned_to now old.senders.items in
    let numbers : HasNumbered config new.from new.made senders new.senders.items =
    subst (λ (index : ℕ). HasNumbered config index new.made senders new.senders.items) (sym (some.from side)) (some.numbers side) in
    let become : IsBecome (Some keygroup) (numbered config new.from new.made) senders new.senders.items =
    subst (λ (k : Option ℕ). IsBecome k (numbered config new.from new.made) senders new.senders.items) from numbers in
    let before = get_or old.senders.items keygroup was_d in
    let mapped : get_or senders keygroup was_d ≡ turned before now = get_or-map (λ (s : SenderState). turned s now) old.senders.items keygroup was_d was_d within in
    let many : length senders ≡ length old.senders.items = length-map old.senders.items (λ (s : SenderState). turned s now) in
    let after : get_or new.senders.items keygroup is_d ≡ numbered config new.from new.made (turned before now) =
    ap (λ (l : List SenderState). get_or l keygroup is_d) (become was_d)
    ∙ get_or-set_same senders keygroup (numbered config new.from new.made (get_or senders keygroup was_d)) is_d (omega (arith, within, many))
    ∙ ap (numbered config new.from new.made) mapped in
    subst (λ (s : SenderState). IsGiven now (number_at now place s) before (get_or new.senders.items keygroup is_d)) (get_or_default old.senders.items keygroup was_d d within)
    (is-given now place new.made (mode_of (group_at config new.from).security) before (get_or new.senders.items keygroup is_d) low after)
