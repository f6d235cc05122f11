-- A life that goes on after what the life before stored.
use Rattle.std.proofs.Common.{◌≡◌, ◌≢◌, ℕ, zero, suc, ◌<◌, ◌≤◌, ◌⊎◌, inl, inr, Bool, true, false, List, [], ◌∷◌, length, get_or, nat_lt, refl, sym, ap, subst, arith, ◌∙◌}
use Rattle.std.specs.Prelude.{◌==◌, All, Option, Some, None, option_map, if◌then◌else◌}
use Rattle.std.specs.List.{HoldsAt}
use Rattle.std.proofs.lemmas.Bool.{cases_eq, cases_lt}
use Rattle.std.proofs.lemmas.Bool.Decides.{eqb_tells, nat_tests}
use Rattle.std.proofs.lemmas.List.{get_or-set_other, get_or_past}
use Rattle.std.proofs.lemmas.Option.{none-some, same_Some}
use Rattle.group_keys.specs.KeySets.{current}
use Rattle.group_keys.specs.declared.key_set.KeySet.{KeySet}
use Rattle.message_guard.specs.declared.keys.TokenKeys.{TokenKeys}
use Rattle.message_guard.specs.Protection.{keys_in}
use Rattle.message_guard.specs.Senders.{SenderState, turned}
use Rattle.ps_config.specs.declared.parts.KeyGroupPart.{KeyGroupPart}
use Rattle.stored_state.specs.declared.state.StoredState.{StoredState}
use Rattle.device.specs.Calls.{AreCalled, Call, Came, FallBackNever, IsCalled, IsGiven, IsInStore, IsStore, LeavesCovered, MayBeFound, Other, Renewed, Restored, RestoredGiveOthers, Resumed, Saved, SavesNoLower, Stored}
use Rattle.device.specs.Restarts.{HasGoneOn, HasRestored, HaveGoneOn, passed_over}
use Rattle.device.specs.Resuming.{IsBehind, IsEarlier, WouldRepeat}
use Rattle.device.specs.Sides.{IsNoLower, IsResumed}
use Rattle.device.specs.Storing.{HasSaved, IsCovered, IsReleased, ahead_of, later_of, pair_in, pair_of, saved_pair}
use Rattle.device.specs.declared.publisher.Publisher.{Publisher}
use Rattle.device.specs.declared.store.Saved.{Saved as SavedState}
use Rattle.device.specs.declared.store.Store.{Store}
use Rattle.device.proofs.Rising.{apart, begun-senders, gone-less, gone-all-less, never-at, never-falls, restored-less, turned-less}
use Rattle.device.proofs.Sending.{no_sender}

-- ---- pairs

lower-same : (a : ℕ × ℕ) → IsNoLower a a
lower-same a = inr (refl, omega arith)

lower-same-as : (a b : ℕ × ℕ) → a ≡ b → IsNoLower a b
lower-same-as a b same = subst (IsNoLower a) same (lower-same a)

pub lower-lower : (a b c : ℕ × ℕ) → IsNoLower a b → IsNoLower b c → IsNoLower a c
lower-lower a b c (inl one) (inl other) = inl (omega (arith, one, other))
lower-lower a b c (inl one) (inr other) = let token = other.0 in inl (omega (arith, one, token))
lower-lower a b c (inr one) (inl other) = let token = one.0 in inl (omega (arith, token, other))
lower-lower a b c (inr one) (inr other) = let used = one.1 in let more = other.1 in inr (one.0 ∙ other.0, omega (arith, used, more))

-- of two pairs one is no lower
lower-total : (a b : ℕ × ℕ) → ¬ IsNoLower a b → IsNoLower b a
lower-total a b none = by_token (cases_lt b.0 a.0)
  where
    by_used : b.0 ≡ a.0 → (b.1 < a.1) ⊎ (a.1 ≤ b.1) → IsNoLower b a
    by_used same (inl less) = inr (same, omega (arith, less))
    by_used same (inr more) = absurd (none (inr (sym same, more)))

    by_other : a.0 ≤ b.0 → (a.0 < b.0) ⊎ (b.0 ≤ a.0) → IsNoLower b a
    by_other low (inl less) = absurd (none (inl less))
    by_other low (inr more) = by_used (omega (arith, low, more)) (cases_lt b.1 a.1)

    by_token : (b.0 < a.0) ⊎ (a.0 ≤ b.0) → IsNoLower b a
    by_token (inl less) = inl less
    by_token (inr low) = by_other low (cases_lt a.0 b.0)

later-by : (one other : ℕ × ℕ) (b c d : Bool) → nat_lt one.0 other.0 ≡ b → nat_lt other.0 one.0 ≡ c → nat_lt one.1 other.1 ≡ d
    → IsNoLower one (if b then other else (if c then one else (if d then other else one))) × IsNoLower other (if b then other else (if c then one else (if d then other else one)))
later-by one other true c d is_b is_c is_d = (inl (grind (arith, nat_tests)), lower-same other)
later-by one other false true d is_b is_c is_d = (lower-same one, inl (grind (arith, nat_tests)))
later-by one other false false true is_b is_c is_d =
    let same : one.0 ≡ other.0 = grind (arith, nat_tests) in
    let less : one.1 ≤ other.1 = grind (arith, nat_tests) in
    (inr (same, less), lower-same other)
later-by one other false false false is_b is_c is_d =
    let same : other.0 ≡ one.0 = grind (arith, nat_tests) in
    let less : other.1 ≤ one.1 = grind (arith, nat_tests) in
    (lower-same one, inr (same, less))

later-both : (one other : ℕ × ℕ) → IsNoLower one (later_of one other) × IsNoLower other (later_of one other)
later-both one other = later-by one other (nat_lt one.0 other.0) (nat_lt other.0 one.0) (nat_lt one.1 other.1) refl refl refl

-- ---- what is saved

pub saves-no-lower : (ahead : ℕ) (old new : Publisher) (bytes : List ℕ) (saved : HasSaved ahead old new bytes) (keygroup : ℕ) → keygroup < length old.senders.items
    → SavesNoLower keygroup old saved.state.words
saves-no-lower ahead old new bytes saved keygroup within = record {
  covered = lower-lower (pair_of old.store.covered keygroup) (saved_pair ahead old.store keygroup (at no_sender)) (pair_in saved.state.words keygroup)
      (later-both ((at no_sender).keys.token, ahead_of ahead (at no_sender).used) (pair_of old.store.covered keygroup)).1 (lower-same-as _ _ (sym (saved.pairs keygroup within no_sender)));
  used = λ d.
      lower-lower ((at d).keys.token, (at d).used) (saved_pair ahead old.store keygroup (at d)) (pair_in saved.state.words keygroup)
      (lower-lower ((at d).keys.token, (at d).used) ((at d).keys.token, ahead_of ahead (at d).used) (saved_pair ahead old.store keygroup (at d)) (inr (refl, more d))
      (later-both ((at d).keys.token, ahead_of ahead (at d).used) (pair_of old.store.covered keygroup)).0) (lower-same-as _ _ (sym (saved.pairs keygroup within d)));
}
  where
    at : SenderState → SenderState
    at d = get_or old.senders.items keygroup d

    more : (d : SenderState) → (at d).used ≤ ahead_of ahead (at d).used
    more d = let most = (saved.publisher.senders_are keygroup d within).used in omega (arith, most)

-- ---- stores over calls

store-by : (call : Call) (old new : Publisher) → IsCalled call old new → IsStore old.store → IsStore new.store
store-by (Came now next) old new is store = subst IsStore (sym is.store) store
store-by (Renewed keygroup sets) old new is store = subst IsStore (sym (ap (λ (p : Publisher). p.store) is.rest)) store
store-by (Resumed keygroup now used sets) old new is store = subst IsStore (sym (ap (λ (p : Publisher). p.store) is.rest)) store
store-by (Saved ahead bytes) old new is store = λ none. absurd (none-some _ (sym none ∙ ap (λ (p : Publisher). p.store.saved) is.rest))
store-by Stored old new is store = λ none. ap (λ (p : Publisher). p.store.covered) is ∙ sym (ap (λ (p : Publisher). p.store.saved) is) ∙ none
store-by (Restored now state) old new is store = λ none. absurd (none-some _ (sym none ∙ ap (λ (p : Publisher). p.store.saved) is.rest))
store-by Other old new is store = subst IsStore (sym is.store) store

pub store-kept : (calls : List Call) (old new : Publisher) → AreCalled calls old new → IsStore old.store → IsStore new.store
store-kept [] old new are store = subst IsStore (sym (ap (λ (p : Publisher). p.store) are)) store
store-kept (call ∷ calls) old new are store = store-kept calls are.0 new are.1.1 (store-by call old are.0 are.1.0 store)

-- something was saved
abbrev HasSome : Option SavedState → Type 0
HasSome None = ⊥
HasSome (Some saved) = Unit {0}

-- calls that tell nothing of the store leave what is in it, and what was saved is there
some-by : (call : Call) (old new : Publisher) → LeavesCovered call → IsCalled call old new → HasSome old.store.saved → HasSome new.store.saved × (new.store.covered ≡ old.store.covered)
some-by (Came now next) old new leaves is some = (subst (λ (s : Store). HasSome s.saved) (sym is.store) some, ap (λ (s : Store). s.covered) is.store)
some-by (Renewed keygroup sets) old new leaves is some =
    let same : new.store ≡ old.store = ap (λ (p : Publisher). p.store) is.rest in
    (subst (λ (s : Store). HasSome s.saved) (sym same) some, ap (λ (s : Store). s.covered) same)
some-by (Resumed keygroup now used sets) old new leaves is some =
    let same : new.store ≡ old.store = ap (λ (p : Publisher). p.store) is.rest in
    (subst (λ (s : Store). HasSome s.saved) (sym same) some, ap (λ (s : Store). s.covered) same)
some-by (Saved ahead bytes) old new leaves is some =
    (subst HasSome (sym (ap (λ (p : Publisher). p.store.saved) is.rest)) tt, ap (λ (p : Publisher). p.store.covered) is.rest)
some-by Stored old new leaves is some = absurd leaves
some-by (Restored now state) old new leaves is some = absurd leaves
some-by Other old new leaves is some = (subst (λ (s : Store). HasSome s.saved) (sym is.store) some, ap (λ (s : Store). s.covered) is.store)

some-kept : (calls : List Call) (old new : Publisher) → All LeavesCovered calls → AreCalled calls old new → HasSome old.store.saved
    → HasSome new.store.saved × (new.store.covered ≡ old.store.covered)
some-kept [] old new leave are some = (subst (λ (p : Publisher). HasSome p.store.saved) (sym are) some, ap (λ (p : Publisher). p.store.covered) are)
some-kept (call ∷ calls) old new leave are some =
    let one = some-by call old are.0 (leave 0 call (omega arith)) are.1.0 some in
    let rest = some-kept calls are.0 new (λ k d within. leave (suc k) d (omega (arith, within))) are.1.1 one.0 in
    (rest.0, rest.1 ∙ one.1)

-- ---- what may be found in the store

-- the key group's standing, as a pair
abbrev standing : ℕ → Publisher → ℕ × ℕ
standing keygroup publisher = ((get_or publisher.senders.items keygroup no_sender).keys.token, (get_or publisher.senders.items keygroup no_sender).used)

never-standing : (keygroup : ℕ) (old new : Publisher) → FallBackNever old.senders.items new.senders.items → IsNoLower (standing keygroup old) (standing keygroup new)
never-standing keygroup old new never = never-at old.senders.items new.senders.items keygroup no_sender never

never-count : (old new : List SenderState) → FallBackNever old new → length new ≡ length old
never-count [] [] never = refl
never-count [] (y ∷ new) never = absurd never
never-count (x ∷ old) [] never = absurd never
never-count (x ∷ old) (y ∷ new) never = ap suc (never-count old new never.1)

-- a number of the key group that is released is in what is in store
covered-in : (keygroup : ℕ) (sender : SenderState) (covered : Option SavedState) → IsCovered keygroup sender covered → IsNoLower (sender.keys.token, sender.used) (pair_of covered keygroup)
covered-in keygroup sender None is = absurd is
covered-in keygroup sender (Some saved) is = is

released-in : (keygroup : ℕ) (publisher : Publisher) → HasSome publisher.store.saved → IsReleased keygroup publisher → IsNoLower (standing keygroup publisher) (pair_of publisher.store.covered keygroup)
released-in keygroup publisher some (inl none) = absurd (subst HasSome none some)
released-in keygroup publisher some (inr covered) = covered-in keygroup (get_or publisher.senders.items keygroup no_sender) publisher.store.covered (covered no_sender)

in-store : (keygroup : ℕ) (state : StoredState) (publisher : Publisher) (covered : Option SavedState) → publisher.store.covered ≡ covered → IsStore publisher.store → IsInStore state covered
    → IsReleased keygroup publisher → IsNoLower (standing keygroup publisher) (pair_in state.words keygroup)
in-store keygroup state publisher None same store is released = absurd is
in-store keygroup state publisher (Some saved) same store is (inl none) = absurd (none-some saved (sym (store none) ∙ same))
in-store keygroup state publisher (Some saved) same store is (inr covered) =
    let sender = get_or publisher.senders.items keygroup no_sender in
    let lower : IsNoLower (sender.keys.token, sender.used) (pair_in saved.state.words keygroup) = subst (IsCovered keygroup sender) same (covered no_sender) in
    subst (λ (s : StoredState). IsNoLower (sender.keys.token, sender.used) (pair_in s.words keygroup)) is lower

found-no-lower : (keygroup : ℕ) (state : StoredState) (publisher : Publisher) → keygroup < length publisher.senders.items → IsStore publisher.store → IsReleased keygroup publisher
    → MayBeFound state publisher → IsNoLower (standing keygroup publisher) (pair_in state.words keygroup)
found-no-lower keygroup state publisher within store released (inl is) = in-store keygroup state publisher publisher.store.covered refl store is released
found-no-lower keygroup state publisher within store released (inr (inl before)) =
    let saved = before.saved in
    let kept = some-kept before.calls before.next publisher before.untold before.called (subst HasSome (sym (ap (λ (p : Publisher). p.store.saved) saved.rest)) tt) in
    let covered : publisher.store.covered ≡ before.earlier.store.covered = kept.1 ∙ ap (λ (p : Publisher). p.store.covered) saved.rest in
    let count : length publisher.senders.items ≡ length before.earlier.senders.items =
    never-count before.next.senders.items publisher.senders.items (never-falls before.calls before.next publisher before.called)
    ∙ ap (λ (p : Publisher). length p.senders.items) saved.rest in
    let saves = saves-no-lower before.ahead before.earlier before.next before.bytes saved keygroup (omega (arith, within, count)) in
    subst (λ (s : StoredState). IsNoLower (standing keygroup publisher) (pair_in s.words keygroup)) before.same
    (lower-lower (standing keygroup publisher) (pair_of before.earlier.store.covered keygroup) (pair_in saved.state.words keygroup)
    (subst (λ (o : Option SavedState). IsNoLower (standing keygroup publisher) (pair_of o keygroup)) covered (released-in keygroup publisher kept.0 released)) saves.covered)
found-no-lower keygroup state publisher within store released (inr (inr after)) =
    let never = never-falls after.calls publisher after.later after.called in
    let count = never-count publisher.senders.items after.later.senders.items never in
    let saves = saves-no-lower after.ahead after.later after.last after.bytes after.saved keygroup (omega (arith, within, count)) in
    subst (λ (s : StoredState). IsNoLower (standing keygroup publisher) (pair_in s.words keygroup)) after.same
    (lower-lower (standing keygroup publisher) (standing keygroup after.later) (pair_in after.saved.state.words keygroup) (never-standing keygroup publisher after.later never) (saves.used no_sender))

-- ---- what is restored

-- under the token of a set that isn't earlier, the numbers that are passed over leave none behind
passed-by : (pair : ℕ × ℕ) (token : ℕ) → pair.0 ≤ token → ((token == pair.0) ≡ true) × (token ≡ pair.0) ⊎ ((token == pair.0) ≡ false) × (token ≢ pair.0)
    → IsNoLower pair (token, passed_over pair token)
passed-by pair token low (inl same) =
    subst (λ (b : Bool). IsNoLower pair (token, if b then pair.1 else 0)) (sym same.0) (inr (sym same.1, omega arith))
passed-by pair token low (inr other) = let apart = other.1 in inl (omega (arith, low, apart))

resumed-standing : (part : KeyGroupPart) (sets : List KeySet) (now used : ℕ) (set : KeySet) (sender : SenderState) → current sets now ≡ Some set → IsResumed part sets now used sender
    → (sender.keys.token ≡ set.token) × (sender.used ≡ used)
resumed-standing part sets now used set sender is resumed =
    let keys : keys_in set ≡ sender.keys = same_Some (keys_in set) sender.keys (sym (ap (option_map keys_in) is) ∙ resumed.keys) in
    (sym (ap (λ (k : TokenKeys). k.token) keys), resumed.used_is)

some-part : (parts : List KeyGroupPart) (k : ℕ) → k < length parts → KeyGroupPart
some-part [] k low = absurd (omega (arith, low))
some-part (part ∷ parts) k low = part

gone-standing : (now keygroup : ℕ) (pair : ℕ × ℕ) (old new : Publisher) → keygroup < length old.senders.items → (gone : HasGoneOn now keygroup pair old new (get_or old.senders.items keygroup no_sender)) → pair.0 ≤ gone.set.token
    → IsNoLower pair (standing keygroup new)
gone-standing now keygroup pair old new within gone low = by_case gone.is
  where
    sender : SenderState
    sender = get_or old.senders.items keygroup no_sender

    used : ℕ
    used = passed_over pair gone.set.token

    behind_pair : IsNoLower pair (gone.set.token, used)
    behind_pair = passed-by pair gone.set.token low (eqb_tells gone.set.token pair.0)

    stands : (part : KeyGroupPart) (s : SenderState) → IsResumed part sender.sets now used s → IsNoLower pair (s.keys.token, s.used)
    stands part s resumed =
        let is = resumed-standing part sender.sets now used gone.set s gone.current_is resumed in
        subst (λ (token : ℕ). IsNoLower pair (token, s.used)) (sym is.0) (subst (λ (n : ℕ). IsNoLower pair (gone.set.token, n)) (sym is.1) behind_pair)

    part : KeyGroupPart
    part = some-part old.config.keygroup keygroup gone.there

    by_case : IsBehind keygroup now used sender.sets old new
        ⊎ (HoldsAt (λ (p : KeyGroupPart). WouldRepeat p sender.sets now used sender) old.config.keygroup keygroup × (new ≡ old)) → IsNoLower pair (standing keygroup new)
    by_case (inl behind) = stands (get_or old.config.keygroup keygroup part) (get_or new.senders.items keygroup no_sender) (behind.is_resumed part no_sender)
    by_case (inr stays) =
        let repeats = stays.0 part in
        subst (λ (p : Publisher). IsNoLower pair (standing keygroup p)) (sym stays.1)
        (lower-lower pair (repeats.resumed.keys.token, repeats.resumed.used) (sender.keys.token, sender.used)
        (stands (get_or old.config.keygroup keygroup part) repeats.resumed repeats.is)
        (lower-total (sender.keys.token, sender.used) (repeats.resumed.keys.token, repeats.resumed.used) repeats.repeats))

-- senders from this place on stay as those in front of them go on
gone-stay : (now count : ℕ) (words : List ℕ) (old new : Publisher) (keygroup : ℕ) (d : SenderState) → count ≤ keygroup → HaveGoneOn now count words old new
    → get_or new.senders.items keygroup d ≡ get_or old.senders.items keygroup d
gone-stay now zero words old new keygroup d low have = ap (λ (p : Publisher). get_or p.senders.items keygroup d) have
gone-stay now (suc count) words old new keygroup d low (mid, (have, step)) =
    by_case ((step no_sender).is) ∙ gone-stay now count words old mid keygroup d (omega (arith, low)) have
  where
    sender : SenderState
    sender = get_or mid.senders.items count no_sender

    by_case : IsBehind count now (passed_over (pair_in words count) (step no_sender).set.token) sender.sets mid new
        ⊎ (HoldsAt (λ (p : KeyGroupPart). WouldRepeat p sender.sets now (passed_over (pair_in words count) (step no_sender).set.token) sender) mid.config.keygroup count × (new ≡ mid))
        → get_or new.senders.items keygroup d ≡ get_or mid.senders.items keygroup d
    by_case (inl behind) =
        let differs : keygroup ≢ count = λ same. absurd (omega (arith, low, same)) in
        ap (λ (l : List SenderState). get_or l keygroup d) (behind.others d) ∙ get_or-set_other mid.senders.items count keygroup (get_or new.senders.items count d) d differs
    by_case (inr stays) = ap (λ (p : Publisher). get_or p.senders.items keygroup d) stays.1

timely-token : (now : ℕ) (pair : ℕ × ℕ) (sets : List KeySet) (set : KeySet) → ¬ IsEarlier now pair.0 sets → current sets now ≡ Some set → pair.0 ≤ set.token
timely-token now pair sets set timely is = by_token (cases_lt set.token pair.0)
  where
    by_token : (set.token < pair.0) ⊎ (pair.0 ≤ set.token) → pair.0 ≤ set.token
    by_token (inl less) = absurd (timely (record { set = set; is = is; earlier = less }))
    by_token (inr more) = more

-- the sender whose turn it is to go on
gone-here : (now count : ℕ) (words : List ℕ) (old mid new : Publisher) → count < length old.senders.items → ¬ IsEarlier now (pair_in words count).0 (get_or old.senders.items count no_sender).sets
    → HaveGoneOn now count words old mid → HasGoneOn now count (pair_in words count) mid new (get_or mid.senders.items count no_sender) → IsNoLower (pair_in words count) (standing count new)
gone-here now count words old mid new within timely have gone =
    let same : get_or mid.senders.items count no_sender ≡ get_or old.senders.items count no_sender = gone-stay now count words old mid count no_sender (omega arith) have in
    let current_is : current (get_or old.senders.items count no_sender).sets now ≡ Some gone.set = ap (λ (s : SenderState). current s.sets now) (sym same) ∙ gone.current_is in
    let never = gone-all-less now count words old mid have in
    gone-standing now count (pair_in words count) mid new (omega (arith, within, never-count old.senders.items mid.senders.items never)) gone
    (timely-token now (pair_in words count) (get_or old.senders.items count no_sender).sets gone.set timely current_is)

gone-by : (now count : ℕ) (words : List ℕ) (old mid new : Publisher) (keygroup : ℕ) → (keygroup ≡ count) ⊎ (keygroup ≡ count → ⊥) → keygroup < suc count → keygroup < length old.senders.items
    → ¬ IsEarlier now (pair_in words keygroup).0 (get_or old.senders.items keygroup no_sender).sets → HaveGoneOn now count words old mid
    → HasGoneOn now count (pair_in words count) mid new (get_or mid.senders.items count no_sender) → (keygroup < count → IsNoLower (pair_in words keygroup) (standing keygroup mid))
    → IsNoLower (pair_in words keygroup) (standing keygroup new)
gone-by now count words old mid new keygroup (inl here) low within timely have gone before =
    subst (λ (n : ℕ). IsNoLower (pair_in words n) (standing n new)) (sym here)
    (gone-here now count words old mid new (omega (arith, within, here)) (subst (λ (n : ℕ). ¬ IsEarlier now (pair_in words n).0 (get_or old.senders.items n no_sender).sets) here timely) have gone)
gone-by now count words old mid new keygroup (inr differs) low within timely have gone before =
    lower-lower (pair_in words keygroup) (standing keygroup mid) (standing keygroup new) (before (omega (arith, low, differs)))
    (never-standing keygroup mid new (gone-less now count (pair_in words count) mid new (get_or mid.senders.items count no_sender) gone))

gone-on : (now count : ℕ) (words : List ℕ) (old new : Publisher) (keygroup : ℕ) → keygroup < count → keygroup < length old.senders.items
    → ¬ IsEarlier now (pair_in words keygroup).0 (get_or old.senders.items keygroup no_sender).sets → HaveGoneOn now count words old new → IsNoLower (pair_in words keygroup) (standing keygroup new)
gone-on now zero words old new keygroup low within timely have = absurd (omega (arith, low))
gone-on now (suc count) words old new keygroup low within timely (mid, (have, step)) =
    gone-by now count words old mid new keygroup (cases_eq keygroup count) low within timely have (step no_sender) (λ less. gone-on now count words old mid keygroup less within timely have)

pub restored-no-lower : (now : ℕ) (state : StoredState) (old new : Publisher) (keygroup : ℕ) → keygroup < length old.senders.items → HasRestored now state old new
    → IsNoLower (pair_in state.words keygroup) (standing keygroup new)
restored-no-lower now state old new keygroup within has =
    let begun : has.begun.senders.items ≡ old.senders.items = begun-senders 64 state.words old has.begun has.numbers in
    let timely : ¬ IsEarlier now (pair_in state.words keygroup).0 (get_or has.begun.senders.items keygroup no_sender).sets =
    subst (λ (l : List SenderState). ¬ IsEarlier now (pair_in state.words keygroup).0 (get_or l keygroup no_sender).sets) (sym begun) (has.no_later keygroup within no_sender) in
    let gone : IsNoLower (pair_in state.words keygroup) (standing keygroup has.gone) =
    gone-on now (length old.senders.items) state.words has.begun has.gone keygroup within
    (omega (arith, within, ap (λ (l : List SenderState). length l) begun)) timely has.senders in
    subst (λ (l : List SenderState). IsNoLower (pair_in state.words keygroup) ((get_or l keygroup no_sender).keys.token, (get_or l keygroup no_sender).used))
    (sym (ap (λ (p : Publisher). p.senders.items) has.rest)) gone

-- ---- numbers of both lives

-- a number that is given is of a key group that is there
given-within : (keygroup now : ℕ) (old new : List SenderState) (pair : ℕ × ℕ) → HoldsAt (λ was. HoldsAt (IsGiven now pair was) new keygroup) old keygroup → keygroup < length new
unfolding no_sender
given-within keygroup now old new pair gives = by_place (cases_lt keygroup (length new))
  where
    by_place : (keygroup < length new) ⊎ (length new ≤ keygroup) → keygroup < length new
    by_place (inl low) = low
    by_place (inr past) =
        let given = gives no_sender no_sender in
        let used : pair.1 ≤ 0 = subst (λ (s : SenderState). pair.1 ≤ s.used) (get_or_past new keygroup no_sender past) given.used in
        let follows = given.follows in
        absurd (omega (arith, used, follows))

-- the sender that takes it is there too
taken-within : (keygroup now : ℕ) (old new : List SenderState) (pair : ℕ × ℕ) → HoldsAt (λ was. HoldsAt (IsGiven now pair was) new keygroup) old keygroup → keygroup < length old
unfolding no_sender
taken-within keygroup now old new pair gives = by_place (cases_lt keygroup (length old))
  where
    other : SenderState
    other = record no_sender { used = pair.1 }

    by_place : (keygroup < length old) ⊎ (length old ≤ keygroup) → keygroup < length old
    by_place (inl low) = low
    by_place (inr past) =
        let follows = (gives other no_sender).follows in
        let less : pair.1 < pair.1 = subst (λ (s : SenderState). (turned s now).used < pair.1) (get_or_past old keygroup other past) follows in
        absurd (omega (arith, less))

pub restored-others : (keygroup : ℕ) (first : Call) (calls others : List Call) (last : Call) → RestoredGiveOthers keygroup first calls others last
restored-others keygroup (Came now next) calls others (Came at after) = λ begins state one two three begun four five six pair other store called gives between released found has more again.
    let given = gives no_sender no_sender in
    let taken = again no_sender no_sender in
    let never = never-falls calls two three between in
    let two_within : keygroup < length two.senders.items = given-within keygroup now one.senders.items two.senders.items pair gives in
    let three_within : keygroup < length three.senders.items = omega (arith, two_within, never-count two.senders.items three.senders.items never) in
    let all_called : AreCalled (Came now next ∷ calls) one three = (two, (called, between)) in
    let three_store : IsStore three.store = store-kept (Came now next ∷ calls) one three all_called store in
    let four_never = restored-less begins state begun four has in
    let five_never = never-falls others four five more in
    let five_within : keygroup < length five.senders.items = taken-within keygroup at five.senders.items six.senders.items other again in
    let begun_within : keygroup < length begun.senders.items =
    omega (arith, five_within, never-count four.senders.items five.senders.items five_never, never-count begun.senders.items four.senders.items four_never) in
    let was = get_or five.senders.items keygroup no_sender in
    let last_pair : ℕ × ℕ = ((turned was at).keys.token, (turned was at).used) in
    let one_to_state : IsNoLower (standing keygroup two) (pair_in state.words keygroup) =
    lower-lower (standing keygroup two) (standing keygroup three) (pair_in state.words keygroup) (never-standing keygroup two three never)
    (found-no-lower keygroup state three three_within three_store released found) in
    let state_to_five : IsNoLower (pair_in state.words keygroup) (standing keygroup five) =
    lower-lower (pair_in state.words keygroup) (standing keygroup four) (standing keygroup five) (restored-no-lower begins state begun four keygroup begun_within has)
    (never-standing keygroup four five five_never) in
    apart (get_or two.senders.items keygroup no_sender) (turned was at) pair other
    (lower-lower (standing keygroup two) (standing keygroup five) last_pair
    (lower-lower (standing keygroup two) (pair_in state.words keygroup) (standing keygroup five) one_to_state state_to_five) (turned-less at was))
    given.token given.used taken.turned_token taken.follows
restored-others keygroup (Came now next) calls others (Renewed k sets) = λ begins state one two three begun four five six pair other store called gives between released found has more again. absurd again
restored-others keygroup (Came now next) calls others (Resumed k at used sets) = λ begins state one two three begun four five six pair other store called gives between released found has more again. absurd again
restored-others keygroup (Came now next) calls others (Saved ahead bytes) = λ begins state one two three begun four five six pair other store called gives between released found has more again. absurd again
restored-others keygroup (Came now next) calls others Stored = λ begins state one two three begun four five six pair other store called gives between released found has more again. absurd again
restored-others keygroup (Came now next) calls others (Restored at s) = λ begins state one two three begun four five six pair other store called gives between released found has more again. absurd again
restored-others keygroup (Came now next) calls others Other = λ begins state one two three begun four five six pair other store called gives between released found has more again. absurd again
restored-others keygroup (Renewed k sets) calls others last = λ begins state one two three begun four five six pair other store called gives between released found has more again. absurd gives
restored-others keygroup (Resumed k at used sets) calls others last = λ begins state one two three begun four five six pair other store called gives between released found has more again. absurd gives
restored-others keygroup (Saved ahead bytes) calls others last = λ begins state one two three begun four five six pair other store called gives between released found has more again. absurd gives
restored-others keygroup Stored calls others last = λ begins state one two three begun four five six pair other store called gives between released found has more again. absurd gives
restored-others keygroup (Restored at s) calls others last = λ begins state one two three begun four five six pair other store called gives between released found has more again. absurd gives
restored-others keygroup Other calls others last = λ begins state one two three begun four five six pair other store called gives between released found has more again. absurd gives
