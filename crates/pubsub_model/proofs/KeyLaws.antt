-- When key frames come.
use Rattle.std.proofs.Common.{◌≡◌, ◌≢◌, ◌<◌, ◌≤◌, refl, sym, ap, ◌∙◌, arith, ℕ, zero, suc, ◌+◌, ◌-◌, Bool, true, false, not, ◌&&◌, ◌||◌, cond, List, [], ◌∷◌, ◌++◌, length, take, drop, Option, Some, None}
use Rattle.std.specs.Prelude.{All, nat_le, ◌==◌}
use Rattle.std.specs.List.{position_or_len, list_any}
use Rattle.std.proofs.lemmas.Bool.Decides.{nat_tests}
use Rattle.std.proofs.lemmas.List.Elements.{All-head, All-tail}
use Rattle.std.proofs.lemmas.List.{length-drop}
use Rattle.dataset_meta.specs.DataValues.{DataValue}
use Rattle.dataset_meta.specs.Rows.{differs}
use Rattle.pubsub_model.specs.Frames.{PlacedFrame, Whole, Alive}
use Rattle.pubsub_model.specs.Cadence.{Settings, WriterTurn, Answered, WriterDeed, Refreshed, HadTurn, cadence, answer, change_answer, is_key, is_key_due, is_data, is_any, is_fresh, last_turn, next_place, turns_since, HasKeyBehind}

-- ---- the first that passes a test

first_cons : {X : Type 0} (p : X → Bool) (x : X) (xs : List X) (b : Bool) → p x ≡ b → position_or_len p (x ∷ xs) ≡ cond b 0 (position_or_len p xs + 1)
first_cons p x xs true is = rw is refl
first_cons p x xs false is = rw is (omega arith)

first_at_most : {X : Type 0} (p : X → Bool) (x : X) (xs : List X) (b : Bool) → p x ≡ b → position_or_len p (x ∷ xs) ≤ position_or_len p xs + 1
first_at_most p x xs true is = omega (arith, first_cons p x xs true is)
first_at_most p x xs false is = omega (arith, first_cons p x xs false is)

first_after : {X : Type 0} (p : X → Bool) (front : List X) (x : X) (xs : List X) → All (λ y. p y ≡ false) front → p x ≡ true → position_or_len p (front ++ x ∷ xs) ≡ length front
first_after p [] x xs none is = first_cons p x xs true is
first_after p (y ∷ front) x xs none is =
    let rest = first_after p front x xs (All-tail (λ z. p z ≡ false) y front none) is in
    first_cons p y (front ++ x ∷ xs) false (All-head (λ z. p z ≡ false) y front none) ∙ omega (arith, rest)

any_cons : {X : Type 0} (p : X → Bool) (x : X) (xs : List X) (k : ℕ) (b : Bool) → p x ≡ b → (b ≡ false → list_any p (take k xs) ≡ true) → list_any p (x ∷ take k xs) ≡ true
any_cons p x xs k true is more = rw is refl
any_cons p x xs k false is more = rw is (more refl)

-- where the first that passes is among the first k, and there are so many
any_taken : {X : Type 0} (p : X → Bool) (xs : List X) (k : ℕ) → position_or_len p xs < k → k ≤ length xs → list_any p (take k xs) ≡ true
any_taken p [] k first few = absurd (omega (arith, first, few))
any_taken p (x ∷ xs) zero first few = absurd (omega (arith, first))
any_taken p (x ∷ xs) (suc k) first few =
    any_cons p x xs k (p x) refl (λ not_this. any_taken p xs k (omega (arith, first, first_cons p x xs false not_this)) (omega (arith, few)))

-- ---- a key frame that is due

due_in_time : (fresh closing : Bool) (count since : ℕ) → count ≤ since → (fresh || closing || nat_le count since) ≡ true
due_in_time true closing count since late = refl
due_in_time false true count since late = refl
due_in_time false false count since late = grind (arith, nat_tests, late)

not_due : (fresh closing : Bool) (count since : ℕ) → fresh ≡ false → closing ≡ false → since < count → (fresh || closing || nat_le count since) ≡ false
not_due fresh closing count since not_fresh not_closing early = rw (not_fresh, not_closing) (grind (arith, nat_tests, early))

due_soon : (fresh closing : Bool) (count since : ℕ) → (fresh || closing || nat_le count since) ≡ false → since < count
due_soon true closing count since e = absurd cc
due_soon false true count since e = absurd cc
due_soon false false count since e = grind (arith, nat_tests, e)

-- the turns since the key frame that stands behind
since_key : (since answered : List Answered) → HasKeyBehind since answered → turns_since is_key answered ≡ length since + 1
since_key since answered has =
    ap (λ (list : List Answered). position_or_len is_key list + 1) has.split ∙ ap (λ (n : ℕ). n + 1) (first_after is_key since has.key has.before has.none_since has.is_key_frame)

pub key-next : (s : Settings) (deeds : List WriterDeed) (turn : WriterTurn) (since : List Answered) → HasKeyBehind since (cadence s deeds) → length since + 1 ≡ s.key_frame_count
    → answer s (is_fresh deeds) (cadence s deeds) turn ≡ Some (Whole (next_place s (cadence s deeds)) turn.row)
key-next s deeds turn since has count =
    let before = cadence s deeds in
    ap (λ (due : Bool). cond due (Some (Whole (next_place s before) turn.row)) (change_answer s before turn (differs (last_turn is_data before).row turn.row)))
    (due_in_time (is_fresh deeds) turn.closing s.key_frame_count (turns_since is_key before) (omega (arith, count, since_key since before has)))

quiet_no_key : (due : Bool) (next place : ℕ) (row : List DataValue) → cond due (Some (Alive next)) None ≢ Some (Whole place row)
quiet_no_key true next place row e = cc
quiet_no_key false next place row e = cc

change_no_key : (s : Settings) (before : List Answered) (turn : WriterTurn) (patch : List (ℕ × DataValue)) (place : ℕ) (row : List DataValue) → change_answer s before turn patch ≢ Some (Whole place row)
change_no_key s before turn [] place row =
    quiet_no_key (not (s.keep_alive == 0) && nat_le s.keep_alive (turn.moment - (last_turn is_any before).moment)) (next_place s before) place row
change_no_key s before turn (change ∷ patch) place row = λ e. cc

pub key-not-sooner : (s : Settings) (deeds : List WriterDeed) (turn : WriterTurn) (since : List Answered) (place : ℕ) (row : List DataValue) → HasKeyBehind since (cadence s deeds)
    → length since + 1 < s.key_frame_count → is_fresh deeds ≡ false → turn.closing ≡ false → answer s (is_fresh deeds) (cadence s deeds) turn ≢ Some (Whole place row)
key-not-sooner s deeds turn since place row has early not_fresh not_closing e =
    let before = cadence s deeds in
    let patch = differs (last_turn is_data before).row turn.row in
    let due = not_due (is_fresh deeds) turn.closing s.key_frame_count (turns_since is_key before) not_fresh not_closing (omega (arith, early, since_key since before has)) in
    change_no_key s before turn patch place row
    (sym (ap (λ (b : Bool). cond b (Some (Whole (next_place s before) turn.row)) (change_answer s before turn patch)) due) ∙ e)

-- ---- in every list of turns

key_answer : (due : Bool) (turn : WriterTurn) (place : ℕ) (other : Option PlacedFrame) → due ≡ true → is_key (record { turn = turn; answer = cond due (Some (Whole place turn.row)) other }) ≡ true
key_answer due turn place other is = rw is refl

-- the last key frame is fewer turns ago than the key frame count
recent_by : (s : Settings) (turn : WriterTurn) (deeds : List WriterDeed) (due : Bool) → 1 ≤ s.key_frame_count → is_key_due s (is_fresh deeds) (cadence s deeds) turn ≡ due
    → position_or_len is_key (cadence s (HadTurn turn ∷ deeds)) < s.key_frame_count
recent_by s turn deeds true some is =
    let before = cadence s deeds in
    let now : Answered = record { turn = turn; answer = answer s (is_fresh deeds) before turn } in
    let key = key_answer (is_key_due s (is_fresh deeds) before turn) turn (next_place s before) (change_answer s before turn (differs (last_turn is_data before).row turn.row)) is in
    omega (arith, some, first_cons is_key now before true key)
recent_by s turn deeds false some is =
    let before = cadence s deeds in
    let now : Answered = record { turn = turn; answer = answer s (is_fresh deeds) before turn } in
    omega (arith, first_at_most is_key now before (is_key now) refl, due_soon (is_fresh deeds) turn.closing s.key_frame_count (turns_since is_key before) is)

recent : (s : Settings) (deeds : List WriterDeed) → 1 ≤ s.key_frame_count → position_or_len is_key (cadence s deeds) < s.key_frame_count
recent s [] some = omega (arith, some)
recent s (Refreshed ∷ before) some = recent s before some
recent s (HadTurn turn ∷ before) some = recent_by s turn before (is_key_due s (is_fresh before) (cadence s before) turn) some refl

-- the turns without the latest are the turns of earlier deeds
record HasDeeds (s : Settings) (answered : List Answered) : Type 0 where
  deeds : List WriterDeed
  is : answered ≡ cadence s deeds

earlier : (s : Settings) (deeds : List WriterDeed) (later : ℕ) → HasDeeds s (drop later (cadence s deeds))
earlier s [] later = record { deeds = []; is = drop_none later }
  where
    drop_none : (n : ℕ) → drop n [] ≡ cadence s []
    drop_none zero = refl
    drop_none (suc n) = refl
earlier s (Refreshed ∷ before) later = earlier s before later
earlier s (HadTurn turn ∷ before) zero = record { deeds = HadTurn turn ∷ before; is = refl }
earlier s (HadTurn turn ∷ before) (suc later) = earlier s before later

pub key-often : (s : Settings) (deeds : List WriterDeed) (later : ℕ) → 1 ≤ s.key_frame_count → later + s.key_frame_count ≤ length (cadence s deeds)
    → list_any is_key (take s.key_frame_count (drop later (cadence s deeds))) ≡ true
key-often s deeds later some enough =
    let e = earlier s deeds later in
    let first = ap (position_or_len is_key) e.is in
    any_taken is_key (drop later (cadence s deeds)) s.key_frame_count (omega (arith, first, recent s e.deeds some)) (omega (arith, enough, length-drop later (cadence s deeds)))
