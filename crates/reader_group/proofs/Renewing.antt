-- A read group that rings renew.
use Rattle.std.proofs.Common.{◌≡◌, ◌≢◌, ℕ, Bool, true, refl, sym, ap, ◌∙◌, subst, List, [], ◌∷◌, map}
use Rattle.std.specs.Prelude.{AllPairs, Result, Ok, Err}
use Rattle.message_guard.specs.declared.keys.TokenKeys.{TokenKeys}
use Rattle.message_guard.specs.declared.mode.Mode.{Mode}
use Rattle.message_guard.specs.declared.pass.Pass1.{Pass1}
use Rattle.message_guard.specs.Acceptance.{Accepted, AreAcceptableCalls, GuardCall, Accepts, accepted_in, is_acceptable, keys_now}
use Rattle.message_guard.specs.Acceptance as guard
use Rattle.message_guard.specs.Modes.{is_secured}
use Rattle.message_guard.specs.Opening.{accepts}
use Rattle.message_guard.proofs.Once.{called_once}
use Rattle.reader_group.specs.declared.refusal.Refusal.{Refusal}
use Rattle.reader_group.specs.Opening.{Opened}
use Rattle.reader_group.specs.Plain.{Setting, PlainGroup, Event, Got, Expired, Stopped, plain, step, taken_on, verdict_in}
use Rattle.reader_group.specs.Renewing.{GroupCall, Befalls, Renews, IsPlain, TakesNoPairTwice, reading, setting_after}
use Rattle.reader_group.proofs.Stretches.{verdict-acceptable}

unrenewed-setting : (setting : Setting) (events : List Event) → setting_after setting (map Befalls events) ≡ setting
unrenewed-setting setting [] = refl
unrenewed-setting setting (event ∷ before) = unrenewed-setting setting before

unrenewed-reading : (setting : Setting) (events : List Event) → reading setting (map Befalls events) ≡ plain setting events
unrenewed-reading setting [] = refl
unrenewed-reading setting (event ∷ before) =
    ap (λ (s : Setting). step s (reading setting (map Befalls before)) event) (unrenewed-setting setting before)
    ∙ ap (λ (group : PlainGroup). step setting group event) (unrenewed-reading setting before)

pub unrenewed-is-plain : (setting : Setting) (events : List Event) → IsPlain setting events
unrenewed-is-plain setting events = record { setting_is = unrenewed-setting setting events; reading_is = unrenewed-reading setting events }

-- ---- the pairs that its guard accepts

abbrev came : Result Opened Refusal → List GuardCall → List GuardCall
came (Err refusal) calls = calls
came (Ok opened) calls = Accepts (opened.pass.token, opened.pass.number) ∷ calls

-- what befalls the guard
abbrev guard_calls : Setting → List GroupCall → List GuardCall
guard_calls setting [] = []
guard_calls setting (Befalls (Got moment on datagram) ∷ before) =
    came (verdict_in (setting_after setting before) (reading setting before) datagram) (guard_calls setting before)
guard_calls setting (Befalls (Expired moment) ∷ before) = guard_calls setting before
guard_calls setting (Befalls (Stopped reader why) ∷ before) = guard_calls setting before
guard_calls setting (Renews keys ∷ before) = guard.Renews keys ∷ guard_calls setting before

-- these calls befell the guard of a group that has these keys, and accepted these pairs, each when it was acceptable
record Guards (first : List TokenKeys) (keys : List TokenKeys) (accepted : Accepted) (calls : List GuardCall) : Type 0 where
  keys_are : keys_now first calls ≡ keys
  same : accepted_in calls ≡ accepted
  all : AreAcceptableCalls first calls

mode-after : (setting : Setting) (calls : List GroupCall) → (setting_after setting calls).setup.mode ≡ setting.setup.mode
mode-after setting [] = refl
mode-after setting (Befalls event ∷ before) = mode-after setting before
mode-after setting (Renews keys ∷ before) = refl

secured-accepts : (mode : Mode) (pass : Pass1) (accepted : Accepted) → is_secured mode ≡ true → accepts mode pass accepted ≡ (pass.token, pass.number) ∷ accepted
secured-accepts mode pass accepted secured = rw secured refl

guards-came : (first : List TokenKeys) (setting : Setting) (group : PlainGroup) (moment : ℕ) (on : List Bool) (datagram : List ℕ) (answer : Result Opened Refusal) (calls : List GuardCall)
    → is_secured setting.setup.mode ≡ true → verdict_in setting group datagram ≡ answer → Guards first setting.setup.keys group.accepted calls
    → Guards first setting.setup.keys (taken_on setting group moment on answer).accepted (came answer calls)
guards-came first setting group moment on datagram (Err refusal) calls secured is h = h
guards-came first setting group moment on datagram (Ok opened) calls secured is h =
    let acceptable = verdict-acceptable setting group.accepted datagram opened secured is in
    let pair : ℕ × ℕ = (opened.pass.token, opened.pass.number) in
    record {
      keys_are = h.keys_are;
      same = ap (λ (l : Accepted). pair ∷ l) h.same ∙ sym (secured-accepts setting.setup.mode opened.pass group.accepted secured);
      all = (
        ap (λ (keys : List TokenKeys). is_acceptable keys (accepted_in calls) pair.0 pair.1) h.keys_are
            ∙ ap (λ (accepted : Accepted). is_acceptable setting.setup.keys accepted pair.0 pair.1) h.same ∙ acceptable,
        h.all,
      );
    }

guards-all : (setting : Setting) (calls : List GroupCall) → is_secured setting.setup.mode ≡ true
    → Guards setting.setup.keys (setting_after setting calls).setup.keys (reading setting calls).accepted (guard_calls setting calls)
guards-all setting [] secured = record { keys_are = refl; same = refl; all = tt }
guards-all setting (Befalls (Got moment on datagram) ∷ before) secured =
    guards-came setting.setup.keys (setting_after setting before) (reading setting before) moment on datagram
    (verdict_in (setting_after setting before) (reading setting before) datagram) (guard_calls setting before)
    (ap is_secured (mode-after setting before) ∙ secured) refl (guards-all setting before secured)
guards-all setting (Befalls (Expired moment) ∷ before) secured =
    let h = guards-all setting before secured in record { keys_are = h.keys_are; same = h.same; all = h.all }
guards-all setting (Befalls (Stopped reader why) ∷ before) secured =
    let h = guards-all setting before secured in record { keys_are = h.keys_are; same = h.same; all = h.all }
guards-all setting (Renews keys ∷ before) secured =
    let h = guards-all setting before secured in record { keys_are = refl; same = h.same; all = h.all }

pub taken-once : (setting : Setting) (calls : List GroupCall) → TakesNoPairTwice setting calls
taken-once setting calls secured =
    let h = guards-all setting calls secured in
    subst (λ (accepted : Accepted). AllPairs (λ a b. a ≢ b) accepted) h.same (called_once setting.setup.keys (guard_calls setting calls) h.all)
