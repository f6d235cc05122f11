-- What a read group takes in a life: its reading there is the reading of the calls that befell it, renewals among them.
use Rattle.std.proofs.Common.{◌≡◌, refl, sym, ap, ◌∙◌, subst, arith, ℕ, ◌≤◌, Bool, true, false, not, ◌&&◌, List, [], ◌∷◌, ◌++◌, map, All, Result, Ok, Err}
use Rattle.std.specs.Prelude.{nat_lt, is_some}
use Rattle.std.proofs.lemmas.Bool.Decides.{nat_tests}
use Rattle.std.proofs.lemmas.List.Elements.{All-cons, All-nil, All-weaker}
use Rattle.std.proofs.lemmas.List.Kept.{AllPairs-cons}
use Rattle.replay_window.specs.Taken.{is_taken, is_too_old}
use Rattle.message_guard.specs.declared.keys.TokenKeys.{TokenKeys}
use Rattle.message_guard.specs.declared.mode.Mode.{Mode}
use Rattle.message_guard.specs.declared.pass.Pass1.{Pass1}
use Rattle.message_guard.specs.Acceptance.{Accepted, highest, is_acceptable, numbers_of}
use Rattle.message_guard.specs.Modes.{is_secured}
use Rattle.message_guard.specs.Opening.{accepts}
use Rattle.message_guard.specs.Protection.{keys_in, keys_with}
use Rattle.reader_group.specs.declared.refusal.Refusal.{Refusal}
use Rattle.reader_group.specs.Opening.{Opened}
use Rattle.reader_group.specs.Plain.{Setting, PlainGroup, Event, Got, Expired, Stopped, step, taken_on, verdict_in, with_keys}
use Rattle.reader_group.specs.Renewing.{GroupCall, Befalls, Renews, TakesNoPairTwice, reading as reading_by, setting_after}
use Rattle.reader_group.specs.Settings.{group_at, setting_of}
use Rattle.reader_group.proofs.Stretches.{verdict-acceptable}
use Rattle.ps_config.specs.declared.parts.Config.{Config}
use Rattle.session_model.specs.Lives.{Lived, Stepped, Renewed, account_in, befalls, steps_in}
use Rattle.session_model.specs.Readings.{Reading, goes_on, read_on, reads_with, rekeyed_if, setting_in}
use Rattle.session_model.specs.Steps.{Plan, Enable, Disable, Append, Tick, Pump}
use Rattle.session_laws.specs.Renewals.{AreDistinctPairs, TokensRise, taken_in_life}

-- ---- the calls

record HasCalls (setting : Setting) (reading : Reading) : Type 0 where
  calls : List GroupCall
  keys : setting_after setting calls ≡ with_keys setting reading.keys
  value : reading_by setting calls ≡ reading.value

same-setting : (setting : Setting) (calls : List GroupCall) (events : List Event) → setting_after setting (map Befalls events ++ calls) ≡ setting_after setting calls
same-setting setting calls [] = refl
same-setting setting calls (event ∷ before) = same-setting setting calls before

read-further : (setting now : Setting) (calls : List GroupCall) (value : PlainGroup) (events : List Event) → setting_after setting calls ≡ now → reading_by setting calls ≡ value
    → reading_by setting (map Befalls events ++ calls) ≡ read_on now value events
read-further setting now calls value [] keys is = is
read-further setting now calls value (event ∷ before) keys is =
    ap (λ (s : Setting). step s (reading_by setting (map Befalls before ++ calls)) event) (same-setting setting calls before ∙ keys)
    ∙ ap (λ (group : PlainGroup). step now group event) (read-further setting now calls value before keys is)

further : (config : Config) (r : ℕ) (reading : Reading) (events : List Event) → HasCalls (setting_of config r) reading → HasCalls (setting_of config r) (goes_on config r reading events)
further config r reading events h = record {
  calls = map Befalls events ++ h.calls;
  keys = same-setting (setting_of config r) h.calls events ∙ h.keys;
  value = read-further (setting_of config r) (setting_in config r reading) h.calls reading.value events h.keys h.value;
}

rekeyed : (setting : Setting) (b : Bool) (keys : List TokenKeys) (reading : Reading) → HasCalls setting reading → HasCalls setting (rekeyed_if b keys reading)
rekeyed setting true keys reading h = record { calls = Renews keys ∷ h.calls; keys = refl; value = h.value }
rekeyed setting false keys reading h = h

life-calls : (p : Plan) (r : ℕ) (life : List Lived) → HasCalls (setting_of p.config r) ((account_in p life).readings r)
life-calls p r [] = record { calls = []; keys = refl; value = refl }
life-calls p r (Stepped (Enable id) ∷ before) = life-calls p r before
life-calls p r (Stepped (Disable id) ∷ before) = further p.config r ((account_in p before).readings r) (befalls p.config (steps_in before) (Disable id) r) (life-calls p r before)
life-calls p r (Stepped (Append set field) ∷ before) = life-calls p r before
life-calls p r (Stepped (Tick ms closing samples done) ∷ before) =
    further p.config r ((account_in p before).readings r) (befalls p.config (steps_in before) (Tick ms closing samples done) r) (life-calls p r before)
life-calls p r (Stepped (Pump entries) ∷ before) = further p.config r ((account_in p before).readings r) (befalls p.config (steps_in before) (Pump entries) r) (life-calls p r before)
life-calls p r (Renewed keygroup sets ∷ before) =
    rekeyed (setting_of p.config r) (reads_with (group_at p.config r) keygroup) (map keys_in sets) ((account_in p before).readings r) (life-calls p r before)

-- ---- no pair twice

pub taken-once : ((setting : Setting) (calls : List GroupCall) → TakesNoPairTwice setting calls) → (p : Plan) (r : ℕ) (life : List Lived) → is_secured (setting_of p.config r).setup.mode ≡ true → AreDistinctPairs (taken_in_life p r life)
taken-once law p r life secured =
    let h = life-calls p r life in
    subst AreDistinctPairs (ap (λ (group : PlainGroup). group.accepted) h.value) (law (setting_of p.config r) h.calls secured)

-- ---- tokens rise

not-low : (keys : List TokenKeys) (pairs : Accepted) (token number : ℕ) → is_acceptable keys pairs token number ≡ true → highest pairs ≤ token
not-low keys pairs token number is =
    let low = on (is_some (keys_with keys token)) (nat_lt token (highest pairs)) (not (is_taken (numbers_of pairs token) number)) (not (is_too_old (numbers_of pairs token) number)) is in
    grind (arith, nat_tests, low)
  where
    on : (a b c d : Bool) → (a && not b && c && d) ≡ true → b ≡ false
    on true false c d e = refl
    on true true c d e = absurd (cc)
    on false b c d e = absurd (cc)

none-higher : (pairs : Accepted) → All (λ pair. pair.0 ≤ highest pairs) pairs
none-higher [] = All-nil (λ (pair : ℕ × ℕ). pair.0 ≤ 0)
none-higher (last ∷ before) =
    All-cons (λ (pair : ℕ × ℕ). pair.0 ≤ highest (last ∷ before)) last before (omega arith)
    (All-weaker (λ (pair : ℕ × ℕ). pair.0 ≤ highest before) (λ (pair : ℕ × ℕ). pair.0 ≤ highest (last ∷ before)) (λ pair le. omega (arith, le)) before (none-higher before))

-- the earlier pair has no higher token
abbrev NoHigher : ℕ × ℕ → ℕ × ℕ → Type 0
NoHigher pair earlier = earlier.0 ≤ pair.0

one-more : (token number : ℕ) (pairs : Accepted) → highest pairs ≤ token → TokensRise pairs → TokensRise ((token, number) ∷ pairs)
one-more token number pairs le rise =
    AllPairs-cons NoHigher (token, number) pairs
    (All-weaker (λ (pair : ℕ × ℕ). pair.0 ≤ highest pairs) (λ (pair : ℕ × ℕ). pair.0 ≤ token) (λ pair below. omega (arith, le, below)) pairs (none-higher pairs)) rise

secured-accepts : (mode : Mode) (pass : Pass1) (pairs : Accepted) → is_secured mode ≡ true → accepts mode pass pairs ≡ (pass.token, pass.number) ∷ pairs
secured-accepts mode pass pairs secured = rw secured refl

got-rise : (setting : Setting) (group : PlainGroup) (moment : ℕ) (on : List Bool) (datagram : List ℕ) (answer : Result Opened Refusal) → is_secured setting.setup.mode ≡ true → verdict_in setting group datagram ≡ answer
    → TokensRise group.accepted → TokensRise (taken_on setting group moment on answer).accepted
got-rise setting group moment on datagram (Err refusal) secured is rise = rise
got-rise setting group moment on datagram (Ok opened) secured is rise =
    let token = opened.pass.token in
    let le = not-low setting.setup.keys group.accepted token opened.pass.number (verdict-acceptable setting group.accepted datagram opened secured is) in
    subst TokensRise (sym (secured-accepts setting.setup.mode opened.pass group.accepted secured)) (one-more token opened.pass.number group.accepted le rise)

same-mode : (setting : Setting) (calls : List GroupCall) → (setting_after setting calls).setup.mode ≡ setting.setup.mode
same-mode setting [] = refl
same-mode setting (Befalls event ∷ before) = same-mode setting before
same-mode setting (Renews keys ∷ before) = refl

calls-rise : (setting : Setting) (calls : List GroupCall) → is_secured setting.setup.mode ≡ true → TokensRise (reading_by setting calls).accepted
calls-rise setting [] secured = λ i j d less inside. absurd (omega (arith, inside))
calls-rise setting (Befalls (Got moment on datagram) ∷ before) secured =
    let now = setting_after setting before in
    let group = reading_by setting before in
    got-rise now group moment on datagram (verdict_in now group datagram) (ap is_secured (same-mode setting before) ∙ secured) refl (calls-rise setting before secured)
calls-rise setting (Befalls (Expired moment) ∷ before) secured = calls-rise setting before secured
calls-rise setting (Befalls (Stopped reader why) ∷ before) secured = calls-rise setting before secured
calls-rise setting (Renews keys ∷ before) secured = calls-rise setting before secured

pub taken-rise : (p : Plan) (r : ℕ) (life : List Lived) → is_secured (setting_of p.config r).setup.mode ≡ true → TokensRise (taken_in_life p r life)
taken-rise p r life secured =
    let h = life-calls p r life in
    subst TokensRise (ap (λ (group : PlainGroup). group.accepted) h.value) (calls-rise (setting_of p.config r) h.calls secured)
