-- A journal with further receives, of a course whose pumps don't end at their limit, is divided as the journal without them.
use Rattle.std.proofs.Common.{◌≡◌, ◌≢◌, refl, sym, ap, ◌∙◌, subst, arith, ℕ, zero, suc, ◌+◌, inl, inr, Bool, true, false, List, [], ◌∷◌, ◌++◌, length, append-nil, append_assoc}
use Rattle.std.specs.Prelude.{◌==◌, count_by, if◌then◌else◌}
use Rattle.std.proofs.lemmas.Bool.Decides.{nat_tests}
use Rattle.ua_base.specs.Journal.{Entry, Sent, SendFailed, Got, Empty, Long, ReceiveFailed}
use Rattle.writer_group.specs.declared.sampled.Sampled.{Sampled}
use Rattle.session_model.specs.Closing.{is_datagram, limits}
use Rattle.session_model.specs.Counts.{most_taken}
use Rattle.session_model.specs.Deeds.{Deed}
use Rattle.session_model.specs.Sends.{IsPump, IsRun, Send, journal, last_sends, send_entries, send_entry, sends_of}
use Rattle.session_model.specs.Steps.{Plan, Step, Enable, Disable, Append, Tick, Pump}
use Rattle.session_model.proofs.Sending.{count-cons}
use Rattle.session_laws.specs.Courses.{HaveOneCourse}
use Rattle.session_laws.specs.Twins as twin
use Rattle.session_laws.specs.Twins.{TwinStep, HasFurther, HasTwins, HaveFurther, first_of, second_of}
use Rattle.session_laws.proofs.Versions.Dividing.{same-outcome}
use Rattle.session_laws.proofs.HeldRows.Traces.{same-deeds}

-- ---- a tick's sends

not-got : (send : Send) (b : Bool) (datagram : List ℕ) → send_entry (send, b) ≡ Got datagram → ⊥
not-got send true datagram e = cc
not-got send false datagram e = cc

sends-further : (sends : List Send) (one other : List Bool) (x y : List Entry) → length one ≡ length sends → length other ≡ length sends → HasFurther (send_entries sends one ++ x) (send_entries sends other ++ y) → (one ≡ other) × HasFurther x y
sends-further [] [] [] x y p q h = (refl, h)
sends-further [] [] (b ∷ other) x y p q h = absurd (omega (arith, q))
sends-further [] (a ∷ one) other x y p q h = absurd (omega (arith, p))
sends-further (send ∷ sends) [] other x y p q h = absurd (omega (arith, p))
sends-further (send ∷ sends) (a ∷ one) [] x y p q h = absurd (omega (arith, q))
sends-further (send ∷ sends) (a ∷ one) (b ∷ other) x y p q (inl (rest, e, h)) =
    let heads : send_entry (send, a) ≡ send_entry (send, b) = cc in
    let tails : send_entries sends one ++ x ≡ rest = cc in
    let cut = sends-further sends one other x y (omega (arith, p)) (omega (arith, q)) (subst (λ (l : List Entry). HasFurther l (send_entries sends other ++ y)) (sym tails) h) in
    (ap (λ (c : Bool). c ∷ one) (same-outcome send a b heads) ∙ ap (λ (l : List Bool). b ∷ l) cut.0, cut.1)
sends-further (send ∷ sends) (a ∷ one) (b ∷ other) x y p q (inr (datagram, e, h)) = absurd (not-got send b datagram e)

-- ---- a pump's receives

-- it ended before its limit
abbrev IsEnded : List Entry → Type 0
IsEnded [] = ⊥
IsEnded (Got bytes ∷ entries) = IsEnded entries
IsEnded (Long size ∷ entries) = IsEnded entries
IsEnded (Empty ∷ entries) = entries ≡ []
IsEnded (ReceiveFailed ∷ entries) = entries ≡ []
IsEnded (Sent bytes ∷ entries) = ⊥
IsEnded (SendFailed ∷ entries) = ⊥

ended-of : (n : ℕ) (entries : List Entry) → IsPump n entries → count_by is_datagram entries ≢ n → IsEnded entries
ended-of zero [] is other = absurd (other refl)
ended-of zero (e ∷ entries) is other = absurd is
ended-of (suc n) [] is other = absurd is
ended-of (suc n) (Got bytes ∷ entries) is other =
    ended-of n entries is.1 (λ same. other (let count : count_by is_datagram (Got bytes ∷ entries) ≡ 1 + count_by is_datagram entries = count-cons is_datagram (Got bytes) entries in omega (arith, count, same)))
ended-of (suc n) (Long size ∷ entries) is other =
    ended-of n entries is.1 (λ same. other (let count : count_by is_datagram (Long size ∷ entries) ≡ 1 + count_by is_datagram entries = count-cons is_datagram (Long size) entries in omega (arith, count, same)))
ended-of (suc n) (Empty ∷ entries) is other = is
ended-of (suc n) (ReceiveFailed ∷ entries) is other = is
ended-of (suc n) (Sent bytes ∷ entries) is other = absurd is
ended-of (suc n) (SendFailed ∷ entries) is other = absurd is

abbrev Both : List Entry → List Entry → List Entry → List Entry → Type 0
Both one other x y = HasFurther one other × HasFurther x y

both-ended : (a : Entry) (one other x y : List Entry) → one ≡ [] → other ≡ [] → HasFurther (one ++ x) (other ++ y) → Both (a ∷ one) (a ∷ other) x y
both-ended a one other x y p q h =
    let none : HasFurther one [] = p in (
      inl (one, refl, subst (λ (l : List Entry). HasFurther one l) (sym q) none),
      subst (λ (l : List Entry). HasFurther x (l ++ y)) q (subst (λ (l : List Entry). HasFurther (l ++ x) (other ++ y)) p h),
    )

both-on : (a : Entry) (one other x y : List Entry) → IsEnded (a ∷ one) → IsEnded (a ∷ other) → HasFurther (one ++ x) (other ++ y) → (IsEnded one → IsEnded other → Both one other x y) → Both (a ∷ one) (a ∷ other) x y
both-on (Got bytes) one other x y p q h go = let rest = go p q in (inl (one, refl, rest.0), rest.1)
both-on (Long size) one other x y p q h go = let rest = go p q in (inl (one, refl, rest.0), rest.1)
both-on Empty one other x y p q h go = both-ended Empty one other x y p q h
both-on ReceiveFailed one other x y p q h go = both-ended ReceiveFailed one other x y p q h
both-on (Sent bytes) one other x y p q h go = absurd p
both-on SendFailed one other x y p q h go = absurd p

got-ended : (b : Entry) (datagram : List ℕ) (other : List Entry) → b ≡ Got datagram → IsEnded (b ∷ other) → IsEnded other
got-ended b datagram other e q = let here : IsEnded (Got datagram ∷ other) = subst (λ (z : Entry). IsEnded (z ∷ other)) e q in here

pump-further : (one other x y : List Entry) → IsEnded one → IsEnded other → HasFurther (one ++ x) (other ++ y) → Both one other x y
pump-further [] other x y p q h = absurd p
pump-further (a ∷ one) [] x y p q h = absurd q
pump-further (a ∷ one) (b ∷ other) x y p q (inl (rest, e, h)) =
    let heads : a ≡ b = cc in
    let tails : one ++ x ≡ rest = cc in
    let after : HasFurther (one ++ x) (other ++ y) = subst (λ (l : List Entry). HasFurther l (other ++ y)) (sym tails) h in
    subst (λ (z : Entry). Both (a ∷ one) (z ∷ other) x y) heads
    (both-on a one other x y p (subst (λ (z : Entry). IsEnded (z ∷ other)) (sym heads) q) after (λ i j. pump-further one other x y i j after))
pump-further (a ∷ one) (b ∷ other) x y p q (inr (datagram, e, h)) =
    let rest = pump-further (a ∷ one) other x y p (got-ended b datagram other e q) h in
    (inr (datagram, e, rest.0), rest.1)

not-limit : (a b : ℕ) (n : ℕ) (t : Bool) → (a == b) ≡ t → n + (if t then 1 else 0) ≡ 0 → (a ≢ b) × (n ≡ 0)
not-limit a b n true e none = absurd (omega (arith, none))
not-limit a b n false e none = (λ same. absurd (let wrong : (a == b) ≡ true = grind (arith, nat_tests, same) in let clash : true ≡ false = sym wrong ∙ e in cc), omega (arith, none))

-- ---- the steps

-- whatever follows
abbrev Divides : Plan → List Step → List Step → Type 0
Divides p first second =
    IsRun p second → limits second ≡ 0 → (x y : List Entry) → HasFurther (journal p first ++ x) (journal p second ++ y) → HasTwins first second × HasFurther x y

regrouped : (a one x b other y : List Entry) → HasFurther ((a ++ one) ++ x) ((b ++ other) ++ y) → HasFurther (a ++ (one ++ x)) (b ++ (other ++ y))
regrouped a one x b other y h =
    subst (λ (l : List Entry). HasFurther (a ++ (one ++ x)) l) (append_assoc b other y) (subst (λ (l : List Entry). HasFurther l ((b ++ other) ++ y)) (append_assoc a one x) h)

-- a step of both
step-more : (step : TwinStep) (first second : List Step) (h : HasTwins first second) → (HaveFurther h.twins → HaveFurther (step ∷ h.twins)) → HasTwins (first_of step ∷ first) (second_of step ∷ second)
step-more step first second h more = record {
  twins = step ∷ h.twins;
  firsts_are = ap (λ (l : List Step). first_of step ∷ l) h.firsts_are;
  seconds_are = ap (λ (l : List Step). second_of step ∷ l) h.seconds_are;
  further = more h.further;
}

switch-more : (step : TwinStep) (first second : List Step) (x y : List Entry) → ((list : List TwinStep) → HaveFurther list → HaveFurther (step ∷ list)) → HasTwins first second × HasFurther x y
    → HasTwins (first_of step ∷ first) (second_of step ∷ second) × HasFurther x y
switch-more step first second x y more h = (step-more step first second h.0 (more h.0.twins), h.1)

same-at : (p : Plan) (ms : ℕ) (closing : Bool) (samples : List Sampled) (before rest : List Step) → HasTwins before rest → sends_of p (Tick ms closing samples [] ∷ rest) ≡ sends_of p (Tick ms closing samples [] ∷ before)
same-at p ms closing samples before rest h =
    ap (λ (l : List Step). sends_of p (Tick ms closing samples [] ∷ l)) (sym h.seconds_are)
    ∙ ap (λ (d : List Deed). last_sends d) (sym (same-deeds p (twin.Tick ms closing samples [] ∷ h.twins)))
    ∙ ap (λ (l : List Step). sends_of p (Tick ms closing samples [] ∷ l)) h.firsts_are

tick-divides : (p : Plan) (before rest : List Step) (ms : ℕ) (closing : Bool) (samples : List Sampled) (done others : List Bool) → length done ≡ length (sends_of p (Tick ms closing samples done ∷ before))
    → Divides p before rest → Divides p (Tick ms closing samples done ∷ before) (Tick ms closing samples others ∷ rest)
tick-divides p before rest ms closing samples done others whole go run few x y h =
    let sends : List Step → List Send = λ l. sends_of p (Tick ms closing samples [] ∷ l) in
    let one = send_entries (sends before) done in
    let other = send_entries (sends rest) others in
    let g = go run.1 few (one ++ x) (other ++ y) (regrouped (journal p before) one x (journal p rest) other y h) in
    let here : (length others ≡ length (sends before)) × HasFurther (one ++ x) (send_entries (sends before) others ++ y) =
    subst (λ (l : List Send). (length others ≡ length l) × HasFurther (one ++ x) (send_entries l others ++ y)) (same-at p ms closing samples before rest g.0) (run.0, g.1) in
    let cut = sends-further (sends before) done others x y whole here.0 here.1 in
    let more = step-more (twin.Tick ms closing samples done) before rest g.0 (λ f. f) in
    (subst (λ (d : List Bool). HasTwins (Tick ms closing samples done ∷ before) (Tick ms closing samples d ∷ rest)) cut.0 more, cut.1)

pump-divides : (p : Plan) (before rest : List Step) (entries others : List Entry) → IsPump most_taken entries → count_by is_datagram entries ≢ most_taken → Divides p before rest → Divides p (Pump entries ∷ before) (Pump others ∷ rest)
pump-divides p before rest entries others is short go run few x y h =
    let other = not-limit (count_by is_datagram others) most_taken (limits rest) (count_by is_datagram others == most_taken) refl few in
    let g = go run.1 other.1 (entries ++ x) (others ++ y) (regrouped (journal p before) entries x (journal p rest) others y h) in
    let cut = pump-further entries others x y (ended-of most_taken entries is short) (ended-of most_taken others run.0 other.0) g.1 in
    (step-more (twin.Pump entries others) before rest g.0 (λ f. (cut.0, f)), cut.1)

divides : (p : Plan) (first second : List Step) → HaveOneCourse first second → IsRun p first → limits first ≡ 0 → Divides p first second
divides p [] second c is few = subst (Divides p []) (sym c) (λ run none x y h. (record { twins = []; firsts_are = refl; seconds_are = refl; further = tt }, h))
divides p (Enable id ∷ before) second c is few =
    subst (Divides p (Enable id ∷ before)) (sym c.1) (λ run none x y h. switch-more (twin.Enable id) before c.0 x y (λ list f. f) (divides p before c.0 c.2 is few run none x y h))
divides p (Disable id ∷ before) second c is few =
    subst (Divides p (Disable id ∷ before)) (sym c.1) (λ run none x y h. switch-more (twin.Disable id) before c.0 x y (λ list f. f) (divides p before c.0 c.2 is few run none x y h))
divides p (Append set field ∷ before) second c is few =
    subst (Divides p (Append set field ∷ before)) (sym c.1) (λ run none x y h. switch-more (twin.Append set field) before c.0 x y (λ list f. f) (divides p before c.0 c.2 is few run none x y h))
divides p (Tick ms closing samples done ∷ before) second c is few =
    subst (Divides p (Tick ms closing samples done ∷ before)) (sym c.2) (tick-divides p before c.1 ms closing samples done c.0 is.0 (divides p before c.1 c.3 is.1 few))
divides p (Pump entries ∷ before) second c is few =
    let one = not-limit (count_by is_datagram entries) most_taken (limits before) (count_by is_datagram entries == most_taken) refl few in
    subst (Divides p (Pump entries ∷ before)) (sym c.2) (pump-divides p before c.1 entries c.0 is.0 one.0 (divides p before c.1 c.3 is.1 one.1))

nothing-more : (one other : List Entry) → HasFurther one other → HasFurther (one ++ []) (other ++ [])
nothing-more one other h = subst (λ (l : List Entry). HasFurther (one ++ []) l) (sym (append-nil other)) (subst (λ (l : List Entry). HasFurther l other) (sym (append-nil one)) h)

pub same-division : (p : Plan) (first second : List Step) → HaveOneCourse first second → IsRun p first → IsRun p second → limits first ≡ 0 → limits second ≡ 0 → HasFurther (journal p first) (journal p second) → HasTwins first second
same-division p first second c is run few none h = (divides p first second c is few run none [] [] (nothing-more (journal p first) (journal p second) h)).0
