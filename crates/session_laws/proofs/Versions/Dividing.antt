-- A journal has one division into the sends and pumps of a course.
use Rattle.std.proofs.Common.{◌≡◌, refl, sym, ap, ◌∙◌, subst, arith, ℕ, zero, suc, Bool, true, false, List, [], ◌∷◌, ◌++◌, length, append_assoc}
use Rattle.ua_base.specs.Journal.{Entry, Sent, SendFailed, Got, Empty, Long, ReceiveFailed}
use Rattle.writer_group.specs.declared.sampled.Sampled.{Sampled}
use Rattle.session_model.specs.Counts.{most_taken}
use Rattle.session_model.specs.Sends.{IsPump, IsRun, Send, journal, send_entries, send_entry, sends_of}
use Rattle.session_model.specs.Steps.{Plan, Step, Enable, Disable, Append, Tick, Pump}
use Rattle.session_laws.specs.Courses.{HaveOneCourse}

-- ---- a tick's sends

pub same-outcome : (send : Send) (a b : Bool) → send_entry (send, a) ≡ send_entry (send, b) → a ≡ b
same-outcome send true true e = refl
same-outcome send true false e = absurd (cc)
same-outcome send false true e = absurd (cc)
same-outcome send false false e = refl

sends-cut : (sends : List Send) (one other : List Bool) (x y : List Entry) → length one ≡ length sends → length other ≡ length sends → send_entries sends one ++ x ≡ send_entries sends other ++ y → (one ≡ other) × (x ≡ y)
sends-cut [] [] [] x y p q e = (refl, e)
sends-cut [] [] (b ∷ other) x y p q e = absurd (omega (arith, q))
sends-cut [] (a ∷ one) other x y p q e = absurd (omega (arith, p))
sends-cut (send ∷ sends) [] other x y p q e = absurd (omega (arith, p))
sends-cut (send ∷ sends) (a ∷ one) [] x y p q e = absurd (omega (arith, q))
sends-cut (send ∷ sends) (a ∷ one) (b ∷ other) x y p q e =
    let heads : send_entry (send, a) ≡ send_entry (send, b) = cc in
    let tails : send_entries sends one ++ x ≡ send_entries sends other ++ y = cc in
    let h = sends-cut sends one other x y (omega (arith, p)) (omega (arith, q)) tails in
    (ap (λ (c : Bool). c ∷ one) (same-outcome send a b heads) ∙ ap (λ (l : List Bool). b ∷ l) h.0, h.1)

-- ---- a pump's receives

abbrev Cuts : List Entry → List Entry → List Entry → List Entry → Type 0
Cuts one other x y = (one ≡ other) × (x ≡ y)

onto : (a b : Entry) (one other x y : List Entry) → a ≡ b → Cuts one other x y → Cuts (a ∷ one) (b ∷ other) x y
onto a b one other x y e cut = (ap (λ (z : Entry). z ∷ one) e ∙ ap (λ (l : List Entry). b ∷ l) cut.0, cut.1)

ended : (one other x y : List Entry) → one ≡ [] → other ≡ [] → one ++ x ≡ other ++ y → Cuts one other x y
ended one other x y p q e = (p ∙ sym q, sym (ap (λ (l : List Entry). l ++ x) p) ∙ e ∙ ap (λ (l : List Entry). l ++ y) q)

pump-on : (n : ℕ) (a : Entry) (one other x y : List Entry) → IsPump (suc n) (a ∷ one) → IsPump (suc n) (a ∷ other) → one ++ x ≡ other ++ y
    → (IsPump n one → IsPump n other → Cuts one other x y) → Cuts one other x y
pump-on n (Got bytes) one other x y p q e go = go p.1 q.1
pump-on n (Long size) one other x y p q e go = go p.1 q.1
pump-on n Empty one other x y p q e go = ended one other x y p q e
pump-on n ReceiveFailed one other x y p q e go = ended one other x y p q e
pump-on n (Sent bytes) one other x y p q e go = absurd p
pump-on n SendFailed one other x y p q e go = absurd p

pump-cut : (n : ℕ) (one other x y : List Entry) → IsPump n one → IsPump n other → one ++ x ≡ other ++ y → Cuts one other x y
pump-cut zero [] [] x y p q e = (refl, e)
pump-cut zero [] (b ∷ other) x y p q e = absurd q
pump-cut zero (a ∷ one) other x y p q e = absurd p
pump-cut (suc n) [] other x y p q e = absurd p
pump-cut (suc n) (a ∷ one) [] x y p q e = absurd q
pump-cut (suc n) (a ∷ one) (b ∷ other) x y p q e =
    let heads : a ≡ b = cc in
    let tails : one ++ x ≡ other ++ y = cc in
    let q' = subst (λ (z : Entry). IsPump (suc n) (z ∷ other)) (sym heads) q in
    onto a b one other x y heads (pump-on n a one other x y p q' tails (λ i j. pump-cut n one other x y i j tails))

-- ---- the steps

-- whatever follows, the one journal is divided as the other
abbrev Divides : Plan → List Step → List Step → Type 0
Divides p first second =
    IsRun p second → (x y : List Entry) → journal p first ++ x ≡ journal p second ++ y → (first ≡ second) × (x ≡ y)

step-more : (p : Plan) (step : Step) (first second : List Step) (x y : List Entry) → (first ≡ second) × (x ≡ y) → (step ∷ first ≡ step ∷ second) × (x ≡ y)
step-more p step first second x y h = (ap (λ (l : List Step). step ∷ l) h.0, h.1)

regrouped : (a one b other x y : List Entry) → (a ++ one) ++ x ≡ (b ++ other) ++ y → a ++ (one ++ x) ≡ b ++ (other ++ y)
regrouped a one b other x y e = sym (append_assoc a one x) ∙ e ∙ append_assoc b other y

tick-divides : (p : Plan) (before rest : List Step) (ms : ℕ) (closing : Bool) (samples : List Sampled) (done others : List Bool) → length done ≡ length (sends_of p (Tick ms closing samples done ∷ before))
    → Divides p before rest → Divides p (Tick ms closing samples done ∷ before) (Tick ms closing samples others ∷ rest)
tick-divides p before rest ms closing samples done others whole go run x y e =
    let sends : List Step → List Send = λ l. sends_of p (Tick ms closing samples [] ∷ l) in
    let one = send_entries (sends before) done in
    let other = send_entries (sends rest) others in
    let h = go run.1 (one ++ x) (other ++ y) (regrouped (journal p before) one (journal p rest) other x y e) in
    let here : (length others ≡ length (sends before)) × (one ++ x ≡ send_entries (sends before) others ++ y) =
    subst (λ (l : List Step). (length others ≡ length (sends l)) × (one ++ x ≡ send_entries (sends l) others ++ y)) (sym h.0) (run.0, h.1) in
    let cut = sends-cut (sends before) done others x y whole here.0 here.1 in
    (ap (λ (d : List Bool). Tick ms closing samples d ∷ before) cut.0 ∙ ap (λ (l : List Step). Tick ms closing samples others ∷ l) h.0, cut.1)

pump-divides : (p : Plan) (before rest : List Step) (entries others : List Entry) → IsPump most_taken entries → Divides p before rest → Divides p (Pump entries ∷ before) (Pump others ∷ rest)
pump-divides p before rest entries others is go run x y e =
    let h = go run.1 (entries ++ x) (others ++ y) (regrouped (journal p before) entries (journal p rest) others x y e) in
    let cut = pump-cut most_taken entries others x y is run.0 h.1 in
    (ap (λ (l : List Entry). Pump l ∷ before) cut.0 ∙ ap (λ (l : List Step). Pump others ∷ l) h.0, cut.1)

divides : (p : Plan) (first second : List Step) → HaveOneCourse first second → IsRun p first → Divides p first second
divides p [] second c is = subst (Divides p []) (sym c) (λ run x y e. (refl, e))
divides p (Enable id ∷ before) second c is =
    subst (Divides p (Enable id ∷ before)) (sym c.1) (λ run x y e. step-more p (Enable id) before c.0 x y (divides p before c.0 c.2 is run x y e))
divides p (Disable id ∷ before) second c is =
    subst (Divides p (Disable id ∷ before)) (sym c.1) (λ run x y e. step-more p (Disable id) before c.0 x y (divides p before c.0 c.2 is run x y e))
divides p (Append set field ∷ before) second c is =
    subst (Divides p (Append set field ∷ before)) (sym c.1) (λ run x y e. step-more p (Append set field) before c.0 x y (divides p before c.0 c.2 is run x y e))
divides p (Tick ms closing samples done ∷ before) second c is =
    subst (Divides p (Tick ms closing samples done ∷ before)) (sym c.2) (tick-divides p before c.1 ms closing samples done c.0 is.0 (divides p before c.1 c.3 is.1))
divides p (Pump entries ∷ before) second c is =
    subst (Divides p (Pump entries ∷ before)) (sym c.2) (pump-divides p before c.1 entries c.0 is.0 (divides p before c.1 c.3 is.1))

pub one-run : (p : Plan) (first second : List Step) → HaveOneCourse first second → IsRun p first → IsRun p second → journal p first ≡ journal p second → first ≡ second
one-run p first second c is run e = (divides p first second c is run [] [] (ap (λ (l : List Entry). l ++ []) e)).0
