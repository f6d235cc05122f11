-- Where a pair was accepted in the pumps of a session, its datagram was taken in one of them.
use Rattle.std.proofs.Common.{◌≡◌, refl, sym, ap, ◌∙◌, subst, arith, ℕ, zero, suc, ◌⊎◌, inl, inr, Bool, true, false, List, [], ◌∷◌, ◌++◌, map, Contains, Result, Ok, Err}
use Rattle.std.specs.Prelude.{fold, if◌then◌else◌}
use Rattle.ua_base.specs.Journal as entries_of
use Rattle.ua_base.specs.Journal.{Entry}
use Rattle.message_guard.specs.Acceptance.{Accepted}
use Rattle.message_guard.specs.Modes.{is_secured}
use Rattle.ps_config.specs.declared.parts.Config.{Config}
use Rattle.reader_group.specs.declared.refusal.Refusal.{Refusal}
use Rattle.reader_group.specs.Arrivals.{accepted, accepted_with}
use Rattle.reader_group.specs.Opening.{Opened, verdict}
use Rattle.reader_group.specs.Plain.{Event, Got, Setting}
use Rattle.reader_group.specs.Settings.{setting_of}
use Rattle.writer_group.specs.Turns.{GroupDeed}
use Rattle.session_model.specs.Events.{events, got_on, readers_on, receives}
use Rattle.session_model.specs.Steps.{Step, Pump, moment_of}
use Rattle.session_laws.specs.Newest.{CameIn}
use Rattle.session_laws.specs.Pasts.{CameAsMade}
use Rattle.session_laws.proofs.Closing.BareGot.{TakenAt}
use Rattle.session_laws.proofs.Closing.GotParts.{came-before}
use Rattle.session_laws.proofs.Closing.SignedParts.{HasPair, pair-added}

-- ---- a list around one of its elements

pub record SplitBy {X : Type 0} (xs : List X) (x : X) : Type 0 where
  pub before : List X
  pub behind : List X
  pub is : xs ≡ before ++ x ∷ behind

pub split-by : {X : Type 0} (xs : List X) (x : X) → Contains xs x → SplitBy xs x
split-by [] x has = absurd (let below = has.1 in omega (arith, below))
split-by (y ∷ xs) x (zero, below, same) = record { before = []; behind = xs; is = ap (λ z. z ∷ xs) same }
split-by (y ∷ xs) x (suc k, below, same) =
    let rest = split-by xs x (k, omega (arith, below), same) in record { before = y ∷ rest.before; behind = rest.behind; is = ap (λ l. y ∷ l) rest.is }

stands-between : {X : Type 0} (xs more : List X) (x : X) → Contains (xs ++ x ∷ more) x
stands-between [] more x = (0, omega arith, refl)
stands-between (y ∷ xs) more x = let rest = stands-between xs more x in (suc rest.0, let lt = rest.1 in omega (arith, lt), rest.2)

-- the datagram of an entry came
pub came-between : (later before : List (List Entry)) (earlier behind : List Entry) (datagram : List ℕ) → CameIn (later ++ (earlier ++ entries_of.Got datagram ∷ behind) ∷ before) datagram
came-between [] before earlier behind datagram = inl (stands-between earlier behind (entries_of.Got datagram))
came-between (entries ∷ later) before earlier behind datagram = inr (came-between later before earlier behind datagram)

module _ (config : Config) (r : ℕ) (start : List Step) (datagram : List ℕ) (one : Opened) where
  taken-later : (entries : List Entry) (pumps : List (List Entry)) → TakenAt config r start datagram one pumps → TakenAt config r start datagram one (entries ∷ pumps)
  taken-later entries pumps t = record {
    later = entries ∷ t.later;
    before = t.before;
    earlier = t.earlier;
    behind = t.behind;
    is = ap (λ (l : List (List Entry)). entries ∷ l) t.is;
    opens = t.opens;
  }

  -- one that is opened whatever was accepted
  pub taken-any : (pumps : List (List Entry)) → ((pairs : Accepted) → verdict (setting_of config r).group (setting_of config r).setup pairs datagram ≡ Ok one) → CameIn pumps datagram → TakenAt config r start datagram one pumps
  taken-any [] opens none = absurd none
  taken-any (entries ∷ pumps) opens (inl has) =
      let at = split-by entries (entries_of.Got datagram) has in
      let steps = map Pump pumps ++ start in
      record {
        later = [];
        before = pumps;
        earlier = at.before;
        behind = at.behind;
        is = ap (λ (l : List Entry). l ∷ pumps) at.is;
        opens = opens (accepted (setting_of config r) (fold (got_on (moment_of steps) (readers_on config steps r)) (events config r steps) at.before));
      }
  taken-any (entries ∷ pumps) opens (inr more) = taken-later entries pumps (taken-any pumps opens more)

  -- ---- one whose pair was accepted

  module _ (pasts : ℕ → List GroupDeed) (token number : ℕ) (secured : is_secured (setting_of config r).setup.mode ≡ true)
      (own : (now : ℕ) (on : List Bool) (other : List ℕ) (before : List Event) (opened : Opened) → CameAsMade (setting_of config r) config pasts (Got now on other ∷ before)
      → verdict (setting_of config r).group (setting_of config r).setup (accepted (setting_of config r) before) other ≡ Ok opened → opened.pass.token ≡ token → opened.pass.number ≡ number → (other ≡ datagram) × (one ≡ opened)) where
    abbrev setting : Setting
    setting = setting_of config r

    abbrev Had : List Event → Type 0
    Had befell = HasPair token number (accepted setting befell)

    abbrev judged : List Event → List ℕ → Result Opened Refusal
    judged before other = verdict setting.group setting.setup (accepted setting before) other

    abbrev Came : List Event → Type 0
    Came befell = CameAsMade setting config pasts befell

    trace-answer : (now : ℕ) (on : List Bool) (other : List ℕ) (before : List Event) (answer : Result Opened Refusal) → Came (Got now on other ∷ before) → judged before other ≡ answer → HasPair token number (accepted_with setting (accepted setting before) answer)
        → Had before ⊎ ((other ≡ datagram) × (judged before other ≡ Ok one))
    trace-answer now on other before (Err refusal) came e had = inl had
    trace-answer now on other before (Ok opened) came e had = at (subst (HasPair token number) (pair-added setting config pasts secured (accepted setting before) opened) had)
      where
        at : HasPair token number ((opened.pass.token, opened.pass.number) ∷ accepted setting before) → Had before ⊎ ((other ≡ datagram) × (judged before other ≡ Ok one))
        at (inl here) = let same = own now on other before opened came e here.0 here.1 in inr (same.0, e ∙ ap (λ (o : Opened). Ok o) (sym same.1))
        at (inr more) = inl more

    trace-got : (now : ℕ) (on : List Bool) (other : List ℕ) (before : List Event) → Had before ⊎ ((other ≡ datagram) × (judged before other ≡ Ok one)) → Had before ⊎ ((entries_of.Got other ≡ entries_of.Got datagram) × (judged before datagram ≡ Ok one))
    trace-got now on other before (inl had) = inl had
    trace-got now on other before (inr here) = inr (ap (λ (d : List ℕ). entries_of.Got d) here.0, subst (λ (d : List ℕ). judged before d ≡ Ok one) here.0 here.1)

    trace-entry : (now : ℕ) (on : List Bool) (before : List Event) (entry : Entry) → Came (got_on now on before entry) → Had (got_on now on before entry) → Had before ⊎ ((entry ≡ entries_of.Got datagram) × (judged before datagram ≡ Ok one))
    trace-entry now on before (entries_of.Sent d) came had = inl had
    trace-entry now on before entries_of.SendFailed came had = inl had
    trace-entry now on before (entries_of.Got other) came had = trace-got now on other before (trace-answer now on other before (judged before other) came refl had)
    trace-entry now on before entries_of.Empty came had = inl had
    trace-entry now on before (entries_of.Long len) came had = inl had
    trace-entry now on before entries_of.ReceiveFailed came had = inl had

    record TakenIn (now : ℕ) (on : List Bool) (befell : List Event) (entries : List Entry) : Type 0 where
      at : SplitBy entries (entries_of.Got datagram)
      opens : judged (fold (got_on now on) befell at.before) datagram ≡ Ok one

    trace-entries : (now : ℕ) (on : List Bool) (entries : List Entry) (befell : List Event) → Came (fold (got_on now on) befell entries) → Had (fold (got_on now on) befell entries) → Had befell ⊎ TakenIn now on befell entries
    trace-entries now on [] befell came had = inl had
    trace-entries now on (entry ∷ entries) befell came had =
        at (trace-entries now on entries (got_on now on befell entry) came had) (trace-entry now on befell entry (came-before setting config pasts now on entries (got_on now on befell entry) came))
      where
        first : Had befell ⊎ ((entry ≡ entries_of.Got datagram) × (judged befell datagram ≡ Ok one)) → Had befell ⊎ TakenIn now on befell (entry ∷ entries)
        first (inl old) = inl old
        first (inr here) = inr (record { at = record { before = []; behind = entries; is = ap (λ (e : Entry). e ∷ entries) here.0 }; opens = here.1 })

        at : Had (got_on now on befell entry) ⊎ TakenIn now on (got_on now on befell entry) entries → (Had (got_on now on befell entry) → Had befell ⊎ ((entry ≡ entries_of.Got datagram) × (judged befell datagram ≡ Ok one)))
            → Had befell ⊎ TakenIn now on befell (entry ∷ entries)
        at (inl old) head = first (head old)
        at (inr t) head = inr (record { at = record { before = entry ∷ t.at.before; behind = t.at.behind; is = ap (λ (l : List Entry). entry ∷ l) t.at.is }; opens = t.opens })

    trace-pump : (entries : List Entry) (pumps : List (List Entry)) (b : Bool)
        → (let steps = map Pump pumps ++ start in let befell = events config r steps in
        (Came befell → Had befell → Had (events config r start) ⊎ TakenAt config r start datagram one pumps)
        → Came (if b then fold (got_on (moment_of steps) (readers_on config steps r)) befell entries else befell)
        → Had (if b then fold (got_on (moment_of steps) (readers_on config steps r)) befell entries else befell)
        → Had (events config r start) ⊎ TakenAt config r start datagram one (entries ∷ pumps))
    trace-pump entries pumps false rest came had = later (rest came had)
      where
        later : Had (events config r start) ⊎ TakenAt config r start datagram one pumps → Had (events config r start) ⊎ TakenAt config r start datagram one (entries ∷ pumps)
        later (inl old) = inl old
        later (inr t) = inr (taken-later entries pumps t)
    trace-pump entries pumps true rest came had =
        at (rest (came-before setting config pasts now on entries befell came)) (trace-entries now on entries befell came had)
      where
        steps : List Step
        steps = map Pump pumps ++ start

        now : ℕ
        now = moment_of steps

        on : List Bool
        on = readers_on config steps r

        befell : List Event
        befell = events config r steps

        later : Had (events config r start) ⊎ TakenAt config r start datagram one pumps → Had (events config r start) ⊎ TakenAt config r start datagram one (entries ∷ pumps)
        later (inl old) = inl old
        later (inr t) = inr (taken-later entries pumps t)

        at : (Had befell → Had (events config r start) ⊎ TakenAt config r start datagram one pumps) → Had befell ⊎ TakenIn now on befell entries → Had (events config r start) ⊎ TakenAt config r start datagram one (entries ∷ pumps)
        at older (inl old) = later (older old)
        at older (inr t) = inr (record { later = []; before = pumps; earlier = t.at.before; behind = t.at.behind; is = ap (λ (l : List Entry). l ∷ pumps) t.at.is; opens = t.opens })

    pub trace-pumps : (pumps : List (List Entry)) → Came (events config r (map Pump pumps ++ start)) → Had (events config r (map Pump pumps ++ start)) → Had (events config r start) ⊎ TakenAt config r start datagram one pumps
    trace-pumps [] came had = inl had
    trace-pumps (entries ∷ pumps) came had = trace-pump entries pumps (receives config (map Pump pumps ++ start) r) (λ so_far old. trace-pumps pumps so_far old) came had
