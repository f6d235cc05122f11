-- A secured read group that names its writer's group: once the closing frame's datagram came, the frame stands in the reader's list, whatever came besides.
use Rattle.std.proofs.Common.{◌≡◌, sym, ap, ◌∙◌, subst, arith, ℕ, suc, ◌+◌, ◌<◌, ◌≤◌, ◌⊎◌, inl, inr, Bool, true, List, [], ◌∷◌, Some, None, Result, Ok, Err}
use Rattle.std.specs.Prelude.{◌&&◌, fold, if◌then◌else◌}
use Rattle.seq_number.specs.Numbers.{place_from}
use Rattle.pubsub_model.specs.declared.reading.Why.TheVariants.{NewToken}
use Rattle.message_guard.specs.Acceptance.{Accepted, is_acceptable, raises}
use Rattle.message_guard.specs.declared.keys.TokenKeys.{TokenKeys}
use Rattle.message_guard.specs.Modes.{is_secured}
use Rattle.message_guard.specs.Protection.{keys_with}
use Rattle.ps_config.specs.declared.parts.Config.{Config}
use Rattle.reader_group.specs.declared.refusal.Refusal.{Refusal}
use Rattle.reader_group.specs.Arrivals.{Mark, Way, accepted, accepted_with, cut_on, piece_on, taken_in}
use Rattle.reader_group.specs.Opening.{Opened, verdict}
use Rattle.reader_group.specs.Payloads.{pieces}
use Rattle.reader_group.specs.Plain.{Event, Got, Setting}
use Rattle.writer_group.specs.Turns.{GroupDeed}
use Rattle.session_laws.specs.Pasts.{CameAsMade}
use Rattle.session_laws.proofs.Closing.GotParts.{Brought}
use Rattle.session_laws.proofs.Closing.SignedParts.{HasPair, acceptable-or-had, pair-added, upto-all}

-- What is known of the datagrams that come to a group, by what it finds of them: each is of the closing turn's token with a number up to 1,024 above that which was
-- used before, or of a lower token; one with this number is opened once it is accepted.
pub record Comes (setting : Setting) (config : Config) (pasts : ℕ → List GroupDeed) (token used k : ℕ) (datagram : List ℕ) : Type 0 where
  pub few : k < 1024
  pub upto : (now : ℕ) (on : List Bool) (other : List ℕ) (before : List Event) (opened : Opened) → CameAsMade setting config pasts (Got now on other ∷ before) → verdict setting.group setting.setup (accepted setting before) other ≡ Ok opened
      → (opened.pass.token < token) ⊎ ((opened.pass.token ≡ token) × (opened.pass.number ≤ used + 1024))
  pub opened : (pairs : Accepted) → is_acceptable setting.setup.keys pairs token (used + suc k) ≡ true
      → (o : Opened) × (verdict setting.group setting.setup pairs datagram ≡ Ok o) × (o.pass.token ≡ token) × (o.pass.number ≡ used + suc k)
  pub key : TokenKeys
  pub known : keys_with setting.setup.keys token ≡ Some key

-- a datagram that is taken
pub taken-signed : (setting : Setting) (way : Way) (first now : ℕ) (enabled : Bool) (pairs : Accepted) (list : List Mark) (opened : Opened) → is_secured setting.setup.mode ≡ true → ((t n : ℕ) → way.place t n ≡ place_from first)
    → taken_in setting way now enabled pairs list (Ok opened)
    ≡ fold (piece_on way (place_from first) now (Some opened.pass.number)) (cut_on (raises pairs opened.pass.token) NewToken list) (if enabled then pieces way.seat.part opened.payload else [])
taken-signed setting way first now enabled pairs list opened secured places =
    let parts = if enabled then pieces way.seat.part opened.payload else [] in
    ap (λ (b : Bool). fold (piece_on way (way.place opened.pass.token opened.pass.number) now (if b then Some opened.pass.number else None)) (cut_on (b && raises pairs opened.pass.token) NewToken list) parts) secured
    ∙ ap (λ (at : ℕ → ℕ). fold (piece_on way at now (Some opened.pass.number)) (cut_on (raises pairs opened.pass.token) NewToken list) parts) (places opened.pass.token opened.pass.number)

module _ (setting : Setting) (config : Config) (pasts : ℕ → List GroupDeed) (token used k : ℕ) (datagram : List ℕ) (c : Comes setting config pasts token used k datagram) (secured : is_secured setting.setup.mode ≡ true) where
  -- ---- the datagram is accepted, when it first comes

  abbrev pub HasCome : List Event → Type 0
  HasCome befell = HasPair token (used + suc k) (accepted setting befell)

  had-on : (pairs : Accepted) (answer : Result Opened Refusal) → HasPair token (used + suc k) pairs → HasPair token (used + suc k) (accepted_with setting pairs answer)
  had-on pairs (Err refusal) h = h
  had-on pairs (Ok opened) h = subst (HasPair token (used + suc k)) (sym (pair-added setting config pasts secured pairs opened)) (inr h)

  had-now : (pairs : Accepted) → is_acceptable setting.setup.keys pairs token (used + suc k) ≡ true → HasPair token (used + suc k) (accepted_with setting pairs (verdict setting.group setting.setup pairs datagram))
  had-now pairs is =
      let o = c.opened pairs is in
      subst (λ (a : Result Opened Refusal). HasPair token (used + suc k) (accepted_with setting pairs a)) (sym o.1)
      (subst (HasPair token (used + suc k)) (sym (pair-added setting config pasts secured pairs o.0)) (inl (o.2, o.3)))

  had-either : (pairs : Accepted) → (is_acceptable setting.setup.keys pairs token (used + suc k) ≡ true) ⊎ HasPair token (used + suc k) pairs
      → HasPair token (used + suc k) (accepted_with setting pairs (verdict setting.group setting.setup pairs datagram))
  had-either pairs (inl is) = had-now pairs is
  had-either pairs (inr had) = had-on pairs (verdict setting.group setting.setup pairs datagram) had

  pub had-kept : (now : ℕ) (on : List Bool) (other : List ℕ) (before : List Event) → HasCome before → HasCome (Got now on other ∷ before)
  had-kept now on other before h = had-on (accepted setting before) (verdict setting.group setting.setup (accepted setting before) other) h

  pub had-brought : (i : ℕ) → Brought setting config pasts i datagram HasCome
  had-brought i = record {
    brings = λ now on before enabled came.
        had-either (accepted setting before)
        (acceptable-or-had setting.setup.keys (accepted setting before) token (used + 1024) (used + suc k) c.key c.known (upto-all setting config pasts secured token (used + 1024) c.upto before came.1) (omega arith));
    keeps = λ now on other before h. had-kept now on other before h;
  }
