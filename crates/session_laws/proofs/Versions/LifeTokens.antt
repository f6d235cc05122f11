-- The token under which a key group protects never falls in a life.
use Rattle.std.proofs.Common.{◌≡◌, refl, ap, arith, ℕ, ◌+◌, ◌≤◌, Bool, true, false, List, [], ◌∷◌, ◌++◌, length, Option, Some, None}
use Rattle.std.specs.Prelude.{◌==◌, nat_lt, if◌then◌else◌}
use Rattle.std.proofs.lemmas.Bool.Decides.{nat_tests}
use Rattle.group_keys.specs.KeySets.{current}
use Rattle.group_keys.specs.declared.key_set.KeySet.{KeySet}
use Rattle.message_guard.specs.declared.mode.Mode.{Mode}
use Rattle.message_guard.specs.Protection.{keys_in}
use Rattle.message_guard.specs.Senders.{SenderState, turned_by}
use Rattle.ps_config.specs.Headers.{mode_of}
use Rattle.writer_group.specs.declared.sampled.Sampled.{Sampled}
use Rattle.writer_group.specs.Parts.{group_at}
use Rattle.group_laws.proofs.TurnTaken.{advanced-keys}
use Rattle.session_model.specs.Deeds.{Deed, advanced_if, renewed_if, sender_after, shares, turn_of}
use Rattle.session_model.specs.Lives.{Lived, Stepped, Renewed, account_in, steps_in}
use Rattle.session_model.specs.Steps.{Plan, Step, Enable, Disable, Append, Tick, Pump, moment_of}
use Rattle.session_model.proofs.Deeds.{TickKeeps, tick-keeps}
use Rattle.session_laws.specs.Fresh.{token_after}
use Rattle.session_laws.specs.Renewals.{token_in_life}

turned-up : (s : SenderState) (o : Option KeySet) → s.keys.token ≤ (turned_by s o).keys.token
turned-up s None = omega arith
turned-up s (Some set) = on (nat_lt s.keys.token set.token) refl
  where
    on : (b : Bool) → nat_lt s.keys.token set.token ≡ b → s.keys.token ≤ (if b then record s { keys = keys_in set; used = 0; fronted = None } else s).keys.token
    on false e = omega arith
    on true e = grind (arith, nat_tests, e)

advanced-up : (b : Bool) (mode : Mode) (count : ℕ) (s : SenderState) → s.keys.token ≤ (advanced_if b mode count s).keys.token
advanced-up false mode count s = omega arith
advanced-up true mode count s = let same = ap (λ k. k.token) (advanced-keys mode s count) in omega (arith, same)

renewed-up : (b : Bool) (sets : List KeySet) (s : SenderState) → s.keys.token ≤ (renewed_if b sets s).keys.token
renewed-up false sets s = omega arith
renewed-up true sets s = omega arith

module _ (p : Plan) (k : ℕ) where
  -- the key group protects under this token or a higher one
  abbrev IsUp : ℕ → List Deed → Type 0
  IsUp token deeds = token ≤ token_after p.config k deeds

  tick-up : (token : ℕ) (before : List Step) (now : ℕ) (closing : Bool) (samples : List Sampled) → TickKeeps p before now closing samples (IsUp token)
  tick-up token before now closing samples = record {
    came = λ earlier h. let s = sender_after p.config k earlier in let up = turned-up s (current s.sets now) in omega (arith, h, up);
    fresh = λ g earlier h. h;
    turn = λ g earlier there has h.
        let group = group_at p.config g in
        let up = advanced-up (shares group k) (mode_of group.security) (length (turn_of p before now closing samples earlier g).made) (sender_after p.config k earlier) in
        omega (arith, h, up);
  }

  one-up : (lived : Lived) (before : List Lived) → token_in_life p k before ≤ token_in_life p k (lived ∷ before)
  one-up (Stepped (Enable id)) before = omega arith
  one-up (Stepped (Disable id)) before = omega arith
  one-up (Stepped (Append set field)) before = omega arith
  one-up (Stepped (Tick ms closing samples done)) before =
      let token = token_in_life p k before in
      let now = moment_of (steps_in before) + ms in
      tick-keeps p (steps_in before) now closing samples (account_in p before).deeds (IsUp token) (tick-up token (steps_in before) now closing samples) (omega arith)
  one-up (Stepped (Pump entries)) before = omega arith
  one-up (Renewed keygroup sets) before = renewed-up (keygroup == k) sets (sender_after p.config k (account_in p before).deeds)

  pub tokens-up : (later before : List Lived) → token_in_life p k before ≤ token_in_life p k (later ++ before)
  tokens-up [] before = omega arith
  tokens-up (lived ∷ later) before =
      let rest = tokens-up later before in
      let one = one-up lived (later ++ before) in
      omega (arith, rest, one)
