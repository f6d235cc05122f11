-- Lives, in which rings renew keys: the turns of a writer with their tokens.
use Rattle.std.specs.Prelude.{◌≡◌, ℕ, ◌+◌, ◌<◌, List, length, true}
use Rattle.pubsub_model.specs.Cadence.{Answered}
use Rattle.writer_group.specs.Parts.{group_at}
use Rattle.session_model.specs.Deeds.{group_past, is_rekeyed}
use Rattle.session_model.specs.Lives.{Lived, account_in, steps_in}
use Rattle.session_model.specs.Steps.{Plan, moment_of}
use Rattle.session_laws.specs.Fresh.{KeyedTurn, keyed_turns}
use Rattle.session_laws.specs.Pasts.{answered_by}

-- all turns of the writer w of the group g, each with the token under which the key group k protected then; the latest first
abbrev pub keyed_turns_in : Plan → ℕ → ℕ → ℕ → List Lived → List KeyedTurn
keyed_turns_in p k g w life = keyed_turns p.config k g w (account_in p life).deeds

-- what the writer answered
abbrev pub answered_in : Plan → ℕ → ℕ → List Lived → List Answered
answered_in p g w life = answered_by (group_at p.config g) w (group_past p.config g (account_in p life).deeds)

-- the writer is one of the group, whose key group has another token once a tick after this life comes to its moment, so many milliseconds later
pub record IsRekeyedBy (p : Plan) (g w : ℕ) (before : List Lived) (ms : ℕ) : Type 0 where
  pub there : g < length p.config.group
  pub within : w < length (group_at p.config g).writer
  pub changes : is_rekeyed p.config (moment_of (steps_in before) + ms) (account_in p before).deeds g ≡ true
