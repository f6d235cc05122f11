-- The datagrams of a session that one key group protects, in order, and the turns of a writer with their tokens.
use Rattle.std.specs.Prelude.{◌≡◌, ◌≢◌, ⊤, ℕ, List, [], ◌∷◌, ◌++◌, All, Bool, true, false, ◌==◌, if◌then◌else◌, Option, None, Some, option_map}
use Rattle.std.specs.List.{cons_option}
use Rattle.pubsub_model.specs.Cadence.{Answered, WriterTurn, cadence, is_key, next_place}
use Rattle.pubsub_model.specs.Frames.{Whole}
use Rattle.ps_config.specs.declared.parts.Config.{Config}
use Rattle.session_model.specs.Steps.{Plan, Step}
use Rattle.session_model.specs.Deeds.{Deed, RefreshedBelow, RefreshedSet, CameTo, TookTurn, RenewedKeys, deeds, group_past, sender_after, shares}
use Rattle.writer_group.specs.Parts.{group_at}
use Rattle.writer_group.specs.Turns.{GroupDeed, GroupTurn, answer_of, took_by, writer_past}
use Rattle.session_laws.specs.Headline.{answered_turn}
use Rattle.session_laws.specs.Pasts.{settings_at}

abbrev pub append_if : Bool → List (List ℕ) → List (List ℕ) → List (List ℕ)
append_if true earlier made = earlier ++ made
append_if false earlier made = earlier

abbrev pub protected_in : Config → ℕ → List Deed → List (List ℕ)
protected_in config k [] = []
protected_in config k (RefreshedBelow component ∷ before) = protected_in config k before
protected_in config k (RefreshedSet set ∷ before) = protected_in config k before
protected_in config k (CameTo moment ∷ before) = protected_in config k before
protected_in config k (TookTurn g turn ∷ before) = append_if (shares (group_at config g) k) (protected_in config k before) turn.made
protected_in config k (RenewedKeys keygroup sets ∷ before) = protected_in config k before

abbrev pub protected_by : Plan → ℕ → List Step → List (List ℕ)
protected_by p k steps = protected_in p.config k (deeds p steps)

-- ---- the turns of a writer under each token

-- the token under which a key group protects after these deeds
abbrev pub token_after : Config → ℕ → List Deed → ℕ
token_after config k deeds = (sender_after config k deeds).keys.token

-- a turn of a writer, with its answer and the token under which its group had it
pub record KeyedTurn : Type 0 where
  pub token : ℕ
  pub answered : Answered

abbrev pub keyed_turn : Config → ℕ → ℕ → ℕ → List Deed → WriterTurn → KeyedTurn
keyed_turn config k g w before turn = record {
  token = token_after config k before;
  answered = answered_turn (settings_at (group_at config g) w) (writer_past w (group_past config g before)) turn;
}

-- the turn of the writer w of the group g in a turn of a group, if it has one there
abbrev pub keyed_in : Config → ℕ → ℕ → ℕ → List Deed → ℕ → GroupTurn → Option KeyedTurn
keyed_in config k g w before other turn =
    if other == g then option_map (keyed_turn config k g w before) (took_by w turn) else None

-- all turns of the writer w of the group g, which the key group k protects; the latest first
abbrev pub keyed_turns : Config → ℕ → ℕ → ℕ → List Deed → List KeyedTurn
keyed_turns config k g w [] = []
keyed_turns config k g w (RefreshedBelow component ∷ before) = keyed_turns config k g w before
keyed_turns config k g w (RefreshedSet set ∷ before) = keyed_turns config k g w before
keyed_turns config k g w (CameTo moment ∷ before) = keyed_turns config k g w before
keyed_turns config k g w (TookTurn other turn ∷ before) =
    cons_option (keyed_in config k g w before other turn) (keyed_turns config k g w before)
keyed_turns config k g w (RenewedKeys keygroup sets ∷ before) = keyed_turns config k g w before

-- a turn under a token that no turn before it had is answered by a key frame
abbrev pub BeginWithKeys : List KeyedTurn → Type 0
BeginWithKeys [] = ⊤
BeginWithKeys (turn ∷ before) =
    (All (λ earlier. earlier.token ≢ turn.token) before → is_key turn.answered ≡ true) × BeginWithKeys before

-- the turn of the writer w of the group g, after this past of the group, is answered by its row whole, at the writer's next place
abbrev pub IsAnsweredWhole : Config → List GroupDeed → ℕ → ℕ → WriterTurn → Type 0
IsAnsweredWhole config past g w turn =
    let s = settings_at (group_at config g) w in
    answer_of (group_at config g) past w turn ≡ Some (Whole (next_place s (cadence s (writer_past w past))) turn.row)
