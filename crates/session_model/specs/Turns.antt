-- What the making of a turn's datagrams promised.
use Rattle.std.specs.Prelude.{◌≡◌, ⊤, ℕ, ◌+◌, ◌<◌, ◌≤◌, List, [], ◌∷◌, length, fold, Bool, true}
use Rattle.std.specs.List.{range_with_len}
use Rattle.ps_config.specs.declared.parts.Config.{Config}
use Rattle.ps_config.specs.declared.parts.GroupPart.{GroupPart}
use Rattle.writer_group.specs.declared.sampled.Sampled.{Sampled}
use Rattle.writer_group.specs.Limits.{most_datagrams}
use Rattle.writer_group.specs.Payloads.{IsFrameIf, meta_at, payloads_of, writer_at}
use Rattle.writer_group.specs.Sealing.{AreWritten}
use Rattle.writer_group.specs.Turns.{GroupDeed, TurnInput, answer_by, envelope_of, frames_in, turn_datagrams}
use Rattle.session_model.specs.Steps.{Plan, Step, Enable, Disable, Append, Tick, Pump, moment_of}
use Rattle.session_model.specs.Deeds.{Deed, deeds, group_past, has_turn, rekeyed, turn_input, turned_on}
use Rattle.writer_group.specs.Parts.{group_at}

-- its headers can be written, what each writer answered is a frame of its data set, and it makes no more than 1,024 datagrams
pub record HoldsTurn (config : Config) (part : GroupPart) (past : List GroupDeed) (input : TurnInput) : Type 0 where
  pub written : AreWritten (envelope_of config part past) input.sender 0 (payloads_of config part (frames_in part past input))
  pub answers : (writer : ℕ) → IsFrameIf (writer_at part writer) (meta_at part input.told.metas writer) (answer_by part past input writer)
  pub few : length (turn_datagrams config part past input) ≤ most_datagrams

-- the turn of a group at a tick after these steps, once the publisher did these deeds, if the group has one
abbrev pub HoldsIfTurned : Plan → List Step → ℕ → Bool → List Sampled → List Deed → ℕ → Type 0
HoldsIfTurned p before now closing samples so_far g =
    has_turn p before now closing so_far g ≡ true
    → HoldsTurn p.config (group_at p.config g) (group_past p.config g so_far) (turn_input p before now closing samples so_far g)

-- what the publisher did before the turn of this group, once it did these deeds before the tick
abbrev pub deeds_till : Plan → List Step → ℕ → Bool → List Sampled → List Deed → ℕ → List Deed
deeds_till p before now closing samples earlier g =
    fold (turned_on p before now closing samples) (rekeyed p.config now earlier) (range_with_len 0 g)

-- once it did those of the steps
abbrev pub deeds_before : Plan → List Step → ℕ → Bool → List Sampled → ℕ → List Deed
deeds_before p before now closing samples g = deeds_till p before now closing samples (deeds p before) g

-- all turns of these steps
abbrev pub TurnsHold : Plan → List Step → Type 0
TurnsHold p [] = ⊤
TurnsHold p (Enable id ∷ before) = TurnsHold p before
TurnsHold p (Disable id ∷ before) = TurnsHold p before
TurnsHold p (Append set field ∷ before) = TurnsHold p before
TurnsHold p (Tick ms closing samples done ∷ before) =
    ((g : ℕ) → g < length p.config.group → let now = moment_of before + ms in
    HoldsIfTurned p before now closing samples (deeds_before p before now closing samples g) g)
    × TurnsHold p before
TurnsHold p (Pump entries ∷ before) = TurnsHold p before
