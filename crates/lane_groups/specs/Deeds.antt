-- Session run over turns alone, with all components enabled. Lists of deeds have the latest first, and turns and datagrams stand in order.
use Rattle.std.specs.Prelude.{ℕ, List, [], ◌∷◌, ◌++◌, fold, take}
use Rattle.ps_config.specs.declared.parts.Config.{Config}
use Rattle.writer_group.specs.Turns.{GroupDeed, RefreshedWriter, HadGroupTurn}
use Rattle.session_model.specs.Steps.{Plan}
use Rattle.session_model.specs.Deeds.{Deed, group_past, tick_deeds}
use Rattle.lane_groups.specs.declared.turn.TurnIn.{TurnIn}

-- no data set grows
abbrev pub plan_of : Config → Plan
plan_of config = record { config = config; full = config.dataset }

-- what the publisher has done after one turn more: it has a tick
abbrev pub ticked : Config → List Deed → TurnIn → List Deed
ticked config deeds turn = tick_deeds (plan_of config) [] turn.now turn.closing turn.rows.items deeds

-- what it has done after these turns
abbrev pub turns_deeds : Config → List TurnIn → List Deed
turns_deeds config turns = fold (ticked config) [] turns

-- after the first n of them
abbrev pub deeds_behind : Config → List TurnIn → ℕ → List Deed
deeds_behind config turns n = turns_deeds config (take n turns)

-- the datagrams that a group made, in order
abbrev pub datagrams_of : List GroupDeed → List (List ℕ)
datagrams_of [] = []
datagrams_of (RefreshedWriter writer ∷ before) = datagrams_of before
datagrams_of (HadGroupTurn turn ∷ before) = datagrams_of before ++ turn.made

-- those of the group with this index
abbrev pub datagrams_by : Config → ℕ → List Deed → List (List ℕ)
datagrams_by config g deeds = datagrams_of (group_past config g deeds)
