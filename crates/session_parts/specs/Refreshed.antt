-- What refreshes of writers make of groups, whatever came before them.
use Rattle.std.specs.Prelude.{ℕ, List, ◌∷◌, Bool}
use Rattle.dataset_meta.specs.Metas.{MetaData}
use Rattle.dataset_meta.specs.Rows.{cons_if}
use Rattle.ps_config.specs.declared.parts.Config.{Config}
use Rattle.ps_config.specs.declared.parts.GroupPart.{GroupPart}
use Rattle.pubsub_states.specs.declared.component.Component.{Component}
use Rattle.writer_group.specs.declared.group.Group.{Group}
use Rattle.writer_group.specs.Standing.{IsGroup, IsMadeFor, MayGoOn, metas_for}
use Rattle.writer_group.specs.Turns.{GroupDeed, RefreshedWriter}
use Rattle.session_model.specs.Deeds.{Deed, RefreshedSet, refreshed_where, is_writer_below, is_writer_of, writer_indexes}
use Rattle.session_parts.specs.Holding.{AreSameButSet, MayAllGoOn}
use Rattle.session_parts.specs.Standing.{HavePast}

-- ---- all groups

-- with unchanged metas, the groups stand after one deed more
abbrev pub HaveDone : Config → Deed → List Group → List Group → Type 0
HaveDone config deed old new =
    (metas : List MetaData) (deeds : List Deed) → HavePast config metas deeds old → HavePast config metas (deed ∷ deeds) new

-- with unchanged metas, the groups stand after one deed more where the truth value tells that it was done, and else where they
-- stood
abbrev pub HaveDoneIf : Config → Bool → Deed → List Group → List Group → Type 0
HaveDoneIf config is_done deed old new =
    (metas : List MetaData) (deeds : List Deed) → HavePast config metas deeds old → HavePast config metas (cons_if is_done deed deeds) new

-- with unchanged metas, the groups may go on for as many turns as they could before
abbrev pub AllGoOn : Config → List Group → List Group → Type 0
AllGoOn config old new =
    (metas : List MetaData) (turns : ℕ) → MayAllGoOn config metas turns old → MayAllGoOn config metas turns new

-- the groups stand after a refresh of the writers of this data set, whose meta may be another from now on
abbrev pub HaveRefreshedSet : Config → ℕ → List Group → List Group → Type 0
HaveRefreshedSet config set old new =
    (metas others : List MetaData) (deeds : List Deed) → AreSameButSet set metas others
    → HavePast config metas deeds old → HavePast config others (RefreshedSet set ∷ deeds) new

-- the groups may go on for as many turns as before this data set's meta became another
abbrev pub AllGoOnGrown : Config → ℕ → List Group → List Group → Type 0
AllGoOnGrown config set old new =
    (metas others : List MetaData) (turns : ℕ) → AreSameButSet set metas others
    → MayAllGoOn config metas turns old → MayAllGoOn config others turns new

-- ---- one group

-- whichever configuration with this part a group was made for, it still is
abbrev pub StaysMadeFor : GroupPart → Group → Group → Type 0
StaysMadeFor part old new = (config : Config) → IsMadeFor config part old → IsMadeFor config part new

-- with unchanged metas, the group stands after a refresh more of this writer where the truth value tells of one, and else where
-- it stood
abbrev pub IsRefreshedIf : Bool → ℕ → Group → Group → Type 0
IsRefreshedIf is_refreshed writer old new =
    (metas : ℕ → MetaData) (part : GroupPart) (past : List GroupDeed)
    → IsGroup metas part past old → IsGroup metas part (cons_if is_refreshed (RefreshedWriter writer) past) new

-- the group with this index stands after a refresh of its writers at or below the component
abbrev pub IsRefreshedBelow : Component → ℕ → GroupPart → Group → Group → Type 0
IsRefreshedBelow component g part old new =
    (metas : ℕ → MetaData) (past : List GroupDeed) → IsGroup metas part past old
    → IsGroup metas part (refreshed_where (is_writer_below component g) past (writer_indexes part)) new

-- with unchanged metas, the group may go on for as many turns as it could before
abbrev pub GoesOn : GroupPart → Group → Group → Type 0
GoesOn part old new =
    (metas : ℕ → MetaData) (turns : ℕ) → MayGoOn metas part turns old → MayGoOn metas part turns new

-- the group stands after a refresh of its writers of this data set, whose meta may be another from now on
abbrev pub IsRefreshedOf : ℕ → GroupPart → Group → Group → Type 0
IsRefreshedOf set part old new =
    (metas others : List MetaData) (past : List GroupDeed) → AreSameButSet set metas others
    → IsGroup (metas_for part metas) part past old
    → IsGroup (metas_for part others) part (refreshed_where (is_writer_of part set) past (writer_indexes part)) new

-- the group may go on for as many turns as before this data set's meta became another
abbrev pub GoesOnGrown : ℕ → GroupPart → Group → Group → Type 0
GoesOnGrown set part old new =
    (metas others : List MetaData) (turns : ℕ) → AreSameButSet set metas others
    → MayGoOn (metas_for part metas) part turns old → MayGoOn (metas_for part others) part turns new
