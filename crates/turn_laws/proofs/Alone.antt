-- A group alone, all of whose datagrams are under one token: their numbers rise with the places of a writer.
use Rattle.std.proofs.Common.{◌≡◌, sym, subst, arith, ℕ, ◌+◌, ◌<◌, true, List, [], ◌∷◌, length, Option}
use Rattle.pubsub_model.specs.Cadence.{Answered, next_place}
use Rattle.pubsub_model.specs.Frames.{PlacedFrame}
use Rattle.ps_config.specs.declared.parts.Config.{Config}
use Rattle.ps_config.specs.declared.parts.GroupPart.{GroupPart}
use Rattle.reader_group.specs.Agreeing.{RiseTogether}
use Rattle.writer_group.specs.Turns.{GroupDeed, RefreshedWriter, HadGroupTurn, answer_to, made_in, took_by}
use Rattle.session_laws.specs.Pasts.{AreTurns, settings_at}
use Rattle.session_laws.proofs.Versions.Answering.{refresh-same}
use Rattle.turn_laws.specs.Sent.{given_on, numbered_in}
use Rattle.turn_laws.proofs.Places.{next_of, next_with, placed-to, quiet-to, turn-makes}
use Rattle.turn_laws.proofs.Rising.{Upto, upto-given}

alone-upto : (config : Config) (group : GroupPart) (w used : ℕ) (past : List GroupDeed) → AreTurns config group past → w < length group.writer → Upto (next_of group w past) (used + made_in past) (numbered_in group w used past)
alone-upto config group w used [] are within = record { rise = tt; under = tt }
alone-upto config group w used (RefreshedWriter other ∷ before) are within =
    let s = settings_at group w in
    let pairs = numbered_in group w used before in
    let last : used + made_in before ≡ used + (0 + made_in before) = omega arith in
    subst (λ (answered : List Answered). Upto (next_place s answered) (used + (0 + made_in before)) pairs) (sym (refresh-same group w other before))
    (subst (λ (n : ℕ). Upto (next_of group w before) n pairs) last (alone-upto config group w used before are within))
alone-upto config group w used (HadGroupTurn turn ∷ before) are within =
    let took = took_by w turn in
    let answered : Option PlacedFrame = answer_to group before w took in
    let pairs = numbered_in group w used before in
    let last : used + made_in before + length turn.made ≡ used + (length turn.made + made_in before) = omega arith in
    subst (λ (n : ℕ). Upto (next_with group w took before) n (given_on true answered (used + made_in before) (length turn.made) pairs)) last
    (upto-given (settings_at group w).first_number (next_of group w before) (next_with group w took before) (used + made_in before) (length turn.made) answered pairs
    (λ frame e. placed-to group w took before frame e) (λ frame e. turn-makes config group w before turn frame are.0 within e) (λ e. quiet-to group w took before e)
    (alone-upto config group w used before are.1 within))

pub alone-rise : (config : Config) (group : GroupPart) (w used : ℕ) (past : List GroupDeed) → AreTurns config group past → w < length group.writer → RiseTogether (numbered_in group w used past)
alone-rise config group w used past are within = (alone-upto config group w used past are within).rise
