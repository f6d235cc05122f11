-- What a sender gave the messages of a writer: the numbers of the datagrams, each with the place of the writer's message. Lists have the latest first.
use Rattle.std.specs.Prelude.{◌≡◌, ℕ, zero, suc, ◌+◌, List, [], ◌∷◌, length, Bool, true, false, ◌&&◌, ◌==◌, if◌then◌else◌, Option, Some, None, Contains}
use Rattle.seq_number.specs.Numbers.{number_of_place, place_from}
use Rattle.pubsub_model.specs.Frames.{PlacedFrame, place_of}
use Rattle.ps_config.specs.declared.parts.Config.{Config}
use Rattle.ps_config.specs.declared.parts.GroupPart.{GroupPart}
use Rattle.writer_group.specs.Parts.{group_at}
use Rattle.writer_group.specs.Turns.{GroupDeed, RefreshedWriter, HadGroupTurn, answer_to, made_in, took_by}
use Rattle.session_model.specs.Deeds.{Deed, RefreshedBelow, RefreshedSet, CameTo, TookTurn, RenewedKeys, group_past, sender_after}
use Rattle.session_laws.specs.Fresh.{token_after}

-- ---- a turn

-- the numbers after the last one used, one for each of so many datagrams, each with this place
abbrev pub numbered_on : ℕ → ℕ → ℕ → List (ℕ × ℕ) → List (ℕ × ℕ)
numbered_on used place zero before = before
numbered_on used place (suc count) before = (used + suc count, place) ∷ numbered_on used place count before

-- those of a turn, if it counts and the writer answered
abbrev pub given_on : Bool → Option PlacedFrame → ℕ → ℕ → List (ℕ × ℕ) → List (ℕ × ℕ)
given_on false answer used count before = before
given_on true None used count before = before
given_on true (Some frame) used count before = numbered_on used (place_of frame) count before

-- ---- a group alone, all under one token

-- of its writer with this index, by a sender that had used so many numbers before the group's first turn
abbrev pub numbered_in : GroupPart → ℕ → ℕ → List GroupDeed → List (ℕ × ℕ)
numbered_in group w used [] = []
numbered_in group w used (RefreshedWriter other ∷ before) = numbered_in group w used before
numbered_in group w used (HadGroupTurn turn ∷ before) =
    given_on true (answer_to group before w (took_by w turn)) (used + made_in before) (length turn.made)
    (numbered_in group w used before)

-- ---- all groups of a key group

-- of the writer w of the group g, by the sender of the key group k under this token
abbrev pub sent_in : Config → ℕ → ℕ → ℕ → ℕ → List Deed → List (ℕ × ℕ)
sent_in config k g w token [] = []
sent_in config k g w token (RefreshedBelow component ∷ before) = sent_in config k g w token before
sent_in config k g w token (RefreshedSet set ∷ before) = sent_in config k g w token before
sent_in config k g w token (CameTo moment ∷ before) = sent_in config k g w token before
sent_in config k g w token (TookTurn other turn ∷ before) =
    given_on ((other == g) && (token_after config k before == token))
    (answer_to (group_at config g) (group_past config g before) w (took_by w turn))
    (sender_after config k before).used (length turn.made) (sent_in config k g w token before)
sent_in config k g w token (RenewedKeys keygroup sets ∷ before) = sent_in config k g w token before

-- under each token
abbrev pub sends_in : Config → ℕ → ℕ → ℕ → List Deed → ℕ → List (ℕ × ℕ)
sends_in config k g w deeds token = sent_in config k g w token deeds

-- ---- places by their 16 bits

-- in a datagram of a token and a number the 16 bits of the place that was sent with them stand for it
abbrev pub NamesPlaces : (ℕ → ℕ → ℕ → ℕ) → (ℕ → List (ℕ × ℕ)) → Type 0
NamesPlaces place sent =
    (token number own : ℕ) → Contains (sent token) (number, own) → place token number (number_of_place own) ≡ own

-- the place that stands with a number, or 0
abbrev pub place_with : ℕ → List (ℕ × ℕ) → ℕ
place_with number [] = 0
place_with number (pair ∷ before) = if pair.0 == number then pair.1 else place_with number before

-- the first place with these 16 bits, from that on which was sent with the datagram's token and number
abbrev pub place_near : (ℕ → List (ℕ × ℕ)) → ℕ → ℕ → ℕ → ℕ
place_near sent token number own = place_from (place_with number (sent token)) own
