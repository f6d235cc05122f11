-- Session run, a reader by Arrivals and Records, where it is matched to a writer.
use Rattle.std.specs.Prelude.{ℕ, List}
use Rattle.seq_number.specs.Numbers.{place_from}
use Rattle.pubsub_model.specs.Records.{Arrival}
use Rattle.ps_config.specs.declared.parts.Config.{Config}
use Rattle.group_laws.specs.Matching.{IsMatchedTo}
use Rattle.reader_group.specs.Arrivals.{Way, Mark, marks, arrivals}
use Rattle.reader_group.specs.Agreeing.{MemberIs}
use Rattle.reader_group.specs.Members.{seat_at}
use Rattle.reader_group.specs.Settings.{setting_of, group_at as read_group_at}
use Rattle.writer_group.specs.Payloads.{writer_at}
use Rattle.session_model.specs.Steps.{Step}
use Rattle.writer_group.specs.Parts.{group_at}
use Rattle.session_model.specs.Events.{events, reader_at}

-- a reader's numbers stand for places from a writer's first number on
abbrev pub way_of : Config → ℕ → ℕ → ℕ → Way
way_of config r i first = record { index = i; seat = seat_at (setting_of config r).seats i; place = λ token number. place_from first }

abbrev pub first_number_of : Config → ℕ → ℕ → ℕ
first_number_of config g w = (writer_at (group_at config g) w).first_number

abbrev pub marks_at : Config → ℕ → ℕ → ℕ → List Step → List Mark
marks_at config r i first steps = marks (setting_of config r) (way_of config r i first) (events config r steps)

abbrev pub arrivals_at : Config → ℕ → ℕ → ℕ → List Step → List Arrival
arrivals_at config r i first steps = arrivals (setting_of config r) (way_of config r i first) (events config r steps)

-- the reader with index i of the read group r is matched to the writer with index w of the group g
abbrev pub IsMatchedIn : Config → ℕ → ℕ → ℕ → ℕ → Type 0
IsMatchedIn config r i g w = IsMatchedTo config (read_group_at config r) i (group_at config g) w

-- what the reader keeps is what Arrivals and Records have of it
abbrev pub ReadsByRecords : Config → ℕ → ℕ → ℕ → List Step → Type 0
ReadsByRecords config r i first steps =
    MemberIs (way_of config r i first) (marks_at config r i first steps) (reader_at config r i steps)
