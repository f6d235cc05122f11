-- A reader that is matched to a writer, where what comes was sent: the premises of *held rows*, and what they give.
use Rattle.std.specs.Prelude.{◌≡◌, ℕ, ◌+◌, ◌%◌, ◌≤◌, List, [], ◌∷◌, Option, Some, slice_get}
use Rattle.seq_number.specs.Numbers.{place_from}
use Rattle.dataset_meta.specs.DataValues.{DataValue}
use Rattle.dataset_meta.specs.Metas.{MetaData}
use Rattle.pubsub_model.specs.Cadence.{Answered, next_place}
use Rattle.pubsub_model.specs.Records.{Arrival, Came, Cut, Item}
use Rattle.config_tables.specs.declared.words.NumberingWord.{NumberingWord}
use Rattle.config_tables.specs.declared.words.NumberingWord.TheVariants as words
use Rattle.ps_config.specs.declared.parts.Config.{Config}
use Rattle.ps_config.specs.declared.parts.GroupPart.{GroupPart}
use Rattle.ps_config.specs.declared.parts.ReadGroupPart.{ReadGroupPart}
use Rattle.ps_config.specs.FixedSound.{IsFixedSound}
use Rattle.ps_config.specs.Sound.{IsSound}
use Rattle.writer_group.specs.Payloads.{writer_at}
use Rattle.writer_group.specs.Turns.{GroupDeed, writer_past}
use Rattle.reader_group.specs.Members.{MemberValue, seat_at}
use Rattle.reader_group.specs.Plain.{Setting, Event, member_at, plain}
use Rattle.reader_group.specs.Settings.{setting_by}
use Rattle.reader_group.specs.Arrivals.{Way, Mark, arrivals, marks}
use Rattle.reader_group.specs.Agreeing.{AreRestarts}
use Rattle.group_laws.specs.Matching.{IsMatchedTo}
use Rattle.pubsub_model.specs.Answers.{IsAnswerCut, IsBareAnswer, IsRowSent, IsLogged}
use Rattle.session_laws.specs.Pasts.{IsPast, CameAsMade, answered_by, settings_at}

-- a writer of a group, a reader of a read group, what all groups lived through, by their indexes, and what befell the read group
pub record Play : Type 0 where
  pub config : Config
  pub index : ℕ
  pub group : GroupPart
  pub writer : ℕ
  pub readers : ReadGroupPart
  pub reader : ℕ
  pub pasts : ℕ → List GroupDeed
  pub events : List Event

abbrev pub its_setting : Play → Setting
its_setting p = setting_by p.config p.readers

-- the reader's numbers stand for places from the writer's first number on
abbrev pub its_way : Play → Way
its_way p = record { index = p.reader; seat = seat_at (its_setting p).seats p.reader; place = λ token number. place_from (writer_at p.group p.writer).first_number }

-- the reader's meta
abbrev pub its_meta : Play → MetaData
its_meta p = (its_way p).seat.meta

abbrev pub its_past : Play → List GroupDeed
its_past p = p.pasts p.index

-- what the writer answered
abbrev pub its_answers : Play → List Answered
its_answers p = answered_by p.group p.writer (its_past p)

-- what came to the reader, and what it keeps
abbrev pub its_marks : Play → List Mark
its_marks p = marks (its_setting p) (its_way p) p.events

abbrev pub its_arrivals : Play → List Arrival
its_arrivals p = arrivals (its_setting p) (its_way p) p.events

abbrev pub its_member : Play → MemberValue
its_member p = member_at (plain (its_setting p) p.events).members p.reader

-- the premises; the writer has sent no more than so many data frames
pub record IsPlay (most : ℕ) (p : Play) : Type 0 where
  pub sound : IsSound p.config
  pub fixed : IsFixedSound p.config
  pub there : slice_get p.config.group p.index ≡ Some p.group
  pub matched : IsMatchedTo p.config p.readers p.reader p.group p.writer
  pub pasts : (index : ℕ) (group : GroupPart) → slice_get p.config.group index ≡ Some group → IsPast p.config group (p.pasts index)
  pub came : CameAsMade (its_setting p) p.config p.pasts p.events
  pub restarts : AreRestarts p.events
  pub few : next_place (settings_at p.group p.writer) (its_answers p) ≤ (writer_at p.group p.writer).first_number + most

-- ---- what comes

-- each item of the list is such
abbrev pub ItemsAre : (Item → Type 0) → List Arrival → Type 0
ItemsAre P [] = Unit {0}
ItemsAre P (Cut why ∷ before) = ItemsAre P before
ItemsAre P (Came item ∷ before) = P item × ItemsAre P before

-- the frame that comes is one of the writer's answers, cut to the reader's fields; with no numbering without its place
abbrev pub IsAnswerBy : NumberingWord → MetaData → List Answered → Item → Type 0
IsAnswerBy words.Message meta answered item = IsAnswerCut meta answered item
IsAnswerBy words.None meta answered item = IsBareAnswer meta answered item

-- each item is the writer's answer
abbrev pub ComesFromWriter : Play → Type 0
ComesFromWriter p = ItemsAre (IsAnswerBy (its_way p).seat.part.numbering (its_meta p) (its_answers p)) (its_arrivals p)

-- ---- what is held

-- A row that the reader keeps is that of a turn of the writer with a data frame, cut to the reader's fields; the writer's log has the turn's version at the
-- frame's place, and names it by the number.
pub record HoldsVersion (p : Play) (number : Option ℕ) (row : List DataValue) : Type 0 where
  pub place : ℕ
  pub sent : IsRowSent (its_meta p) (its_answers p) (record { place = place; row = row })
  pub logged : IsLogged (settings_at p.group p.writer) (writer_past p.writer (its_past p)) place sent.turn.turn.version
  pub number_is : (n : ℕ) → number ≡ Some n → n ≡ place % 65536
