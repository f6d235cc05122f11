-- A session of more ticks than a script has.
use Rattle.std.specs.Prelude.{ℕ, ◌<◌, List, length}
use Rattle.reader_group.specs.Settings.{group_at as read_group_at}
use Rattle.writer_group.specs.Parts.{group_at}
use Rattle.session_model.specs.Events.{events}
use Rattle.session_model.specs.Keeping.{AreStepsOf, IsPlan}
use Rattle.session_model.specs.Sends.{IsRun}
use Rattle.session_model.specs.Steps.{Plan, Step}
use Rattle.session_laws.specs.Plays.{Play}
use Rattle.session_laws.specs.Reading.{IsMatchedIn}
use Rattle.session_laws.specs.Sessions.{SamplesRise, TakesWhatWasSent, pasts_at}

-- `InSession`, of a session of so many ticks beside the closing one: a reader is matched to a writer, each datagram that its read group takes was sent before, and
-- the versions that are sampled don't fall
pub record IsLongerSession (most : ℕ) (p : Plan) (r i g w : ℕ) (steps : List Step) : Type 0 where
  pub plan : IsPlan p
  pub steps_are : AreStepsOf most p steps
  pub run : IsRun p steps
  pub rise : SamplesRise p steps
  pub there : g < length p.config.group
  pub matched : IsMatchedIn p.config r i g w
  pub honest : TakesWhatWasSent p r steps

-- the writer and the reader, with what befell them
abbrev pub play_in : Plan → ℕ → ℕ → ℕ → ℕ → List Step → Play
play_in p r i g w steps = record {
  config = p.config;
  index = g;
  group = group_at p.config g;
  writer = w;
  readers = read_group_at p.config r;
  reader = i;
  pasts = pasts_at p steps;
  events = events p.config r steps;
}
