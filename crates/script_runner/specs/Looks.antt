-- What the watches of threads counted while a session ran.
use Rattle.std.specs.Prelude.{◌≡◌, ℕ, ◌<◌, ◌≤◌, List, map, All}
use Rattle.std.specs.List.{AllZip, flat_map, range_with_len}
use Rattle.app_threads.specs.declared.done.Looked.{Looked}
use Rattle.app_threads.specs.Looks.{IsLooked, NeverFalls, counts_in}
use Rattle.ps_report.specs.declared.closed.WatchEnd.{WatchEnd}
use Rattle.ps_script.specs.declared.script.Line.{Line}
use Rattle.session_model.specs.Steps.{Plan, Step}
use Rattle.pubsub_engine.specs.Authored.{watch_of}
use Rattle.script_player.specs.Playing.{stores_at}
use Rattle.script_runner.specs.Lists.{watches_by}

-- *looks*: there are those of each watch of the thread. At no reader does a count fall, and each counts stores that the reader had when these steps were over: of
-- rows that it held at the end of a pump.
pub record AreLooksBy (p : Plan) (steps : List Step) (lines : List Line) (thread : ℕ) (looks : List Looked) : Type 0 where
  pub watches : AllZip IsLooked (watches_by thread lines) looks
  pub rising : (reader : ℕ) → NeverFalls (counts_in reader looks)
  pub counted : (reader : ℕ) → All (λ count. count ≤ stores_at p steps reader) (counts_in reader looks)

-- the looks of the eight threads, in order
pub record AreLooks (p : Plan) (steps : List Step) (lines : List Line) (watches : List WatchEnd) : Type 0 where
  pub looks : ℕ → List Looked
  pub of_threads : (thread : ℕ) → thread < 8 → AreLooksBy p steps lines thread (looks thread)
  pub told : watches ≡ flat_map (λ thread. map (watch_of thread) (looks thread)) (range_with_len 0 8)
