-- In a session of few ticks each data frame of a writer has a number of its own.
use Rattle.std.proofs.Common.{◌≡◌, ◌≤◌, ◌+◌, ◌<◌, arith, ℕ, List, length}
use Rattle.std.specs.Prelude.{◌%◌}
use Rattle.std.proofs.lemmas.Option.{slice_get_within}
use Rattle.pubsub_model.specs.Cadence.{Settings, WriterDeed}
use Rattle.pubsub_model.proofs.PlaceLaws.{log-in_row}
use Rattle.dataset_writer.specs.Turns.{model_settings}
use Rattle.writer_group.specs.Parts.{group_at}
use Rattle.writer_group.specs.Payloads.{writer_at}
use Rattle.writer_group.specs.Turns.{settings_of, writer_past}
use Rattle.session_model.specs.Steps.{Plan}
use Rattle.session_model.specs.Counts.{ticks_in}
use Rattle.session_model.specs.Deeds.{group_past}
use Rattle.session_model.specs.Lives.{Lived, account_in, log_in, steps_in}
use Rattle.session_model.proofs.Lasting.{ticks-few}
use Rattle.session_model.proofs.Ticks.{log-few-in}
use Rattle.pubsub_engine.specs.declared.session.Session.{Session}
use Rattle.pubsub_engine.specs.Holding.{ticks_of}
use Rattle.pubsub_engine.specs.Living.{StandsIn}
use Rattle.pubsub_engine.specs.Logs.{HasOwnNumbers}

same-index : (first count j k one other : ℕ) → count ≤ 65536 → j < count → k < count → one ≡ first + j → other ≡ first + k → one % 65536 ≡ other % 65536 → j ≡ k
same-index first count j k one other few low_j low_k one_is other_is same = omega arith

pub own-numbers : (p : Plan) (life : List Lived) (s : Session) (g w : ℕ) → ticks_of s < 65536 → StandsIn p life s → HasOwnNumbers (log_in p life g w)
own-numbers p life s g w few stands j k one other at_j at_k same =
    let log = log_in p life g w in
    let settings : Settings = model_settings (settings_of (writer_at (group_at p.config g) w)) in
    let past : List WriterDeed = writer_past w (group_past p.config g (account_in p life).deeds) in
    let short : length log ≤ ticks_in (steps_in life) = log-few-in p g w life in
    let came : ticks_in (steps_in life) ≤ ticks_of s + 1 = ticks-few (ticks_of s) p (steps_in life) stands.steps_are in
    same-index settings.first_number (length log) j k one.0 other.0 (omega (arith, short, came, few)) (slice_get_within log j one at_j) (slice_get_within log k other at_k)
    (log-in_row settings past j one at_j) (log-in_row settings past k other at_k) same
