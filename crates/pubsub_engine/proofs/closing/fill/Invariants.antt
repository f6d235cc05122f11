use Rattle.std.proofs.Common.{◌≡◌, take}
use Rattle.app_threads.specs.Items.{versions_in}
use Rattle.pubsub_engine.specs.Authored.{filled}
use Rattle.pubsub_engine.proofs.closing.fill.Given as goal

abbrev pub invariant-loop-written : goal.invariant-loop-written
invariant-loop-written l = l.threads.items ≡ filled l.thread (versions_in l.set (take l.written-index l.versions)) l.fn.threads.items
