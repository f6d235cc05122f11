use Rattle.std.proofs.Common.{◌≡◌, ◌++◌, map, take}
use Rattle.pubsub_engine.specs.Authored.{byte_of, watch_of}
use Rattle.pubsub_engine.proofs.closing.push_watches.Given as goal

abbrev pub invariant-loop-looked : goal.invariant-loop-looked
invariant-loop-looked l = l.watches.items ≡ l.initial.watches.items ++ map (watch_of (byte_of l.done.list)) (take l.looked-index l.done.looks)
