use Rattle.json_tap.proofs.Listed.{SoFar, messages_at}
use Rattle.json_tap.proofs.message.parts_at.Given as goal

-- the messages so far are the parts
abbrev pub invariant-loop-index : goal.invariant-loop-index
invariant-loop-index l = SoFar l.config (messages_at l.ids l.payload l.places) l.index l.parts.items
