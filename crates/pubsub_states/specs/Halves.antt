-- The two halves of the tree, which are alike: heads, each followed by its members.
use Rattle.std.specs.Prelude.{ℕ}
use Rattle.pubsub_states.specs.declared.component.Component.{Component}
use Rattle.pubsub_states.specs.declared.component.Component.TheVariants.{Group, Writer, ReadGroup, Reader}
use Rattle.pubsub_states.specs.declared.half.Half.{Half}
use Rattle.pubsub_states.specs.declared.half.Half.TheVariants.{Publishing, Subscribing}

abbrev pub head_of : Half → ℕ → Component
head_of Publishing g = Group g
head_of Subscribing r = ReadGroup r

abbrev pub member_of : Half → ℕ → ℕ → Component
member_of Publishing g w = Writer g w
member_of Subscribing r i = Reader r i
