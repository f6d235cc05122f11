-- The built-in configuration meets what the laws ask for.
use Rattle.std.proofs.Common.{◌≡◌, refl, sym, subst, arith, inl, ◌<◌, ◌≤◌, Contains, length, List, Option, None, IfSome}
use Rattle.message_guard.specs.Senders.{SenderState}
use Rattle.ps_config.specs.BuiltIn.{built_in_config, built_in_group, built_in_read_group, built_in_reader, built_in_writer}
use Rattle.ps_config.proofs.BuiltIn.{built_in_sound, built_in_types}
use Rattle.writer_group.specs.Payloads.{payloads_of}
use Rattle.writer_group.specs.Turning.{CanGiveFronts}
use Rattle.writer_group.specs.Turns.{GroupDeed, TurnInput, frames_in}
use Rattle.group_laws.specs.Matching.{IsMatched, IsMatchedTo, IsGroupTurn, MaySend}
use Rattle.writer_group.proofs.WrittenHeaders.{turn-written}
use Rattle.group_laws.proofs.Allowed.{header-types}

built-in-groups : IsMatched built_in_config built_in_group built_in_read_group
unfolding built_in_config built_in_group built_in_read_group
built-in-groups = record { publisher = refl; group_id = inl refl; version = inl refl; class_id = inl refl; layout = refl; security = refl; keygroup = refl }

pub built-in-matched : IsMatchedTo built_in_config built_in_read_group 0 built_in_group 0
unfolding built_in_config built_in_group built_in_read_group built_in_reader built_in_writer
built-in-matched = record {
  groups = built-in-groups;
  within = omega arith;
  reads = record { within = omega arith; id = refl; dataset = refl; offset = λ fixed. refl; size = λ fixed. refl };
}

built-in-there : Contains built_in_config.group built_in_group
unfolding built_in_config
built-in-there = (0, omega arith, refl)

built-in-sends : (count : Rattle.std.proofs.Common.ℕ) → MaySend built_in_config built_in_group count None
unfolding built_in_group
built-in-sends count = refl

one-writer : length built_in_group.writer ≡ 1
unfolding built_in_group
one-writer = refl

pub built-in-turn : (past : List GroupDeed) (input : TurnInput) → length input.on ≤ 1 → input.sender ≡ None → IsGroupTurn built_in_config built_in_group past input
built-in-turn past input few none = record {
  sound = built_in_sound;
  group_is = built-in-there;
  on = let one = one-writer in omega (arith, few, one);
  sender = let count = length (payloads_of built_in_config built_in_group (frames_in built_in_group past input)) in
      subst (λ (s : Option SenderState). MaySend built_in_config built_in_group count s) (sym none) (built-in-sends count);
  written = turn-written built_in_config built_in_group past input built_in_sound built-in-there (header-types built_in_config built_in_group built_in_types built-in-there) (subst (λ (s : Option SenderState). IfSome s CanGiveFronts) (sym none) tt);
}
