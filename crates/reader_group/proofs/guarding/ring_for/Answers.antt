use Rattle.std.proofs.Common.{◌≡◌, sym, subst, Option, ℕ, map}
use Rattle.group_keys.specs.Ring.{key_sets}
use Rattle.message_guard.specs.Protection.{keys_in}
use Rattle.reader_group.specs.Settings.{setup_by}
use Rattle.reader_group.proofs.Made.{keyed_keys, keygroup_there}
use Rattle.reader_group.proofs.guarding.ring_for.Goals as goal

pub returns-in-Some : goal.returns-in-Some
returns-in-Some c =
    let config = c.args.config.now in
    let group = c.args.group.now in
    let index = c.in-Some.index in
    let within = keygroup_there config group index c.requires.sound c.requires.group c.in-Some.is in
    let keys = keyed_keys config group index c.keys_at.result.now (key_sets c.ring_of.result) within c.keys_at.ensures c.ring_of.ensures.keys in
    subst (λ (o : Option ℕ). map keys_in (key_sets c.ring_of.result) ≡ (setup_by config group o).keys) (sym c.in-Some.is) keys
