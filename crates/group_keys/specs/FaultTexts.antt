-- What faults say of themselves.
use Rattle.std.specs.Prelude.{ℕ, List, ◌++◌, codes}
use Rattle.std.specs.Fmt.{decimal}
use Rattle.group_keys.specs.declared.ring.RingFault.{RingFault}
use Rattle.group_keys.specs.declared.ring.RingFault.TheVariants as ring_faults

abbrev pub ring_fault : RingFault → List ℕ
ring_fault ring_faults.NoKey =
    codes "the ring has no key set: give it one"
ring_fault (ring_faults.NotRising index) =
    codes "key set " ++ decimal index ++ codes " has a token or a moment that isn't above the one before: order them"
ring_fault ring_faults.FirstLate =
    codes "the first key set isn't used from moment 0"
ring_fault (ring_faults.BadLength index) =
    codes "the encrypting key of key set " ++ decimal index ++ codes " isn't as long as the policy wants"
