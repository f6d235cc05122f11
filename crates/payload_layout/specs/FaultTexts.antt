-- What faults say of themselves.
use Rattle.std.specs.Prelude.{ℕ, List, codes}

abbrev pub bad_sizes : List ℕ
bad_sizes = codes "the sizes of the frames pass the payload's end"
