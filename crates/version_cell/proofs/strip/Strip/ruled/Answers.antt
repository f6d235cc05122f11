use Rattle.std.proofs.Common.{rules, arith}
use Rattle.version_cell.proofs.strip.Strip.ruled.Goals as goal

pub ruled_in-requires : goal.ruled_in-requires
ruled_in-requires c = (
  search rules,
  (
    search rules,
    (
      search rules,
      (
        search rules,
        (
          search rules,
          (
            search rules,
            (c.requires.start 34 (omega arith) (omega arith), c.requires.rule),
          ),
        ),
      ),
    ),
  ),
)

pub ruled_in-requires-then-row-le32 : goal.ruled_in-requires-then-row-le32
ruled_in-requires-then-row-le32 c = (
  search rules,
  (
    search rules,
    (
      search rules,
      (
        search rules,
        (
          search rules,
          (
            search rules,
            (c.requires.start 58 (omega arith) (omega arith), c.requires.rule),
          ),
        ),
      ),
    ),
  ),
)

pub ruled_in-requires-then-row-le80 : goal.ruled_in-requires-then-row-le80
ruled_in-requires-then-row-le80 c = (
  search rules,
  (
    search rules,
    (
      search rules,
      (
        search rules,
        (
          search rules,
          (
            search rules,
            (c.requires.start 106 (omega arith) (omega arith), c.requires.rule),
          ),
        ),
      ),
    ),
  ),
)

pub ruled_in-requires-else-row-le80 : goal.ruled_in-requires-else-row-le80
ruled_in-requires-else-row-le80 c = (
  search rules,
  (
    search rules,
    (
      search rules,
      (
        search rules,
        (
          search rules,
          (
            search rules,
            (c.requires.start 151 (omega arith) (omega arith), c.requires.rule),
          ),
        ),
      ),
    ),
  ),
)
