-- That a writer keeps a row of a meta has one proof at most.
use Rattle.std.proofs.Props.{props}
use Rattle.dataset_meta.specs.Metas.{MetaData}
use Rattle.row_words.specs.Props.{Belongs-prop}
use Rattle.dataset_writer.specs.declared.writer.Writer.{Writer}
use Rattle.dataset_writer.specs.Standing.{HoldsRowOf}

pub HoldsRowOf-prop : (meta : MetaData) (writer : Writer) → IsProp (HoldsRowOf meta writer)
HoldsRowOf-prop meta writer = hlevel (Belongs-prop, props)
