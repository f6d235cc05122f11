-- That a reader holds a row of a meta has one proof at most.
use Rattle.std.proofs.Props.{props}
use Rattle.dataset_meta.specs.Metas.{MetaData}
use Rattle.row_words.specs.Props.{Belongs-prop}
use Rattle.dataset_reader.specs.declared.reader.Reader.{Reader}
use Rattle.dataset_reader.specs.Reader.{IsReaderOf}

pub IsReaderOf-prop : (meta : MetaData) (reader : Reader) → IsProp (IsReaderOf meta reader)
IsReaderOf-prop meta reader = hlevel (Belongs-prop, props)
