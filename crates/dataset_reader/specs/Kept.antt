-- What a reader keeps of the frames that came to it (OPC 10000-14 6.2.9, DataSetReader).
use Rattle.std.specs.Prelude.{ℕ, List, [], Option, None}
use Rattle.dataset_meta.specs.DataValues.{DataValue}
use Rattle.pubsub_model.specs.declared.reading.Break.{Break}
use Rattle.pubsub_model.specs.declared.reading.Why.{Why}
use Rattle.pubsub_model.specs.declared.reading.Why.TheVariants.{Start}

-- Since the last cut: the number at which the last record stands, the greatest stamp, and the row that is held with its number. Over all cuts: why no row
-- is held, how many breaks there were, and the last eight, the latest first.
pub record Kept : Type 0 where
  pub last : Option ℕ
  pub stamp : Option ℕ
  pub number : Option ℕ
  pub row : Option (List DataValue)
  pub why : Why
  pub breaks : ℕ
  pub recent : List Break

-- before any frame
abbrev pub fresh : Kept
fresh =
    record {
      last = None;
      stamp = None;
      number = None;
      row = None;
      why = Start;
      breaks = 0;
      recent = [];
    }

-- after a cut
abbrev pub cut_kept : Why → Kept → Kept
cut_kept why kept =
    record {
      last = None;
      stamp = None;
      number = None;
      row = None;
      why = why;
      breaks = kept.breaks;
      recent = kept.recent;
    }
