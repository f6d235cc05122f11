-- What follows of what a reader of a subscriber keeps, and of what is set.
use Rattle.std.proofs.Common.{ℕ, Result, Ok, Err, get_or}
use Rattle.dataset_meta.specs.Metas.{MetaData}
use Rattle.dataset_reader.specs.declared.reader.Reader.{Reader}
use Rattle.dataset_reader.specs.Kept.{Kept}
use Rattle.dataset_reader.specs.Reader.{kept_by}
use Rattle.device.specs.Readings.{IsReaderAt, Keeps, meta_for}
use Rattle.device.specs.declared.publisher.Publisher.{Publisher}
use Rattle.device.specs.declared.subscriber.Subscriber.{Subscriber}
use Rattle.uapubsub_c.specs.Setting.{Sets}
use Rattle.uapubsub_c.specs.declared.status.Status.{Status}

-- what a reader keeps is so, where it is so whatever the fields
pub keeps-so : (group reader : ℕ) (subscriber : Subscriber) (value : Reader) (says : MetaData → Kept → Type 0)
    → IsReaderAt group reader subscriber value → ((meta : MetaData) → says meta (kept_by meta.fields value)) → Keeps group reader says subscriber
keeps-so group reader subscriber value says is so = record {
  within = is.within;
  is = λ d. record {
    index = is.index d;
    value = value;
    is = is.is d;
    so = so (meta_for subscriber.config (get_or subscriber.groups.items group d) reader);
  };
}

-- what follows from what is set, and from why it isn't
pub sets-too : (done more : Publisher → Publisher → Type 0) (why other : Publisher → Status → Type 0)
    → ((old new : Publisher) → done old new → more old new) → ((old : Publisher) (status : Status) → why old status → other old status)
    → (old : Publisher) (answer : Result Unit Status) (new : Publisher) → Sets done why old answer new → Sets more other old answer new
sets-too done more why other step reason old (Ok value) new is = step old new is
sets-too done more why other step reason old (Err status) new is = (is.0, reason old status is.1)
