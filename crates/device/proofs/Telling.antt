-- What a reader tells, from what the reader of its group tells.
use Rattle.std.proofs.Common.{◌≡◌, ℕ, ◌<◌, length, get_or, subst, ◌∙◌}
use Rattle.std.proofs.lemmas.List.{get_or_default}
use Rattle.dataset_meta.specs.Metas.{MetaData}
use Rattle.dataset_reader.specs.declared.reader.Reader.{Reader}
use Rattle.dataset_reader.specs.Kept.{Kept}
use Rattle.dataset_reader.specs.Reader.{kept_by}
use Rattle.ps_config.specs.declared.parts.Config.{Config}
use Rattle.reader_group.specs.Groups as reads
use Rattle.device.specs.Readings.{HoldsNone, IsUntold, IsUntoldAt, Keeps, ReaderKeeps, ReadsNoField, meta_for}
use Rattle.device.specs.declared.asked.NoValue.{NoValue}
use Rattle.device.specs.declared.asked.NoValue.TheVariants.{Misfit, NoField, NoRow}
use Rattle.device.specs.declared.listening.Listening.{Listening}
use Rattle.device.specs.declared.subscriber.Subscriber.{Subscriber}

-- this reader keeps what the group's keeps, and what it keeps by the fields of its data set is so
pub reader-keeps : (config : Config) (listening : Listening) (reader : ℕ) (says : MetaData → Kept → Type 0) (holder : Reader) (meta : MetaData)
    → reader < reads.reader_count listening.group → reads.IsKeptAt listening.group reader holder → meta ≡ meta_for config listening reader
    → says meta (kept_by meta.fields holder) → ReaderKeeps config reader says listening
reader-keeps config listening reader says holder meta low kept is so = record {
  index = low;
  value = holder;
  is = kept;
  so = subst (λ (m : MetaData). says m (kept_by m.fields holder)) is so;
}

-- the same of the group that stands at a place
pub keeps-at : (subscriber : Subscriber) (group reader : ℕ) (says : MetaData → Kept → Type 0) (listening : Listening)
    → group < length subscriber.groups.items → listening ≡ get_or subscriber.groups.items group listening
    → ReaderKeeps subscriber.config reader says listening → Keeps group reader says subscriber
keeps-at subscriber group reader says listening low is keeps = record {
  within = low;
  is = λ d. subst (λ (l : Listening). ReaderKeeps subscriber.config reader says l)
      (is ∙ get_or_default subscriber.groups.items group listening d low) keeps;
}

-- why the group that stands at a place tells nothing
pub untold-at : (subscriber : Subscriber) (group reader field : ℕ) (misfit : MetaData → Kept → Type 0) (listening : Listening) (none : NoValue)
    → group < length subscriber.groups.items → listening ≡ get_or subscriber.groups.items group listening
    → IsUntold misfit subscriber.config reader field none listening → IsUntoldAt misfit group reader field subscriber none
untold-at subscriber group reader field misfit listening NoField low is untold =
    λ within d. subst (λ (l : Listening). ReadsNoField subscriber.config reader field l) (is ∙ get_or_default subscriber.groups.items group listening d low) untold
untold-at subscriber group reader field misfit listening NoRow low is untold = keeps-at subscriber group reader HoldsNone listening low is untold
untold-at subscriber group reader field misfit listening Misfit low is untold = keeps-at subscriber group reader misfit listening low is untold
