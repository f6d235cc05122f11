-- Readers of read groups are cut.
use Rattle.std.proofs.Common.{◌≡◌, refl, sym, ap, ◌∙◌, subst, arith, ℕ, ◌+◌, ◌<◌, Bool, List, [], length}
use Rattle.std.specs.Prelude.{fold}
use Rattle.std.specs.List.{range_with_len}
use Rattle.dataset_meta.specs.Rows.{cons_if}
use Rattle.pubsub_model.specs.declared.reading.Why.TheVariants.{Restarted}
use Rattle.pubsub_states.specs.declared.component.Component.{Component}
use Rattle.pubsub_states.specs.declared.component.Component.TheVariants.{Reader}
use Rattle.pubsub_states.specs.Components.{is_at_or_above}
use Rattle.ps_config.specs.declared.parts.Config.{Config}
use Rattle.reader_group.specs.declared.group.ReaderGroup.{ReaderGroup}
use Rattle.reader_group.specs.Groups.{IsMadeOf, Stands, index_of, reader_count}
use Rattle.reader_group.specs.Plain.{Event, PlainGroup, Setting, Stopped}
use Rattle.reader_group.specs.Settings.{setting_of}
use Rattle.session_model.specs.Events.{stopped_below}
use Rattle.session_model.specs.Readings.{Reading, read_on, setting_in}
use Rattle.session_parts.specs.declared.subscriber.Subscriber.{Subscriber}
use Rattle.session_parts.specs.Holding.{HoldSubscriber}
use Rattle.session_parts.specs.Standing.{HaveReadAll}
use Rattle.session_parts.proofs.Counting.{fold-more}
use Rattle.session_parts.proofs.Each.{EachTo}
use Rattle.session_parts.proofs.Staying.{still-hold}

-- what is cut of these readers, in their order
abbrev pub stopped_of : ℕ → Component → List Event → List ℕ → List Event
stopped_of r component befell readers =
    fold (λ so_far i. cons_if (is_at_or_above component (Reader r i)) (Stopped i Restarted) so_far) befell readers

pub record Stops (r : ℕ) (component : Component) (readers : List ℕ) (old new : ReaderGroup) : Type 0 where
  pub index : index_of new ≡ index_of old
  pub made : (config : Config) → IsMadeOf config old → IsMadeOf config new
  pub stands : (setting : Setting) (value : PlainGroup) (befell : List Event) → Stands setting (read_on setting value befell) old
      → Stands setting (read_on setting value (stopped_of r component befell readers)) new

pub stops-none : (r : ℕ) (component : Component) (group : ReaderGroup) → Stops r component [] group group
stops-none r component group = record { index = refl; made = λ config h. h; stands = λ setting value befell h. h }

pub stops-more : (r n : ℕ) (component : Component) (is_below : Bool) (old mid new : ReaderGroup) → is_below ≡ is_at_or_above component (Reader r n)
    → index_of new ≡ index_of mid
    → ((config : Config) → IsMadeOf config mid → IsMadeOf config new)
    → ((setting : Setting) (value : PlainGroup) (befell : List Event) → Stands setting (read_on setting value befell) mid → Stands setting (read_on setting value (cons_if is_below (Stopped n Restarted) befell)) new)
    → Stops r component (range_with_len 0 n) old mid → Stops r component (range_with_len 0 (n + 1)) old new
stops-more r n component is_below old mid new is index made stands so_far = record {
  index = index ∙ so_far.index;
  made = λ config h. made config (so_far.made config h);
  stands = λ setting value befell h.
      subst (λ (l : List Event). Stands setting (read_on setting value l) new)
      (ap (λ (b : Bool). cons_if b (Stopped n Restarted) (stopped_of r component befell (range_with_len 0 n))) is
      ∙ sym (fold-more (λ so_far i. cons_if (is_at_or_above component (Reader r i)) (Stopped i Restarted) so_far) befell n))
      (stands setting value (stopped_of r component befell (range_with_len 0 n)) (so_far.stands setting value befell h));
}

-- a cut keeps the number of readers
pub count-kept : (config : Config) (old new : ReaderGroup) → index_of new ≡ index_of old → IsMadeOf config old → IsMadeOf config new → reader_count new ≡ reader_count old
count-kept config old new index made after =
    after.readers.count ∙ ap (λ (k : ℕ). length (setting_of config k).seats) index ∙ sym made.readers.count

-- ---- all read groups

pub record StopsAt (config : Config) (component : Component) (r : ℕ) (old new : ReaderGroup) : Type 0 where
  pub index : index_of new ≡ index_of old
  pub made : (config : Config) → IsMadeOf config old → IsMadeOf config new
  pub stands : (setting : Setting) (value : PlainGroup) (befell : List Event) → Stands setting (read_on setting value befell) old
      → Stands setting (read_on setting value (stopped_below config r component befell)) new

pub stopped-hold : (config : Config) (component : Component) (old new : Subscriber) → EachTo (StopsAt config component) (length old.groups.items) old.groups.items new.groups.items
    → new.tallies ≡ old.tallies → HoldSubscriber config old → HoldSubscriber config new
stopped-hold config component old new each same holds =
    still-hold (StopsAt config component) (λ r one other does. record { index = does.index; made = does.made }) old new each same config holds

pub stopped-read : (config : Config) (component : Component) (old new : Subscriber) → EachTo (StopsAt config component) (length old.groups.items) old.groups.items new.groups.items
    → HoldSubscriber config old → (from : ℕ → Reading) (befell : ℕ → List Event) → HaveReadAll config from befell old.groups.items
    → HaveReadAll config from (λ r. stopped_below config r component (befell r)) new.groups.items
stopped-read config component old new each holds from befell read r low d =
    let there : r < length old.groups.items = omega (arith, low, holds.groups.count) in
    (each.done r there there d).stands (setting_in config r (from r)) (from r).value (befell r) (read r low d)
