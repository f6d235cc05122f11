-- Timers are looked at.
use Rattle.std.proofs.Common.{◌≡◌, arith, ℕ, ◌<◌, List, ◌∷◌, length}
use Rattle.ps_config.specs.declared.parts.Config.{Config}
use Rattle.reader_group.specs.declared.group.ReaderGroup.{ReaderGroup}
use Rattle.reader_group.specs.Groups.{IsMadeOf, Stands, index_of}
use Rattle.reader_group.specs.Plain.{Event, Expired, PlainGroup, Setting, step}
use Rattle.session_model.specs.Readings.{Reading, read_on, setting_in}
use Rattle.session_parts.specs.declared.subscriber.Subscriber.{Subscriber}
use Rattle.session_parts.specs.Holding.{HoldSubscriber}
use Rattle.session_parts.specs.Standing.{HaveReadAll}
use Rattle.session_parts.proofs.Each.{EachTo}
use Rattle.session_parts.proofs.Staying.{still-hold}

pub record Expires (moment : ℕ) (old new : ReaderGroup) : Type 0 where
  pub index : index_of new ≡ index_of old
  pub made : (config : Config) → IsMadeOf config old → IsMadeOf config new
  pub steps : (setting : Setting) (value : PlainGroup) → Stands setting value old → Stands setting (step setting value (Expired moment)) new

abbrev pub ExpiresAt : ℕ → ℕ → ReaderGroup → ReaderGroup → Type 0
ExpiresAt moment r old new = Expires moment old new

pub expired-hold : (moment : ℕ) (old new : Subscriber) → EachTo (ExpiresAt moment) (length old.groups.items) old.groups.items new.groups.items → new.tallies ≡ old.tallies
    → (config : Config) → HoldSubscriber config old → HoldSubscriber config new
expired-hold moment old new each same config holds =
    still-hold (ExpiresAt moment) (λ r one other does. record { index = does.index; made = does.made }) old new each same config holds

pub expired-read : (moment : ℕ) (old new : Subscriber) → EachTo (ExpiresAt moment) (length old.groups.items) old.groups.items new.groups.items
    → (config : Config) (from : ℕ → Reading) (befell : ℕ → List Event) → HoldSubscriber config old → HaveReadAll config from befell old.groups.items → HaveReadAll config from (λ r. Expired moment ∷ befell r) new.groups.items
expired-read moment old new each config from befell holds read r low d =
    let there : r < length old.groups.items = omega (arith, low, holds.groups.count) in
    (each.done r there there d).steps (setting_in config r (from r)) (read_on (setting_in config r (from r)) (from r).value (befell r)) (read r low d)
