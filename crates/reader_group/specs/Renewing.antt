-- A read group that rings renew: its plain reading over all that befell it, with the keys that it had each time. Lists have the latest first.
use Rattle.std.specs.Prelude.{◌≡◌, ◌≢◌, true, AllPairs, List, [], ◌∷◌, map}
use Rattle.message_guard.specs.declared.keys.TokenKeys.{TokenKeys}
use Rattle.message_guard.specs.Modes.{is_secured}
use Rattle.reader_group.specs.Plain.{Setting, PlainGroup, Event, opening, plain, step, with_keys}

-- what befalls a group that may be renewed
pub data GroupCall : Type 0 where
  Befalls : (event : Event) → GroupCall
  Renews : (keys : List TokenKeys) → GroupCall

-- the setting with the keys of the last ring
abbrev pub setting_after : Setting → List GroupCall → Setting
setting_after setting [] = setting
setting_after setting (Befalls event ∷ before) = setting_after setting before
setting_after setting (Renews keys ∷ before) = with_keys setting keys

-- the plain reading: a ring changes the keys alone
abbrev pub reading : Setting → List GroupCall → PlainGroup
reading setting [] = opening setting
reading setting (Befalls event ∷ before) = step (setting_after setting before) (reading setting before) event
reading setting (Renews keys ∷ before) = reading setting before

-- where no ring renews the group it is the plain reading of what befell it
pub record IsPlain (setting : Setting) (events : List Event) : Type 0 where
  pub setting_is : setting_after setting (map Befalls events) ≡ setting
  pub reading_is : reading setting (map Befalls events) ≡ plain setting events

-- no pair of token and number is taken twice, whichever rings renew the group in between
abbrev pub TakesNoPairTwice : Setting → List GroupCall → Type 0
TakesNoPairTwice setting calls =
    is_secured setting.setup.mode ≡ true → AllPairs (λ a b. a ≢ b) (reading setting calls).accepted
