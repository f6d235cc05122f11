-- A publisher that is started again: what its second life owes the first, so that no token and number is given twice.
use Rattle.std.specs.Prelude.{◌≡◌, ◌⊎◌, ℕ, List, [], ◌∷◌, ◌++◌, Some}
use Rattle.group_keys.specs.declared.key_set.KeySet.{KeySet}
use Rattle.group_keys.specs.KeySets.{current}
use Rattle.device.specs.declared.publisher.Publisher.{Publisher}
use Rattle.device.specs.Calls as numbers
use Rattle.device.specs.Calls.{Call, Gives}
use Rattle.device.specs.Sides.{IsNoLower, StandsAt}
use Rattle.device_laws.specs.Publishing.{PublisherCall, PublisherLife, PublisherStep, SetField, SetWord, SetStatus, Waited, CameTo, HandedOver, Switched, Renewed, Resumed, Aside, publisher_after, publisher_in}

-- ---- the numbers that a life gave

-- the call, as the laws of numbers have it
abbrev pub numbers_of : PublisherCall → Call
numbers_of (SetField set field value status) = numbers.Other
numbers_of (SetWord set field kind word) = numbers.Other
numbers_of (SetStatus set field status) = numbers.Other
numbers_of (Waited now) = numbers.Other
numbers_of (CameTo now next did) = numbers.Came now next
numbers_of HandedOver = numbers.Other
numbers_of (Switched group writer on) = numbers.Other
numbers_of (Renewed keygroup sets) = numbers.Renewed keygroup sets
numbers_of (Resumed keygroup now used sets) = numbers.Resumed keygroup now used sets
numbers_of Aside = numbers.Other

-- the call of this step gave a datagram of the key group this token and number (IsGiven)
abbrev pub GivesAt : ℕ → Publisher → PublisherStep → List PublisherStep → ℕ × ℕ → Type 0
GivesAt keygroup first step before pair = Gives keygroup (numbers_of step.call) (publisher_after first before) step.after pair

-- one of these calls did
abbrev pub HasGiven : ℕ → Publisher → List PublisherStep → ℕ × ℕ → Type 0
HasGiven keygroup first [] pair = ⊥
HasGiven keygroup first (step ∷ before) pair = GivesAt keygroup first step before pair ⊎ HasGiven keygroup first before pair

-- ---- a second life

-- In the later life the key group goes on (IsBehind) after calls that gave it no number yet, with these key sets and behind so many numbers: under the token
-- of the last set whose moment has come. That token and number is no lower than what `standing` told at the end of the earlier life.
pub record GoesOnAfter (keygroup : ℕ) (earlier later : PublisherLife) : Type 0 where
  pub since : List PublisherStep
  pub before : List PublisherStep
  pub now : ℕ
  pub used : ℕ
  pub sets : List KeySet
  pub resumed : Publisher
  pub steps_are : later.steps ≡ since ++ record { call = Resumed keygroup now used sets; after = resumed } ∷ before
  pub none_given : (pair : ℕ × ℕ) → ¬ HasGiven keygroup later.first before pair
  pub told : ℕ × ℕ
  pub stood : StandsAt keygroup (publisher_in earlier) told
  pub set : KeySet
  pub current_is : current sets now ≡ Some set
  pub no_lower : IsNoLower told (set.token, used)
