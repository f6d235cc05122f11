-- Key sets that C gives, and what a renewal or a resumption with them does.
use Rattle.std.specs.Prelude.{◌≡◌, ◌⊎◌, ℕ, ◌<◌, ◌≤◌, Bool, List, length, map, take, Result}
use Rattle.group_keys.specs.Faults.{IsAccepted}
use Rattle.group_keys.specs.KeySets.{encrypting_length}
use Rattle.group_keys.specs.declared.key_set.KeySet.{KeySet}
use Rattle.message_guard.specs.Protection.{keys_in}
use Rattle.device.specs.Readings.{HasKeysRenewed}
use Rattle.device.specs.Resuming as sides
use Rattle.device.specs.Resuming.{IsBehind, IsBehindConfigured, IsEarlier, MayNotResumeConfigured}
use Rattle.device.specs.Sides.{HasLongKeys, HasRenewed, ReadsLongKeys, ReadsNoKeys, StandsAt}
use Rattle.device.specs.declared.publisher.Publisher.{Publisher}
use Rattle.device.specs.declared.subscriber.Subscriber.{Subscriber}
use Rattle.uapubsub_c.specs.Answers.{Answers, Does, IsLarge}
use Rattle.uapubsub_c.specs.declared.keys.KeySetWords.{KeySetWords}
use Rattle.uapubsub_c.specs.declared.keys.TheConstants.{MOST_SETS}
use Rattle.uapubsub_c.specs.declared.status.Status.{Status}
use Rattle.uapubsub_c.specs.declared.status.Status.TheVariants.{EarlierToken, Index, ManyKeys, NoRing, NumbersAgain}

-- the set of these words: its encrypting key has all 32 bytes where it is long, else the first 16
abbrev pub key_set_in : Bool → KeySetWords → KeySet
key_set_in long words = record {
  token = words.token;
  from = words.from;
  signing = words.signing;
  encrypting = record { items = take (encrypting_length long) words.encrypting };
  nonce = words.nonce;
}

abbrev pub key_sets_in : Bool → List KeySetWords → List KeySet
key_sets_in long sets = map (key_set_in long) sets

-- more than 16; or they make no ring
abbrev pub MakeNoRing : Bool → List KeySetWords → Status → Type 0
MakeNoRing long sets ManyKeys = MOST_SETS < length sets
MakeNoRing long sets NoRing = ¬ IsAccepted long (key_sets_in long sets)
MakeNoRing long sets other = ⊥

-- ---- a publisher's key groups

-- the index is past 255, or the publisher has no key group with it
abbrev pub HasNoKeyGroup : ℕ → Publisher → Type 0
HasNoKeyGroup keygroup publisher = IsLarge keygroup ⊎ (length publisher.config.keygroup ≤ keygroup)

-- it is so, by how long the key group's keys are
pub record OfLength (keygroup : ℕ) (publisher : Publisher) (says : Bool → Type 0) : Type 0 where
  pub long : Bool
  pub is_long : HasLongKeys publisher.config keygroup long
  pub is : says long

-- there is no such key group
abbrev pub IsNoKeyGroup : ℕ → Publisher → Status → Type 0
IsNoKeyGroup keygroup publisher Index = HasNoKeyGroup keygroup publisher
IsNoKeyGroup keygroup publisher other = ⊥

-- token and number are these
abbrev pub IsSameStanding : ℕ × ℕ → ℕ × ℕ → Type 0
IsSameStanding one other = one ≡ other

abbrev pub TellsStanding : ℕ → Publisher → Result (ℕ × ℕ) Status → Type 0
TellsStanding keygroup publisher answer = Answers (StandsAt keygroup publisher) (IsNoKeyGroup keygroup publisher) answer

-- there is no such key group; or it is there, and numbers of its sender would come again with the key sets of the configuration
abbrev pub MayNotResume : ℕ → ℕ → ℕ → Publisher → Status → Type 0
MayNotResume keygroup now used publisher Index = HasNoKeyGroup keygroup publisher
MayNotResume keygroup now used publisher NumbersAgain =
    (keygroup < length publisher.config.keygroup) × MayNotResumeConfigured keygroup now used publisher
MayNotResume keygroup now used publisher other = ⊥

abbrev pub Resumes : ℕ → ℕ → ℕ → Publisher → Result Unit Status → Publisher → Type 0
Resumes keygroup now used old answer new = Does (IsBehindConfigured keygroup now used) (MayNotResume keygroup now used) old answer new

-- the key group goes on behind so many numbers of these key sets (IsBehind), and that of the moment is of no earlier token than this
pub record IsBehindWith (keygroup now token used : ℕ) (sets : List KeySetWords) (old new : Publisher) : Type 0 where
  pub long : Bool
  pub is_long : HasLongKeys old.config keygroup long
  pub is : IsBehind keygroup now used (key_sets_in long sets) old new
  pub no_earlier : ¬ IsEarlier now token (key_sets_in long sets)

-- there is no such key group; the key sets make no ring of it; that of the moment is of an earlier token; or numbers would come again with them
abbrev pub MayNotResumeWith : ℕ → ℕ → ℕ → ℕ → List KeySetWords → Publisher → Status → Type 0
MayNotResumeWith keygroup now token used sets publisher Index = HasNoKeyGroup keygroup publisher
MayNotResumeWith keygroup now token used sets publisher EarlierToken =
    OfLength keygroup publisher (λ long. IsEarlier now token (key_sets_in long sets))
MayNotResumeWith keygroup now token used sets publisher NumbersAgain =
    OfLength keygroup publisher (λ long. sides.MayNotResume keygroup now used (key_sets_in long sets) publisher)
MayNotResumeWith keygroup now token used sets publisher status = OfLength keygroup publisher (λ long. MakeNoRing long sets status)

abbrev pub ResumesWith : ℕ → ℕ → ℕ → ℕ → List KeySetWords → Publisher → Result Unit Status → Publisher → Type 0
ResumesWith keygroup now token used sets old answer new =
    Does (IsBehindWith keygroup now token used sets) (MayNotResumeWith keygroup now token used sets) old answer new

-- the key group goes on with just these key sets, and nothing else changed
abbrev pub HasRenewedTo : ℕ → List KeySetWords → Publisher → Publisher → Type 0
HasRenewedTo keygroup sets old new = OfLength keygroup old (λ long. HasRenewed keygroup (key_sets_in long sets) old new)

-- there is no such key group, or the key sets make no ring of it
abbrev pub MayNotRenew : ℕ → List KeySetWords → Publisher → Status → Type 0
MayNotRenew keygroup sets publisher Index = HasNoKeyGroup keygroup publisher
MayNotRenew keygroup sets publisher status = OfLength keygroup publisher (λ long. MakeNoRing long sets status)

abbrev pub Renews : ℕ → List KeySetWords → Publisher → Result Unit Status → Publisher → Type 0
Renews keygroup sets old answer new = Does (HasRenewedTo keygroup sets) (MayNotRenew keygroup sets) old answer new

-- ---- a subscriber's read groups

-- it is so, by how long the keys of the read group's key group are
pub record OfReadLength (group : ℕ) (subscriber : Subscriber) (says : Bool → Type 0) : Type 0 where
  pub long : Bool
  pub is_long : ReadsLongKeys subscriber.config group long
  pub is : says long

-- the index is past 255, or the subscriber has no read group with it, or none that is secured
abbrev pub HasNoSecuredReadGroup : ℕ → Subscriber → Type 0
HasNoSecuredReadGroup group subscriber =
    IsLarge group ⊎ ((length subscriber.groups.items ≤ group) ⊎ ReadsNoKeys subscriber.config group)

-- the read group goes on with just these key sets, and nothing else changed
abbrev pub HasReadRenewedTo : ℕ → List KeySetWords → Subscriber → Subscriber → Type 0
HasReadRenewedTo group sets old new = OfReadLength group old (λ long. HasKeysRenewed group (map keys_in (key_sets_in long sets)) old new)

-- there is no such read group, or none that is secured; or the key sets make no ring of its key group
abbrev pub MayNotRenewRead : ℕ → List KeySetWords → Subscriber → Status → Type 0
MayNotRenewRead group sets subscriber Index = HasNoSecuredReadGroup group subscriber
MayNotRenewRead group sets subscriber status = OfReadLength group subscriber (λ long. MakeNoRing long sets status)

abbrev pub RenewsRead : ℕ → List KeySetWords → Subscriber → Result Unit Status → Subscriber → Type 0
RenewsRead group sets old answer new = Does (HasReadRenewedTo group sets) (MayNotRenewRead group sets) old answer new
