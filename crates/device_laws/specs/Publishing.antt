-- The life of a publisher: its calls from its opening on, each with where it left the publisher. Lists of calls have the latest first.
use Rattle.std.specs.Prelude.{◌≡◌, ◌⊎◌, ⊤, ℕ, ◌+◌, ◌<◌, ◌≤◌, Bool, List, [], ◌∷◌, ◌++◌, Ok, slice_index_or}
use Rattle.std.specs.List.{AllZip, HoldsAt}
use Rattle.ua_values.specs.declared.kind.Kind.{Kind}
use Rattle.ua_values.specs.declared.value.Value.{Value}
use Rattle.group_keys.specs.declared.key_set.KeySet.{KeySet}
use Rattle.message_guard.specs.Senders.{SenderState}
use Rattle.ps_config.specs.declared.parts.Config.{Config}
use Rattle.ps_config.specs.Reading.{configuration}
use Rattle.ps_config.specs.Types.{HasTypes}
use Rattle.writer_group.specs.Standing.{datagrams_in}
use Rattle.device.specs.declared.asked.Next.{Next}
use Rattle.device.specs.declared.asked.Next.TheVariants.{Datagram, Nothing, Spent}
use Rattle.device.specs.declared.looking.Looked.{Looked}
use Rattle.device.specs.declared.looking.Looked.TheVariants.{Made}
use Rattle.device.specs.declared.publisher.Publisher.{Publisher}
use Rattle.device.specs.declared.side.Side.{Side}
use Rattle.device.specs.Coming.{Comes, HasCome, turned_to}
use Rattle.device.specs.Resuming.{IsBehind}
use Rattle.device.specs.Sides.{AreOpeningSides, HasRenewed, HasSet, HasSetStatus, HasSetWord, HasWriterSwitched, IsOpeningRow, IsOpeningSender, IsPublisher, configured_sets}

-- ---- calls

-- a call of a publisher that may change it
pub data PublisherCall : Type 0 where
  -- a field was set: by its value, by its word, or its status alone
  SetField : (set field : ℕ) (value : Value) (status : ℕ) → PublisherCall
  SetWord : (set field : ℕ) (kind : Kind) (word : ℕ) → PublisherCall
  SetStatus : (set field status : ℕ) → PublisherCall
  -- it came to a moment while a datagram waited
  Waited : (now : ℕ) → PublisherCall
  -- it came to a moment while none waited, and its first groups, as many as are told, did this
  CameTo : (now : ℕ) (next : Next) (did : List Looked) → PublisherCall
  -- the datagram that waited was sent, or dropped
  HandedOver : PublisherCall
  -- a writer was switched on or off
  Switched : (group writer : ℕ) (on : Bool) → PublisherCall
  -- a key group was renewed with a ring of these key sets, or goes on after so many numbers of them
  Renewed : (keygroup : ℕ) (sets : List KeySet) → PublisherCall
  Resumed : (keygroup now used : ℕ) (sets : List KeySet) → PublisherCall
  -- nothing of what is sent changed: a call was refused, or something was saved, or told to be in store
  Aside : PublisherCall

-- What the groups did that were looked at. Where datagrams wait, their group is the last of them.
abbrev pub did_as : (now : ℕ) (next : Next) (senders : List SenderState) (sides : List Side) (new : Publisher)
    → Comes now next senders sides new → List Looked
did_as now Datagram senders sides new comes = comes.did ++ Made new.made ∷ []
did_as now Nothing senders sides new comes = comes.did
did_as now Spent senders sides new comes = comes.did

-- it comes to a moment while no datagram waits, and its groups do this
pub record ComesBy (now : ℕ) (next : Next) (did : List Looked) (old new : Publisher) : Type 0 where
  pub none_waited : old.made ≤ old.handed
  pub came : HasCome now next old new
  pub store : new.store ≡ old.store
  pub did_is : did ≡ did_as now next (turned_to now old.senders.items) came.sides new came.came

-- a datagram waits
abbrev pub Waits : Publisher → Type 0
Waits publisher = publisher.handed < publisher.made

-- nothing is set, and nothing else changed but for what is in store
pub record IsUnchanged (old new : Publisher) : Type 0 where
  pub rows : new.rows.items ≡ old.rows.items
  pub rest : new ≡ record old { rows = new.rows; store = new.store }

-- what the call makes of the publisher: just what its clauses say
abbrev pub IsPublisherCall : PublisherCall → Publisher → Publisher → Type 0
IsPublisherCall (SetField set field value status) old new = HasSet set field value status old new
IsPublisherCall (SetWord set field kind word) old new = HasSetWord set field kind word old new
IsPublisherCall (SetStatus set field status) old new = HasSetStatus set field status old new
IsPublisherCall (Waited now) old new = Waits old × (new ≡ old)
IsPublisherCall (CameTo now next did) old new = ComesBy now next did old new
IsPublisherCall HandedOver old new = Waits old × (new ≡ record old { handed = old.handed + 1 })
IsPublisherCall (Switched group writer on) old new = HasWriterSwitched group writer on old new
IsPublisherCall (Renewed keygroup sets) old new = HasRenewed keygroup sets old new
IsPublisherCall (Resumed keygroup now used sets) old new = IsBehind keygroup now used sets old new
IsPublisherCall Aside old new = IsUnchanged old new

-- ---- a life

-- a call, and the publisher after it
pub record PublisherStep : Type 0 where
  pub call : PublisherCall
  pub after : Publisher

-- the publisher after these calls
abbrev pub publisher_after : Publisher → List PublisherStep → Publisher
publisher_after first [] = first
publisher_after first (step ∷ before) = step.after

-- each call makes of the publisher what its clauses say
abbrev pub ArePublisherSteps : Publisher → List PublisherStep → Type 0
ArePublisherSteps first [] = ⊤
ArePublisherSteps first (step ∷ before) =
    IsPublisher step.after × IsPublisherCall step.call (publisher_after first before) step.after
    × ArePublisherSteps first before

-- the publisher of the configuration that the text is, before any call: all that the clauses of `open` say
pub record IsOpenPublisher (text : List ℕ) (publisher : Publisher) : Type 0 where
  pub is : IsPublisher publisher
  pub config_is : configuration text ≡ Ok publisher.config
  pub types : HasTypes publisher.config
  pub rows : AllZip IsOpeningRow publisher.config.dataset publisher.rows.items
  pub senders : AllZip IsOpeningSender publisher.config.keygroup publisher.senders.items
  pub sides : AreOpeningSides publisher.config publisher.sides.items
  pub none_waits : publisher.made ≡ 0

-- a publisher as it was opened, and its calls
pub record PublisherLife : Type 0 where
  pub first : Publisher
  pub steps : List PublisherStep

pub record IsPublisherLife (text : List ℕ) (life : PublisherLife) : Type 0 where
  pub opened : IsOpenPublisher text life.first
  pub steps_are : ArePublisherSteps life.first life.steps

-- its configuration, which no call changes, and where it stands
abbrev pub config_in : PublisherLife → Config
config_in life = life.first.config

abbrev pub publisher_in : PublisherLife → Publisher
publisher_in life = publisher_after life.first life.steps

-- ---- the datagrams that it gave

-- the datagram waits, as `Publisher::datagram` tells it
pub record Offers (publisher : Publisher) (datagram : List ℕ) : Type 0 where
  pub waits : Waits publisher
  pub is : datagram ≡ slice_index_or (datagrams_in publisher.out) publisher.handed []

-- the datagram waited after one of these calls
abbrev pub HasOffered : List PublisherStep → List ℕ → Type 0
HasOffered [] datagram = ⊥
HasOffered (step ∷ before) datagram = Offers step.after datagram ⊎ HasOffered before datagram

-- ---- the moments that it came to

abbrev pub moments_by : PublisherCall → ℕ
moments_by (SetField set field value status) = 0
moments_by (SetWord set field kind word) = 0
moments_by (SetStatus set field status) = 0
moments_by (Waited now) = 0
moments_by (CameTo now next did) = 1
moments_by HandedOver = 0
moments_by (Switched group writer on) = 0
moments_by (Renewed keygroup sets) = 0
moments_by (Resumed keygroup now used sets) = 0
moments_by Aside = 0

-- how often it came to a moment while no datagram waited
abbrev pub moments_in : List PublisherStep → ℕ
moments_in [] = 0
moments_in (step ∷ before) = moments_in before + moments_by step.call

-- ---- the rings that it was given

-- the ring has the key sets that the configuration gives the key group
abbrev pub IsOwnRing : Config → ℕ → List KeySet → Type 0
IsOwnRing config keygroup sets = HoldsAt (λ part. sets ≡ configured_sets part) config.keygroup keygroup

abbrev pub KeepsRing : Config → PublisherCall → Type 0
KeepsRing config (SetField set field value status) = ⊤
KeepsRing config (SetWord set field kind word) = ⊤
KeepsRing config (SetStatus set field status) = ⊤
KeepsRing config (Waited now) = ⊤
KeepsRing config (CameTo now next did) = ⊤
KeepsRing config HandedOver = ⊤
KeepsRing config (Switched group writer on) = ⊤
KeepsRing config (Renewed keygroup sets) = IsOwnRing config keygroup sets
KeepsRing config (Resumed keygroup now used sets) = IsOwnRing config keygroup sets
KeepsRing config Aside = ⊤

-- so has each ring that renewed a key group, or that it went on with
abbrev pub AreOwnRings : Config → List PublisherStep → Type 0
AreOwnRings config [] = ⊤
AreOwnRings config (step ∷ before) = KeepsRing config step.call × AreOwnRings config before
