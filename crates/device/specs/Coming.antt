-- What a moment brings to a publisher: its senders turn to it, groups of a new token send key frames next, and groups that are due have their turns.
use Rattle.std.specs.Prelude.{◌≡◌, ◌≢◌, ℕ, zero, suc, ◌<◌, ◌≤◌, true, false, List, [], ◌∷◌, length, map, min, slice_set, All, Some, ⊤}
use Rattle.std.specs.List.{AllZip, Contains, HoldsAt}
use Rattle.dataset_meta.specs.Metas.{MetaData}
use Rattle.message_guard.specs.Senders.{SenderState, turned}
use Rattle.ps_config.specs.declared.parts.Config.{Config}
use Rattle.ps_config.specs.declared.parts.GroupPart.{GroupPart}
use Rattle.writer_group.specs.Parts.{group_at}
use Rattle.writer_group.specs.Standing.{IsGroup, TellsDue, TellsMoment}
use Rattle.writer_group.specs.Turns.{GroupDeed, RefreshedWriter}
use Rattle.writer_group.specs.declared.datagrams.Datagrams.{Datagrams}
use Rattle.writer_group.specs.declared.sampled.Sampled.{Sampled}
use Rattle.device.specs.declared.asked.Next.{Next}
use Rattle.device.specs.declared.asked.Next.TheVariants.{Datagram, Nothing, Spent}
use Rattle.device.specs.declared.looking.Looked.{Looked}
use Rattle.device.specs.declared.looking.Looked.TheVariants.{Held, Idle, Made}
use Rattle.device.specs.declared.publisher.Publisher.{Publisher}
use Rattle.device.specs.declared.side.Side.{Side}
use Rattle.device.specs.Sides.{HasNumbered, HasTurned, IsSide, MayNotTurn, sender_for}

-- ---- tokens

-- the senders as they are at the moment
abbrev pub turned_to : ℕ → List SenderState → List SenderState
turned_to now senders = map (λ sender. turned sender now) senders

-- the token in use is another than before
abbrev pub HasOtherToken : SenderState → SenderState → Type 0
HasOtherToken old new = new.keys.token ≢ old.keys.token

-- the sender has another token at the moment
abbrev pub HasNewToken : ℕ → SenderState → Type 0
HasNewToken now sender = HasOtherToken sender (turned sender now)

-- the first writers, so many, are refreshed
abbrev pub refreshed_first : ℕ → List GroupDeed → List GroupDeed
refreshed_first zero past = past
refreshed_first (suc count) past = RefreshedWriter count ∷ refreshed_first count past

-- the first writers of the group, so many, were refreshed, and which are on stays
pub record AreRefreshed (count : ℕ) (old new : Side) : Type 0 where
  pub group : (metas : ℕ → MetaData) (part : GroupPart) (past : List GroupDeed)
      → IsGroup metas part past old.group → IsGroup metas part (refreshed_first count past) new.group
  pub on : new.on ≡ old.on
  pub index : new.index ≡ old.index

-- all writers of the group: a byte has their indexes, and an accepted configuration has 16 at most
abbrev pub all_writers : Config → Side → ℕ
all_writers config side = min (length (group_at config side.index).writer) 256

-- where the sender of its key group has a new token at the moment, all writers of the group are refreshed; else it stays
pub record IsRefreshedFor (config : Config) (now : ℕ) (senders : List SenderState) (old new : Side) : Type 0 where
  pub refreshed : (sender : SenderState) → sender_for config senders old.index ≡ Some sender → HasNewToken now sender
      → AreRefreshed (all_writers config old) old new
  pub stays : ((sender : SenderState) → sender_for config senders old.index ≡ Some sender → ¬ HasNewToken now sender) → new ≡ old

-- ---- a group that is looked at

-- it isn't due at the moment, and stays
pub record IsIdle (now : ℕ) (old new : Side) : Type 0 where
  pub due : TellsDue old.group now false
  pub stays : new ≡ old

-- it is due, but may have no turn, and stays
pub record IsHeld (config : Config) (now : ℕ) (rows : List Sampled) (senders : List SenderState) (old new : Side) : Type 0 where
  pub due : TellsDue old.group now true
  pub may_not : MayNotTurn config rows (sender_for config senders old.index) old
  pub stays : new ≡ old

-- it is due, and has its turn, at the last multiple of its interval that has passed, of which so many datagrams came
pub record HasItsTurn (config : Config) (now : ℕ) (rows : List Sampled) (senders : List SenderState) (out : Datagrams) (made : ℕ) (old new : Side) : Type 0 where
  pub due : TellsDue old.group now true
  pub moment : ℕ
  pub moment_is : TellsMoment old.group now moment
  pub turned : HasTurned config moment rows (sender_for config senders old.index) old new out made

-- what it did, with these datagrams where it had a turn
abbrev pub Did : Config → ℕ → List Sampled → List SenderState → Datagrams → Looked → Side → Side → Type 0
Did config now rows senders out Idle old new = IsIdle now old new
Did config now rows senders out Held old new = IsHeld config now rows senders old new
Did config now rows senders out (Made made) old new = HasItsTurn config now rows senders out made old new

-- the same, with whichever datagrams
pub record Does (config : Config) (now : ℕ) (rows : List Sampled) (senders : List SenderState) (looked : Looked) (old new : Side) : Type 0 where
  pub out : Datagrams
  pub did : Did config now rows senders out looked old new

-- ---- all groups

-- the first ones did this, one after another, and those behind stay
abbrev pub AllDid : (Looked → Side → Side → Type 0) → List Looked → List Side → List Side → Type 0
AllDid does [] old new = new ≡ old
AllDid does (looked ∷ did) [] new = ⊥
AllDid does (looked ∷ did) (was ∷ old) [] = ⊥
AllDid does (looked ∷ did) (was ∷ old) (is ∷ new) = does looked was is × AllDid does did old new

-- it wasn't due, or had a turn of which no datagram came
abbrev pub IsQuiet : Looked → Type 0
IsQuiet Idle = ⊤
IsQuiet Held = ⊥
IsQuiet (Made made) = made ≡ 0

-- the same, or it might have no turn
abbrev pub IsPassed : Looked → Type 0
IsPassed Idle = ⊤
IsPassed Held = ⊤
IsPassed (Made made) = made ≡ 0

-- all groups did what is so, and made no datagram, and none waits
pub record HaveAllDone (now : ℕ) (senders : List SenderState) (sides : List Side) (so : List Looked → Type 0) (new : Publisher) : Type 0 where
  pub did : List Looked
  pub count : length did ≡ length sides
  pub is_so : so did
  pub done : AllDid (Does new.config now new.rows.items senders) did sides new.sides.items
  pub senders_are : new.senders.items ≡ senders
  pub none_waits : new.made ≤ new.handed

-- some groups made no datagram, and the one behind them has a turn, of which the datagrams that wait came, each under a number of its own, and its index is kept; those
-- behind it stay
pub record HasMadeSome (now : ℕ) (senders : List SenderState) (sides : List Side) (new : Publisher) : Type 0 where
  pub did : List Looked
  pub passed : All IsPassed did
  pub mid : List Side
  pub within : length did < length mid
  pub done : AllDid (Does new.config now new.rows.items senders) did sides mid
  pub turn : HoldsAt (λ was. HoldsAt (HasItsTurn new.config now new.rows.items senders new.out new.made was)
      new.sides.items (length did)) mid (length did)
  pub others : HoldsAt (λ is. new.sides.items ≡ slice_set mid (length did) is) new.sides.items (length did)
  pub numbers : HoldsAt (λ was. HasNumbered new.config was.index new.made senders new.senders.items) mid (length did)
  pub from : HoldsAt (λ was. new.from ≡ was.index) mid (length did)
  pub some : 0 < new.made
  pub handed : new.handed ≡ 0

-- what the publisher then has: a datagram as soon as a group made some; else nothing, or, where a group that is due may have no turn, that
abbrev pub Comes : ℕ → Next → List SenderState → List Side → Publisher → Type 0
Comes now Datagram senders sides new = HasMadeSome now senders sides new
Comes now Nothing senders sides new = HaveAllDone now senders sides (All IsQuiet) new
Comes now Spent senders sides new = HaveAllDone now senders sides (λ did. All IsPassed did × Contains did Held) new

-- a datagram waited, and waits on
pub record IsWaiting (next : Next) (old new : Publisher) : Type 0 where
  pub next_is : next ≡ Datagram
  pub stays : new ≡ old

-- a publisher of which no datagram waits comes to a moment
pub record HasCome (now : ℕ) (next : Next) (old new : Publisher) : Type 0 where
  pub config : new.config ≡ old.config
  pub rows : new.rows.items ≡ old.rows.items
  pub sides : List Side
  pub refreshed : AllZip (IsRefreshedFor old.config now old.senders.items) old.sides.items sides
  pub sides_are : All (IsSide old.config) sides
  pub came : Comes now next (turned_to now old.senders.items) sides new

-- the same of a publisher of which one may wait
pub record ComesTo (now : ℕ) (next : Next) (old new : Publisher) : Type 0 where
  pub waited : old.handed < old.made → IsWaiting next old new
  pub came : old.made ≤ old.handed → HasCome now next old new
