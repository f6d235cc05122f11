-- Turns by the definitions: of the groups of a key group, each of the configuration with some rings, as those of a life are, in which rings renew them.
use Rattle.std.proofs.Common.{◌≡◌, refl, sym, ap, ◌∙◌, subst, ℕ, true, List, [], ◌∷◌, length, Option, Some, None, IfSome}
use Rattle.std.specs.Prelude.{⊤, option_map, slice_get}
use Rattle.message_guard.specs.Guards.{Setup}
use Rattle.message_guard.specs.Modes.{is_secured}
use Rattle.message_guard.specs.Protection.{keys_with}
use Rattle.message_guard.specs.Senders.{SenderState}
use Rattle.config_tables.specs.declared.words.Security.{Security}
use Rattle.config_tables.specs.declared.words.Security.TheVariants as security
use Rattle.ps_config.specs.declared.parts.Config.{Config}
use Rattle.ps_config.specs.declared.parts.GroupPart.{GroupPart}
use Rattle.ps_config.specs.declared.parts.KeyGroupPart.{KeyGroupPart}
use Rattle.ps_config.specs.declared.parts.ReadGroupPart.{ReadGroupPart}
use Rattle.ps_config.specs.Headers as configured
use Rattle.ps_config.specs.Headers.{mode_of}
use Rattle.ps_config.specs.Sound.{IsKeyed, IsSound}
use Rattle.reader_group.specs.Settings.{keygroup_at, setup_by}
use Rattle.writer_group.specs.Parts.{group_at}
use Rattle.writer_group.specs.Payloads.{payloads_of}
use Rattle.writer_group.specs.Sealing.{AreWritten}
use Rattle.writer_group.specs.Turns.{GroupDeed, GroupTurn, HadGroupTurn, RefreshedWriter, TurnInput, envelope_of, frames_in, turned}
use Rattle.group_laws.specs.Matching.{IsMatchedTo, IsSenderOf, MaySend}
use Rattle.session_model.specs.Deeds.{Deed, RefreshedBelow, RefreshedSet, CameTo, TookTurn, RenewedKeys, group_past, sender_after, sender_of}
use Rattle.session_laws.specs.Pasts.{IsTurn}
use Rattle.session_laws.proofs.Versions.Distinct.{at-sound}
use Rattle.turn_laws.specs.Makers.{AreOwnTurns, IsOwnTurn}

-- the configuration with other rings of its key groups
abbrev pub with_rings : Config → List KeyGroupPart → Config
with_rings config rings = record config { keygroup = rings }

-- the turn is one of the configuration with some rings, with the sender of the group's key group
pub record IsRingTurn (config : Config) (g : ℕ) (before : List Deed) (turn : GroupTurn) : Type 0 where
  pub rings : List KeyGroupPart
  pub is : IsTurn (with_rings config rings) (group_at config g) (group_past config g before) turn
  pub sender : is.input.sender ≡ sender_of config g before

-- the turn is what a group makes of some input, and its headers can be written; of its sender nothing is asked
pub record IsWrittenTurn (config : Config) (group : GroupPart) (past : List GroupDeed) (turn : GroupTurn) : Type 0 where
  pub input : TurnInput
  pub is : turn ≡ turned config group past input
  pub written : AreWritten (envelope_of config group past) input.sender 0 (payloads_of config group (frames_in group past input))

-- so is each turn, and those of the groups of the key group k are by the definitions
abbrev pub AreRingTurns : Config → ℕ → List Deed → Type 0
AreRingTurns config k [] = ⊤
AreRingTurns config k (RefreshedBelow component ∷ before) = AreRingTurns config k before
AreRingTurns config k (RefreshedSet set ∷ before) = AreRingTurns config k before
AreRingTurns config k (CameTo moment ∷ before) = AreRingTurns config k before
AreRingTurns config k (TookTurn g turn ∷ before) =
    IsWrittenTurn config (group_at config g) (group_past config g before) turn × ((group_at config g).keygroup ≡ Some k → IsRingTurn config g before turn) × AreRingTurns config k before
AreRingTurns config k (RenewedKeys keygroup sets ∷ before) = AreRingTurns config k before

-- so is each turn of a group
abbrev pub AreWrittenPast : Config → GroupPart → List GroupDeed → Type 0
AreWrittenPast config group [] = ⊤
AreWrittenPast config group (RefreshedWriter writer ∷ before) = AreWrittenPast config group before
AreWrittenPast config group (HadGroupTurn turn ∷ before) = IsWrittenTurn config group before turn × AreWrittenPast config group before

-- a guard knows the sender: under the sender's token it has its keys, and it has its first block counter
pub record KnowsSender (setup : Setup) (s : SenderState) : Type 0 where
  pub keys : keys_with setup.keys s.keys.token ≡ Some s.keys
  pub first_block : setup.first_block ≡ s.first_block

-- the sender of the key group k at each turn of the group g
abbrev pub KnowsSenders : Config → Setup → ℕ → ℕ → List Deed → Type 0
KnowsSenders config setup k g [] = ⊤
KnowsSenders config setup k g (RefreshedBelow component ∷ before) = KnowsSenders config setup k g before
KnowsSenders config setup k g (RefreshedSet set ∷ before) = KnowsSenders config setup k g before
KnowsSenders config setup k g (CameTo moment ∷ before) = KnowsSenders config setup k g before
KnowsSenders config setup k g (TookTurn other turn ∷ before) =
    (other ≡ g → KnowsSender setup (sender_after config k before)) × KnowsSenders config setup k g before
KnowsSenders config setup k g (RenewedKeys keygroup sets ∷ before) = KnowsSenders config setup k g before

-- ---- the sender of a turn

pub sender-there : (config : Config) (group : GroupPart) (k count : ℕ) (o : Option SenderState) (s : SenderState) → o ≡ Some s → group.keygroup ≡ Some k → MaySend config group count o → IsSenderOf (keygroup_at config k) s
sender-there config group k count o s is keyed may =
    let sent : MaySend config group count (Some s) = subst (MaySend config group count) is may in
    subst (λ (x : Option ℕ). IfSome x (λ index. IsSenderOf (keygroup_at config index) s)) keyed sent.2

pub sender-of : (config : Config) (g k : ℕ) (before : List Deed) (o : Option SenderState) → (group_at config g).keygroup ≡ Some k → o ≡ sender_of config g before → o ≡ Some (sender_after config k before)
sender-of config g k before o keyed is = is ∙ ap (option_map (λ (n : ℕ). sender_after config n before)) keyed

-- ---- turns with the rings of the configuration

pub ring-turns : (config : Config) (k : ℕ) (list : List Deed) → AreOwnTurns config list → AreRingTurns config k list
ring-turns config k [] are = tt
ring-turns config k (RefreshedBelow component ∷ before) are = ring-turns config k before are
ring-turns config k (RefreshedSet set ∷ before) are = ring-turns config k before are
ring-turns config k (CameTo moment ∷ before) are = ring-turns config k before are
ring-turns config k (TookTurn g turn ∷ before) are = (
  record { input = are.0.is.input; is = are.0.is.is; written = are.0.is.may.written },
  (λ keyed. record { rings = config.keygroup; is = are.0.is; sender = are.0.sender }),
  ring-turns config k before are.1,
)
ring-turns config k (RenewedKeys keygroup sets ∷ before) are = ring-turns config k before are

own-known : (config : Config) (readers : ReadGroupPart) (g k : ℕ) (before : List Deed) (turn : GroupTurn) → (group_at config g).keygroup ≡ Some k → readers.keygroup ≡ Some k → IsOwnTurn config g before turn
    → KnowsSender (setup_by config readers readers.keygroup) (sender_after config k before)
own-known config readers g k before turn keyed reads own =
    let group = group_at config g in
    let s = sender_after config k before in
    let count = length (payloads_of config group (frames_in group (group_past config g before) own.is.input)) in
    let of = sender-there config group k count own.is.input.sender s (sender-of config g k before own.is.input.sender keyed own.sender) keyed own.is.may.sender in
    subst (λ (o : Option ℕ). KnowsSender (setup_by config readers o) s) (sym reads) (record { keys = of.keys; first_block = sym of.first_block })

pub knows-own : (config : Config) (readers : ReadGroupPart) (g k : ℕ) (list : List Deed) → (group_at config g).keygroup ≡ Some k → readers.keygroup ≡ Some k → AreOwnTurns config list
    → KnowsSenders config (setup_by config readers readers.keygroup) k g list
knows-own config readers g k [] keyed reads are = tt
knows-own config readers g k (RefreshedBelow component ∷ before) keyed reads are = knows-own config readers g k before keyed reads are
knows-own config readers g k (RefreshedSet set ∷ before) keyed reads are = knows-own config readers g k before keyed reads are
knows-own config readers g k (CameTo moment ∷ before) keyed reads are = knows-own config readers g k before keyed reads are
knows-own config readers g k (TookTurn other turn ∷ before) keyed reads are = (
  λ same. own-known config readers g k before turn keyed reads (subst (λ (n : ℕ). IsOwnTurn config n before turn) same are.0),
  knows-own config readers g k before keyed reads are.1,
)
knows-own config readers g k (RenewedKeys keygroup sets ∷ before) keyed reads are = knows-own config readers g k before keyed reads are

-- ---- the guard of a read group

pub setup-mode : (config : Config) (readers : ReadGroupPart) (keygroup : Option ℕ) → (setup_by config readers keygroup).mode ≡ mode_of readers.security
setup-mode config readers None = refl
setup-mode config readers (Some index) = refl

pub same-mode : (word : Security) → is_secured (mode_of word) ≡ configured.is_secured word
same-mode security.None = refl
same-mode security.Sign = refl
same-mode security.Encrypt = refl

-- a read group is secured that is matched to a group with a key group
pub secured-so : (config : Config) (g k : ℕ) (group : GroupPart) (readers : ReadGroupPart) (reader w : ℕ) → IsSound config → slice_get config.group g ≡ Some group → group.keygroup ≡ Some k → IsMatchedTo config readers reader group w
    → is_secured (setup_by config readers readers.keygroup).mode ≡ true
secured-so config g k group readers reader w sound there keyed matched =
    let word = group.security in
    let keys = subst (IsKeyed config (configured.is_secured word)) keyed (at-sound config g group sound there).keys in
    ap is_secured (setup-mode config readers readers.keygroup) ∙ ap (λ (x : Security). is_secured (mode_of x)) matched.groups.security ∙ same-mode word ∙ keys.keyed
