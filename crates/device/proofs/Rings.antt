-- Rings of senders: what turns and numbers leave of a sender's key sets.
use Rattle.std.proofs.Common.{◌≡◌, ℕ, zero, suc, ◌<◌, Bool, true, false, List, [], ◌∷◌, length, get_or, set, nat_lt, refl, sym, ap, subst, arith, ◌∙◌}
use Rattle.std.specs.Prelude.{All, Option, Some, None, if◌then◌else◌}
use Rattle.std.specs.List.{AllZip}
use Rattle.group_keys.specs.KeySets.{current}
use Rattle.group_keys.specs.declared.key_set.KeySet.{KeySet}
use Rattle.group_keys.specs.declared.ring.Ring.{Ring}
use Rattle.message_guard.specs.declared.mode.Mode.{Mode}
use Rattle.message_guard.specs.Protection.{keys_in}
use Rattle.message_guard.specs.Senders.{IsSender, SenderState, renewed, turned_by}
use Rattle.ps_config.specs.declared.parts.Config.{Config}
use Rattle.ps_config.specs.declared.parts.KeyGroupPart.{KeyGroupPart}
use Rattle.ps_config.specs.Headers.{mode_of}
use Rattle.writer_group.specs.Parts.{group_at}
use Rattle.writer_group.specs.Sealing.{advanced_by}
use Rattle.device.specs.Coming.{turned_to}
use Rattle.device.specs.Looking.{LeavesSenders}
use Rattle.device.specs.Sides.{HasRing, IsBecome, IsConfiguredRing, IsOpeningSender, numbered}
use Rattle.device.specs.declared.looking.Looked.{Looked}
use Rattle.device.specs.declared.looking.Looked.TheVariants.{Held, Idle, Made}
use Rattle.device.proofs.Sending.{no_sender}

-- ---- one sender

turned-set : (s : SenderState) (set : KeySet) (b : Bool) → (if b then record s { keys = keys_in set; used = 0; fronted = None } else s).sets ≡ s.sets
turned-set s set true = refl
turned-set s set false = refl

turned-sets-by : (s : SenderState) (set : Option KeySet) → (turned_by s set).sets ≡ s.sets
turned-sets-by s None = refl
turned-sets-by s (Some set) = turned-set s set (nat_lt s.keys.token set.token)

advanced-sets : (mode : Mode) (s : SenderState) (count : ℕ) → (advanced_by mode s count).sets ≡ s.sets
advanced-sets mode s zero = refl
advanced-sets mode s (suc count) = advanced-sets mode s count

-- ---- all

-- each sender has the key sets that it had
abbrev KeepSets : List SenderState → List SenderState → Type 0
KeepSets old new = AllZip (λ (was is : SenderState). is.sets ≡ was.sets) old new

keep-same : (l : List SenderState) → KeepSets l l
keep-same [] = tt
keep-same (s ∷ l) = (refl, keep-same l)

keep-turned : (now : ℕ) (l : List SenderState) → KeepSets l (turned_to now l)
keep-turned now [] = tt
keep-turned now (s ∷ l) = (turned-sets-by s (current s.sets now), keep-turned now l)

keep-set : (l : List SenderState) (k : ℕ) (y : SenderState) → y.sets ≡ (get_or l k y).sets → KeepSets l (set l k y)
keep-set [] k y same = tt
keep-set (s ∷ l) zero y same = (same, keep-same l)
keep-set (s ∷ l) (suc k) y same = (refl, keep-set l k y same)

keep-same-as : (old new : List SenderState) → new ≡ old → KeepSets old new
keep-same-as old new same = subst (λ (l : List SenderState). KeepSets old l) (sym same) (keep-same old)

keep-change : (change : SenderState → SenderState) → ((s : SenderState) → (change s).sets ≡ s.sets) → (l : List SenderState) (k : ℕ) → KeepSets l (set l k (change (get_or l k no_sender)))
keep-change change keeps [] k = tt
keep-change change keeps (s ∷ l) zero = (keeps s, keep-same l)
keep-change change keeps (s ∷ l) (suc k) = (refl, keep-change change keeps l k)

keep-become : (keygroup : Option ℕ) (change : SenderState → SenderState) → ((s : SenderState) → (change s).sets ≡ s.sets) → (old new : List SenderState)
    → IsBecome keygroup change old new → KeepSets old new
keep-become None change keeps old new is = keep-same-as old new is
keep-become (Some k) change keeps old new is = subst (λ (l : List SenderState). KeepSets old l) (sym (is no_sender)) (keep-change change keeps old k)

keep-left : (looked : Looked) (config : Config) (index : ℕ) (old new : List SenderState) → LeavesSenders config index looked old new → KeepSets old new
keep-left Idle config index old new leaves = keep-same-as old new leaves
keep-left Held config index old new leaves = keep-same-as old new leaves
keep-left (Made made) config index old new leaves =
    keep-become (group_at config index).keygroup (numbered config index made) (λ s. advanced-sets (mode_of (group_at config index).security) s made) old new leaves

-- ---- their rings

rings-kept : (old new : List SenderState) (rings : List Ring) → KeepSets old new → AllZip HasRing old rings → AllZip HasRing new rings
rings-kept [] [] rings keep are = are
rings-kept [] (y ∷ new) rings keep are = absurd keep
rings-kept (x ∷ old) [] rings keep are = absurd keep
rings-kept (x ∷ old) (y ∷ new) [] keep are = absurd are
rings-kept (x ∷ old) (y ∷ new) (r ∷ rings) keep are = (are.0 ∙ sym keep.0, rings-kept old new rings keep.1 are.1)

pub rings-turned : (now : ℕ) (senders : List SenderState) (rings : List Ring) → AllZip HasRing senders rings → AllZip HasRing (turned_to now senders) rings
rings-turned now senders rings are = rings-kept senders (turned_to now senders) rings (keep-turned now senders) are

pub rings-left : (looked : Looked) (config : Config) (index : ℕ) (old new : List SenderState) (rings : List Ring) → LeavesSenders config index looked old new
    → AllZip HasRing old rings → AllZip HasRing new rings
rings-left looked config index old new rings leaves are = rings-kept old new rings (keep-left looked config index old new leaves) are

pub rings-count : (senders : List SenderState) (rings : List Ring) → AllZip HasRing senders rings → length rings ≡ length senders
rings-count [] [] are = refl
rings-count [] (r ∷ rings) are = absurd are
rings-count (s ∷ senders) [] are = absurd are
rings-count (s ∷ senders) (r ∷ rings) are = ap suc (rings-count senders rings are.1)

pub ring-at : (senders : List SenderState) (rings : List Ring) (k : ℕ) (s : SenderState) (r : Ring) → AllZip HasRing senders rings → k < length senders → HasRing (get_or senders k s) (get_or rings k r)
ring-at [] rings k s r are low = absurd (omega (arith, low))
ring-at (x ∷ senders) [] k s r are low = absurd are
ring-at (x ∷ senders) (y ∷ rings) zero s r are low = are.0
ring-at (x ∷ senders) (y ∷ rings) (suc k) s r are low = ring-at senders rings k s r are.1 (omega (arith, low))

pub rings-set : (senders : List SenderState) (rings : List Ring) (k : ℕ) (s : SenderState) (ring : Ring) → HasRing s ring → AllZip HasRing senders rings
    → AllZip HasRing (set senders k s) (set rings k ring)
rings-set [] [] k s ring has are = tt
rings-set [] (r ∷ rings) k s ring has are = absurd are
rings-set (x ∷ senders) [] k s ring has are = absurd are
rings-set (x ∷ senders) (r ∷ rings) zero s ring has are = (has, are.1)
rings-set (x ∷ senders) (r ∷ rings) (suc k) s ring has are = (are.0, rings-set senders rings k s ring has are.1)

-- a sender that goes on with other sets is a sender still
pub is-renewed : (sets : List KeySet) (senders : List SenderState) (k : ℕ) (was is : SenderState) → k < length senders → was ≡ get_or senders k was → is ≡ renewed was sets
    → All IsSender senders → IsSender is
is-renewed sets senders k was is low at same are =
    let before : IsSender was = subst IsSender (sym at) (are k was low) in
    subst IsSender (sym same) (record { random = before.random; used = before.used })

pub rings-opening : (parts : List KeyGroupPart) (senders : List SenderState) (rings : List Ring) → AllZip IsOpeningSender parts senders → AllZip IsConfiguredRing parts rings
    → AllZip HasRing senders rings
rings-opening [] [] [] opening configured = tt
rings-opening [] [] (r ∷ rings) opening configured = absurd configured
rings-opening [] (s ∷ senders) rings opening configured = absurd opening
rings-opening (p ∷ parts) [] rings opening configured = absurd opening
rings-opening (p ∷ parts) (s ∷ senders) [] opening configured = absurd configured
rings-opening (p ∷ parts) (s ∷ senders) (r ∷ rings) opening configured = (configured.0 ∙ sym opening.0.sets_are, rings-opening parts senders rings opening.1 configured.1)
