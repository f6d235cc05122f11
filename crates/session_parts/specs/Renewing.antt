-- What a ring makes of senders and read groups, whatever came before it.
use Rattle.std.specs.Prelude.{ℕ, ◌<◌, ◌↔◌, IsTrue, List, ◌∷◌, length, Bool, true, false}
use Rattle.group_keys.specs.declared.key_set.KeySet.{KeySet}
use Rattle.message_guard.specs.declared.keys.TokenKeys.{TokenKeys}
use Rattle.message_guard.specs.Senders.{SenderState, KeepsToken}
use Rattle.ps_config.specs.declared.parts.Config.{Config}
use Rattle.reader_group.specs.declared.group.ReaderGroup.{ReaderGroup}
use Rattle.reader_group.specs.Groups.{Stands as ReadingStands}
use Rattle.reader_group.specs.Plain.{PlainGroup, Setting, with_keys}
use Rattle.reader_group.specs.Settings.{group_at}
use Rattle.session_model.specs.Deeds.{Deed, RenewedKeys, sender_after}
use Rattle.session_model.specs.Readings.{Reading, reads_with, rekeyed_if}
use Rattle.session_parts.specs.declared.publisher.Publisher.{Publisher}
use Rattle.session_parts.specs.declared.subscriber.Subscriber.{Subscriber}
use Rattle.session_parts.specs.Holding.{HoldPublisher}
use Rattle.session_parts.specs.Standing.{HaveReadings, HaveSent}

-- ---- the publisher

-- the sender of the key group goes on with these sets, and no other sender changes
abbrev pub HaveRenewed : ℕ → List KeySet → List SenderState → List SenderState → Type 0
HaveRenewed k sets old new =
    (config : Config) (deeds : List Deed) → HaveSent config deeds old → HaveSent config (RenewedKeys k sets ∷ deeds) new

-- whether these sets have the token in use of the key group's sender, with the same keys
abbrev pub IsTokenKept : ℕ → List KeySet → List SenderState → Bool → Type 0
IsTokenKept k sets senders result =
    (config : Config) (deeds : List Deed) → k < length config.keygroup → HaveSent config deeds senders
    → IsTrue result ↔ KeepsToken (sender_after config k deeds) sets

-- whichever configuration it holds of, it still does
abbrev pub StillPublishes : Publisher → Publisher → Type 0
StillPublishes old new = (config : Config) → HoldPublisher config old → HoldPublisher config new

-- ---- the subscriber

-- the read groups that share the key group go on with these keys where they stand, and no other changes
abbrev pub HaveRekeyed : Config → ℕ → List TokenKeys → Subscriber → Subscriber → Type 0
HaveRekeyed config k keys old new =
    (readings : ℕ → Reading) → HaveReadings config readings old.groups.items
    → HaveReadings config (λ r. rekeyed_if (reads_with (group_at config r) k) keys (readings r)) new.groups.items

-- ---- one read group

abbrev pub with_keys_if : Bool → List TokenKeys → Setting → Setting
with_keys_if true keys setting = with_keys setting keys
with_keys_if false keys setting = setting

-- it goes on with these keys where the truth value tells so
abbrev pub IsRekeyedIf : Bool → List TokenKeys → ReaderGroup → ReaderGroup → Type 0
IsRekeyedIf is_rekeyed keys old new =
    (setting : Setting) (value : PlainGroup) → ReadingStands setting value old
    → ReadingStands (with_keys_if is_rekeyed keys setting) value new
