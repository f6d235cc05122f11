-- A ring that renews keys leaves all states as they are.
use Rattle.std.proofs.Common.{◌≡◌, refl, sym, ap, ℕ, Bool, true, false, List, ◌∷◌, map, Option, Some, None}
use Rattle.std.specs.Prelude.{◌==◌, ◌||◌, nat_lt, option_map}
use Rattle.std.specs.Option.{option_map_or}
use Rattle.group_keys.specs.declared.key_set.KeySet.{KeySet}
use Rattle.message_guard.specs.declared.keys.TokenKeys.{TokenKeys}
use Rattle.message_guard.specs.Protection.{keys_in}
use Rattle.message_guard.specs.Senders.{SenderState, numbers_left}
use Rattle.ps_config.specs.declared.parts.Config.{Config}
use Rattle.pubsub_states.specs.declared.component.Component.{Component}
use Rattle.pubsub_states.specs.declared.component.Component.TheVariants.{Root, Connection, Group, Writer, ReadGroup, Reader}
use Rattle.reader_group.specs.Settings.{group_at as read_group_at}
use Rattle.writer_group.specs.Parts.{group_at}
use Rattle.session_model.specs.Steps.{Step, is_on}
use Rattle.session_model.specs.Deeds.{Deed, RenewedKeys, renewed_if, sender_after}
use Rattle.session_model.specs.Lives.{Account, flags_by, late_in, ready_in, renewed}
use Rattle.session_model.specs.Readings.{Reading, reads_with, rekeyed_if}

numbers-stay : (b : Bool) (sets : List KeySet) (s : SenderState) → numbers_left (renewed_if b sets s) ≡ numbers_left s
numbers-stay true sets s = refl
numbers-stay false sets s = refl

spent-of : (config : Config) (keygroup : Option ℕ) (k : ℕ) (sets : List KeySet) (deeds : List Deed)
    → option_map_or (λ s. nat_lt (numbers_left s) 1024) (option_map (λ q. sender_after config q (RenewedKeys k sets ∷ deeds)) keygroup) false
    ≡ option_map_or (λ s. nat_lt (numbers_left s) 1024) (option_map (λ q. sender_after config q deeds) keygroup) false
spent-of config None k sets deeds = refl
spent-of config (Some q) k sets deeds = ap (λ (n : ℕ). nat_lt n 1024) (numbers-stay (k == q) sets (sender_after config q deeds))

late-stay : (b : Bool) (keys : List TokenKeys) (readings : ℕ → Reading) (r i : ℕ) → late_in (λ q. rekeyed_if b keys (readings q)) r i ≡ late_in readings r i
late-stay true keys readings r i = refl
late-stay false keys readings r i = refl

ready-stay : (b : Bool) (keys : List TokenKeys) (readings : ℕ → Reading) (r i : ℕ) → ready_in (λ q. rekeyed_if b keys (readings q)) r i ≡ ready_in readings r i
ready-stay true keys readings r i = refl
ready-stay false keys readings r i = refl

pub flags-stay : (config : Config) (steps : List Step) (k : ℕ) (sets : List KeySet) (a : Account) (c : Component) → flags_by config steps a c ≡ flags_by config steps (renewed config k sets a) c
flags-stay config steps k sets a Root = refl
flags-stay config steps k sets a Connection = refl
flags-stay config steps k sets a (Group g) =
    ap (λ (b : Bool). record { enabled = is_on config steps (Group g); fault = a.failing g || b; ready = true }) (sym (spent-of config (group_at config g).keygroup k sets a.deeds))
flags-stay config steps k sets a (Writer g w) = refl
flags-stay config steps k sets a (ReadGroup r) = refl
flags-stay config steps k sets a (Reader r i) =
    λ j. record {
      enabled = is_on config steps (Reader r i);
      fault = sym (late-stay (reads_with (read_group_at config r) k) (map keys_in sets) a.readings r i) j;
      ready = sym (ready-stay (reads_with (read_group_at config r) k) (map keys_in sets) a.readings r i) j;
    }
