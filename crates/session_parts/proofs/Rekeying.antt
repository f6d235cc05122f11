-- A ring renews the keys of a key group.
use Rattle.std.proofs.Common.{◌≡◌, refl, sym, ap, ◌∙◌, subst, arith, ℕ, ◌<◌, ◌≢◌, ◌⊎◌, inl, inr, Bool, true, false, List, ◌∷◌, length, get_or, set}
use Rattle.std.specs.Prelude.{◌==◌, All}
use Rattle.std.proofs.lemmas.Bool.Decides.{eqb_tells}
use Rattle.std.proofs.lemmas.List.{get_or-set_other, get_or-set_same, length-set}
use Rattle.std.proofs.lemmas.List.Elements.{All-get_or, All-set}
use Rattle.group_keys.specs.declared.key_set.KeySet.{KeySet}
use Rattle.message_guard.specs.declared.keys.TokenKeys.{TokenKeys}
use Rattle.message_guard.specs.Senders.{IsSender, SenderState, renewed}
use Rattle.ps_config.specs.declared.parts.Config.{Config}
use Rattle.reader_group.specs.declared.group.ReaderGroup.{ReaderGroup}
use Rattle.reader_group.specs.Groups.{IsMadeOf, Stands, index_of}
use Rattle.reader_group.specs.Plain.{PlainGroup, Setting}
use Rattle.reader_group.specs.Settings.{group_at}
use Rattle.session_model.specs.Deeds.{Deed, RenewedKeys, renewed_if, sender_after}
use Rattle.session_model.specs.Readings.{Reading, reads_with, rekeyed_if, setting_in}
use Rattle.session_parts.specs.declared.publisher.Publisher.{Publisher}
use Rattle.session_parts.specs.declared.subscriber.Subscriber.{Subscriber}
use Rattle.session_parts.specs.Holding.{HoldPublisher, HoldSubscriber}
use Rattle.session_parts.specs.Standing.{HaveReadings, HaveSent, HaveTallies, IsTallyOf}
use Rattle.session_parts.specs.declared.tally.Tally.{Tally}
use Rattle.session_parts.specs.Renewing.{HaveRekeyed, HaveRenewed, IsRekeyedIf, StillPublishes, with_keys_if}
use Rattle.session_parts.proofs.Each.{EachTo}
use Rattle.session_parts.proofs.Staying.{still-hold}

-- ---- senders

-- x is the sender of the key group
pub renewed-sent : (k : ℕ) (sets : List KeySet) (old : List SenderState) (x : SenderState) → k < length old → x ≡ get_or old k x
    → HaveRenewed k sets old (set old k (renewed x sets))
renewed-sent k sets old x there read config deeds sent q low d = by_case (eqb_tells k q)
  where
    by_case : ((k == q) ≡ true) × (k ≡ q) ⊎ ((k == q) ≡ false) × (k ≢ q) → get_or (set old k (renewed x sets)) q d ≡ sender_after config q (RenewedKeys k sets ∷ deeds)
    by_case (inl same) =
        ap (λ (n : ℕ). get_or (set old k (renewed x sets)) n d) (sym same.1)
        ∙ get_or-set_same old k (renewed x sets) d there
        ∙ ap (λ (s : SenderState). renewed s sets) (read ∙ ap (λ (n : ℕ). get_or old n x) same.1 ∙ sent q low x)
        ∙ sym (ap (λ (b : Bool). renewed_if b sets (sender_after config q deeds)) same.0)
    by_case (inr other) =
        get_or-set_other old k q (renewed x sets) d (λ same. other.1 (sym same))
        ∙ sent q low d
        ∙ sym (ap (λ (b : Bool). renewed_if b sets (sender_after config q deeds)) other.0)

-- ---- read groups

pub record RekeysAt (config : Config) (k : ℕ) (keys : List TokenKeys) (r : ℕ) (old new : ReaderGroup) : Type 0 where
  pub index : index_of new ≡ index_of old
  pub made : (config : Config) → IsMadeOf config old → IsMadeOf config new
  pub rekeyed : IsRekeyedIf (reads_with (group_at config r) k) keys old new

pub rekeyed-hold : (config : Config) (k : ℕ) (keys : List TokenKeys) (old new : Subscriber) → EachTo (RekeysAt config k keys) (length old.groups.items) old.groups.items new.groups.items
    → new.tallies ≡ old.tallies → HoldSubscriber config old → HoldSubscriber config new
rekeyed-hold config k keys old new each same holds =
    still-hold (RekeysAt config k keys) (λ r one other does. record { index = does.index; made = does.made }) old new each same config holds

rekeyed-stands : (config : Config) (r : ℕ) (b : Bool) (keys : List TokenKeys) (reading : Reading) (group : ReaderGroup)
    → Stands (with_keys_if b keys (setting_in config r reading)) reading.value group → Stands (setting_in config r (rekeyed_if b keys reading)) (rekeyed_if b keys reading).value group
rekeyed-stands config r true keys reading group h = h
rekeyed-stands config r false keys reading group h = h

pub rekeyed-read : (config : Config) (k : ℕ) (keys : List TokenKeys) (old new : Subscriber) → EachTo (RekeysAt config k keys) (length old.groups.items) old.groups.items new.groups.items
    → HoldSubscriber config old → HaveRekeyed config k keys old new
rekeyed-read config k keys old new each holds readings read r low d =
    let there : r < length old.groups.items = omega (arith, low, holds.groups.count) in
    rekeyed-stands config r (reads_with (group_at config r) k) keys (readings r) (get_or new.groups.items r d)
    ((each.done r there there d).rekeyed (setting_in config r (readings r)) (readings r).value (read r low d))

rekeyed-tally : (b : Bool) (keys : List TokenKeys) (reading : Reading) (tally : Tally) → IsTallyOf reading.answered tally → IsTallyOf (rekeyed_if b keys reading).answered tally
rekeyed-tally true keys reading tally h = h
rekeyed-tally false keys reading tally h = h

-- tallies stay
pub rekeyed-tallies : (config : Config) (k : ℕ) (keys : List TokenKeys) (readings : ℕ → Reading) (tallies : List Tally) → HaveTallies config readings tallies
    → HaveTallies config (λ r. rekeyed_if (reads_with (group_at config r) k) keys (readings r)) tallies
rekeyed-tallies config k keys readings tallies h r low d =
    rekeyed-tally (reads_with (group_at config r) k) keys (readings r) (get_or tallies r d) (h r low d)

-- the publisher holds with the sender renewed
pub still-publishes : (k : ℕ) (sets : List KeySet) (old new : Publisher) (x y : SenderState) → k < length old.senders.items → x ≡ get_or old.senders.items k x → y ≡ renewed x sets
    → new ≡ record old { senders = new.senders } → new.senders.items ≡ set old.senders.items k y → StillPublishes old new
still-publishes k sets old new x y there read is rest items config holds = subst (HoldPublisher config) (sym rest) (record {
  groups = holds.groups;
  senders = record {
    count = ap (λ (l : List SenderState). length l) items ∙ length-set old.senders.items k y ∙ holds.senders.count;
    each = subst (All IsSender) (sym items) (All-set IsSender old.senders.items k y (subst IsSender (sym is) own) holds.senders.each);
  };
  reserved = holds.reserved;
  sends = holds.sends;
})
  where
    was : IsSender x
    was = subst IsSender (sym read) (All-get_or IsSender old.senders.items k x there holds.senders.each)

    own : IsSender (renewed x sets)
    own = record { random = was.random; used = was.used }
