-- Each sender of a session can give fronts, whichever rings with tokens of 32 bits renew it.
use Rattle.std.proofs.Common.{◌≡◌, refl, sym, ap, ◌∙◌, subst, arith, ℕ, ◌<◌, ◌^◌, Bool, true, false, List, [], ◌∷◌, length, map, All, Option, Some, None}
use Rattle.std.specs.Prelude.{◌==◌, nat_lt, nat_le, find, reverse, option_map, unwrap_or, if◌then◌else◌}
use Rattle.std.proofs.lemmas.List.{reverse-append}
use Rattle.std.proofs.lemmas.List.Elements.{All-append, All-cons, All-head, All-map, All-nil, All-tail, All-weaker}
use Rattle.group_keys.specs.KeySets.{current}
use Rattle.group_keys.specs.declared.key_set.KeySet.{KeySet}
use Rattle.message_guard.specs.declared.keys.TokenKeys.{TokenKeys}
use Rattle.message_guard.specs.declared.mode.Mode.{Mode}
use Rattle.message_guard.specs.Protection.{keys_in}
use Rattle.message_guard.specs.Senders.{SenderState, turned_by}
use Rattle.ps_config.specs.declared.parts.Config.{Config}
use Rattle.ps_config.specs.declared.parts.KeyGroupPart.{KeyGroupPart}
use Rattle.ps_config.specs.Headers.{mode_of}
use Rattle.ps_config.specs.Rings.{key_set}
use Rattle.ps_config.specs.Types.{HasKeyGroupTypes, HasKeyTypes, HasTypes}
use Rattle.pubsub_states.specs.declared.component.Component.{Component}
use Rattle.reader_group.specs.Settings.{keygroup_at, no_keygroup, no_keys}
use Rattle.writer_group.specs.Parts.{group_at}
use Rattle.writer_group.specs.Turning.{CanGiveFronts}
use Rattle.writer_group.specs.Turns.{GroupTurn}
use Rattle.session_model.specs.Deeds.{Deed, RefreshedBelow, RefreshedSet, CameTo, TookTurn, RenewedKeys, advanced_if, opening_sender, renewed_if, sender_after, shares}
use Rattle.session_laws.specs.Renewals.{HaveShortTokens}
use Rattle.session_laws.proofs.Versions.Senders.{advanced-is}

-- ---- a sender

record IsGiving (s : SenderState) : Type 0 where
  pub fronts : CanGiveFronts s
  sets : HaveShortTokens s.sets

found : (P : KeySet → Type 0) (test : KeySet → Bool) (sets : List KeySet) (set : KeySet) → All P sets → find test sets ≡ Some set → P set
found P test [] set all e = absurd (cc)
found P test (first ∷ sets) set all e = on (test first) e (found P test sets set (All-tail P first sets all))
  where
    on : (b : Bool) → (if b then Some first else find test sets) ≡ Some set → (find test sets ≡ Some set → P set) → P set
    on true e rest = let same : first ≡ set = cc in subst P same (All-head P first sets all)
    on false e rest = rest e

all-reverse : (P : KeySet → Type 0) (sets : List KeySet) → All P sets → All P (reverse sets)
all-reverse P [] all = All-nil P
all-reverse P (set ∷ sets) all =
    subst (All P) (sym (reverse-append (set ∷ []) sets))
    (All-append P (reverse sets) (set ∷ []) (all-reverse P sets (All-tail P set sets all)) (All-cons P set [] (All-head P set sets all) (All-nil P)))

abbrev IsShort : KeySet → Type 0
IsShort set = set.token < 2 ^ 32

current-short : (sets : List KeySet) (now : ℕ) (set : KeySet) → HaveShortTokens sets → current sets now ≡ Some set → set.token < 2 ^ 32
current-short sets now set all e = found IsShort (λ set. nat_le set.from now) (reverse sets) set (all-reverse IsShort sets all) e

first-short : (sets : List KeySet) (o : Option KeySet) → HaveShortTokens sets → current sets 0 ≡ o → (unwrap_or (option_map keys_in o) no_keys).token < 2 ^ 32
unfolding no_keys
first-short sets None all e = omega arith
first-short sets (Some set) all e = current-short sets 0 set all e

opening-gives : (ring : KeyGroupPart) → HasKeyGroupTypes ring → IsGiving (opening_sender ring)
opening-gives ring types =
    let sets : HaveShortTokens (map key_set ring.key) = All-map IsShort key_set ring.key (All-weaker HasKeyTypes (λ key. key.token < 2 ^ 32) (λ key t. t.token) ring.key types.keys) in
    record { fronts = record { random = types.random; token = first-short (map key_set ring.key) (current (map key_set ring.key) 0) sets refl }; sets = sets }

turned-gives : (s : SenderState) (now : ℕ) (o : Option KeySet) → current s.sets now ≡ o → IsGiving s → IsGiving (turned_by s o)
turned-gives s now None e h = h
turned-gives s now (Some set) e h = on (nat_lt s.keys.token set.token)
  where
    on : (b : Bool) → IsGiving (if b then record s { keys = keys_in set; used = 0; fronted = None } else s)
    on false = h
    on true = record { fronts = record { random = h.fronts.random; token = current-short s.sets now set h.sets e }; sets = h.sets }

advanced-gives : (b : Bool) (mode : Mode) (count : ℕ) (s : SenderState) → IsGiving s → IsGiving (advanced_if b mode count s)
advanced-gives false mode count s h = h
advanced-gives true mode count s h =
    let a = advanced-is mode s count in
    record {
      fronts = record { random = ap (λ (l : List ℕ). length l) a.random ∙ h.fronts.random; token = subst (λ (k : TokenKeys). k.token < 2 ^ 32) (sym a.keys) h.fronts.token };
      sets = subst HaveShortTokens (sym a.sets) h.sets;
    }

renewed-gives : (b : Bool) (sets : List KeySet) (s : SenderState) → HaveShortTokens sets → IsGiving s → IsGiving (renewed_if b sets s)
renewed-gives false sets s short h = h
renewed-gives true sets s short h = record { fronts = record { random = h.fronts.random; token = h.fronts.token }; sets = short }

-- ---- all senders

pub AllGiving : Config → List Deed → Type 0
AllGiving config deeds = (k : ℕ) → k < length config.keygroup → IsGiving (sender_after config k deeds)

pub giving-use : (config : Config) (deeds : List Deed) (k : ℕ) → AllGiving config deeds → k < length config.keygroup → CanGiveFronts (sender_after config k deeds)
unfolding AllGiving
giving-use config deeds k h there = (h k there).fronts

pub giving-open : (config : Config) → HasTypes config → AllGiving config []
unfolding AllGiving
giving-open config types = λ k there. opening-gives (keygroup_at config k) (types.keygroups k no_keygroup there)

pub giving-came : (config : Config) (now : ℕ) (earlier : List Deed) → AllGiving config earlier → AllGiving config (CameTo now ∷ earlier)
unfolding AllGiving
giving-came config now earlier h = λ k there. let s = sender_after config k earlier in turned-gives s now (current s.sets now) refl (h k there)

pub giving-below : (config : Config) (component : Component) (earlier : List Deed) → AllGiving config earlier → AllGiving config (RefreshedBelow component ∷ earlier)
unfolding AllGiving
giving-below config component earlier h = h

pub giving-set : (config : Config) (set : ℕ) (earlier : List Deed) → AllGiving config earlier → AllGiving config (RefreshedSet set ∷ earlier)
unfolding AllGiving
giving-set config set earlier h = h

pub giving-turn : (config : Config) (g : ℕ) (turn : GroupTurn) (earlier : List Deed) → AllGiving config earlier → AllGiving config (TookTurn g turn ∷ earlier)
unfolding AllGiving
giving-turn config g turn earlier h =
    λ k there. advanced-gives (shares (group_at config g) k) (mode_of (group_at config g).security) (length turn.made) (sender_after config k earlier) (h k there)

pub giving-renewed : (config : Config) (keygroup : ℕ) (sets : List KeySet) (earlier : List Deed) → HaveShortTokens sets → AllGiving config earlier → AllGiving config (RenewedKeys keygroup sets ∷ earlier)
unfolding AllGiving
giving-renewed config keygroup sets earlier short h = λ k there. renewed-gives (keygroup == k) sets (sender_after config k earlier) short (h k there)
