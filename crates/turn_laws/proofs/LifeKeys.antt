-- The keys of a life: what is found under a token in a ring of it is found in all of them together, and a sender has keys of one.
use Rattle.std.proofs.Common.{◌≡◌, refl, sym, ap, ◌∙◌, subst, arith, ℕ, zero, suc, ◌<◌, Bool, true, false, List, [], ◌∷◌, ◌++◌, length, map, Option, Some, None, All, Contains, eq-eqb, eqb-true}
use Rattle.std.specs.Prelude.{◌==◌, nat_le, nat_lt, if◌then◌else◌}
use Rattle.std.proofs.lemmas.List.{get_or-map}
use Rattle.std.proofs.lemmas.List.Elements.{All-append, All-contains, All-contains_itself, All-map, All-weaker, Contains-append_left, Contains-append_right}
use Rattle.group_keys.specs.KeySets.{LengthsFit, current, encrypting_length, with_token}
use Rattle.group_keys.specs.declared.key_set.KeySet.{KeySet}
use Rattle.group_keys.proofs.Finding.{found_at, last_found_listed}
use Rattle.message_guard.specs.declared.keys.TokenKeys.{TokenKeys}
use Rattle.message_guard.specs.declared.mode.Mode.{Mode}
use Rattle.message_guard.specs.Protection.{keys_in, keys_with}
use Rattle.message_guard.specs.Senders.{SenderState, turned_by}
use Rattle.message_guard.proofs.Rings.{keys_with-map, set_of}
use Rattle.ps_config.specs.declared.parts.Config.{Config}
use Rattle.ps_config.specs.declared.parts.KeyGroupPart.{KeyGroupPart}
use Rattle.ps_config.specs.Configs.{is_long}
use Rattle.ps_config.specs.Headers.{mode_of}
use Rattle.ps_config.specs.Rings.{key_set}
use Rattle.ps_config.specs.Sound.{IsSound}
use Rattle.ps_config.specs.Types.{HasTypes}
use Rattle.pubsub_states.specs.declared.component.Component.{Component}
use Rattle.reader_group.specs.Settings.{keygroup_at, no_keygroup}
use Rattle.reader_group.proofs.Made.{ring-keys}
use Rattle.writer_group.specs.Parts.{group_at}
use Rattle.writer_group.specs.Turns.{GroupTurn}
use Rattle.session_model.specs.Deeds.{Deed, RefreshedBelow, RefreshedSet, CameTo, TookTurn, RenewedKeys, advanced_if, opening_sender, renewed_if, sender_after, shares}
use Rattle.session_model.specs.Lives.{Lived, Renewed, Stepped}
use Rattle.session_laws.specs.Below.{RingLaw}
use Rattle.session_laws.proofs.Versions.Senders.{advanced-is, senders-open, senders-use}
use Rattle.turn_laws.specs.Lives.{FitPolicy, TokensNameKeys, sets_in_life}

-- ---- what is found under a token

-- keys under a token are those of a set with it
record IsSetOf (sets : List KeySet) (token : ℕ) (keys : TokenKeys) : Type 0 where
  set : KeySet
  has : Contains sets set
  token_is : set.token ≡ token
  keys_are : keys ≡ keys_in set

found-set : (sets : List KeySet) (token : ℕ) (keys : TokenKeys) → keys_with (map keys_in sets) token ≡ Some keys → IsSetOf sets token keys
found-set sets token keys e =
    let at = set_of (with_token sets token) keys (sym (keys_with-map sets token) ∙ e) in
    let first = found_at (λ (set : KeySet). set.token == token) sets at.0 at.1.0 in
    record { set = at.0; has = (_, first.within, first.here); token_is = eqb-true at.0.token token first.passes; keys_are = at.1.1 }

-- where a set has the token something is found
some-found : (sets : List KeySet) (token : ℕ) (set : KeySet) → Contains sets set → set.token ≡ token → (keys : TokenKeys) × (keys_with (map keys_in sets) token ≡ Some keys)
some-found [] token set has is = absurd (let below = has.1 in omega (arith, below))
some-found (first ∷ sets) token set (zero, below, same) is =
    let test : (first.token == token) ≡ true = eq-eqb first.token token (ap (λ (s : KeySet). s.token) same ∙ is) in
    (keys_in first, ap (λ (b : Bool). if b then Some (keys_in first) else keys_with (map keys_in sets) token) test)
some-found (first ∷ sets) token set (suc k, below, same) is = on (first.token == token) (some-found sets token set (k, omega (arith, below), same) is)
  where
    on : (b : Bool) → (keys : TokenKeys) × (keys_with (map keys_in sets) token ≡ Some keys) → (keys : TokenKeys) × ((if b then Some (keys_in first) else keys_with (map keys_in sets) token) ≡ Some keys)
    on true rest = (keys_in first, refl)
    on false rest = rest

-- each set is found by its token, where tokens name keys
pub named-found : (sets : List KeySet) (set : KeySet) → TokensNameKeys sets → Contains sets set → keys_with (map keys_in sets) set.token ≡ Some (keys_in set)
named-found sets set named has =
    let some = some-found sets set.token set has refl in
    let found = found-set sets set.token some.0 some.1 in
    let same : keys_in found.set ≡ keys_in set = named found.set set found.has has found.token_is in
    some.1 ∙ ap (λ (keys : TokenKeys). Some keys) (found.keys_are ∙ same)

-- so is what is found in some of them
pub found-more : (sets all : List KeySet) (token : ℕ) (keys : TokenKeys) → TokensNameKeys all → All (Contains all) sets → keys_with (map keys_in sets) token ≡ Some keys → keys_with (map keys_in all) token ≡ Some keys
found-more sets all token keys named among e =
    let found = found-set sets token keys e in
    let has = All-contains (Contains all) sets found.set among found.has in
    ap (keys_with (map keys_in all)) (sym found.token_is) ∙ named-found all found.set named has ∙ ap (λ (k : TokenKeys). Some k) (sym found.keys_are)

-- ---- the sets of a life

all-of : (P : KeySet → Type 0) (some all : List KeySet) → ((set : KeySet) → Contains some set → Contains all set) → All P all → All P some
all-of P some all more h = All-weaker (Contains some) P (λ set has. All-contains P all set h (more set has)) some (All-contains_itself some)

pub earlier-sets : (P : KeySet → Type 0) (b : Bool) (sets earlier : List KeySet) → All P (if b then sets ++ earlier else earlier) → All P earlier
earlier-sets P true sets earlier h = all-of P earlier (sets ++ earlier) (λ set has. Contains-append_right sets earlier set has) h
earlier-sets P false sets earlier h = h

pub new-sets : (P : KeySet → Type 0) (b : Bool) (sets earlier : List KeySet) → b ≡ true → All P (if b then sets ++ earlier else earlier) → All P sets
new-sets P true sets earlier e h = all-of P sets (sets ++ earlier) (λ set has. Contains-append_left sets earlier set has) h
new-sets P false sets earlier e h = absurd (cc)

-- the encrypting key fits the policy of the key group
abbrev pub Fits : Config → ℕ → KeySet → Type 0
Fits config k set = length set.encrypting.items ≡ encrypting_length (is_long (keygroup_at config k).policy)

all-fit : (long : Bool) (sets : List KeySet) → LengthsFit long sets → All (λ (set : KeySet). length set.encrypting.items ≡ encrypting_length long) sets
all-fit long sets fit = λ k d below. sym (get_or-map (λ (set : KeySet). length set.encrypting.items) sets k d 0 below) ∙ fit k below

more-fit : (config : Config) (k : ℕ) (b : Bool) (sets earlier : List KeySet) → (b ≡ true → All (Fits config k) sets) → All (Fits config k) earlier → All (Fits config k) (if b then sets ++ earlier else earlier)
more-fit config k true sets earlier new old = All-append (Fits config k) sets earlier (new refl) old
more-fit config k false sets earlier new old = old

pub sets-fit : (config : Config) (k : ℕ) (life : List Lived) → IsSound config → k < length config.keygroup → FitPolicy config k life → All (Fits config k) (sets_in_life config k life)
sets-fit config k [] sound there fit =
    let ring = keygroup_at config k in
    All-map (Fits config k) key_set ring.key (sound.keygroups k no_keygroup there).lengths_fit
sets-fit config k (Stepped step ∷ before) sound there fit = sets-fit config k before sound there fit
sets-fit config k (Renewed keygroup sets ∷ before) sound there fit =
    more-fit config k (keygroup == k) sets (sets_in_life config k before)
    (λ is. all-fit (is_long (keygroup_at config k).policy) sets (fit.0 (eqb-true keygroup k is))) (sets-fit config k before sound there fit.1)

-- ---- a sender

-- its keys are those of a set of which this holds, and so are all that it may turn to
pub record HasKeysOf (P : KeySet → Type 0) (ring : KeyGroupPart) (s : SenderState) : Type 0 where
  pub set : KeySet
  pub of : P set
  pub keys : s.keys ≡ keys_in set
  pub sets : All P s.sets
  pub random : length s.random ≡ 4
  pub first_block : s.first_block ≡ ring.first_block

opening-has : (P : KeySet → Type 0) (config : Config) (k : ℕ) → RingLaw → IsSound config → HasTypes config → k < length config.keygroup → All P (map key_set (keygroup_at config k).key) → HasKeysOf P (keygroup_at config k) (opening_sender (keygroup_at config k))
opening-has P config k law sound types there all =
    let ring = keygroup_at config k in
    let s = opening_sender ring in
    let sets = map key_set ring.key in
    let is = senders-use config [] k (senders-open law config sound types) there in
    let known : keys_with (map keys_in sets) s.keys.token ≡ Some s.keys = ap (λ (l : List TokenKeys). keys_with l s.keys.token) (ring-keys ring.key) ∙ is.of_ring.keys in
    let found = found-set sets s.keys.token s.keys known in
    record {
      set = found.set;
      of = All-contains P sets found.set all found.has;
      keys = found.keys_are;
      sets = all;
      random = is.of_ring.sender_is.random;
      first_block = is.of_ring.first_block;
    }

turned-has : (P : KeySet → Type 0) (ring : KeyGroupPart) (s : SenderState) (now : ℕ) (o : Option KeySet) → current s.sets now ≡ o → HasKeysOf P ring s → HasKeysOf P ring (turned_by s o)
turned-has P ring s now None e h = h
turned-has P ring s now (Some set) e h = on (nat_lt s.keys.token set.token)
  where
    on : (b : Bool) → HasKeysOf P ring (if b then record s { keys = keys_in set; used = 0; fronted = None } else s)
    on false = h
    on true =
        let among = last_found_listed (λ (set : KeySet). nat_le set.from now) s.sets set e in
        record {
          set = set;
          of = All-contains P s.sets set h.sets (among.0, among.1.0, sym among.1.1);
          keys = refl;
          sets = h.sets;
          random = h.random;
          first_block = h.first_block;
        }

advanced-has : (P : KeySet → Type 0) (ring : KeyGroupPart) (b : Bool) (mode : Mode) (count : ℕ) (s : SenderState) → HasKeysOf P ring s → HasKeysOf P ring (advanced_if b mode count s)
advanced-has P ring false mode count s h = h
advanced-has P ring true mode count s h =
    let a = advanced-is mode s count in
    record {
      set = h.set;
      of = h.of;
      keys = a.keys ∙ h.keys;
      sets = subst (All P) (sym a.sets) h.sets;
      random = ap (λ (l : List ℕ). length l) a.random ∙ h.random;
      first_block = a.first ∙ h.first_block;
    }

renewed-has : (P : KeySet → Type 0) (ring : KeyGroupPart) (b : Bool) (sets : List KeySet) (s : SenderState) → (b ≡ true → All P sets) → HasKeysOf P ring s → HasKeysOf P ring (renewed_if b sets s)
renewed-has P ring false sets s all h = h
renewed-has P ring true sets s all h = record { set = h.set; of = h.of; keys = h.keys; sets = all refl; random = h.random; first_block = h.first_block }

-- ---- all senders

-- of each key group
pub HaveKeysOf : (ℕ → KeySet → Type 0) → Config → List Deed → Type 0
HaveKeysOf P config deeds = (k : ℕ) → k < length config.keygroup → HasKeysOf (P k) (keygroup_at config k) (sender_after config k deeds)

pub have-use : (P : ℕ → KeySet → Type 0) (config : Config) (deeds : List Deed) (k : ℕ) → HaveKeysOf P config deeds → k < length config.keygroup → HasKeysOf (P k) (keygroup_at config k) (sender_after config k deeds)
unfolding HaveKeysOf
have-use P config deeds k h there = h k there

pub have-open : (P : ℕ → KeySet → Type 0) (config : Config) → RingLaw → IsSound config → HasTypes config → ((k : ℕ) → All (P k) (map key_set (keygroup_at config k).key)) → HaveKeysOf P config []
unfolding HaveKeysOf
have-open P config law sound types all = λ k there. opening-has (P k) config k law sound types there (all k)

pub have-came : (P : ℕ → KeySet → Type 0) (config : Config) (now : ℕ) (earlier : List Deed) → HaveKeysOf P config earlier → HaveKeysOf P config (CameTo now ∷ earlier)
unfolding HaveKeysOf
have-came P config now earlier h = λ k there. let s = sender_after config k earlier in turned-has (P k) (keygroup_at config k) s now (current s.sets now) refl (h k there)

pub have-below : (P : ℕ → KeySet → Type 0) (config : Config) (component : Component) (earlier : List Deed) → HaveKeysOf P config earlier → HaveKeysOf P config (RefreshedBelow component ∷ earlier)
unfolding HaveKeysOf
have-below P config component earlier h = h

pub have-set : (P : ℕ → KeySet → Type 0) (config : Config) (set : ℕ) (earlier : List Deed) → HaveKeysOf P config earlier → HaveKeysOf P config (RefreshedSet set ∷ earlier)
unfolding HaveKeysOf
have-set P config set earlier h = h

pub have-turn : (P : ℕ → KeySet → Type 0) (config : Config) (g : ℕ) (turn : GroupTurn) (earlier : List Deed) → HaveKeysOf P config earlier → HaveKeysOf P config (TookTurn g turn ∷ earlier)
unfolding HaveKeysOf
have-turn P config g turn earlier h =
    λ k there. advanced-has (P k) (keygroup_at config k) (shares (group_at config g) k) (mode_of (group_at config g).security) (length turn.made) (sender_after config k earlier) (h k there)

pub have-renewed : (P : ℕ → KeySet → Type 0) (config : Config) (keygroup : ℕ) (sets : List KeySet) (earlier : List Deed) → ((k : ℕ) → (keygroup == k) ≡ true → All (P k) sets) → HaveKeysOf P config earlier → HaveKeysOf P config (RenewedKeys keygroup sets ∷ earlier)
unfolding HaveKeysOf
have-renewed P config keygroup sets earlier all h =
    λ k there. renewed-has (P k) (keygroup_at config k) (keygroup == k) sets (sender_after config k earlier) (λ is. all k is) (h k there)
