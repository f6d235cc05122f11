-- A configuration whose key groups have one key, which may be any that fits a policy, is sound where it was.
use Rattle.std.proofs.Common.{◌≡◌, refl, sym, ap, subst, arith, ℕ, ◌<◌, Bool, true, List, [], ◌∷◌, length, map, Option, Some, None, eq-eqb}
use Rattle.std.specs.Prelude.{if◌then◌else◌}
use Rattle.std.proofs.lemmas.List.{get_or-map, length-map}
use Rattle.std.proofs.lemmas.List.Elements.{All-cons, All-map, All-nil, All-weaker}
use Rattle.std.specs.List.Sorted.{IsStrictlyIncreasing}
use Rattle.group_keys.specs.KeySets.{encrypting_length}
use Rattle.group_keys.specs.declared.key_set.KeySet.{KeySet}
use Rattle.message_guard.specs.declared.keys.TokenKeys.{TokenKeys}
use Rattle.message_guard.specs.Protection.{keys_in, keys_with}
use Rattle.message_guard.specs.Senders.{IsSender, SenderState}
use Rattle.config_tables.specs.declared.words.Policy.{Policy}
use Rattle.ps_config.specs.declared.parts.Config.{Config}
use Rattle.ps_config.specs.declared.parts.GroupPart.{GroupPart}
use Rattle.ps_config.specs.declared.parts.KeyGroupPart.{KeyGroupPart}
use Rattle.ps_config.specs.declared.parts.KeyPart.{KeyPart}
use Rattle.ps_config.specs.declared.parts.ReadGroupPart.{ReadGroupPart}
use Rattle.ps_config.specs.Configs.{is_long}
use Rattle.ps_config.specs.FixedSound.{IsFixedGroup, IsFixedReadGroup, IsFixedSound, IsFixedWriter}
use Rattle.ps_config.specs.Headers.{is_secured}
use Rattle.ps_config.specs.Rooms.{is_fixed}
use Rattle.ps_config.specs.Sound.{AreDistinct, IsGroup, IsKeyGroup, IsKeyed, IsReadGroup, IsReader, IsSound, IsWriter}
use Rattle.ps_config.proofs.Rising.{map_twice}
use Rattle.reader_group.specs.Settings.{keygroup_at, no_keygroup, token_keys}
use Rattle.group_laws.specs.Matching.{IsSenderOf}
use Rattle.turn_laws.proofs.Rings.{with_rings}

-- the keys of a set, as those of a configuration, from the beginning on
abbrev pub part_of : KeySet → KeyPart
part_of set = record { token = set.token; from = 0; signing = set.signing; encrypting = set.encrypting.items; nonce = set.nonce }

-- with these keys alone
abbrev one_key : Policy → KeyPart → KeyGroupPart → KeyGroupPart
one_key policy key ring = record ring { policy = policy; key = key ∷ [] }

abbrev pub one_keys : Config → Policy → KeySet → List KeyGroupPart
one_keys config policy set = map (one_key policy (part_of set)) config.keygroup

rises-alone : (n : ℕ) → IsStrictlyIncreasing (n ∷ [])
rises-alone n = λ k below. absurd (omega (arith, below))

module _ (config : Config) (policy : Policy) (set : KeySet) (fits : length set.encrypting.items ≡ encrypting_length (is_long policy)) where
  abbrev key : KeyPart
  key = part_of set

  abbrev other : Config
  other = with_rings config (one_keys config policy set)

  as-many : length other.keygroup ≡ length config.keygroup
  as-many = length-map config.keygroup (one_key policy key)

  one-ring : (ring : KeyGroupPart) → IsKeyGroup (one_key policy key ring)
  one-ring ring = record {
    has_key = omega arith;
    few = omega arith;
    first_at_zero = refl;
    tokens_rise = rises-alone key.token;
    moments_rise = rises-alone key.from;
    lengths_fit = All-cons (λ (part : KeyPart). length part.encrypting ≡ encrypting_length (is_long policy)) key [] fits (All-nil (λ (part : KeyPart). length part.encrypting ≡ encrypting_length (is_long policy)));
  }

  still-keyed : (secured : Bool) (o : Option ℕ) → IsKeyed config secured o → IsKeyed other secured o
  still-keyed secured None is = record { keyed = is.keyed; there = tt }
  still-keyed secured (Some index) is = record { keyed = is.keyed; there = let lt : index < length config.keygroup = is.there in omega (arith, lt, as-many) }

  still-group : (group : GroupPart) → IsGroup config group → IsGroup other group
  still-group group is = record {
    id = is.id;
    interval = is.interval;
    max_size = is.max_size;
    keys = still-keyed (is_secured group.security) group.keygroup is.keys;
    room = is.room;
    writers = All-weaker (IsWriter config group) (IsWriter other group)
        (λ writer w. record { id = w.id; dataset = w.dataset; key_frame_count = w.key_frame_count; keep_alive = w.keep_alive; keep_alive_most = w.keep_alive_most; offset = w.offset; size = w.size }) group.writer is.writers;
  }

  still-read : (group : ReadGroupPart) → IsReadGroup config group → IsReadGroup other group
  still-read group is = record {
    publisher = is.publisher;
    keys = still-keyed (is_secured group.security) group.keygroup is.keys;
    readers = All-weaker (IsReader config) (IsReader other) (λ reader r. record { writer = r.writer; dataset = r.dataset; timeout = r.timeout; offset = r.offset; size = r.size }) group.reader is.readers;
    one_reader = is.one_reader;
  }

  pub one-sound : IsSound config → IsSound other
  one-sound sound = record {
    publisher = sound.publisher;
    few = record {
      datasets = sound.few.datasets;
      keygroups = let most = sound.few.keygroups in omega (arith, most, as-many);
      groups = sound.few.groups;
      readgroups = sound.few.readgroups;
      writers = sound.few.writers;
      readers = sound.few.readers;
    };
    metas = sound.metas;
    keygroups = All-map IsKeyGroup (one_key policy key) config.keygroup
        (All-weaker IsKeyGroup (λ (ring : KeyGroupPart). IsKeyGroup (one_key policy key ring)) (λ ring is. one-ring ring) config.keygroup sound.keygroups);
    groups = All-weaker (IsGroup config) (IsGroup other) still-group config.group sound.groups;
    readgroups = All-weaker (IsReadGroup config) (IsReadGroup other) still-read config.readgroup sound.readgroups;
    one_group = sound.one_group;
    one_writer = sound.one_writer;
    one_component = sound.one_component;
    one_data_set = sound.one_data_set;
    one_key_group = subst (λ (names : List (List ℕ)). AreDistinct names) (sym (map_twice (one_key policy key) (λ (ring : KeyGroupPart). ring.name) config.keygroup)) sound.one_key_group;
  }

  still-fixed : (group : GroupPart) → IsFixedGroup config group → IsFixedGroup other group
  still-fixed group is = record {
    writers = All-weaker (IsFixedWriter config) (IsFixedWriter other) (λ writer w. record { whole = w.whole; no_keep_alive = w.no_keep_alive; no_quality = w.no_quality }) group.writer is.writers;
    slots = is.slots;
  }

  pub one-fixed : IsFixedSound config → IsFixedSound other
  one-fixed fixed = record {
    groups = All-weaker (λ (group : GroupPart). is_fixed group.layout ≡ true → IsFixedGroup config group) (λ (group : GroupPart). is_fixed group.layout ≡ true → IsFixedGroup other group)
        (λ group is layout. still-fixed group (is layout)) config.group fixed.groups;
    readgroups = All-weaker (λ (group : ReadGroupPart). is_fixed group.layout ≡ true → IsFixedReadGroup config group) (λ (group : ReadGroupPart). is_fixed group.layout ≡ true → IsFixedReadGroup other group)
        (λ group is layout. record { slots = (is layout).slots }) config.readgroup fixed.readgroups;
  }

  -- ---- a sender with these keys

  alone : keys_with (token_keys key ∷ []) set.token ≡ Some (keys_in set)
  alone = ap (λ (b : Bool). if b then Some (token_keys key) else None) (eq-eqb set.token set.token refl)

  pub one-sender : (k : ℕ) (s : SenderState) → k < length config.keygroup → IsSender s → s.keys ≡ keys_in set → s.first_block ≡ (keygroup_at config k).first_block → IsSenderOf (keygroup_at other k) s
  one-sender k s there is keys first =
      let at : keygroup_at other k ≡ one_key policy key (keygroup_at config k) = get_or-map (one_key policy key) config.keygroup k no_keygroup no_keygroup there in
      subst (λ (ring : KeyGroupPart). IsSenderOf ring s) (sym at) (record {
        sender_is = is;
        keys = subst (λ (x : TokenKeys). keys_with (token_keys key ∷ []) x.token ≡ Some x) (sym keys) alone;
        first_block = first;
      })
