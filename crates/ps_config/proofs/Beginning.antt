-- A configuration of which a writer begins at another number is as sound as before.
use Rattle.std.proofs.Common.{◌≡◌, ◌≢◌, ℕ, zero, suc, ◌+◌, ◌-◌, ◌<◌, ◌≤◌, ◌^◌, Bool, true, false, List, [], ◌∷◌, ◌++◌, length, get_or, set, map, flat_map, refl, sym, ap, ◌∙◌, subst, arith, inl, inr, All}
use Rattle.std.specs.Prelude.{◌⊎◌, ◌&&◌, ◌||◌, ◌==◌, not, nat_lt, codes, fold, sum_by, Option}
use Rattle.std.proofs.lemmas.Bool.{cases_eq}
use Rattle.std.proofs.lemmas.List.{length-map, map-append}
use Rattle.uadp_header.specs.Spelling.{header_len}
use Rattle.fixed_layout.specs.declared.slot.Slot.{Slot}
use Rattle.fixed_layout.specs.Slots.{AreSlots}
use Rattle.ps_config.specs.declared.parts.Config.{Config}
use Rattle.ps_config.specs.declared.parts.GroupPart.{GroupPart}
use Rattle.ps_config.specs.declared.parts.ReadGroupPart.{ReadGroupPart}
use Rattle.ps_config.specs.declared.parts.ReaderPart.{ReaderPart}
use Rattle.ps_config.specs.declared.parts.WriterPart.{WriterPart}
use Rattle.ps_config.specs.Beginning.{changed_at, config_beginning, group_beginning, writer_beginning}
use Rattle.ps_config.specs.FixedSound.{IsFixedGroup, IsFixedReadGroup, IsFixedSound, IsFixedWriter, writer_slot}
use Rattle.ps_config.specs.Headers.{header_of, ids_of, signature_len}
use Rattle.ps_config.specs.Rooms.{chunk_room, datagrams_of, header_settings, is_fixed, lacks_room}
use Rattle.ps_config.specs.Sound.{AreDistinct, IsFew, IsGroup, IsKeyed, IsReadGroup, IsReader, IsSound, IsWriter, group_names, read_group_names, writer_ids, writers}
use Rattle.ps_config.specs.Types.{HasGroupTypes, HasTypes, HasWriterTypes}

-- ---- a list of which an element was changed

pub changed-length : {X : Type 0} (place : ℕ) (change : X → X) (xs : List X) → length (changed_at place change xs) ≡ length xs
changed-length place change [] = refl
changed-length zero change (x ∷ xs) = refl
changed-length (suc place) change (x ∷ xs) = ap suc (changed-length place change xs)

pub changed-here : {X : Type 0} (place : ℕ) (change : X → X) (xs : List X) (d : X) → place < length xs → get_or (changed_at place change xs) place d ≡ change (get_or xs place d)
changed-here place change [] d within = absurd (omega arith)
changed-here zero change (x ∷ xs) d within = refl
changed-here (suc place) change (x ∷ xs) d within = changed-here place change xs d (omega arith)

pub changed-other : {X : Type 0} (place : ℕ) (change : X → X) (xs : List X) (k : ℕ) (d : X) → k ≢ place → get_or (changed_at place change xs) k d ≡ get_or xs k d
changed-other place change [] k d differs = refl
changed-other zero change (x ∷ xs) zero d differs = absurd (differs refl)
changed-other zero change (x ∷ xs) (suc k) d differs = refl
changed-other (suc place) change (x ∷ xs) zero d differs = refl
changed-other (suc place) change (x ∷ xs) (suc k) d differs = changed-other place change xs k d (λ e. differs (ap suc e))

-- it was set there
pub changed-set : {X : Type 0} (place : ℕ) (change : X → X) (xs : List X) (x : X) → place < length xs → x ≡ get_or xs place x → set xs place (change x) ≡ changed_at place change xs
changed-set place change [] x within is = refl
changed-set zero change (y ∷ xs) x within is = ap (λ z. change z ∷ xs) is
changed-set (suc place) change (y ∷ xs) x within is = ap (λ l. y ∷ l) (changed-set place change xs x (omega arith) is)

-- what holds of each element holds after the change
pub changed-all : {X : Type 0} (P Q : X → Type 0) (place : ℕ) (change : X → X) (xs : List X) → ((x : X) → P x → Q x) → ((x : X) → P x → Q (change x)) → All P xs → All Q (changed_at place change xs)
changed-all {X} P Q place change xs keeps changes all = λ k d within. by_place k d within (cases_eq k place)
  where
    by_place : (k : ℕ) (d : X) → k < length (changed_at place change xs) → (k ≡ place) ⊎ (k ≡ place → ⊥) → Q (get_or (changed_at place change xs) k d)
    by_place k d within (inl here) =
        let there : place < length xs = omega (arith, here, within, changed-length place change xs) in
        subst (λ (n : ℕ). Q (get_or (changed_at place change xs) n d)) (sym here)
        (subst Q (sym (changed-here place change xs d there)) (changes (get_or xs place d) (all place d there)))
    by_place k d within (inr differs) =
        subst Q (sym (changed-other place change xs k d differs)) (keeps (get_or xs k d) (all k d (omega (arith, within, changed-length place change xs))))

-- what doesn't read the change is as it was
pub changed-map : {X Y : Type 0} (f : X → Y) (place : ℕ) (change : X → X) (xs : List X) → ((x : X) → f (change x) ≡ f x) → map f (changed_at place change xs) ≡ map f xs
changed-map f place change [] same = refl
changed-map f zero change (x ∷ xs) same = ap (λ y. y ∷ map f xs) (same x)
changed-map f (suc place) change (x ∷ xs) same = ap (λ l. f x ∷ l) (changed-map f place change xs same)

changed-flat : {X Y : Type 0} (f : X → List Y) (place : ℕ) (change : X → X) (xs : List X) → ((x : X) → f (change x) ≡ f x) → flat_map f (changed_at place change xs) ≡ flat_map f xs
changed-flat f place change [] same = refl
changed-flat f zero change (x ∷ xs) same = ap (λ l. l ++ flat_map f xs) (same x)
changed-flat f (suc place) change (x ∷ xs) same = ap (λ l. f x ++ l) (changed-flat f place change xs same)

changed-parts : {X Y Z : Type 0} (g : Y → Z) (f : X → List Y) (place : ℕ) (change : X → X) (xs : List X) → ((x : X) → map g (f (change x)) ≡ map g (f x))
    → map g (flat_map f (changed_at place change xs)) ≡ map g (flat_map f xs)
changed-parts g f place change [] same = refl
changed-parts g f zero change (x ∷ xs) same =
    map-append g (f (change x)) (flat_map f xs) ∙ ap (λ l. l ++ map g (flat_map f xs)) (same x) ∙ sym (map-append g (f x) (flat_map f xs))
changed-parts g f (suc place) change (x ∷ xs) same =
    map-append g (f x) (flat_map f (changed_at place change xs)) ∙ ap (λ l. map g (f x) ++ l) (changed-parts g f place change xs same) ∙ sym (map-append g (f x) (flat_map f xs))

changed-fold : {X : Type 0} (f : X → ℕ) (place : ℕ) (change : X → X) (xs : List X) (sum : ℕ) → ((x : X) → f (change x) ≡ f x)
    → fold (λ a x. a + f x) sum (changed_at place change xs) ≡ fold (λ a x. a + f x) sum xs
changed-fold f place change [] sum same = refl
changed-fold f zero change (x ∷ xs) sum same = ap (λ n. fold (λ a y. a + f y) (sum + n) xs) (same x)
changed-fold f (suc place) change (x ∷ xs) sum same = changed-fold f place change xs (sum + f x) same

changed-sum : {X : Type 0} (f : X → ℕ) (place : ℕ) (change : X → X) (xs : List X) → ((x : X) → f (change x) ≡ f x) → sum_by f (changed_at place change xs) ≡ sum_by f xs
changed-sum f place change xs same = changed-fold f place change xs 0 same

-- ---- a group

-- its room is what it was
room-same : (config : Config) (w n : ℕ) (part : GroupPart) → lacks_room config.publisher.id config.dataset part ≡ false → lacks_room config.publisher.id config.dataset (group_beginning w n part) ≡ false
room-same config w n part room =
    let size = chunk_room config.publisher.id part in
    subst (λ (count : ℕ). (not (is_fixed part.layout) && (size == 0 || nat_lt 1024 count)) ≡ false)
    (sym (changed-sum (datagrams_of size config.dataset) w (writer_beginning n) part.writer (λ x. refl))) room

writer-same : (config : Config) (g w n : ℕ) (part : GroupPart) (x : WriterPart) → IsWriter config part x → IsWriter (config_beginning g w n config) (group_beginning w n part) (writer_beginning n x)
writer-same config g w n part x is = record {
  id = is.id;
  dataset = is.dataset;
  key_frame_count = is.key_frame_count;
  keep_alive = is.keep_alive;
  keep_alive_most = is.keep_alive_most;
  offset = is.offset;
  size = is.size;
}

writer-stays : (config : Config) (g w n : ℕ) (part other : GroupPart) (x : WriterPart) → other.interval ≡ part.interval → IsWriter config part x → IsWriter (config_beginning g w n config) other x
writer-stays config g w n part other x same is = record {
  id = is.id;
  dataset = is.dataset;
  key_frame_count = is.key_frame_count;
  keep_alive = subst (λ (i : ℕ). (x.keep_alive ≡ 0) ⊎ (i ≤ x.keep_alive)) (sym same) is.keep_alive;
  keep_alive_most = is.keep_alive_most;
  offset = is.offset;
  size = is.size;
}

keyed-same : (config : Config) (g w n : ℕ) (secured : Bool) (keygroup : Option ℕ) → IsKeyed config secured keygroup → IsKeyed (config_beginning g w n config) secured keygroup
keyed-same config g w n secured keygroup is = record { keyed = is.keyed; there = is.there }

group-same : (config : Config) (g w n : ℕ) (part : GroupPart) → IsGroup config part → IsGroup (config_beginning g w n config) (group_beginning w n part)
group-same config g w n part is = record {
  id = is.id;
  interval = is.interval;
  max_size = is.max_size;
  keys = keyed-same config g w n _ _ is.keys;
  room = room-same config w n part is.room;
  writers = changed-all (IsWriter config part) (IsWriter (config_beginning g w n config) (group_beginning w n part)) w (writer_beginning n) part.writer
      (λ x. writer-stays config g w n part (group_beginning w n part) x refl) (λ x. writer-same config g w n part x) is.writers;
}

group-stays : (config : Config) (g w n : ℕ) (part : GroupPart) → IsGroup config part → IsGroup (config_beginning g w n config) part
group-stays config g w n part is = record {
  id = is.id;
  interval = is.interval;
  max_size = is.max_size;
  keys = keyed-same config g w n _ _ is.keys;
  room = is.room;
  writers = λ k d within. writer-stays config g w n part part (get_or part.writer k d) refl (is.writers k d within);
}

reader-stays : (config : Config) (g w n : ℕ) (x : ReaderPart) → IsReader config x → IsReader (config_beginning g w n config) x
reader-stays config g w n x is = record { writer = is.writer; dataset = is.dataset; timeout = is.timeout; offset = is.offset; size = is.size }

read-group-stays : (config : Config) (g w n : ℕ) (part : ReadGroupPart) → IsReadGroup config part → IsReadGroup (config_beginning g w n config) part
read-group-stays config g w n part is = record {
  publisher = is.publisher;
  keys = keyed-same config g w n _ _ is.keys;
  readers = λ k d within. reader-stays config g w n (get_or part.reader k d) (is.readers k d within);
  one_reader = is.one_reader;
}

-- ---- the configuration

names-same : (w n : ℕ) (part : GroupPart) → group_names (group_beginning w n part) ≡ group_names part
names-same w n part = ap (λ (l : List (List ℕ)). part.name ∷ l) (changed-map (λ (x : WriterPart). x.name) w (writer_beginning n) part.writer (λ x. refl))

ids-same : (g w n : ℕ) (config : Config) → writer_ids (config_beginning g w n config) ≡ writer_ids config
ids-same g w n config =
    changed-parts (λ (x : WriterPart). x.id) (λ (part : GroupPart). part.writer) g (group_beginning w n) config.group
    (λ part. changed-map (λ (x : WriterPart). x.id) w (writer_beginning n) part.writer (λ x. refl))

map-count : (xs : List WriterPart) → length (map (λ (x : WriterPart). x.id) xs) ≡ length xs
map-count xs = simp length-map

few-same : (g w n : ℕ) (config : Config) → IsFew config → IsFew (config_beginning g w n config)
few-same g w n config few =
    let new = config_beginning g w n config in
    let groups : length new.group ≡ length config.group = changed-length g (group_beginning w n) config.group in
    let count : length (writers new) ≡ length (writers config) =
    sym (map-count (writers new)) ∙ ap (λ (l : List ℕ). length l) (ids-same g w n config) ∙ map-count (writers config) in
    record {
      datasets = few.datasets;
      keygroups = few.keygroups;
      groups = subst (λ (k : ℕ). k ≤ 4) (sym groups) few.groups;
      readgroups = few.readgroups;
      writers = subst (λ (k : ℕ). k ≤ 16) (sym count) few.writers;
      readers = few.readers;
    }

pub sound-beginning : (g w n : ℕ) (config : Config) → IsSound config → IsSound (config_beginning g w n config)
sound-beginning g w n config sound = record {
  publisher = sound.publisher;
  few = few-same g w n config sound.few;
  metas = sound.metas;
  keygroups = sound.keygroups;
  groups = changed-all (IsGroup config) (IsGroup (config_beginning g w n config)) g (group_beginning w n) config.group
      (λ part. group-stays config g w n part) (λ part. group-same config g w n part) sound.groups;
  readgroups = λ k d within. read-group-stays config g w n (get_or config.readgroup k d) (sound.readgroups k d within);
  one_group = subst AreDistinct (sym (changed-map (λ (part : GroupPart). part.id) g (group_beginning w n) config.group (λ part. refl))) sound.one_group;
  one_writer = subst AreDistinct (sym (ids-same g w n config)) sound.one_writer;
  one_component = subst (λ (l : List (List ℕ)). AreDistinct (codes "root" ∷ codes "connection" ∷ l ++ flat_map read_group_names config.readgroup))
      (sym (changed-flat group_names g (group_beginning w n) config.group (names-same w n))) sound.one_component;
  one_data_set = sound.one_data_set;
  one_key_group = sound.one_key_group;
}

-- ---- fixed layouts

slots-same : (config : Config) (w n : ℕ) (part : GroupPart) → map (writer_slot config) (group_beginning w n part).writer ≡ map (writer_slot config) part.writer
slots-same config w n part = changed-map (writer_slot config) w (writer_beginning n) part.writer (λ x. refl)

fixed-writer : (config : Config) (g w n : ℕ) (x : WriterPart) → IsFixedWriter config x → IsFixedWriter (config_beginning g w n config) x
fixed-writer config g w n x is = record { whole = is.whole; no_keep_alive = is.no_keep_alive; no_quality = is.no_quality }

fixed-begun : (config : Config) (g w n : ℕ) (x : WriterPart) → IsFixedWriter config x → IsFixedWriter (config_beginning g w n config) (writer_beginning n x)
fixed-begun config g w n x is = record { whole = is.whole; no_keep_alive = is.no_keep_alive; no_quality = is.no_quality }

fixed-group : (config : Config) (g w n : ℕ) (part : GroupPart) → IsFixedGroup config part → IsFixedGroup (config_beginning g w n config) (group_beginning w n part)
fixed-group config g w n part is = record {
  writers = changed-all (IsFixedWriter config) (IsFixedWriter (config_beginning g w n config)) w (writer_beginning n) part.writer
      (λ x. fixed-writer config g w n x) (λ x. fixed-begun config g w n x) is.writers;
  slots = subst (λ (l : List Slot). AreSlots (header_len (header_of config.publisher.id (header_settings part) (ids_of false))) (part.max_size - signature_len part.security) l) (sym (slots-same config w n part)) is.slots;
}

fixed-group-stays : (config : Config) (g w n : ℕ) (part : GroupPart) → IsFixedGroup config part → IsFixedGroup (config_beginning g w n config) part
fixed-group-stays config g w n part is = record {
  writers = λ k d within. fixed-writer config g w n (get_or part.writer k d) (is.writers k d within);
  slots = is.slots;
}

pub fixed-beginning : (g w n : ℕ) (config : Config) → IsFixedSound config → IsFixedSound (config_beginning g w n config)
fixed-beginning g w n config sound = record {
  groups = changed-all (λ (part : GroupPart). is_fixed part.layout ≡ true → IsFixedGroup config part) (λ (part : GroupPart). is_fixed part.layout ≡ true → IsFixedGroup (config_beginning g w n config) part)
      g (group_beginning w n) config.group (λ part is fixed. fixed-group-stays config g w n part (is fixed)) (λ part is fixed. fixed-group config g w n part (is fixed)) sound.groups;
  readgroups = λ k d within fixed. record { slots = (sound.readgroups k d within fixed).slots };
}

-- ---- types

pub types-beginning : (g w n : ℕ) (config : Config) → n < 2 ^ 16 → HasTypes config → HasTypes (config_beginning g w n config)
types-beginning g w n config narrow types = record {
  publisher = types.publisher;
  port = types.port;
  metas = types.metas;
  keygroups = types.keygroups;
  groups = changed-all HasGroupTypes HasGroupTypes g (group_beginning w n) config.group (λ part is. is)
      (λ part is. record {
        id = is.id;
        interval = is.interval;
        max_size = is.max_size;
        version = is.version;
        class_id = is.class_id;
        writers = changed-all HasWriterTypes HasWriterTypes w (writer_beginning n) part.writer (λ x has. has)
            (λ x has. record { id = has.id; key_frame_count = has.key_frame_count; keep_alive = has.keep_alive; first_number = narrow; offset = has.offset; size = has.size })
            is.writers;
      }) types.groups;
  readgroups = types.readgroups;
}
