-- What a reader holds is stored, if it isn't its last store.
use Rattle.std.proofs.Common.{◌≡◌, ◌≢◌, ◌⊎◌, inl, inr, refl, sym, ap, ◌∙◌, subst, arith, ℕ, ◌+◌, ◌<◌, ◌≤◌, Bool, true, false, not, nat_le, List, [], ◌∷◌, ◌++◌, length, map, reverse, get_or, slice_get, slice_index_or, slice_set, Option, Some, None, option_map, length-append}
use Rattle.std.proofs.lemmas.Bool.{false≢true}
use Rattle.std.proofs.lemmas.Bool.Decides.{leb_tells}
use Rattle.std.proofs.lemmas.List.{get_or-set_other, get_or-set_same, get_or_read, get_or-map, map-append, reverse-append, length-map}
use Rattle.std.proofs.Math.ListN as listn
use Rattle.std.proofs.lemmas.Option.{same_Some}
use Rattle.dataset_meta.specs.DataValues.{DataValue}
use Rattle.dataset_meta.specs.Metas.{MetaData, no_meta}
use Rattle.dataset_meta.specs.Rows.{cons_if}
use Rattle.dataset_reader.specs.declared.reader.Reader.{Reader}
use Rattle.dataset_reader.specs.Kept.{Kept}
use Rattle.dataset_reader.specs.Reader.{IsReaderOf, kept_by}
use Rattle.config_tables.specs.declared.words.NumberingWord.{NumberingWord}
use Rattle.ps_config.specs.declared.parts.Config.{Config}
use Rattle.ps_config.specs.declared.parts.ReaderPart.{ReaderPart}
use Rattle.ps_config.specs.Sound.{readers}
use Rattle.reader_group.specs.declared.group.ReaderGroup.{ReaderGroup}
use Rattle.reader_group.specs.Members.{Seat, no_seat, seat_at}
use Rattle.reader_group.specs.Groups.{IsKeptAt, IsMadeAt, Stands as ReadingStands}
use Rattle.session_model.specs.Readings.{Reading, setting_in}
use Rattle.reader_group.specs.Settings.{group_at, seat_in, setting_of}
use Rattle.row_words.specs.Belonging.{row_in}
use Rattle.target_cells.specs.Keeping.{TargetsData, metas_of}
use Rattle.version_cell.specs.declared.rule.Entry.{Entry}
use Rattle.version_cell.specs.Histories.{entry, last_words, opening_words, row_after}
use Rattle.version_cell.specs.Cells.{CellData}
use Rattle.version_cell.specs.Known.{Known, nothing}
use Rattle.version_cell.specs.Passes.{Adds}
use Rattle.version_cell.specs.Sets.{ArePassesOf, ChangesAt, cell_at, no_cell, pass_at}
use Rattle.session_model.specs.Closing.{MemberPlace, reader_places}
use Rattle.session_model.specs.Stores.{Store, is_same, stored_on}
use Rattle.session_parts.specs.Holding.{AreReadGroups, MayReceive}
use Rattle.session_parts.specs.Standing.{HaveReadings}
use Rattle.pubsub_engine.specs.declared.storing.Last.{Last}
use Rattle.pubsub_engine.specs.declared.storing.Stores.{Stores}
use Rattle.pubsub_engine.specs.Holding.{AddsOneAtMost, HoldStores}
use Rattle.pubsub_engine.specs.Storing.{HasStored, HaveStored, HaveStoredOn, IsLast, IsSameAt, IsStoredAs, IsStoredOn, MayStore, MayStoreFrom, first_reader, held_in, meta_at_place, stored_at}
use Rattle.pubsub_engine.proofs.Places.{first-within, reader-at, seat-part, within-all}

-- ---- one reader

-- the stores of a reader stay
pub same-stored : (meta : MetaData) (list : List Store) (old new : Stores) (k : ℕ) → IsSameAt old new k → IsStoredAs meta list old k → IsStoredAs meta list new k
same-stored meta list old new k same is = record {
  last = λ d. subst (λ (pass : Known). IsLast list meta (row_after pass.seen) (slice_index_or new.last.items k d)) (sym same.pass)
      (subst (λ (last : Last). IsLast list meta (row_after (pass_at old.keeper k).seen) last) (sym (same.last d)) (is.last d));
  seen = subst (λ (pass : Known). HasStored list meta pass) (sym same.pass) is.seen;
}

-- a store that isn't the last one
pub other-stored : (numbering : NumberingWord) (list : List Store) (now : Store) (meta : MetaData) (row : List ℕ) (last : Last) (same : Bool) → same ≡ false
    → (IsLast [] meta row last → same ≡ false)
    → ((store : Store) (before : List Store) → IsLast (store ∷ before) meta row last → same ≡ is_same numbering store now)
    → IsLast list meta row last → stored_on numbering list (Some now) ≡ now ∷ list
other-stored numbering [] now meta row last same off none some is = refl
other-stored numbering (store ∷ before) now meta row last same off none some is =
    ap (λ (b : Bool). cons_if (not b) now (store ∷ before)) (sym (some store before is) ∙ off)

-- what is the last store isn't stored again
pub same-stays : (numbering : NumberingWord) (list : List Store) (now : Store) (meta : MetaData) (row : List ℕ) (last : Last) (same : Bool) → same ≡ true
    → (IsLast [] meta row last → same ≡ false)
    → ((store : Store) (before : List Store) → IsLast (store ∷ before) meta row last → same ≡ is_same numbering store now)
    → IsLast list meta row last → stored_on numbering list (Some now) ≡ list
same-stays numbering [] now meta row last same on none some is = absurd (false≢true (sym (none is) ∙ on))
same-stays numbering (store ∷ before) now meta row last same on none some is =
    ap (λ (b : Bool). cons_if (not b) now (store ∷ before)) (sym (some store before is) ∙ on)

abbrev some-store : List DataValue → Option ℕ → Option Store
some-store row number = Some (record { number = number; row = row })

-- what a reader holds, as a store
pub held-is : (kept : Kept) (number : Option ℕ) (row : List DataValue) → Some row ≡ kept.row → number ≡ kept.number
    → held_in kept ≡ Some (record { number = number; row = row })
held-is kept number row is_row is_number =
    ap (λ (o : Option (List DataValue)). option_map {U = Store} (λ r. record { number = kept.number; row = r }) o) (sym is_row)
    ∙ ap (some-store row) (sym is_number)

pub none-held : (numbering : NumberingWord) (list : List Store) (kept : Kept) → None ≡ kept.row → stored_on numbering list (held_in kept) ≡ list
none-held numbering list kept is =
    ap (λ (o : Option (List DataValue)). stored_on numbering list (option_map {U = Store} (λ r. record { number = kept.number; row = r }) o)) (sym is)

-- the keeper's pass has seen one store more
more-seen : (meta : MetaData) (list : List Store) (now : Store) (old new : Known) (row : List ℕ) → Adds old new row → row_in meta.fields row ≡ now.row
    → HasStored list meta old → HasStored (now ∷ list) meta new
more-seen meta list now old new row adds is_row seen =
    ap (map of) adds.seen ∙ map-append of old.seen (entry adds.by row ∷ []) ∙ ap (λ l. l ++ row_in meta.fields row ∷ []) seen
    ∙ ap (λ (x : List DataValue). map (λ (store : Store). store.row) (reverse list) ++ x ∷ []) is_row
    ∙ sym (ap (map (λ (store : Store). store.row)) (reverse-append (now ∷ []) list) ∙ map-append (λ (store : Store). store.row) (reverse list) (now ∷ []))
  where
    of : Entry → List DataValue
    of = λ e. row_in meta.fields e.row

-- its row is that of the keeper's pass
last-words-more : (row : List ℕ) (log : List Entry) (e : Entry) → last_words row (log ++ e ∷ []) ≡ e.row
last-words-more row [] e = refl
last-words-more row (first ∷ log) e = last-words-more first.row log e

row-added : (old new : Known) (row : List ℕ) → Adds old new row → row_after new.seen ≡ row
row-added old new row adds = ap row_after adds.seen ∙ last-words-more opening_words old.seen (entry adds.by row)

pub now-stored : (meta : MetaData) (list : List Store) (now : Store) (old new : Stores) (k : ℕ) (last : Last) (row : List ℕ) → k < length old.last.items
    → new.last.items ≡ slice_set old.last.items k last → IsLast (now ∷ list) meta row last
    → Adds (pass_at old.keeper k) (pass_at new.keeper k) row
    → IsStoredAs meta list old k → IsStoredAs meta (now ∷ list) new k
now-stored meta list now old new k last row low set is adds before = record {
  last = λ d. subst (λ (words : List ℕ). IsLast (now ∷ list) meta words (slice_index_or new.last.items k d)) (sym (row-added (pass_at old.keeper k) (pass_at new.keeper k) row adds))
      (subst (λ (x : Last). IsLast (now ∷ list) meta row x) (sym (ap (λ (l : List Last). get_or l k d) set ∙ get_or-set_same old.last.items k last d low)) is);
  seen = more-seen meta list now (pass_at old.keeper k) (pass_at new.keeper k) row adds is.2 before.seen;
}

pub others-same : (old new : Stores) (k : ℕ) (last : Last) → new.last.items ≡ slice_set old.last.items k last → ChangesAt k old.keeper new.keeper
    → (other : ℕ) → other ≢ k → IsSameAt old new other
others-same old new k last set changes other apart = record {
  pass = ap (λ (l : List Known). pass_at l other) changes ∙ get_or-set_other old.keeper k other (pass_at new.keeper k) nothing apart;
  last = λ d. ap (λ (l : List Last). get_or l other d) set ∙ get_or-set_other old.last.items k other last d apart;
}

-- ---- some readers

pub none-on : (config : Config) (groups : List ReaderGroup) (first : ℕ) (s : Stores) → HaveStoredOn config groups first first s s
none-on config groups first s = record {
  adds = λ k from below. absurd (omega (arith, from, below));
  others = λ k out. record { pass = refl; last = λ d. refl };
  stored = λ k place from below at. absurd (omega (arith, from, below));
}

pub joined-on : (config : Config) (groups : List ReaderGroup) (first mid next : ℕ) (old half new : Stores) → first ≤ mid → mid ≤ next
    → HaveStoredOn config groups first mid old half → HaveStoredOn config groups mid next half new → HaveStoredOn config groups first next old new
joined-on config groups first mid next old half new low high one two = record {
  adds = λ k from below. adds-by k from below (leb_tells mid k);
  others = others;
  stored = λ k place from below at. stored-by k place from below at (leb_tells mid k);
}
  where
    adds-by : (k : ℕ) → first ≤ k → k < next → ((nat_le mid k ≡ true) × (mid ≤ k)) ⊎ ((nat_le mid k ≡ false) × (k < mid))
        → AddsOneAtMost (pass_at old.keeper k) (pass_at new.keeper k)
    adds-by k from below (inl late) = subst (λ (pass : Known). AddsOneAtMost pass (pass_at new.keeper k)) (one.others k (inr late.1)).pass (two.adds k late.1 below)
    adds-by k from below (inr early) = subst (λ (pass : Known). AddsOneAtMost (pass_at old.keeper k) pass) (sym (two.others k (inl early.1)).pass) (one.adds k from early.1)

    both : (k : ℕ) → IsSameAt old half k → IsSameAt half new k → IsSameAt old new k
    both k before after = record { pass = after.pass ∙ before.pass; last = λ d. after.last d ∙ before.last d }

    others : (k : ℕ) → (k < first) ⊎ (next ≤ k) → IsSameAt old new k
    others k (inl before) = both k (one.others k (inl before)) (two.others k (inl (omega (arith, before, low))))
    others k (inr behind) = both k (one.others k (inr (omega (arith, behind, high)))) (two.others k (inr behind))

    stored-by : (k : ℕ) (place : MemberPlace) → first ≤ k → k < next → slice_get (reader_places config) k ≡ Some place
        → ((nat_le mid k ≡ true) × (mid ≤ k)) ⊎ ((nat_le mid k ≡ false) × (k < mid)) → IsStoredOn config groups place old new k
    stored-by k place from below at (inl late) = λ readings list read is.
        two.stored k place late.1 below at readings list read (same-stored (meta_at_place config place) (list place) old half k (one.others k (inr late.1)) is)
    stored-by k place from below at (inr early) = λ readings list read is.
        same-stored (meta_at_place config place) (stored_at config readings list place) half new k (two.others k (inl early.1))
        (one.stored k place from early.1 at readings list read is)

-- one reader
pub one-on : (config : Config) (groups : List ReaderGroup) (k : ℕ) (place : MemberPlace) (old new : Stores) → slice_get (reader_places config) k ≡ Some place
    → AddsOneAtMost (pass_at old.keeper k) (pass_at new.keeper k)
    → ((other : ℕ) → other ≢ k → IsSameAt old new other)
    → IsStoredOn config groups place old new k
    → HaveStoredOn config groups k (k + 1) old new
one-on config groups k place old new at adds others stored = record {
  adds = λ j from below. let same : k ≡ j = omega (arith, from, below) in subst (λ (n : ℕ). AddsOneAtMost (pass_at old.keeper n) (pass_at new.keeper n)) same adds;
  others = λ j out. others j (apart j out);
  stored = λ j other from below is. let same : k ≡ j = omega (arith, from, below) in
      subst (λ (n : ℕ). IsStoredOn config groups other old new n) same
      (subst (λ (it : MemberPlace). IsStoredOn config groups it old new k) (same_Some place other (sym at ∙ ap (slice_get (reader_places config)) same ∙ is)) stored);
}
  where
    apart : (j : ℕ) → (j < k) ⊎ (k + 1 ≤ j) → j ≢ k
    apart j (inl before) same = omega (arith, before, same)
    apart j (inr behind) same = omega (arith, behind, same)

-- ---- the metas of the targets

-- the target of a reader is of the data set of its seat
cell-at : (config : Config) (cells : List CellData) (r i : ℕ)
    → map (λ cell. cell.meta) cells ≡ metas_of config.dataset (map (λ reader. reader.dataset) (readers config))
    → r < length config.readgroup → i < length (group_at config r).reader
    → (cell_at cells (first_reader config r + i)).meta ≡ meta_at_place config (r, i)
cell-at config cells r i metas there within =
    sym (listn.get_or-map (λ (cell : CellData). cell.meta) cells k no_cell)
    ∙ ap (λ (l : List MetaData). get_or l k no_meta) metas
    ∙ get_or-map of (map (λ (part : ReaderPart). part.dataset) (readers config)) k 0 no_meta (subst (λ n. k < n) (sym (length-map (readers config) (λ (part : ReaderPart). part.dataset))) low)
    ∙ ap of (get_or-map (λ (part : ReaderPart). part.dataset) (readers config) k no_seat.part 0 low ∙ ap (λ (part : ReaderPart). part.dataset) (reader-at config r i no_seat.part there within))
    ∙ sym (ap (λ (seat : Seat). seat.meta) (get_or-map (seat_in config) (group_at config r).reader i no_seat.part no_seat within))
  where
    k : ℕ
    k = first_reader config r + i

    of : ℕ → MetaData
    of = λ set. slice_index_or config.dataset set no_meta

    low : k < length (readers config)
    low = first-within config r i there within

pub cell-meta : (config : Config) (cells : List CellData) (first r i : ℕ) → first ≡ first_reader config r
    → map (λ cell. cell.meta) cells ≡ metas_of config.dataset (map (λ reader. reader.dataset) (readers config))
    → r < length config.readgroup → i < length (group_at config r).reader
    → (cell_at cells (first + i)).meta ≡ meta_at_place config (r, i)
cell-meta config cells first r i is metas there within =
    ap (λ n. (cell_at cells (n + i)).meta) is ∙ cell-at config cells r i metas there within

-- there is one for each reader
pub cells-count : (config : Config) (cells : List CellData)
    → map (λ cell. cell.meta) cells ≡ metas_of config.dataset (map (λ reader. reader.dataset) (readers config)) → length cells ≡ length (readers config)
cells-count config cells metas =
    sym (length-map cells (λ (cell : CellData). cell.meta)) ∙ ap length metas
    ∙ length-map (map (λ (reader : ReaderPart). reader.dataset) (readers config)) (λ (set : ℕ). slice_index_or config.dataset set no_meta)
    ∙ length-map (readers config) (λ (reader : ReaderPart). reader.dataset)

-- ---- one reader of a read group

-- it holds rows of its target's meta
pub reader-of : (config : Config) (cells : List CellData) (groups : List ReaderGroup) (group : ReaderGroup) (reader : Reader) (first r i : ℕ) → first ≡ first_reader config r
    → map (λ cell. cell.meta) cells ≡ metas_of config.dataset (map (λ reader. reader.dataset) (readers config))
    → r < length config.readgroup → i < length (group_at config r).reader → AreReadGroups config groups
    → group ≡ get_or groups r group → IsMadeAt group i reader → IsReaderOf (cell_at cells (first + i)).meta reader
reader-of config cells groups group reader first r i is metas there within holds at made =
    subst (λ (meta : MetaData). IsReaderOf meta reader) (sym (cell-meta config cells first r i is metas there within))
    (subst (λ (n : ℕ). IsReaderOf (meta_at_place config (n, i)) reader) may.index (made config may.made))
  where
    may : MayReceive config r group
    may = subst (λ (g : ReaderGroup). MayReceive config r g) (sym at) (holds.each r there group)

-- what its call ensures, in the terms of the places
pub placed-on : (config : Config) (cells : List CellData) (groups : List ReaderGroup) (group : ReaderGroup) (reader : Reader) (part : ReaderPart) (first r i : ℕ) (old new : Stores)
    → first ≡ first_reader config r
    → map (λ cell. cell.meta) cells ≡ metas_of config.dataset (map (λ reader. reader.dataset) (readers config))
    → r < length config.readgroup → i < length (group_at config r).reader
    → group ≡ get_or groups r group → part ≡ get_or (group_at config r).reader i part → IsKeptAt group i reader
    → ((list : List Store) → IsStoredAs (cell_at cells (first + i)).meta list old (first + i)
    → IsStoredAs (cell_at cells (first + i)).meta
    (stored_on part.numbering list (held_in (kept_by (cell_at cells (first + i)).meta.fields reader))) new (first + i))
    → IsStoredOn config groups (r, i) old new (first + i)
placed-on config cells groups group reader part first r i old new is_first metas there within at_r at_i kept stores readings list read is =
    subst (λ (after : List Store). IsStoredAs meta after new k) now
    (subst (λ (of : MetaData). IsStoredAs of (stored_on part.numbering (list (r, i)) (held_in (kept_by of.fields reader))) new k) same
    (stores (list (r, i)) (subst (λ (of : MetaData). IsStoredAs of (list (r, i)) old k) (sym same) is)))
  where
    k : ℕ
    k = first + i

    meta : MetaData
    meta = meta_at_place config (r, i)

    same : (cell_at cells k).meta ≡ meta
    same = cell-meta config cells first r i is_first metas there within

    stands : ReadingStands (setting_in config r (readings r)) (readings r).value group
    stands = subst (λ (g : ReaderGroup). ReadingStands (setting_in config r (readings r)) (readings r).value g) (sym at_r) (read r there group)

    numbered : part.numbering ≡ (seat_at (setting_of config r).seats i).part.numbering
    numbered = ap (λ (p : ReaderPart). p.numbering) (get_or_read (group_at config r).reader i part within at_i no_seat.part ∙ sym (seat-part config r i))

    now : stored_on part.numbering (list (r, i)) (held_in (kept_by meta.fields reader)) ≡ stored_at config readings list (r, i)
    now =
        ap (λ (n : NumberingWord). stored_on n (list (r, i)) (held_in (kept_by meta.fields reader))) numbered
        ∙ ap (λ (it : Kept). stored_on (seat_at (setting_of config r).seats i).part.numbering (list (r, i)) (held_in it))
        (kept (setting_in config r (readings r)) (readings r).value stands)

-- ---- what may still be stored

pub may-from : (config : Config) (targets : TargetsData) (s : Stores) → MayStore config targets s → MayStoreFrom config targets 0 s
may-from config targets s may = record { own = may.own; metas = may.metas; count = may.count; room = λ k from low. may.room k low }

-- behind one reader
pub may-more : (config : Config) (targets : TargetsData) (k : ℕ) (old new : Stores) → MayStoreFrom config targets k old
    → ArePassesOf targets.cells new.keeper → length new.last.items ≡ length old.last.items
    → ((other : ℕ) → other ≢ k → IsSameAt old new other)
    → MayStoreFrom config targets (k + 1) new
may-more config targets k old new may own count others = record {
  own = own;
  metas = may.metas;
  count = count ∙ may.count;
  room = λ j from low. let apart : j ≢ k = omega (arith, from) in
      subst (λ (pass : Known). length pass.seen < targets.limit) (sym (others j apart).pass) (may.room j (omega (arith, from)) low);
}

-- ---- all readers

seen-more : (old new : Known) → AddsOneAtMost old new → length new.seen ≤ length old.seen + 1
seen-more old new (inl same) = let e : length new.seen ≡ length old.seen = ap (λ (pass : Known). length pass.seen) same in omega (arith, e)
seen-more old new (inr adds) =
    let e : length new.seen ≡ length (old.seen ++ entry adds.1.by adds.0 ∷ []) = ap (length) adds.1.seen in
    omega (arith, e, length-append old.seen (entry adds.1.by adds.0 ∷ []))

pub holds-left : (config : Config) (targets : TargetsData) (groups : List ReaderGroup) (limit left : ℕ) (old new : Stores) → MayStore config targets old
    → MayStoreFrom config targets (length (readers config)) new
    → HaveStoredOn config groups 0 (length (readers config)) old new
    → HoldStores config limit (left + 1) old → HoldStores config limit left new
holds-left config targets groups limit left old new may done on holds = record {
  count = done.count;
  keepers = done.own.count ∙ sym may.own.count ∙ holds.keepers;
  room = λ k low. let more = seen-more (pass_at old.keeper k) (pass_at new.keeper k) (on.adds k (omega arith) low) in omega (arith, more, holds.room k low);
}

pub all-stored : (config : Config) (groups : List ReaderGroup) (old new : Stores) (readings : ℕ → Reading) (list : MemberPlace → List Store)
    → HaveStoredOn config groups 0 (length (readers config)) old new → HaveReadings config readings groups
    → HaveStored config list old → HaveStored config (stored_at config readings list) new
all-stored config groups old new readings list on read is k place at =
    on.stored k place (omega arith) (within-all config k place at) at readings list read (is k place at)
