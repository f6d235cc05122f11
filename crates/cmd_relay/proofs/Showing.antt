-- What a levelled player shows a gateway: the rows, the counts and the origins of the stores of its session's readers.
use Rattle.std.proofs.Common.{◌≡◌, sym, ap, ◌∙◌, subst, arith, ℕ, zero, suc, ◌<◌, List, [], ◌∷◌, length, map, reverse, get_or, Some, All}
use Rattle.std.specs.Prelude.{slice_get, slice_index_or}
use Rattle.std.specs.List.{AllZip}
use Rattle.std.proofs.lemmas.List.{get_or-map, length-map}
use Rattle.std.proofs.lemmas.Option.{get_or_from_slice_get, slice_get_within}
use lib.ListN.{get_or-map as get_or-mapped}
use Rattle.dataset_meta.specs.Metas.{MetaData, no_meta}
use Rattle.row_words.specs.Belonging.{Belongs, row_in}
use Rattle.ps_config.specs.declared.parts.Config.{Config}
use Rattle.ps_config.specs.declared.parts.ReaderPart.{ReaderPart}
use Rattle.ps_config.specs.Sound.{readers}
use Rattle.reader_group.specs.Members.{no_seat, seat_at}
use Rattle.reader_group.specs.Settings.{group_at as read_group_at, seat_in as seat_by, setting_of}
use Rattle.target_cells.specs.declared.origin.Origin.{Origin}
use Rattle.target_cells.specs.Keeping.{AreSound, metas_of}
use Rattle.version_cell.specs.declared.rule.Entry.{Entry}
use Rattle.version_cell.specs.Cells.{CellData, IsCell}
use Rattle.version_cell.specs.Known.{Known}
use Rattle.version_cell.specs.Passes.{IsPassOf, SeesLawful}
use Rattle.version_cell.specs.Sets.{EachSeesLawful, cell_at, no_cell, pass_at}
use Rattle.writer_group.specs.declared.sampled.Sampled.{Sampled}
use Rattle.writer_group.specs.Turns.{no_sample}
use Rattle.session_model.specs.Closing.{MemberPlace, reader_places}
use Rattle.session_model.specs.Sets.{meta_in}
use Rattle.session_model.specs.Steps.{Plan, Step}
use Rattle.session_model.specs.Stores.{Store, stores}
use Rattle.pubsub_engine.specs.Holding.{keeper_of}
use Rattle.pubsub_engine.specs.Standing.{Stands}
use Rattle.pubsub_engine.specs.Storing.{meta_at_place}
use Rattle.pubsub_engine.proofs.ByPlace.{IsPlace, are-places}
use Rattle.pubsub_engine.proofs.Places.{within-all}
use Rattle.pubsub_engine.proofs.Stored.{cells-count}
use Rattle.gateway_core.specs.Lived.{collected, sample_of}
use Rattle.gateway_core.specs.Sources.{HaveSources as HaveIndexes, MayCollect}
use Rattle.gateway_core.proofs.Places.{part-there}
use Rattle.gateway_laws.specs.Relays.{AreCollected, IsCollected, stores_of}
use Rattle.gateway_laws.specs.Lives.{ArePlaces}
use Rattle.gateway_laws.specs.Sources.{HaveSources, Source, source_at}
use Rattle.gateway_laws.specs.Versions.{HasStored}
use Rattle.script_player.specs.declared.player.Player.{Player}
use Rattle.script_player.specs.Player.{IsPlayer, config_of}
use Rattle.script_player.proofs.Finished.{any_default}

-- the law of gateway_laws
abbrev pub ShowsCollected : Type 0
ShowsCollected =
    (cell : CellData) (meta : MetaData) (p : Known) (list : List Store) → IsCell cell → IsPassOf cell p → SeesLawful p
    → cell.meta.fields ≡ meta.fields → cell.meta.quality ≡ meta.quality → HasStored list cell.meta p → IsCollected meta list (sample_of p)

-- ---- places

-- the meta of a reader's place is that of its part's data set
seat-meta : (config : Config) (place : MemberPlace) → IsPlace config place
    → meta_at_place config place ≡ slice_index_or config.dataset (seat_at (setting_of config place.0).seats place.1).part.dataset no_meta
seat-meta config place is =
    let seat = get_or-map (seat_by config) (read_group_at config place.0).reader place.1 no_seat.part no_seat is.1 in
    ap (λ s. s.meta) seat ∙ sym (ap (λ s. slice_index_or config.dataset s.part.dataset no_meta) seat)

place-is : (config : Config) (k : ℕ) (place : MemberPlace) → slice_get (reader_places config) k ≡ Some place → IsPlace config place
place-is config k place at =
    subst (IsPlace config) (get_or_from_slice_get (reader_places config) k place (0, 0) at) (are-places config k (0, 0) (slice_get_within (reader_places config) k place at))

-- the cell of a reader's place has its meta
cell-meta : (config : Config) (cells : List CellData) (k : ℕ) (place : MemberPlace) → map (λ cell. cell.meta) cells ≡ metas_of config.dataset (map (λ reader. reader.dataset) (readers config))
    → slice_get (reader_places config) k ≡ Some place → (cell_at cells k).meta ≡ meta_at_place config place
cell-meta config cells k place metas at =
    let of : ℕ → MetaData = λ set. slice_index_or config.dataset set no_meta in
    let low : k < length (readers config) = within-all config k place at in
    let sets = map (λ (reader : ReaderPart). reader.dataset) (readers config) in
    let part = (seat_at (setting_of config place.0).seats place.1).part in
    sym (get_or-mapped (λ (cell : CellData). cell.meta) cells k no_cell)
    ∙ ap (λ (l : List MetaData). get_or l k no_meta) metas
    ∙ get_or-map of sets k 0 no_meta (let e = length-map (readers config) (λ (reader : ReaderPart). reader.dataset) in omega (arith, e, low))
    ∙ ap of (get_or-map (λ (reader : ReaderPart). reader.dataset) (readers config) k no_seat.part 0 low
    ∙ ap (λ (reader : ReaderPart). reader.dataset) (get_or_from_slice_get (readers config) k part no_seat.part (part-there config k place at)))
    ∙ sym (seat-meta config place (place-is config k place at))

-- ---- a levelled player

module _ (law : ShowsCollected) (player : Player) (is : IsPlayer player) (lawful : EachSeesLawful player.watches)
    (level : (k : ℕ) → k < length player.watches → (pass_at player.watches k).seen ≡ (pass_at (keeper_of player.session) k).seen)
    (sound : 0 < length (readers (config_of player)) → AreSound player.targets) where
  cells : length player.targets.cells ≡ length (readers (config_of player))
  cells = cells-count (config_of player) player.targets.cells is.targets.metas

  pub watch-there : (k : ℕ) (place : MemberPlace) → slice_get (reader_places (config_of player)) k ≡ Some place → k < length player.watches
  watch-there k place at = let low = within-all (config_of player) k place at in let e = cells in let n = is.watches.count in omega (arith, low, e, n)

  -- what is shown of a reader
  pub shown : (p : Plan) (steps : List Step) (meta : MetaData) (k : ℕ) (place : MemberPlace) → Stands p steps player.session → slice_get (reader_places (config_of player)) k ≡ Some place
      → (meta_at_place (config_of player) place).fields ≡ meta.fields → (meta_at_place (config_of player) place).quality ≡ meta.quality
      → IsCollected meta (stores (config_of player) place.0 place.1 steps) (sample_of (pass_at player.watches k))
  shown p steps meta k place stands at fields quality =
      let config = config_of player in
      let low : k < length player.watches = watch-there k place at in
      let low_cell : k < length player.targets.cells = (let n = is.watches.count in omega (arith, low, n)) in
      let cell = cell_at player.targets.cells k in
      let meta_is : cell.meta ≡ meta_at_place config place = cell-meta config player.targets.cells k place is.targets.metas at in
      let same : p.config ≡ config = sym (ap (λ (q : Plan). q.config) stands.plan) in
      let kept : map (λ (entry : Entry). row_in (meta_at_place config place).fields entry.row) (pass_at (keeper_of player.session) k).seen
      ≡ map (λ (store : Store). store.row) (reverse (stores config place.0 place.1 steps)) =
      subst (λ (c : Config). slice_get (reader_places c) k ≡ Some place
      → map (λ (entry : Entry). row_in (meta_at_place c place).fields entry.row) (pass_at (keeper_of player.session) k).seen ≡ map (λ (store : Store). store.row) (reverse (stores c place.0 place.1 steps)))
      same (λ there. (stands.stores_are k place there).seen) at in
      let stored : HasStored (stores config place.0 place.1 steps) cell.meta (pass_at player.watches k) =
      ap (λ (m : MetaData). map (λ (entry : Entry). row_in m.fields entry.row) (pass_at player.watches k).seen) meta_is
      ∙ ap (λ (seen : List Entry). map (λ (entry : Entry). row_in (meta_at_place config place).fields entry.row) seen) (level k low) ∙ kept in
      law cell meta (pass_at player.watches k) (stores config place.0 place.1 steps)
      ((sound (let e = cells in omega (arith, low_cell, e))).cells k no_cell low_cell) (is.watches.each k low_cell) (lawful k low)
      (ap (λ (m : MetaData). m.fields) meta_is ∙ fields) (ap (λ (m : MetaData). m.quality) meta_is ∙ quality) stored

  -- ---- by the indexes of the sources

  module _ (second : Config) (places : List ℕ) (have : HaveIndexes (config_of player) second places) where
    sample-is : (set : ℕ) → set < length places → (d : Sampled) → slice_index_or (collected places player.watches) set d ≡ sample_of (pass_at player.watches (slice_index_or places set 0))
    sample-is set lt d = get_or-map (λ (source : ℕ). sample_of (pass_at player.watches source)) places set 0 d lt

    all-of : (P : ℕ → Type 0) → ((set : ℕ) → set < length places → P (slice_index_or places set 0)) → All P places
    all-of P each = λ k d lt. subst P (any_default places k 0 d lt) (each k lt)

    zip-of : {A B : Type 0} (R : A → B → Type 0) (xs : List A) (ys : List B) (d : A) (e : B) → length ys ≡ length xs → ((i : ℕ) → i < length xs → R (get_or xs i d) (get_or ys i e)) → AllZip R xs ys
    zip-of R [] [] d e same each = tt
    zip-of R [] (y ∷ ys) d e same each = absurd (omega (arith, same))
    zip-of R (x ∷ xs) [] d e same each = absurd (omega (arith, same))
    zip-of R (x ∷ xs) (y ∷ ys) d e same each = (each zero (omega arith), zip-of R xs ys d e (omega (arith, same)) (λ i lt. each (suc i) (omega (arith, lt))))

    count : length (collected places player.watches) ≡ length second.dataset
    count = length-map places (λ (source : ℕ). sample_of (pass_at player.watches source)) ∙ have.count

    in-places : (set : ℕ) → set < length second.dataset → set < length places
    in-places set lt = let c = have.count in omega (arith, lt, c)

    -- the gateway may be shown it
    pub may-collect : (origins : List Origin) (p : Plan) (steps : List Step) → length origins ≡ length (readers (config_of player)) → Stands p steps player.session
        → MayCollect second.dataset places player.watches origins
    may-collect origins p steps enough stands = record {
      passes_there = all-of (λ (source : ℕ). source < length player.watches)
          (λ set lt. let each = have.each set (let c = have.count in omega (arith, lt, c)) in watch-there (slice_index_or places set 0) each.place each.place_is);
      origins_there = all-of (λ (source : ℕ). source < length origins)
          (λ set lt. let each = have.each set (let c = have.count in omega (arith, lt, c)) in let low = within-all (config_of player) (slice_index_or places set 0) each.place each.place_is in omega (arith, low, enough));
      rows = zip-of (λ (meta : MetaData) (sampled : Sampled). Belongs meta sampled.row.words) second.dataset (collected places player.watches) no_meta no_sample count
          (λ set lt. let each = have.each set lt in
          subst (λ (s : Sampled). Belongs (meta_in second.dataset set) s.row.words) (sym (sample-is set (in-places set lt) no_sample))
          (shown p steps (meta_in second.dataset set) (slice_index_or places set 0) each.place stands each.place_is each.fields each.quality).belongs);
    }

    -- and this is what the sources have stored
    pub are-collected : (p : Plan) (steps : List Step) (sources : List Source) → Stands p steps player.session → HaveSources (config_of player) second sources → ArePlaces (config_of player) places sources
        → AreCollected (config_of player) second sources steps (collected places player.watches)
    are-collected p steps sources stands named at = record {
      count = count;
      each = λ set lt. let source = named.each set lt in
          subst (λ (s : Sampled). IsCollected (meta_in second.dataset set) (stores_of (config_of player) sources set steps) s) (sym (sample-is set (in-places set lt) no_sample))
          (shown p steps (meta_in second.dataset set) (slice_index_or places set 0) ((source_at sources set).read_group, (source_at sources set).reader) stands (at.each set (in-places set lt)) source.fields source.quality);
    }
