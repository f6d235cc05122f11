-- Sources by the places of their readers.
use Rattle.std.proofs.Common.{◌≡◌, refl, sym, ap, ◌∙◌, subst, arith, ℕ, zero, suc, ◌+◌, ◌<◌, List, [], ◌∷◌, length, map, get_or}
use Rattle.std.specs.Prelude.{slice_index_or}
use Rattle.std.proofs.lemmas.List.{get_or-map}
use Rattle.std.proofs.lemmas.Option.{slice_get_within, get_or_from_slice_get}
use Rattle.dataset_meta.specs.Metas.{MetaData, no_meta}
use Rattle.ps_config.specs.declared.parts.Config.{Config}
use Rattle.ps_config.specs.declared.parts.ReadGroupPart.{ReadGroupPart}
use Rattle.ps_config.specs.declared.parts.ReaderPart.{ReaderPart}
use Rattle.group_laws.specs.Matching.{IsMatchedTo}
use Rattle.reader_group.specs.Members.{no_seat, seat_at, seat_of}
use Rattle.reader_group.specs.Settings.{group_at as read_group_at, no_group, seat_in, setting_of}
use Rattle.writer_group.specs.Parts.{group_at}
use Rattle.session_model.specs.Closing.{reader_places}
use Rattle.session_model.specs.Sets.{meta_in}
use Rattle.pubsub_engine.specs.Storing.{first_reader}
use Rattle.pubsub_engine.proofs.ByPlace.{IsPlace, are-places}
use Rattle.pubsub_engine.proofs.Places.{place-at}
use Rattle.gateway_core.specs.Sources.{IsSourceOf}
use Rattle.cmd_relay.specs.Sources.{AreSourced, HasSource, HasSourceIn, IsMatchedSomewhere}
use Rattle.cmd_relay.proofs.Matched.{read-at}

-- ---- one source

pub source-of : (first : Config) (r : ℕ) (meta : MetaData) → r < length first.readgroup → HasSourceIn first r meta → HasSource first meta
source-of first r meta there (i, within, is) = (
  first_reader first r + i,
  record {
    place = (r, i);
    group = is.matched.group;
    writer = is.matched.writer;
    place_is = place-at first r i there within;
    group_there = is.matched.there;
    matched = is.matched.matched;
    name = is.named.name;
    numbering = is.named.numbering;
    fields = is.alike.fields;
    major = is.alike.major;
    quality = is.alike.quality;
  },
)

-- a source is in one of the read groups
pub source-in : (first : Config) (meta : MetaData) → HasSource first meta → (r : ℕ) × (r < length first.readgroup) × HasSourceIn first r meta
source-in first meta (source, is) =
    let here : IsPlace first is.place = subst (IsPlace first) (get_or_from_slice_get (reader_places first) source is.place (0, 0) is.place_is)
    (are-places first source (0, 0) (slice_get_within (reader_places first) source is.place is.place_is)) in (
      is.place.0,
      here.0,
      (
        is.place.1,
        here.1,
        record {
          named = record { name = is.name; numbering = is.numbering };
          alike = record { fields = is.fields; major = is.major; quality = is.quality };
          matched = record { group = is.group; writer = is.writer; there = is.group_there; matched = is.matched };
        },
      ),
    )

-- ---- a reader that was read

-- the seat of a reader that was read, with its group and its data set
pub seat-read : (first : Config) (r i : ℕ) (group : ReadGroupPart) (reader : ReaderPart) (own : MetaData) → r < length first.readgroup → group ≡ get_or first.readgroup r group
    → i < length group.reader → reader ≡ get_or group.reader i reader → reader.dataset < length first.dataset → own ≡ get_or first.dataset reader.dataset own
    → seat_at (setting_of first r).seats i ≡ seat_of reader own
seat-read first r i group reader own there at within is low own_is =
    seats (read_group_at first r).reader i reader (subst (λ (g : ReadGroupPart). i < length g.reader) (sym same) within) (is ∙ ap (λ (g : ReadGroupPart). get_or g.reader i reader) (sym same))
    ∙ ap (seat_of reader) (read-at first.dataset reader.dataset own no_meta low own_is)
  where
    same : read_group_at first r ≡ group
    same = read-at first.readgroup r group no_group there at

    seats : (readers : List ReaderPart) (k : ℕ) (part : ReaderPart) → k < length readers → part ≡ get_or readers k part → seat_at (map (seat_in first) readers) k ≡ seat_in first part
    seats readers k part lt e = get_or-map (seat_in first) readers k part no_seat lt ∙ ap (seat_in first) (sym e)

pub matched-read : (first : Config) (r i : ℕ) (group : ReadGroupPart) → r < length first.readgroup → group ≡ get_or first.readgroup r group → (g w : ℕ) → g < length first.group
    → IsMatchedTo first group i (group_at first g) w → IsMatchedSomewhere first r i
matched-read first r i group there at g w low matched =
    record { group = g; writer = w; there = low; matched = subst (λ (x : ReadGroupPart). IsMatchedTo first x i (group_at first g) w) (sym (read-at first.readgroup r group no_group there at)) matched }

pub unmatched-read : (first : Config) (r i : ℕ) (group : ReadGroupPart) → r < length first.readgroup → group ≡ get_or first.readgroup r group
    → ((g w : ℕ) → g < length first.group → IsMatchedTo first group i (group_at first g) w → ⊥) → IsMatchedSomewhere first r i → ⊥
unmatched-read first r i group there at none is =
    none is.group is.writer is.there (subst (λ (x : ReadGroupPart). IsMatchedTo first x i (group_at first is.group) is.writer) (read-at first.readgroup r group no_group there at) is.matched)

-- ---- all of them

-- each of the first data sets has a source, in order
sources-for : (first : Config) (metas : List MetaData) → ((k : ℕ) → k < length metas → HasSource first (meta_in metas k))
    → (sources : List ℕ) × (length sources ≡ length metas) × ((k : ℕ) → k < length metas → IsSourceOf first (meta_in metas k) (slice_index_or sources k 0))
sources-for first [] each = ([], refl, (λ k lt. absurd (omega (arith, lt))))
sources-for first (meta ∷ metas) each =
    let head : HasSource first meta = each 0 (omega arith) in
    let rest = sources-for first metas (λ k lt. each (suc k) (omega (arith, lt))) in
    (head.0 ∷ rest.0, ap (λ (n : ℕ). suc n) rest.1, one head.0 rest.0 head.1 rest.2)
  where
    one : (source : ℕ) (sources : List ℕ) → IsSourceOf first meta source → ((k : ℕ) → k < length metas → IsSourceOf first (meta_in metas k) (slice_index_or sources k 0))
        → (k : ℕ) → k < length (meta ∷ metas) → IsSourceOf first (meta_in (meta ∷ metas) k) (slice_index_or (source ∷ sources) k 0)
    one source sources is later zero lt = is
    one source sources is later (suc k) lt = later k (omega (arith, lt))

pub sourced : (first second : Config) → ((k : ℕ) → k < length second.dataset → HasSource first (meta_in second.dataset k)) → AreSourced first second
sourced first second each = let made = sources-for first second.dataset each in (made.0, record { count = made.1; each = made.2 })
