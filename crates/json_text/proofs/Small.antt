-- A message of the built-in configuration meets the premises of the laws of lines.
use Rattle.std.proofs.Common.{◌≡◌, refl, sym, subst, lit<, lit≤, inr, ℕ, ◌≤◌, List, [], ◌∷◌, length, codes, Some, None, Ok}
use Rattle.std.specs.Prelude.{replicate}
use Rattle.std.specs.Fmt.{digits}
use Rattle.std.specs.Str.{chars, is_utf8}
use Rattle.std.specs.List.{AllByRecursion}
use lib.Utf8.{encode}
use Rattle.std.proofs.lemmas.List.Elements.{All-cons, All-head, All-nil}
use Rattle.serde_json.proofs.OnLiterals.{serde_json_on_literals}
use Rattle.serde_json.specs.Data.{Items}
use Rattle.ua_binary.specs.ReadingValues.{block_at, text_at, kind_at, variant_at, times_past, parts_at, data_value_at}
use Rattle.uadp_header.specs.Formats.{◌>>=◌, read}
use Rattle.uadp_header.specs.Layout.{byte, number, block, when, byte_when, text, publisher_id, group_numbers, group_when, payload_header, ids_when, extras, security_header, parts, header, header_at}
use Rattle.dataset_meta.specs.Metas.{MetaData, IsMeta}
use Rattle.dataset_meta.specs.Rows.{IsRow}
use Rattle.row_words.specs.Belonging.{Belongs, row_in, statuses_in, spelled_row, spelled_statuses}
use Rattle.frame_codec.specs.declared.frame.FrameKind.TheVariants as kinds
use Rattle.frame_codec.specs.Contents.{field_at, surplus_at, whole_at, change_at, patch_at, content_at}
use Rattle.frame_codec.specs.Fronts.{flags1_at, flags2_at, times_past as front_times, parts_at as front_parts, front_at}
use Rattle.frame_codec.specs.Reading.{behind_front, message_at, frame_at}
use Rattle.ps_config.specs.BuiltIn.{demo, built_in_config, built_in_group, built_in_reader, built_in_writer}
use Rattle.ps_config.specs.Sound.{IsSound}
use Rattle.json_frames.specs.declared.message.JsonPart.{JsonPart}
use Rattle.json_frames.specs.declared.message.JsonRead.{JsonRead}
use Rattle.json_frames.specs.Documents.{HasMessage, IsRead, document, value_of}
use Rattle.json_frames.specs.Parts.{IsPartOf, Part, parts_in}
use Rattle.json_frames.specs.Reading.{IsNamedPart, ReadAs}
use Rattle.json_frames.specs.Written.{elements_json, message_json}
use Rattle.json_tap.specs.Reading.{AreReadAs}
use Rattle.json_tap.specs.Transcoding.{line, sets_of, transcoded}
use Rattle.json_text.specs.Reading.{ReadsLines}
use Rattle.json_text.specs.Readers.{kept_for}
use Rattle.json_text.specs.Witness.{small_datagram, small_line, small_message, small_part, small_row}

pub small-transcoded : transcoded built_in_config small_datagram ≡ Some small_message
unfolding is_utf8 chars encode transcoded built_in_config built_in_group built_in_writer demo digits byte number block when byte_when text publisher_id group_numbers group_when payload_header ids_when extras security_header parts header header_at ◌>>=◌ read flags1_at flags2_at front_times front_parts front_at behind_front message_at frame_at field_at surplus_at whole_at change_at patch_at content_at block_at text_at kind_at variant_at times_past parts_at data_value_at
small-transcoded = refl

pub small-line : line built_in_config 0 small_message ≡ small_line
unfolding built_in_config demo digits message_json serde_json_on_literals
small-line = refl

small-value : value_of small_line ≡ Some (message_json built_in_config.dataset 0 (codes "5") (small_part ∷ []))
unfolding is_utf8 chars encode built_in_config demo digits message_json serde_json_on_literals
small-value = refl

pub small-kept : (kept_for built_in_config (small_part ∷ []) built_in_reader).row ≡ Some small_row
unfolding built_in_config demo built_in_reader
small-kept = refl

-- ---- it is read

row-is : IsRow demo small_row
unfolding demo
row-is = (
  record { is_value = lit< tt; fits = record { same_kind = refl; within = lit≤ tt }; is_status = refl },
  (
    record { is_value = lit< tt; fits = record { same_kind = refl; within = lit≤ tt }; is_status = refl },
    (
      record { is_value = lit< tt; fits = record { same_kind = refl; within = lit≤ tt }; is_status = refl },
      (record { is_value = lit< tt; fits = record { same_kind = refl; within = lit≤ tt }; is_status = refl }, tt),
    ),
  ),
)

named : IsSound built_in_config → AllByRecursion (IsNamedPart built_in_config.dataset (sets_of built_in_config)) (small_part ∷ [])
unfolding built_in_config built_in_group built_in_writer demo
named sound = (
  (
    record {
      writer = lit< tt;
      set = lit< tt;
      meta = All-head (λ (meta : MetaData). IsMeta meta.fields) demo [] sound.metas;
      frame = record {
        number = lit< tt;
        major = tt;
        minor = tt;
        content = row-is;
      };
      number = refl;
      versions = inr (refl, refl);
    },
    refl,
  ),
  tt,
)

-- the part in words
in_words : JsonPart
in_words = record {
  writer = 1;
  set = 0;
  frame = record { number = Some 0; kind = kinds.Whole (record { words = 7 ∷ replicate 124 0 }); major = None; minor = None };
}

same-part : parts_in built_in_config.dataset (in_words ∷ []) ≡ small_part ∷ []
unfolding in_words built_in_config demo row_in statuses_in
same-part = refl

belongs : Belongs demo (7 ∷ replicate 124 0)
unfolding demo row_in statuses_in spelled_row spelled_statuses
belongs = record { whole = refl; row = row-is; spelled = refl }

writable : IsPartOf built_in_config.dataset in_words
unfolding in_words built_in_config
writable = record { set = lit< tt; frame = belongs; number = refl; versions = inr (refl, refl) }

-- the laws of `json_frames`
pub record JsonLaws : Type 0 where
  pub is_written : (metas : List MetaData) (sets : List (ℕ × ℕ)) (parts : List Part) → AllByRecursion (IsNamedPart metas sets) parts → ReadAs metas sets (elements_json metas parts) parts 0
  pub is_read : (metas : List MetaData) (sets : List (ℕ × ℕ)) (id : ℕ) (publisher : List ℕ) (parts : List Part) (bytes : List ℕ) (found : JsonRead) → length publisher ≤ 256 → AllByRecursion (IsNamedPart metas sets) parts
      → value_of bytes ≡ Some (message_json metas id publisher parts) → IsRead metas sets bytes found → HasMessage metas publisher parts found
  pub is_accepted : (metas : List MetaData) (id : ℕ) (publisher : List ℕ) (parts : List Part) (bytes : List ℕ) → length publisher ≤ 256 → value_of bytes ≡ Some (message_json metas id publisher parts)
      → document bytes ≡ Ok (publisher, elements_json metas parts)

-- what is read
found_so : JsonRead
found_so = record { publisher = codes "5"; parts = in_words ∷ []; bad = 0 }

module _ (laws : JsonLaws) (sound : IsSound built_in_config) where
  abbrev metas : List MetaData
  metas = built_in_config.dataset

  abbrev sets : List (ℕ × ℕ)
  sets = sets_of built_in_config

  abbrev elements : Items
  elements = elements_json metas (small_part ∷ [])

  pub small-read-as : AreReadAs built_in_config 0 (small_message ∷ [])
  small-read-as = (
    λ found is.
        laws.is_read metas sets 0 (codes "5") (small_part ∷ []) (line built_in_config 0 small_message) found (lit≤ tt) (named sound)
        (subst (λ (bytes : List ℕ). value_of bytes ≡ Some (message_json metas 0 (codes "5") (small_part ∷ []))) (sym small-line) small-value) is,
    tt,
  )

  is-read : IsRead metas sets small_line found_so
  unfolding found_so
  is-read = record {
    items = elements;
    bad = 0;
    judged = laws.is_accepted metas 0 (codes "5") (small_part ∷ []) small_line (lit≤ tt) small-value;
    parts = subst (λ (l : List Part). ReadAs metas sets elements l 0) (sym same-part) (laws.is_written metas sets (small_part ∷ []) (named sound));
    count = refl;
    writable = All-cons (IsPartOf metas) in_words [] writable (All-nil (IsPartOf metas));
  }

  same-found : small_part ∷ [] ≡ parts_in metas found_so.parts
  unfolding found_so
  same-found = sym same-part

  pub small-reads : ReadsLines built_in_config (small_line ∷ []) (small_part ∷ [])
  small-reads = (small_part ∷ [], [], (found_so, is-read, same-found), refl, refl)
