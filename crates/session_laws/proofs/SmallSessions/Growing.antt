-- A session with a data set that grows meets the premises, and its reader holds the closing row, cut to the fields that it has.
use Rattle.std.proofs.Common.{◌≡◌, refl, sym, subst, ℕ, zero, suc, ◌<◌, ◌≤◌, lit<, lit≤, inl, inr, true, false, List, [], ◌∷◌, length, map, All, Contains, Some, Ok}
use Rattle.std.specs.Prelude.{slice_index_or}
use Rattle.std.specs.Fmt.{digits}
use Rattle.std.specs.Str.{is_utf8, chars}
use Rattle.std.proofs.lemmas.List.Elements.{All-cons, All-nil}
use Rattle.toml.proofs.OnLiterals.{toml_on_literals}
use Rattle.hex.proofs.OnLiterals.{hex_on_literals}
use Rattle.pubsub_model.specs.Cadence.{WriterTurn}
use Rattle.dataset_meta.specs.Metas.{IsMeta, MetaData, grown}
use Rattle.row_words.specs.Belonging.{Belongs, cut_words, row_in, spelled_row, spelled_statuses, statuses_in}
use Rattle.uadp_header.specs.Spelling.{flags_bytes, group_bytes, header_bytes, header_len, security_bytes}
use Rattle.frame_codec.specs.Spelling.{front_bytes, frame_bytes}
use Rattle.ps_config.specs.declared.parts.GroupPart.{GroupPart}
use Rattle.ps_config.specs.BuiltIn.{built_in_config, built_in_group, built_in_read_group, built_in_reader, built_in_writer, demo}
use Rattle.ps_config.specs.Configs.{config_of, data_set_of, group_of, key_group_of, key_of, publisher_part, read_group_of, reader_of, writer_of}
use Rattle.ps_config.specs.FixedSound.{IsFixedSound}
use Rattle.ps_config.specs.Reading.{configuration}
use Rattle.ps_config.specs.Refusals.{table_faults, stands}
use Rattle.ps_config.specs.Settings.{settings_at}
use Rattle.ps_config.specs.Sound.{IsSound}
use Rattle.ps_config.specs.Types.{HasGroupTypes, HasTypes, HasWriterTypes}
use Rattle.writer_group.specs.declared.sampled.Sampled.{Sampled}
use Rattle.writer_group.specs.Parts.{group_at}
use Rattle.writer_group.specs.Turns.{GroupDeed, GroupTurn, no_sample, writer_turn}
use Rattle.ps_config.specs.declared.parts.WriterPart.{WriterPart}
use Rattle.ps_config.specs.Rooms.{is_fixed, lacks_room}
use Rattle.session_model.specs.Events.{reader_at}
use Rattle.ps_script.specs.Faults.{CanTellOf, is_meta}
use Rattle.ps_script.proofs.MetaTest.{passes_meta}
use Rattle.session_model.specs.Counts.{longest_datagram, most_taken}
use Rattle.session_model.specs.Deeds.{group_past, turn_input, turn_of}
use Rattle.session_model.specs.Keeping.{IsPlan, MayCome, MayGrow}
use Rattle.session_model.specs.Sends.{IsPump, Send, sends_by, sends_of}
use Rattle.session_model.specs.Sets.{AreFit, AreRowsOf, GrowTo, meta_in, metas_at}
use Rattle.session_model.specs.Steps.{Step, Append}
use Rattle.session_model.specs.Turns.{deeds_before}
use Rattle.session_laws.specs.Delivered.{all_got, sent_on}
use Rattle.session_laws.specs.Headline.{InSession}
use Rattle.session_laws.specs.Newest.{ClosingGot}
use Rattle.session_laws.specs.Reading.{IsMatchedIn}
use Rattle.session_laws.specs.Sessions.{AreVersions}
use Rattle.session_laws.specs.Witness.{GotAll, IsNewestWhere, growing_plan, growing_session, new_field, nine, nine_rows, small_row, telling_config, telling_group, telling_text, telling_writer}
use Rattle.session_laws.proofs.HeldRows.Delivering.{appended-session, delivered-session, opening-session, pump-of}
use Rattle.session_laws.proofs.SmallSessions.OneTick.{all-sends, got-of, sent-by, short-of}
use Rattle.session_laws.proofs.SmallSessions.ThreeGroups.{NewestLaw, newest-where}

pub telling-is-read : configuration telling_text ≡ Ok telling_config
unfolding toml_on_literals hex_on_literals is_utf8 chars digits configuration table_faults stands config_of publisher_part data_set_of key_of key_group_of writer_of group_of reader_of read_group_of settings_at header_len demo built_in_writer built_in_group built_in_reader built_in_read_group built_in_config telling_writer telling_group telling_config
telling-is-read = refl

pub record TellingLaws : Type 0 where
  pub sound : IsSound telling_config
  pub fixed : IsFixedSound telling_config
  pub types : HasTypes built_in_config

-- ---- the plan

telling-types : HasTypes built_in_config → HasTypes telling_config
unfolding built_in_config telling_config telling_group telling_writer built_in_group built_in_writer
telling-types types = record {
  publisher = types.publisher;
  port = types.port;
  metas = types.metas;
  keygroups = types.keygroups;
  groups = All-cons HasGroupTypes telling_group []
      (record {
        id = lit< tt;
        interval = lit< tt;
        max_size = lit< tt;
        version = lit< tt;
        class_id = tt;
        writers = All-cons HasWriterTypes telling_writer [] (record { id = lit< tt; key_frame_count = lit< tt; keep_alive = lit< tt; first_number = lit< tt; offset = lit< tt; size = lit< tt }) (All-nil HasWriterTypes);
      }) (All-nil HasGroupTypes);
  readgroups = types.readgroups;
}

grow-to : GrowTo telling_config.dataset growing_plan.full
unfolding growing_plan telling_config built_in_config demo
grow-to = (record { fields = refl; quality = refl; major = refl }, tt)

grown-meta : IsMeta (grown demo new_field).fields
unfolding demo is_meta
grown-meta = passes_meta (grown demo new_field).fields refl

plan-is : TellingLaws → IsPlan growing_plan
unfolding growing_plan
plan-is laws = record {
  good = record { sound = laws.sound; fixed = laws.fixed };
  types = telling-types laws.types;
  fit = record { each = laws.sound.metas; room = λ k d below. (laws.sound.groups k d below).room };
  grow = grow-to;
  whole = All-cons (λ (meta : MetaData). IsMeta meta.fields) (grown demo new_field) [] grown-meta (All-nil (λ (meta : MetaData). IsMeta meta.fields));
}

-- ---- the steps

grown-fit : AreFit telling_config (metas_at growing_plan.config (Append 0 new_field ∷ []))
unfolding growing_plan telling_config telling_group telling_writer built_in_config built_in_group built_in_writer demo header_len
grown-fit = record {
  each = All-cons (λ (meta : MetaData). IsMeta meta.fields) (grown demo new_field) [] grown-meta (All-nil (λ (meta : MetaData). IsMeta meta.fields));
  room = All-cons (λ (group : GroupPart). lacks_room telling_config.publisher.id (grown demo new_field ∷ []) group ≡ false) telling_group [] refl
      (All-nil (λ (group : GroupPart). lacks_room telling_config.publisher.id (grown demo new_field ∷ []) group ≡ false));
}

may-grow : MayGrow growing_plan [] 0 new_field
unfolding growing_plan telling_config telling_group telling_writer built_in_config built_in_group built_in_writer demo
may-grow = record {
  may = record {
    there = lit< tt;
    told = All-cons (CanTellOf 0) telling_group [] (All-cons (λ (writer : WriterPart). writer.dataset ≡ 0 → (writer.versions ≡ true) × (is_fixed telling_group.layout ≡ false)) telling_writer [] (λ own. (refl, refl)) (All-nil _)) (All-nil (CanTellOf 0));
    minor = lit< tt;
    fit = grown-fit;
  };
  grow = (record { fields = refl; quality = refl; major = refl }, tt);
  running = refl;
}

nine-belongs : Belongs (grown demo new_field) nine.row.words
unfolding demo row_in statuses_in spelled_row spelled_statuses nine
nine-belongs = record {
  whole = refl;
  row = (
    record { is_value = lit< tt; fits = record { same_kind = refl; within = lit≤ tt }; is_status = refl },
    (
      record { is_value = lit< tt; fits = record { same_kind = refl; within = lit≤ tt }; is_status = refl },
      (
        record { is_value = lit< tt; fits = record { same_kind = refl; within = lit≤ tt }; is_status = refl },
        (
          record { is_value = lit< tt; fits = record { same_kind = refl; within = lit≤ tt }; is_status = refl },
          (record { is_value = lit< tt; fits = record { same_kind = refl; within = lit≤ tt }; is_status = refl }, tt),
        ),
      ),
    ),
  );
  spelled = refl;
}

nine-rows : AreRowsOf growing_plan.full (nine ∷ [])
unfolding growing_plan
nine-rows = (nine-belongs, tt)

may-close : MayCome growing_plan (Append 0 new_field ∷ []) 0 true (nine ∷ [])
may-close = record { rows = nine-rows; short = lit≤ tt; running = refl; left = λ is_open. absurd (cc); still = λ closing. refl }

matched-is : IsMatchedIn growing_plan.config 0 0 0 0
unfolding growing_plan telling_config telling_group telling_writer built_in_config built_in_group built_in_writer built_in_read_group built_in_reader
matched-is = record {
  groups = record { publisher = refl; group_id = inl refl; version = inl refl; class_id = inl refl; layout = refl; security = refl; keygroup = refl };
  within = lit< tt;
  reads = record { within = lit< tt; id = refl; dataset = refl; offset = λ fixed. refl; size = λ fixed. refl };
}

-- ---- what the closing tick sends

abbrev behind : List Step
behind = Append 0 new_field ∷ []

abbrev its_turn : GroupTurn
its_turn = turn_of growing_plan behind 0 true (nine ∷ []) (deeds_before growing_plan behind 0 true (nine ∷ []) 0) 0

sends-are : sends_of growing_plan (sent_on growing_plan 0 true (nine ∷ []) behind) ≡ sends_by 0 its_turn.made
unfolding growing_plan telling_config telling_group telling_writer built_in_config built_in_group built_in_writer
sends-are = refl

its-lengths : map (λ (datagram : List ℕ). length datagram) its_turn.made ≡ 48 ∷ []
unfolding growing_plan telling_config telling_group telling_writer built_in_config built_in_group built_in_writer demo nine row_in statuses_in spelled_row spelled_statuses cut_words header_len header_bytes flags_bytes group_bytes security_bytes front_bytes frame_bytes
its-lengths = refl

few-sends : length (sends_of growing_plan (sent_on growing_plan 0 true (nine ∷ []) behind)) < most_taken
unfolding growing_plan telling_config telling_group telling_writer built_in_config built_in_group built_in_writer demo nine row_in statuses_in spelled_row spelled_statuses cut_words header_len header_bytes flags_bytes group_bytes security_bytes front_bytes frame_bytes
few-sends = lit< tt

pump-is : IsPump most_taken (all_got growing_plan (sent_on growing_plan 0 true (nine ∷ []) behind))
pump-is =
    pump-of (sends_of growing_plan (sent_on growing_plan 0 true (nine ∷ []) behind)) most_taken few-sends
    (subst (All (λ (send : Send). length send.datagram ≤ longest_datagram)) (sym sends-are)
    (all-sends 0 its_turn.made (short-of its_turn.made (48 ∷ []) its-lengths (All-cons (λ size. size ≤ longest_datagram) 48 [] (lit≤ tt) (All-nil (λ size. size ≤ longest_datagram))))))

pub in-growing : TellingLaws → InSession growing_plan 0 0 0 0 growing_session
in-growing laws =
    delivered-session growing_plan 0 0 0 0 0 true (nine ∷ []) behind
    (appended-session growing_plan 0 0 0 0 0 new_field [] (opening-session growing_plan 0 0 0 0 (plan-is laws) matched-is) may-grow) may-close (λ index now sample none. absurd none) pump-is

row-of-nine : (index : ℕ) → row_in (meta_in growing_plan.full index).fields (slice_index_or (nine ∷ []) index no_sample).row.words ≡ nine_rows index (slice_index_or (nine ∷ []) index no_sample).version
unfolding growing_plan demo nine row_in statuses_in
row-of-nine zero = refl
row-of-nine (suc index) = refl

pub versions-growing : AreVersions growing_plan growing_session nine_rows
versions-growing index now sample (inl has) = subst (λ (s : Sampled). row_in (meta_in growing_plan.full index).fields s.row.words ≡ nine_rows index s.version) has.0 (row-of-nine index)
versions-growing index now sample (inr none) = absurd none

-- ---- the closing frame is held, cut

abbrev its_past : List GroupDeed
its_past = group_past growing_plan.config 0 (deeds_before growing_plan behind 0 true (nine ∷ []) 0)

abbrev its_own : WriterTurn
its_own = writer_turn (group_at growing_plan.config 0) (turn_input growing_plan behind 0 true (nine ∷ []) (deeds_before growing_plan behind 0 true (nine ∷ []) 0) 0).told 0

growing-got : ClosingGot growing_plan 0 0 0 0 growing_session its_past its_turn its_own
unfolding growing_plan telling_config telling_group telling_writer built_in_config built_in_group built_in_writer built_in_read_group built_in_reader
growing-got = record {
  numbered = refl;
  unsecured = refl;
  last = refl;
  start = sent_on growing_plan 0 true (nine ∷ []) behind;
  ends = record {
    took = refl;
    closing = refl;
    pumps = all_got growing_plan (sent_on growing_plan 0 true (nine ∷ []) behind) ∷ [];
    split = refl;
    operational = refl;
    enabled = refl;
  };
  came = λ datagram has part.
      inl (got-of (sends_of growing_plan (sent_on growing_plan 0 true (nine ∷ []) behind)) (record { group = 0; datagram = datagram })
      (subst (λ (l : List Send). Contains l (record { group = 0; datagram = datagram })) (sym sends-are) (sent-by 0 its_turn.made datagram has)));
}

pub growing-newest : TellingLaws → NewestLaw GotAll → IsNewestWhere GotAll growing_plan 0 0 growing_session nine_rows
growing-newest laws law = newest-where GotAll growing_plan 0 0 growing_session nine_rows its_own law (in-growing laws) versions-growing (its_past, its_turn, growing-got)

pub growing-held : TellingLaws → NewestLaw GotAll → (reader_at growing_plan.config 0 0 growing_session).kept.row ≡ Some small_row
unfolding growing_plan telling_config telling_group telling_writer built_in_config built_in_group built_in_writer built_in_read_group built_in_reader demo nine
growing-held laws law =
    (law growing_plan 0 0 0 0 growing_session nine_rows its_own (in-growing laws) versions-growing (its_past, its_turn, growing-got)).newest.row
