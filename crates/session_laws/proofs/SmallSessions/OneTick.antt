-- A closing tick of a signed group, a fixed one and one whose frames come in chunks, whichever read groups stand beside them, and a pump that gets all that it sends.
use Rattle.std.proofs.Common.{◌≡◌, refl, sym, ap, subst, arith, ℕ, zero, suc, ◌<◌, ◌≤◌, lit<, lit≤, ◌⊎◌, inl, inr, true, List, [], ◌∷◌, ◌++◌, length, map, All, Contains, Some}
use Rattle.std.specs.Prelude.{slice_index_or}
use Rattle.std.proofs.lemmas.List.Elements.{All-append, All-cons, All-nil, All-replicate, Contains-append_left, Contains-append_right}
use Rattle.dataset_meta.specs.Rows.{row_cut}
use Rattle.dataset_meta.specs.Metas.{IsMeta, MetaData}
use Rattle.row_words.specs.Belonging.{Belongs, cut_words, row_in, spelled_row, spelled_statuses, statuses_in}
use Rattle.row_words.specs.Words.{packed, unpacked}
use Rattle.uadp_header.specs.Spelling.{flags_bytes, group_bytes, header_bytes, header_len, security_bytes}
use Rattle.uadp_header.specs.Headers.{NoIds}
use Rattle.uadp_header.proofs.Lengths.{length-header}
use Rattle.frame_codec.specs.Spelling.{front_bytes, frame_bytes}
use Rattle.pubsub_model.specs.Cadence.{HadTurn, WriterTurn}
use Rattle.ua_base.specs.Journal.{Empty, Got}
use Rattle.message_guard.specs.Senders.{SenderState}
use Rattle.config_tables.specs.declared.publisher.Publisher.TheVariants.{U8}
use Rattle.config_tables.specs.declared.words.Layout.TheVariants as layouts
use Rattle.ps_config.specs.declared.parts.Config.{Config}
use Rattle.ps_config.specs.declared.parts.GroupPart.{GroupPart}
use Rattle.ps_config.specs.declared.parts.ReadGroupPart.{ReadGroupPart}
use Rattle.ps_config.specs.declared.parts.ReaderPart.{ReaderPart}
use Rattle.ps_config.specs.FixedSound.{IsFixedSound}
use Rattle.ps_config.specs.Headers.{mode_of}
use Rattle.ps_config.specs.Sound.{IsSound}
use Rattle.ps_config.specs.Types.{HasTypes}
use Rattle.writer_group.specs.declared.sampled.Sampled.{Sampled}
use Rattle.writer_group.specs.Parts.{group_at}
use Rattle.writer_group.specs.Payloads.{payloads_of}
use Rattle.writer_group.specs.Sealing.{Envelope, Payload, advanced_by, datagram_at, header_at}
use Rattle.writer_group.specs.Turns.{GroupDeed, GroupTurn, HadGroupTurn, envelope_of, frames_in, no_sample, took_by, writer_turn}
use Rattle.writer_group.proofs.DatagramSizes.{length-sent}
use Rattle.group_laws.specs.Matching.{IsMatchedTo, ReadsWriter}
use Rattle.group_laws.specs.Witness.{blob, cut_group, ones, read_group_of, signed_group, slotted_group, three_config, three_key, three_keys}
use Rattle.session_model.specs.Counts.{longest_datagram, most_taken}
use Rattle.session_model.specs.Deeds.{deeds, writer_deeds, group_past, has_turn, sender_after, turn_input, turn_of}
use Rattle.session_model.specs.Keeping.{IsPlan, MayCome}
use Rattle.session_model.specs.Sends.{IsPump, Send, sends_by, sends_of}
use Rattle.session_model.specs.Sets.{AreRowsOf, GrowTo, meta_in}
use Rattle.session_model.specs.Steps.{Plan, Step}
use Rattle.session_model.specs.Turns.{deeds_before}
use Rattle.session_laws.specs.Bare.{IsBare, NoOtherBehind}
use Rattle.session_laws.specs.Delivered.{all_done, all_got, delivered_on, sent_on}
use Rattle.session_laws.specs.Headline.{InSession, meta_of}
use Rattle.session_laws.specs.Newest.{CameIn, ClosesBefore, ClosesInTick}
use Rattle.session_laws.specs.Reading.{IsMatchedIn, arrivals_at, first_number_of}
use Rattle.session_laws.specs.Sessions.{AreVersions}
use Rattle.session_laws.specs.Witness.{three_rows}
use Rattle.session_laws.proofs.Closing.ClosingHeld.{ComesLaw}
use Rattle.session_laws.proofs.SmallSessions.Quiet.{quiet}
use Rattle.session_laws.proofs.HeldRows.Delivering.{delivered-session, opening-session, pump-of}

-- ---- datagrams of any length

abbrev pub IsShort : List ℕ → Type 0
IsShort datagram = length datagram ≤ longest_datagram

pub short-of : (xs : List (List ℕ)) (sizes : List ℕ) → map (λ (datagram : List ℕ). length datagram) xs ≡ sizes → All (λ size. size ≤ longest_datagram) sizes → All IsShort xs
short-of [] sizes e all = All-nil IsShort
short-of (x ∷ xs) [] e all = absurd (cc)
short-of (x ∷ xs) (size ∷ sizes) e all =
    let head : length x ≡ size = cc in
    let le = all 0 0 (omega arith) in
    All-cons IsShort x xs (omega (arith, head, le)) (short-of xs sizes (let tail : map (λ (datagram : List ℕ). length datagram) xs ≡ sizes = cc in tail) (λ k d below. all (suc k) d (omega (arith, below))))

pub all-sends : (g : ℕ) (xs : List (List ℕ)) → All IsShort xs → All (λ send. length send.datagram ≤ longest_datagram) (sends_by g xs)
all-sends g [] all = All-nil (λ (send : Send). length send.datagram ≤ longest_datagram)
all-sends g (x ∷ xs) all =
    All-cons (λ (send : Send). length send.datagram ≤ longest_datagram) (record { group = g; datagram = x }) (sends_by g xs) (all 0 x (omega arith)) (all-sends g xs (λ k d below. all (suc k) d (omega (arith, below))))

pub got-of : (sends : List Send) (send : Send) → Contains sends send → Contains (map (λ send. Got send.datagram) sends ++ Empty ∷ []) (Got send.datagram)
got-of [] send has = absurd (let below = has.1 in omega (arith, below))
got-of (x ∷ sends) send (zero, below, same) = (0, omega arith, ap (λ (s : Send). Got s.datagram) same)
got-of (x ∷ sends) send (suc k, below, same) = let rest = got-of sends send (k, omega (arith, below), same) in (suc rest.0, let lt = rest.1 in omega (arith, lt), rest.2)

pub sent-by : (g : ℕ) (xs : List (List ℕ)) (datagram : List ℕ) → Contains xs datagram → Contains (sends_by g xs) (record { group = g; datagram = datagram })
sent-by g [] datagram has = absurd (let below = has.1 in omega (arith, below))
sent-by g (x ∷ xs) datagram (zero, below, same) = (0, omega arith, ap (λ (d : List ℕ). record { group = g; datagram = d }) same)
sent-by g (x ∷ xs) datagram (suc k, below, same) = let rest = sent-by g xs datagram (k, omega (arith, below), same) in (suc rest.0, let lt = rest.1 in omega (arith, lt), rest.2)

-- ---- the row

ones-belong : Belongs blob ones.row.words
unfolding blob row_in statuses_in spelled_row spelled_statuses unpacked packed ones
ones-belong = record {
  whole = refl;
  row = (
    record {
      is_value = record { at_most_256 = lit≤ tt; in_range = All-replicate (λ (byte : ℕ). byte < 256) 120 1 (lit< tt) };
      fits = record { same_kind = refl; within = lit≤ tt };
      is_status = refl;
    },
    tt,
  );
  spelled = refl;
}

-- ---- a read group of a group, with one reader of its one writer

pub matched-to : (config : Config) (name : List ℕ) (id : ℕ) (group : GroupPart) (reader : ReaderPart) → U8 5 ≡ config.publisher.id → (id ≡ group.id) ⊎ ((id ≡ 0) × (group.layout ≡ layouts.Dynamic)) → ReadsWriter group 0 reader
    → IsMatchedTo config (read_group_of name id group.layout group.security group.keygroup reader) 0 group 0
matched-to config name id group reader publisher asks reads = record {
  groups = record { publisher = publisher; group_id = asks; version = inl refl; class_id = inl refl; layout = refl; security = refl; keygroup = refl };
  within = lit< tt;
  reads = reads;
}

-- ---- the groups beside these read groups

module _ (beside : List ReadGroupPart) where
  abbrev pub config : Config
  config = record three_config { readgroup = beside }

  abbrev pub plan : Plan
  plan = record { config = config; full = blob ∷ [] }

  -- the closing tick, and the pump behind it
  abbrev pub sent : List Step
  sent = sent_on plan 0 true (ones ∷ []) []

  abbrev pub session : List Step
  session = delivered_on plan 0 true (ones ∷ []) []

  grow-to : GrowTo config.dataset plan.full
  unfolding three_config blob
  grow-to = (record { fields = refl; quality = refl; major = refl }, tt)

  whole-metas : IsSound config → All (λ (meta : MetaData). IsMeta meta.fields) plan.full
  unfolding three_config
  whole-metas sound = sound.metas

  pub plan-is : IsSound config → IsFixedSound config → HasTypes config → IsPlan plan
  plan-is sound fixed types = record {
    good = record { sound = sound; fixed = fixed };
    types = types;
    fit = record { each = sound.metas; room = λ k d below. (sound.groups k d below).room };
    grow = grow-to;
    whole = whole-metas sound;
  }

  ones-rows : AreRowsOf plan.full (ones ∷ [])
  ones-rows = (ones-belong, tt)

  may-close : MayCome plan [] 0 true (ones ∷ [])
  may-close = record { rows = ones-rows; short = lit≤ tt; running = refl; left = λ is_open. absurd (cc); still = λ closing. refl }

  -- ---- what the closing tick sends

  abbrev pub turn_at : ℕ → GroupTurn
  turn_at g = turn_of plan [] 0 true (ones ∷ []) (deeds_before plan [] 0 true (ones ∷ []) g) g

  abbrev pub made : ℕ → List (List ℕ)
  made g = (turn_at g).made

  abbrev pub past_at : ℕ → List GroupDeed
  past_at g = group_past config g (deeds_before plan [] 0 true (ones ∷ []) g)

  abbrev pub own_at : ℕ → WriterTurn
  own_at g = writer_turn (group_at config g) (turn_input plan [] 0 true (ones ∷ []) (deeds_before plan [] 0 true (ones ∷ []) g) g).told 0

  pub three-sends : sends_of plan sent ≡ (sends_by 0 (made 0) ++ sends_by 1 (made 1)) ++ sends_by 2 (made 2)
  unfolding three_config signed_group slotted_group cut_group three_keys three_key
  three-sends = refl

  slotted-lengths : map (λ (datagram : List ℕ). length datagram) (made 1) ≡ 134 ∷ []
  unfolding three_config signed_group slotted_group cut_group three_keys three_key blob ones row_in statuses_in unpacked spelled_row spelled_statuses packed cut_words header_len header_bytes flags_bytes group_bytes security_bytes front_bytes frame_bytes
  slotted-lengths = refl

  cut-lengths : map (λ (datagram : List ℕ). length datagram) (made 2) ≡ 128 ∷ 52 ∷ []
  unfolding three_config signed_group slotted_group cut_group three_keys three_key blob ones row_in statuses_in unpacked spelled_row spelled_statuses packed cut_words header_len header_bytes flags_bytes group_bytes security_bytes front_bytes frame_bytes
  cut-lengths = refl

  -- the signed one
  abbrev pub its_sender : SenderState
  its_sender = sender_after config 0 (deeds_before plan [] 0 true (ones ∷ []) 0)

  abbrev pub its_envelope : Envelope
  its_envelope = envelope_of config (group_at config 0) (past_at 0)

  abbrev pub its_payloads : List Payload
  its_payloads =
      payloads_of config (group_at config 0) (frames_in (group_at config 0) (past_at 0) (turn_input plan [] 0 true (ones ∷ []) (deeds_before plan [] 0 true (ones ∷ []) 0) 0))

  abbrev pub its_payload : Payload
  its_payload = slice_index_or its_payloads 0 (NoIds, [])

  abbrev pub signed_datagram : List ℕ
  signed_datagram = datagram_at its_envelope (Some its_sender) 0 its_payload

  pub signed-made : made 0 ≡ signed_datagram ∷ []
  unfolding three_config signed_group slotted_group cut_group three_keys three_key blob ones row_in statuses_in unpacked spelled_row spelled_statuses packed cut_words header_len front_bytes frame_bytes
  signed-made = refl

  signed-header : header_len (header_at its_envelope (Some its_sender) 0 its_payload.0) ≡ 25
  unfolding three_config signed_group slotted_group cut_group three_keys three_key blob ones row_in statuses_in unpacked spelled_row spelled_statuses packed cut_words header_len front_bytes frame_bytes
  signed-header = refl

  signed-payload : length its_payload.1 ≡ 130
  unfolding three_config signed_group slotted_group cut_group three_keys three_key blob ones row_in statuses_in unpacked spelled_row spelled_statuses packed cut_words header_len front_bytes frame_bytes
  signed-payload = refl

  signed-short : IsShort signed_datagram
  unfolding three_config signed_group
  signed-short =
      let mode = mode_of its_envelope.settings.security in
      let header = header_at its_envelope (Some its_sender) 0 its_payload.0 in
      let long = length-sent mode (advanced_by mode its_sender 1) (header_bytes header) its_payload.1 in
      omega (arith, long, length-header header refl, signed-header, signed-payload)

  first-short : All IsShort (made 0)
  first-short = subst (All IsShort) (sym signed-made) (All-cons IsShort signed_datagram [] signed-short (All-nil IsShort))

  second-short : All IsShort (made 1)
  second-short = short-of (made 1) (134 ∷ []) slotted-lengths (All-cons (λ size. size ≤ longest_datagram) 134 [] (lit≤ tt) (All-nil (λ size. size ≤ longest_datagram)))

  third-short : All IsShort (made 2)
  third-short =
      short-of (made 2) (128 ∷ 52 ∷ []) cut-lengths
      (All-cons (λ size. size ≤ longest_datagram) 128 (52 ∷ []) (lit≤ tt) (All-cons (λ size. size ≤ longest_datagram) 52 [] (lit≤ tt) (All-nil (λ size. size ≤ longest_datagram))))

  pub all-short : All (λ send. length send.datagram ≤ longest_datagram) (sends_of plan sent)
  all-short =
      subst (All (λ (send : Send). length send.datagram ≤ longest_datagram)) (sym three-sends)
      (All-append (λ (send : Send). length send.datagram ≤ longest_datagram) (sends_by 0 (made 0) ++ sends_by 1 (made 1)) (sends_by 2 (made 2))
      (All-append (λ (send : Send). length send.datagram ≤ longest_datagram) (sends_by 0 (made 0)) (sends_by 1 (made 1)) (all-sends 0 (made 0) first-short) (all-sends 1 (made 1) second-short)) (all-sends 2 (made 2) third-short))

  -- one of the signed group, one of the fixed one, and two chunks
  pub four-sends : length (sends_of plan sent) ≡ 4
  unfolding three_config signed_group slotted_group cut_group three_keys three_key blob ones row_in statuses_in unpacked spelled_row spelled_statuses packed cut_words header_len front_bytes frame_bytes
  four-sends = refl

  pump-is : IsPump most_taken (all_got plan sent)
  pump-is = pump-of (sends_of plan sent) most_taken (subst (λ (n : ℕ). n < most_taken) (sym four-sends) (lit< tt)) all-short

  pub in-session : IsPlan plan → (r g : ℕ) → IsMatchedIn config r 0 g 0 → InSession plan r 0 g 0 session
  in-session is r g matched =
      delivered-session plan r 0 g 0 0 true (ones ∷ []) [] (opening-session plan r 0 g 0 is matched) may-close (λ index now sample none. absurd none) pump-is

  row-of-ones : (index : ℕ) → row_in (meta_in plan.full index).fields (slice_index_or (ones ∷ []) index no_sample).row.words ≡ three_rows index (slice_index_or (ones ∷ []) index no_sample).version
  unfolding row_in statuses_in
  row-of-ones zero = refl
  row-of-ones (suc index) = refl

  pub versions-are : AreVersions plan session three_rows
  versions-are index now sample (inl has) = subst (λ (s : Sampled). row_in (meta_in plan.full index).fields s.row.words ≡ three_rows index s.version) has.0 (row-of-ones index)
  versions-are index now sample (inr none) = absurd none

  -- ---- all of it comes

  -- the pump is the last step, behind the closing turn of a group
  abbrev pub closes : (r g : ℕ) → took_by 0 (turn_at g) ≡ Some (own_at g) → ClosesBefore plan r 0 0 session sent (turn_at g) (own_at g)
  closes r g took = record { took = took; closing = refl; pumps = all_got plan sent ∷ []; split = refl; operational = refl; enabled = refl }

  abbrev pub in_tick : (r g : ℕ) → has_turn plan [] 0 true (deeds_before plan [] 0 true (ones ∷ []) g) g ≡ true → took_by 0 (turn_at g) ≡ Some (own_at g) → ClosesInTick plan r 0 g 0 session (own_at g)
  in_tick r g had took = record { start = []; ms = 0; samples = ones ∷ []; done = all_done plan 0 true (ones ∷ []) []; had = had; ends = closes r g took }

  pub signed-had : has_turn plan [] 0 true (deeds_before plan [] 0 true (ones ∷ []) 0) 0 ≡ true
  unfolding three_config signed_group slotted_group cut_group three_keys three_key
  signed-had = refl

  pub signed-took : took_by 0 (turn_at 0) ≡ Some (own_at 0)
  unfolding three_config signed_group slotted_group cut_group three_keys three_key
  signed-took = refl

  pub slotted-had : has_turn plan [] 0 true (deeds_before plan [] 0 true (ones ∷ []) 1) 1 ≡ true
  unfolding three_config signed_group slotted_group cut_group three_keys three_key
  slotted-had = refl

  pub slotted-took : took_by 0 (turn_at 1) ≡ Some (own_at 1)
  unfolding three_config signed_group slotted_group cut_group three_keys three_key
  slotted-took = refl

  pub cut-had : has_turn plan [] 0 true (deeds_before plan [] 0 true (ones ∷ []) 2) 2 ≡ true
  unfolding three_config signed_group slotted_group cut_group three_keys three_key
  cut-had = refl

  pub cut-took : took_by 0 (turn_at 2) ≡ Some (own_at 2)
  unfolding three_config signed_group slotted_group cut_group three_keys three_key
  cut-took = refl

  -- the turn of a group is the last one
  pub signed-last : group_past config 0 (deeds plan session) ≡ HadGroupTurn (turn_at 0) ∷ past_at 0
  unfolding three_config signed_group slotted_group cut_group three_keys three_key
  signed-last = refl

  pub slotted-last : group_past config 1 (deeds plan session) ≡ HadGroupTurn (turn_at 1) ∷ past_at 1
  unfolding three_config signed_group slotted_group cut_group three_keys three_key
  slotted-last = refl

  pub cut-last : group_past config 2 (deeds plan session) ≡ HadGroupTurn (turn_at 2) ∷ past_at 2
  unfolding three_config signed_group slotted_group cut_group three_keys three_key
  cut-last = refl

  got-sent : (g : ℕ) (datagram : List ℕ) → Contains ((sends_by 0 (made 0) ++ sends_by 1 (made 1)) ++ sends_by 2 (made 2)) (record { group = g; datagram = datagram }) → CameIn (all_got plan sent ∷ []) datagram
  got-sent g datagram has =
      inl (got-of (sends_of plan sent) (record { group = g; datagram = datagram }) (subst (λ (l : List Send). Contains l (record { group = g; datagram = datagram })) (sym three-sends) has))

  pub signed-came : (datagram : List ℕ) → Contains (made 0) datagram → CameIn (all_got plan sent ∷ []) datagram
  signed-came datagram has =
      got-sent 0 datagram (Contains-append_left (sends_by 0 (made 0) ++ sends_by 1 (made 1)) (sends_by 2 (made 2)) (record { group = 0; datagram = datagram })
      (Contains-append_left (sends_by 0 (made 0)) (sends_by 1 (made 1)) (record { group = 0; datagram = datagram }) (sent-by 0 (made 0) datagram has)))

  pub slotted-came : (datagram : List ℕ) → Contains (made 1) datagram → CameIn (all_got plan sent ∷ []) datagram
  slotted-came datagram has =
      got-sent 1 datagram (Contains-append_left (sends_by 0 (made 0) ++ sends_by 1 (made 1)) (sends_by 2 (made 2)) (record { group = 1; datagram = datagram })
      (Contains-append_right (sends_by 0 (made 0)) (sends_by 1 (made 1)) (record { group = 1; datagram = datagram }) (sent-by 1 (made 1) datagram has)))

  pub cut-came : (datagram : List ℕ) → Contains (made 2) datagram → CameIn (all_got plan sent ∷ []) datagram
  cut-came datagram has =
      got-sent 2 datagram (Contains-append_right (sends_by 0 (made 0) ++ sends_by 1 (made 1)) (sends_by 2 (made 2)) (record { group = 2; datagram = datagram }) (sent-by 2 (made 2) datagram has))

  -- ---- nothing else comes

  pub signed-only : writer_deeds plan 0 0 session ≡ HadTurn (own_at 0) ∷ []
  unfolding three_config signed_group slotted_group cut_group three_keys three_key
  signed-only = refl

  pub slotted-only : writer_deeds plan 1 0 session ≡ HadTurn (own_at 1) ∷ []
  unfolding three_config signed_group slotted_group cut_group three_keys three_key
  slotted-only = refl

  pub cut-only : writer_deeds plan 2 0 session ≡ HadTurn (own_at 2) ∷ []
  unfolding three_config signed_group slotted_group cut_group three_keys three_key
  cut-only = refl

  -- at no moment another key frame has come to a reader with no numbering
  pub nothing-behind : ComesLaw → (r g : ℕ) → InSession plan r 0 g 0 session → IsBare plan r 0 → writer_deeds plan g 0 session ≡ HadTurn (own_at g) ∷ []
      → (here : List Step) → NoOtherBehind plan r 0 g 0 session here (row_cut (meta_of plan r 0) (own_at g).row)
  nothing-behind comes r g is bare only here newer same = quiet comes plan r 0 g 0 session (own_at g) is bare only newer (arrivals_at config r 0 (first_number_of config g 0) here) same
