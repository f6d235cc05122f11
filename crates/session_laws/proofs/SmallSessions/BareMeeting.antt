-- A session with secured read groups that name no group, and with readers that have no numbering, meets the premises of what is said of these.
use Rattle.std.proofs.Common.{◌≡◌, refl, sym, ap, ◌∙◌, subst, arith, ℕ, zero, suc, ◌<◌, lit<, lit≤, inl, inr, true, false, List, [], ◌∷◌, ◌++◌, length, map, All, Bool, Contains, Option, Some, None, Result, Ok}
use Rattle.std.specs.Prelude.{◌==◌, codes, slice_get, slice_index_or, if◌then◌else◌}
use Rattle.std.proofs.lemmas.Bool.Decides.{nat_tests}
use Rattle.std.specs.Fmt.{digits}
use Rattle.std.specs.Str.{is_utf8, chars}
use Rattle.std.proofs.lemmas.List.Elements.{All-cons, All-nil}
use Rattle.toml.proofs.OnLiterals.{toml_on_literals}
use Rattle.hex.proofs.OnLiterals.{hex_on_literals}
use Rattle.row_words.specs.Belonging.{cut_words, row_in, spelled_row, spelled_statuses, statuses_in}
use Rattle.row_words.specs.Words.{packed, unpacked}
use Rattle.uadp_header.specs.Spelling.{flags_bytes, group_bytes, header_bytes, header_len, security_bytes}
use Rattle.frame_codec.specs.Spelling.{front_bytes, frame_bytes}
use Rattle.ua_base.specs.Journal.{Entry, Empty, Got}
use Rattle.message_guard.specs.Modes.{is_secured}
use Rattle.message_guard.specs.Opening.{open_pass}
use Rattle.message_guard.specs.Protection.{keys_with}
use Rattle.message_guard.specs.declared.keys.TokenKeys.{TokenKeys}
use Rattle.dataset_meta.specs.DataValues.{DataValue}
use Rattle.config_tables.specs.declared.words.Layout.{Layout}
use Rattle.config_tables.specs.declared.words.Layout.TheVariants as layouts
use Rattle.config_tables.specs.declared.words.Security.{Security}
use Rattle.config_tables.specs.declared.words.Security.TheVariants as security
use Rattle.ps_config.specs.declared.parts.ReaderPart.{ReaderPart}
use Rattle.pubsub_model.specs.Cadence.{WriterTurn}
use Rattle.ps_config.specs.declared.parts.ReadGroupPart.{ReadGroupPart}
use Rattle.ps_config.specs.Configs.{config_of, data_set_of, group_of, key_group_of, key_of, publisher_part, read_group_of, reader_of, writer_of}
use Rattle.ps_config.specs.FixedSound.{IsFixedSound}
use Rattle.ps_config.specs.Reading.{configuration}
use Rattle.ps_config.specs.Refusals.{table_faults, stands}
use Rattle.ps_config.specs.Settings.{settings_at}
use Rattle.ps_config.specs.Sound.{IsSound}
use Rattle.ps_config.specs.Types.{HasReadGroupTypes, HasReaderTypes, HasTypes}
use Rattle.reader_group.specs.declared.refusal.Refusal.{Refusal}
use Rattle.reader_group.specs.Arrivals.{accepted}
use Rattle.reader_group.specs.Members.{seat_at}
use Rattle.reader_group.specs.Opening.{Opened, verdict}
use Rattle.reader_group.specs.Payloads.{Slots, pieces}
use Rattle.reader_group.specs.Settings.{group_at as read_group_at, keygroup_at, setting_of, token_keys}
use Rattle.writer_group.specs.Parts.{group_at}
use Rattle.writer_group.specs.Turns.{TurnInput}
use Rattle.group_laws.specs.Matching.{IsGroupTurn, IsSenderOf, MaySend}
use Rattle.group_laws.proofs.Allowed.{allowed-turn}
use Rattle.group_laws.specs.TurnItems.{IsUncut}
use Rattle.group_laws.specs.TurnOpened.{AreTakenAsSent, is_accepted, opened_at, turn_opened}
use Rattle.group_laws.specs.Witness.{blob, cut_group, ones, signed_group, slotted_group, three_config, three_key, three_keys, read_group_of as parts_of_readers, reader_of as reader_with}
use Rattle.session_model.specs.Deeds.{turn_input}
use Rattle.session_model.specs.Events.{events}
use Rattle.session_model.specs.Keeping.{IsPlan}
use Rattle.session_model.specs.Sends.{Send, sends_by}
use Rattle.session_model.specs.Steps.{Plan, Step, Pump}
use Rattle.session_model.specs.Turns.{deeds_before}
use Rattle.session_laws.specs.Bare.{CameQuietly, ClosingGotLast, ClosingGotSinceLast, ClosingTookLast, NoOtherBehind}
use Rattle.session_laws.specs.Delivered.{all_got}
use Rattle.session_laws.specs.Headline.{InSession}
use Rattle.session_laws.specs.Newest.{CameIn, ClosingTook, HasPartFor, HoldsClosingRow, NoHigherToken, TookIn}
use Rattle.session_laws.specs.Reading.{IsMatchedIn}
use Rattle.session_laws.specs.Sessions.{AreVersions}
use Rattle.session_laws.specs.Witness.{CameAlone, Coming, GotLast, IsHeldWhere, IsNewestWhere, any_readers, bare_any_readers, bare_config, bare_cut_readers, bare_plan, bare_reader_of, bare_session, bare_signed_readers, bare_slotted_readers, bare_text, chunks_config, chunks_plan, chunks_session, chunks_text, three_rows}
use Rattle.session_laws.proofs.HeldRows.KnownTokens.{known-token}
use Rattle.session_laws.proofs.SmallSessions.OneTick.{closes, config, cut-came, cut-had, cut-only, cut-took, in-session, in_tick, matched-to, its_envelope, its_payload, its_payloads, its_sender, made, nothing-behind, own_at, past_at, plan, plan-is, sent, session, signed-came, signed-had, signed-made, signed-only, signed-took, signed_datagram, slotted-came, slotted-had, slotted-last, slotted-only, slotted-took, three-sends, turn_at, versions-are}
use Rattle.session_laws.proofs.SmallSessions.Quiet.{came-last}
use Rattle.session_laws.proofs.SmallSessions.ThreeGroups.{NewestLaw, newest-where}
use Rattle.session_laws.proofs.Closing.ClosingHeld.{ComesLaw, ReadsLaw}

pub bare-is-read : configuration bare_text ≡ Ok bare_config
unfolding toml_on_literals hex_on_literals is_utf8 chars digits configuration table_faults stands config_of publisher_part data_set_of key_of key_group_of writer_of group_of reader_of read_group_of settings_at header_len blob three_key three_keys signed_group slotted_group cut_group any_readers bare_any_readers bare_signed_readers bare_slotted_readers three_config bare_config
bare-is-read = refl

-- what the laws below say of the configuration, and the law of what comes
pub record BareLaws : Type 0 where
  pub sound : IsSound bare_config
  pub fixed : IsFixedSound bare_config
  pub types : HasTypes bare_config
  pub taken : AreTakenAsSent bare_config
  pub comes : ComesLaw
  pub reads : ReadsLaw

pub readers-types : (name : List ℕ) (group : ℕ) (layout : Layout) (security : Security) (keygroup : Option ℕ) (reader : ReaderPart) → group < 65536 → HasReaderTypes reader → HasReadGroupTypes (parts_of_readers name group layout security keygroup reader)
readers-types name group layout security keygroup reader fits types = record {
  publisher = lit< tt;
  group_id = fits;
  version = lit< tt;
  class_id = tt;
  readers = All-cons HasReaderTypes reader [] types (All-nil HasReaderTypes);
}

any-types : HasReadGroupTypes any_readers
unfolding any_readers
any-types = readers-types (codes "rg1") 0 layouts.Dynamic security.Sign (Some 0) (reader_with (codes "r1") 1 0 0) (lit< tt) (record { writer = lit< tt; timeout = lit< tt; offset = lit< tt; size = lit< tt })

bare_any-types : HasReadGroupTypes bare_any_readers
unfolding bare_any_readers
bare_any-types = readers-types (codes "rg2") 0 layouts.Dynamic security.Sign (Some 0) (bare_reader_of (codes "r2") 1 0 0) (lit< tt) (record { writer = lit< tt; timeout = lit< tt; offset = lit< tt; size = lit< tt })

bare_signed-types : HasReadGroupTypes bare_signed_readers
unfolding bare_signed_readers
bare_signed-types = readers-types (codes "rg3") 1 layouts.Dynamic security.Sign (Some 0) (bare_reader_of (codes "r3") 1 0 0) (lit< tt) (record { writer = lit< tt; timeout = lit< tt; offset = lit< tt; size = lit< tt })

bare_slotted-types : HasReadGroupTypes bare_slotted_readers
unfolding bare_slotted_readers
bare_slotted-types = readers-types (codes "rg4") 2 layouts.Fixed security.None None (bare_reader_of (codes "r4") 2 7 127) (lit< tt) (record { writer = lit< tt; timeout = lit< tt; offset = lit< tt; size = lit< tt })

pub bare-types : HasTypes three_config → HasTypes bare_config
unfolding bare_config
bare-types types = record {
  publisher = types.publisher;
  port = types.port;
  metas = types.metas;
  keygroups = types.keygroups;
  groups = types.groups;
  readgroups = All-cons HasReadGroupTypes any_readers (bare_any_readers ∷ bare_signed_readers ∷ bare_slotted_readers ∷ []) any-types
      (All-cons HasReadGroupTypes bare_any_readers (bare_signed_readers ∷ bare_slotted_readers ∷ []) bare_any-types
      (All-cons HasReadGroupTypes bare_signed_readers (bare_slotted_readers ∷ []) bare_signed-types
      (All-cons HasReadGroupTypes bare_slotted_readers [] bare_slotted-types (All-nil HasReadGroupTypes))));
}

-- ---- the session

abbrev beside : List ReadGroupPart
beside = any_readers ∷ bare_any_readers ∷ bare_signed_readers ∷ bare_slotted_readers ∷ []

abbrev its : Plan
its = plan beside

its-plan : BareLaws → IsPlan its
unfolding bare_config
its-plan laws = plan-is beside laws.sound laws.fixed laws.types

any-matched : IsMatchedIn its.config 0 0 0 0
unfolding three_config signed_group any_readers
any-matched = matched-to (config beside) (codes "rg1") 0 signed_group (reader_with (codes "r1") 1 0 0) refl (inr (refl, refl)) (record { within = lit< tt; id = refl; dataset = refl; offset = λ fixed. refl; size = λ fixed. refl })

bare_any-matched : IsMatchedIn its.config 1 0 0 0
unfolding three_config signed_group bare_any_readers
bare_any-matched = matched-to (config beside) (codes "rg2") 0 signed_group (bare_reader_of (codes "r2") 1 0 0) refl (inr (refl, refl)) (record { within = lit< tt; id = refl; dataset = refl; offset = λ fixed. refl; size = λ fixed. refl })

bare_signed-matched : IsMatchedIn its.config 2 0 0 0
unfolding three_config signed_group bare_signed_readers
bare_signed-matched = matched-to (config beside) (codes "rg3") 1 signed_group (bare_reader_of (codes "r3") 1 0 0) refl (inl refl) (record { within = lit< tt; id = refl; dataset = refl; offset = λ fixed. refl; size = λ fixed. refl })

bare_slotted-matched : IsMatchedIn its.config 3 0 1 0
unfolding three_config slotted_group bare_slotted_readers
bare_slotted-matched = matched-to (config beside) (codes "rg4") 2 slotted_group (bare_reader_of (codes "r4") 2 7 127) refl (inl refl) (record { within = lit< tt; id = refl; dataset = refl; offset = λ fixed. refl; size = λ fixed. refl })

in-bare : BareLaws → (r g : ℕ) → IsMatchedIn its.config r 0 g 0 → InSession its r 0 g 0 (session beside)
in-bare laws r g matched = in-session beside (its-plan laws) r g matched

in-any : BareLaws → InSession its 0 0 0 0 (session beside)
in-any laws = in-bare laws 0 0 any-matched

in-bare_any : BareLaws → InSession its 1 0 0 0 (session beside)
in-bare_any laws = in-bare laws 1 0 bare_any-matched

in-bare_signed : BareLaws → InSession its 2 0 0 0 (session beside)
in-bare_signed laws = in-bare laws 2 0 bare_signed-matched

in-bare_slotted : BareLaws → InSession its 3 0 1 0 (session beside)
in-bare_slotted laws = in-bare laws 3 1 bare_slotted-matched

-- ---- the fixed group

abbrev slotted_input : TurnInput
slotted_input = turn_input its [] 0 true (ones ∷ []) (deeds_before its [] 0 true (ones ∷ []) 1) 1

abbrev slotted_datagram : List ℕ
slotted_datagram = slice_index_or (made beside 1) 0 []

abbrev slotted_opened : Opened
slotted_opened = slice_index_or (turn_opened its.config (group_at its.config 1) (past_at beside 1) slotted_input) 0 (record { pass = open_pass []; payload = Slots [] })

slotted-made : made beside 1 ≡ slotted_datagram ∷ []
unfolding three_config signed_group slotted_group cut_group three_keys three_key blob ones row_in statuses_in unpacked spelled_row spelled_statuses packed cut_words header_len front_bytes frame_bytes
slotted-made = refl

slotted-opens : slice_get (turn_opened its.config (group_at its.config 1) (past_at beside 1) slotted_input) 0 ≡ Some slotted_opened
unfolding three_config signed_group slotted_group cut_group three_keys three_key blob ones row_in statuses_in unpacked spelled_row spelled_statuses packed cut_words header_len front_bytes frame_bytes
slotted-opens = refl

slotted-pieces : All IsUncut (pieces (seat_at (setting_of its.config 3).seats 0).part slotted_opened.payload)
unfolding three_config signed_group slotted_group cut_group three_keys three_key bare_slotted_readers blob ones row_in statuses_in unpacked spelled_row spelled_statuses packed cut_words header_len header_bytes flags_bytes group_bytes security_bytes front_bytes frame_bytes
slotted-pieces = All-cons IsUncut _ [] tt (All-nil IsUncut)

pub only-one : {X : Type 0} (x y : X) → Contains (x ∷ []) y → x ≡ y
only-one x y (zero, below, same) = same
only-one x y (suc k, below, same) = absurd (omega (arith, below))

slotted-turn : BareLaws → IsGroupTurn its.config (group_at its.config 1) (past_at beside 1) slotted_input
unfolding bare_config three_config slotted_group
slotted-turn laws = allowed-turn its.config (group_at its.config 1) (past_at beside 1) slotted_input (record { sound = laws.sound; types = laws.types; group_is = (1, lit< tt, refl); on = lit≤ tt; sender = refl })

slotted-verdict : BareLaws → verdict (setting_of its.config 3).group (setting_of its.config 3).setup [] slotted_datagram ≡ Ok slotted_opened
unfolding bare_config three_config slotted_group bare_slotted_readers
slotted-verdict laws =
    (laws.taken (group_at its.config 1) bare_slotted_readers (past_at beside 1) slotted_input [] 0 slotted_datagram slotted_opened (slotted-turn laws) bare_slotted-matched.groups
    (ap (λ (xs : List (List ℕ)). slice_get xs 0) slotted-made) slotted-opens).taken refl

pub ok-same : (one other : Opened) → Path (Result Opened Refusal) (Ok one) (Ok other) → one ≡ other
ok-same one other e = cc

slotted-whole : BareLaws → (datagram : List ℕ) → Contains (made beside 1) datagram → (part : HasPartFor (setting_of its.config 3) 0 datagram) → All IsUncut (pieces (seat_at (setting_of its.config 3).seats 0).part part.opened.payload)
slotted-whole laws datagram has part =
    let setting = setting_of its.config 3 in
    let datagram_is : slotted_datagram ≡ datagram = only-one slotted_datagram datagram (subst (λ (xs : List (List ℕ)). Contains xs datagram) slotted-made has) in
    let opens : verdict setting.group setting.setup [] datagram ≡ Ok slotted_opened = subst (λ (d : List ℕ). verdict setting.group setting.setup [] d ≡ Ok slotted_opened) datagram_is (slotted-verdict laws) in
    let same : slotted_opened ≡ part.opened = ok-same slotted_opened part.opened (sym opens ∙ part.opens) in
    subst (λ (o : Opened). All IsUncut (pieces (seat_at setting.seats 0).part o.payload)) same slotted-pieces

-- a moment at which it comes
moment-of : (entries : List Entry) (datagram : List ℕ) → Contains entries (Got datagram) → (first : List Entry) × (behind : List Entry) × (entries ≡ first ++ Got datagram ∷ behind)
moment-of [] datagram has = absurd (let below = has.1 in omega (arith, below))
moment-of (entry ∷ entries) datagram (zero, below, same) = ([], entries, ap (λ (e : Entry). e ∷ entries) same)
moment-of (entry ∷ entries) datagram (suc k, below, same) = let rest = moment-of entries datagram (k, omega (arith, below), same) in (entry ∷ rest.0, rest.1, ap (λ (l : List Entry). entry ∷ l) rest.2)

came-quietly : {p : Plan} {r i g w : ℕ} {entries : List Entry} {start : List Step} {row : List DataValue} {datagram : List ℕ} → CameIn (entries ∷ []) datagram
    → ((here : List Step) → NoOtherBehind p r i g w (Pump entries ∷ start) here row) → CameQuietly p r i g w (entries ∷ []) start row datagram
came-quietly {p} {r} {i} {g} {w} {entries} {start} {row} {datagram} (inl has) none =
    let at = moment-of entries datagram has in
    record { later = []; before = []; first = at.0; behind = at.1; is = ap (λ (l : List Entry). l ∷ []) at.2; quiet = none (Pump (at.0 ++ Got datagram ∷ []) ∷ start) }
came-quietly (inr none_came) none = absurd none_came

slotted-got : BareLaws → ClosingGotLast its 3 0 1 0 (session beside) (past_at beside 1) (turn_at beside 1) (own_at beside 1)
unfolding three_config bare_slotted_readers
slotted-got laws = record {
  bare = refl;
  unsecured = refl;
  last = slotted-last beside;
  start = sent beside;
  ends = closes beside 3 1 (slotted-took beside);
  whole = slotted-whole laws;
  came = λ datagram has part. came-quietly (slotted-came beside datagram has) (nothing-behind beside laws.comes 3 1 (in-bare_slotted laws) refl (slotted-only beside));
}

slotted-since : BareLaws → ClosingGotSinceLast its 3 0 1 0 (session beside) (own_at beside 1)
unfolding three_config bare_slotted_readers
slotted-since laws = record {
  bare = refl;
  unsecured_or_named = inl refl;
  tick = in_tick beside 3 1 (slotted-had beside) (slotted-took beside);
  came = λ datagram has part. slotted-came beside datagram has;
  quiet = λ later before first behind split all_came. nothing-behind beside laws.comes 3 1 (in-bare_slotted laws) refl (slotted-only beside) (Pump first ∷ map Pump before ++ sent beside);
}

-- ---- the signed group

abbrev all : List Entry
all = all_got its (sent beside)

abbrev signed_input : TurnInput
signed_input = turn_input its [] 0 true (ones ∷ []) (deeds_before its [] 0 true (ones ∷ []) 0) 0

abbrev signed_opened : Opened
signed_opened = opened_at layouts.Dynamic (its_envelope beside) (Some (its_sender beside)) 0 (its_payload beside)

signed-opens : turn_opened its.config (group_at its.config 0) (past_at beside 0) signed_input ≡ signed_opened ∷ []
unfolding three_config signed_group slotted_group cut_group three_keys three_key blob ones row_in statuses_in unpacked spelled_row spelled_statuses packed cut_words header_len front_bytes frame_bytes
signed-opens = refl

one-payload : length (its_payloads beside) ≡ 1
unfolding three_config signed_group slotted_group cut_group three_keys three_key blob ones row_in statuses_in unpacked spelled_row spelled_statuses packed cut_words header_len front_bytes frame_bytes
one-payload = refl

sender-is : IsSenderOf (keygroup_at its.config 0) (its_sender beside)
unfolding three_config signed_group slotted_group cut_group three_keys three_key
sender-is = record { sender_is = record { random = refl; used = lit< tt }; keys = refl; first_block = refl }

may-send : MaySend its.config (group_at its.config 0) 1 signed_input.sender
unfolding three_config signed_group slotted_group cut_group three_keys three_key
may-send = (refl, lit< tt, sender-is)

signed-turn : BareLaws → IsGroupTurn its.config (group_at its.config 0) (past_at beside 0) signed_input
unfolding bare_config three_config signed_group
signed-turn laws =
    allowed-turn its.config (group_at its.config 0) (past_at beside 0) signed_input (record {
      sound = laws.sound;
      types = laws.types;
      group_is = (0, lit< tt, refl);
      on = lit≤ tt;
      sender = subst (λ (n : ℕ). MaySend its.config (group_at its.config 0) n signed_input.sender) (sym one-payload) may-send;
    })

-- a read group of the ring that accepted nothing yet takes it
opens-first : BareLaws → (r : ℕ) → IsMatchedIn its.config r 0 0 0 → is_accepted (setting_of its.config r).setup [] signed_opened.pass ≡ true
    → verdict (setting_of its.config r).group (setting_of its.config r).setup [] (signed_datagram beside) ≡ Ok signed_opened
unfolding bare_config
opens-first laws r matched accepts =
    (laws.taken (group_at its.config 0) (read_group_at its.config r) (past_at beside 0) signed_input [] 0 (signed_datagram beside) signed_opened (signed-turn laws) matched.groups
    (ap (λ (xs : List (List ℕ)). slice_get xs 0) (signed-made beside)) (ap (λ (xs : List Opened). slice_get xs 0) signed-opens)).taken accepts

abbrev rest : List Entry
rest = map (λ (send : Send). Got send.datagram) (sends_by 1 (made beside 1) ++ sends_by 2 (made beside 2)) ++ Empty ∷ []

-- it is the first that the pump gets
comes-first : all ≡ Got (signed_datagram beside) ∷ rest
comes-first =
    ap (λ (sends : List Send). map (λ (send : Send). Got send.datagram) sends ++ Empty ∷ [])
    (three-sends beside ∙ ap (λ (xs : List (List ℕ)). (sends_by 0 xs ++ sends_by 1 (made beside 1)) ++ sends_by 2 (made beside 2)) (signed-made beside))

took-first : BareLaws → (r : ℕ) → IsMatchedIn its.config r 0 0 0 → is_accepted (setting_of its.config r).setup [] signed_opened.pass ≡ true → (datagram : List ℕ) → Contains (made beside 0) datagram → TookIn its r (all ∷ []) (sent beside) datagram
took-first laws r matched accepts datagram has =
    subst (TookIn its r (all ∷ []) (sent beside)) (only-one (signed_datagram beside) datagram (subst (λ (xs : List (List ℕ)). Contains xs datagram) (signed-made beside) has)) (record {
      later = [];
      before = [];
      earlier = [];
      behind = rest;
      is = ap (λ (entries : List Entry). entries ∷ []) comes-first;
      opened = signed_opened;
      opens = opens-first laws r matched accepts;
    })

-- all keys have one token
one-token : (k : TokenKeys) (token : ℕ) (signer : TokenKeys) → keys_with (k ∷ []) token ≡ Some signer → token ≡ k.token
one-token k token signer e = on (k.token == token) refl e
  where
    on : (b : Bool) → (k.token == token) ≡ b → (if b then Some k else None) ≡ Some signer → token ≡ k.token
    on true test e = grind (arith, nat_tests, test)
    on false test e = absurd (cc)

token-is : (token_keys three_key).token ≡ 1
unfolding three_key
token-is = refl

signed-token : signed_opened.pass.token ≡ 1
unfolding three_config signed_group slotted_group cut_group three_keys three_key
signed-token = refl

none-higher : (r : ℕ) → is_secured (setting_of its.config r).setup.mode ≡ true → (setting_of its.config r).setup.keys ≡ token_keys three_key ∷ [] → NoHigherToken (in_tick beside r 0 (signed-had beside) (signed-took beside))
none-higher r secured keys datagram it one has =
    let setting = setting_of its.config r in
    let known = known-token setting.group setting.setup (accepted setting (events its.config r (Pump it.earlier ∷ map Pump it.before ++ sent beside))) datagram it.opened it.opens secured in
    let token : it.opened.pass.token ≡ 1 = one-token (token_keys three_key) it.opened.pass.token known.signer (sym (ap (λ (k : List TokenKeys). keys_with k it.opened.pass.token) keys) ∙ known.known) ∙ token-is in
    let own : signed_opened ≡ one = only-one signed_opened one (subst (λ (l : List Opened). Contains l one) signed-opens has) in
    let one_token : one.pass.token ≡ 1 = sym (ap (λ (o : Opened). o.pass.token) own) ∙ signed-token in
    omega (arith, token, one_token)

any-took : BareLaws → ClosingTook its 0 0 0 0 (session beside) (own_at beside 0)
unfolding three_config signed_group slotted_group cut_group three_keys three_key any_readers
any-took laws = record {
  numbered = refl;
  secured = refl;
  tick = in_tick beside 0 0 (signed-had beside) (signed-took beside);
  came = λ datagram has part. took-first laws 0 any-matched refl datagram has;
  tokens = none-higher 0 refl refl;
}

bare-took : BareLaws → ClosingTookLast its 1 0 0 0 (session beside) (own_at beside 0)
unfolding three_config signed_group slotted_group cut_group three_keys three_key bare_any_readers
bare-took laws = record {
  bare = refl;
  secured = refl;
  tick = in_tick beside 1 0 (signed-had beside) (signed-took beside);
  took = λ datagram has part. took-first laws 1 bare_any-matched refl datagram has;
  tokens = none-higher 1 refl refl;
  quiet = λ later before first behind split all_took. nothing-behind beside laws.comes 1 0 (in-bare_any laws) refl (signed-only beside) (Pump first ∷ map Pump before ++ sent beside);
}

signed-got : BareLaws → ClosingGotSinceLast its 2 0 0 0 (session beside) (own_at beside 0)
unfolding three_config signed_group bare_signed_readers
signed-got laws = record {
  bare = refl;
  unsecured_or_named = inr (λ (e : 1 ≡ 0). absurd (omega (arith, e)));
  tick = in_tick beside 2 0 (signed-had beside) (signed-took beside);
  came = λ datagram has part. signed-came beside datagram has;
  quiet = λ later before first behind split all_came. nothing-behind beside laws.comes 2 0 (in-bare_signed laws) refl (signed-only beside) (Pump first ∷ map Pump before ++ sent beside);
}

-- ---- so each reader holds the closing row

-- what a clause of the law says of a closing turn that came so
abbrev pub HeldLaw : Coming → Type 0
HeldLaw Came =
    (p : Plan) (r i g w : ℕ) (steps : List Step) (rows : ℕ → ℕ → List DataValue) (own : WriterTurn) → InSession p r i g w steps → AreVersions p steps rows → Came p r i g w steps own
    → HoldsClosingRow p r i g w steps rows own.version

pub any-newest : BareLaws → NewestLaw ClosingTook → IsNewestWhere ClosingTook bare_plan 0 0 bare_session three_rows
unfolding bare_plan bare_config
any-newest laws law = newest-where ClosingTook its 0 0 (session beside) three_rows (own_at beside 0) law (in-any laws) (versions-are beside) (any-took laws)

pub bare_any-held : BareLaws → HeldLaw ClosingTookLast → IsHeldWhere ClosingTookLast bare_plan 1 0 bare_session three_rows
unfolding bare_plan bare_config
bare_any-held laws law =
    let is = in-bare_any laws in
    let came = bare-took laws in
    record { session = is; versions = versions-are beside; own = own_at beside 0; came = came; held = law its 1 0 0 0 (session beside) three_rows (own_at beside 0) is (versions-are beside) came }

pub bare_signed-held : BareLaws → HeldLaw ClosingGotSinceLast → IsHeldWhere ClosingGotSinceLast bare_plan 2 0 bare_session three_rows
unfolding bare_plan bare_config
bare_signed-held laws law =
    let is = in-bare_signed laws in
    let came = signed-got laws in
    record { session = is; versions = versions-are beside; own = own_at beside 0; came = came; held = law its 2 0 0 0 (session beside) three_rows (own_at beside 0) is (versions-are beside) came }

pub bare_slotted-held : BareLaws → HeldLaw GotLast → IsHeldWhere GotLast bare_plan 3 1 bare_session three_rows
unfolding bare_plan bare_config
bare_slotted-held laws law =
    let is = in-bare_slotted laws in
    let came : GotLast its 3 0 1 0 (session beside) (own_at beside 1) = (past_at beside 1, turn_at beside 1, slotted-got laws) in
    record { session = is; versions = versions-are beside; own = own_at beside 1; came = came; held = law its 3 0 1 0 (session beside) three_rows (own_at beside 1) is (versions-are beside) came }

pub slotted-since-held : BareLaws → HeldLaw ClosingGotSinceLast → IsHeldWhere ClosingGotSinceLast bare_plan 3 1 bare_session three_rows
unfolding bare_plan bare_config
slotted-since-held laws law =
    let is = in-bare_slotted laws in
    let came = slotted-since laws in
    record { session = is; versions = versions-are beside; own = own_at beside 1; came = came; held = law its 3 0 1 0 (session beside) three_rows (own_at beside 1) is (versions-are beside) came }

-- the frame came, since the reader holds its row
pub slotted-came-held : BareLaws → HeldLaw GotLast → IsHeldWhere CameAlone bare_plan 3 1 bare_session three_rows
unfolding bare_plan bare_config three_config slotted_group bare_slotted_readers
slotted-came-held laws law =
    let is = in-bare_slotted laws in
    let held = law its 3 0 1 0 (session beside) three_rows (own_at beside 1) is (versions-are beside) (past_at beside 1, turn_at beside 1, slotted-got laws) in
    record {
      session = is;
      versions = versions-are beside;
      own = own_at beside 1;
      came = came-last laws.comes its 3 0 1 0 (session beside) (own_at beside 1) is refl (slotted-only beside) laws.reads refl _ held.row;
      held = held;
    }

-- ---- the group whose frames come in chunks

pub chunks-are-read : configuration chunks_text ≡ Ok chunks_config
unfolding toml_on_literals hex_on_literals is_utf8 chars digits configuration table_faults stands config_of publisher_part data_set_of key_of key_group_of writer_of group_of reader_of read_group_of settings_at header_len blob three_key three_keys signed_group slotted_group cut_group bare_cut_readers three_config chunks_config
chunks-are-read = refl

pub record ChunksLaws : Type 0 where
  pub sound : IsSound chunks_config
  pub fixed : IsFixedSound chunks_config
  pub types : HasTypes chunks_config
  pub comes : ComesLaw

bare_cut-types : HasReadGroupTypes bare_cut_readers
unfolding bare_cut_readers
bare_cut-types = readers-types (codes "rg1") 3 layouts.Dynamic security.None None (bare_reader_of (codes "r1") 3 0 0) (lit< tt) (record { writer = lit< tt; timeout = lit< tt; offset = lit< tt; size = lit< tt })

pub chunks-types : HasTypes three_config → HasTypes chunks_config
unfolding chunks_config
chunks-types types = record {
  publisher = types.publisher;
  port = types.port;
  metas = types.metas;
  keygroups = types.keygroups;
  groups = types.groups;
  readgroups = All-cons HasReadGroupTypes bare_cut_readers [] bare_cut-types (All-nil HasReadGroupTypes);
}

abbrev lone : List ReadGroupPart
lone = bare_cut_readers ∷ []

bare_cut-matched : IsMatchedIn (config lone) 0 0 2 0
unfolding three_config cut_group bare_cut_readers
bare_cut-matched = matched-to (config lone) (codes "rg1") 3 cut_group (bare_reader_of (codes "r1") 3 0 0) refl (inl refl) (record { within = lit< tt; id = refl; dataset = refl; offset = λ fixed. refl; size = λ fixed. refl })

in-chunks : ChunksLaws → InSession (plan lone) 0 0 2 0 (session lone)
unfolding chunks_config
in-chunks laws = in-session lone (plan-is lone laws.sound laws.fixed laws.types) 0 2 bare_cut-matched

chunks-got : ChunksLaws → ClosingGotSinceLast (plan lone) 0 0 2 0 (session lone) (own_at lone 2)
unfolding three_config bare_cut_readers
chunks-got laws = record {
  bare = refl;
  unsecured_or_named = inl refl;
  tick = in_tick lone 0 2 (cut-had lone) (cut-took lone);
  came = λ datagram has part. cut-came lone datagram has;
  quiet = λ later before first behind split all_came. nothing-behind lone laws.comes 0 2 (in-chunks laws) refl (cut-only lone) (Pump first ∷ map Pump before ++ sent lone);
}

pub chunks-held : ChunksLaws → HeldLaw ClosingGotSinceLast → IsHeldWhere ClosingGotSinceLast chunks_plan 0 2 chunks_session three_rows
unfolding chunks_plan chunks_config
chunks-held laws law =
    let is = in-chunks laws in
    let came = chunks-got laws in
    record { session = is; versions = versions-are lone; own = own_at lone 2; came = came; held = law (plan lone) 0 0 2 0 (session lone) three_rows (own_at lone 2) is (versions-are lone) came }
