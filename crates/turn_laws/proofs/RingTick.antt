-- A life whose second tick is under a token that a ring brought meets the premises of the laws of lives.
use Rattle.std.proofs.Common.{◌≡◌, refl, sym, ap, ◌∙◌, subst, arith, ℕ, ◌+◌, ◌<◌, ◌≤◌, ◌^◌, lit<, lit≤, Bool, true, false, List, [], ◌∷◌, ◌++◌, length, map, Some, All, inl, inr}
use Rattle.std.specs.Prelude.{slice_index_or}
use Rattle.std.proofs.lemmas.List.{length-append, length-map}
use Rattle.std.proofs.lemmas.List.Elements.{All-append, All-cons, All-nil, Contains-append_right}
use Rattle.ua_base.specs.Journal.{Entry, Sent, Got, Empty}
use Rattle.uadp_header.specs.Headers.{NoIds}
use Rattle.uadp_header.specs.Spelling.{flags_bytes, group_bytes, header_bytes, header_len, security_bytes}
use Rattle.uadp_header.proofs.Lengths.{length-header}
use Rattle.frame_codec.specs.Spelling.{frame_bytes, front_bytes}
use Rattle.row_words.specs.Belonging.{cut_words, row_in, spelled_row, spelled_statuses, statuses_in}
use Rattle.row_words.specs.Words.{packed, unpacked}
use Rattle.dataset_meta.specs.Metas.{MetaData}
use Rattle.group_keys.specs.declared.key_set.KeySet.{KeySet}
use Rattle.message_guard.specs.declared.keys.TokenKeys.{TokenKeys}
use Rattle.message_guard.specs.Senders.{SenderState}
use Rattle.ps_config.specs.Headers.{mode_of}
use Rattle.ps_config.specs.Rings.{key_set}
use Rattle.reader_group.specs.Signed.{TakesSignedAlone}
use Rattle.writer_group.specs.declared.sampled.Sampled.{Sampled}
use Rattle.writer_group.specs.Parts.{group_at}
use Rattle.writer_group.specs.Payloads.{payloads_of}
use Rattle.writer_group.specs.Sealing.{Envelope, Payload, advanced_by, datagram_at, header_at}
use Rattle.writer_group.specs.Turns.{GroupDeed, envelope_of, frames_in, no_sample}
use Rattle.writer_group.proofs.DatagramSizes.{length-sent}
use Rattle.group_laws.specs.Witness.{blob, cut_group, ones, signed_group, slotted_group, three_config, three_key, three_keys}
use Rattle.session_model.specs.Counts.{longest_datagram, most_taken, most_ticks}
use Rattle.session_model.specs.Deeds.{Deed, group_past, is_rekeyed, sender_after, turn_input, turn_of}
use Rattle.session_model.specs.Keeping.{AreStepsOf, MayComeOf}
use Rattle.session_model.specs.Lives.{IsRunIn, Lived, Renewed, TurnsHoldIn, account_in, steps_in}
use Rattle.session_model.specs.Sends.{IsPump, Send, send_entries, sends_by}
use Rattle.session_model.specs.Sets.{AreRowsOf}
use Rattle.session_model.specs.Steps.{moment_of}
use Rattle.session_model.specs.Turns.{deeds_till}
use Rattle.session_laws.specs.Headline.{InSession}
use Rattle.session_laws.specs.Renewals.{HasShortTokens, HaveShortTokens}
use Rattle.session_laws.specs.Sessions.{AreVersions, HasSample, SamplesRise}
use Rattle.session_laws.specs.Witness.{three_plan, three_rows, three_session}
use Rattle.session_laws.proofs.HeldRows.Delivering.{pump-of}
use Rattle.session_laws.proofs.SmallSessions.OneTick.{IsShort, all-sends, short-of}
use Rattle.turn_laws.specs.Anew.{IsRekeyedBy, keyed_turns_in}
use Rattle.turn_laws.specs.Lives.{AreSentIfSigned, IsHonestIn, IsSignedLife, later_ring, later_set, renewed_tick_life, ringed_life, one_tick_life, sends_behind, tick_behind}
use Rattle.turn_laws.proofs.Honest.{done, got-sent, three-fit, three-keyed, three-named, three-numbered, three-secured}
use Rattle.turn_laws.proofs.LifeRecords.{honest-takes-in}

-- ---- what a tick sends

module _ (before : List Lived) (ms : ℕ) (closing : Bool) where
  abbrev now : ℕ
  now = moment_of (steps_in before) + ms

  abbrev till : ℕ → List Deed
  till g = deeds_till three_plan (steps_in before) now closing (ones ∷ []) (account_in three_plan before).deeds g

  abbrev made : ℕ → List (List ℕ)
  made g = (turn_of three_plan (steps_in before) now closing (ones ∷ []) (till g) g).made

  abbrev sends : List Send
  sends = sends_behind three_plan ms closing (ones ∷ []) before

  -- the signed group's
  abbrev past : List GroupDeed
  past = group_past three_plan.config 0 (till 0)

  abbrev its_sender : SenderState
  its_sender = sender_after three_plan.config 0 (till 0)

  abbrev its_envelope : Envelope
  its_envelope = envelope_of three_plan.config (group_at three_plan.config 0) past

  abbrev its_payload : Payload
  its_payload =
      slice_index_or (payloads_of three_plan.config (group_at three_plan.config 0) (frames_in (group_at three_plan.config 0) past (turn_input three_plan (steps_in before) now closing (ones ∷ []) (till 0) 0))) 0 (NoIds, [])

  abbrev signed_datagram : List ℕ
  signed_datagram = datagram_at its_envelope (Some its_sender) 0 its_payload

  -- a datagram of the signed group, one of the fixed one, and two chunks
  record SendsFour : Type 0 where
    are : sends ≡ (sends_by 0 (made 0) ++ sends_by 1 (made 1)) ++ sends_by 2 (made 2)
    first : made 0 ≡ signed_datagram ∷ []
    header : header_len (header_at its_envelope (Some its_sender) 0 its_payload.0) ≡ 25
    payload : length its_payload.1 ≡ 130
    second : map (λ (datagram : List ℕ). length datagram) (made 1) ≡ 134 ∷ []
    third : map (λ (datagram : List ℕ). length datagram) (made 2) ≡ 128 ∷ 52 ∷ []

  module _ (four : SendsFour) where
    signed-short : IsShort signed_datagram
    unfolding three_plan three_config signed_group
    signed-short =
        let mode = mode_of its_envelope.settings.security in
        let header = header_at its_envelope (Some its_sender) 0 its_payload.0 in
        let long = length-sent mode (advanced_by mode its_sender 1) (header_bytes header) its_payload.1 in
        omega (arith, long, length-header header refl, four.header, four.payload)

    first-short : All IsShort (made 0)
    first-short = subst (All IsShort) (sym four.first) (All-cons IsShort signed_datagram [] signed-short (All-nil IsShort))

    second-short : All IsShort (made 1)
    second-short = short-of (made 1) (134 ∷ []) four.second (All-cons (λ (size : ℕ). size ≤ longest_datagram) 134 [] (lit≤ tt) (All-nil (λ (size : ℕ). size ≤ longest_datagram)))

    third-short : All IsShort (made 2)
    third-short =
        short-of (made 2) (128 ∷ 52 ∷ []) four.third
        (All-cons (λ (size : ℕ). size ≤ longest_datagram) 128 (52 ∷ []) (lit≤ tt) (All-cons (λ (size : ℕ). size ≤ longest_datagram) 52 [] (lit≤ tt) (All-nil (λ (size : ℕ). size ≤ longest_datagram))))

    abbrev IsShortSend : Send → Type 0
    IsShortSend send = length send.datagram ≤ longest_datagram

    all-short : All IsShortSend sends
    all-short =
        subst (All IsShortSend) (sym four.are)
        (All-append IsShortSend (sends_by 0 (made 0) ++ sends_by 1 (made 1)) (sends_by 2 (made 2))
        (All-append IsShortSend (sends_by 0 (made 0)) (sends_by 1 (made 1)) (all-sends 0 (made 0) first-short) (all-sends 1 (made 1) second-short)) (all-sends 2 (made 2) third-short))

    many : (sizes : List ℕ) (xs : List (List ℕ)) → map (λ (datagram : List ℕ). length datagram) xs ≡ sizes → (g : ℕ) → length (sends_by g xs) ≡ length sizes
    many sizes xs e g = length-map xs (λ (datagram : List ℕ). record { group = g; datagram = datagram }) ∙ sym (length-map xs (λ (datagram : List ℕ). length datagram)) ∙ ap (λ (l : List ℕ). length l) e

    four-sends : length sends ≡ 4
    four-sends =
        let all = ap (λ (l : List Send). length l) four.are in
        let outer = length-append (sends_by 0 (made 0) ++ sends_by 1 (made 1)) (sends_by 2 (made 2)) in
        let inner = length-append (sends_by 0 (made 0)) (sends_by 1 (made 1)) in
        let one : length (sends_by 0 (made 0)) ≡ 1 = ap (λ (l : List (List ℕ)). length (sends_by 0 l)) four.first in
        let two : length (sends_by 1 (made 1)) ≡ 1 = many (134 ∷ []) (made 1) four.second 1 in
        let three : length (sends_by 2 (made 2)) ≡ 2 = many (128 ∷ 52 ∷ []) (made 2) four.third 2 in
        omega (arith, all, outer, inner, one, two, three)

    pump-is : IsPump most_taken (map (λ send. Got send.datagram) sends ++ Empty ∷ [])
    pump-is = pump-of sends most_taken (subst (λ (n : ℕ). n < most_taken) (sym four-sends) (lit< tt)) all-short

-- ---- both ticks

first-sends : sends_behind three_plan 1000 false (ones ∷ []) [] ≡ (sends_by 0 (made [] 1000 false 0) ++ sends_by 1 (made [] 1000 false 1)) ++ sends_by 2 (made [] 1000 false 2)
unfolding three_plan three_config signed_group slotted_group cut_group three_keys three_key
first-sends = refl

first-four : SendsFour [] 1000 false
unfolding three_plan three_config signed_group slotted_group cut_group three_keys three_key blob ones row_in statuses_in unpacked spelled_row spelled_statuses packed cut_words header_len header_bytes flags_bytes group_bytes security_bytes front_bytes frame_bytes
first-four = record { are = first-sends; first = refl; header = refl; payload = refl; second = refl; third = refl }

second-sends : sends_behind three_plan 0 true (ones ∷ []) renewed_tick_life ≡ (sends_by 0 (made renewed_tick_life 0 true 0) ++ sends_by 1 (made renewed_tick_life 0 true 1)) ++ sends_by 2 (made renewed_tick_life 0 true 2)
unfolding three_plan three_config signed_group slotted_group cut_group three_keys three_key blob ones row_in unpacked spelled_row packed cut_words header_len front_bytes frame_bytes
second-sends = refl

second-four : SendsFour renewed_tick_life 0 true
unfolding three_plan three_config signed_group slotted_group cut_group three_keys three_key blob ones row_in statuses_in unpacked spelled_row spelled_statuses packed cut_words header_len header_bytes flags_bytes group_bytes security_bytes front_bytes frame_bytes
second-four = record { are = second-sends; first = refl; header = refl; payload = refl; second = refl; third = refl }

-- ---- the premises

ringed-steps : AreRowsOf three_plan.full (ones ∷ []) → AreStepsOf most_ticks three_plan (steps_in ringed_life)
ringed-steps rows =
    let last : MayComeOf most_ticks three_plan (steps_in renewed_tick_life) 0 true (ones ∷ []) = record { rows = rows; short = lit≤ tt; running = refl; left = λ is_open. absurd (cc); still = λ closing. refl } in
    let first : MayComeOf most_ticks three_plan [] 1000 false (ones ∷ []) = record { rows = rows; short = lit≤ tt; running = refl; left = λ is_open. lit< tt; still = λ closing. absurd (cc) } in
    (lit< tt, (last, (lit< tt, (first, tt))))

all-done : (sends : List Send) → length (done sends) ≡ length sends
all-done sends = length-map sends (λ (send : Send). true)

ringed-run : IsRunIn three_plan ringed_life
ringed-run = (pump-is renewed_tick_life 0 true second-four, (all-done (sends renewed_tick_life 0 true), (pump-is [] 1000 false first-four, (all-done (sends [] 1000 false), tt))))

all-got : (keys : List TokenKeys) (journal : List Entry) (sends : List Send) → AreSentIfSigned keys (journal ++ send_entries sends (done sends)) (map (λ (send : Send). Got send.datagram) sends ++ Empty ∷ [])
all-got keys journal sends datagram has signed = Contains-append_right journal (send_entries sends (done sends)) (Sent datagram) (got-sent sends datagram has)

keys_behind : List Lived → List TokenKeys
keys_behind life = ((account_in three_plan life).readings 0).keys

pub ringed-honest : IsHonestIn three_plan 0 ringed_life
unfolding keys_behind
ringed-honest = (
  all-got (keys_behind (tick_behind three_plan 0 true (ones ∷ []) renewed_tick_life)) (account_in three_plan renewed_tick_life).journal (sends renewed_tick_life 0 true),
  (tt, (all-got (keys_behind (Renewed 0 later_ring ∷ one_tick_life)) [] (sends [] 1000 false), (tt, tt))),
)

pub ringed-short : HaveShortTokens (map key_set three_keys.key) → HasShortTokens ringed_life
ringed-short short =
    (All-append (λ (set : KeySet). set.token < 2 ^ 32) (map key_set three_keys.key) (later_set ∷ []) short (All-cons (λ (set : KeySet). set.token < 2 ^ 32) later_set [] (lit< tt) (All-nil (λ (set : KeySet). set.token < 2 ^ 32))), tt)

pub ringed-are : InSession three_plan 0 0 0 0 three_session → AreStepsOf most_ticks three_plan (steps_in ringed_life)
ringed-are is = ringed-steps is.steps_are.1.0.rows

pub ringed-signed : TakesSignedAlone → InSession three_plan 0 0 0 0 three_session → TurnsHoldIn three_plan ringed_life → IsSignedLife most_ticks three_plan 0 0 0 0 0 ringed_life
ringed-signed signed is hold = record {
  plan = is.plan;
  steps_are = ringed-are is;
  turns = hold;
  run = ringed-run;
  under = record { there = is.there; within = is.matched.reads.within; keyed = three-keyed };
  matched = is.matched;
  numbered = three-numbered;
  takes = honest-takes-in signed three_plan 0 ringed_life three-secured ringed-honest;
  named = three-named;
  lengths = ((λ same. three-fit), tt);
}

-- ---- its samples

-- behind either tick a sample is that of the small session
its-sample : (index : ℕ) (meta : MetaData) (sample : Sampled) → HasSample three_plan (steps_in ringed_life) index meta sample → HasSample three_plan three_session index meta sample
its-sample index meta sample (inl same) = inl same
its-sample index meta sample (inr (inl same)) = inl same
its-sample index meta sample (inr (inr none)) = absurd none

no-lower : (index : ℕ) (meta : MetaData) (sample : Sampled) → HasSample three_plan (steps_in renewed_tick_life) index meta sample → sample.version ≤ (slice_index_or (ones ∷ []) index no_sample).version
no-lower index meta sample (inl same) = let e = ap (λ (s : Sampled). s.version) same.0 in omega (arith, e)
no-lower index meta sample (inr none) = absurd none

pub ringed-rise : SamplesRise three_plan (steps_in ringed_life)
ringed-rise = (no-lower, ((λ index meta sample none. absurd none), tt))

pub ringed-versions : AreVersions three_plan three_session three_rows → AreVersions three_plan (steps_in ringed_life) three_rows
ringed-versions versions = λ index meta sample has. versions index meta sample (its-sample index meta sample has)

-- ---- the ring's token

pub ringed-changes : is_rekeyed three_plan.config 1000 (account_in three_plan renewed_tick_life).deeds 0 ≡ true
unfolding three_plan three_config signed_group slotted_group cut_group three_keys three_key blob ones row_in unpacked spelled_row packed cut_words header_len front_bytes frame_bytes
ringed-changes = refl

pub ringed-rekeyed : InSession three_plan 0 0 0 0 three_session → IsRekeyedBy three_plan 0 0 renewed_tick_life 0
ringed-rekeyed is = record { there = is.there; within = is.matched.reads.within; changes = ringed-changes }

pub ringed-tokens : map (λ turn. turn.token) (keyed_turns_in three_plan 0 0 0 ringed_life) ≡ 2 ∷ 1 ∷ []
unfolding three_plan three_config signed_group slotted_group cut_group three_keys three_key blob ones row_in unpacked spelled_row packed cut_words header_len front_bytes frame_bytes
ringed-tokens = refl
