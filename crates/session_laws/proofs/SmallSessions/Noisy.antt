-- Sessions to whose port comes what was never sent meet the premises, and their readers hold what was sent.
use Rattle.std.proofs.Common.{◌≡◌, refl, sym, ap, ◌∙◌, subst, arith, ℕ, zero, suc, ◌<◌, lit<, lit≤, ◌⊎◌, inl, inr, true, false, List, [], ◌∷◌, ◌++◌, map, append-nil, append_assoc, Contains, Some}
use Rattle.std.specs.Prelude.{slice_index_or, Result, Ok, Err, IsErr}
use Rattle.std.proofs.lemmas.List.Elements.{Contains-append_right}
use Rattle.ua_binary.specs.ReadingValues.{block_at, text_at, kind_at, variant_at, times_past, parts_at, data_value_at}
use Rattle.uadp_header.specs.Formats.{◌>>=◌, read}
use Rattle.uadp_header.specs.Layout.{byte, number, block, when, byte_when, text, publisher_id, group_numbers, group_when, payload_header, ids_when, extras, security_header, parts, header, header_at}
use Rattle.frame_codec.specs.Contents.{field_at, surplus_at, whole_at, change_at, patch_at, content_at}
use Rattle.frame_codec.specs.Fronts.{flags1_at, flags2_at, times_past as front_times, parts_at as front_parts, front_at}
use Rattle.frame_codec.specs.Reading.{behind_front, message_at, frame_at}
use Rattle.ua_base.specs.Journal.{Entry, Sent, SendFailed, Got, Empty, Long, ReceiveFailed}
use Rattle.ps_config.specs.BuiltIn.{demo, built_in_writer, built_in_group, built_in_reader, built_in_read_group, built_in_config}
use Rattle.ps_config.specs.declared.parts.ReadGroupPart.{ReadGroupPart}
use Rattle.group_laws.specs.Witness.{ones, signed_readers, slotted_readers, cut_readers, three_config, three_key, three_keys}
use Rattle.reader_group.specs.Arrivals.{accepted}
use Rattle.reader_group.specs.Opening.{Opened, verdict}
use Rattle.reader_group.specs.Settings.{no_keys, setting_of}
use Rattle.reader_group.specs.declared.refusal.Refusal.{Refusal}
use Rattle.session_model.specs.Counts.{most_taken}
use Rattle.session_model.specs.Events.{events, reader_at}
use Rattle.session_model.specs.Sends.{IsPump, IsRun, Send, journal, send_entries, sends_of}
use Rattle.session_model.specs.Steps.{Plan, Step, Pump}
use Rattle.session_laws.specs.Delivered.{all_done, all_got}
use Rattle.session_laws.specs.Headline.{InSession}
use Rattle.session_laws.specs.Newest.{ClosesInTick, ClosingGotSecured}
use Rattle.session_laws.specs.Noise.{noise, noisy_receives, noisy_session, noisy_three_session, of_another_publisher, of_another_version, signed_noise, stray_bytes}
use Rattle.session_laws.specs.Sessions.{IsHonestFor, Takes, TakesWhatWasSent}
use Rattle.session_laws.specs.Witness.{IsNewestWhere, seven, small_datagram, small_plan, small_row, three_plan, three_rows, tick_on}
use Rattle.session_laws.proofs.HeldRows.Delivering.{pump-of}
use Rattle.session_laws.proofs.SmallSessions.Meeting.{BuiltInLaws, first-are, first-rise, first-run, first-sends, matched-is, plan-is, there-is}
use Rattle.session_laws.proofs.SmallSessions.OneTick.{all-short, four-sends, in-session, own_at, plan, sent, signed-came, signed-had, signed-took, turn_at, versions-are}
use Rattle.session_laws.proofs.HeldRows.Taking.{taken-none, taken-pump, taken-tick}
use Rattle.session_laws.proofs.SmallSessions.ThreeGroups.{NewestLaw, ThreeLaws, its-plan, newest-where, signed-matched}

-- ---- what comes was sent, or is refused

-- Each receive behind the first ones was sent before the pump, or is refused where it stands.
abbrev AreSentOrRefused : Plan → ℕ → List Step → List Entry → List Entry → Type 0
AreSentOrRefused p r before first [] = Unit {0}
AreSentOrRefused p r before first (Sent d ∷ rest) = AreSentOrRefused p r before (first ++ Sent d ∷ []) rest
AreSentOrRefused p r before first (SendFailed ∷ rest) = AreSentOrRefused p r before (first ++ SendFailed ∷ []) rest
AreSentOrRefused p r before first (Got d ∷ rest) =
    (Contains (journal p before) (Sent d)
    ⊎ IsErr (verdict (setting_of p.config r).group (setting_of p.config r).setup (accepted (setting_of p.config r) (events p.config r (Pump first ∷ before))) d))
    × AreSentOrRefused p r before (first ++ Got d ∷ []) rest
AreSentOrRefused p r before first (Empty ∷ rest) = AreSentOrRefused p r before (first ++ Empty ∷ []) rest
AreSentOrRefused p r before first (Long len ∷ rest) = AreSentOrRefused p r before (first ++ Long len ∷ []) rest
AreSentOrRefused p r before first (ReceiveFailed ∷ rest) = AreSentOrRefused p r before (first ++ ReceiveFailed ∷ []) rest

behind-one : (p : Plan) (r : ℕ) (before : List Step) (first : List Entry) (entry : Entry) (rest : List Entry) → AreSentOrRefused p r before first (entry ∷ rest) → AreSentOrRefused p r before (first ++ entry ∷ []) rest
behind-one p r before first (Sent d) rest are = are
behind-one p r before first SendFailed rest are = are
behind-one p r before first (Got d) rest are = are.1
behind-one p r before first Empty rest are = are
behind-one p r before first (Long len) rest are = are
behind-one p r before first ReceiveFailed rest are = are

not-refused : (r : Result Opened Refusal) (opened : Opened) → r ≡ Ok opened → IsErr r → ⊥
not-refused (Ok other) opened e none = cc
not-refused (Err refusal) opened e none = absurd (cc)

here-taken : (p : Plan) (r : ℕ) (before : List Step) (first : List Entry) (entry : Entry) (rest : List Entry) (d : List ℕ) → AreSentOrRefused p r before first (entry ∷ rest) → entry ≡ Got d → Takes p r before first d
    → Contains (journal p before) (Sent d)
here-taken p r before first (Sent b) rest d are same takes = absurd (cc)
here-taken p r before first SendFailed rest d are same takes = absurd (cc)
here-taken p r before first (Got b) rest d are same takes = on are.0
  where
    is : b ≡ d
    is = cc

    on : Contains (journal p before) (Sent b)
        ⊎ IsErr (verdict (setting_of p.config r).group (setting_of p.config r).setup (accepted (setting_of p.config r) (events p.config r (Pump first ∷ before))) b) → Contains (journal p before) (Sent d)
    on (inl has) = subst (λ (x : List ℕ). Contains (journal p before) (Sent x)) is has
    on (inr refused) =
        let setting = setting_of p.config r in
        let pairs = accepted setting (events p.config r (Pump first ∷ before)) in
        absurd (not-refused (verdict setting.group setting.setup pairs d) takes.opened takes.opens (subst (λ (x : List ℕ). IsErr (verdict setting.group setting.setup pairs x)) is refused))
here-taken p r before first Empty rest d are same takes = absurd (cc)
here-taken p r before first (Long len) rest d are same takes = absurd (cc)
here-taken p r before first ReceiveFailed rest d are same takes = absurd (cc)

sent-or-refused : (p : Plan) (r : ℕ) (before : List Step) (first rest : List Entry) → AreSentOrRefused p r before first rest → (front behind : List Entry) (d : List ℕ) → rest ≡ front ++ Got d ∷ behind
    → Takes p r before (first ++ front) d → Contains (journal p before) (Sent d)
sent-or-refused p r before first [] are [] behind d e takes = absurd (cc)
sent-or-refused p r before first [] are (x ∷ front) behind d e takes = absurd (cc)
sent-or-refused p r before first (entry ∷ rest) are [] behind d e takes =
    here-taken p r before first entry rest d are (let head : entry ≡ Got d = cc in head) (subst (λ (l : List Entry). Takes p r before l d) (append-nil first) takes)
sent-or-refused p r before first (entry ∷ rest) are (x ∷ front) behind d e takes =
    let head : x ≡ entry = cc in
    sent-or-refused p r before (first ++ entry ∷ []) rest (behind-one p r before first entry rest are) front behind d (let tail : rest ≡ front ++ Got d ∷ behind = cc in tail)
    (subst (λ (l : List Entry). Takes p r before l d) (ap (λ (y : Entry). first ++ y ∷ front) head ∙ sym (append_assoc first (entry ∷ []) front)) takes)

pump-taken : (p : Plan) (r : ℕ) (entries : List Entry) (before : List Step) → AreSentOrRefused p r before [] entries → TakesWhatWasSent p r before → TakesWhatWasSent p r (Pump entries ∷ before)
pump-taken p r entries before are taken = taken-pump p r entries before (λ first behind d e takes. sent-or-refused p r before [] entries are first behind d e takes) taken

-- ---- the built-in configuration

noisy-sent : Contains (journal small_plan (tick_on [])) (Sent (small_datagram 0))
noisy-sent = subst (λ (l : List Send). Contains (send_entries l (true ∷ [])) (Sent (small_datagram 0))) (sym first-sends) (0, lit< tt, refl)

noisy-are : AreSentOrRefused small_plan 0 (tick_on []) [] noisy_receives
unfolding small_plan built_in_config built_in_group built_in_writer built_in_read_group built_in_reader demo byte number block when byte_when text publisher_id group_numbers group_when payload_header ids_when extras security_header parts header header_at ◌>>=◌ read no_keys
noisy-are = (inr refl, (inr refl, (inr refl, (inl noisy-sent, (inr refl, (inr refl, (inr refl, tt)))))))

noisy-run : IsRun small_plan noisy_session
noisy-run = ((lit≤ tt, (lit≤ tt, (lit≤ tt, (lit≤ tt, (lit≤ tt, (lit≤ tt, (lit≤ tt, refl))))))), first-run.1)

pub in-noisy : BuiltInLaws → InSession small_plan 0 0 0 0 noisy_session
in-noisy laws = record {
  plan = plan-is laws;
  steps_are = first-are;
  run = noisy-run;
  rise = first-rise;
  there = there-is;
  matched = matched-is laws;
  honest = pump-taken small_plan 0 noisy_receives (tick_on []) noisy-are (taken-tick small_plan 0 100 false (seven ∷ []) (true ∷ []) [] (taken-none small_plan 0));
}

pub noisy-held : (reader_at small_plan.config 0 0 noisy_session).kept.row ≡ Some small_row
unfolding small_plan built_in_config built_in_group built_in_writer built_in_read_group built_in_reader demo seven byte number block when byte_when text publisher_id group_numbers group_when payload_header ids_when extras security_header parts header header_at ◌>>=◌ read flags1_at flags2_at front_times front_parts front_at behind_front message_at frame_at field_at surplus_at whole_at change_at patch_at content_at block_at text_at kind_at variant_at times_past parts_at data_value_at no_keys
noisy-held = refl

-- the link isn't honest
first-byte : Entry → ℕ
first-byte (Sent d) = slice_index_or d 0 0
first-byte SendFailed = 0
first-byte (Got d) = 0
first-byte Empty = 0
first-byte (Long len) = 0
first-byte ReceiveFailed = 0

noisy-journal : journal small_plan noisy_session ≡ Sent (small_datagram 0) ∷ noisy_receives
noisy-journal = ap (λ (l : List Send). send_entries l (true ∷ []) ++ noisy_receives) first-sends

only-sent : Contains (Sent (small_datagram 0) ∷ []) (Sent stray_bytes) → ⊥
unfolding first-byte
only-sent (zero, below, same) = let wrong : 113 ≡ 222 = ap first-byte same in omega (arith, wrong)
only-sent (suc k, below, same) = omega (arith, below)

pub noisy-link : IsHonestFor (setting_of small_plan.config 0) (journal small_plan noisy_session) → ⊥
unfolding small_plan built_in_config built_in_read_group
noisy-link honest = only-sent (honest (Sent (small_datagram 0) ∷ []) (Got of_another_publisher ∷ Got of_another_version ∷ Got (small_datagram 0) ∷ noise ++ Empty ∷ []) stray_bytes noisy-journal (λ secured. absurd (cc)))

-- ---- a signed group

abbrev beside : List ReadGroupPart
beside = signed_readers ∷ slotted_readers ∷ cut_readers ∷ []

abbrev its : Plan
its = plan beside

abbrev its_receives : List Entry
its_receives = signed_noise ++ all_got its (sent beside)

abbrev its_noisy : List Step
its_noisy = Pump its_receives ∷ sent beside

has-sent : (sends : List Send) (send : Send) → Contains sends send → Contains (send_entries sends (map (λ send. true) sends)) (Sent send.datagram)
has-sent [] send has = absurd (let below = has.1 in omega (arith, below))
has-sent (x ∷ sends) send (zero, below, same) = (0, omega arith, ap (λ (s : Send). Sent s.datagram) same)
has-sent (x ∷ sends) send (suc k, below, same) = let rest = has-sent sends send (k, omega (arith, below), same) in (suc rest.0, let lt = rest.1 in omega (arith, lt), rest.2)

got-sent : (p : Plan) (r : ℕ) (before : List Step) (first : List Entry) (sends : List Send) → ((send : Send) → Contains sends send → Contains (journal p before) (Sent send.datagram))
    → AreSentOrRefused p r before first (map (λ send. Got send.datagram) sends ++ Empty ∷ [])
got-sent p r before first [] sent = tt
got-sent p r before first (send ∷ sends) sent = (
  inl (sent send (0, omega arith, refl)),
  got-sent p r before (first ++ Got send.datagram ∷ []) sends (λ other has. sent other (suc has.0, let lt = has.1 in omega (arith, lt), has.2)),
)

signed-are : AreSentOrRefused its 0 (sent beside) [] its_receives
unfolding three_config signed_readers three_keys three_key byte number block when byte_when text publisher_id group_numbers group_when payload_header ids_when extras security_header parts header header_at ◌>>=◌ read
signed-are = (inr refl, (inr refl, (inr refl, (inr refl, got-sent its 0 (sent beside) signed_noise (sends_of its (sent beside)) (has-sent (sends_of its (sent beside)))))))

behind-noise : IsPump 65532 (all_got its (sent beside))
behind-noise = pump-of (sends_of its (sent beside)) 65532 (subst (λ (n : ℕ). n < 65532) (sym (four-sends beside)) (lit< tt)) (all-short beside)

noise-before : (left : ℕ) (rest : List Entry) → IsPump left rest → IsPump (suc (suc (suc (suc left)))) (signed_noise ++ rest)
noise-before left rest pump = (lit≤ tt, (lit≤ tt, (lit≤ tt, (lit≤ tt, pump))))

noisy-pump : IsPump most_taken its_receives
noisy-pump =
    let same : suc (suc (suc (suc 65532))) ≡ most_taken = omega arith in
    subst (λ (n : ℕ). IsPump n its_receives) same (noise-before 65532 (all_got its (sent beside)) behind-noise)

in-its : ThreeLaws → InSession its 0 0 0 0 its_noisy
in-its laws =
    let is = in-session beside (its-plan laws) 0 0 signed-matched in
    record {
      plan = is.plan;
      steps_are = is.steps_are;
      run = (noisy-pump, is.run.1);
      rise = is.rise;
      there = is.there;
      matched = is.matched;
      honest = pump-taken its 0 its_receives (sent beside) signed-are (taken-tick its 0 0 true (ones ∷ []) (all_done its 0 true (ones ∷ []) []) [] (taken-none its 0));
    }

abbrev its_tick : ClosesInTick its 0 0 0 0 its_noisy (own_at beside 0)
its_tick = record {
  start = [];
  ms = 0;
  samples = ones ∷ [];
  done = all_done its 0 true (ones ∷ []) [];
  had = signed-had beside;
  ends = record { took = signed-took beside; closing = refl; pumps = its_receives ∷ []; split = refl; operational = refl; enabled = refl };
}

its-came : (datagram : List ℕ) → Contains (turn_at beside 0).made datagram → Contains its_receives (Got datagram) ⊎ ⊥
its-came datagram has = on (signed-came beside datagram has)
  where
    on : Contains (all_got its (sent beside)) (Got datagram) ⊎ ⊥ → Contains its_receives (Got datagram) ⊎ ⊥
    on (inl came) = inl (Contains-append_right signed_noise (all_got its (sent beside)) (Got datagram) came)
    on (inr none) = absurd none

its-got : ClosingGotSecured its 0 0 0 0 its_noisy (own_at beside 0)
unfolding three_config signed_readers
its-got = record { numbered = refl; secured = refl; named = λ (e : 1 ≡ 0). absurd (omega (arith, e)); tick = its_tick; came = λ datagram has part. its-came datagram has }

pub noisy-newest : ThreeLaws → NewestLaw ClosingGotSecured → IsNewestWhere ClosingGotSecured three_plan 0 0 noisy_three_session three_rows
unfolding three_plan three_config
noisy-newest laws law = newest-where ClosingGotSecured its 0 0 its_noisy three_rows (own_at beside 0) law (in-its laws) (versions-are beside) its-got
