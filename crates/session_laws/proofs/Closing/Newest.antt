-- A key frame that comes last is held, and is of the newest version.
use Rattle.std.proofs.Common.{◌≡◌, refl, sym, ap, ◌∙◌, subst, ℕ, Bool, true, false, List, [], ◌∷◌, ◌++◌, Option, Some}
use Rattle.std.specs.Prelude.{cond, ◌==◌, ◌||◌, ◌%◌, filter_map, find, fold, if◌then◌else◌, nat_le, option_map, reverse}
use Rattle.std.proofs.lemmas.Bool.{eq-eqb}
use Rattle.std.proofs.lemmas.List.{reverse-append}
use Rattle.std.proofs.lemmas.List.Sums.{fold-append}
use Rattle.dataset_meta.specs.DataValues.{DataValue}
use Rattle.dataset_meta.specs.Rows.{differs, row_cut}
use Rattle.ua_base.specs.Journal.{Entry, Sent, SendFailed, Got, Empty, Long, ReceiveFailed, received_list}
use Rattle.config_tables.specs.declared.words.NumberingWord.{NumberingWord}
use Rattle.pubsub_model.specs.Answers.{version_of}
use Rattle.pubsub_model.specs.Cadence.{Answered, Settings, WriterDeed, WriterTurn, HadTurn, answer, cadence, change_answer, is_data, is_fresh, is_key, is_key_due, last_turn, log_entry, log_of, next_place, turns_since}
use Rattle.pubsub_model.specs.Frames.{PlacedFrame, Whole}
use Rattle.reader_group.specs.Complete.{HasNumber, HoldsFrame, WholesAreHeld}
use Rattle.reader_group.specs.Members.{seat_at}
use Rattle.reader_group.specs.Plain as befalls
use Rattle.reader_group.specs.Plain.{Event, PlainGroup, member_at, plain, step}
use Rattle.reader_group.specs.Settings.{setting_of}
use Rattle.writer_group.specs.Parts.{group_at}
use Rattle.writer_group.specs.Payloads.{writer_at}
use Rattle.session_model.specs.Deeds.{log_at, writer_deeds}
use Rattle.session_model.specs.Events.{events, got_on, plain_at, reader_at, readers_on}
use Rattle.session_model.specs.Steps.{Plan, Step, Pump, moment_of}
use Rattle.session_laws.specs.Headline.{InSession, IsPublished, meta_of}
use Rattle.session_laws.specs.Newest.{BringsLast, HoldsNewest, IsLastLogged, IsNewest}
use Rattle.session_laws.specs.Pasts.{settings_at}
use Rattle.session_laws.specs.Sessions.{AreVersions}

-- ---- the last datagram of a pump

abbrev got_in : ℕ → List Bool → List Event → List Entry → List Event
got_in now on past entries = fold (got_on now on) past entries

nothing-more : (now : ℕ) (on : List Bool) (past : List Event) (entries : List Entry) → received_list entries ≡ [] → got_in now on past entries ≡ past
nothing-more now on past [] e = refl
nothing-more now on past (Sent datagram ∷ entries) e = nothing-more now on past entries e
nothing-more now on past (SendFailed ∷ entries) e = nothing-more now on past entries e
nothing-more now on past (Got datagram ∷ entries) e = absurd (cc)
nothing-more now on past (Empty ∷ entries) e = nothing-more now on past entries e
nothing-more now on past (Long len ∷ entries) e = nothing-more now on past entries e
nothing-more now on past (ReceiveFailed ∷ entries) e = nothing-more now on past entries e

last-event : (p : Plan) (r i : ℕ) (before : List Step) (entries : List Entry) (row : List DataValue) (b : BringsLast p r i before entries row)
    → events p.config r (Pump entries ∷ before) ≡ befalls.Got (moment_of before) (readers_on p.config before r) b.datagram ∷ events p.config r (Pump b.earlier ∷ before)
last-event p r i before entries row b =
    let now = moment_of before in
    let on = readers_on p.config before r in
    let past = events p.config r before in
    let all : Bool → List Entry → List Event = λ yes l. (if yes then got_in now on past l else past) in
    ap (λ (yes : Bool). all yes entries) b.operational
    ∙ ap (got_in now on past) b.split
    ∙ fold-append (got_on now on) past b.earlier (Got b.datagram ∷ b.behind)
    ∙ nothing-more now on (befalls.Got now on b.datagram ∷ got_in now on past b.earlier) b.behind b.last
    ∙ sym (ap (λ (yes : Bool). befalls.Got now on b.datagram ∷ all yes b.earlier) b.operational)

pub holds-frame : WholesAreHeld → (p : Plan) (r i : ℕ) (before : List Step) (entries : List Entry) (row : List DataValue) (b : BringsLast p r i before entries row)
    → HoldsFrame (seat_at (setting_of p.config r).seats i).part.numbering b.brings.frame row (reader_at p.config r i (Pump entries ∷ before)).kept
holds-frame law p r i before entries row b =
    let setting = setting_of p.config r in
    let word = (seat_at setting.seats i).part.numbering in
    subst (λ (group : PlainGroup). HoldsFrame word b.brings.frame row (member_at group.members i).kept) (sym (ap (plain setting) (last-event p r i before entries row b)))
    (law setting (plain_at p.config r (Pump b.earlier ∷ before)) (moment_of before) (readers_on p.config before r) b.datagram i row b.brings)

pub holds-row : WholesAreHeld → (p : Plan) (r i : ℕ) (before : List Step) (entries : List Entry) (row : List DataValue) → BringsLast p r i before entries row
    → (reader_at p.config r i (Pump entries ∷ before)).kept.row ≡ Some row
holds-row law p r i before entries row b = (holds-frame law p r i before entries row b).row_is

-- ---- the newest version

version-last : (log earlier : List (ℕ × ℕ)) (place version : ℕ) → log ≡ earlier ++ (place, version) ∷ [] → version_of log (place % 65536) ≡ Some version
version-last log earlier place version e =
    let test : ℕ × ℕ → Bool = λ entry. entry.0 % 65536 == place % 65536 in
    ap (λ (l : List (ℕ × ℕ)). version_of l (place % 65536)) e
    ∙ ap (λ (l : List (ℕ × ℕ)). option_map (λ (entry : ℕ × ℕ). entry.1) (find test l)) (reverse-append earlier ((place, version) ∷ []))
    ∙ ap (λ (b : Bool). option_map (λ (entry : ℕ × ℕ). entry.1) (cond b (Some (place, version)) (find test (reverse earlier)))) (eq-eqb (place % 65536) (place % 65536) refl)

some-same : (m n : ℕ) → Path (Option ℕ) (Some m) (Some n) → m ≡ n
some-same m n e = cc

-- what is held is of some version that the log names
abbrev pub HoldsLaw : Type 0
HoldsLaw =
    (p : Plan) (r i g w : ℕ) (steps : List Step) (rows : ℕ → ℕ → List DataValue) (row : List DataValue)
    → InSession p r i g w steps → AreVersions p steps rows → (reader_at p.config r i steps).kept.row ≡ Some row
    → IsPublished p r i g w steps rows (reader_at p.config r i steps).kept.number row

-- a row that is held at the number of the last place in the writer's log is that of the version there
pub holds-logged : HoldsLaw → (p : Plan) (r i g w : ℕ) (steps : List Step) (rows : ℕ → ℕ → List DataValue) (row : List DataValue) (place version : ℕ)
    → InSession p r i g w steps → AreVersions p steps rows → (reader_at p.config r i steps).kept.row ≡ Some row → (reader_at p.config r i steps).kept.number ≡ Some (place % 65536)
    → IsLastLogged p g w steps place version → HoldsNewest p r i g w steps rows version
holds-logged holds p r i g w steps rows row place version is versions kept told logged =
    let index = (writer_at (group_at p.config g) w).dataset in
    let published = holds p r i g w steps rows row is versions kept in
    let number : place % 65536 ≡ published.place % 65536 = published.number_is (place % 65536) told in
    let same : published.version ≡ version =
    some-same published.version version (sym published.named ∙ ap (version_of (log_at p g w steps)) (sym number) ∙ version-last (log_at p g w steps) logged.0 place version logged.1) in
    record {
      row = kept ∙ ap (λ (l : List DataValue). Some l) (published.row_is ∙ ap (λ (v : ℕ). row_cut (meta_of p r i) (rows index v)) same);
      place = place;
      logged = logged;
      number = told;
    }

pub holds-newest : WholesAreHeld → HoldsLaw → (p : Plan) (r i g w : ℕ) (before : List Step) (entries : List Entry) (rows : ℕ → ℕ → List DataValue) (row : List DataValue) (version : ℕ)
    → InSession p r i g w (Pump entries ∷ before) → AreVersions p (Pump entries ∷ before) rows → (b : BringsLast p r i before entries row) → IsNewest p r i g w before entries b.brings.frame.number version
    → HoldsNewest p r i g w (Pump entries ∷ before) rows version
holds-newest law holds p r i g w before entries rows row version is versions b newest =
    let steps = Pump entries ∷ before in
    let kept = (reader_at p.config r i steps).kept in
    let h = holds-frame law p r i before entries row b in
    let told : kept.number ≡ Some (newest.place % 65536) = subst (λ (word : NumberingWord). HasNumber word kept.number b.brings.frame) newest.numbered h.number_is ∙ newest.number_is in
    holds-logged holds p r i g w steps rows row newest.place version is versions h.row_is told newest.logged

-- ---- a closing turn

or-true : (fresh late : Bool) → (fresh || true || late) ≡ true
or-true true late = refl
or-true false late = refl

pub closing-answer : (s : Settings) (fresh : Bool) (before : List Answered) (turn : WriterTurn) → turn.closing ≡ true → answer s fresh before turn ≡ Some (Whole (next_place s before) turn.row)
closing-answer s fresh before turn e =
    let late = nat_le s.key_frame_count (turns_since is_key before) in
    let due : is_key_due s fresh before turn ≡ true = ap (λ (b : Bool). fresh || b || late) e ∙ or-true fresh late in
    ap (λ (b : Bool). if b then Some (Whole (next_place s before) turn.row) else change_answer s before turn (differs (last_turn is_data before).row turn.row)) due

-- its entry is the last one of the log
pub closing-logged : (p : Plan) (g w : ℕ) (steps : List Step) (before : List WriterDeed) (turn : WriterTurn) → writer_deeds p g w steps ≡ HadTurn turn ∷ before → turn.closing ≡ true
    → (let s = settings_at (group_at p.config g) w in IsLastLogged p g w steps (next_place s (cadence s before)) turn.version)
closing-logged p g w steps before turn e closing =
    let s = settings_at (group_at p.config g) w in
    let earlier = cadence s before in
    let answered : Option PlacedFrame → List (ℕ × ℕ) = λ o. reverse (filter_map log_entry (record { turn = turn; answer = o } ∷ earlier)) in (
      reverse (filter_map log_entry earlier),
      ap (log_of s) e ∙ ap answered (closing-answer s (is_fresh before) earlier turn closing) ∙ reverse-append ((next_place s earlier, turn.version) ∷ []) (filter_map log_entry earlier),
    )
