-- Over all that befalls a read group: what comes to a matched reader is what its writer answered.
use Rattle.std.proofs.Common.{◌≡◌, refl, arith, ℕ, ◌≤◌, Bool, true, false, List, [], ◌∷◌, Result, Ok, Err, All}
use Rattle.std.specs.Prelude.{◌==◌, slice_index_or, if◌then◌else◌}
use Rattle.std.proofs.lemmas.List.Elements.{All-nil}
use Rattle.seq_number.specs.Numbers.{place_from}
use Rattle.pubsub_model.specs.declared.reading.Why.{Why}
use Rattle.pubsub_model.specs.declared.reading.Why.TheVariants.{NewToken, Timeout}
use Rattle.pubsub_model.specs.Cadence.{next_place}
use Rattle.message_guard.specs.Acceptance.{Accepted}
use Rattle.writer_group.specs.Payloads.{writer_at}
use Rattle.writer_group.specs.Turns.{writer_past}
use Rattle.reader_group.specs.declared.refusal.Refusal.{Refusal}
use Rattle.reader_group.specs.Arrivals.{Way, Mark, accepted, arrivals_in, cut_on, taken_in, runs_out, marks}
use Rattle.reader_group.specs.Opening.{Opened, verdict}
use Rattle.reader_group.specs.Payloads.{Piece, pieces}
use Rattle.reader_group.specs.Plain.{Event, Got, Expired, Stopped, is_raised, stamp_by}
use Rattle.config_tables.specs.declared.words.NumberingWord.{NumberingWord}
use Rattle.dataset_meta.specs.Metas.{MetaData}
use Rattle.pubsub_model.specs.Cadence.{Answered}
use Rattle.session_laws.specs.Pasts.{AreTurns, CameAsMade, settings_at}
use Rattle.session_laws.specs.Plays.{Play, IsPlay, its_setting, its_way, its_meta, its_past, its_answers, its_marks}
use Rattle.session_laws.proofs.Versions.Answering.{spelled_at}
use Rattle.reader_group.proofs.KeptParts.{IsPieceOf, keep-parts}
use Rattle.session_laws.proofs.HeldRows.Pieces.{TurnLaws, made-pieces}
use Rattle.pubsub_model.proofs.AnswerPlaces.{answers-span}
use Rattle.session_laws.proofs.HeldRows.Sources.{IsOfAnswer, IsChunkOf, AreSent, Source, sent-kept}

pub sent-cut : (word : NumberingWord) (meta : MetaData) (answered : List Answered) (bytes : ℕ → List ℕ) (cuts : Bool) (why : Why) (list : List Mark) → AreSent word meta answered bytes list → AreSent word meta answered bytes (cut_on cuts why list)
sent-cut word meta answered bytes true why list h = record { items = h.items; chunks = h.chunks }
sent-cut word meta answered bytes false why list h = h

pub all-on : (P : Piece → Type 0) (on : Bool) (parts : List Piece) → All P parts → All P (if on then parts else [])
all-on P true parts h = h
all-on P false parts h = All-nil P

module _ (laws : TurnLaws) (most : ℕ) (p : Play) (le : most ≤ 65536) (is : IsPlay most p) where
  abbrev way : Way
  way = its_way p

  abbrev word : NumberingWord
  word = way.seat.part.numbering

  pub turns : AreTurns p.config p.group (its_past p)
  turns = (is.pasts p.index p.group is.there).turns

  -- the bytes of each place
  abbrev pub its_bytes : ℕ → List ℕ
  its_bytes = spelled_at p.config p.group p.writer (its_past p) turns

  pub source : Source way (its_answers p) (writer_at p.group p.writer).first_number (next_place (settings_at p.group p.writer) (its_answers p))
  source = record { spans = λ frame answer. answers-span (settings_at p.group p.writer) (writer_past p.writer (its_past p)) frame answer; few = let few = is.few in omega (arith, few, le) }

  taken-sent : (now : ℕ) (enabled : Bool) (pairs : Accepted) (list : List Mark) (answer : Result Opened Refusal)
      → ((opened : Opened) → answer ≡ Ok opened → All (IsPieceOf (IsOfAnswer (its_meta p) (its_answers p)) (IsChunkOf (its_meta p) (its_answers p) its_bytes) (its_meta p)) (pieces way.seat.part opened.payload))
      → AreSent word (its_meta p) (its_answers p) its_bytes list → AreSent word (its_meta p) (its_answers p) its_bytes (taken_in (its_setting p) way now enabled pairs list answer)
  taken-sent now enabled pairs list (Err refusal) are h = h
  taken-sent now enabled pairs list (Ok opened) are h =
      let s = stamp_by (its_setting p).setup.mode opened.pass.number in
      let first = (writer_at p.group p.writer).first_number in
      keep-parts (AreSent word (its_meta p) (its_answers p) its_bytes) (IsOfAnswer (its_meta p) (its_answers p)) (IsChunkOf (its_meta p) (its_answers p) its_bytes) way (place_from first) now s
      (sent-kept word way (its_answers p) its_bytes first (next_place (settings_at p.group p.writer) (its_answers p)) now s refl source)
      (if enabled then pieces way.seat.part opened.payload else []) (cut_on (is_raised (its_setting p) pairs opened) NewToken list)
      (all-on (IsPieceOf (IsOfAnswer (its_meta p) (its_answers p)) (IsChunkOf (its_meta p) (its_answers p) its_bytes) (its_meta p)) enabled (pieces way.seat.part opened.payload) (are opened refl))
      (sent-cut word (its_meta p) (its_answers p) its_bytes (is_raised (its_setting p) pairs opened) NewToken list h)

  -- the parts of a datagram that came
  pub parts-sent : (now : ℕ) (on : List Bool) (datagram : List ℕ) (before : List Event) (opened : Opened) → CameAsMade (its_setting p) p.config p.pasts (Got now on datagram ∷ before)
      → verdict (its_setting p).group (its_setting p).setup (accepted (its_setting p) before) datagram ≡ Ok opened
      → All (IsPieceOf (IsOfAnswer (its_meta p) (its_answers p)) (IsChunkOf (its_meta p) (its_answers p) its_bytes) (its_meta p)) (pieces way.seat.part opened.payload)
  parts-sent now on datagram before opened came e =
      let setting = its_setting p in
      let pairs = accepted setting before in
      made-pieces laws p.config p.group p.readers p.reader p.writer is.matched p.index p.pasts is.sound is.there is.pasts turns pairs datagram opened
      (came.0 opened e) e

  -- whatever befell it so far
  pub events-sent : (events : List Event) → CameAsMade (its_setting p) p.config p.pasts events → AreSent word (its_meta p) (its_answers p) its_bytes (marks (its_setting p) way events)
  events-sent [] came = record { items = tt; chunks = tt }
  events-sent (Got now on datagram ∷ before) came =
      let setting = its_setting p in
      let pairs = accepted setting before in
      taken-sent now (slice_index_or on way.index false) pairs (marks setting way before) (verdict setting.group setting.setup pairs datagram)
      (λ opened e. parts-sent now on datagram before opened came e)
      (events-sent before came.1)
  events-sent (Expired now ∷ before) came =
      let list = marks (its_setting p) way before in
      sent-cut word (its_meta p) (its_answers p) its_bytes (runs_out way now (arrivals_in list)) Timeout list (events-sent before came)
  events-sent (Stopped reader why ∷ before) came =
      let list = marks (its_setting p) way before in
      sent-cut word (its_meta p) (its_answers p) its_bytes (reader == way.index) why list (events-sent before came)

  -- each item is what the writer answered, and each chunk one of what it answered
  pub all-sent : AreSent word (its_meta p) (its_answers p) its_bytes (its_marks p)
  all-sent = events-sent p.events is.came
