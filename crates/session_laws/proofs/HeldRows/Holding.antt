-- held rows: what a matched reader keeps is the row of a version that its writer logged.
use Rattle.std.proofs.Common.{◌≡◌, refl, sym, ◌∙◌, subst, arith, ℕ, ◌+◌, ◌≤◌, List, Option, Some, None}
use Rattle.std.specs.Prelude.{◌%◌, option_map}
use Rattle.seq_number.specs.Numbers.{number_of_place}
use Rattle.dataset_meta.specs.DataValues.{DataValue}
use Rattle.dataset_meta.specs.Metas.{MetaData}
use Rattle.pubsub_model.specs.Cadence.{HasRowsOf, next_place}
use Rattle.pubsub_model.specs.Records.{Held, held}
use Rattle.config_tables.specs.declared.words.NumberingWord.{NumberingWord}
use Rattle.config_tables.specs.declared.words.NumberingWord.TheVariants as words
use Rattle.dataset_reader.specs.Kept.{Kept}
use Rattle.dataset_reader.specs.Keeping.{KeepsBy}
use Rattle.reader_group.specs.Members.{numbering_of}
use Rattle.writer_group.specs.Turns.{writer_past}
use Rattle.pubsub_model.specs.Answers.{IsRowSent}
use Rattle.session_laws.specs.Pasts.{settings_at}
use Rattle.session_laws.specs.Plays.{Play, IsPlay, ComesFromWriter, HoldsVersion, ItemsAre, IsAnswerBy, its_way, its_meta, its_past, its_answers, its_arrivals, its_member}
use Rattle.pubsub_model.proofs.BareRows.{bare-sent}
use Rattle.pubsub_model.proofs.HeldRows.{held-sent}
use Rattle.pubsub_model.proofs.LoggedTurns.{logged}
use Rattle.session_laws.proofs.HeldRows.Marks.{all-sent}
use Rattle.session_laws.proofs.HeldRows.Near.{AgreeLaw, items-since, reads-by-records}
use Rattle.session_laws.proofs.HeldRows.Pieces.{TurnLaws}

-- each item that comes is what the writer answered
pub comes-from-writer : TurnLaws → (most : ℕ) (p : Play) → most ≤ 65536 → IsPlay most p → ComesFromWriter p
comes-from-writer laws most p le is = (all-sent laws most p le is).items

module _ (most : ℕ) (p : Play) (le : most ≤ 65536) (is : IsPlay most p) where
  few : next_place (settings_at p.group p.writer) (its_answers p) ≤ (settings_at p.group p.writer).first_number + 65536
  few = let few = is.few in omega (arith, few, le)

  rows : (meta : MetaData) × HasRowsOf meta (writer_past p.writer (its_past p))
  rows = (is.pasts p.index p.group is.there).rows p.writer is.matched.reads.within

  holds-sent : (number : Option ℕ) (row : List DataValue) (place : ℕ) → IsRowSent (its_meta p) (its_answers p) (record { place = place; row = row }) → ((n : ℕ) → number ≡ Some n → n ≡ place % 65536) → HoldsVersion p number row
  holds-sent number row place sent number_is = record {
    place = place;
    sent = sent;
    logged = logged (its_meta p) (settings_at p.group p.writer) (writer_past p.writer (its_past p)) (record { place = place; row = row }) few sent;
    number_is = number_is;
  }

  -- by numbers
  held-case : (o : Option Held) (number : Option ℕ) (row : List DataValue) → ((h : Held) → o ≡ Some h → IsRowSent (its_meta p) (its_answers p) h) → number ≡ option_map (λ h. number_of_place h.place) o
      → option_map (λ (h : Held). h.row) o ≡ Some row → HoldsVersion p number row
  held-case None number row sent number_is e = absurd (cc)
  held-case (Some h) number row sent number_is e =
      let same : h.row ≡ row = cc in
      let sent_row = subst (λ (r : List DataValue). IsRowSent (its_meta p) (its_answers p) (record { place = h.place; row = r })) same (sent h refl) in
      holds-sent number row h.place sent_row (λ n is. (let both : Some n ≡ Some (number_of_place h.place) = sym is ∙ number_is in cc))

  held-by : (word : NumberingWord) (kept : Kept) (row : List DataValue) → ItemsAre (IsAnswerBy word (its_meta p) (its_answers p)) (its_arrivals p) → KeepsBy (numbering_of word) (its_arrivals p) kept → kept.row ≡ Some row
      → HoldsVersion p kept.number row
  held-by words.Message kept row items keeps e =
      held-case (held (its_arrivals p)) kept.number row
      (λ h is_held. held-sent rows.0 (its_meta p) (settings_at p.group p.writer) (writer_past p.writer (its_past p)) (its_arrivals p) h rows.1 (items-since _ (its_arrivals p) items) is_held) keeps.over.number (sym keeps.over.row ∙ e)
  held-by words.None kept row items keeps e =
      let sent = bare-sent rows.0 (its_meta p) (settings_at p.group p.writer) (writer_past p.writer (its_past p)) (its_arrivals p) row rows.1 (items-since _ (its_arrivals p) items) (sym keeps.row ∙ e) in
      holds-sent kept.number row sent.place sent.sent (λ n is. (let both : Path (Option ℕ) None (Some n) = sym keeps.number ∙ is in absurd (cc)))

-- held rows
pub holds-version : TurnLaws → AgreeLaw → (p : Play) (row : List DataValue) → IsPlay 16385 p → (its_member p).kept.row ≡ Some row → HoldsVersion p (its_member p).kept.number row
holds-version laws agrees p row is e =
    held-by 16385 p (omega arith) is (its_way p).seat.part.numbering (its_member p).kept row (comes-from-writer laws 16385 p (omega arith) is) (reads-by-records laws agrees p is).keeps e
