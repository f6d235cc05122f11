-- A reader that reads by *Records*, and to which nothing comes but what its writer answered, holds a row that this sent, at whichever length.
use Rattle.std.proofs.Common.{◌≡◌, refl, sym, ◌∙◌, subst, ℕ, List, Option, Some, None, All}
use Rattle.std.specs.Prelude.{◌%◌, option_map}
use Rattle.seq_number.specs.Numbers.{number_of_place}
use Rattle.dataset_meta.specs.DataValues.{DataValue}
use Rattle.dataset_meta.specs.Metas.{MetaData}
use Rattle.dataset_reader.specs.Keeping.{KeepsBy}
use Rattle.dataset_reader.specs.Kept.{Kept}
use Rattle.pubsub_model.specs.Answers.{IsRowSent}
use Rattle.pubsub_model.specs.Cadence.{Answered, HasRowsOf, Settings, WriterDeed, cadence}
use Rattle.pubsub_model.specs.Records.{Arrival, Held, held, since_cut}
use Rattle.pubsub_model.proofs.BareRows.{bare-sent}
use Rattle.pubsub_model.proofs.HeldRows.{held-sent}
use Rattle.config_tables.specs.declared.words.NumberingWord.{NumberingWord}
use Rattle.config_tables.specs.declared.words.NumberingWord.TheVariants as words
use Rattle.reader_group.specs.Members.{numbering_of}
use Rattle.session_laws.specs.Plays.{IsAnswerBy, ItemsAre}
use Rattle.session_laws.proofs.HeldRows.Near.{items-since}

-- the row is that of the turn with a data frame at this place, whose 16 bits the number is
pub record IsSentRow (meta : MetaData) (answered : List Answered) (number : Option ℕ) (row : List DataValue) : Type 0 where
  pub place : ℕ
  pub sent : IsRowSent meta answered (record { place = place; row = row })
  pub number_is : (n : ℕ) → number ≡ Some n → n ≡ place % 65536

module _ (meta : MetaData) (s : Settings) (deeds : List WriterDeed) (now : MetaData) (rows : HasRowsOf now deeds) (arrivals : List Arrival) where
  abbrev answered : List Answered
  answered = cadence s deeds

  held-case : (o : Option Held) (number : Option ℕ) (row : List DataValue) → ((h : Held) → o ≡ Some h → IsRowSent meta answered h) → number ≡ option_map (λ h. number_of_place h.place) o
      → option_map (λ (h : Held). h.row) o ≡ Some row → IsSentRow meta answered number row
  held-case None number row sent number_is e = absurd (cc)
  held-case (Some h) number row sent number_is e =
      let same : h.row ≡ row = cc in
      record {
        place = h.place;
        sent = subst (λ (r : List DataValue). IsRowSent meta answered (record { place = h.place; row = r })) same (sent h refl);
        number_is = λ n is. (let both : Some n ≡ Some (number_of_place h.place) = sym is ∙ number_is in cc);
      }

  pub held-since : (word : NumberingWord) (kept : Kept) (row : List DataValue) → All (IsAnswerBy word meta answered) (since_cut arrivals) → KeepsBy (numbering_of word) arrivals kept → kept.row ≡ Some row → IsSentRow meta answered kept.number row
  held-since words.Message kept row items keeps e =
      held-case (held arrivals) kept.number row (λ h is_held. held-sent now meta s deeds arrivals h rows items is_held) keeps.over.number (sym keeps.over.row ∙ e)
  held-since words.None kept row items keeps e =
      let sent = bare-sent now meta s deeds arrivals row rows items (sym keeps.row ∙ e) in
      record { place = sent.place; sent = sent.sent; number_is = λ n is. (let both : Path (Option ℕ) None (Some n) = sym keeps.number ∙ is in absurd (cc)) }

  pub held-row : (word : NumberingWord) (kept : Kept) (row : List DataValue) → ItemsAre (IsAnswerBy word meta answered) arrivals → KeepsBy (numbering_of word) arrivals kept → kept.row ≡ Some row → IsSentRow meta answered kept.number row
  held-row word kept row items keeps e = held-since word kept row (items-since (IsAnswerBy word meta answered) arrivals items) keeps e
