-- A row that a writer sent is the whole row of a version in the history of its data set, at whichever length.
use Rattle.std.proofs.Common.{◌≡◌, refl, sym, ap, ◌∙◌, subst, arith, ℕ, zero, suc, ◌<◌, true, List, [], ◌∷◌, ◌++◌, length, reverse, Contains, Option, Some, None}
use Rattle.std.specs.Prelude.{◌%◌, filter_map}
use Rattle.std.specs.List.{cons_option}
use Rattle.std.proofs.lemmas.Bool.Decides.{nat_tests}
use Rattle.std.proofs.lemmas.List.{reverse-append, take_all}
use Rattle.std.proofs.lemmas.List.Elements.{Contains-append_left, Contains-append_right, Contains-push}
use Rattle.dataset_meta.specs.DataValues.{DataValue}
use Rattle.dataset_meta.specs.Metas.{MetaData}
use Rattle.dataset_meta.specs.Rows.{IsRow, row_cut}
use Rattle.dataset_meta.proofs.RowLaws.{length_row}
use Rattle.pubsub_model.specs.Answers.{IsRowSent, is_data_at, version_of}
use Rattle.pubsub_model.specs.Cadence.{Answered, log_entry}
use Rattle.pubsub_model.specs.Frames.{Alive, Change, PlacedFrame, Whole}
use Rattle.writer_group.specs.Parts.{group_at}
use Rattle.writer_group.specs.Payloads.{meta_at}
use Rattle.session_laws.specs.Pasts.{answered_by}
use Rattle.device_laws.specs.Devices.{HoldsNamed, HoldsWhole, IsCounted, log_in}
use Rattle.device_laws.specs.Publishing.{IsPublisherLife, PublisherLife, config_in}
use Rattle.device_laws.specs.Turning.{past_in}
use Rattle.device_laws.proofs.Publishes.{answered-rows, turn-fits}

-- ---- the log has the version of each data frame, at its place

entry-of : (place : ℕ) (a : Answered) → is_data_at place a ≡ true → log_entry a ≡ Some (place, a.turn.version)
entry-of place a e = on a.answer e
  where
    with_answer : Option PlacedFrame → Answered
    with_answer o = record { turn = a.turn; answer = o }

    on : (o : Option PlacedFrame) → is_data_at place (with_answer o) ≡ true → log_entry (with_answer o) ≡ Some (place, a.turn.version)
    on None e = absurd (cc)
    on (Some (Whole at row)) e = let same : at ≡ place = grind (arith, nat_tests) in ap (λ (n : ℕ). Some (n, a.turn.version)) same
    on (Some (Change at patch)) e = let same : at ≡ place = grind (arith, nat_tests) in ap (λ (n : ℕ). Some (n, a.turn.version)) same
    on (Some (Alive next)) e = absurd (cc)

in-cons : (o : Option (ℕ × ℕ)) (entry : ℕ × ℕ) (entries : List (ℕ × ℕ)) → Contains entries entry → Contains (cons_option o entries) entry
in-cons None entry entries has = has
in-cons (Some x) entry entries has = Contains-append_right (x ∷ []) entries entry has

in-entries : (a : Answered) (entry : ℕ × ℕ) (answered : List Answered) → Contains answered a → log_entry a ≡ Some entry → Contains (filter_map log_entry answered) entry
in-entries a entry [] has e = absurd (let below = has.1 in omega (arith, below))
in-entries a entry (b ∷ answered) (zero, below, same) e =
    subst (λ (o : Option (ℕ × ℕ)). Contains (cons_option o (filter_map log_entry answered)) entry) (sym e ∙ ap log_entry (sym same)) (0, omega arith, refl)
in-entries a entry (b ∷ answered) (suc k, below, same) e = in-cons (log_entry b) entry (filter_map log_entry answered) (in-entries a entry answered (k, omega (arith, below), same) e)

in-reversed : (entry : ℕ × ℕ) (log : List (ℕ × ℕ)) → Contains log entry → Contains (reverse log) entry
in-reversed entry [] has = absurd (let below = has.1 in omega (arith, below))
in-reversed entry (x ∷ log) (zero, below, same) =
    subst (λ (l : List (ℕ × ℕ)). Contains l entry) (sym (reverse-append (x ∷ []) log)) (subst (Contains (reverse log ++ x ∷ [])) same (Contains-push (reverse log) x))
in-reversed entry (x ∷ log) (suc k, below, same) =
    subst (λ (l : List (ℕ × ℕ)). Contains l entry) (sym (reverse-append (x ∷ []) log)) (Contains-append_left (reverse log) (x ∷ []) entry (in-reversed entry log (k, omega (arith, below), same)))

logged : (answered : List Answered) (a : Answered) (place : ℕ) → Contains answered a → is_data_at place a ≡ true → Contains (reverse (filter_map log_entry answered)) (place, a.turn.version)
logged answered a place has e =
    in-reversed (place, a.turn.version) (filter_map log_entry answered) (in-entries a (place, a.turn.version) answered has (entry-of place a e))

-- ---- of a publisher's writer, to a reader that has all its fields

module _ (text : List ℕ) (pl : PublisherLife) (g w : ℕ) (publisher : IsPublisherLife text pl) (counted : IsCounted pl) (there : g < length (config_in pl).group) (within : w < length (group_at (config_in pl) g).writer)
    (meta : MetaData) (whole : meta ≡ meta_at (group_at (config_in pl) g) (config_in pl).dataset w) where
  abbrev answered : List Answered
  answered = answered_by (group_at (config_in pl) g) w (past_in pl g)

  -- its fields are all that the turn's row has
  all-fields : (turn : Answered) (row : List DataValue) → Contains answered turn → row ≡ row_cut meta turn.turn.row → turn.turn.row ≡ row
  all-fields turn row has cut =
      let own = meta_at (group_at (config_in pl) g) (config_in pl).dataset w in
      let fits : IsRow own turn.turn.row = turn-fits text pl g w turn publisher there within has in
      let long = length_row own.quality own.fields turn.turn.row fits in
      let all : row_cut own turn.turn.row ≡ turn.turn.row = take_all (length own.fields) turn.turn.row (omega (arith, long)) in
      sym (cut ∙ ap (λ (m : MetaData). row_cut m turn.turn.row) whole ∙ all)

  pub whole-sent : (number : Option ℕ) (row : List DataValue) (place : ℕ) → IsRowSent meta answered (record { place = place; row = row }) → ((n : ℕ) → number ≡ Some n → n ≡ place % 65536) → HoldsWhole pl g w number row
  whole-sent number row place sent number_is = record {
    place = place;
    turn = sent.turn;
    one_of = sent.one_of;
    place_is = sent.place;
    row_is = all-fields sent.turn row sent.one_of sent.row;
    version_is = answered-rows text pl g w sent.turn publisher counted there within sent.one_of;
    logged = logged answered sent.turn place sent.one_of sent.place;
    number_is = number_is;
  }

  pub named-sent : (number : Option ℕ) (row : List DataValue) (place : ℕ) (sent : IsRowSent meta answered (record { place = place; row = row })) → ((n : ℕ) → number ≡ Some n → n ≡ place % 65536)
      → version_of (log_in pl g w) (place % 65536) ≡ Some sent.turn.turn.version → HoldsNamed pl g w number row
  unfolding whole-sent
  named-sent number row place sent number_is named = record { whole = whole-sent number row place sent number_is; named = named }
