-- The session of FirstRun is one of the built-in configuration, and its report is that text.
use Rattle.std.proofs.Common.{◌≡◌, ◌≢◌, ℕ, zero, suc, ◌<◌, ◌≤◌, Option, Some, None, refl, sym, subst, lit<, lit≤, arith}
use Rattle.std.specs.Prelude.{⊤, IsSomeAnd, ◌∷◌, [], slice_index_or}
use Rattle.std.specs.Fmt.{digits}
use Rattle.value_texts.specs.Texts.{value_text_of}
use Rattle.ps_config.specs.declared.Publisher.{Publisher}
use Rattle.ps_config.specs.declared.Publisher.TheVariants.{U8}
use Rattle.ps_config.specs.BuiltIn.{demo, built_in_writer, built_in_group, built_in_reader, built_in_read_group, built_in_config}
use Rattle.row_words.specs.Belonging.{Belongs, row_in, statuses_in, spelled_row, spelled_statuses}
use Rattle.ps_report.specs.Conditions.{IsClosedOf}
use Rattle.ps_report.specs.FirstRun.{first_row, first_run, first_run_text, unnumbered_config, unnumbered_run, unnumbered_text, foreign_config, foreign_run, watched_run}
use Rattle.ps_report.specs.Lines.{component_text, count_text, history_line, group_line, writer_line, cause_text, read_group_line, status_mark, field_text, number_or_dash, numbered_text, gaps_line, link_line}
use Rattle.ps_report.specs.Words.{cause_words}
use Rattle.ps_report.specs.Told.{TellsEnds}
use Rattle.ps_report.specs.Reports.{row_text, held_as, reader_line, end_line, report_text}

row_belongs : Belongs demo first_row.words
unfolding demo row_in statuses_in spelled_row spelled_statuses
row_belongs = record {
  whole = refl;
  row = (
    record { is_value = lit< tt; fits = record { same_kind = refl; within = lit≤ tt }; is_status = refl },
    (
      record { is_value = lit< tt; fits = record { same_kind = refl; within = lit≤ tt }; is_status = refl },
      (
        record { is_value = lit< tt; fits = record { same_kind = refl; within = lit≤ tt }; is_status = refl },
        (record { is_value = lit< tt; fits = record { same_kind = refl; within = lit≤ tt }; is_status = refl }, tt),
      ),
    ),
  );
  spelled = refl;
}

pub first_run_closed : IsClosedOf built_in_config first_run
unfolding built_in_config built_in_group built_in_read_group built_in_reader
first_run_closed = record {
  histories = refl;
  groups = refl;
  writers = refl;
  read_groups = refl;
  rows = (row_belongs, tt);
  watches = λ k d inside. absurd (omega arith);
}

pub first_run_told : TellsEnds built_in_config first_run
unfolding built_in_config built_in_group built_in_writer built_in_read_group built_in_reader
first_run_told = record {
  readers = (record { number = lit< tt; own = λ same. refl; other = λ differs. absurd (differs refl) }, tt);
  watches = λ i j d below inside. absurd (omega arith);
}

pub first_run_report : report_text built_in_config first_run ≡ first_run_text
unfolding built_in_config demo built_in_group built_in_writer built_in_read_group built_in_reader row_in statuses_in digits value_text_of component_text count_text history_line group_line writer_line cause_text cause_words read_group_line status_mark field_text number_or_dash numbered_text gaps_line link_line row_text held_as reader_line end_line report_text
first_run_report = refl

pub unnumbered_run_closed : IsClosedOf unnumbered_config unnumbered_run
unfolding built_in_config built_in_group built_in_read_group built_in_reader unnumbered_config
unnumbered_run_closed = record {
  histories = refl;
  groups = refl;
  writers = refl;
  read_groups = refl;
  rows = (row_belongs, tt);
  watches = λ k d inside. absurd (omega arith);
}

pub unnumbered_run_told : TellsEnds unnumbered_config unnumbered_run
unfolding built_in_config built_in_group built_in_writer built_in_read_group built_in_reader unnumbered_config
unnumbered_run_told = record {
  readers = (record { number = refl; own = λ same. refl; other = λ differs. refl }, tt);
  watches = λ i j d below inside. absurd (omega arith);
}

pub unnumbered_run_report : report_text unnumbered_config unnumbered_run ≡ unnumbered_text
unfolding unnumbered_config built_in_config demo built_in_group built_in_writer built_in_read_group built_in_reader row_in statuses_in digits value_text_of component_text count_text history_line group_line writer_line cause_text cause_words read_group_line status_mark field_text number_or_dash numbered_text gaps_line link_line row_text held_as reader_line end_line report_text
unnumbered_run_report = refl

number_in : Publisher → ℕ
number_in (U8 n) = n
number_in _ = 0

other_publisher : U8 6 ≢ U8 5
unfolding number_in
other_publisher same =
    let above : 5 < 5 = subst (λ (p : Publisher). 5 < number_in p) same (lit< tt) in absurd (omega arith)

some_isnt_none : {A : Type 0} (x : A) → ¬ (Some x ≡ None)
some_isnt_none {A} x same = subst (λ (o : Option A). IsSomeAnd o (λ y. ⊤)) same tt

pub foreign_run_told : TellsEnds foreign_config foreign_run
unfolding built_in_config built_in_group built_in_writer built_in_read_group built_in_reader foreign_config
foreign_run_told = record {
  readers = (record { number = lit< tt; own = λ same. absurd (other_publisher same); other = λ differs. refl }, tt);
  watches = λ i j d below inside. absurd (omega arith);
}

pub number_is_told : ¬ (TellsEnds built_in_config unnumbered_run)
unfolding built_in_config built_in_group built_in_writer built_in_read_group built_in_reader
number_is_told told = told.readers.0.number

pub version_is_told : ¬ (TellsEnds built_in_config foreign_run)
unfolding built_in_config built_in_group built_in_writer built_in_read_group built_in_reader
version_is_told told = some_isnt_none 1 (sym (told.readers.0.own refl))

pub no_number_is_told : ¬ (TellsEnds unnumbered_config first_run)
unfolding built_in_config built_in_group built_in_writer built_in_read_group built_in_reader unnumbered_config
no_number_is_told told = some_isnt_none 1 told.readers.0.number

pub no_version_is_told : ¬ (TellsEnds foreign_config first_run)
unfolding built_in_config built_in_group built_in_writer built_in_read_group built_in_reader foreign_config
no_version_is_told told = some_isnt_none 1 (told.readers.0.other other_publisher)

two_rise : (i j d : ℕ) → i ≤ j → j < 2 → slice_index_or (0 ∷ 1 ∷ []) i d ≤ slice_index_or (0 ∷ 1 ∷ []) j d
two_rise zero zero d below inside = lit≤ tt
two_rise zero (suc zero) d below inside = lit≤ tt
two_rise zero (suc (suc j)) d below inside = absurd (omega arith)
two_rise (suc i) zero d below inside = absurd (omega arith)
two_rise (suc zero) (suc zero) d below inside = lit≤ tt
two_rise (suc (suc i)) (suc zero) d below inside = absurd (omega arith)
two_rise (suc i) (suc (suc j)) d below inside = absurd (omega arith)

pub in_order_is_told : TellsEnds built_in_config (watched_run 0 1)
unfolding built_in_config built_in_group built_in_writer built_in_read_group built_in_reader
in_order_is_told = record { readers = first_run_told.readers; watches = two_rise }

pub out_of_order_is_not_told : ¬ (TellsEnds built_in_config (watched_run 1 0))
out_of_order_is_not_told told = let falls : 1 ≤ 0 = told.watches 0 1 0 (lit≤ tt) (lit< tt) in absurd (omega arith)
