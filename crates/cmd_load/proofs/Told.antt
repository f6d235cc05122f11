-- What the summary of generated work tells.
use Rattle.std.proofs.Common.{◌≡◌, inl, ℕ, zero, suc, ◌+◌, ◌*◌, ◌<◌, ◌≤◌, List, [], ◌∷◌, ◌++◌, map, length, Option, Some, refl, sym, ap, ◌∙◌, subst, append_assoc, arith, lit<}
use Rattle.std.specs.Prelude.{slice_get, codes}
use Rattle.std.specs.List.{range_with_len}
use Rattle.std.specs.Fmt.{decimal}
use Rattle.std.proofs.lemmas.List.{append-nil, length-reverse}
use Rattle.std.proofs.lemmas.Option.{same_Some, none-some}
use Rattle.ua_base.specs.Journal.{LinkState}
use Rattle.ua_base.specs.Links.{Opening}
use Rattle.ua_values.specs.declared.value.Value.TheVariants.{UInt32}
use Rattle.value_texts.specs.Texts.{value_text_of}
use Rattle.dataset_meta.specs.DataValues.{DataValue}
use Rattle.dataset_meta.specs.Rows.{row_cut}
use Rattle.row_words.specs.Belonging.{row_in}
use Rattle.pubsub_model.specs.History.{IsLegal, row_of}
use Rattle.app_threads.specs.Closing.{threads_of}
use Rattle.app_threads.specs.Marks.{authors}
use Rattle.ps_config.specs.BuiltIn.{built_in_config, built_in_group, built_in_writer, built_in_read_group, built_in_reader, demo}
use Rattle.ps_report.specs.declared.closed.Closed.{Closed}
use Rattle.ps_report.specs.declared.closed.HeldEnd.{HeldEnd}
use Rattle.ps_report.specs.declared.closed.History.{History}
use Rattle.ps_report.specs.declared.closed.ReaderEnd.{ReaderEnd}
use Rattle.ps_report.specs.Conditions.{readers_of}
use Rattle.ps_report.specs.Lines.{fields_text, field_text, status_mark}
use Rattle.ps_report.specs.Reports.{load_text, load_versions, load_reader_line, load_held_as, row_text, end_line}
use Rattle.ps_config.specs.declared.parts.Config.{Config}
use Rattle.ps_script.specs.declared.script.Script.{Script}
use Rattle.ps_script.specs.Generated.{generated}
use Rattle.ps_script.specs.Sessions.{ticks_in}
use Rattle.report_laws.specs.Reported.{IsReported}
use Rattle.session_model.specs.Steps.{Plan}
use Rattle.session_laws.specs.Printed.{TellsPublished}
use Rattle.session_laws.specs.Reading.{IsMatchedIn}
use Rattle.session_laws.specs.Sessions.{TakesWhatWasSent}
use Rattle.session_laws.specs.Telling.{IsReaderTold}
use Rattle.script_player.specs.Plays.{opening_of, plan_by}
use Rattle.script_runner.specs.Legal.{fields_in, history_by, row_made, writes_to}
use Rattle.script_runner.specs.Runs.{IsRunOf}
use Rattle.cmd_base.specs.Outside.{Wire}
use Rattle.cmd_load.specs.Loads.{HoldsVersion, OpensForWork, Summarizes}
use Rattle.cmd_load.specs.Newest.{newest_row, newest_text}
use Rattle.cmd_load.proofs.Last.{law_newest, law_ticks, law_versions}

abbrev plan_for : ℕ → Plan
plan_for n = plan_by built_in_config (generated n)

-- ---- the history

first_length : (histories : List History) (threads : List ℕ) → map (λ history. history.threads) histories ≡ threads ∷ [] → load_versions histories ≡ length threads
first_length [] threads is = absurd cc
first_length (history ∷ histories) threads is = ap length (head_is history.threads threads (map (λ h. h.threads) histories) is)
  where
    head_is : (a b : List ℕ) (rest : List (List ℕ)) → a ∷ rest ≡ b ∷ [] → a ≡ b
    head_is a b rest e = cc

one_set : length built_in_config.dataset ≡ 1
unfolding built_in_config
one_set = refl

pub versions_told : (n : ℕ) (told : Option LinkState) (closed : Closed) → ((threads : List ℕ) → IsLegal threads (writes_to (generated n) 0) → length threads ≡ 32 * n)
    → IsRunOf built_in_config (generated n) told closed → load_versions closed.histories ≡ 32 * n
versions_told n told closed law run =
    let first : 0 < length built_in_config.dataset = subst (λ (k : ℕ). 0 < k) (sym one_set) (lit< tt) in
    let one : map (λ history. history.threads) closed.histories ≡ authors (run.logs 0) ∷ [] =
    run.histories ∙ ap (λ (k : ℕ). map (λ set. authors (run.logs set)) (range_with_len 0 k)) one_set in
    first_length closed.histories (authors (run.logs 0)) one
    ∙ sym (length-reverse (authors (run.logs 0)))
    ∙ law (threads_of (run.logs 0)) (run.legal 0 first).legal

-- ---- the reader

matched : IsMatchedIn built_in_config 0 0 0 0
unfolding built_in_config built_in_group built_in_writer built_in_read_group built_in_reader
matched = record {
  groups = record { publisher = refl; group_id = inl refl; version = inl refl; class_id = inl refl; layout = refl; security = refl; keygroup = refl };
  within = lit< tt;
  reads = record { within = lit< tt; id = refl; dataset = refl; offset = λ e. refl; size = λ e. refl };
}

-- the only reader is the one that is told
only_reader : (index : ℕ) (end reader : ReaderEnd) (readers : List ReaderEnd) → readers ≡ end ∷ [] → slice_get readers index ≡ Some reader → reader ≡ end
only_reader zero end reader readers are is = sym (same_Some end reader (sym (ap (λ (l : List ReaderEnd). slice_get l 0) are) ∙ is))
only_reader (suc index) end reader readers are is = absurd (none-some reader (sym (ap (λ (l : List ReaderEnd). slice_get l (suc index)) are) ∙ is))

module _ (n : ℕ) (held : HeldEnd) (rows : ℕ → ℕ → List DataValue) (log : List (ℕ × ℕ)) (is : TellsPublished (plan_for n) 0 0 0 0 rows log held) where
  -- its version is told
  version_is : held.version ≡ Some (32 * n) → is.version ≡ 32 * n
  unfolding built_in_config built_in_read_group built_in_reader
  version_is told = same_Some is.version (32 * n) (sym is.tells.1 ∙ told)

  -- it holds that version's row
  row_is : held.version ≡ Some (32 * n) → rows 0 (32 * n) ≡ newest_row n → row_in demo.fields held.row.words ≡ newest_row n
  unfolding built_in_config built_in_group built_in_writer built_in_read_group built_in_reader demo newest_row
  row_is told newest =
      is.row ∙ ap (λ (version : ℕ). row_cut demo (rows 0 version)) (version_is told) ∙ ap (row_cut demo) newest

-- ---- the text

abbrev values : ℕ → ℕ → ℕ → ℕ → List DataValue
values a b c d = record { value = UInt32 a; status = 0 } ∷ record { value = UInt32 b; status = 0 } ∷ record { value = UInt32 c; status = 0 } ∷ record { value = UInt32 d; status = 0 } ∷ []

-- pieces of texts, glued otherwise
glued : (front a b x c y d z end : List ℕ) → front ++ (a ++ (b ++ x ++ (c ++ y ++ (d ++ z ++ [])))) ++ end ≡ front ++ a ++ b ++ x ++ c ++ y ++ d ++ z ++ end
glued front a b x c y d z end = simp (append_assoc, append-nil) refl

values_text : (a b c d : ℕ) → codes "reader r1" ++ fields_text demo.fields (values a b c d) ++ codes "\n"
    ≡ codes "reader r1 a=" ++ (decimal a ++ (codes " b=" ++ decimal b ++ (codes " c=" ++ decimal c ++ (codes " d=" ++ decimal d ++ [])))) ++ codes "\n"
unfolding demo field_text status_mark value_text_of
values_text a b c d = refl

-- the reader's line
values_line : (a b c d : ℕ) → codes "reader r1" ++ fields_text demo.fields (values a b c d) ++ codes "\n"
    ≡ codes "reader r1 a=" ++ decimal a ++ codes " b=" ++ decimal b ++ codes " c=" ++ decimal c ++ codes " d=" ++ decimal d ++ codes "\n"
values_line a b c d =
    values_text a b c d ∙ glued (codes "reader r1 a=") (decimal a) (codes " b=") (decimal b) (codes " c=") (decimal c) (codes " d=") (decimal d) (codes "\n")

newest_line : (n : ℕ) → codes "reader r1" ++ fields_text demo.fields (newest_row n) ++ codes "\n"
    ≡ codes "reader r1 a=" ++ decimal (8 * n) ++ codes " b=" ++ decimal (100000 + 8 * n) ++ codes " c=" ++ decimal (200000 + 8 * n) ++ codes " d=" ++ decimal (300000 + 8 * n) ++ codes "\n"
unfolding newest_row
newest_line n =
    let none : 100000 * 0 + 8 * n ≡ 8 * n = omega arith in
    ap (λ (a : ℕ). codes "reader r1" ++ fields_text demo.fields (values a (100000 + 8 * n) (200000 + 8 * n) (300000 + 8 * n)) ++ codes "\n") none
    ∙ values_line (8 * n) (100000 + 8 * n) (200000 + 8 * n) (300000 + 8 * n)

reader_text : (n : ℕ) (end : ReaderEnd) (held : HeldEnd) → end.held ≡ Some held → row_in demo.fields held.row.words ≡ newest_row n
    → load_reader_line built_in_config.dataset (readers_of built_in_config.readgroup) (end ∷ [])
    ≡ codes "reader r1" ++ fields_text demo.fields (newest_row n) ++ codes "\n"
unfolding built_in_config built_in_read_group built_in_reader load_reader_line load_held_as row_text
reader_text n end held is row =
    ap (λ (h : Option HeldEnd). codes "reader r1" ++ load_held_as built_in_config.dataset built_in_reader end.why h ++ codes "\n") is
    ∙ ap (λ (values : List DataValue). codes "reader r1" ++ fields_text demo.fields values ++ codes "\n") row

text_is : (n : ℕ) (closed : Closed) (end : ReaderEnd) (held : HeldEnd) → load_versions closed.histories ≡ 32 * n → closed.readers ≡ end ∷ [] → end.held ≡ Some held
    → row_in demo.fields held.row.words ≡ newest_row n → load_text built_in_config closed n (4 * n) ≡ newest_text n
unfolding load_text newest_text end_line
text_is n closed end held versions readers is row =
    ap (λ (k : ℕ). codes "load " ++ decimal n ++ codes " history " ++ decimal k ++ codes " ticks " ++ decimal (4 * n) ++ codes "\n"
    ++ load_reader_line built_in_config.dataset (readers_of built_in_config.readgroup) closed.readers ++ codes "end\n") versions
    ∙ ap (λ (line : List ℕ). codes "load " ++ decimal n ++ codes " history " ++ decimal (32 * n) ++ codes " ticks " ++ decimal (4 * n) ++ codes "\n" ++ line ++ codes "end\n")
    (ap (λ (l : List ReaderEnd). load_reader_line built_in_config.dataset (readers_of built_in_config.readgroup) l) readers ∙ reader_text n end held is row ∙ newest_line n)

-- ---- the summary

pub newest_told : (n : ℕ) (told : Option LinkState) (closed : Closed)
    → ((threads : List ℕ) → IsLegal threads (writes_to (generated n) 0) → length threads ≡ 32 * n)
    → ((threads : List ℕ) → IsLegal threads (writes_to (generated n) 0) → row_of (fields_in (generated n) 0) (history_by (generated n) 0 threads) (32 * n) ≡ newest_row n)
    → (run : IsRunOf built_in_config (generated n) told closed) → TakesWhatWasSent (plan_for n) 0 run.steps → HoldsVersion (32 * n) closed → load_text built_in_config closed n (4 * n) ≡ newest_text n
newest_told n told closed count newest run taken holds =
    let first : 0 < length built_in_config.dataset = subst (λ (k : ℕ). 0 < k) (sym one_set) (lit< tt) in
    let there : IsReaderTold (plan_for n) 0 0 0 0 run.steps (row_made (generated n) run.logs) closed =
    run.headline.readers 0 0 0 0 matched taken in
    let same : there.reader ≡ holds.end = only_reader there.ends.index holds.end there.reader closed.readers holds.reader there.ends.end_is in
    let published = there.tells.holds holds.held (ap (λ (end : ReaderEnd). end.held) same ∙ holds.held_is) in
    let row = row_is n holds.held (row_made (generated n) run.logs) there.writer.log published holds.version_is (newest (threads_of (run.logs 0)) (run.legal 0 first).legal) in
    text_is n closed holds.end holds.held (versions_told n told closed count run) holds.reader holds.held_is row

-- the link is opened for the work
pub opens_for : (n : ℕ) (config : Config) (script : Script) (opened : Option Opening) → config ≡ built_in_config → script ≡ generated n → opened ≡ Some (opening_of config script) → OpensForWork n opened
opens_for n config script opened config_is script_is is =
    is ∙ ap (λ (c : Config). Some (opening_of c script)) config_is ∙ ap (λ (s : Script). Some (opening_of built_in_config s)) script_is

-- what is made of the work's run
pub summarized : (n : ℕ) (config : Config) (script : Script) (closed : Closed) (after : Wire) (text : List ℕ) (ticks : ℕ) → config ≡ built_in_config → script ≡ generated n → 1 ≤ n → n ≤ 1024
    → IsRunOf config script after.told closed → IsReported config closed → after.opened_with ≡ Some (opening_of config script) → ticks ≡ ticks_in script.lines → text ≡ load_text config closed n ticks → Summarizes n after text
summarized n config script closed after text ticks config_is script_is least most ran reported opened ticks_are told =
    let run : IsRunOf built_in_config (generated n) after.told closed =
    subst (λ (s : Script). IsRunOf built_in_config s after.told closed) script_is (subst (λ (c : Config). IsRunOf c script after.told closed) config_is ran) in
    let count : (threads : List ℕ) → IsLegal threads (writes_to (generated n) 0) → length threads ≡ 32 * n = λ threads. law_versions n threads most in
    let four : ticks ≡ 4 * n = ticks_are ∙ ap (λ (s : Script). ticks_in s.lines) script_is ∙ law_ticks n in
    let text_told : text ≡ load_text built_in_config closed n (4 * n) = told ∙ ap (λ (c : Config). load_text c closed n ticks) config_is ∙ ap (load_text built_in_config closed n) four in
    record {
      closed = closed;
      opened = opens_for n config script after.opened_with config_is script_is opened;
      run = run;
      reported = subst (λ (c : Config). IsReported c closed) config_is reported;
      text_is = text_told;
      versions = versions_told n after.told closed count run;
      newest = λ taken holds. text_told ∙ newest_told n after.told closed count (λ threads. law_newest n threads least most) run taken holds;
    }
