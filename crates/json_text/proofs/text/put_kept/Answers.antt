use Rattle.std.proofs.Common.{◌≡◌, ◌++◌, ℕ, List, Option, ap, subst, ◌∙◌}
use Rattle.std.specs.Prelude.{OnOk}
use Rattle.std.proofs.lemmas.Result.{on_ok_weaker}
use Rattle.row_words.specs.Belonging.{row_in}
use Rattle.dataset_reader.specs.Reader.{kept_by}
use Rattle.ps_report.specs.Lines.{fields_text, waits_text}
use Rattle.json_text.specs.Texts.{kept_text, number_text, row_text}
use Rattle.json_text.proofs.Puts.{two_put}
use Rattle.json_text.proofs.text.put_kept.Goals as goal

pub returns-in-None : goal.returns-in-None
returns-in-None c =
    let fields = c.args.meta.now.fields in
    let kept = kept_by fields c.args.reader.now in
    let text : waits_text c.why.result ≡ kept_text fields kept =
    ap waits_text (c.why.ensures fields) ∙ ap (row_text fields kept) (c.in-None.ensures.row fields) in
    subst (λ (t : List ℕ). OnOk c.put_waits.result (c.put_waits.new.out.items ≡ c.args.out.now.items ++ t)) text c.put_waits.ensures

pub returns-in_ok-put_number-in-Some : goal.returns-in_ok-put_number-in-Some
returns-in_ok-put_number-in-Some c =
    let fields = c.args.meta.now.fields in
    let kept = kept_by fields c.args.reader.now in
    let row = row_in fields c.in-Some.row.now.words in
    let text : number_text c.number.result ++ fields_text fields row ≡ kept_text fields kept =
    ap (λ (n : Option ℕ). number_text n ++ fields_text fields row) (c.number.ensures fields) ∙ ap (row_text fields kept) (c.in-Some.ensures.row fields) in
    subst (λ (t : List ℕ). OnOk c.put_row.result (c.put_row.new.out.items ≡ c.args.out.now.items ++ t)) text
    (on_ok_weaker c.put_row.result
    (λ e. two_put c.args.out.now.items (number_text c.number.result) (fields_text fields row) c.put_number.new.out.items c.put_row.new.out.items c.in_ok-put_number-in-Some.ensures e)
    c.put_row.ensures)
