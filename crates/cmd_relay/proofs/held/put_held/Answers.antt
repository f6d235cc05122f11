use Rattle.std.proofs.Common.{◌++◌, List, ℕ, sym, ap, ◌∙◌, append_assoc}
use Rattle.std.proofs.lemmas.Result.{on_ok_weaker}
use Rattle.row_words.specs.Belonging.{row_in}
use Rattle.dataset_reader.specs.Reader.{kept_by}
use Rattle.std.specs.Prelude.{option_map}
use Rattle.ps_report.specs.Lines.{fields_text}
use Rattle.cmd_relay.specs.Texts.{stored_text}
use Rattle.cmd_relay.proofs.Lining.{held-none, held-some}
use Rattle.cmd_relay.proofs.held.put_held.Goals as goal

pub returns-in-None : goal.returns-in-None
returns-in-None c =
    let fields = c.args.meta.now.fields in
    let kept = kept_by fields c.args.reader.now in
    let stored = c.args.stored.now in
    let none = sym (c.row.ensures.row fields) ∙ ap (option_map (λ row. row_in fields row.now.words)) c.in-None.is in
    let text = held-none fields kept stored.store stored.version c.why.result none (c.why.ensures fields) in
    on_ok_weaker c.put_waits.result (λ e. e ∙ ap (λ (l : List ℕ). c.args.out.now.items ++ l) text) c.put_waits.ensures

pub returns-in_ok-put_stored-in-Some : goal.returns-in_ok-put_stored-in-Some
returns-in_ok-put_stored-in-Some c =
    let fields = c.args.meta.now.fields in
    let kept = kept_by fields c.args.reader.now in
    let stored = c.args.stored.now in
    let row = row_in fields c.in-Some.row.now.words in
    let some = sym (c.row.ensures.row fields) ∙ ap (option_map (λ row. row_in fields row.now.words)) c.in-Some.is in
    let text = held-some fields kept stored.store stored.version c.wide-number.result row some (c.wide-number.ensures ∙ c.number.ensures fields) in
    on_ok_weaker c.put_row.result
    (λ e. e ∙ ap (λ (l : List ℕ). l ++ fields_text fields row) c.in_ok-put_stored-in-Some.ensures
    ∙ append_assoc c.args.out.now.items (stored_text c.wide-number.result stored.store stored.version) (fields_text fields row)
    ∙ ap (λ (l : List ℕ). c.args.out.now.items ++ l) text) c.put_row.ensures
