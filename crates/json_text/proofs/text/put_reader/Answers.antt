use Rattle.std.proofs.Common.{◌≡◌, ◌++◌, ℕ, List, ap, ◌∙◌}
use Rattle.std.specs.Prelude.{codes}
use Rattle.std.proofs.lemmas.Result.{on_ok_weaker}
use Rattle.dataset_meta.specs.Metas.{MetaData}
use Rattle.dataset_reader.specs.Reader.{kept_by}
use Rattle.ps_report.specs.Lines.{feed}
use Rattle.json_frames.specs.Parts.{meta_at, parts_in}
use Rattle.json_text.specs.Readers.{kept_for}
use Rattle.json_text.specs.Texts.{kept_text, reader_line}
use Rattle.json_text.proofs.Puts.{four_put}
use Rattle.json_text.proofs.text.put_reader.Goals as goal

pub returns : goal.returns
unfolding reader_line
returns c =
    let config = c.args.config.now in
    let reader = c.reader_over-reader.result in
    let meta = meta_at config.dataset c.args.part.now.dataset in
    let kept = kept_for config (parts_in config.dataset c.args.parts.now) c.args.part.now in
    let its : kept_text c.meta_of-meta.result.now.fields (kept_by c.meta_of-meta.result.now.fields reader) ≡ kept_text meta.fields kept =
    ap (λ (m : MetaData). kept_text m.fields (kept_by m.fields reader)) c.meta_of-meta.ensures ∙ ap (kept_text meta.fields) c.reader_over-reader.ensures.kept in
    on_ok_weaker c.put_feed.result
    (λ e. four_put c.args.out.now.items (codes "jsonreader ") c.args.part.now.name (kept_text meta.fields kept) feed
    c.put.new.out.items c.put-2.new.out.items c.put_kept.new.out.items c.put_feed.new.out.items
    c.in_ok-put.ensures (c.in_ok-put-2.ensures ∙ ap (λ (l : List ℕ). c.put.new.out.items ++ l) c.as_bytes.ensures.bytes)
    (c.in_ok-put_kept.ensures ∙ ap (λ (l : List ℕ). c.put-2.new.out.items ++ l) its) e)
    c.put_feed.ensures
