use Rattle.std.proofs.Common.{◌≡◌, refl, sym, ap, ◌∙◌, subst, ℕ, List, length, get_or, slice_get, Some}
use Rattle.ps_config.specs.declared.parts.Config.{Config}
use Rattle.ps_config.specs.declared.parts.ReadGroupPart.{ReadGroupPart}
use Rattle.ps_config.specs.declared.parts.ReaderPart.{ReaderPart}
use Rattle.ps_report.specs.Told.{grouped_readers}
use Rattle.version_cell.specs.Histories.{row_after}
use Rattle.version_cell.specs.Known.{Known}
use Rattle.version_cell.specs.Sets.{pass_at}
use Rattle.session_model.specs.Steps.{Plan}
use Rattle.session_model.specs.Closing.{MemberPlace, reader_places}
use Rattle.session_model.specs.Stores.{Store}
use Rattle.pubsub_engine.specs.declared.storing.Last.{Last}
use Rattle.pubsub_engine.specs.declared.storing.Stores.{Stores}
use Rattle.pubsub_engine.specs.Logs.{IsLogRead, log_after, logs_told}
use Rattle.pubsub_engine.specs.Storing.{HaveStored, IsLast, meta_at_place}
use Rattle.pubsub_engine.proofs.Origins.{is-origin, no-origin}
use Rattle.pubsub_engine.proofs.storing.Stores.origin.Goals as goal

-- the last store is at the reader's index
last-at : (p : Plan) (list : MemberPlace → List Store) (place : MemberPlace) (s : Stores) (k j : ℕ) (last : Last) → HaveStored p.config list s
    → slice_get (reader_places p.config) k ≡ Some place → j ≡ k → last ≡ get_or s.last.items j last
    → IsLast (list place) (meta_at_place p.config place) (row_after (pass_at s.keeper k).seen) last
last-at p list place s k j last stored at is found =
    subst (λ (l : Last). IsLast (list place) (meta_at_place p.config place) (row_after (pass_at s.keeper k).seen) l) (sym (found ∙ ap (λ n. get_or s.last.items n last) is))
    ((stored k place at).last last)

pub returns-then-not-last : goal.returns-then-not-last
returns-then-not-last c = λ most p metas deeds list place same logged past stored at.
    no-origin (logs_told c.args.versions (log_after most p.config deeds)) p place (list place) (meta_at_place p.config place) (row_after (pass_at c.args.self.now.keeper c.args.reader).seen) c.index-last.result.now c.if-not-last.true
    (last-at p list place c.args.self.now c.args.reader c.from.result c.index-last.result.now stored at c.from.ensures c.index-last.ensures)

pub returns : goal.returns
returns c = λ most p metas deeds list place same logged past stored at.
    let k = c.args.reader in
    let log = c.log_read-log.result.now in
    let publisher = c.args.publisher.now in
    is-origin c.args.versions most p metas deeds place (list place) (meta_at_place p.config place) (row_after (pass_at c.args.self.now.keeper c.args.reader).seen) c.index-last.result.now (pass_at c.args.self.now.keeper k) publisher log
    (record { store = c.version.result; number = c.index-last.result.now.number; version = c.version_at.result }) k c.if-not-last.false
    (last-at p list place c.args.self.now k c.from.result c.index-last.result.now stored at c.from.ensures c.index-last.ensures)
    (stored k place at).seen at logged past
    (subst (λ (config : Config). (it : ReadGroupPart × ReaderPart) → slice_get (grouped_readers config.readgroup) k ≡ Some it → IsLogRead c.args.versions config publisher it log) (sym same)
    (subst (λ (n : ℕ). (it : ReadGroupPart × ReaderPart) → slice_get (grouped_readers c.args.config.now.readgroup) n ≡ Some it → IsLogRead c.args.versions c.args.config.now publisher it log)
    c.from-2.ensures c.log_read-log.ensures.log))
    (c.version.ensures ∙ ap (λ (pass : Known). length pass.seen) c.pass.ensures.pass) refl c.version_at.ensures
