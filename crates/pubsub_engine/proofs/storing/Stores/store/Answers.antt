use Rattle.std.proofs.Common.{◌≡◌, ℕ, refl, sym, ap, ◌∙◌, subst, arith, ◌<◌, true, length, List, ◌∷◌, Option, Some}
use Rattle.std.specs.Vec.{with_item}
use Rattle.dataset_meta.specs.Metas.{MetaData}
use Rattle.dataset_reader.specs.Reader.{kept_by}
use Rattle.row_words.specs.Belonging.{Belongs, row_in}
use Rattle.version_cell.specs.Histories.{row_after}
use Rattle.version_cell.specs.Known.{Known}
use Rattle.version_cell.specs.Sets.{cell_at, pass_at}
use Rattle.session_model.specs.Stores.{Store, stored_on}
use Rattle.pubsub_engine.specs.declared.storing.Last.{Last}
use Rattle.pubsub_engine.specs.declared.storing.Stores.{Stores}
use Rattle.pubsub_engine.specs.Storing.{IsLast, IsStoredAs, held_in}
use Rattle.pubsub_engine.proofs.Stored.{held-is, now-stored, other-stored, same-stays}
use Rattle.pubsub_engine.proofs.storing.Stores.store.Goals as goal

pub returns-then-is_same-clause-stored : goal.returns-then-is_same-clause-stored
returns-then-is_same-clause-stored g c = λ stores before.
    let meta : MetaData = (cell_at c.args.targets.now.cells c.args.k).meta in
    let numbering = c.args.part.now.numbering in
    let belongs : Belongs meta c.in-Some.row.now.words = c.in-Some.ensures.belongs meta c.requires.reader in
    let now : Store = record { number = c.number-number.result; row = row_in meta.fields c.in-Some.row.now.words } in
    let held : held_in (kept_by meta.fields c.args.reader.now) ≡ Some now =
    held-is (kept_by meta.fields c.args.reader.now) c.number-number.result (row_in meta.fields c.in-Some.row.now.words) (c.in-Some.ensures.row meta.fields) (c.number-number.ensures meta.fields) in
    let is : IsLast stores meta c.row-kept.result.now.words c.index.result.now =
    subst (λ (words : List ℕ). IsLast stores meta words c.index.result.now) (sym (c.row-kept.ensures.row ∙ ap (λ (pass : Known). row_after pass.seen) c.pass.ensures.pass))
    (subst (λ (last : Last). IsLast stores meta (row_after (pass_at c.args.self.now.keeper c.args.k).seen) last) (sym c.index.ensures) (before.last c.index.result.now)) in
    let stays : stored_on numbering stores (Some now) ≡ stores =
    same-stays numbering stores now meta c.row-kept.result.now.words c.index.result.now c.is_same.result c.if-is_same.true (c.is_same.ensures.none meta)
    (λ store earlier last. c.is_same.ensures.some meta store earlier last belongs) is in
    subst (λ (o : Option Store). IsStoredAs meta (stored_on numbering stores o) c.args.self.now c.args.k) (sym held)
    (subst (λ (list : List Store). IsStoredAs meta list c.args.self.now c.args.k) (sym stays) before)

pub returns-clause-stored : goal.returns-clause-stored
returns-clause-stored g c = λ stores before.
    let meta : MetaData = (cell_at c.args.targets.now.cells c.args.k).meta in
    let numbering = c.args.part.now.numbering in
    let belongs : Belongs meta c.in-Some.row.now.words = c.in-Some.ensures.belongs meta c.requires.reader in
    let now : Store = record { number = c.number-number.result; row = row_in meta.fields c.in-Some.row.now.words } in
    let held : held_in (kept_by meta.fields c.args.reader.now) ≡ Some now =
    held-is (kept_by meta.fields c.args.reader.now) c.number-number.result (row_in meta.fields c.in-Some.row.now.words) (c.in-Some.ensures.row meta.fields) (c.number-number.ensures meta.fields) in
    let is : IsLast stores meta c.row-kept.result.now.words c.index.result.now =
    subst (λ (words : List ℕ). IsLast stores meta words c.index.result.now) (sym (c.row-kept.ensures.row ∙ ap (λ (pass : Known). row_after pass.seen) c.pass.ensures.pass))
    (subst (λ (last : Last). IsLast stores meta (row_after (pass_at c.args.self.now.keeper c.args.k).seen) last) (sym c.index.ensures) (before.last c.index.result.now)) in
    let more : stored_on numbering stores (Some now) ≡ now ∷ stores =
    other-stored numbering stores now meta c.row-kept.result.now.words c.index.result.now c.is_same.result c.if-is_same.false (c.is_same.ensures.none meta)
    (λ store earlier last. c.is_same.ensures.some meta store earlier last belongs) is in
    let low : c.args.k < length c.args.self.now.last.items = omega (arith, c.requires.count, c.requires.there) in
    let stored : Last = record { is_there = true; number = c.number-number.result } in
    let after : Stores = record { keeper = c.store.new.keeper; last = with_item c.args.self.now.last c.args.k stored } in
    subst (λ (o : Option Store). IsStoredAs meta (stored_on numbering stores o) after c.args.k) (sym held)
    (subst (λ (list : List Store). IsStoredAs meta list after c.args.k) (sym more)
    (now-stored meta stores now c.args.self.now after c.args.k stored c.in-Some.row.now.words low refl (refl, refl, refl, belongs) c.store.ensures.stored before))
