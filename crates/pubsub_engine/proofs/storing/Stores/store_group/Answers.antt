use Rattle.std.proofs.Common.{◌≡◌, ap, ◌∙◌, subst, arith, ℕ, ◌+◌, ◌<◌, length, get_or, slice_get, List, Some}
use Rattle.ps_config.specs.declared.parts.ReaderPart.{ReaderPart}
use Rattle.ps_config.specs.declared.parts.ReadGroupPart.{ReadGroupPart}
use Rattle.reader_group.specs.Settings.{group_at}
use Rattle.session_model.specs.Closing.{reader_places}
use Rattle.pubsub_engine.specs.Storing.{HaveStoredOn, MayStoreFrom, first_reader}
use Rattle.pubsub_engine.proofs.Places.{few-readers, first-more, first-most, place-at}
use Rattle.pubsub_engine.proofs.Stored.{cells-count, joined-on, may-more, one-on, placed-on, reader-of}
use Rattle.pubsub_engine.proofs.storing.Stores.store_group.Goals as goal

pub overflow_cast-i : goal.overflow_cast-i
overflow_cast-i g c =
    let parts : c.as_slice-parts.result.now ≡ (group_at c.args.config.now c.args.r).reader =
    c.as_slice-parts.ensures ∙ ap (λ (group : ReadGroupPart). group.reader) c.read_group_part.ensures in
    let within : c.loop-i.i < length (group_at c.args.config.now c.args.r).reader = subst (λ (l : List ReaderPart). c.loop-i.i < length l) parts c.loop-i-test.true in
    omega (arith, within, first-most c.args.config.now c.args.r c.requires.there, few-readers c.args.config.now c.requires.good)

pub overflow_add-first : goal.overflow_add-first
overflow_add-first g c =
    let parts : c.as_slice-parts.result.now ≡ (group_at c.args.config.now c.args.r).reader =
    c.as_slice-parts.ensures ∙ ap (λ (group : ReadGroupPart). group.reader) c.read_group_part.ensures in
    let within : c.loop-i.i < length (group_at c.args.config.now c.args.r).reader = subst (λ (l : List ReaderPart). c.loop-i.i < length l) parts c.loop-i-test.true in
    omega (arith, within, c.requires.first, first-most c.args.config.now c.args.r c.requires.there, few-readers c.args.config.now c.requires.good)

pub store-requires-clause-there : goal.store-requires-clause-there
store-requires-clause-there g c =
    let parts : c.as_slice-parts.result.now ≡ (group_at c.args.config.now c.args.r).reader =
    c.as_slice-parts.ensures ∙ ap (λ (group : ReadGroupPart). group.reader) c.read_group_part.ensures in
    let within : c.loop-i.i < length (group_at c.args.config.now c.args.r).reader = subst (λ (l : List ReaderPart). c.loop-i.i < length l) parts c.loop-i-test.true in
    omega (arith, within, c.requires.first, first-most c.args.config.now c.args.r c.requires.there, cells-count c.args.config.now c.args.targets.now.cells c.requires.may.metas)

pub store-requires-clause-small : goal.store-requires-clause-small
store-requires-clause-small g c =
    let parts : c.as_slice-parts.result.now ≡ (group_at c.args.config.now c.args.r).reader =
    c.as_slice-parts.ensures ∙ ap (λ (group : ReadGroupPart). group.reader) c.read_group_part.ensures in
    let within : c.loop-i.i < length (group_at c.args.config.now c.args.r).reader = subst (λ (l : List ReaderPart). c.loop-i.i < length l) parts c.loop-i-test.true in
    omega (arith, within, c.requires.first, first-most c.args.config.now c.args.r c.requires.there, few-readers c.args.config.now c.requires.good)

pub store-requires-clause-room : goal.store-requires-clause-room
store-requires-clause-room g c =
    let parts : c.as_slice-parts.result.now ≡ (group_at c.args.config.now c.args.r).reader =
    c.as_slice-parts.ensures ∙ ap (λ (group : ReadGroupPart). group.reader) c.read_group_part.ensures in
    let within : c.loop-i.i < length (group_at c.args.config.now c.args.r).reader = subst (λ (l : List ReaderPart). c.loop-i.i < length l) parts c.loop-i-test.true in
    c.loop-i.invariant.may.room (c.args.first + c.loop-i.i) (omega arith)
    (omega (arith, within, c.requires.first, first-most c.args.config.now c.args.r c.requires.there))

pub store-requires-clause-reader : goal.store-requires-clause-reader
store-requires-clause-reader g c =
    let parts : c.as_slice-parts.result.now ≡ (group_at c.args.config.now c.args.r).reader =
    c.as_slice-parts.ensures ∙ ap (λ (group : ReadGroupPart). group.reader) c.read_group_part.ensures in
    let within : c.loop-i.i < length (group_at c.args.config.now c.args.r).reader = subst (λ (l : List ReaderPart). c.loop-i.i < length l) parts c.loop-i-test.true in
    reader-of c.args.config.now c.args.targets.now.cells c.args.subscriber.now.groups.items c.index.result.now c.reader-reader.result.now c.args.first c.args.r c.loop-i.i
    c.requires.first c.requires.may.metas c.requires.there within c.requires.holds.groups c.index.ensures c.reader-reader.ensures.made

pub loop-i-preserved : goal.loop-i-preserved
loop-i-preserved g c =
    let config = c.args.config.now in
    let targets = c.args.targets.now in
    let groups = c.args.subscriber.now.groups.items in
    let k = c.args.first + c.loop-i.i in
    let next : k + 1 ≡ c.args.first + (c.loop-i.i + 1) = omega arith in
    let parts : c.as_slice-parts.result.now ≡ (group_at c.args.config.now c.args.r).reader =
    c.as_slice-parts.ensures ∙ ap (λ (group : ReadGroupPart). group.reader) c.read_group_part.ensures in
    let within : c.loop-i.i < length (group_at c.args.config.now c.args.r).reader = subst (λ (l : List ReaderPart). c.loop-i.i < length l) parts c.loop-i-test.true in
    let place : slice_get (reader_places config) k ≡ Some (c.args.r, c.loop-i.i) =
    ap (λ (n : ℕ). slice_get (reader_places config) (n + c.loop-i.i)) c.requires.first ∙ place-at config c.args.r c.loop-i.i c.requires.there within in
    let one : HaveStoredOn config groups k (k + 1) c.loop-i.self c.store.new.self =
    one-on config groups k (c.args.r, c.loop-i.i) c.loop-i.self c.store.new.self place c.store.ensures.adds c.store.ensures.others
    (placed-on config targets.cells groups c.index.result.now c.reader-reader.result.now c.index-parts-i.result c.args.first c.args.r c.loop-i.i c.loop-i.self c.store.new.self
    c.requires.first c.requires.may.metas c.requires.there within c.index.ensures
    (c.index-parts-i.is ∙ ap (λ (l : List ReaderPart). get_or l c.loop-i.i c.index-parts-i.result) parts) c.reader-reader.ensures.kept c.store.ensures.stored) in
    record {
      may = subst (λ (n : ℕ). MayStoreFrom config targets n c.store.new.self) next
          (may-more config targets k c.loop-i.self c.store.new.self c.loop-i.invariant.may c.store.ensures.own c.store.ensures.count c.store.ensures.others);
      on = subst (λ (n : ℕ). HaveStoredOn config groups c.args.first n c.args.self.now c.store.new.self) next
          (joined-on config groups c.args.first k (k + 1) c.args.self.now c.loop-i.self c.store.new.self (omega arith) (omega arith) c.loop-i.invariant.on one);
    }

pub returns : goal.returns
returns g c =
    let config = c.args.config.now in
    let parts : c.as_slice-parts.result.now ≡ (group_at c.args.config.now c.args.r).reader =
    c.as_slice-parts.ensures ∙ ap (λ (group : ReadGroupPart). group.reader) c.read_group_part.ensures in
    let count : length c.as_slice-parts.result.now ≡ length (group_at config c.args.r).reader = ap length parts in
    let last : c.args.first + c.loop-i.i ≡ first_reader config (c.args.r + 1) =
    omega (arith, count, c.loop-i-test.false, c.loop-i.auto.i-end, c.requires.first, first-more config c.args.r c.requires.there) in
    record {
      may = subst (λ (n : ℕ). MayStoreFrom config c.args.targets.now n c.loop-i.self) last c.loop-i.invariant.may;
      stored = subst (λ (n : ℕ). HaveStoredOn config c.args.subscriber.now.groups.items c.args.first n c.args.self.now c.loop-i.self) last c.loop-i.invariant.on;
    }
