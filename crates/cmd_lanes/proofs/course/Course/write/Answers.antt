use Rattle.std.proofs.Common.{◌≡◌, ℕ, ◌+◌, ◌<◌, List, length, get_or, set, refl, sym, ap, ◌∙◌, subst, arith}
use Rattle.std.proofs.lemmas.List.{get_or_read}
use Rattle.dataset_meta.specs.Metas.{MetaData, no_meta}
use Rattle.row_words.specs.Belonging.{Belongs}
use Rattle.writer_group.specs.declared.sampled.Sampled.{Sampled}
use Rattle.writer_group.specs.Turns.{no_sample}
use Rattle.session_model.specs.Sets.{meta_in}
use Rattle.pubsub_engine.proofs.Cutting.{allzip-at}
use Rattle.ps_report.proofs.Pairs.{zip_length}
use Rattle.cmd_lanes.specs.Courses.{written}
use Rattle.cmd_lanes.proofs.Samples.{rows-set}
use Rattle.cmd_lanes.proofs.course.Course.write.Goals as goal

abbrev Fits : MetaData → Sampled → Type 0
Fits meta sampled = Belongs meta sampled.row.words

pub index_mut-sampled-requires : goal.index_mut-sampled-requires
index_mut-sampled-requires c =
    let rows = c.args.self.now.rows in
    omega (arith, c.requires.may.there, zip_length Fits c.args.metas.now rows.items c.requires.may.rows, rows.ok.0)

-- what was read of the metas and of the rows
module _ {n : ℕ} (metas : List MetaData) (rows : List Sampled) (meta : MetaData) (sampled : Sampled) (low : n < length metas) (is_meta : meta ≡ get_or metas n meta) (count : length rows ≡ length metas)
    (is_sampled : sampled ≡ get_or rows n sampled) where
  meta-is : meta ≡ meta_in metas n
  meta-is = get_or_read metas n meta low is_meta no_meta

  sampled-is : (d : Sampled) → sampled ≡ get_or rows n d
  sampled-is d = get_or_read rows n sampled (omega (arith, low, count)) is_sampled d

pub lay-requires-clause-belongs : goal.lay-requires-clause-belongs
lay-requires-clause-belongs c =
    let metas = c.args.metas.now in
    let rows = c.args.self.now.rows.items in
    let may = c.requires.may in
    let count = zip_length Fits metas rows may.rows in
    let meta = meta-is metas rows c.index-metas-set.result c.index_mut-sampled.result.now may.there c.index-metas-set.is count c.index_mut-sampled.ensures.value in
    let sampled = sampled-is metas rows c.index-metas-set.result c.index_mut-sampled.result.now may.there c.index-metas-set.is count c.index_mut-sampled.ensures.value no_sample in
    subst (λ (m : MetaData). Belongs m c.index_mut-sampled.result.now.row.words) (sym meta)
    (subst (λ (s : Sampled). Belongs (meta_in metas c.args.set) s.row.words) (sym sampled) (allzip-at Fits metas rows c.args.set no_meta no_sample may.rows may.there))

pub returns : goal.returns
returns c =
    let metas = c.args.metas.now in
    let rows = c.args.self.now.rows.items in
    let may = c.requires.may in
    let count = zip_length Fits metas rows may.rows in
    let meta = meta-is metas rows c.index-metas-set.result c.index_mut-sampled.result.now may.there c.index-metas-set.is count c.index_mut-sampled.ensures.value in
    record {
      rows = λ d.
          ap (λ (words : List ℕ). set rows c.args.set (record { row = record { words = words }; version = c.index_mut-sampled.result.now.version + 1 })) c.lay.ensures.words
          ∙ ap (λ (m : MetaData). set rows c.args.set (written m c.args.patch.now c.index_mut-sampled.result.now)) meta
          ∙ ap (λ (s : Sampled). set rows c.args.set (written (meta_in metas c.args.set) c.args.patch.now s))
          (sampled-is metas rows c.index-metas-set.result c.index_mut-sampled.result.now may.there c.index-metas-set.is count c.index_mut-sampled.ensures.value d);
      belong = rows-set metas rows c.args.set (record { row = c.lay.new.row; version = c.index_mut-sampled.result.now.version + 1 }) may.rows may.there
          (subst (λ (m : MetaData). Belongs m c.lay.new.row.words) meta c.lay.ensures.belongs);
      rest = refl;
    }
