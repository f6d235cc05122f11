use Rattle.std.proofs.Common.{◌≡◌, [], ◌∷◌, get_or, sym, subst, ◌∙◌, arith}
use Rattle.std.specs.Prelude.{All}
use Rattle.dataset_meta.specs.Metas.{MetaData}
use Rattle.dataset_reader.specs.Reader.{IsReaderOf}
use Rattle.ps_config.specs.Sound.{IsReadGroup, IsReader}
use Rattle.reader_group.specs.Groups.{index_of}
use Rattle.example_device.proofs.OnlyReader.{meta_is, single}
use Rattle.example_device.proofs.subscribing.held_row.Goals as goal

pub row_text-requires : goal.row_text-requires
row_text-requires c =
    let config = c.args.config.now in
    let part = c.part-item.result in
    let reader = c.reader-item.result in
    let meta = c.index-as_slice-from.result in
    let group = c.datagram.new.self in
    let groups : config.readgroup ≡ part ∷ [] = sym c.as_slice.ensures ∙ single c.as_slice.result.now part (omega arith) c.part-item.is in
    let readers : part.reader ≡ reader ∷ [] = sym c.as_slice-2.ensures ∙ single c.as_slice-2.result.now reader (omega arith) c.reader-item.is in
    let all : All (IsReadGroup config) (part ∷ []) = subst (All (IsReadGroup config)) groups c.requires.readgroups in
    let sound : IsReadGroup config part = all 0 part (omega arith) in
    let each : All (IsReader config) (reader ∷ []) = subst (All (IsReader config)) readers sound.readers in
    let own : IsReader config reader = each 0 reader (omega arith) in
    let is : meta ≡ get_or config.dataset reader.dataset meta = rw (c.as_slice-3.ensures, c.from.ensures) at c.index-as_slice-from.is in
    let first : index_of group ≡ 0 = c.in_ok-datagram.ensures.index ∙ c.in_ok-group.ensures.index in
    let same = meta_is config group part reader meta first groups readers own.dataset is in
    let reads : IsReaderOf meta c.reader.result.now =
    subst (λ (m : MetaData). IsReaderOf m c.reader.result.now) same (c.reader.ensures.made config c.in_ok-datagram.ensures.made) in
    c.in-Some.ensures.belongs meta reads
