use Rattle.std.proofs.Common.{◌≡◌, ◌∙◌, ℕ, ◌<◌, ◌++◌, List, length, get_or, sym, ap, subst, arith}
use Rattle.std.specs.Prelude.{slice_index_or}
use Rattle.std.proofs.lemmas.Result.{on_ok_weaker}
use Rattle.dataset_meta.specs.Metas.{MetaData, no_meta}
use Rattle.dataset_reader.specs.Reader.{IsReaderOf, kept_by}
use Rattle.ps_config.specs.declared.parts.Config.{Config}
use Rattle.ps_config.specs.declared.parts.ReadGroupPart.{ReadGroupPart}
use Rattle.ps_config.specs.declared.parts.ReaderPart.{ReaderPart}
use Rattle.reader_group.specs.Members.{Seat, no_seat, seat_at, seat_of}
use Rattle.reader_group.specs.Settings.{group_at as read_group_at, no_group, setting_of}
use Rattle.pubsub_engine.proofs.Places.{few-readers, first-most}
use Rattle.gateway_core.specs.Lived.{session_steps}
use Rattle.gateway_core.specs.Holding.{sources_of}
use Rattle.cmd_relay.specs.Texts.{kept_by_index}
use Rattle.cmd_relay.proofs.Lining.{line-is}
use Rattle.cmd_relay.proofs.Matched.{read-at}
use Rattle.cmd_relay.proofs.TextOf.{seat-read, set-there}
use Rattle.cmd_relay.proofs.text.put_matched.Goals as goal

pub overflow_cast-i : goal.overflow_cast-i
overflow_cast-i c =
    let second = c.args.second.now in
    omega (arith, few-readers second c.requires.gateway.good, first-most second c.args.r c.requires.within, c.requires.there)

pub put_relayed-requires : goal.put_relayed-requires
put_relayed-requires c =
    let second = c.args.second.now in
    let r = c.args.r in
    let i = c.args.i in
    let group = c.index-groups-r.result in
    let part = c.index-readers-i.result in
    let meta = c.index-sets-from.result in
    let same : read_group_at second r ≡ group = read-at second.readgroup r group no_group c.requires.within (c.index-groups-r.is ∙ ap (λ (l : List ReadGroupPart). get_or l r group) c.as_slice-groups.ensures) in
    let listed : c.as_slice-readers.result.now ≡ (read_group_at second r).reader = c.as_slice-readers.ensures ∙ ap (λ (x : ReadGroupPart). x.reader) (sym c.index-groups-r.is ∙ sym same) in
    let at : get_or (read_group_at second r).reader i no_seat.part ≡ part =
    read-at (read_group_at second r).reader i part no_seat.part c.requires.there (c.index-readers-i.is ∙ ap (λ (l : List ReaderPart). get_or l i part) listed) in
    let low : part.dataset < length second.dataset = subst (λ (x : ReaderPart). x.dataset < length second.dataset) at (set-there second r i c.requires.gateway.good c.requires.within c.requires.there) in
    let own : slice_index_or second.dataset part.dataset no_meta ≡ meta =
    read-at second.dataset part.dataset meta no_meta low
    (c.index-sets-from.is ∙ ap (λ (n : ℕ). get_or c.as_slice-sets.result.now n meta) c.from.ensures ∙ ap (λ (l : List MetaData). get_or l part.dataset meta) c.as_slice-sets.ensures) in
    let seat : seat_at (setting_of second r).seats i ≡ seat_of part meta = seat-read second r i part meta c.requires.there at own in
    subst (λ (x : MetaData). IsReaderOf x c.reader-reader.result.now)
    (ap (λ (x : Config). (seat_at (setting_of x r).seats i).meta) c.requires.gateway.config ∙ ap (λ (x : Seat). x.meta) seat) c.reader-reader.ensures.made

pub returns : goal.returns
returns c =
    let second = c.args.second.now in
    let r = c.args.r in
    let i = c.args.i in
    let group = c.index-groups-r.result in
    let part = c.index-readers-i.result in
    let meta = c.index-sets-from.result in
    let same : read_group_at second r ≡ group = read-at second.readgroup r group no_group c.requires.within (c.index-groups-r.is ∙ ap (λ (l : List ReadGroupPart). get_or l r group) c.as_slice-groups.ensures) in
    let listed : c.as_slice-readers.result.now ≡ (read_group_at second r).reader = c.as_slice-readers.ensures ∙ ap (λ (x : ReadGroupPart). x.reader) (sym c.index-groups-r.is ∙ sym same) in
    let at : get_or (read_group_at second r).reader i no_seat.part ≡ part =
    read-at (read_group_at second r).reader i part no_seat.part c.requires.there (c.index-readers-i.is ∙ ap (λ (l : List ReaderPart). get_or l i part) listed) in
    let low : part.dataset < length second.dataset = subst (λ (x : ReaderPart). x.dataset < length second.dataset) at (set-there second r i c.requires.gateway.good c.requires.within c.requires.there) in
    let own : slice_index_or second.dataset part.dataset no_meta ≡ meta =
    read-at second.dataset part.dataset meta no_meta low
    (c.index-sets-from.is ∙ ap (λ (n : ℕ). get_or c.as_slice-sets.result.now n meta) c.from.ensures ∙ ap (λ (l : List MetaData). get_or l part.dataset meta) c.as_slice-sets.ensures) in
    let seat : seat_at (setting_of second r).seats i ≡ seat_of part meta = seat-read second r i part meta c.requires.there at own in
    let g = c.args.g in
    let w = c.args.w in
    let from = sources_of c.args.gateway.now in
    let reader = c.reader-reader.result.now in
    let stored = c.stored_at-stored.result in
    on_ok_weaker c.put_relayed.result
    (λ put lived stands. put ∙ ap (λ (l : List ℕ). c.args.out.now.items ++ l)
    (line-is second (session_steps from lived) (kept_by_index from lived) r i g w part meta (kept_by meta.fields reader) stored.store stored.version c.number.result part.dataset seat
    (ap (λ (x : Seat). kept_by x.meta.fields reader) (sym seat) ∙ c.reader-reader.ensures.kept second lived stands) (c.number.ensures meta.fields)
    (c.stored_at-stored.ensures second lived stands).0 (c.stored_at-stored.ensures second lived stands).1
    (ap (λ (x : ReaderPart). x.dataset) (sym at) ∙ c.requires.matched.reads.dataset)))
    c.put_relayed.ensures
