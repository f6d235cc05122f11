use Rattle.std.proofs.Common.{ℕ, ◌<◌, length, sym, ap, ◌∙◌, Some, arith}
use Rattle.std.proofs.lemmas.Option.{slice_get-get_or}
use Rattle.uadp_header.specs.Headers.{ids_of}
use Rattle.uadp_header.proofs.IdLaws.{ids-count, ids-at}
use Rattle.reader_group.proofs.payload.Messages.id.Goals as goal

pub returns : goal.returns
returns c =
    let ids = c.args.self.now.ids.now in
    let within : c.args.index < length (ids_of ids) = omega (arith, ids-count ids, c.args.self.now.count) in
    slice_get-get_or (ids_of ids) c.args.index 0 within ∙ ap (λ (n : ℕ). Some n) (ids-at ids c.args.index (omega (arith, c.args.self.now.count)) ∙ sym c.id_at.ensures)
