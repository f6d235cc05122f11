use Rattle.std.proofs.Common.{ap, refl, ◌/◌}
use Rattle.std.proofs.lemmas.Bool.{false≢true}
use Rattle.std.proofs.lemmas.Result.{err_from_is_err_and}
use Rattle.reader_group.proofs.Opened.{listed-found, listed-refused}
use Rattle.reader_group.proofs.opening.find_listed.Goals as goal

pub returns-in_err-split : goal.returns-in_err-split
returns-in_err-split c =
    let p = err_from_is_err_and c.from_residual.result c.from_residual.ensures.1 in
    rw (p.1, p.2) (λ x. listed-refused c.args.room.now.ids.items c.args.payload.now (c.len.result / 2) x (ap (λ n. n / 2) c.len.ensures.value) (c.in_err-split.ensures.refused.0 refl))

pub returns : goal.returns
returns c =
    listed-found c.args.payload.now (c.len.result / 2) c.args.room.now (record c.args.room.now { parts = c.split.new.parts }) c.requires (ap (λ n. n / 2) c.len.ensures.value)
    (λ bad. false≢true (c.in_ok-split.ensures.refused.1 bad)) refl c.in_ok-split.ensures.frames c.in_ok-split.ensures.within
