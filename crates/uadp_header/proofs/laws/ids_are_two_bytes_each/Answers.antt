use Rattle.uadp_header.proofs.IdLaws.{ids-again, ids-count, ids-at}
use Rattle.uadp_header.proofs.laws.ids_are_two_bytes_each.Goals as goal

pub returns : goal.returns
returns c = record { again = ids-again; count = ids-count; at = ids-at }
