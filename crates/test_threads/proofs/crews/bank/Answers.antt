use Rattle.test_threads.proofs.Within.{first_meta, one_made}
use Rattle.test_threads.proofs.crews.bank.Goals as goal

pub returns-clause-one : goal.returns-clause-one
returns-clause-one g c = one_made c.in_ok-made.made.0 _ c.in_ok-made.ensures.metas c.from_ref.ensures.len

pub returns-clause-meta : goal.returns-clause-meta
returns-clause-meta g c = first_meta c.in_ok-made.made.0 _ c.args.meta.now c.in_ok-made.ensures.metas c.from_ref.ensures.value
