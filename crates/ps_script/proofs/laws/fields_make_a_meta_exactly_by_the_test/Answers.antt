use Rattle.ps_script.proofs.MetaTest.{meta_passes, passes_meta}
use Rattle.ps_script.proofs.laws.fields_make_a_meta_exactly_by_the_test.Goals as goal

pub returns : goal.returns
returns c = λ fields. (passes_meta fields, meta_passes fields)
