use Rattle.frame_codec.proofs.LayoutLaws.{same-front, same-layout}
use Rattle.frame_codec.proofs.laws.layouts_differ_in_raw_data_alone.Goals as goal

pub returns-clause-answers : goal.returns-clause-answers
returns-clause-answers c = same-front

pub returns-clause-fronts : goal.returns-clause-fronts
returns-clause-fronts c = same-layout
