use Rattle.fixed_layout.proofs.SlotLaws.{apart-cases, cases-apart, apart-header, header-from}
use Rattle.fixed_layout.proofs.laws.slots_lie_apart_by_their_ends.Goals as goal

pub returns : goal.returns
returns c = record { two = λ one other. (apart-cases one other, cases-apart one other); header = λ start slot. (apart-header start slot, header-from start slot) }
