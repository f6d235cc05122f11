use Rattle.std.proofs.Common.{◌≡◌, List, ℕ, Option, is_some, length, subst}
use Rattle.ua_binary.specs.Wire.{flag}
use Rattle.uadp_header.specs.Spelling.{len_if}
use Rattle.writer_group.proofs.settings.a_class_id_is_whole.Goals as goal

pub returns : goal.returns
returns c = subst (λ (o : Option (List ℕ)). len_if length o ≡ flag (is_some o) 16) c.whole-id.ensures.same c.whole-id.ensures.long
