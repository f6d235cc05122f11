-- The texts of why a state isn't restored.
use Rattle.std.specs.Prelude.{ℕ, List, ◌++◌, codes}
use Rattle.std.specs.Fmt.{decimal}
use Rattle.device.specs.declared.restoring.RestoreEnd.{RestoreEnd}
use Rattle.device.specs.declared.restoring.RestoreEnd.TheVariants.{Damaged, LaterToken, OtherConfig}

abbrev pub end_text : RestoreEnd → List ℕ
end_text Damaged = codes "the bytes are not those of a state that was stored"
end_text OtherConfig = codes "the state is of another configuration"
end_text (LaterToken keygroup) = codes "the state has a later token of key group " ++ decimal keygroup ++ codes " than its ring has"
