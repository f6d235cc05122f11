-- What is shown of keys.
use Rattle.std.specs.Prelude.{ℕ, List, ◌++◌, codes}
use Rattle.std.specs.Fmt.{decimal}
use Rattle.ps_config.specs.declared.parts.KeyPart.{KeyPart}

-- the token and the moment alone
abbrev pub key_part : KeyPart → List ℕ
key_part key =
    codes "KeyPart { token: " ++ decimal key.token ++ codes ", from: " ++ decimal key.from ++ codes ", .. }"
