-- What faults say of themselves.
use Rattle.std.specs.Prelude.{ℕ, List, ◌++◌, codes}
use Rattle.std.specs.Fmt.{decimal}
use Rattle.key_service.specs.declared.service_fault.KeyFault.{KeyFault}
use Rattle.key_service.specs.declared.service_fault.KeyFault.TheVariants as key_faults
use Rattle.key_service.specs.declared.service_fault.ServiceFault.{ServiceFault}
use Rattle.key_service.specs.declared.service_fault.ServiceFault.TheVariants as service_faults
use Rattle.key_service.specs.declared.wire_fault.WireFault.{WireFault}
use Rattle.key_service.specs.declared.wire_fault.WireFault.TheVariants as wire_faults

abbrev pub service_fault : ServiceFault → List ℕ
service_fault service_faults.TooFew =
    codes "a key service wants two keys or more: the distance of their moments is the lifetime"
service_fault (service_faults.NotConsecutive index) =
    codes "key " ++ decimal index ++ codes " doesn't have the token after that of the key before it"
service_fault (service_faults.Uneven index) =
    codes "key " ++ decimal index
    ++ codes " isn't as far from the key before it as the second is from the first"

abbrev pub key_fault : KeyFault → List ℕ
key_fault key_faults.NotFound = codes "the key service is that of another security group"

abbrev pub wire_fault : WireFault → List ℕ
wire_fault wire_faults.Short = codes "the bytes end too early"
wire_fault wire_faults.BadName = codes "the name of the security group is no name"
wire_fault wire_faults.BadPolicy = codes "the security policy is none of PubSub-Aes128-CTR and PubSub-Aes256-CTR"
wire_fault wire_faults.BadKeys =
    codes "the keys are none or more than 16, or a length, a token or a moment of theirs is out of range"
wire_fault wire_faults.Trailing = codes "bytes follow the end"
