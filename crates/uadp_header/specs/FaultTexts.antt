-- What faults say of themselves.
use Rattle.std.specs.Prelude.{ℕ, List, ◌++◌, codes}
use Rattle.std.specs.Fmt.{decimal}
use Rattle.uadp_header.specs.declared.fault.HeaderFault.{HeaderFault}
use Rattle.uadp_header.specs.declared.fault.HeaderFault.TheVariants as header_faults

abbrev pub header_fault : HeaderFault → List ℕ
header_fault header_faults.Short =
    codes "the bytes end before the header does"
header_fault (header_faults.Version got) =
    codes "the message has UADP version " ++ decimal got ++ codes ", and only 1 is read"
header_fault header_faults.DiscoveryOut =
    codes "the message is a discovery message: send data messages here"
header_fault header_faults.BadPublisherType =
    codes "the PublisherId has a type that the standard reserves"
header_fault header_faults.ReservedBits =
    codes "the header has a message type or a flag that the standard reserves, or is a chunk without payload header"
header_fault header_faults.BadId =
    codes "the PublisherId is a String with a length below -1, or isn't UTF-8"
