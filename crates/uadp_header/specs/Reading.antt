-- What a call answers of a header.
use Rattle.std.specs.Prelude.{◌≡◌, ℕ, ◌≤◌, List, length, drop, Option, Result, Ok, Err}
use Rattle.uadp_header.specs.declared.fault.HeaderFault.{HeaderFault}
use Rattle.uadp_header.specs.declared.header.Header.{Header}
use Rattle.uadp_header.specs.Headers.{SecurityValue, HeaderValue, header_in}
use Rattle.uadp_header.specs.Layout.{header_at}

-- the bytes begin with this header, which ends where the payload begins
pub record BeginsWith (bytes : List ℕ) (header : HeaderValue) (payload : ℕ) : Type 0 where
  pub within : payload ≤ length bytes
  pub read : header_at bytes ≡ Ok (header, drop payload bytes)

-- the same, where only the security header counts
pub record IsSecured (bytes : List ℕ) (security : Option SecurityValue) (payload : ℕ) : Type 0 where
  pub header : HeaderValue
  pub begins : BeginsWith bytes header payload
  pub has : header.security ≡ security

-- the header and where it ends, or the first fault
abbrev pub GivesHeader : Result (Header × ℕ) HeaderFault → List ℕ → Type 0
GivesHeader (Ok found) bytes = BeginsWith bytes (header_in found.0) found.1
GivesHeader (Err fault) bytes = header_at bytes ≡ Err fault
