use Rattle.uadp_header.proofs.Ranges.{header-is_read, nonce-short}
use Rattle.uadp_header.proofs.laws.read_headers_are_headers.Goals as goal

pub returns : goal.returns
returns c = record { header = header-is_read; nonce = nonce-short }
