-- Fronts of a sender, as they are kept while their datagram is written.
use Rattle.std.specs.Prelude.{true, false}
use Rattle.uadp_header.specs.Headers.{SecurityValue}
use Rattle.writer_group.specs.declared.front.Front.{Front}

-- what its security header says
abbrev pub front_in : Front → SecurityValue
front_in front = record {
  signed = true;
  encrypted = front.encrypted;
  footer = false;
  reset = false;
  token = front.token;
  nonce = front.nonce;
}
