-- How long a header is at most.
use Rattle.std.proofs.Common.{ℕ, ◌≤◌, Bool, true, false, is_some, nat_lt, arith}
use Rattle.uadp_header.specs.Headers.{HeaderValue}
use Rattle.ua_binary.specs.Wire.{flag}
use Rattle.uadp_header.specs.Spelling.{header_len, len_if, publisher_len, ids_len, security_len, is_chunk, extended1_in}

pub flag_most : (set : Bool) (weight : ℕ) → flag set weight ≤ weight
flag_most true weight = omega arith
flag_most false weight = omega arith

pub header_most : (h : HeaderValue) → len_if publisher_len h.publisher ≤ 260 → ids_len h.ids ≤ 2 → len_if security_len h.security ≤ 14 → header_len h ≤ 400
unfolding header_len
header_most h publisher ids security =
    omega (
      arith,
      publisher,
      ids,
      security,
      flag_most (nat_lt 0 (extended1_in h)) 1,
      flag_most (is_chunk h.ids) 1,
      flag_most (is_some h.class_id) 16,
      flag_most (is_some h.group) 2,
      flag_most (is_some h.version) 4,
      flag_most (is_some h.message_number) 2,
      flag_most (is_some h.sequence) 2,
    )
