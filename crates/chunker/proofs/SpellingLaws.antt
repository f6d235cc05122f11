-- A chunk that was written is read again, whatever follows it.
use Rattle.std.proofs.Common.{◌≡◌, ℕ, ◌+◌, ◌^◌, ◌<◌, false, List, ◌++◌, length, take, drop, Result, Ok, ℤ, pos, ltb, refl, ap, subst, ◌∙◌, append_assoc, arith}
use Rattle.std.specs.Int.{Width, w16, w32, byte_len, from_le_bytes, to_le_bytes, cast_signed}
use Rattle.std.proofs.lemmas.Bool.{le-ltb}
use Rattle.std.proofs.lemmas.Int.{to_z_pos}
use Rattle.std.proofs.lemmas.List.{length-append}
use Rattle.std.proofs.lemmas.Nat.{from_le_bytes-to_le_bytes_2, from_le_bytes-to_le_bytes_4}
use Rattle.std.proofs.Math.Seq.{take-append_seam, drop-append_seam}
use Rattle.std.proofs.Math.Nat.{mod-lt}
use Rattle.ua_binary.specs.Reading.{◌>>=◌, bytes_at, number_at}
use Rattle.chunker.specs.declared.payload.ChunkFault.{ChunkFault}
use Rattle.chunker.specs.declared.payload.ChunkFault.TheVariants.{Short}
use Rattle.chunker.specs.Chunks.{Chunk}
use Rattle.chunker.specs.Joining.{chunk_of}
use Rattle.chunker.proofs.CutLaws.{cut-size}
use Rattle.chunker.specs.Spelling.{CutCanBeWritten, chunk_bytes, IsChunk, length_of, data_at, chunk_at}

bytes_again : (n : ℕ) (text rest : List ℕ) → length text ≡ n → bytes_at Short n (text ++ rest) ≡ Ok (text, rest)
bytes_again n text rest e =
    let enough : ltb (length (text ++ rest)) (length text) ≡ false = le-ltb (length (text ++ rest)) (length text) (omega (arith, length-append text rest)) in
    let front : take (length text) (text ++ rest) ≡ text = take-append_seam text rest in
    let back : drop (length text) (text ++ rest) ≡ rest = drop-append_seam text rest in
    subst (λ k. bytes_at Short k (text ++ rest) ≡ Ok (text, rest)) e (rw (enough, front, back) refl)

number_of_bytes : (w : Width) (n : ℕ) (text rest : List ℕ) → length text ≡ byte_len w → from_le_bytes w text ≡ n → number_at Short w (text ++ rest) ≡ Ok (n, rest)
number_of_bytes w n text rest len value = rw (bytes_again (byte_len w) text rest len, value) refl

u16_again : (n : ℕ) (rest : List ℕ) → n < 2 ^ 16 → number_at Short w16 (to_le_bytes w16 n ++ rest) ≡ Ok (n, rest)
u16_again n rest h = number_of_bytes w16 n (to_le_bytes w16 n) rest refl (from_le_bytes-to_le_bytes_2 n h)

u32_again : (n : ℕ) (rest : List ℕ) → n < 2 ^ 32 → number_at Short w32 (to_le_bytes w32 n ++ rest) ≡ Ok (n, rest)
u32_again n rest h = number_of_bytes w32 n (to_le_bytes w32 n) rest refl (from_le_bytes-to_le_bytes_4 n h)

data_again : (text rest : List ℕ) → length text < 2 ^ 31 → data_at (to_le_bytes w32 (length text) ++ (text ++ rest)) ≡ Ok (text, rest)
unfolding data_at
data_again text rest short =
    let signed : cast_signed w32 (length text) ≡ pos (length text) = to_z_pos w32 (length text) short in
    ap (λ (r : Result (ℕ × List ℕ) ChunkFault). r >>= λ field. length_of (cast_signed w32 field.0) >>= λ len. bytes_at Short len field.1) (u32_again (length text) (text ++ rest) (omega (arith, short)))
    ∙ ap (λ (z : ℤ). length_of z >>= λ len. bytes_at Short len (text ++ rest)) signed ∙ bytes_again (length text) text rest refl

apart : (a b c d e rest : List ℕ) → (a ++ b ++ c ++ d ++ e) ++ rest ≡ a ++ (b ++ (c ++ (d ++ (e ++ rest))))
apart a b c d e rest = simp append_assoc

pub chunk-again : (c : Chunk) (rest : List ℕ) → IsChunk c → chunk_at (chunk_bytes c ++ rest) ≡ Ok (c, rest)
unfolding chunk_at
chunk-again c rest is =
    let part = to_le_bytes w32 (length c.bytes) ++ (c.bytes ++ rest) in
    let total = to_le_bytes w32 c.total ++ part in
    let offset = to_le_bytes w32 c.offset ++ total in
    ap chunk_at (apart (to_le_bytes w16 c.place) (to_le_bytes w32 c.offset) (to_le_bytes w32 c.total) (to_le_bytes w32 (length c.bytes)) c.bytes rest)
    ∙ ap (λ (r : Result (ℕ × List ℕ) ChunkFault). r >>= λ number. number_at Short w32 number.1 >>= λ offset. number_at Short w32 offset.1 >>= λ total. data_at total.1 >>= λ part. Ok (chunk_of number.0 offset.0 total.0 part.0, part.1))
    (u16_again c.place offset is.number)
    ∙ ap (λ (r : Result (ℕ × List ℕ) ChunkFault). r >>= λ offset. number_at Short w32 offset.1 >>= λ total. data_at total.1 >>= λ part. Ok (chunk_of c.place offset.0 total.0 part.0, part.1))
    (u32_again c.offset total is.offset)
    ∙ ap (λ (r : Result (ℕ × List ℕ) ChunkFault). r >>= λ total. data_at total.1 >>= λ part. Ok (chunk_of c.place c.offset total.0 part.0, part.1))
    (u32_again c.total part is.total)
    ∙ ap (λ (r : Result (List ℕ × List ℕ) ChunkFault). r >>= λ part. Ok (chunk_of c.place c.offset c.total part.0, part.1)) (data_again c.bytes rest is.bytes)

pub chunk-long : (c : Chunk) → length (chunk_bytes c) ≡ 14 + length c.bytes
chunk-long c =
    let a = to_le_bytes w16 c.place in
    let b = to_le_bytes w32 c.offset in
    let t = to_le_bytes w32 c.total in
    let l = to_le_bytes w32 (length c.bytes) in
    omega (arith, length-append a b, length-append (a ++ b) t, length-append (a ++ b ++ t) l, length-append (a ++ b ++ t ++ l) c.bytes)

-- a chunk of a cut has numbers of their types
pub cut-written : (room place : ℕ) (message : List ℕ) (c : Chunk) → CutCanBeWritten room place message c
cut-written room place message c has_room some short h =
    let size = cut-size room place message c has_room some h in
    record {
      number = mod-lt c.place {m = 65536} (omega arith);
      offset = omega (arith, size.total_is, size.within, short);
      total = omega (arith, size.total_is, short);
      bytes = omega (arith, size.total_is, size.within, short);
    }
