use Rattle.chunker.specs.Joining.{chunk_case}
use Rattle.chunker.specs.Joins.{numbered}
use Rattle.chunker.specs.Spelling.{chunk_at, chunk_in, without_rest}
use Rattle.reader_group.specs.Members.{seat_of}
use Rattle.reader_group.proofs.Chunking.{taken-in, refused-chunk, whole-follows, part-follows, read-chunked, unread-chunk}
use Rattle.reader_group.proofs.member.Member.chunk.Goals as goal

pub returns-in-Err-clause-case : goal.returns-in-Err-clause-case
returns-in-Err-clause-case c = λ part member h.
    unread-chunk (seat_of part c.args.meta.now) c.args.receipt.now member c.in-Err.fault (without_rest (chunk_at c.args.bytes.now)) c.args.self.now _ c.in-Err.ensures c.bad.ensures h

pub returns-in-Whole-clause-case : goal.returns-in-Whole-clause-case
returns-in-Whole-clause-case c = λ part member h.
    let seat = seat_of part c.args.meta.now in
    let laid = chunk_case member.joining (numbered (chunk_in c.in-Ok.chunk)) in
    read-chunked seat c.args.receipt.now member (chunk_in c.in-Ok.chunk) (without_rest (chunk_at c.args.bytes.now)) c.joined.new.self c.joined.result c.in-Ok.ensures
    (whole-follows seat c.args.receipt.now member laid c.args.self.now c.lay.new.joiner c.in-Whole.field-0 c.joined.new.self c.joined.result h
    (c.in-Whole.ensures member.joining h.joining) (λ value is. c.joined.ensures.case part value is))

pub returns-in-Part-clause-case : goal.returns-in-Part-clause-case
returns-in-Part-clause-case c = λ part member h.
    let seat = seat_of part c.args.meta.now in
    let laid = chunk_case member.joining (numbered (chunk_in c.in-Ok.chunk)) in
    read-chunked seat c.args.receipt.now member (chunk_in c.in-Ok.chunk) (without_rest (chunk_at c.args.bytes.now)) _ _ c.in-Ok.ensures
    (part-follows seat c.args.receipt.now member laid c.args.self.now c.lay.new.joiner c.lay.result _ h (c.lay.ensures member.joining h.joining) (taken-in c.lay.result c.in-Part.is))

pub returns-in-TooLong-clause-case : goal.returns-in-TooLong-clause-case
returns-in-TooLong-clause-case c = λ part member h.
    let seat = seat_of part c.args.meta.now in
    let laid = chunk_case member.joining (numbered (chunk_in c.in-Ok.chunk)) in
    read-chunked seat c.args.receipt.now member (chunk_in c.in-Ok.chunk) (without_rest (chunk_at c.args.bytes.now)) _ _ c.in-Ok.ensures
    (part-follows seat c.args.receipt.now member laid c.args.self.now c.lay.new.joiner c.lay.result _ h (c.lay.ensures member.joining h.joining)
    (refused-chunk c.lay.result _ _ c.in-TooLong.is c.bad-in-TooLong.ensures))

pub returns-in-BadRange-clause-case : goal.returns-in-BadRange-clause-case
returns-in-BadRange-clause-case c = λ part member h.
    let seat = seat_of part c.args.meta.now in
    let laid = chunk_case member.joining (numbered (chunk_in c.in-Ok.chunk)) in
    read-chunked seat c.args.receipt.now member (chunk_in c.in-Ok.chunk) (without_rest (chunk_at c.args.bytes.now)) _ _ c.in-Ok.ensures
    (part-follows seat c.args.receipt.now member laid c.args.self.now c.lay.new.joiner c.lay.result _ h (c.lay.ensures member.joining h.joining)
    (refused-chunk c.lay.result _ _ c.in-BadRange.is c.bad-in-BadRange.ensures))

pub returns-in-Differs-clause-case : goal.returns-in-Differs-clause-case
returns-in-Differs-clause-case c = λ part member h.
    let seat = seat_of part c.args.meta.now in
    let laid = chunk_case member.joining (numbered (chunk_in c.in-Ok.chunk)) in
    read-chunked seat c.args.receipt.now member (chunk_in c.in-Ok.chunk) (without_rest (chunk_at c.args.bytes.now)) _ _ c.in-Ok.ensures
    (part-follows seat c.args.receipt.now member laid c.args.self.now c.lay.new.joiner c.lay.result _ h (c.lay.ensures member.joining h.joining)
    (refused-chunk c.lay.result _ _ c.in-Differs.is c.bad-in-Differs.ensures))
