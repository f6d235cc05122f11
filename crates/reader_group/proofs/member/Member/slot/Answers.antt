use Rattle.std.proofs.Common.{ℕ, List, sym, subst, Option}
use Rattle.frame_codec.specs.Words.{frame_in}
use Rattle.reader_group.specs.declared.member.Member.{Member}
use Rattle.reader_group.specs.declared.notice.PartOutcome.{PartOutcome}
use Rattle.reader_group.specs.declared.receipt.Receipt.{Receipt}
use Rattle.reader_group.specs.Members.{Seat, MemberValue, seat_of}
use Rattle.reader_group.specs.MemberWords.{Follows}
use Rattle.reader_group.specs.Notices.{piece_outcome}
use Rattle.reader_group.specs.Payloads.{slot_piece}
use Rattle.reader_group.specs.Plain.{piece_case}
use Rattle.reader_group.specs.SlotFrames.{slot_frame_at}
use Rattle.reader_group.proofs.Giving.{read_follows, refused_follows}
use Rattle.reader_group.proofs.member.Member.slot.Goals as goal

abbrev FollowsSlot : Seat → Receipt → MemberValue → Member → PartOutcome → Option (List ℕ) → Type 0
FollowsSlot seat receipt member new outcome bytes =
    Follows seat (piece_case seat receipt member (slot_piece bytes)).0 (piece_outcome seat receipt member (slot_piece bytes)) new outcome

pub returns-in-Ok-clause-case : goal.returns-in-Ok-clause-case
returns-in-Ok-clause-case c = λ member h.
    let meta = c.args.meta.now in
    let seat = seat_of c.args.part.now meta in
    subst (FollowsSlot seat c.args.receipt.now member c.give_kept.new.self c.give_kept.result) c.in-Some.ensures
    (read_follows seat c.args.receipt.now member (frame_in meta.fields c.read_slot.new.self.frame) c.in-Some.bytes.now (slot_frame_at meta c.in-Some.bytes.now) c.give_kept.new.self c.give_kept.result
    (sym c.in-Ok.ensures.answer) (c.give_kept.ensures.member c.args.part.now member (c.in-Ok.ensures.member seat member h)))

pub returns-in-Err-clause-case : goal.returns-in-Err-clause-case
returns-in-Err-clause-case c = λ member h.
    let meta = c.args.meta.now in
    let seat = seat_of c.args.part.now meta in
    subst (FollowsSlot seat c.args.receipt.now member c.read_slot.new.self _) c.in-Some.ensures
    (refused_follows seat c.args.receipt.now member _ c.in-Some.bytes.now (slot_frame_at meta c.in-Some.bytes.now) c.read_slot.new.self _ (sym c.in-Err.ensures.answer) (c.in-Err.ensures.member seat member h) c.bad_frame.ensures)
