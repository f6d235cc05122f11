-- What a reader keeps beside the chunks that are joined doesn't hang on them.
use Rattle.std.proofs.Common.{◌≡◌, refl, sym, ap, ℕ}
use Rattle.dataset_reader.specs.Cases.{frame_case}
use Rattle.dataset_reader.specs.declared.took.Outcome.{Outcome}
use Rattle.dataset_reader.specs.declared.took.Outcome.TheVariants as outcomes
use Rattle.frame_codec.specs.Frames.{Frame}
use Rattle.chunker.specs.Joining.{Joining}
use Rattle.reader_group.specs.declared.receipt.Receipt.{Receipt}
use Rattle.reader_group.specs.Members.{Seat, MemberValue, noted, confirmed_by, numbering_of}
use Rattle.reader_group.specs.Plain.{given, short, taken_in}

abbrev pub with_joining : MemberValue → Joining → MemberValue
with_joining member joining = record member { joining = joining }

noted-joining : (now : ℕ) (outcome : Outcome) (member : MemberValue) (joining : Joining) → noted now outcome (with_joining member joining) ≡ with_joining (noted now outcome member) joining
noted-joining now outcomes.Held member joining = refl
noted-joining now outcomes.Alive member joining = refl
noted-joining now outcomes.Older member joining = refl
noted-joining now (outcomes.Waiting why) member joining = refl
noted-joining now (outcomes.WrongMajor got) member joining = refl
noted-joining now outcomes.Unnumbered member joining = refl

pub given-joining : (seat : Seat) (receipt : Receipt) (member : MemberValue) (frame : Frame) (joining : Joining) → given seat receipt (with_joining member joining) frame ≡ with_joining (given seat receipt member frame) joining
given-joining seat receipt member frame joining =
    let taken = frame_case (numbering_of seat.part.numbering) seat.meta.major member.kept (short frame) receipt.stamp in
    ap (confirmed_by receipt.moment taken.1.outcome (short frame).number) (noted-joining receipt.moment taken.1.outcome (taken_in member taken) joining)

joining-noted : (now : ℕ) (outcome : Outcome) (member : MemberValue) → (noted now outcome member).joining ≡ member.joining
joining-noted now outcomes.Held member = refl
joining-noted now outcomes.Alive member = refl
joining-noted now outcomes.Older member = refl
joining-noted now (outcomes.Waiting why) member = refl
joining-noted now (outcomes.WrongMajor got) member = refl
joining-noted now outcomes.Unnumbered member = refl

-- what a reader is given leaves the chunks
pub joining-given : (seat : Seat) (receipt : Receipt) (member : MemberValue) (frame : Frame) → with_joining (given seat receipt member frame) member.joining ≡ given seat receipt member frame
joining-given seat receipt member frame =
    let taken = frame_case (numbering_of seat.part.numbering) seat.meta.major member.kept (short frame) receipt.stamp in
    ap (with_joining (given seat receipt member frame)) (sym (joining-noted receipt.moment taken.1.outcome (taken_in member taken)))
