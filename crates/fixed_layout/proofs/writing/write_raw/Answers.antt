use Rattle.std.proofs.Common.{◌+◌, Bool, true, false, length, arith, refl, inl, inr}
use Rattle.std.proofs.lemmas.Bool.{cases_lt}
use Rattle.row_words.specs.Belonging.{row_in}
use Rattle.fixed_layout.specs.Spelling.{raw_size}
use Rattle.fixed_layout.proofs.Sizes.{length-raw_row}
use Rattle.fixed_layout.proofs.writing.write_raw.Goals as goal

pub returns-then-not-has_room : goal.returns-then-not-has_room
returns-then-not-has_room c = record {
  no_room = elim (cases_lt (length c.args.pen.now.bytes.now) (c.args.pen.now.at + raw_size c.args.meta.now.fields)) [
    | inl short ↦ omega (arith, short, length-raw_row c.args.meta.now.quality c.args.meta.now.fields (row_in c.args.meta.now.fields c.args.row.now.words) c.requires.row)
    | inr enough ↦ absurd (let no : Path Bool false true = c.if-not-has_room.ensures.1 enough in cc)
  ];
  stays = refl;
}

pub put_row-requires-clause-room : goal.put_row-requires-clause-room
put_row-requires-clause-room c =
    omega (arith, c.if-not-has_room.ensures.0 refl, length-raw_row c.args.meta.now.quality c.args.meta.now.fields (row_in c.args.meta.now.fields c.args.row.now.words) c.requires.row)
