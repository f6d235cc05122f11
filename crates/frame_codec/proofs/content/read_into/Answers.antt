use Rattle.std.proofs.Common.{◌≡◌, get_or}
use Rattle.ua_binary.specs.Reading.{rest_of}
use Rattle.row_words.specs.Belonging.{row_in}
use Rattle.frame_codec.proofs.Setting.{own_set}
use Rattle.frame_codec.proofs.content.read_into.Goals as goal

pub returns-in-Some-clause-answer : goal.returns-in-Some-clause-answer
returns-in-Some-clause-answer c =
    let fields = c.args.meta.now.fields in
    let field = c.index-fields-from.result in
    let at : field ≡ get_or fields c.args.index field = rw (c.fields.ensures.fields, c.from.ensures) at c.index-fields-from.is in
    let read = c.in-Some.ensures.read in
    λ d. record {
      answer = own_set c.args.meta.now.quality c.args.encoding fields c.args.index field (row_in fields c.args.row.now.words) (row_in fields c.set_word.new.row.words) c.in-Some.own.word c.in-Some.own.status (rest_of c.args.cursor.now) (rest_of c.read_own.new.cursor)
          c.requires.index at c.in-Some.ensures.word read.answer c.set_word.ensures.set d;
      same_bytes = read.same_bytes;
    }
