use Rattle.std.proofs.Common.{◌≡◌, get_or}
use Rattle.ua_binary.specs.Reading.{rest_of}
use Rattle.row_words.specs.Patches.{patch_in}
use Rattle.frame_codec.proofs.Setting.{own_put}
use Rattle.frame_codec.proofs.content.read_put.Goals as goal

pub returns-in-Some-clause-answer : goal.returns-in-Some-clause-answer
returns-in-Some-clause-answer c =
    let fields = c.args.meta.now.fields in
    let field = c.index-fields-from.result in
    let at : field ≡ get_or fields c.args.index field = rw (c.fields.ensures.fields, c.from.ensures) at c.index-fields-from.is in
    let read = c.in-Some.ensures.read in
    λ d. record {
      answer = own_put c.args.meta.now.quality c.args.encoding fields c.args.index field (patch_in fields c.args.patch.now) (patch_in fields c.put_word.new.patch) c.in-Some.own.word c.in-Some.own.status (rest_of c.args.cursor.now) (rest_of c.read_own.new.cursor)
          c.requires.index at c.in-Some.ensures.word read.answer c.put_word.ensures.put d;
      same_bytes = read.same_bytes;
    }
