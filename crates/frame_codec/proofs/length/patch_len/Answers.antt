use Rattle.std.proofs.Common.{◌≡◌, ◌<◌, ◌≤◌, ◌∙◌, ap, sym, length, take, arith, length-append}
use Rattle.std.specs.Int.{w16, to_le_bytes}
use Rattle.std.proofs.lemmas.List.{take_all}
use Rattle.row_words.specs.Belonging.{row_in}
use Rattle.row_words.specs.Patches.{marked_from, patch_in}
use Rattle.row_words.proofs.FieldLaws.{stands_at}
use Rattle.frame_codec.specs.Spelling.{value_bytes, change_bytes, changes_bytes}
use Rattle.frame_codec.proofs.Laid.{length-row_in, changes-marked, changes-unmarked, at_stands}
use Rattle.frame_codec.proofs.length.patch_len.Goals as goal
use Rattle.frame_codec.proofs.length.patch_len.Goals.{then-is_marked, else-is_marked}

pub loop-index-preserved : goal.loop-index-preserved
loop-index-preserved c =
    let fields = c.args.meta.now.fields in
    let quality = c.args.meta.now.quality in
    let row = row_in fields c.args.patch.now.row.words in
    let within : c.loop-index.index < length row = omega (arith, length-row_in fields c.args.patch.now.row.words, rw c.fields-index-end.ensures.fields at c.loop-index-test.true) in
    let s = stands_at row c.loop-index.index within in
    elim c.if-is_marked.branch [
      | then-is_marked w ↦ let here : w.value_len.result ≡ length (value_bytes quality s.x) = at_stands (λ x. w.value_len.result ≡ length (value_bytes quality x)) row c.loop-index.index s w.value_len.ensures.len in record {
        so_far = omega (
          arith,
          w.len-is,
          here,
          c.loop-index.invariant.so_far,
          ap length (changes-marked quality row c.args.patch.now.mask c.loop-index.index within s (sym c.is_marked.ensures ∙ w.if-is_marked.true)),
          length-append (changes_bytes quality (marked_from 0 c.args.patch.now.mask (take c.loop-index.index row))) (change_bytes quality (c.loop-index.index, s.x)),
          length-append (to_le_bytes w16 c.loop-index.index) (value_bytes quality s.x),
        );
        small = omega (arith, w.len-is, w.value_len.ensures.small, c.loop-index.invariant.small);
      }
      | else-is_marked w ↦ record {
        so_far = omega (arith, w.len-is, c.loop-index.invariant.so_far, ap length (changes-unmarked quality row c.args.patch.now.mask c.loop-index.index within (sym c.is_marked.ensures ∙ w.if-is_marked.false)));
        small = omega (arith, w.len-is, c.loop-index.invariant.small);
      }
    ]

pub returns-clause-len : goal.returns-clause-len
unfolding patch_in
returns-clause-len c =
    let fields = c.args.meta.now.fields in
    let row = row_in fields c.args.patch.now.row.words in
    let all : length row ≤ c.loop-index.index = omega (arith, length-row_in fields c.args.patch.now.row.words, rw c.fields-index-end.ensures.fields at c.loop-index-test.false) in
    rw (take_all c.loop-index.index row all) at c.loop-index.invariant.so_far
