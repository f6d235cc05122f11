use Rattle.std.proofs.Common.{[], option_map, sym, ap, ◌∙◌}
use Rattle.row_words.specs.Patches.{patch_in, spelled_patch}
use Rattle.ps_script.specs.Texts.{words_of}
use Rattle.ps_script.specs.Fields.{with_change, patch_with}
use Rattle.ps_script.specs.Changes.{change_by}
use Rattle.ps_script.proofs.Said.{patch_more, patch_end}
use Rattle.ps_script.proofs.changes.patch_of.Goals as goal

pub words-init : goal.words-init
words-init c = record {
  of = c.empty-patch.ensures.of c.args.meta.now c.fields.ensures.meta;
  words = λ reader.
      ap (λ p. patch_with reader c.args.meta.now.quality c.args.meta.now.fields p (words_of c.behind_words-rest.result.now)) (c.empty-patch.ensures.empty c.args.meta.now.fields)
      ∙ ap (patch_with reader c.args.meta.now.quality c.args.meta.now.fields []) c.behind_words-rest.ensures.words;
}

pub words-preserved-in-Some-change_of : goal.words-preserved-in-Some-change_of
words-preserved-in-Some-change_of c = record {
  of = c.put.ensures.of;
  words = λ reader.
      patch_more reader c.args.meta.now.quality c.args.meta.now.fields (patch_in c.args.meta.now.fields c.words.patch) (patch_in c.args.meta.now.fields c.put.new.self) _ (words_of c.words.rest.now) (words_of c.in-Some.behind.now) c.in-Some.word.now c.change_of.result (c.words.invariant.words reader) c.in-Some.ensures.words (c.change_of.ensures.change reader)
      (c.put.ensures.put ∙ sym (ap (λ o. with_change (patch_in c.args.meta.now.fields c.words.patch) (option_map change_by o)) c.in-Some-change_of.is));
}

pub words-preserved : goal.words-preserved
words-preserved c = record {
  of = c.words.invariant.of;
  words = λ reader.
      patch_more reader c.args.meta.now.quality c.args.meta.now.fields (patch_in c.args.meta.now.fields c.words.patch) (patch_in c.args.meta.now.fields c.words.patch) _ (words_of c.words.rest.now) (words_of c.in-Some.behind.now) c.in-Some.word.now c.change_of.result (c.words.invariant.words reader) c.in-Some.ensures.words (c.change_of.ensures.change reader)
      (sym (ap (λ o. with_change (patch_in c.args.meta.now.fields c.words.patch) (option_map change_by o)) c.in_default-change_of.is));
}

pub returns : goal.returns
returns c = λ reader.
    c.a_patch_is_the_words_of_what_it_stands_for.ensures c.args.meta.now c.words.patch c.fields.ensures.meta c.words.invariant.of
    ∙ ap (spelled_patch c.args.meta.now.fields) (patch_end reader c.args.meta.now.quality c.args.meta.now.fields (patch_in c.args.meta.now.fields c.words.patch) _ (words_of c.words.rest.now) (c.words.invariant.words reader) c.in_default.ensures.words)
