use Rattle.std.proofs.Common.{Some, refl, sym, ap, ◌∙◌, is_none, arith}
use Rattle.row_words.specs.Patches.{patch_in, spelled_patch}
use Rattle.ps_script.specs.Texts.{words_of}
use Rattle.ps_script.specs.Fields.{patch_with}
use Rattle.ps_script.proofs.Said.{value_next, value_end, patch_more, patch_end, shaped_next, shaped_end}
use Rattle.ps_script.proofs.Taken.{leaves_first, leaves_next, leaves_none}
use Rattle.ps_script.proofs.writes.fill.Goals as goal

pub words-init : goal.words-init
words-init c = record {
  shaped = refl;
  leaves = leaves_first _ _ _ _ refl refl;
  valued = λ reader. refl;
  of = c.requires.of c.args.meta.now c.fields.ensures.meta;
  gives = λ reader.
      ap (λ p. patch_with reader c.args.meta.now.quality c.args.meta.now.fields p (words_of c.args.fields.now)) (c.requires.empty c.args.meta.now.fields);
}

pub words-preserved : goal.words-preserved
words-preserved c =
    let m = c.args.meta.now in
    let left = words_of c.words.rest.now in
    let rest = words_of c.in-Some.behind.now in
    let word = c.in-Some.word.now in
    record {
      shaped = shaped_next left rest word _ c.words.invariant.shaped c.in-Some.ensures.words (sym c.has_byte.ensures ∙ c.if-not-has_byte.false);
      leaves = leaves_next m.fields c.words.taken left _ rest word c.from-index.result c.words.invariant.leaves c.in-Some.ensures.words (c.in-Some-change_of.ensures.place ∙ ap Some (sym c.from-index.ensures)) (omega (arith, c.in-Some-change_of.ensures.fits.within, c.fields.ensures.meta)) c.if-taken-index.false;
      valued = λ reader. value_next reader m.quality m.fields left rest word _ _ (c.words.invariant.valued reader) c.in-Some.ensures.words (ap is_none (c.in-Some-change_of.ensures.change reader)) refl;
      of = c.put.ensures.of;
      gives = λ reader. patch_more reader m.quality m.fields (patch_in m.fields c.words.patch) (patch_in m.fields c.put.new.self) _ left rest word (Some c.in-Some-change_of.change) (c.words.invariant.gives reader) c.in-Some.ensures.words (c.in-Some-change_of.ensures.change reader) c.put.ensures.put;
    }

pub returns : goal.returns
returns c = λ reader yes_.
    let m = c.args.meta.now in
    let none = c.in_default.ensures.words in
    record {
      some = c.has_words.ensures c.if-not-has_words.false;
      shaped = shaped_end (words_of c.words.rest.now) _ c.words.invariant.shaped none;
      distinct = leaves_none m.fields c.words.taken (words_of c.words.rest.now) (words_of c.args.fields.now) c.words.invariant.leaves none;
      valued = sym (value_end reader m.quality m.fields (words_of c.words.rest.now) _ (c.words.invariant.valued reader) none);
      gives =
          c.a_patch_is_the_words_of_what_it_stands_for.ensures m c.words.patch c.fields.ensures.meta c.words.invariant.of
          ∙ ap (spelled_patch m.fields) (patch_end reader m.quality m.fields (patch_in m.fields c.words.patch) _ (words_of c.words.rest.now) (c.words.invariant.gives reader) none);
    }
