use Rattle.std.proofs.Common.{rules, ◌+◌, ◌∙◌, ap}
use Rattle.version_cell.specs.Views.{copied}
use Rattle.version_cell.specs.Spellings.{words_of}
use Rattle.version_cell.proofs.CellLaws.{spelled_anew}
use Rattle.version_cell.proofs.Keeps.{copies}
use Rattle.version_cell.proofs.Numbers.{may_enrol, has_number, learns}
use Rattle.version_cell.proofs.Widths.{opening_fits}
use Rattle.version_cell.proofs.making.enrolled.Goals as goal

pub split_pass-place-requires : goal.split_pass-place-requires
split_pass-place-requires g c = record { own = c.requires.first.0; rule = copies _ _ }

pub compare_exchange_as-requires : goal.compare_exchange_as-requires
compare_exchange_as-requires g c =
    let given = c.split_pass-place.ensures.given in
    let is = given.1 ∙ ap copied c.requires.first.1 in
    record {
      own = given.0 ∙ c.requires.first.0;
      current = opening_fits c.args.words.now c.args.number c.args.terms.now (words_of c.spelled-front.result) (search rules) (spelled_anew _ c.args.number c.args.terms.now _ c.opening-opening.ensures.zeros c.spelled-front.ensures);
      new = opening_fits c.args.words.now (c.args.number + 1) c.args.terms.now (words_of c.spelled-next.result) (search rules) (spelled_anew _ (c.args.number + 1) c.args.terms.now _ c.opening-opening.ensures.zeros c.spelled-next.ensures);
      rule = may_enrol _ c.args.number c.args.terms.now _ _ is c.requires.small (spelled_anew _ c.args.number c.args.terms.now _ c.opening-opening.ensures.zeros c.spelled-front.ensures) (spelled_anew _ (c.args.number + 1) c.args.terms.now _ c.opening-opening.ensures.zeros c.spelled-next.ensures) _;
    }

pub take_in-requires : goal.take_in-requires
take_in-requires g c = record {
  own = c.split_pass-place.ensures.kept.0.0 ∙ c.requires.first.0;
  other = c.compare_exchange_as.ensures.same.0 ∙ c.split_pass-place.ensures.given.0 ∙ c.requires.first.0;
}

pub returns : goal.returns
returns g c =
    let given = c.split_pass-place.ensures.given in
    let is = given.1 ∙ ap copied c.requires.first.1 in
    let r = c.in-Ok.ensures.told in
    let n = c.args.number in
    let numbered = has_number _ n c.args.terms.now (words_of c.spelled-front.result) (words_of c.spelled-next.result) r.0 _ is (spelled_anew _ c.args.number c.args.terms.now _ c.opening-opening.ensures.zeros c.spelled-front.ensures) (spelled_anew _ (c.args.number + 1) c.args.terms.now _ c.opening-opening.ensures.zeros c.spelled-next.ensures) r.1 r.2 in
    let name = c.take_in.ensures.name in
    let other = c.take_in.ensures.other in
    let known = learns _ _ n _ c.args.terms.now (c.split_pass-place.ensures.kept.1 ∙ c.requires.first.1) numbered in (
      (other.0 ∙ c.compare_exchange_as.ensures.same.0 ∙ given.0 ∙ c.requires.first.0, other.1 ∙ numbered),
      (name ∙ c.split_pass-place.ensures.kept.0.0 ∙ c.requires.first.0, c.take_in.ensures.view ∙ known),
    )
