use Rattle.std.proofs.Common.{◌≡◌, ◌<◌, ◌++◌, List, ℕ, length, get_or, sym, ap, ◌∙◌, rules, arith}
use Rattle.std.proofs.lemmas.List.{get_or_default}
use Rattle.std.proofs.lemmas.Option.{get_or_from_slice_get}
use Rattle.ps_report.specs.Lines.{cause_text}
use Rattle.ps_report.specs.Words.{cause_words}
use Rattle.ps_report.proofs.CauseCount.{twenty}
use Rattle.ps_report.proofs.Pairs.{written_more, pairs_all}
use Rattle.ps_report.proofs.causes.put_causes.Goals as goal

abbrev line : List ℕ × ℕ → List ℕ
line cause = cause_text cause.0 cause.1

pub loop-i-preserved : goal.loop-i-preserved
loop-i-preserved c =
    let len : length c.args.counts.now ≡ 20 = search rules in
    let low : c.loop-i.i < 20 = omega arith in
    let inside : c.loop-i.i < length c.args.counts.now = omega arith in
    written_more line cause_words c.args.counts.now c.loop-i.i c.cause_word-word.result.now (get_or c.args.counts.now c.loop-i.i 0)
    c.args.out.now.items c.loop-i.out.items _ (omega (arith, twenty)) inside
    (sym (get_or_from_slice_get cause_words c.loop-i.i c.cause_word-word.result.now c.cause_word-word.result.now c.cause_word-word.ensures))
    (get_or_default c.args.counts.now c.loop-i.i 0 (get_or c.args.counts.now c.loop-i.i 0) inside)
    c.loop-i.invariant c.in_ok-put_cause.ensures

pub returns : goal.returns
returns c =
    let len : length c.args.counts.now ≡ 20 = search rules in
    c.loop-i.invariant ∙ ap (λ (l : List ℕ). c.args.out.now.items ++ l) (pairs_all line cause_words c.args.counts.now c.loop-i.i (omega (arith, twenty)) (len ∙ sym twenty))
