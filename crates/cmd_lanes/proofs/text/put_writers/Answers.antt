use Rattle.std.proofs.Common.{◌≡◌, ℕ, ◌<◌, List, ◌++◌, length, get_or, sym, ap, ◌∙◌, subst, arith}
use Rattle.std.specs.List.{flat_map, range_with_len}
use Rattle.std.proofs.lemmas.List.{get_or_read}
use Rattle.ps_config.specs.declared.parts.WriterPart.{WriterPart}
use Rattle.report_laws.specs.Numbers.{LogHasNumbers}
use Rattle.writer_group.specs.Payloads.{no_writer, writer_at}
use Rattle.writer_group.specs.Turns.{settings_of}
use Rattle.cmd_lanes.specs.Standing.{log_in}
use Rattle.cmd_lanes.specs.Texts.{writer_line}
use Rattle.cmd_lanes.proofs.Texts.{lines-more, one-more}
use Rattle.cmd_lanes.proofs.text.put_writers.Goals as goal

pub loop-w-preserved : goal.loop-w-preserved
loop-w-preserved c = λ metas past is.
    let part = c.args.part.now in
    let low : c.loop-w.w < length part.writer = omega (arith, c.loop-w-test.true, ap length c.as_slice-writers.ensures) in
    let own : get_or c.as_slice-writers.result.now c.loop-w.w c.index-writers-w.result ≡ writer_at part c.loop-w.w =
    sym c.index-writers-w.is ∙ get_or_read c.as_slice-writers.result.now c.loop-w.w c.index-writers-w.result c.loop-w-test.true c.index-writers-w.is no_writer
    ∙ ap (λ (l : List WriterPart). get_or l c.loop-w.w no_writer) c.as_slice-writers.ensures in
    let log : c.log.result.now ≡ log_in part past c.loop-w.w =
    c.log.ensures.all (c.writer.ensures.logs.all c.requires.logs) (metas c.loop-w.w) (settings_of (writer_at part c.loop-w.w)) _ (c.writer.ensures.stands metas part past low is) in (
      lines-more (λ w. writer_line (writer_at part w).name (log_in part past w)) c.loop-w.w c.args.out.now.items c.loop-w.out.items c.put_writer.new.out.items (writer_line (get_or c.as_slice-writers.result.now c.loop-w.w c.index-writers-w.result).name c.log.result.now)
          (c.loop-w.invariant metas past is).0 c.in_ok-put_writer.ensures.line
          (ap (λ (p : WriterPart). writer_line p.name c.log.result.now) own ∙ ap (writer_line (writer_at part c.loop-w.w).name) log),
      one-more (λ w. LogHasNumbers (log_in part past w)) c.loop-w.w (c.loop-w.invariant metas past is).1 (subst LogHasNumbers log c.in_ok-put_writer.ensures.numbers),
    )

pub returns-clause-numbers : goal.returns-clause-numbers
returns-clause-numbers c = λ metas past is.
    λ w low. (c.loop-w.invariant metas past is).1 w (omega (arith, low, c.loop-w-test.false, c.loop-w.auto.w-end, ap length c.as_slice-writers.ensures))

pub returns-clause-lines : goal.returns-clause-lines
returns-clause-lines c = λ metas past is.
    let all : c.loop-w.w ≡ length c.args.part.now.writer = omega (arith, c.loop-w-test.false, c.loop-w.auto.w-end, ap length c.as_slice-writers.ensures) in
    (c.loop-w.invariant metas past is).0
    ∙ ap (λ (n : ℕ). c.args.out.now.items ++ flat_map (λ w. writer_line (writer_at c.args.part.now w).name (log_in c.args.part.now past w)) (range_with_len 0 n)) all
