-- The report of a session without its last line.
use Rattle.std.proofs.Common.{◌≡◌, refl, sym, ap, ◌∙◌, arith, ℕ, ◌+◌, ◌≤◌, List, ◌++◌, length, take, length-append}
use Rattle.std.proofs.lemmas.List.{take-append-le, take_all}
use Rattle.ps_config.specs.declared.parts.Config.{Config}
use Rattle.ps_report.specs.declared.closed.Closed.{Closed}
use Rattle.ps_report.specs.Lines.{link_line}
use Rattle.ps_report.specs.Reports.{end_line, group_lines, history_lines, read_group_lines, report_text, watch_lines}
use Rattle.cmd_relay.specs.Texts.{IsReportBegun}

end-four : length end_line ≡ 4
unfolding end_line
end-four = refl

-- the lines before the last
pub begins : (config : Config) (closed : Closed) → (front : List ℕ) × (front ++ end_line ≡ report_text config closed)
unfolding report_text
begins config closed = (
  history_lines config.dataset closed.histories
      ++ group_lines config.group closed.groups closed.writers
      ++ read_group_lines config.dataset config.readgroup closed.read_groups closed.readers
      ++ watch_lines config closed.watches
      ++ link_line closed.link,
  refl,
)

pub long : (config : Config) (closed : Closed) (items : List ℕ) → items ≡ report_text config closed → 4 ≤ length items
long config closed items is =
    let e : length items ≡ length ((begins config closed).0 ++ end_line) = ap (λ (l : List ℕ). length l) (is ∙ sym (begins config closed).1) in
    let n = length-append ((begins config closed).0) end_line in
    let four = end-four in
    omega (arith, e, n, four)

pub begun : (config : Config) (closed : Closed) (items text : List ℕ) (n : ℕ) → items ≡ report_text config closed → n + 4 ≡ length items → text ≡ take n items
    → IsReportBegun config closed text
begun config closed items text n is count cut =
    let whole : items ≡ (begins config closed).0 ++ end_line = is ∙ sym (begins config closed).1 in
    let e : length items ≡ length ((begins config closed).0 ++ end_line) = ap (λ (l : List ℕ). length l) whole in
    let lengths = length-append ((begins config closed).0) end_line in
    let four = end-four in
    let same : n ≡ length ((begins config closed).0) = omega (arith, count, e, lengths, four) in
    let front : text ≡ (begins config closed).0 =
    cut ∙ ap (take n) whole ∙ take-append-le n ((begins config closed).0) end_line (omega (arith, same)) ∙ take_all n ((begins config closed).0) (omega (arith, same)) in
    ap (λ (l : List ℕ). l ++ end_line) front ∙ (begins config closed).1
