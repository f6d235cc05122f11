use Rattle.std.proofs.Common.{refl}
use Rattle.std.specs.Fmt.{digits}
use Rattle.hex.specs.Hex.{encode_with}
use Rattle.value_texts.specs.Texts.{value_text_of}
use Rattle.ps_report.specs.Lines.{component_text, count_text, history_line, group_line, writer_line, cause_text, read_group_line, numbered_text, number_or_dash, status_mark, field_text, gaps_line, waits_text, watch_line, link_line}
use Rattle.pubsub_model.specs.WhyWords.{why_word}
use Rattle.ps_report.specs.Words.{cause_words}
use Rattle.ps_report.proofs.laws.lines_read_so.Goals as goal

pub returns-clause-history : goal.returns-clause-history
unfolding digits count_text history_line
returns-clause-history c = refl

pub returns-clause-empty : goal.returns-clause-empty
unfolding digits count_text history_line
returns-clause-empty c = refl

pub returns-clause-group : goal.returns-clause-group
unfolding digits component_text group_line
returns-clause-group c = refl

pub returns-clause-writer : goal.returns-clause-writer
unfolding digits component_text count_text writer_line
returns-clause-writer c = refl

pub returns-clause-read_group : goal.returns-clause-read_group
unfolding digits component_text count_text cause_text cause_words read_group_line
returns-clause-read_group c = refl

pub returns-clause-held : goal.returns-clause-held
unfolding digits number_or_dash numbered_text
returns-clause-held c = refl

pub returns-clause-unnumbered : goal.returns-clause-unnumbered
unfolding number_or_dash numbered_text
returns-clause-unnumbered c = refl

pub returns-clause-waits : goal.returns-clause-waits
unfolding why_word waits_text
returns-clause-waits c = refl

pub returns-clause-good : goal.returns-clause-good
unfolding digits status_mark value_text_of field_text
returns-clause-good c = refl

pub returns-clause-bad : goal.returns-clause-bad
unfolding digits encode_with status_mark value_text_of field_text
returns-clause-bad c = refl

pub returns-clause-gaps : goal.returns-clause-gaps
unfolding digits count_text gaps_line
returns-clause-gaps c = refl

pub returns-clause-watch : goal.returns-clause-watch
unfolding digits watch_line
returns-clause-watch c = refl

pub returns-clause-link : goal.returns-clause-link
unfolding digits link_line
returns-clause-link c = refl
