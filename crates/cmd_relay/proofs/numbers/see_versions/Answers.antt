use Rattle.std.proofs.Common.{ℕ, Option, subst}
use Rattle.std.specs.Prelude.{IfSome}
use Rattle.std.proofs.lemmas.List.Elements.{All-more}
use Rattle.report_laws.specs.Numbers.{IsNumber}
use Rattle.report_laws.proofs.Seeing.{all_seen}
use Rattle.gateway_core.specs.Holding.{sources_of}
use Rattle.cmd_relay.specs.Texts.{kept_by_index}
use Rattle.cmd_relay.specs.Seen.{HasVersion}
use Rattle.cmd_relay.proofs.numbers.see_versions.Goals as goal

pub loop-entry-preserved : goal.loop-entry-preserved
loop-entry-preserved c = λ second lived stands.
    All-more (HasVersion (kept_by_index (sources_of c.args.gateway.now) lived c.args.set)) c.args.log.now c.loop-entry.entry-index _ c.loop-entry-test.true
    (c.loop-entry.invariant second lived stands)
    (subst (λ (o : Option ℕ). IfSome o IsNumber) (c.version_of.ensures.all c.requires.keeps second lived stands) c.see_version.ensures)

pub returns : goal.returns
returns c = λ second lived stands.
    all_seen (HasVersion (kept_by_index (sources_of c.args.gateway.now) lived c.args.set)) c.args.log.now c.loop-entry.entry-index c.loop-entry-test.false
    (c.loop-entry.invariant second lived stands)
