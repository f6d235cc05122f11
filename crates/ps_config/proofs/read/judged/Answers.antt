use Rattle.std.proofs.Common.{◌≡◌, None, map, sym, ap, ◌∙◌}
use Rattle.toml.specs.View.{table_view}
use Rattle.config_tables.specs.Seen.{seen}
use Rattle.config_tables.specs.declared.fault.Fault.TheVariants.{FrameLarge}
use Rattle.ps_config.specs.Configs.{config_of}
use Rattle.ps_config.specs.Refusals.{table_faults, refusal_by, first_at}
use Rattle.ps_config.proofs.MetaFacts.{accepted_meta}
use Rattle.ps_config.proofs.Judging.{refused_by_tables, refused_as_large, accepted_config, passing_tables}
use Rattle.ps_config.proofs.read.judged.Goals as goal

pub returns-in-Some-clause-refused : goal.returns-in-Some-clause-refused
returns-in-Some-clause-refused c =
    let listed = ap (map seen) c.deref.ensures.value ∙ c.in_ok-tables.ensures in
    rw c.refused.ensures (refused_by_tables (table_view c.args.document.now) _ _ _ listed (sym c.in-Some.is ∙ c.table_refusal.ensures))

pub config_of-requires : goal.config_of-requires
config_of-requires c =
    let same = ap (map seen) (c.deref-2.ensures.value ∙ sym c.deref.ensures.value) in
    let none : None ≡ refusal_by table_faults (map seen c.deref-2.result.now) = sym c.in_default.is ∙ c.table_refusal.ensures ∙ ap (refusal_by table_faults) (sym same) in
    accepted_meta (map seen c.deref-2.result.now) (passing_tables (map seen c.deref-2.result.now) none)

pub returns-in-Some-first_large-clause-refused : goal.returns-in-Some-first_large-clause-refused
returns-in-Some-first_large-clause-refused c =
    let listed = ap (map seen) c.deref.ensures.value ∙ c.in_ok-tables.ensures in
    let found = sym c.in-Some-first_large.is ∙ c.first_large.ensures ∙ ap (λ ts. first_at FrameLarge (map seen ts)) (c.deref-3.ensures.value ∙ sym c.deref.ensures.value) in
    rw c.refused-in-Some-first_large.ensures (refused_as_large (table_view c.args.document.now) _ _ listed (sym c.in_default.is ∙ c.table_refusal.ensures) found)

pub returns-clause-ok : goal.returns-clause-ok
returns-clause-ok c =
    let listed = ap (map seen) c.deref.ensures.value ∙ c.in_ok-tables.ensures in
    let config = c.in_ok-config.ensures ∙ ap (λ ts. config_of (map seen ts)) (c.deref-2.ensures.value ∙ sym c.deref.ensures.value) in
    let room = sym c.in_default-first_large.is ∙ c.first_large.ensures ∙ ap (λ ts. first_at FrameLarge (map seen ts)) (c.deref-3.ensures.value ∙ sym c.deref.ensures.value) in
    accepted_config (table_view c.args.document.now) _ _ listed (sym c.in_default.is ∙ c.table_refusal.ensures) room config
