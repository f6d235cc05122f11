use Rattle.std.proofs.Common.{map, sym, ap, ◌∙◌, subst}
use Rattle.dataset_meta.specs.Metas.{IsMeta}
use Rattle.ps_config.specs.Fields.{fields_of}
use Rattle.config_tables.specs.Seen.{seen}
use Rattle.ps_config.proofs.build.data_set_of.Goals as goal

pub unreachable-requires : goal.unreachable-requires
unreachable-requires c =
    let same = c.in_ok-fields.ensures ∙ ap (fields_of (map seen c.args.tables.now)) c.index.ensures in
    c.fields_have_one_fault.ensures.none c.in_ok-fields.fields.items c.in-Err.field-0 c.in-Err.ensures.refused (subst IsMeta (sym same) c.requires)
