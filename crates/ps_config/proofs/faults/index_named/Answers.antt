use Rattle.std.proofs.Common.{sym, ap, ◌∙◌, position, filter}
use Rattle.std.specs.Str.{bytes_eq}
use Rattle.ps_config.specs.Fields.{name_of}
use Rattle.config_tables.specs.Places.{is_outer}
use Rattle.ps_config.proofs.Seeing.{filter_seen, position_seen}
use Rattle.ps_config.proofs.faults.index_named.Goals as goal

pub returns : goal.returns
returns c =
    let ts = c.args.tables.now in
    c.position_named.ensures ∙ sym (ap (position (λ t. bytes_eq c.args.name.now (name_of t))) (filter_seen (λ t. is_outer c.args.part t.place) ts)
    ∙ position_seen (λ t. bytes_eq c.args.name.now (name_of t)) (filter (λ t. is_outer c.args.part t.place) ts))
