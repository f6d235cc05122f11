use Rattle.std.proofs.Common.{ap, ◌∙◌}
use Rattle.std.specs.List.{list_any}
use Rattle.std.specs.Str.{bytes_eq}
use Rattle.toml.specs.View.{table_view}
use Rattle.config_tables.specs.Paths.{path_text}
use Rattle.uapubsub_c.proofs.Showing.{listed}
use Rattle.uapubsub_c.proofs.placing.shows_in.Goals as goal

pub returns-in-Ok-clause-shows : goal.returns-in-Ok-clause-shows
returns-in-Ok-clause-shows c =
    c.has_at.ensures ∙ ap (list_any (λ placed. bytes_eq (path_text placed.place) c.args.path.now)) c.deref.ensures.value
    ∙ listed c.args.path.now (table_view c.args.document.now) c.in-Ok.tables.items c.in-Ok.ensures
