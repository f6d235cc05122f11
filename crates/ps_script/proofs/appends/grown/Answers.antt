use Rattle.std.proofs.Common.{◌≡◌, IsTrue, unwrap_or, refl, ap, ◌∙◌, subst}
use Rattle.ua_values.specs.declared.kind.Kind.TheVariants.{Boolean}
use Rattle.dataset_meta.specs.Names.{is_name}
use Rattle.config_tables.specs.Words.{kind_named}
use Rattle.ps_script.specs.Texts.{word}
use Rattle.ps_script.specs.Numbers.{number_at}
use Rattle.ps_script.proofs.Growth.{growth_told, same_field}
use Rattle.ps_script.proofs.appends.grown.Goals as goal

pub returns : goal.returns
returns c =
    let line = c.args.line.now in
    let name : c.in-Some.name ≡ word 2 line = c.in-Some.ensures.name ∙ c.word.ensures in
    let kind : c.unwrap_or.result ≡ unwrap_or (kind_named (word 3 line)) Boolean = cc in
    let cap : c.number_at.result ≡ number_at 1 256 (word 4 line) = c.number_at.ensures.number ∙ ap (number_at 1 256) c.word-3.ensures in
    let named : IsTrue (is_name (word 2 line)) = subst (λ w. IsTrue (is_name w)) c.word.ensures (c.in-Some.ensures.exact.0 refl) in
    growth_told line c.args.meta.now _ c.grown.result (same_field line c.in-Some.name c.unwrap_or.result c.number_at.result name kind cap) named c.grown.ensures.exact
    c.grown.ensures.grown
