use Rattle.std.proofs.Common.{◌≡◌, sym, ap, ◌∙◌, subst, ℕ, List, Decides}
use Rattle.std.proofs.lemmas.Slice.Eq.{slice_eq-Decides}
use Rattle.std.proofs.lemmas.Bool.Decides.{Decides-eqb}
use Rattle.dataset_meta.specs.DataValues.{DataValue}
use Rattle.dataset_meta.specs.Rows.{differs}
use Rattle.row_words.specs.Belonging.{row_in}
use Rattle.config_tables.specs.declared.words.NumberingWord.{NumberingWord}
use Rattle.session_model.specs.Stores.{Store, is_none_of, is_same}
use Rattle.pubsub_engine.proofs.Rows.{rows-same}
use Rattle.pubsub_engine.proofs.storing.Last.is_same.Goals as goal

pub returns-in-None-clause-some : goal.returns-in-None-clause-some
returns-in-None-clause-some c = λ meta last before is belongs.
    let own = c.args.kept.now.words in
    let other = c.args.row.now.words in
    let decides : Decides c.eq-in-None.result (◌≡◌ {A = List ℕ} own other) = slice_eq-Decides Decides-eqb own other c.eq-in-None.result c.eq-in-None.ensures in
    let now : Store = record { number = c.args.number; row = row_in meta.fields other } in
    subst (λ (numbering : NumberingWord). c.eq-in-None.result ≡ is_same numbering last now) (sym c.in-None.is)
    (rows-same meta own other c.eq-in-None.result decides is.3 belongs
    ∙ ap (λ (row : List DataValue). is_none_of (differs row (row_in meta.fields other))) is.2)
