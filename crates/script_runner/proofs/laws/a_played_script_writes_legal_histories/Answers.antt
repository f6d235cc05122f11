use Rattle.std.proofs.Common.{refl}
use Rattle.script_runner.proofs.Played.{writes-legally}
use Rattle.script_runner.proofs.laws.a_played_script_writes_legal_histories.Goals as goal

pub returns : goal.returns
returns c = λ config script is.
    writes-legally config script is
    (record {
      opening = λ meta is-meta. (c.words_belong_by_shape.ensures.shape meta _ is-meta).1 (c.histories_are_the_models.ensures.opening_belongs meta is-meta);
      patched = λ meta patch words is-meta of belongs. c.patched_words_belong.ensures.shape meta patch _ words is-meta refl of belongs;
    })
    (record { legal = c.closed_histories_are_legal.ensures.legal; history = c.closed_histories_are_legal.ensures.history })
