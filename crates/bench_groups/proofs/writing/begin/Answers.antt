use Rattle.std.proofs.Common.{List, get_or, subst}
use Rattle.dataset_meta.specs.Metas.{MetaData}
use Rattle.writer_group.specs.Standing.{metas_for}
use Rattle.bench_groups.specs.Running.{AreRows}
use Rattle.bench_groups.proofs.writing.begin.Goals as goal

pub returns : goal.returns
returns c =
    let config = c.args.config.now in
    record {
      good = c.requires.good;
      there = c.requires.group;
      first = c.in_ok-group.ensures.index;
      made = c.in_ok-group.ensures.made;
      goes_on = λ d. c.in_ok-group.ensures.goes_on d (metas_for (get_or config.group 0 d) config.dataset);
      sender_fits = c.in_ok-sender.ensures;
      on_are = c.in_ok-on.ensures;
      even_are = subst (λ (l : List MetaData). AreRows l c.in_ok-even.even.items) c.as_slice-metas.ensures c.in_ok-even.ensures;
      odd_are = subst (λ (l : List MetaData). AreRows l c.in_ok-odd.odd.items) c.as_slice-metas.ensures c.in_ok-odd.ensures;
      reserved = c.in_ok-out.ensures.reserved;
    }
