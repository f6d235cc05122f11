use Rattle.std.proofs.Common.{◌<◌, length, ap, ◌∙◌, arith}
use Rattle.std.proofs.lemmas.List.{get_or-set_other, get_or-set_same, get_or_read}
use Rattle.ua_base.specs.Cause.{counted_if}
use Rattle.session_parts.specs.declared.sends.GroupSends.{GroupSends}
use Rattle.session_parts.proofs.publisher.Publisher.note.Goals as goal

pub returns-clause-noted : goal.returns-clause-noted
returns-clause-noted c =
    let old = c.args.self.now.sends.items in
    let low : c.args.g < length old = omega (arith, c.requires, c.args.self.now.sends.ok.0) in
    record {
      done = λ d.
          ap (λ (s : GroupSends). s.done) (get_or-set_same old c.args.g c.note.new.self d low)
          ∙ c.note.ensures.done
          ∙ ap (λ (s : GroupSends). counted_if c.args.is_done s.done) (get_or_read old c.args.g c.index_mut.result.now low c.index_mut.ensures.value d);
      failing = λ d. ap (λ (s : GroupSends). s.is_failing) (get_or-set_same old c.args.g c.note.new.self d low) ∙ c.note.ensures.failing;
      others = λ h other d. get_or-set_other old c.args.g h c.note.new.self d other;
      link_done = c.note-2.ensures.done;
      link_failed = c.note-2.ensures.failed;
    }
