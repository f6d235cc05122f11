use Rattle.std.proofs.Common.{ℕ, ◌<◌, arith, length, take, sym, ap, ◌∙◌, subst, Option, Some, IfSome}
use Rattle.pubsub_model.specs.Cadence.{log_of}
use Rattle.dataset_writer.specs.Turns.{model_settings}
use Rattle.writer_group.specs.declared.group.Group.{Group}
use Rattle.writer_group.specs.Parts.{group_at}
use Rattle.writer_group.specs.Payloads.{writer_at}
use Rattle.writer_group.specs.Standing.{AreLogged, IsGroup, metas_for}
use Rattle.writer_group.specs.Turns.{settings_of, writer_past}
use Rattle.session_model.specs.Deeds.{group_past}
use Rattle.session_parts.proofs.Few.{few-writers}
use Rattle.pubsub_engine.specs.Logs.{log_after}
use Rattle.pubsub_engine.proofs.Named.{log-at}
use Rattle.pubsub_engine.proofs.logs.log_named.Goals as goal

pub overflow_cast-w : goal.overflow_cast-w
overflow_cast-w c =
    let there : c.in-Some.g < length c.args.config.now.group =
    subst (λ (o : Option (ℕ × ℕ)). IfSome o (λ at. at.0 < length c.args.config.now.group)) c.in-Some.is c.writer_named.ensures.there in
    let within : c.in-Some.w < length (group_at c.args.config.now c.in-Some.g).writer =
    subst (λ (o : Option (ℕ × ℕ)). IfSome o (λ at. at.1 < length (group_at c.args.config.now at.0).writer)) c.in-Some.is c.writer_named.ensures.within in
    omega (arith, within, few-writers c.args.config.now c.in-Some.g c.requires.good there)

pub returns-in-Some : goal.returns-in-Some
returns-in-Some c =
    let config = c.args.config.now in
    let there : c.in-Some.g < length config.group =
    subst (λ (o : Option (ℕ × ℕ)). IfSome o (λ at. at.0 < length config.group)) c.in-Some.is c.writer_named.ensures.there in
    let within : c.in-Some.w < length (group_at config c.in-Some.g).writer =
    subst (λ (o : Option (ℕ × ℕ)). IfSome o (λ at. at.1 < length (group_at config at.0).writer)) c.in-Some.is c.writer_named.ensures.within in
    record {
      log = λ most metas deeds logged past.
          let part = group_at config c.in-Some.g in
          let lived = group_past config c.in-Some.g deeds in
          let stands : IsGroup (metas_for part metas) part lived c.index.result.now =
          subst (λ (group : Group). IsGroup (metas_for part metas) part lived group) (sym c.index.ensures) (past c.in-Some.g there c.index.result.now) in
          let own : AreLogged most c.index.result.now =
          subst (AreLogged most) (sym c.index.ensures) (logged c.in-Some.g c.index.result.now (omega (arith, there, c.requires.groups.count))) in
          c.log.ensures.first (metas_for part metas c.in-Some.w) (settings_of (writer_at part c.in-Some.w)) (writer_past c.in-Some.w lived)
          (c.writer.ensures.stands (metas_for part metas) part lived within stands)
          ∙ ap (λ (n : ℕ). take n (log_of (model_settings (settings_of (writer_at part c.in-Some.w))) (writer_past c.in-Some.w lived))) (c.writer.ensures.logs.logged most own)
          ∙ log-at (log_after most config deeds) config c.args.id (Some (c.in-Some.g, c.in-Some.w)) (sym c.in-Some.is ∙ c.writer_named.ensures.place);
    }
