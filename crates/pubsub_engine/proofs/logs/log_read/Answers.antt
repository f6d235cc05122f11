use Rattle.std.proofs.Common.{◌≡◌, ◌∙◌, refl, sym, ap, subst, Bool, true, [], option_map}
use Rattle.std.proofs.lemmas.Option.{same_Some}
use Rattle.ps_config.specs.declared.parts.ReadGroupPart.{ReadGroupPart}
use Rattle.ps_config.specs.declared.parts.ReaderPart.{ReaderPart}
use Rattle.pubsub_engine.specs.Logs.{IsLogRead, log_after}
use Rattle.pubsub_engine.proofs.Named.{no-log-told}
use Rattle.config_tables.proofs.Publishers.{same-publisher}
use Rattle.pubsub_engine.proofs.logs.log_read.Goals as goal

pub returns-then-not-versions : goal.returns-then-not-versions
returns-then-not-versions c = record {
  log = λ at found.
      subst (λ (versions : Bool). IsLogRead versions c.args.config.now c.args.publisher.now at []) (sym c.if-not-versions.true)
      (record { own = λ same most metas deeds logged past. no-log-told (log_after most c.args.config.now deeds) c.args.config.now at.1.writer; other = λ apart. refl });
}

pub returns-in-Some : goal.returns-in-Some
returns-in-Some c =
    let own : c.in-Some.group.now.publisher ≡ c.args.config.now.publisher.id = same-publisher c.in-Some.group.now.publisher c.args.config.now.publisher.id (sym c.is_same.ensures ∙ c.if-is_same.true) in
    record {
      log = λ at found.
          let same : ◌≡◌ {A = ReadGroupPart × ReaderPart} (c.in-Some.group.now, c.in-Some.part.now) at =
          same_Some (c.in-Some.group.now, c.in-Some.part.now) at
          (sym (ap (λ o. option_map {U = ReadGroupPart × ReaderPart} (λ at. (at.0.now, at.1.now)) o) c.in-Some.is) ∙ c.reader_part.ensures ∙ found) in
          subst (λ (versions : Bool). IsLogRead versions c.args.config.now c.args.publisher.now at c.log_named.result.now) (sym c.if-not-versions.false)
          (subst (λ (it : ReadGroupPart × ReaderPart). IsLogRead true c.args.config.now c.args.publisher.now it c.log_named.result.now) same
          (record { own = λ is. c.log_named.ensures.log; other = λ apart. absurd (apart own) }));
    }
