use Rattle.std.proofs.Common.{List, ℕ, Err, refl, ap, subst}
use Rattle.cmd_base.specs.Outputs.{EndsWriting}
use Rattle.cmd_base.proofs.Ended.{written_late}
use Rattle.cmd_relay.proofs.Ending.{ends_unaccepted, ends_so, ends_written}
use Rattle.cmd_relay.proofs.Writing.{writes-relay}
use Rattle.cmd_relay.proofs.command.relay.Goals as goal

pub returns-in-Ok-relayed_text-clause-ends : goal.returns-in-Ok-relayed_text-clause-ends
returns-in-Ok-relayed_text-clause-ends g c =
    let written = subst (λ (text : List ℕ). EndsWriting (g.K.Sink.written c.args.out.now) (g.K.Sink.written c.write_text.new.out) text c.write_text.result) c.deref.ensures.value c.write_text.ensures.written in
    let e = c.in-Ok-relayed_text.ensures in
    ends_written _ _ _ _ _ _ _ c.in-Ok.accepted c.in-Ok.ensures.accepts e.links c.write_text.result c.in-Ok-relayed_text.text.items refl e.text
    written c.write_text.ensures.cause (c.in-Ok.ensures.folder.files, c.in-Ok.ensures.folder.counted)

pub returns-in-Ok-relayed_text-clause-unlinked : goal.returns-in-Ok-relayed_text-clause-unlinked
returns-in-Ok-relayed_text-clause-unlinked g c = λ is. absurd ((written_late _ _ _ _ c.write_text.ensures.written).behind_link is)

pub returns-in-Ok-relayed_text-clause-silent : goal.returns-in-Ok-relayed_text-clause-silent
returns-in-Ok-relayed_text-clause-silent g c = λ done unwritten. absurd ((written_late _ _ _ _ c.write_text.ensures.written).written done unwritten)

pub returns-in-Err-clause-ends : goal.returns-in-Err-clause-ends
returns-in-Err-clause-ends g c =
    let e = c.in-Err.ensures in
    ends_unaccepted c.in-Err.status _ _ _ _ _ e.ends e.unread (e.folder.files, e.folder.counted) refl

pub returns-clause-ends : goal.returns-clause-ends
returns-clause-ends g c =
    let e = c.in-Err-relayed_text.ensures in
    ends_so _ _ _ _ _ _ _ c.in-Ok.accepted c.in-Ok.ensures.accepts e.links c.status_of.result c.in-Err-relayed_text.end c.status_of.ensures (λ is. ap Err is)
    (c.in-Ok.ensures.folder.files, c.in-Ok.ensures.folder.counted) refl

pub returns-in-Ok-relayed_text-clause-relayed : goal.returns-in-Ok-relayed_text-clause-relayed
returns-in-Ok-relayed_text-clause-relayed g c = λ done. writes-relay c.write_text.result _ _ _ _ _ (returns-in-Ok-relayed_text-clause-ends g c).says done

pub returns-in-Err-clause-relayed : goal.returns-in-Err-clause-relayed
returns-in-Err-clause-relayed g c = λ done. writes-relay c.in-Err.status _ _ _ _ _ (returns-in-Err-clause-ends g c).says done

pub returns-clause-relayed : goal.returns-clause-relayed
returns-clause-relayed g c = λ done. writes-relay c.status_of.result _ _ _ _ _ (returns-clause-ends g c).says done
