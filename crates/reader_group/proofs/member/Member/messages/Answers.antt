use Rattle.std.proofs.Common.{◌<◌, ◌+◌, length, refl, sym, ◌∙◌, subst, take, arith}
use Rattle.std.specs.Prelude.{fold}
use Rattle.reader_group.specs.Members.{seat_of}
use Rattle.reader_group.specs.MemberWords.{IsFed}
use Rattle.reader_group.specs.Held.{listed}
use Rattle.reader_group.specs.Notices.{AccountValue, no_account}
use Rattle.reader_group.proofs.Parts.{offered, offered-more, offered-passed, unfed-passed, offered-end, listed-length}
use Rattle.reader_group.proofs.member.Member.messages.Goals as goal

pub loop-index-init : goal.loop-index-init
loop-index-init c =
    let part = c.args.part.now in
    record {
      fed = λ member is.
          unfed-passed (seat_of part c.args.meta.now) c.args.receipt.now part member c.args.messages.now c.next_of-index.result _ _ c.next_of-index.ensures.passed
          (record { member_is = is; matched = refl; accounts = record { bad = refl; findings = refl } });
      reader = c.requires;
      matched = omega arith;
      bad = omega arith;
      within = c.next_of-index.ensures.within;
      own = c.next_of-index.ensures.own;
    }

pub loop-index-preserved : goal.loop-index-preserved
loop-index-preserved c =
    let messages = c.args.messages.now in
    let part = c.args.part.now in
    let receipt = c.args.receipt.now in
    let seat = seat_of part c.args.meta.now in
    let index = c.loop-index.index in
    let next = c.next_of-index-in-loop-index in
    let within : index < length (listed messages) = omega (arith, listed-length messages messages.count) in
    record {
      fed = λ member is.
          subst (λ (fed : AccountValue). IsFed seat fed c.offer.new.self c.offer.new.account)
          (sym (offered-passed seat receipt part (no_account member) messages (index + 1) next.result next.ensures.passed
          ∙ offered-more seat receipt part.writer (no_account member) messages index within))
          (c.offer.ensures.fed (fold (offered seat receipt part.writer) (no_account member) (take index (listed messages))) (c.loop-index.invariant.fed member is));
      reader = c.offer.ensures.reader;
      matched = omega (arith, next.ensures.ahead);
      bad = omega (arith, next.ensures.ahead);
      within = next.ensures.within;
      own = next.ensures.own;
    }

pub returns-clause-fed : goal.returns-clause-fed
returns-clause-fed c = λ member is.
    subst (λ (fed : AccountValue). IsFed (seat_of c.args.part.now c.args.meta.now) fed c.loop-index.self c.loop-index.account)
    (offered-end (seat_of c.args.part.now c.args.meta.now) c.args.receipt.now c.args.part.now (no_account member) c.args.messages.now c.loop-index.index c.args.messages.now.count (omega arith))
    (c.loop-index.invariant.fed member is)
