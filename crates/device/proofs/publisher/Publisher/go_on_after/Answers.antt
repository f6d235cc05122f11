use Rattle.std.proofs.Common.{ℕ, List, length, refl, ap, subst}
use Rattle.message_guard.specs.Senders.{SenderState}
use Rattle.device.specs.Restarts.{HaveGoneOn}
use Rattle.device.proofs.Rising.{begun-senders}
use Rattle.device.proofs.publisher.Publisher.go_on_after.Goals as goal

pub returns-clause-restored : goal.returns-clause-restored
returns-clause-restored c =
    let old = c.args.self.now in
    let begun = c.begin_all.new.self in
    let gone = c.go_on_all.new.self in
    let words = c.args.state.words in
    record {
      no_later = c.requires.no_later;
      begun = begun;
      numbers = c.begin_all.ensures.begun;
      gone = gone;
      senders = subst (λ (n : ℕ). HaveGoneOn c.args.now n words begun gone) (ap (λ (l : List SenderState). length l) (begun-senders 64 words old begun c.begin_all.ensures.begun))
          c.go_on_all.ensures.gone;
      rest = refl;
    }
