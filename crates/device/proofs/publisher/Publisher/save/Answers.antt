use Rattle.std.proofs.Common.{List, ℕ, refl, sym, subst, ◌∙◌}
use Rattle.device.specs.Storing.{AreWords}
use Rattle.device.proofs.Savings.{messages-saved, pairs-saved}
use Rattle.device.proofs.publisher.Publisher.save.Goals as goal

pub returns-clause-saved : goal.returns-clause-saved
returns-clause-saved c =
    let state = c.state_with-state.result in
    let are : AreWords c.args.ahead c.args.self.now state.words = subst (λ (l : List ℕ). AreWords c.args.ahead c.args.self.now l) (sym c.state_with-state.ensures.words) c.words.ensures.words in
    record {
      publisher = c.requires;
      state = state;
      is_state = c.state_with-state.ensures.state;
      bytes_are = c.write.ensures;
      fingerprint = c.state_with-state.ensures.fingerprint ∙ c.fingerprint_of.ensures;
      pairs = pairs-saved c.args.ahead c.args.self.now state.words c.requires are;
      messages = messages-saved c.args.ahead c.args.self.now state.words c.requires are;
      rest = refl;
    }
