use Rattle.std.proofs.Common.{List, ℕ, option_map, refl, sym, subst}
use Rattle.message_guard.specs.Guards.{setup_of}
use Rattle.cmd_keys.specs.Opening.{Finds, IsProtected}
use Rattle.cmd_keys.proofs.opening.trial_of.Goals as goal

pub returns : goal.returns
returns c =
    let found = option_map (λ found. found.items) c.found_by-found.result in
    record {
      token = refl;
      sent = subst (IsProtected c.args.set.now) (sym c.copied-sent.ensures) c.protect_zeros-end.ensures.protected;
      found = subst (λ (sent : List ℕ). Finds (setup_of c.args.guard.now) sent found) (sym c.copied-sent.ensures) c.found_by-found.ensures;
    }
