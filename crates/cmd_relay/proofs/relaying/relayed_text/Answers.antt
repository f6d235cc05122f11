use Rattle.std.proofs.Common.{refl, arith}
use Rattle.session_model.specs.Counts.{session_nothings}
use Rattle.script_player.proofs.Openings.{as-failed, performed-opened}
use Rattle.cmd_relay.proofs.Openings.{both-less, then-kept}
use Rattle.cmd_relay.proofs.relaying.relayed_text.Goals as goal

-- as the opening of both ended
pub returns-in_err-open_both-clause-links : goal.returns-in_err-open_both-clause-links
returns-in_err-open_both-clause-links g c =
    let same = as-failed {U = Unit {0}} c.from_residual-in_err-open_both.result c.in_err-open_both.field-0.0 c.from_residual-in_err-open_both.ensures.1 in
    both-less _ _ _ _ _ _ _ _ (omega arith) same.0 same.1 c.in_err-open_both.ensures.links

-- both were opened, and each call behind that kept them
pub returns-clause-links : goal.returns-clause-links
returns-clause-links g c =
    let both = c.in_ok-open_both.ensures.links in
    record {
      lab_opens = then-kept g.A.Link.told g.A.Link.patience g.A.Link.opened_with g.A.Link.faults g.A.Link.made g.A.Link.openings _ session_nothings _ _ _ both.lab_opens refl c.text.ensures.lab;
      wire_opens = then-kept g.B.Link.told g.B.Link.patience g.B.Link.opened_with g.B.Link.faults g.B.Link.made g.B.Link.openings _ session_nothings _ _ _ both.wire_opens refl c.text.ensures.wire;
      unopened = λ is. absurd (performed-opened is);
    }
