use Rattle.test_sessions.proofs.calls.write.Goals as goal

pub returns : goal.returns
returns g c =
    let is = c.requires in
    record {
      session_is = is.session_is;
      small = is.small;
      bank_is = is.bank_is;
      targets_are = is.targets_are;
      running = is.running;
      left = is.left;
      cell_is = is.cell_is;
      hands_are = c.write_next.ensures.hands;
    }
