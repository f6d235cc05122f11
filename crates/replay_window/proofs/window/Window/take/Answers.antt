use Rattle.std.proofs.Common.{◌<◌, ◌+◌, arith}
use Rattle.replay_window.specs.Taken.{greatest}
use Rattle.replay_window.proofs.TakenLemmas.{IsWindowOf-within, IsWindowOf-above, recent_when_fresh}
use Rattle.replay_window.proofs.window.Window.take.Goals as goal
use Rattle.replay_window.proofs.window.Window.take.Goals.{then-n-self, else-n-self}

pub returns : goal.returns
returns c =
    λ taken is.
    elim c.if-n-self.branch [
      | then-n-self w ↦ (
          rw w.self-is
          (IsWindowOf-above taken c.args.self.now w.advance.new.words c.mark.new.words c.args.n is w.if-n-self.true
          (record { cleared = w.advance.ensures.cleared; kept = w.advance.ensures.kept })
          (record { marked = c.mark.ensures.marked; others = rw w.self-is at c.mark.ensures.others }))
          )
      | else-n-self w ↦ (
          let recent : greatest taken < c.args.n + 1024 = recent_when_fresh taken c.args.n (c.requires taken is) in
          rw w.self-is
          (IsWindowOf-within taken c.args.self.now c.mark.new.words c.args.n is w.if-n-self.false (omega (arith, is.high_is))
          (record { marked = c.mark.ensures.marked; others = rw w.self-is at c.mark.ensures.others }))
          )
    ]
