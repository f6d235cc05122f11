use Rattle.std.proofs.Common.{ℕ, ◌+◌, ◌<◌, Option, sym, subst, arith}
use Rattle.device.specs.Due.{AreInTime, HasTimeout, IsInTime, TellsFirst, TimesOut}
use Rattle.device.proofs.Dues.{first-both, first-then, in-time-more}
use Rattle.device.proofs.listening.Listening.due.Goals as goal

pub loop-reader-init : goal.loop-reader-init
loop-reader-init c = λ t low high reader below. absurd (omega (arith, below))

pub reader_due-due-requires : goal.reader_due-due-requires
reader_due-due-requires c = omega (arith, c.loop-reader-test.true, c.count-reader-end.ensures)

pub loop-reader-preserved : goal.loop-reader-preserved
loop-reader-preserved c =
    let now = c.args.now in
    let self = c.args.self.now in
    let k = c.loop-reader.reader in
    subst (λ (o : Option ℕ). TellsFirst now (λ t. (reader : ℕ) → reader < k + 1 → IsInTime t reader self.group) (λ t. HasTimeout t self) o) (sym c.earlier-first.ensures)
    (first-both now (λ t. (reader : ℕ) → reader < k + 1 → IsInTime t reader self.group) (λ t. HasTimeout t self)
    (λ t. (reader : ℕ) → reader < k → IsInTime t reader self.group) (λ t. HasTimeout t self) (λ t. IsInTime t k self.group) (λ t. TimesOut t k self.group)
    c.loop-reader.first c.reader_due-due.result (λ t far one. in-time-more t k self.group far one) (λ t some. some)
    (λ t one. record { reader = k; within = omega (arith, c.loop-reader-test.true, c.count-reader-end.ensures); late = one }) c.loop-reader.invariant c.reader_due-due.ensures)

pub returns : goal.returns
returns c =
    let self = c.args.self.now in
    first-then c.args.now (λ t. (reader : ℕ) → reader < c.loop-reader.reader → IsInTime t reader self.group) (λ t. HasTimeout t self) (λ t. AreInTime t self) (λ t. HasTimeout t self)
    c.loop-reader.first (λ t far reader low. far reader (omega (arith, low, c.loop-reader-test.false, c.count-reader-end.ensures))) (λ t some. some) c.loop-reader.invariant
