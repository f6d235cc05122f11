use Rattle.std.proofs.Common.{ℕ, ◌+◌, Option, get_or, refl, sym, subst, arith}
use Rattle.std.specs.Prelude.{All}
use Rattle.std.specs.List.{AllWithin, Any}
use Rattle.std.proofs.lemmas.List.Elements.{AllWithin-more, AllWithin-none}
use Rattle.group_keys.specs.declared.ring.Ring.{Ring}
use Rattle.message_guard.specs.Senders.{SenderState}
use Rattle.device.specs.Coming.{HasNewToken}
use Rattle.device.specs.Due.{KeepsToken, TellsFirst}
use Rattle.device.specs.Sides.{HasRing}
use Rattle.device.proofs.Dues.{first-both, first-then}
use Rattle.device.proofs.Places.{holds-at}
use Rattle.device.proofs.Rings.{ring-at, rings-count}
use Rattle.device.proofs.due.keys_due.Goals as goal

pub loop-k-init : goal.loop-k-init
loop-k-init c = λ t low high. AllWithin-none (KeepsToken t) c.args.senders.now 0

pub bounds-rings-k : goal.bounds-rings-k
bounds-rings-k c = omega (arith, c.loop-k-test.true, rings-count c.args.senders.now c.args.rings.now c.requires)

pub key_due-due-requires : goal.key_due-due-requires
key_due-due-requires c =
    let sender = c.index-senders-k.result in
    let ring = c.index-rings-k.result in
    let k = c.loop-k.k in
    subst (λ (r : Ring). HasRing sender r) (sym c.index-rings-k.is)
    (subst (λ (s : SenderState). HasRing s (get_or c.args.rings.now k ring)) (sym c.index-senders-k.is)
    (ring-at c.args.senders.now c.args.rings.now k sender ring c.requires c.loop-k-test.true))

pub loop-k-preserved : goal.loop-k-preserved
loop-k-preserved c =
    let now = c.args.now in
    let senders = c.args.senders.now in
    let k = c.loop-k.k in
    let sender = c.index-senders-k.result in
    let low = c.loop-k-test.true in
    subst (λ (o : Option ℕ). TellsFirst now (λ t. AllWithin (KeepsToken t) senders 0 (k + 1)) (λ t. Any (HasNewToken t) senders) o) (sym c.earlier-first.ensures)
    (first-both now (λ t. AllWithin (KeepsToken t) senders 0 (k + 1)) (λ t. Any (HasNewToken t) senders) (λ t. AllWithin (KeepsToken t) senders 0 k) (λ t. Any (HasNewToken t) senders)
    (λ t. KeepsToken t sender) (λ t. HasNewToken t sender) c.loop-k.first c.key_due-due.result
    (λ t far one. AllWithin-more (KeepsToken t) senders 0 k far (holds-at (KeepsToken t) senders senders k k sender refl refl low c.index-senders-k.is one))
    (λ t some. some) (λ t one. (k, sender, low, sym c.index-senders-k.is, one)) c.loop-k.invariant c.key_due-due.ensures)

pub returns : goal.returns
returns c =
    let senders = c.args.senders.now in
    first-then c.args.now (λ t. AllWithin (KeepsToken t) senders 0 c.loop-k.k) (λ t. Any (HasNewToken t) senders) (λ t. All (KeepsToken t) senders) (λ t. Any (HasNewToken t) senders)
    c.loop-k.first (λ t far k d low. far k d (omega arith) (omega (arith, low, c.loop-k-test.false))) (λ t some. some) c.loop-k.invariant
