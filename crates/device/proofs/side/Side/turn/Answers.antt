use Rattle.std.proofs.Common.{◌≡◌, ℕ, ◌<◌, ◌≤◌, length, refl, set, subst, sym, ap, ◌∙◌, arith}
use Rattle.std.specs.Prelude.{Option, Some, None, IfNone, IfSome}
use Rattle.std.proofs.lemmas.Option.{slice_get_past}
use Rattle.message_guard.specs.Senders.{SenderState}
use Rattle.device.specs.Sides.{HasNumbered, HasTurned, IsBecome, MayNotTurn, nth_sender, numbered, sender_for}
use Rattle.device.proofs.Sending.{become-at, none-always, none-then, not-without, same-set, sender-at, some-always, some-then}
use Rattle.device.proofs.side.Side.turn.Goals as goal

-- ---- a group that isn't secured

pub returns-in-None-clause-turned : goal.returns-in-None-clause-turned
returns-in-None-clause-turned c =
    subst (λ (keygroup : Option ℕ). IfSome c.turn_plain.result
    (HasTurned c.args.config.now c.args.moment c.args.rows.now (nth_sender c.args.senders.now keygroup) c.args.self.now c.turn_plain.new.self c.turn_plain.new.out))
    c.in-None.ensures c.turn_plain.ensures.turned

pub returns-in-None-clause-may_not : goal.returns-in-None-clause-may_not
returns-in-None-clause-may_not c =
    subst (λ (keygroup : Option ℕ). IfNone c.turn_plain.result (MayNotTurn c.args.config.now c.args.rows.now (nth_sender c.args.senders.now keygroup) c.args.self.now))
    c.in-None.ensures c.turn_plain.ensures.may_not

pub returns-in-None-clause-senders_stay : goal.returns-in-None-clause-senders_stay
returns-in-None-clause-senders_stay c = none-always c.turn_plain.result (c.args.senders.now ≡ c.args.senders.now) refl

pub returns-in-None-clause-numbers : goal.returns-in-None-clause-numbers
returns-in-None-clause-numbers c =
    let config = c.args.config.now in
    let index = c.args.self.now.index in
    let senders = c.args.senders.now in
    some-always c.turn_plain.result (λ (made : ℕ). HasNumbered config index made senders senders)
    (λ made. subst (λ (keygroup : Option ℕ). IsBecome keygroup (numbered config index made) senders senders) c.in-None.ensures refl)

-- ---- a group that is secured

pub returns-then-k-senders-clause-may_not : goal.returns-then-k-senders-clause-may_not
returns-then-k-senders-clause-may_not c =
    let config = c.args.config.now in
    let senders = c.args.senders.now in
    let side = c.args.self.now in
    let keygroup = c.in-Some.keygroup in
    let keyed = sym c.in-Some.ensures in
    let past : length senders ≤ keygroup = omega (arith, c.if-k-senders.true, c.from-k.ensures) in
    let none : sender_for config senders side.index ≡ None = ap (λ (o : Option ℕ). nth_sender senders o) keyed ∙ slice_get_past senders keygroup past in
    let low : side.index < length config.group = omega (arith, c.requires.side.index, c.requires.side.keeps_to.index) in
    subst (λ (sender : Option SenderState). MayNotTurn config c.args.rows.now sender side) (sym none)
    (not-without config c.args.rows.now side.on.items side.group side.index keygroup c.requires.good.sound c.requires.side.index low keyed)

pub returns-else-k-senders-clause-turned : goal.returns-else-k-senders-clause-turned
returns-else-k-senders-clause-turned c =
    let config = c.args.config.now in
    let senders = c.args.senders.now in
    let sender = c.index-senders-k.result in
    let low : c.from-k.result < length senders = omega (arith, c.if-k-senders.false) in
    let some = sender-at config senders c.args.self.now.index c.in-Some.keygroup c.from-k.result sender (sym c.in-Some.ensures) c.from-k.ensures low c.index-senders-k.is in
    subst (λ (s : Option SenderState). IfSome c.turn_secured.result (HasTurned config c.args.moment c.args.rows.now s c.args.self.now c.turn_secured.new.self c.turn_secured.new.out)) (sym some)
    (subst (λ (s : SenderState). IfSome c.turn_secured.result (HasTurned config c.args.moment c.args.rows.now (Some s) c.args.self.now c.turn_secured.new.self c.turn_secured.new.out)) (sym c.index-senders-k.is)
    c.turn_secured.ensures.turned)

pub returns-else-k-senders-clause-may_not : goal.returns-else-k-senders-clause-may_not
returns-else-k-senders-clause-may_not c =
    let config = c.args.config.now in
    let senders = c.args.senders.now in
    let sender = c.index-senders-k.result in
    let low : c.from-k.result < length senders = omega (arith, c.if-k-senders.false) in
    let some = sender-at config senders c.args.self.now.index c.in-Some.keygroup c.from-k.result sender (sym c.in-Some.ensures) c.from-k.ensures low c.index-senders-k.is in
    subst (λ (s : Option SenderState). IfNone c.turn_secured.result (MayNotTurn config c.args.rows.now s c.args.self.now)) (sym some)
    (subst (λ (s : SenderState). IfNone c.turn_secured.result (MayNotTurn config c.args.rows.now (Some s) c.args.self.now)) (sym c.index-senders-k.is) c.turn_secured.ensures.may_not)

pub returns-else-k-senders-clause-senders_stay : goal.returns-else-k-senders-clause-senders_stay
returns-else-k-senders-clause-senders_stay c =
    let senders = c.args.senders.now in
    let k = c.from-k.result in
    let sender = c.index-senders-k.result in
    let new = c.turn_secured.new.sender in
    none-then c.turn_secured.result (new ≡ sender) (set senders k new ≡ senders) (λ stays. same-set senders k sender new c.index-senders-k.is stays)
    (subst (λ (s : SenderState). IfNone c.turn_secured.result (new ≡ s)) (sym c.index-senders-k.is) c.turn_secured.ensures.sender_stays)

pub returns-else-k-senders-clause-numbers : goal.returns-else-k-senders-clause-numbers
returns-else-k-senders-clause-numbers c =
    let config = c.args.config.now in
    let index = c.args.self.now.index in
    let senders = c.args.senders.now in
    let k = c.from-k.result in
    let sender = c.index-senders-k.result in
    let new = c.turn_secured.new.sender in
    let low : k < length senders = omega (arith, c.if-k-senders.false) in
    some-then c.turn_secured.result (λ (made : ℕ). new ≡ numbered config index made sender) (λ (made : ℕ). HasNumbered config index made senders (set senders k new))
    (λ made become.
    subst (λ (keygroup : Option ℕ). IsBecome keygroup (numbered config index made) senders (set senders k new)) c.in-Some.ensures
    (become-at (numbered config index made) senders c.in-Some.keygroup k sender new c.from-k.ensures low c.index-senders-k.is become))
    (subst (λ (s : SenderState). IfSome c.turn_secured.result (λ (made : ℕ). new ≡ numbered config index made s)) (sym c.index-senders-k.is) c.turn_secured.ensures.numbers)
