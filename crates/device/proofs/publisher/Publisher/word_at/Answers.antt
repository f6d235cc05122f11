use Rattle.device.proofs.Savings.{message-word, number-word, token-word}
use Rattle.std.proofs.Common.{refl}
use Rattle.device.proofs.publisher.Publisher.word_at.Goals as goal

pub returns-then-place-lt-STATE_KEYGROUPS : goal.returns-then-place-lt-STATE_KEYGROUPS
returns-then-place-lt-STATE_KEYGROUPS c = token-word c.args.ahead c.args.self.now c.args.place _ c.pair_at.result c.if-place-lt-STATE_KEYGROUPS.true c.pair_at.ensures refl

pub returns-then-place-lt-MESSAGES_AT : goal.returns-then-place-lt-MESSAGES_AT
returns-then-place-lt-MESSAGES_AT c =
    number-word c.args.ahead c.args.self.now c.args.place _ _ c.pair_at-then-place-lt-MESSAGES_AT.result c.if-place-lt-STATE_KEYGROUPS.false c.if-place-lt-MESSAGES_AT.true refl
    c.pair_at-then-place-lt-MESSAGES_AT.ensures refl

pub returns : goal.returns
returns c = message-word c.args.ahead c.args.self.now c.args.place _ _ c.message_at.result c.if-place-lt-MESSAGES_AT.false refl refl c.message_at.ensures
