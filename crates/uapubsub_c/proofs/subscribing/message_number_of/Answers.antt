use Rattle.std.proofs.Common.{◌≡◌, sym, None}
use Rattle.uapubsub_c.specs.Reading.{HasNumber}
use Rattle.uapubsub_c.proofs.Telling.{keeps-so}
use Rattle.uapubsub_c.proofs.subscribing.message_number_of.Goals as goal

pub returns-in-Some-number : goal.returns-in-Some-number
returns-in-Some-number c =
    keeps-so c.args.group c.args.reader c.args.subscriber.now c.in-Some.holder.now (HasNumber c.in-Some-number.number) c.in-Some.ensures.reader
    (λ meta. sym (c.in-Some-number.ensures meta.fields))

pub returns-in-None : goal.returns-in-None
returns-in-None c =
    keeps-so c.args.group c.args.reader c.args.subscriber.now c.in-Some.holder.now (λ meta kept. kept.number ≡ None) c.in-Some.ensures.reader
    (λ meta. sym (c.in-None.ensures meta.fields))
