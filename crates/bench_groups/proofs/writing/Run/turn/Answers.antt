use Rattle.std.proofs.Common.{◌≤◌, List, Bool, sym, subst, Some, None}
use Rattle.std.specs.List.{HoldsAt}
use Rattle.message_guard.specs.Senders.{numbers_left}
use Rattle.writer_group.specs.Standing.{MayTick, index_of}
use Rattle.bench_groups.specs.Running.{AreRows}
use Rattle.bench_groups.proofs.Turns.{HasGoneOn, fits_again, may_tick, next_turn, unspent_is}
use Rattle.bench_groups.proofs.writing.Run.turn.Goals as goal

pub tick-requires-clause-turn : goal.tick-requires-clause-turn
tick-requires-clause-turn c =
    let config = c.args.config.now in
    let run = c.args.self.now in
    let metas = c.as_slice-metas.result.now in
    let rows = c.rows_at-rows.result.now in
    let even = subst (λ l. AreRows config.dataset l) (sym c.deref.ensures.value) c.requires.even_are in
    let odd = subst (λ l. AreRows config.dataset l) (sym c.deref-2.ensures.value) c.requires.odd_are in
    subst (λ (on : List Bool). HoldsAt (MayTick config metas rows on None run.group) config.group (index_of run.group)) (sym c.deref-in-None.ensures.value)
    (may_tick config run metas rows None c.requires c.as_slice-metas.ensures (c.rows_at-rows.ensures config.dataset even odd) (sym c.in-None.is) tt)

pub tick-requires-in-Some-2-clause-turn : goal.tick-requires-in-Some-2-clause-turn
tick-requires-in-Some-2-clause-turn c =
    let config = c.args.config.now in
    let run = c.args.self.now in
    let metas = c.as_slice-metas.result.now in
    let rows = c.rows_at-rows.result.now in
    let sender = c.in-Some.sender in
    let even = subst (λ l. AreRows config.dataset l) (sym c.deref.ensures.value) c.requires.even_are in
    let odd = subst (λ l. AreRows config.dataset l) (sym c.deref-2.ensures.value) c.requires.odd_are in
    let unspent : 1024 ≤ numbers_left sender = unspent_is c.spent.result sender c.spent.ensures c.if-spent.false in
    subst (λ (on : List Bool). HoldsAt (MayTick config metas rows on (Some sender) run.group) config.group (index_of run.group)) (sym c.deref-in-Some-2.ensures.value)
    (may_tick config run metas rows (Some sender) c.requires c.as_slice-metas.ensures (c.rows_at-rows.ensures config.dataset even odd) (sym c.in-Some.is) unspent)

pub returns-in-None-clause-goes_on : goal.returns-in-None-clause-goes_on
returns-in-None-clause-goes_on c =
    let config = c.args.config.now in
    let metas = c.as_slice-metas.result.now in
    let gone : HasGoneOn config metas c.args.self.now.group c.tick.new.self = record { goes_on = c.tick.ensures.goes_on; made = c.tick.ensures.made; index = c.tick.ensures.index } in
    next_turn config metas c.args.self.now c.tick.new.self c.args.self.now.sender c.tick.new.out c.as_slice-metas.ensures gone c.requires.sender_fits c.tick.ensures.reserved

pub returns-in-Some-2-clause-goes_on : goal.returns-in-Some-2-clause-goes_on
returns-in-Some-2-clause-goes_on c =
    let tick = c.tick-in-Some-2 in
    let config = c.args.config.now in
    let metas = c.as_slice-metas.result.now in
    let gone : HasGoneOn config metas c.args.self.now.group tick.new.self = record { goes_on = tick.ensures.goes_on; made = tick.ensures.made; index = tick.ensures.index } in
    let fits = fits_again config c.args.self.now.sender c.in-Some.sender tick.new.sender.0 c.requires.sender_fits c.in-Some.is tick.ensures.sender_stays in
    next_turn config metas c.args.self.now tick.new.self (Some tick.new.sender.0) tick.new.out c.as_slice-metas.ensures gone fits tick.ensures.reserved
