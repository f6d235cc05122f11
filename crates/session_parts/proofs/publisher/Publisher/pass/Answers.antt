use Rattle.std.proofs.Common.{◌≡◌, true, false, get_or, ap, sym, ◌∙◌, subst, arith, rules}
use Rattle.std.proofs.lemmas.List.{set-get_or}
use Rattle.ua_base.proofs.Links.{KeepsLink-refl}
use Rattle.writer_group.specs.Standing.{metas_for}
use Rattle.writer_group.specs.Parts.{group_at}
use Rattle.session_parts.specs.declared.publisher.Publisher.{Publisher}
use Rattle.session_parts.specs.Holding.{AreStillLogged}
use Rattle.session_parts.specs.Ticking.{GoesOnAt, IsBefore, OthersStay}
use Rattle.session_parts.proofs.Passing.{passes-by}
use Rattle.session_parts.proofs.Halting.{turn-halts}
use Rattle.session_parts.proofs.Passed.{fewer, hold-sent, knows-told, passed, some-of}
use Rattle.session_parts.proofs.publisher.Publisher.pass.Goals as goal

pub returns-then-not-has_turn-clause-goes_on : goal.returns-then-not-has_turn-clause-goes_on
returns-then-not-has_turn-clause-goes_on g c =
    λ turns goes d.
    fewer (metas_for (group_at c.args.told.now.config.now c.args.g) c.args.told.now.metas.now) (group_at c.args.told.now.config.now c.args.g) turns
    (get_or c.args.self.now.groups.items c.args.g d) (goes d)

pub returns-then-not-has_turn-clause-logs : goal.returns-then-not-has_turn-clause-logs
returns-then-not-has_turn-clause-logs g c = λ most all. all

pub returns-then-not-has_turn-clause-others : goal.returns-then-not-has_turn-clause-others
returns-then-not-has_turn-clause-others g c = λ d. sym (set-get_or c.args.self.now.groups.items c.args.g d)

pub returns-then-not-has_turn-clause-passes : goal.returns-then-not-has_turn-clause-passes
returns-then-not-has_turn-clause-passes g c =
    λ done t so_far sends told at none.
    let off : c.has_turn.result ≡ false = search rules in
    passes-by t c.args.g so_far sends c.args.self.now c.args.tree.now (g.L.Link.told c.args.link.now)
    (sym (c.has_turn.ensures.has t so_far sends (record { told_is = told; at = at; none_failed = none })) ∙ off) at none

pub returns-then-not-has_turn-clause-link : goal.returns-then-not-has_turn-clause-link
returns-then-not-has_turn-clause-link g c = KeepsLink-refl g.L.Link.told g.L.Link.patience g.L.Link.opened_with g.L.Link.faults g.L.Link.made g.L.Link.openings c.args.link.now

pub turn-count-requires-clause-unspent : goal.turn-count-requires-clause-unspent
turn-count-requires-clause-unspent g c =
    let on : c.has_turn.result ≡ true = search rules in
    c.has_turn.ensures.unspent on

pub tell-requires-clause-holds : goal.tell-requires-clause-holds
tell-requires-clause-holds g c =
    hold-sent c.args.told.now.config.now c.turn-count.new.self c.send_all-ticked.new.self c.send_all-ticked.ensures.rest c.send_all-ticked.ensures.count c.turn-count.ensures.holds

pub returns-clause-holds : goal.returns-clause-holds
returns-clause-holds g c =
    hold-sent c.args.told.now.config.now c.turn-count.new.self c.send_all-ticked.new.self c.send_all-ticked.ensures.rest c.send_all-ticked.ensures.count c.turn-count.ensures.holds

pub returns-clause-spent : goal.returns-clause-spent
returns-clause-spent g c = knows-told c.args.told.now.config.now c.send_all-ticked.new.self c.args.tree.now c.tell.new.tree c.tell.ensures.faults

pub returns-clause-goes_on : goal.returns-clause-goes_on
returns-clause-goes_on g c =
    λ turns goes.
    subst (λ (p : Publisher). GoesOnAt c.args.told.now.config.now c.args.told.now.metas.now turns c.args.g p.groups.items) (sym c.send_all-ticked.ensures.rest) (c.turn-count.ensures.goes_on turns goes)

pub returns-clause-logs : goal.returns-clause-logs
returns-clause-logs g c = subst (λ (p : Publisher). AreStillLogged c.args.self.now.groups.items p.groups.items) (sym c.send_all-ticked.ensures.rest) c.turn-count.ensures.logs

pub returns-clause-others : goal.returns-clause-others
returns-clause-others g c =
    subst (λ (p : Publisher). OthersStay c.args.g c.args.self.now.groups.items p.groups.items) (sym c.send_all-ticked.ensures.rest) c.turn-count.ensures.others

pub returns-clause-passes : goal.returns-clause-passes
returns-clause-passes g c =
    λ is_done t so_far done told at none.
    let on : c.has_turn.result ≡ true = search rules in
    let turn = c.turn-count.ensures in
    let one = c.turn-count.new.self in
    let two = c.send_all-ticked.new.self in
    let is : IsBefore t c.args.g so_far done c.args.told.now c.args.self.now c.args.tree.now = record { told_is = told; at = at; none_failed = none } in
    let sent = c.send_all-ticked.ensures.sent is_done in
    passed t c.args.g so_far done sent.0 c.args.told.now c.args.self.now one two c.args.tree.now c.tell.new.tree (g.L.Link.told c.args.link.now) (g.L.Link.told c.send_all-ticked.new.link)
    c.requires.may is (sym (c.has_turn.ensures.has t so_far done is) ∙ on) (turn.turned t so_far done is) (omega (arith, turn.count, turn.few)) turn.others
    (ap (λ (p : Publisher). p.sends) turn.rest) (ap (λ (p : Publisher). p.link) turn.rest) sent.1 c.send_all-ticked.ensures.rest c.tell.ensures.counts c.tell.ensures.faults

pub returns-clause-halted : goal.returns-clause-halted
returns-clause-halted g c =
    λ is_memory t so_far done told at none.
    let on : c.has_turn.result ≡ true = search rules in
    let turn = c.turn-count.ensures in
    let one = c.turn-count.new.self in
    let two = c.send_all-ticked.new.self in
    let rest = c.send_all-ticked.ensures.rest in
    let is : IsBefore t c.args.g so_far done c.args.told.now c.args.self.now c.args.tree.now = record { told_is = told; at = at; none_failed = none } in
    turn-halts t c.args.g so_far done c.args.self.now one two c.args.tree.now (g.L.Link.told c.args.link.now) (g.L.Link.told c.send_all-ticked.new.link)
    (some-of c.args.self.now.groups.items (omega (arith, c.requires.may.within, c.requires.may.holds.groups.count)))
    (sym (c.has_turn.ensures.has t so_far done is) ∙ on) at (turn.turned t so_far done is) turn.others
    (ap (λ (p : Publisher). p.sends) turn.rest) (ap (λ (p : Publisher). p.link) turn.rest) (c.send_all-ticked.ensures.halted is_memory)
    (ap (λ (p : Publisher). p.groups) rest) (ap (λ (p : Publisher). p.senders) rest)
