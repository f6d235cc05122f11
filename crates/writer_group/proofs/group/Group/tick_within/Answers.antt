use Rattle.std.proofs.Common.{◌≡◌, sym, ap, subst, ◌∙◌, arith, length, Option, Some}
use Rattle.ps_config.proofs.Roomy.{chunk_roomy}
use Rattle.ps_config.specs.declared.parts.GroupPart.{GroupPart}
use Rattle.ps_config.specs.Headers.{mode_of}
use Rattle.message_guard.specs.Senders.{SenderState}
use Rattle.writer_group.specs.declared.datagrams.Datagrams.{Datagrams}
use Rattle.writer_group.specs.Lending.{lent_in}
use Rattle.writer_group.specs.declared.settings.Rooms.{Rooms}
use Rattle.writer_group.specs.Making.{IsPosted, MayMake, loads_in}
use Rattle.writer_group.specs.Sealing.{advanced_by}
use Rattle.writer_group.specs.Needs.{group_need}
use Rattle.writer_group.specs.Standing.{HasRoomOf, IsMadeFor, IsSenderFor, MayTick, index_of}
use Rattle.writer_group.proofs.Needs.{frames-room, room-at}
use Rattle.writer_group.proofs.SetupLaws.{few-writers}
use Rattle.writer_group.proofs.ReadyTurns.{keeps-ticked, passed-made}
use Rattle.writer_group.proofs.TickSteps.{HasLoads, IsInTurn, IsPartOf, at-part, few-sizes, loads-left, loads-room, may-answer, may-make, of-part}
use Rattle.writer_group.proofs.WholeTurns.{HadTurns, HasPosted, as-posted, few-posted, has-loads, loads-few, logs-stay, sender-stays, still-made, turned-few, turned-goes-on, turned-stands}
use Rattle.writer_group.proofs.group.Group.tick_within.Goals as goal
use Rattle.writer_group.specs.Holding.{listed_sizes}
use Rattle.writer_group.proofs.group.Group.tick_within.Goals.{After-a_class_id_is_whole, After-answer, After-plan_loads, After-post, After-post_sealed}

own : (c : After-a_class_id_is_whole) → IsPartOf c.args.config.now c.args.self.now.index c.part_of-group.result.now
own c = record { good = c.requires.good; within = c.requires.index; is = c.part_of-group.ensures; class_id = c.a_class_id_is_whole.ensures }

may : (c : After-a_class_id_is_whole) → MayTick c.args.config.now c.args.metas.now c.args.rows.now c.args.on.now (lent_in c.args.sender) c.args.self.now c.part_of-group.result.now
may c =
    of-part c.args.config.now c.args.self.now.index c.part_of-group.result.now (MayTick c.args.config.now c.args.metas.now c.args.rows.now c.args.on.now (lent_in c.args.sender) c.args.self.now) (own c)
    c.requires.turn

had : (c : After-answer) → HadTurns c.args.config.now c.part_of-group.result.now c.args.metas.now c.args.rows.now c.args.on.now c.args.now c.args.closing c.args.self.now c.answer.new.self c.answer.new.out
had c = record { answered = c.answer.ensures.answered; goes_on = c.answer.ensures.goes_on; rest = c.answer.ensures.rest; spelled = c.answer.ensures.spelled }

still : (c : After-answer) → IsMadeFor c.args.config.now c.part_of-group.result.now c.args.self.now → IsMadeFor c.args.config.now c.part_of-group.result.now c.answer.new.self
still c made =
    still-made c.args.config.now c.part_of-group.result.now c.args.metas.now c.args.rows.now c.args.on.now c.args.now c.args.closing c.args.self.now c.answer.new.self c.answer.new.out (had c) made

abbrev planned : After-plan_loads → Datagrams
planned c = record c.answer.new.out { loads = c.plan_loads.new.loads }

has : (c : After-plan_loads) → IsMadeFor c.args.config.now c.part_of-group.result.now c.args.self.now → HasLoads c.args.config.now c.part_of-group.result.now c.answer.new.out (planned c)
has c made =
    has-loads c.args.config.now c.part_of-group.result.now c.args.metas.now c.args.rows.now c.args.on.now c.args.now c.args.closing c.args.self.now c.answer.new.self c.answer.new.out c.plan_loads.new.loads
    (record { answered = c.answer.ensures.answered; goes_on = c.answer.ensures.goes_on; rest = c.answer.ensures.rest; spelled = c.answer.ensures.spelled })
    made c.plan_loads.ensures.planned c.plan_loads.ensures.capacity

-- ---- the conditions of the steps

pub answer-requires-clause-may : goal.answer-requires-clause-may
answer-requires-clause-may c =
    let r = (goal.at.answer-requires-clause-may c).After-a_class_id_is_whole in
    may-answer c.args.config.now c.args.self.now.index c.part_of-group.result.now c.args.metas.now c.args.rows.now c.args.on.now (lent_in c.args.sender) c.args.self.now (own r) (may r)

pub plan_loads-requires-clause-room : goal.plan_loads-requires-clause-room
plan_loads-requires-clause-room c = λ dynamic.
    let g = goal.at.plan_loads-requires-clause-room c in
    let r = g.After-a_class_id_is_whole in
    let rooms = (still g.After-answer (may r).made).rooms in
    omega (
      arith,
      ap (λ (rooms : Rooms). rooms.chunk) rooms,
      chunk_roomy c.args.config.now.publisher.id c.args.metas.now c.part_of-group.result.now (record { dynamic = dynamic; room = (may r).metas_are.room }),
    )

pub plan_loads-requires-clause-few : goal.plan_loads-requires-clause-few
plan_loads-requires-clause-few c =
    let r = (goal.at.plan_loads-requires-clause-few c).After-a_class_id_is_whole in
    few-sizes c.args.config.now c.args.self.now.index c.part_of-group.result.now c.args.metas.now c.answer.new.out (own r) c.answer.ensures.spelled

-- what the turn is given, once its frames are spelled
in-turn : (c : After-answer) → IsMadeFor c.args.config.now c.part_of-group.result.now c.answer.new.self
    → MayTick c.args.config.now c.args.metas.now c.args.rows.now c.args.on.now (lent_in c.args.sender) c.args.self.now c.part_of-group.result.now
    → IsInTurn c.args.config.now c.args.self.now.index c.part_of-group.result.now c.args.metas.now (lent_in c.args.sender) c.answer.new.self c.answer.new.out
in-turn c made may = record {
  own = record { good = c.requires.good; within = c.requires.index; is = c.part_of-group.ensures; class_id = c.a_class_id_is_whole.ensures };
  made_for = made;
  metas_are = may.metas_are;
  sender_is = may.sender_is;
  spelled = c.answer.ensures.spelled;
}

-- it has room, before its writers answer
room : (c : After-a_class_id_is_whole) → HasRoomOf (group_need c.args.config.now.publisher.id c.args.metas.now c.part_of-group.result.now) c.args.out.now
room c = room-at c.args.config.now c.args.metas.now c.args.self.now.index c.part_of-group.result.now c.args.out.now c.requires.index c.part_of-group.ensures c.requires.room

pub answer-requires-clause-frames : goal.answer-requires-clause-frames
answer-requires-clause-frames c =
    let r = (goal.at.answer-requires-clause-frames c).After-a_class_id_is_whole in
    let part = c.part_of-group.result.now in
    let few = few-writers c.args.config.now c.args.self.now.index part c.requires.good.sound c.requires.index c.part_of-group.ensures in
    omega (arith, (may r).sampled.on_are, frames-room c.args.config.now c.args.metas.now part c.args.out.now few (room r))

pub plan_loads-requires-clause-left : goal.plan_loads-requires-clause-left
plan_loads-requires-clause-left c =
    let g = goal.at.plan_loads-requires-clause-left c in
    let r = g.After-a_class_id_is_whole in
    let made = still g.After-answer (may r).made in
    let need = group_need c.args.config.now.publisher.id c.args.metas.now c.part_of-group.result.now in
    omega (
      arith,
      ap (λ (rooms : Rooms). length (loads_in c.part_of-group.result.now.layout rooms c.part_of-group.result.now (listed_sizes c.answer.new.out.frames))) made.rooms,
      loads-left c.args.config.now c.args.self.now.index c.part_of-group.result.now c.args.metas.now (lent_in c.args.sender) c.answer.new.self c.answer.new.out
          (in-turn g.After-answer made (may r)),
      (c.answer.ensures.room need (room r)).loads,
    )

pub post-requires : goal.post-requires
post-requires c =
    let g = goal.at.post-requires c in
    let r = g.After-a_class_id_is_whole in
    let p = g.After-plan_loads in
    let need = group_need c.args.config.now.publisher.id c.args.metas.now c.part_of-group.result.now in
    subst (λ (s : Option SenderState). MayMake c.args.config.now c.part_of-group.result.now s c.answer.new.self (planned p)) (ap lent_in c.in-None.is)
    (may-make c.args.config.now c.args.self.now.index c.part_of-group.result.now c.args.metas.now (lent_in c.args.sender) c.answer.new.self c.answer.new.out (planned p)
    (in-turn g.After-answer (still g.After-answer (may r).made) (may r)) (has p (may r).made) (c.answer.ensures.room need (room r)))

pub post_sealed-requires : goal.post_sealed-requires
post_sealed-requires c =
    let g = goal.at.post_sealed-requires c in
    let r = g.After-a_class_id_is_whole in
    let p = g.After-plan_loads in
    let need = group_need c.args.config.now.publisher.id c.args.metas.now c.part_of-group.result.now in
    subst (λ (s : Option SenderState). MayMake c.args.config.now c.part_of-group.result.now s c.answer.new.self (planned p)) (ap lent_in c.in-Some.is)
    (may-make c.args.config.now c.args.self.now.index c.part_of-group.result.now c.args.metas.now (lent_in c.args.sender) c.answer.new.self c.answer.new.out (planned p)
    (in-turn g.After-answer (still g.After-answer (may r).made) (may r)) (has p (may r).made) (c.answer.ensures.room need (room r)))

pub returns-in-None-clause-room : goal.returns-in-None-clause-room
returns-in-None-clause-room c = λ need before.
    let g = goal.at.returns-in-None-clause-room c in
    let p = g.After-plan_loads in
    c.post.ensures.room need
    (loads-room c.args.config.now c.part_of-group.result.now c.answer.new.out (planned p) (has p (may g.After-a_class_id_is_whole).made) need
    (c.answer.ensures.room need before))

pub returns-in-Some-clause-room : goal.returns-in-Some-clause-room
returns-in-Some-clause-room c = λ need before.
    let g = goal.at.returns-in-Some-clause-room c in
    let p = g.After-plan_loads in
    c.post_sealed.ensures.posted.room need
    (loads-room c.args.config.now c.part_of-group.result.now c.answer.new.out (planned p) (has p (may g.After-a_class_id_is_whole).made) need
    (c.answer.ensures.room need before))

-- ---- the datagrams

posted-open : (c : After-post) → HasPosted c.args.config.now c.args.self.now.index c.part_of-group.result.now c.args.metas.now c.args.rows.now c.args.on.now c.args.now c.args.closing (lent_in c.args.sender) c.args.self.now c.answer.new.self c.answer.new.out (record c.answer.new.out { loads = c.plan_loads.new.loads }) c.post.new.out
posted-open c =
    let part = c.part_of-group.result.now in
    let sender = lent_in c.args.sender in
    let own : IsPartOf c.args.config.now c.args.self.now.index part = record { good = c.requires.good; within = c.requires.index; is = c.part_of-group.ensures; class_id = c.a_class_id_is_whole.ensures } in
    let may : MayTick c.args.config.now c.args.metas.now c.args.rows.now c.args.on.now sender c.args.self.now part =
    of-part c.args.config.now c.args.self.now.index part (MayTick c.args.config.now c.args.metas.now c.args.rows.now c.args.on.now sender c.args.self.now) own c.requires.turn in
    let had : HadTurns c.args.config.now part c.args.metas.now c.args.rows.now c.args.on.now c.args.now c.args.closing c.args.self.now c.answer.new.self c.answer.new.out =
    record { answered = c.answer.ensures.answered; goes_on = c.answer.ensures.goes_on; rest = c.answer.ensures.rest; spelled = c.answer.ensures.spelled } in
    record {
      own = own;
      may = may;
      had = had;
      has = has-loads c.args.config.now part c.args.metas.now c.args.rows.now c.args.on.now c.args.now c.args.closing c.args.self.now c.answer.new.self c.answer.new.out c.plan_loads.new.loads had may.made c.plan_loads.ensures.planned c.plan_loads.ensures.capacity;
      posted = subst (λ (s : Option SenderState). IsPosted c.args.config.now part s c.answer.new.self (record c.answer.new.out { loads = c.plan_loads.new.loads }) c.post.new.out) (sym (ap lent_in c.in-None.is)) c.post.ensures;
    }

posted-sealed : (c : After-post_sealed) → HasPosted c.args.config.now c.args.self.now.index c.part_of-group.result.now c.args.metas.now c.args.rows.now c.args.on.now c.args.now c.args.closing (lent_in c.args.sender) c.args.self.now c.answer.new.self c.answer.new.out (record c.answer.new.out { loads = c.plan_loads.new.loads }) c.post_sealed.new.out
posted-sealed c =
    let part = c.part_of-group.result.now in
    let sender = lent_in c.args.sender in
    let own : IsPartOf c.args.config.now c.args.self.now.index part = record { good = c.requires.good; within = c.requires.index; is = c.part_of-group.ensures; class_id = c.a_class_id_is_whole.ensures } in
    let may : MayTick c.args.config.now c.args.metas.now c.args.rows.now c.args.on.now sender c.args.self.now part =
    of-part c.args.config.now c.args.self.now.index part (MayTick c.args.config.now c.args.metas.now c.args.rows.now c.args.on.now sender c.args.self.now) own c.requires.turn in
    let had : HadTurns c.args.config.now part c.args.metas.now c.args.rows.now c.args.on.now c.args.now c.args.closing c.args.self.now c.answer.new.self c.answer.new.out =
    record { answered = c.answer.ensures.answered; goes_on = c.answer.ensures.goes_on; rest = c.answer.ensures.rest; spelled = c.answer.ensures.spelled } in
    record {
      own = own;
      may = may;
      had = had;
      has = has-loads c.args.config.now part c.args.metas.now c.args.rows.now c.args.on.now c.args.now c.args.closing c.args.self.now c.answer.new.self c.answer.new.out c.plan_loads.new.loads had may.made c.plan_loads.ensures.planned c.plan_loads.ensures.capacity;
      posted = subst (λ (s : Option SenderState). IsPosted c.args.config.now part s c.answer.new.self (record c.answer.new.out { loads = c.plan_loads.new.loads }) c.post_sealed.new.out) (sym (ap lent_in c.in-Some.is)) c.post_sealed.ensures.posted;
    }

pub finish-requires : goal.finish-requires
finish-requires c =
    let g = goal.at.finish-requires c in
    record { few = few-posted c.args.config.now c.args.self.now.index c.part_of-group.result.now c.args.metas.now c.args.rows.now c.args.on.now c.args.now c.args.closing (lent_in c.args.sender) c.args.self.now c.answer.new.self c.answer.new.out (planned g.After-plan_loads) c.post.new.out (posted-open g.After-post) }

pub finish-requires-in-Some : goal.finish-requires-in-Some
finish-requires-in-Some c =
    let g = goal.at.finish-requires-in-Some c in
    record { few = few-posted c.args.config.now c.args.self.now.index c.part_of-group.result.now c.args.metas.now c.args.rows.now c.args.on.now c.args.now c.args.closing (lent_in c.args.sender) c.args.self.now c.answer.new.self c.answer.new.out (planned g.After-plan_loads) c.post_sealed.new.out (posted-sealed g.After-post_sealed) }

-- ---- the whole turn

pub returns-in-None-clause-stands : goal.returns-in-None-clause-stands
returns-in-None-clause-stands c =
    let g = goal.at.returns-in-None-clause-stands c in
    turned-stands c.args.config.now c.args.self.now.index c.part_of-group.result.now c.args.metas.now c.args.rows.now c.args.on.now c.args.now c.args.closing (lent_in c.args.sender) c.args.self.now c.answer.new.self c.finish.new.self c.answer.new.out (planned g.After-plan_loads) c.post.new.out c.finish.result
    (record { posted = posted-open g.After-post; count_is = c.finish.ensures.count; passed_is = c.finish.ensures.passed })

pub returns-in-None-clause-goes_on : goal.returns-in-None-clause-goes_on
returns-in-None-clause-goes_on c =
    let g = goal.at.returns-in-None-clause-goes_on c in
    turned-goes-on c.args.config.now c.args.self.now.index c.part_of-group.result.now c.args.metas.now c.args.rows.now c.args.on.now c.args.now c.args.closing (lent_in c.args.sender) c.args.self.now c.answer.new.self c.finish.new.self c.answer.new.out (planned g.After-plan_loads) c.post.new.out c.finish.result
    (record { posted = posted-open g.After-post; count_is = c.finish.ensures.count; passed_is = c.finish.ensures.passed })

pub returns-in-None-clause-logs : goal.returns-in-None-clause-logs
returns-in-None-clause-logs c =
    let g = goal.at.returns-in-None-clause-logs c in
    logs-stay c.args.config.now c.part_of-group.result.now c.args.metas.now c.args.rows.now c.args.on.now c.args.now c.args.closing c.args.self.now c.answer.new.self c.finish.new.self c.answer.new.out c.finish.result
    (had g.After-answer) c.finish.ensures.passed

pub returns-in-None-clause-few : goal.returns-in-None-clause-few
returns-in-None-clause-few c =
    let g = goal.at.returns-in-None-clause-few c in
    turned-few c.args.config.now c.args.self.now.index c.part_of-group.result.now c.args.metas.now c.args.rows.now c.args.on.now c.args.now c.args.closing (lent_in c.args.sender) c.args.self.now c.answer.new.self c.finish.new.self c.answer.new.out (planned g.After-plan_loads) c.post.new.out c.finish.result
    (record { posted = posted-open g.After-post; count_is = c.finish.ensures.count; passed_is = c.finish.ensures.passed })

pub returns-in-Some-clause-stands : goal.returns-in-Some-clause-stands
returns-in-Some-clause-stands c =
    let g = goal.at.returns-in-Some-clause-stands c in
    turned-stands c.args.config.now c.args.self.now.index c.part_of-group.result.now c.args.metas.now c.args.rows.now c.args.on.now c.args.now c.args.closing (lent_in c.args.sender) c.args.self.now c.answer.new.self c.finish-in-Some.new.self c.answer.new.out (planned g.After-plan_loads) c.post_sealed.new.out c.finish-in-Some.result
    (record { posted = posted-sealed g.After-post_sealed; count_is = c.finish-in-Some.ensures.count; passed_is = c.finish-in-Some.ensures.passed })

pub returns-in-Some-clause-goes_on : goal.returns-in-Some-clause-goes_on
returns-in-Some-clause-goes_on c =
    let g = goal.at.returns-in-Some-clause-goes_on c in
    turned-goes-on c.args.config.now c.args.self.now.index c.part_of-group.result.now c.args.metas.now c.args.rows.now c.args.on.now c.args.now c.args.closing (lent_in c.args.sender) c.args.self.now c.answer.new.self c.finish-in-Some.new.self c.answer.new.out (planned g.After-plan_loads) c.post_sealed.new.out c.finish-in-Some.result
    (record { posted = posted-sealed g.After-post_sealed; count_is = c.finish-in-Some.ensures.count; passed_is = c.finish-in-Some.ensures.passed })

pub returns-in-Some-clause-logs : goal.returns-in-Some-clause-logs
returns-in-Some-clause-logs c =
    let g = goal.at.returns-in-Some-clause-logs c in
    logs-stay c.args.config.now c.part_of-group.result.now c.args.metas.now c.args.rows.now c.args.on.now c.args.now c.args.closing c.args.self.now c.answer.new.self c.finish-in-Some.new.self c.answer.new.out c.finish-in-Some.result
    (had g.After-answer) c.finish-in-Some.ensures.passed

pub returns-in-Some-clause-few : goal.returns-in-Some-clause-few
returns-in-Some-clause-few c =
    let g = goal.at.returns-in-Some-clause-few c in
    turned-few c.args.config.now c.args.self.now.index c.part_of-group.result.now c.args.metas.now c.args.rows.now c.args.on.now c.args.now c.args.closing (lent_in c.args.sender) c.args.self.now c.answer.new.self c.finish-in-Some.new.self c.answer.new.out (planned g.After-plan_loads) c.post_sealed.new.out c.finish-in-Some.result
    (record { posted = posted-sealed g.After-post_sealed; count_is = c.finish-in-Some.ensures.count; passed_is = c.finish-in-Some.ensures.passed })

pub returns-in-Some-clause-sender_stays : goal.returns-in-Some-clause-sender_stays
returns-in-Some-clause-sender_stays c =
    let g = goal.at.returns-in-Some-clause-sender_stays c in
    let posted = posted-sealed g.After-post_sealed in
    let of = subst (IsSenderFor c.part_of-group.result.now) (ap lent_in c.in-Some.is) posted.may.sender_is in
    let few = loads-few c.args.config.now c.args.self.now.index c.part_of-group.result.now c.args.metas.now c.args.rows.now c.args.on.now c.args.now c.args.closing (lent_in c.args.sender) c.args.self.now c.answer.new.self c.answer.new.out (planned g.After-plan_loads) c.post_sealed.new.out posted in
    rw c.in-Some.is (sender-stays c.part_of-group.result.now c.in-Some.sender.now c.post_sealed.new.sender (length c.plan_loads.new.loads.items) of few c.post_sealed.ensures.sender)

pub returns-in-Some-clause-sender : goal.returns-in-Some-clause-sender
returns-in-Some-clause-sender c =
    let g = goal.at.returns-in-Some-clause-sender c in
    let posted = posted-sealed g.After-post_sealed in
    let before = c.in-Some.sender.now in
    let counted = as-posted c.args.config.now c.part_of-group.result.now (lent_in c.args.sender) c.answer.new.self (planned g.After-plan_loads) c.post_sealed.new.out posted.posted in
    let same : c.post_sealed.new.sender ≡ advanced_by (mode_of c.part_of-group.result.now.security) before c.finish-in-Some.result =
    c.post_sealed.ensures.sender ∙ ap (advanced_by (mode_of c.part_of-group.result.now.security) before) (sym (c.finish-in-Some.ensures.count ∙ counted)) in
    rw c.in-Some.is (at-part c.args.config.now c.args.self.now.index c.part_of-group.result.now
    (λ (part : GroupPart). Path (Option SenderState) (Some c.post_sealed.new.sender) (Some (advanced_by (mode_of part.security) before c.finish-in-Some.result))) posted.own (ap (λ (s : SenderState). Some s) same))

pub returns-in-None-clause-keeps_to : goal.returns-in-None-clause-keeps_to
returns-in-None-clause-keeps_to c = λ same.
    let g = goal.at.returns-in-None-clause-keeps_to c in
    let r = g.After-a_class_id_is_whole in
    let config = c.args.config.now in
    let part = c.part_of-group.result.now in
    let made = passed-made config part c.args.now c.args.closing c.finish.result c.answer.new.self c.finish.new.self c.finish.ensures.passed (still g.After-answer (may r).made) in
    keeps-ticked config c.args.metas.now c.args.rows.now c.args.on.now (lent_in c.args.sender) c.args.self.now c.finish.new.self
    (ap index_of c.finish.ensures.passed ∙ ap index_of c.answer.ensures.rest) c.requires.index
    (at-part config c.args.self.now.index part (λ one. IsMadeFor config one c.finish.new.self) (own r) made) (returns-in-None-clause-goes_on c) c.requires.turn same

pub returns-in-Some-clause-keeps_to : goal.returns-in-Some-clause-keeps_to
returns-in-Some-clause-keeps_to c = λ same.
    let g = goal.at.returns-in-Some-clause-keeps_to c in
    let r = g.After-a_class_id_is_whole in
    let config = c.args.config.now in
    let part = c.part_of-group.result.now in
    let made = passed-made config part c.args.now c.args.closing c.finish-in-Some.result c.answer.new.self c.finish-in-Some.new.self c.finish-in-Some.ensures.passed (still g.After-answer (may r).made) in
    keeps-ticked config c.args.metas.now c.args.rows.now c.args.on.now (lent_in c.args.sender) c.args.self.now c.finish-in-Some.new.self
    (ap index_of c.finish-in-Some.ensures.passed ∙ ap index_of c.answer.ensures.rest) c.requires.index
    (at-part config c.args.self.now.index part (λ one. IsMadeFor config one c.finish-in-Some.new.self) (own r) made) (returns-in-Some-clause-goes_on c) c.requires.turn same
