use Rattle.std.proofs.Common.{◌≡◌, ℕ, List, [], ◌∷◌, ◌++◌, true, false, subst}
use Rattle.ua_base.specs.Journal.{Sent, Tells}
use Rattle.session_parts.proofs.Sent.{one-been}
use Rattle.session_parts.proofs.publisher.Publisher.send_one.Goals as goal

pub returns-in-Done-clause-sent : goal.returns-in-Done-clause-sent
returns-in-Done-clause-sent g c =
    λ is.
    let told = g.L.Link.told c.args.link.now in
    let after = g.L.Link.told c.send.new.self in (
      true,
      one-been c.args.g _ true c.args.self.now c.note.new.self told after c.note.ensures.noted
          (subst (λ (d : List ℕ). Tells told after (λ x y. y.journal ≡ x.journal ++ Sent d ∷ [])) c.get.ensures.is c.in-Done.ensures.entry),
    )

pub returns-in-Failed-clause-sent : goal.returns-in-Failed-clause-sent
returns-in-Failed-clause-sent g c =
    λ is.
    let told = g.L.Link.told c.args.link.now in
    let after = g.L.Link.told c.send.new.self in
    (false, one-been c.args.g _ false c.args.self.now c.note-in-Failed.new.self told after c.note-in-Failed.ensures.noted c.in-Failed.ensures.entry)
