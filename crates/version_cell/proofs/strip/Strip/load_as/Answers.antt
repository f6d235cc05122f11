use Rattle.std.proofs.Common.{rules}
use Rattle.version_cell.specs.declared.strip.Strip.TheVariants as strip
use Rattle.version_cell.specs.declared.strip.Seats.TheVariants as seats
use Rattle.version_cell.proofs.Strips.{own_here, turns_here}
use Rattle.version_cell.proofs.strip.Strip.load_as.Goals as goal

pub load_in-requires : goal.load_in-requires
load_in-requires g c =
    let a = c.in-Narrow-Narrow in
    (search rules, (search rules, (search rules, (search rules, (search rules, (search rules, (own_here _ (seats.Narrow a.seat) _ a.is-1 c.place.view_is _ (strip.Narrow a.words) a.is-0 c.requires.own, turns_here _ (seats.Narrow a.seat) _ a.is-1 c.place.view_is (λ x. x) g.M.Outcome.then c.requires.rule)))))))

pub load_in-requires-in-Short-Short : goal.load_in-requires-in-Short-Short
load_in-requires-in-Short-Short g c =
    let a = c.in-Short-Short in
    (search rules, (search rules, (search rules, (search rules, (search rules, (search rules, (own_here _ (seats.Short a.seat) _ a.is-1 c.place.view_is _ (strip.Short a.words) a.is-0 c.requires.own, turns_here _ (seats.Short a.seat) _ a.is-1 c.place.view_is (λ x. x) g.M.Outcome.then c.requires.rule)))))))

pub load_in-requires-in-Long-Long : goal.load_in-requires-in-Long-Long
load_in-requires-in-Long-Long g c =
    let a = c.in-Long-Long in
    (search rules, (search rules, (search rules, (search rules, (search rules, (search rules, (own_here _ (seats.Long a.seat) _ a.is-1 c.place.view_is _ (strip.Long a.words) a.is-0 c.requires.own, turns_here _ (seats.Long a.seat) _ a.is-1 c.place.view_is (λ x. x) g.M.Outcome.then c.requires.rule)))))))

pub load_in-requires-in-Whole-Whole : goal.load_in-requires-in-Whole-Whole
load_in-requires-in-Whole-Whole g c =
    let a = c.in-Whole-Whole in
    (search rules, (search rules, (search rules, (search rules, (search rules, (search rules, (own_here _ (seats.Whole a.seat) _ a.is-1 c.place.view_is _ (strip.Whole a.words) a.is-0 c.requires.own, turns_here _ (seats.Whole a.seat) _ a.is-1 c.place.view_is (λ x. x) g.M.Outcome.then c.requires.rule)))))))
