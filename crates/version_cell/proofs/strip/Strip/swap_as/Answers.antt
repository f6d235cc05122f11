use Rattle.std.proofs.Common.{rules}
use Rattle.version_cell.specs.declared.strip.Strip.TheVariants as strip
use Rattle.version_cell.specs.declared.strip.Seats.TheVariants as seats
use Rattle.version_cell.specs.Spellings.{words_of}
use Rattle.version_cell.proofs.Strips.{own_here, stands_here, turns_here}
use Rattle.version_cell.proofs.strip.Strip.swap_as.Goals as goal

pub swap_in-requires : goal.swap_in-requires
swap_in-requires g c =
    let a = c.in-Narrow-Narrow in
    (search rules, (search rules, (search rules, (search rules, (search rules, (search rules, (stands_here _ (strip.Narrow a.words) 34 (words_of c.args.new.now) a.is-0 a.words.wide.0 c.requires.new, (own_here _ (seats.Narrow a.seat) _ a.is-1 c.place.view_is _ (strip.Narrow a.words) a.is-0 c.requires.own, turns_here _ (seats.Narrow a.seat) _ a.is-1 c.place.view_is (λ _. words_of c.args.new.now) g.M.Outcome.then c.requires.rule))))))))

pub swap_in-requires-in-Short-Short : goal.swap_in-requires-in-Short-Short
swap_in-requires-in-Short-Short g c =
    let a = c.in-Short-Short in
    (search rules, (search rules, (search rules, (search rules, (search rules, (search rules, (stands_here _ (strip.Short a.words) 58 (words_of c.args.new.now) a.is-0 a.words.wide.0 c.requires.new, (own_here _ (seats.Short a.seat) _ a.is-1 c.place.view_is _ (strip.Short a.words) a.is-0 c.requires.own, turns_here _ (seats.Short a.seat) _ a.is-1 c.place.view_is (λ _. words_of c.args.new.now) g.M.Outcome.then c.requires.rule))))))))

pub swap_in-requires-in-Long-Long : goal.swap_in-requires-in-Long-Long
swap_in-requires-in-Long-Long g c =
    let a = c.in-Long-Long in
    (search rules, (search rules, (search rules, (search rules, (search rules, (search rules, (stands_here _ (strip.Long a.words) 106 (words_of c.args.new.now) a.is-0 a.words.wide.0 c.requires.new, (own_here _ (seats.Long a.seat) _ a.is-1 c.place.view_is _ (strip.Long a.words) a.is-0 c.requires.own, turns_here _ (seats.Long a.seat) _ a.is-1 c.place.view_is (λ _. words_of c.args.new.now) g.M.Outcome.then c.requires.rule))))))))

pub swap_in-requires-in-Whole-Whole : goal.swap_in-requires-in-Whole-Whole
swap_in-requires-in-Whole-Whole g c =
    let a = c.in-Whole-Whole in
    (search rules, (search rules, (search rules, (search rules, (search rules, (search rules, (stands_here _ (strip.Whole a.words) 151 (words_of c.args.new.now) a.is-0 a.words.wide.0 c.requires.new, (own_here _ (seats.Whole a.seat) _ a.is-1 c.place.view_is _ (strip.Whole a.words) a.is-0 c.requires.own, turns_here _ (seats.Whole a.seat) _ a.is-1 c.place.view_is (λ _. words_of c.args.new.now) g.M.Outcome.then c.requires.rule))))))))
