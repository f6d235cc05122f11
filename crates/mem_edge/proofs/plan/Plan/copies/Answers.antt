use Rattle.std.proofs.Common.{ap, ◌∙◌, ◌≡◌, ℕ, List, Option, Some, None}
use Rattle.std.specs.Prelude.{◌==◌, find, slice_get}
use Rattle.std.specs.Option.{option_map, option_map_or}
use Rattle.ua_base.specs.declared.link.Fate.{Fate}
use Rattle.mem_edge.specs.Queueing.{copies_of}
use Rattle.mem_edge.proofs.Waiting.{find_filter}
use Rattle.mem_edge.proofs.plan.Plan.copies.Goals as goal

pub returns-in-Some : goal.returns-in-Some
returns-in-Some c =
    let found : Some c.in-Some.fate.now ≡ find (λ (f : ℕ × Fate). f.0 == c.args.number) c.args.self.now.fates.pairs.items =
    c.in-Some.ensures.value ∙ ap (λ (l : List (ℕ × Fate)). slice_get l 0) c.at.ensures ∙ find_filter (λ (f : ℕ × Fate). f.0 == c.args.number) c.args.self.now.fates.pairs.items in
    c.copies.ensures ∙ ap (λ (o : Option (ℕ × Fate)). option_map_or copies_of (option_map (λ f. f.1) o) 1) found

pub returns-in-None : goal.returns-in-None
returns-in-None c =
    let none : Option (ℕ × Fate) = None in
    let found : none ≡ find (λ (f : ℕ × Fate). f.0 == c.args.number) c.args.self.now.fates.pairs.items =
    c.in-None.ensures.value ∙ ap (λ (l : List (ℕ × Fate)). slice_get l 0) c.at.ensures ∙ find_filter (λ (f : ℕ × Fate). f.0 == c.args.number) c.args.self.now.fates.pairs.items in
    ap (λ (o : Option (ℕ × Fate)). option_map_or copies_of (option_map (λ f. f.1) o) 1) found
