-- Cell rule: what a pass knows, and how passes are split and joined.
use Rattle.std.specs.Prelude.{ℕ, List, [], ◌∷◌, Option, Some, None, max}
use Rattle.version_cell.specs.declared.rule.Entry.{Entry}
use Rattle.version_cell.specs.declared.rule.View.{View}
use Rattle.version_cell.specs.Histories.{longer}

abbrev pub view : List Entry → Option ℕ → ℕ → Option (List ℕ) → List (List Entry) → View
view seen author count terms olds = record { seen = seen; author = author; count = count; terms = terms; olds = olds }

-- the view of the first pass, and of one that was joined away
abbrev pub blank : View
blank = view [] None 0 None []

-- of a pass that another was split from
abbrev pub copied : View → View
copied v = view v.seen None v.count v.terms []

-- of a pass that has taken in another: it keeps its number, and both lists until the load that ends the join
abbrev pub joined : View → View → View
joined v w = view (longer v.seen w.seen) v.author (max v.count w.count) v.terms (v.seen ∷ w.seen ∷ [])

-- the view at the end of a join
abbrev pub settled : View → View
settled v = view v.seen v.author v.count v.terms []

-- of a pass that knows the terms of a cell with no entries
abbrev pub fresh : Option ℕ → ℕ → List ℕ → View
fresh author count terms = view [] author count (Some terms) []
