-- What the words ask for, and the command that it is.
use Rattle.std.proofs.Common.{◌≡◌, List, ℕ, Option, Some, None, sym, ◌∙◌}
use Rattle.std.specs.Prelude.{option_map}
use Rattle.uapubsub.specs.declared.words.Command.{Command}
use Rattle.uapubsub.specs.Words.{Shape, shape_by, shape_of}

some-shape : (x y : Shape) → Path (Option Shape) (Some x) (Some y) → x ≡ y
some-shape x y e = cc

-- words that ask for a command have its shape and no other
pub one-shape : (words : List (List ℕ)) (command : Command) (shape : Shape) → shape_of words ≡ option_map shape_by (Some command) → shape_of words ≡ Some shape → shape_by command ≡ shape
one-shape words command shape asks is = some-shape (shape_by command) shape (sym asks ∙ is)

pub has-shape : (words : List (List ℕ)) (command : Command) → shape_of words ≡ option_map shape_by (Some command) → shape_of words ≡ None → ⊥
has-shape words command asks none = let e : Path (Option Shape) None (Some (shape_by command)) = sym none ∙ asks in absurd cc
