-- The tables among the items of an array that are left.
use Rattle.std.proofs.Common.{◌≡◌, ℕ, ◌+◌, ◌<◌, ◌++◌, List, [], ◌∷◌, Some, None, length, get_or, drop, map, refl, sym, ap, ◌∙◌, append_assoc}
use Rattle.toml.specs.Data.{Data, string, integer, float, boolean, datetime, array, table, Items, item, Members, as_table}
use Rattle.toml.specs.View.{view, items_view}
use Rattle.toml.specs.declared.value.Value.{Value}
use Rattle.toml.proofs.Views.{items_view-drop}
use Rattle.config_tables.specs.declared.document.Placed.{Placed}
use Rattle.config_tables.specs.Seen.{seen}
use Rattle.config_tables.specs.Tables.{Located, tables_from}

a_table : (i : ℕ) (d : Data) (ds : Items) (ms : Members) → as_table d ≡ Some ms → tables_from i (item d ds) ≡ (i, ms) ∷ tables_from (i + 1) ds
a_table i (table m) ds ms e = cc
a_table i (string s) ds ms e = cc
a_table i (integer s) ds ms e = cc
a_table i (float s) ds ms e = cc
a_table i (boolean s) ds ms e = cc
a_table i (datetime s) ds ms e = cc
a_table i (array s) ds ms e = cc

no_table : (i : ℕ) (d : Data) (ds : Items) → as_table d ≡ None → tables_from i (item d ds) ≡ tables_from (i + 1) ds
no_table i (table m) ds e = cc
no_table i (string s) ds e = refl
no_table i (integer s) ds e = refl
no_table i (float s) ds e = refl
no_table i (boolean s) ds e = refl
no_table i (datetime s) ds e = refl
no_table i (array s) ds e = refl

-- a table is next
pub next_table : (vs : List Value) (i : ℕ) (v : Value) (ms : Members) → i < length vs → v ≡ get_or vs i v → Some ms ≡ as_table (view v)
    → tables_from i (items_view (drop i vs)) ≡ (i, ms) ∷ tables_from (i + 1) (items_view (drop (i + 1) vs))
next_table vs i v ms h is e =
    ap (tables_from i) (items_view-drop vs i v h) ∙ a_table i (view (get_or vs i v)) _ ms (ap (λ x. as_table (view x)) (sym is) ∙ sym e)

-- what is next is no table
pub next_other : (vs : List Value) (i : ℕ) (v : Value) → i < length vs → v ≡ get_or vs i v → None ≡ as_table (view v)
    → tables_from i (items_view (drop i vs)) ≡ tables_from (i + 1) (items_view (drop (i + 1) vs))
next_other vs i v h is e =
    ap (tables_from i) (items_view-drop vs i v h) ∙ no_table i (view (get_or vs i v)) _ (ap (λ x. as_table (view x)) (sym is) ∙ sym e)

-- one table more at the end, and those that are left
pub one_more : (done : List Placed) (x : Placed) (rest : List Located) → map seen (done ++ x ∷ []) ++ rest ≡ map seen done ++ seen x ∷ rest
one_more [] x rest = refl
one_more (d ∷ done) x rest = ap (λ t. seen d ∷ t) (one_more done x rest)

-- one element more with its inner tables, and those that are left
pub element_more : (done : List Placed) (x : Placed) (inner rest all : List Located) → all ≡ map seen (done ++ x ∷ []) ++ inner → all ++ rest ≡ map seen done ++ ((seen x ∷ inner) ++ rest)
element_more done x inner rest all e = ap (λ t. t ++ rest) e ∙ append_assoc _ inner rest ∙ one_more done x (inner ++ rest)
