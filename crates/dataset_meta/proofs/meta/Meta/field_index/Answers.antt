use Rattle.std.proofs.Common.{◌≡◌, ◌≢◌, ℕ, List, Option, Some, None, All, MatchOption, length, arith, rules, tests}
use Rattle.std.specs.List.{AllWithin}
use Rattle.std.proofs.lemmas.Iterator.{IsFirst-from_position, YieldsList-from_slice}
use Rattle.dataset_meta.specs.declared.field.Field.{Field}
use Rattle.dataset_meta.proofs.meta.Meta.field_index.Goals as goal

abbrev Lacks : List ℕ → Field → Type 0
Lacks name field = field.name ≢ name

each_lacks : (name : List ℕ) (fields : List Field) (place : Option ℕ) (P : ℕ → Type 0) → MatchOption place (AllWithin (Lacks name) fields 0 (length fields)) P
    → place ≡ None → All (Lacks name) fields
each_lacks name fields None P h e = λ k d below. h k d (omega arith) below
each_lacks name fields (Some index) P h e = cc

pub returns-in_err-index-clause-none : goal.returns-in_err-index-clause-none
returns-in_err-index-clause-none c =
    let name = c.args.name.now in
    let first = IsFirst-from_position _ _ c.position.result (λ (f : Field). Unit {0}) (Lacks name) c.position.ensures.ran
    (YieldsList-from_slice _ c.iter.ensures.rest) (λ x q k. tt) (λ x q k. search (rules, tests)) in
    let lacks = each_lacks name _ c.position.result _ first c.in_err-index.was in
    rw c.from_residual.ensures (rw (← c.fields.ensures.fields) lacks)
