use Rattle.std.proofs.Common.{◌≡◌, ℕ, ◌+◌, ◌≤◌, List, All, refl, arith, length, map, sum, sym, ap, subst, ◌∙◌}
use Rattle.ps_config.specs.declared.parts.GroupPart.{GroupPart}
use Rattle.ps_config.specs.declared.parts.ReadGroupPart.{ReadGroupPart}
use Rattle.pubsub_states.specs.Components.{counts_of, components}
use Rattle.pubsub_states.specs.Listed.{AreHeadIds}
use Rattle.pubsub_states.proofs.Few.{next_id, terms-small, writers-counted, readers-counted, few-groups, few-read_groups, writers-summed, readers-summed}
use Rattle.pubsub_states.proofs.components.Components.new.Goals as goal

pub writer_counts-writers-requires-clause-small : goal.writer_counts-writers-requires-clause-small
writer_counts-writers-requires-clause-small c =
    subst (λ (groups : List GroupPart). All (λ (group : GroupPart). length group.writer ≤ 16) groups) (sym c.as_slice.ensures)
    (terms-small (λ (group : GroupPart). length group.writer) 16 c.args.config.now.group (writers-counted c.args.config.now c.requires))

pub reader_counts-readers-requires-clause-small : goal.reader_counts-readers-requires-clause-small
reader_counts-readers-requires-clause-small c =
    subst (λ (groups : List ReadGroupPart). All (λ (group : ReadGroupPart). length group.reader ≤ 16) groups) (sym c.as_slice-2.ensures)
    (terms-small (λ (group : ReadGroupPart). length group.reader) 16 c.args.config.now.readgroup (readers-counted c.args.config.now c.requires))

pub head_ids-group_ids-requires-clause-small : goal.head_ids-group_ids-requires-clause-small
head_ids-group_ids-requires-clause-small c =
    subst (λ (xs : List ℕ). sum xs ≤ 16) (sym (c.as_slice-5.ensures.value ∙ c.writer_counts-writers.ensures ∙ ap (map (λ (group : GroupPart). length group.writer)) c.as_slice.ensures)) (writers-summed c.args.config.now c.requires)

pub head_ids-read_group_ids-requires-clause-first : goal.head_ids-read_group_ids-requires-clause-first
head_ids-read_group_ids-requires-clause-first c =
    let writers : c.writer_counts-writers.result.items ≡ (counts_of c.args.config.now).writers =
    c.writer_counts-writers.ensures ∙ ap (map (λ (group : GroupPart). length group.writer)) c.as_slice.ensures in
    let groups : AreHeadIds 2 c.writer_counts-writers.result.items c.head_ids-group_ids.result =
    subst (λ (ws : List ℕ). AreHeadIds 2 ws c.head_ids-group_ids.result) c.as_slice-5.ensures.value c.head_ids-group_ids.ensures in
    let next = next_id _ _ _ _ groups c.len.ensures.value refl in
    let few = subst (λ (xs : List ℕ). length xs ≤ 4) (sym writers) (few-groups c.args.config.now c.requires) in
    let small = subst (λ (xs : List ℕ). sum xs ≤ 16) (sym writers) (writers-summed c.args.config.now c.requires) in
    omega (arith, next, few, small)

pub head_ids-read_group_ids-requires-clause-small : goal.head_ids-read_group_ids-requires-clause-small
head_ids-read_group_ids-requires-clause-small c =
    subst (λ (xs : List ℕ). sum xs ≤ 16) (sym (c.as_slice-6.ensures.value ∙ c.reader_counts-readers.ensures ∙ ap (map (λ (group : ReadGroupPart). length group.reader)) c.as_slice-2.ensures)) (readers-summed c.args.config.now c.requires)

pub invariant_of-result : goal.invariant_of-result
invariant_of-result c =
    let config = c.args.config.now in
    let writers : c.writer_counts-writers.result.items ≡ (counts_of config).writers =
    c.writer_counts-writers.ensures ∙ ap (map (λ (group : GroupPart). length group.writer)) c.as_slice.ensures in
    let readers : c.reader_counts-readers.result.items ≡ (counts_of config).readers =
    c.reader_counts-readers.ensures ∙ ap (map (λ (group : ReadGroupPart). length group.reader)) c.as_slice-2.ensures in
    let groups : AreHeadIds 2 c.writer_counts-writers.result.items c.head_ids-group_ids.result =
    subst (λ (ws : List ℕ). AreHeadIds 2 ws c.head_ids-group_ids.result) c.as_slice-5.ensures.value c.head_ids-group_ids.ensures in
    record {
      list =
          c.in_ok-in_order.ensures
          ∙ ap (λ ws. components (record { writers = ws; readers = c.as_slice-4.result.now })) c.as_slice-3.ensures.value
          ∙ ap (λ rs. components (record { writers = c.writer_counts-writers.result.items; readers = rs })) c.as_slice-4.ensures.value;
      few_groups = subst (λ (xs : List ℕ). length xs ≤ 4) (sym writers) (few-groups config c.requires);
      few_read_groups = subst (λ (xs : List ℕ). length xs ≤ 4) (sym readers) (few-read_groups config c.requires);
      few_writers = subst (λ (xs : List ℕ). sum xs ≤ 16) (sym writers) (writers-summed config c.requires);
      groups = groups;
      read_groups =
          subst (λ (rs : List ℕ). AreHeadIds (2 + length c.writer_counts-writers.result.items + sum c.writer_counts-writers.result.items) rs c.head_ids-read_group_ids.result) c.as_slice-6.ensures.value
          (subst (λ (first : ℕ). AreHeadIds first c.as_slice-6.result.now c.head_ids-read_group_ids.result) (next_id _ _ _ _ groups c.len.ensures.value refl) c.head_ids-read_group_ids.ensures);
      few_readers = subst (λ (xs : List ℕ). sum xs ≤ 16) (sym readers) (readers-summed config c.requires);
    }
