use Rattle.std.proofs.Common.{◌≡◌, ◌<◌, List, [], ◌∷◌, length, get_or, sym, ap, ◌∙◌, subst, arith}
use Rattle.std.specs.List.{All}
use Rattle.std.proofs.lemmas.List.{append-nil}
use Rattle.ps_report.specs.declared.closed.WatchEnd.{WatchEnd}
use Rattle.ps_report.specs.Conditions.{HoldsRow, HoldRows, writers_of, readers_of}
use Rattle.ps_report.proofs.Pairs.{zip_length}
use Rattle.bench_parts.proofs.closing.closed_of.Goals as goal

single : {A : Type 0} (xs : List A) (x : A) → length xs ≡ 1 → x ≡ get_or xs 0 x → xs ≡ x ∷ []
single [] x one is = absurd (omega arith)
single (a ∷ []) x one is = ap (λ v. v ∷ []) (sym is)
single (a ∷ b ∷ xs) x one is = absurd (omega arith)

pub returns : goal.returns
returns c =
    let config = c.args.config.now in
    let group = c.group-item.result in
    let read_group = c.read_group-item.result in
    let groups : config.group ≡ group ∷ [] = sym c.as_slice.ensures ∙ single c.as_slice.result.now group (omega arith) c.group-item.is in
    let read_groups : config.readgroup ≡ read_group ∷ [] =
    sym c.as_slice-2.ensures ∙ single c.as_slice-2.result.now read_group (omega arith) c.read_group-item.is in
    let readers = c.in_ok-readers.readers in
    let own : HoldRows config.dataset read_group.reader readers =
    rw (c.as_slice-sets.ensures, c.as_slice-3.ensures) at c.in_ok-readers.ensures in
    let rows : HoldRows config.dataset (readers_of config.readgroup) readers =
    subst (λ l. HoldRows config.dataset l readers) (sym (ap readers_of read_groups ∙ append-nil read_group.reader)) own in
    let all : length readers ≡ length (readers_of config.readgroup) = zip_length (HoldsRow config.dataset) (readers_of config.readgroup) readers rows in
    record {
      histories = c.in_ok-histories.ensures ∙ ap length c.as_slice-sets.ensures;
      groups = c.in_ok-one.ensures ∙ sym (ap length groups);
      writers = c.in_ok-writers.ensures ∙ ap length (c.as_slice-4.ensures ∙ sym (ap writers_of groups ∙ append-nil group.writer));
      read_groups = c.in_ok-one-2.ensures ∙ sym (ap length read_groups);
      rows = rows;
      watches = subst (λ n. All (λ (end : WatchEnd). end.reader < n) c.in_ok-watches.field-0) (ap length c.as_slice-5.ensures ∙ all) c.in_ok-watches.ensures;
    }
