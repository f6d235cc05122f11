-- A text of lanes determines what it tells.
use Rattle.std.proofs.Common.{◌≡◌, inl, inr, ℕ, zero, suc, ◌+◌, ◌<◌, ◌≤◌, List, [], ◌∷◌, ◌++◌, length, refl, sym, ◌∙◌, subst, arith, append_assoc}
use Rattle.std.specs.Prelude.{codes, slice_index}
use Rattle.std.specs.Fmt.{decimal}
use Rattle.std.specs.List.{flat_map, range_with_len}
use Rattle.std.proofs.lemmas.Bool.Decides.{eqb_tells}
use Rattle.std.proofs.lemmas.List.{append_cancel_left}
use Rattle.std.proofs.lemmas.List.Elements.{recursion_from_All}
use Rattle.ps_config.specs.declared.parts.Config.{Config}
use Rattle.ps_report.specs.Lines.{count_text, log_text}
use Rattle.ps_report.specs.Reports.{end_line}
use Rattle.report_laws.specs.Numbers.{IsNumber, LogHasNumbers}
use Rattle.report_laws.proofs.Cutting.{tail_same}
use Rattle.report_laws.proofs.Entries.{EntryHasNumbers, count_left, log_cut, number_cut}
use Rattle.writer_group.specs.Parts.{group_at}
use Rattle.writer_group.specs.Payloads.{writer_at}
use Rattle.session_model.specs.Deeds.{group_indexes}
use Rattle.cmd_lanes.specs.Alike.{AreToldAlike, GroupHasNumbers, HaveNumbers, IsGroupAlike}
use Rattle.cmd_lanes.specs.Sends.{Counts}
use Rattle.cmd_lanes.specs.Texts.{Logs, group_lines, lane_line, lanes_text, totals_line, writer_line, writer_lines}

-- ---- a line

lane-is : (name : List ℕ) (sent : ℕ) (s : List ℕ) → lane_line name sent ++ s ≡ codes "lane " ++ (name ++ (codes " sent " ++ (decimal sent ++ (10 ∷ s))))
unfolding lane_line
lane-is name sent s = simp append_assoc

lane-cut : (name : List ℕ) (m n : ℕ) (s t : List ℕ) → IsNumber m → IsNumber n → lane_line name m ++ s ≡ lane_line name n ++ t → (m ≡ n) × (s ≡ t)
lane-cut name m n s t in_m in_n same =
    let left = codes " sent " ++ (decimal m ++ (10 ∷ s)) in
    let right = codes " sent " ++ (decimal n ++ (10 ∷ t)) in
    let named = append_cancel_left (codes "lane ") (name ++ left) (name ++ right) (sym (lane-is name m s) ∙ same ∙ lane-is name n t) in
    let counted = append_cancel_left (codes " sent ") (decimal m ++ (10 ∷ s)) (decimal n ++ (10 ∷ t)) (append_cancel_left name left right named) in
    let number = number_cut m n (10 ∷ s) (10 ∷ t) in_m in_n refl refl counted in
    (number.0, tail_same 10 10 s t number.1)

writer-is : (name : List ℕ) (log : List (ℕ × ℕ)) (s : List ℕ) → writer_line name log ++ s ≡ codes "writer " ++ (name ++ (count_text (length log) ++ (log_text log ++ (10 ∷ s))))
unfolding writer_line
writer-is name log s = five (codes "writer ") name (count_text (length log)) (log_text log) s
  where
    five : (a b c d rest : List ℕ) → a ++ b ++ c ++ d ++ (10 ∷ []) ++ rest ≡ a ++ (b ++ (c ++ (d ++ (10 ∷ rest))))
    five a b c d rest = simp append_assoc

writer-cut : (name : List ℕ) (one other : List (ℕ × ℕ)) (s t : List ℕ) → LogHasNumbers one → LogHasNumbers other
    → writer_line name one ++ s ≡ writer_line name other ++ t → (one ≡ other) × (s ≡ t)
writer-cut name one other s t in_one in_other same =
    let left = log_text one ++ (10 ∷ s) in
    let right = log_text other ++ (10 ∷ t) in
    let named = append_cancel_left (codes "writer ") (name ++ (count_text (length one) ++ left)) (name ++ (count_text (length other) ++ right))
    (sym (writer-is name one s) ∙ same ∙ writer-is name other t) in
    let counted = append_cancel_left name (count_text (length one) ++ left) (count_text (length other) ++ right) named in
    log_cut one other s t (recursion_from_All EntryHasNumbers one in_one) (recursion_from_All EntryHasNumbers other in_other)
    (count_left (length one) (length other) left right counted)

totals-is : (sent failed : ℕ) (s : List ℕ) → totals_line sent failed ++ s ≡ codes "lanes sent " ++ (decimal sent ++ (codes " failed " ++ (decimal failed ++ (10 ∷ s))))
unfolding totals_line
totals-is sent failed s = simp append_assoc

totals-cut : (a b m n : ℕ) (s t : List ℕ) → IsNumber a → IsNumber b → IsNumber m → IsNumber n → totals_line a m ++ s ≡ totals_line b n ++ t → ((a ≡ b) × (m ≡ n)) × (s ≡ t)
totals-cut a b m n s t in_a in_b in_m in_n same =
    let left = decimal m ++ (10 ∷ s) in
    let right = decimal n ++ (10 ∷ t) in
    let sent = number_cut a b (codes " failed " ++ left) (codes " failed " ++ right) in_a in_b refl refl
    (append_cancel_left (codes "lanes sent ") (decimal a ++ (codes " failed " ++ left)) (decimal b ++ (codes " failed " ++ right)) (sym (totals-is a m s) ∙ same ∙ totals-is b n t)) in
    let failed = number_cut m n (10 ∷ s) (10 ∷ t) in_m in_n refl refl (append_cancel_left (codes " failed ") left right sent.1) in
    ((sent.0, failed.0), tail_same 10 10 s t failed.1)

-- ---- lines by their indexes

above : (start i : ℕ) → start ≤ i → (i ≡ start → ⊥) → start + 1 ≤ i
above start i low apart = omega arith

-- a line tells of its index what `Same` says
each-cut : (Has Same : ℕ → Type 0) (mine theirs : ℕ → List ℕ) → ((i : ℕ) (s t : List ℕ) → Has i → mine i ++ s ≡ theirs i ++ t → Same i × (s ≡ t))
    → (start n : ℕ) (s t : List ℕ) → ((i : ℕ) → start ≤ i → i < start + n → Has i)
    → flat_map mine (range_with_len start n) ++ s ≡ flat_map theirs (range_with_len start n) ++ t → ((i : ℕ) → start ≤ i → i < start + n → Same i) × (s ≡ t)
each-cut Has Same mine theirs one start zero s t has same = ((λ i low high. absurd (omega (arith, low, high))), same)
each-cut Has Same mine theirs one start (suc n) s t has same =
    let front = flat_map mine (range_with_len (start + 1) n) in
    let back = flat_map theirs (range_with_len (start + 1) n) in
    let first = one start (front ++ s) (back ++ t) (has start (omega arith) (omega arith)) (sym (append_assoc (mine start) front s) ∙ same ∙ append_assoc (theirs start) back t) in
    let rest = each-cut Has Same mine theirs one (start + 1) n s t (λ i low high. has i (omega (arith, low)) (omega (arith, high))) first.1 in (
      (λ i low high. elim (eqb_tells i start) [
        | inl here ↦ subst Same (sym here.1) first.0
        | inr later ↦ rest.0 i (above start i low later.1) (omega (arith, high))
      ]),
      rest.1,
    )

-- from the first on
all-cut : (Has Same : ℕ → Type 0) (mine theirs : ℕ → List ℕ) → ((i : ℕ) (s t : List ℕ) → Has i → mine i ++ s ≡ theirs i ++ t → Same i × (s ≡ t))
    → (n : ℕ) (s t : List ℕ) → ((i : ℕ) → i < n → Has i)
    → flat_map mine (range_with_len 0 n) ++ s ≡ flat_map theirs (range_with_len 0 n) ++ t → ((i : ℕ) → i < n → Same i) × (s ≡ t)
all-cut Has Same mine theirs one n s t has same =
    let parts = each-cut Has Same mine theirs one 0 n s t (λ i low high. has i (omega (arith, high))) same in
    ((λ i below. parts.0 i (omega arith) (omega (arith, below))), parts.1)

-- ---- the whole

text-is : (config : Config) (counts : Counts) (logs : Logs) → lanes_text config counts logs
    ≡ flat_map (group_lines config counts logs) (group_indexes config) ++ (totals_line counts.all counts.failed ++ end_line)
unfolding lanes_text
text-is config counts logs = three (flat_map (group_lines config counts logs) (group_indexes config)) (totals_line counts.all counts.failed) end_line
  where
    three : (a b c : List ℕ) → a ++ b ++ c ≡ a ++ (b ++ c)
    three a b c = simp append_assoc

module _ (config : Config) (one other : Counts) (logs others : Logs) where
  group-cut : (g : ℕ) (s t : List ℕ) → GroupHasNumbers config one logs g × GroupHasNumbers config other others g
      → group_lines config one logs g ++ s ≡ group_lines config other others g ++ t → IsGroupAlike config one other logs others g × (s ≡ t)
  group-cut g s t has same =
      let part = group_at config g in
      let mine = writer_lines part (logs g) in
      let theirs = writer_lines part (others g) in
      let first = lane-cut part.name (slice_index one.sent g) (slice_index other.sent g) (mine ++ s) (theirs ++ t) has.0.sent has.1.sent
      (sym (append_assoc (lane_line part.name (slice_index one.sent g)) mine s) ∙ same ∙ append_assoc (lane_line part.name (slice_index other.sent g)) theirs t) in
      let rest = all-cut (λ w. LogHasNumbers (logs g w) × LogHasNumbers (others g w)) (λ w. logs g w ≡ others g w)
      (λ w. writer_line (writer_at part w).name (logs g w)) (λ w. writer_line (writer_at part w).name (others g w))
      (λ w l r numbers. writer-cut (writer_at part w).name (logs g w) (others g w) l r numbers.0 numbers.1)
      (length part.writer) s t (λ w low. (has.0.writers w low, has.1.writers w low)) first.1 in
      (record { sent = first.0; writers = rest.0 }, rest.1)

  pub lanes-tell : HaveNumbers config one logs → HaveNumbers config other others → lanes_text config one logs ≡ lanes_text config other others → AreToldAlike config one other logs others
  lanes-tell in_one in_other same =
      let groups = all-cut (λ g. GroupHasNumbers config one logs g × GroupHasNumbers config other others g) (IsGroupAlike config one other logs others)
      (group_lines config one logs) (group_lines config other others) group-cut (length config.group)
      (totals_line one.all one.failed ++ end_line) (totals_line other.all other.failed ++ end_line)
      (λ g low. (in_one.groups g low, in_other.groups g low))
      (sym (text-is config one logs) ∙ same ∙ text-is config other others) in
      let totals = totals-cut one.all other.all one.failed other.failed end_line end_line in_one.all in_other.all in_one.failed in_other.failed groups.1 in
      record { groups = groups.0; all = totals.0.0; failed = totals.0.1 }
