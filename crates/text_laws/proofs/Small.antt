-- The small relay of `gateway_laws` has numbers of 64 bits, and its reader a row of its data set.
use Rattle.std.proofs.Common.{◌≡◌, ℕ, zero, suc, ◌<◌, ◌==◌, Bool, true, false, cond, List, [], ◌∷◌, length, Option, Some, None, refl, sym, ap, ◌∙◌, subst, lit<, lit≤, eqb-true, arith}
use Rattle.std.specs.Prelude.{IfSome, option_and_then, option_map}
use Rattle.std.proofs.lemmas.List.Elements.{All-from_recursion}
use Rattle.dataset_meta.specs.DataValues.{DataValue}
use Rattle.dataset_meta.specs.Metas.{MetaData}
use Rattle.dataset_meta.specs.Rows.{IsRow}
use Rattle.pubsub_model.specs.Answers.{version_of}
use Rattle.ps_config.specs.BuiltIn.{built_in_config, built_in_group, built_in_read_group, built_in_reader, built_in_writer}
use Rattle.report_laws.specs.Numbers.{IsNumber, LogHasNumbers}
use Rattle.report_laws.proofs.Entries.{EntryHasNumbers}
use Rattle.reader_group.specs.Settings.{group_at as read_group_at}
use Rattle.writer_group.specs.Parts.{group_at}
use Rattle.writer_group.specs.Payloads.{writer_at}
use Rattle.session_model.specs.Deeds.{log_at}
use Rattle.session_model.specs.Events.{reader_at}
use Rattle.session_model.specs.Steps.{Step}
use Rattle.session_laws.specs.Reading.{IsMatchedIn}
use Rattle.session_laws.proofs.Versions.Telling.{writer-index}
use Rattle.session_laws.specs.Witness.{small_plan, small_row}
use Rattle.gateway_core.specs.declared.collected.StoreVersion.{StoreVersion}
use Rattle.gateway_core.specs.Lived.{plan_again, version_in}
use Rattle.gateway_laws.specs.Relays.{seconds}
use Rattle.gateway_laws.specs.Telling.{HoldsTold}
use Rattle.gateway_laws.specs.Witness.{again_config, again_set, first_source, its_sources, whole_relay}
use Rattle.cmd_relay.specs.Telling.{seat_in}
use Rattle.cmd_relay.specs.Texts.{store_held, version_held, versions_of}
use Rattle.cmd_relay.specs.Numbers.{GatewayHasNumbers, RelayedHasNumbers}
use Rattle.cmd_relay.proofs.Places.{read-group-there}

abbrev steps : List Step
steps = seconds whole_relay

abbrev kept : ℕ → List StoreVersion
kept = versions_of small_plan its_sources whole_relay

abbrev logged : List (ℕ × ℕ)
logged = (0, 1) ∷ (1, 2) ∷ []

-- ---- its writer and its reader

one-group : length again_config.group ≡ 1
unfolding again_config built_in_config
one-group = refl

one-writer : length (group_at again_config 0).writer ≡ 1
unfolding again_config built_in_config built_in_group
one-writer = refl

one-read-group : length again_config.readgroup ≡ 1
unfolding again_config built_in_config
one-read-group = refl

one-reader : length (read_group_at again_config 0).reader ≡ 1
unfolding again_config built_in_config built_in_read_group
one-reader = refl

its-set : (writer_at (group_at again_config 0) 0).dataset ≡ 0
unfolding again_config built_in_config built_in_group built_in_writer
its-set = refl

its-meta : (seat_in again_config 0 0).meta ≡ again_set
unfolding again_config built_in_config built_in_read_group built_in_reader
its-meta = refl

row-is : IsRow again_set small_row
unfolding again_set
row-is = (
  record { is_value = lit< tt; fits = record { same_kind = refl; within = lit≤ tt }; is_status = refl },
  (
    record { is_value = lit< tt; fits = record { same_kind = refl; within = lit≤ tt }; is_status = refl },
    (
      record { is_value = lit< tt; fits = record { same_kind = refl; within = lit≤ tt }; is_status = refl },
      (record { is_value = lit< tt; fits = record { same_kind = refl; within = lit≤ tt }; is_status = refl }, tt),
    ),
  ),
)

-- ---- numbers

none : IsNumber 0
none = lit< tt

one : IsNumber 1
one = lit< tt

two : IsNumber 2
two = lit< tt

log-numbers : log_at (plan_again again_config) 0 0 steps ≡ logged → LogHasNumbers (log_at (plan_again again_config) 0 0 steps)
log-numbers is = subst (λ (log : List (ℕ × ℕ)). LogHasNumbers log) (sym is) (All-from_recursion EntryHasNumbers logged ((none, one), ((one, two), tt)))

-- what the log has at a number
abbrev found : Bool → Bool → Option (ℕ × ℕ)
found a b = cond a (Some (1, 2)) (cond b (Some (0, 1)) None)

-- the log names one of its own numbers
number-named : (n : ℕ) → version_of logged n ≡ Some 2 → IsNumber n
number-named n named = go (1 == n) (0 == n) refl refl named
  where
    go : (a b : Bool) → (1 == n) ≡ a → (0 == n) ≡ b → option_map (λ (entry : ℕ × ℕ). entry.1) (found a b) ≡ Some 2 → IsNumber n
    go true b at next is = let e : 1 ≡ n = eqb-true 1 n at in omega arith
    go false true at next is = let e : 0 ≡ n = eqb-true 0 n next in omega arith
    go false false at next is = absurd (cc)

relayed-numbers : log_at (plan_again again_config) 0 0 steps ≡ logged → (reader_at again_config 0 0 steps).kept.row ≡ Some small_row
    → HoldsTold small_plan again_config first_source whole_relay 0 0 0 0 2 1 → RelayedHasNumbers again_config steps kept 0 0 0 0
relayed-numbers log_is held later =
    let h = later.holds in
    let few : IsNumber h.number = number-named h.number (ap (λ (log : List (ℕ × ℕ)). version_of log h.number) (sym log_is) ∙ h.named) in
    let store : store_held again_config steps 0 0 0 0 ≡ Some 2 =
    ap (option_and_then (version_of (log_at (plan_again again_config) 0 0 steps))) h.number_is ∙ h.named in
    let version : version_held again_config steps kept 0 0 0 0 ≡ Some 1 =
    ap (λ (set : ℕ). option_and_then (version_in (kept set)) (store_held again_config steps 0 0 0 0)) its-set
    ∙ ap (option_and_then (version_in (kept 0))) store ∙ later.told in
    record {
      number = subst (λ (o : Option ℕ). IfSome o IsNumber) (sym h.number_is) few;
      version = subst (λ (o : Option ℕ). IfSome o IsNumber) (sym version) one;
      row = subst (λ (o : Option (List DataValue)). IfSome o (IsRow (seat_in again_config 0 0).meta)) (sym held) (subst (λ (meta : MetaData). IsRow meta small_row) (sym its-meta) row-is);
    }

-- ---- no other is there

logs : log_at (plan_again again_config) 0 0 steps ≡ logged → (g w : ℕ) → g < length again_config.group → w < length (group_at again_config g).writer
    → LogHasNumbers (log_at (plan_again again_config) g w steps)
logs is zero zero low within = log-numbers is
logs is zero (suc w) low within = let all = one-writer in absurd (omega (arith, all, within))
logs is (suc g) w low within = let all = one-group in absurd (omega (arith, all, low))

readers : RelayedHasNumbers again_config steps kept 0 0 0 0 → (r i g w : ℕ) → r < length again_config.readgroup → g < length again_config.group → IsMatchedIn again_config r i g w
    → RelayedHasNumbers again_config steps kept r i g w
readers has zero zero zero zero here low matched = has
readers has zero zero zero (suc w) here low matched =
    let all = one-writer in
    let there = matched.reads.within in
    absurd (omega (arith, all, there))
readers has zero zero (suc g) w here low matched = let all = one-group in absurd (omega (arith, all, low))
readers has zero (suc i) g w here low matched =
    let all = one-reader in
    let there = matched.within in
    absurd (omega (arith, all, there))
readers has (suc r) i g w here low matched = let all = one-read-group in absurd (omega (arith, all, here))

pub small-numbers : log_at (plan_again again_config) 0 0 steps ≡ logged → (reader_at again_config 0 0 steps).kept.row ≡ Some small_row
    → HoldsTold small_plan again_config first_source whole_relay 0 0 0 0 2 1 → GatewayHasNumbers again_config steps kept
small-numbers log_is held later = record {
  logs = λ g w within. logs log_is g w (writer-index again_config g w within) within;
  readers = λ r i g w low matched. readers (relayed-numbers log_is held later) r i g w (read-group-there again_config r i matched.within) low matched;
}
