-- The datagrams of parcels with their entries, as sends with whether each was done.
use Rattle.std.proofs.Common.{◌≡◌, ℕ, zero, suc, ◌+◌, ◌<◌, ◌≤◌, Bool, true, false, cond, ◌&&◌, List, [], ◌∷◌, ◌++◌, map, refl, sym, ap, ◌∙◌, arith}
use Rattle.std.specs.Prelude.{◌==◌, count_by, filter, slice_index, zip, if◌then◌else◌}
use Rattle.std.specs.List.{AllZip}
use Rattle.std.proofs.lemmas.Bool.{eq-eqb}
use Rattle.std.proofs.lemmas.List.{length-map}
use Rattle.std.proofs.lemmas.Slice.Zip.{AllZip-long}
use Rattle.ua_base.specs.Journal.{Entry, Sent, SendFailed, Got, Empty, Long, ReceiveFailed, LinkState}
use Rattle.session_model.specs.Answers.{counted}
use Rattle.session_model.specs.Closing.{is_send_failed, is_sent}
use Rattle.session_model.specs.Sends.{Send, is_done_by, send_entries, send_entry}
use Rattle.group_threads.specs.declared.parcel.Parcel.{Parcel}
use Rattle.group_threads.specs.Groups.{of_group, pair_of}
use Rattle.group_threads.specs.Pairs.{Pair}
use Rattle.group_threads.specs.Sending.{Conveyed, IsEntryOf, failed_of, failed_one, one_if, saturated, sent_of, sent_one}
use Rattle.lane_groups.specs.declared.running.Ran.{Ran}
use Rattle.lane_groups.specs.Running.{datagrams_in_group}
use Rattle.script_player.proofs.Lines.{count_by-cons}
use Rattle.cmd_lanes.specs.Sends.{AreSent, datagrams_to}
use Rattle.cmd_lanes.specs.Standing.{counts_of}

abbrev pub send_of : Parcel → Send
send_of p = record { group = p.group; datagram = p.bytes }

-- ---- the datagrams of a group

first-same : (g : ℕ) (p : Parcel) (ps : List Parcel) (b : Bool) → datagrams_to g (map send_of ps) ≡ datagrams_in_group g ps
    → map (λ (send : Send). send.datagram) (cond b (send_of p ∷ filter (λ (send : Send). send.group == g) (map send_of ps)) (filter (λ (send : Send). send.group == g) (map send_of ps)))
    ≡ map (λ (pair : Pair). pair.datagram) (if b then pair_of p ∷ of_group g (map pair_of ps) else of_group g (map pair_of ps))
first-same g p ps true later = ap (λ (l : List (List ℕ)). p.bytes ∷ l) later
first-same g p ps false later = later

pub datagrams-same : (g : ℕ) (ps : List Parcel) → datagrams_to g (map send_of ps) ≡ datagrams_in_group g ps
datagrams-same g [] = refl
datagrams-same g (p ∷ ps) = first-same g p ps (p.group == g) (datagrams-same g ps)

pub none-to : (g : ℕ) (ps : List Parcel) → of_group g (map pair_of ps) ≡ [] → datagrams_to g (map send_of ps) ≡ []
none-to g ps none = datagrams-same g ps ∙ ap (map (λ (pair : Pair). pair.datagram)) none

-- ---- the entries

entry-is : (p : Parcel) (e : Entry) → IsEntryOf p e → e ≡ send_entry (send_of p, is_sent e)
entry-is p (Sent datagram) is = ap Sent is
entry-is p SendFailed is = refl
entry-is p (Got datagram) is = absurd is
entry-is p Empty is = absurd is
entry-is p (Long size) is = absurd is
entry-is p ReceiveFailed is = absurd is

entries-are : (ps : List Parcel) (es : List Entry) → AllZip IsEntryOf ps es → es ≡ send_entries (map send_of ps) (map is_sent es)
entries-are [] [] are = refl
entries-are [] (e ∷ es) are = absurd are
entries-are (p ∷ ps) [] are = absurd are
entries-are (p ∷ ps) (e ∷ es) are =
    ap (λ (x : Entry). x ∷ es) (entry-is p e are.0) ∙ ap (λ (l : List Entry). send_entry (send_of p, is_sent e) ∷ l) (entries-are ps es are.1)

-- ---- the counts

none-done : (b : Bool) → ◌≡◌ {A = ℕ} 0 (cond (b && false) 1 0)
none-done true = refl
none-done false = refl

some-done : (b : Bool) → ◌≡◌ {A = ℕ} (if b then 1 else 0) (cond (b && true) 1 0)
some-done true = refl
some-done false = refl

one-sent : (g : ℕ) (p : Parcel) (e : Entry) → sent_one g p e ≡ cond (is_done_by g (send_of p, is_sent e)) 1 0
one-sent g p (Sent datagram) = some-done (p.group == g)
one-sent g p SendFailed = none-done (p.group == g)
one-sent g p (Got datagram) = none-done (p.group == g)
one-sent g p Empty = none-done (p.group == g)
one-sent g p (Long size) = none-done (p.group == g)
one-sent g p ReceiveFailed = none-done (p.group == g)

sent-count : (g : ℕ) (ps : List Parcel) (es : List Entry) → AllZip IsEntryOf ps es → sent_of g ps es ≡ count_by (is_done_by g) (zip (map send_of ps) (map is_sent es))
sent-count g [] [] are = refl
sent-count g [] (e ∷ es) are = absurd are
sent-count g (p ∷ ps) [] are = absurd are
sent-count g (p ∷ ps) (e ∷ es) are =
    omega (arith, one-sent g p e, sent-count g ps es are.1, count_by-cons (is_done_by g) (send_of p, is_sent e) (zip (map send_of ps) (map is_sent es)))

one-failed : (e : Entry) → failed_one e ≡ cond (is_send_failed e) 1 0
one-failed (Sent datagram) = refl
one-failed SendFailed = refl
one-failed (Got datagram) = refl
one-failed Empty = refl
one-failed (Long size) = refl
one-failed ReceiveFailed = refl

failed-count : (es : List Entry) → failed_of es ≡ count_by is_send_failed es
failed-count [] = refl
failed-count (e ∷ es) = omega (arith, one-failed e, failed-count es, count_by-cons is_send_failed e es)

-- ---- all groups

-- each is of one of the first groups
abbrev AreOf : ℕ → List Parcel → Type 0
AreOf n [] = Unit {0}
AreOf n (p ∷ ps) = (p.group < n) × AreOf n ps

some-pair : (x : Pair) (xs : List Pair) → x ∷ xs ≡ [] → ⊥
some-pair x xs e = cc

low-group : (n : ℕ) (p : Parcel) (ps : List Parcel) → ((g : ℕ) → n ≤ g → of_group g (map pair_of (p ∷ ps)) ≡ []) → n ≤ p.group → ⊥
low-group n p ps none high =
    some-pair (pair_of p) (of_group p.group (map pair_of ps))
    (ap (λ (b : Bool). if b then pair_of p ∷ of_group p.group (map pair_of ps) else of_group p.group (map pair_of ps)) (sym (eq-eqb p.group p.group refl)) ∙ none p.group high)

none-left : (g : ℕ) (p : Parcel) (ps : List Parcel) (b : Bool) → (if b then pair_of p ∷ of_group g (map pair_of ps) else of_group g (map pair_of ps)) ≡ [] → of_group g (map pair_of ps) ≡ []
none-left g p ps true e = absurd (some-pair (pair_of p) (of_group g (map pair_of ps)) e)
none-left g p ps false e = e

are-of : (n : ℕ) (ps : List Parcel) → ((g : ℕ) → n ≤ g → of_group g (map pair_of ps) ≡ []) → AreOf n ps
are-of n [] none = tt
are-of n (p ∷ ps) none = (omega (arith, low-group n p ps none), are-of n ps (λ g high. none-left g p ps (p.group == g) (none g high)))

-- a parcel is of one of four groups
one-of : (g : ℕ) → g < 4 → one_if g 0 + one_if g 1 + one_if g 2 + one_if g 3 ≡ 1
one-of zero low = refl
one-of (suc zero) low = refl
one-of (suc (suc zero)) low = refl
one-of (suc (suc (suc zero))) low = refl
one-of (suc (suc (suc (suc g)))) low = absurd (omega (arith, low))

one-all : (p : Parcel) (e : Entry) → p.group < 4 → sent_one 0 p e + sent_one 1 p e + sent_one 2 p e + sent_one 3 p e ≡ cond (is_sent e) 1 0
one-all p (Sent datagram) low = one-of p.group low
one-all p SendFailed low = refl
one-all p (Got datagram) low = refl
one-all p Empty low = refl
one-all p (Long size) low = refl
one-all p ReceiveFailed low = refl

all-count : (ps : List Parcel) (es : List Entry) → AllZip IsEntryOf ps es → AreOf 4 ps → sent_of 0 ps es + sent_of 1 ps es + sent_of 2 ps es + sent_of 3 ps es ≡ count_by is_sent es
all-count [] [] are of = refl
all-count [] (e ∷ es) are of = absurd are
all-count (p ∷ ps) [] are of = absurd are
all-count (p ∷ ps) (e ∷ es) are of = omega (arith, one-all p e of.0, all-count ps es are.1 of.1, count_by-cons is_sent e es)

counted-all : (a b c d : ℕ) → counted (saturated a + saturated b + saturated c + saturated d) ≡ counted (a + b + c + d)
counted-all a b c d = omega arith

-- ---- the whole

pub are-sent : (groups : ℕ) (ps : List Parcel) (ran : Ran) (before after : LinkState) → groups ≤ 4 → before.journal ≡ [] → ((g : ℕ) → groups ≤ g → of_group g (map pair_of ps) ≡ [])
    → Conveyed ps (record { sent = ran.sent; failed = ran.failed; lacks = false }) before after → AreSent groups (map send_of ps) (counts_of ran) after
are-sent groups ps ran before after few new others is = record {
  done = map is_sent is.entries;
  each = length-map is.entries is_sent ∙ AllZip-long IsEntryOf ps is.entries is.each ∙ sym (length-map ps send_of);
  journal = journal-is ∙ entries-are ps is.entries is.each;
  sent = λ g low. is.sent g (omega (arith, low, few)) ∙ ap counted (sent-count g ps is.entries is.each);
  all = ap counted
      (ap (λ (n : ℕ). n + slice_index ran.sent 1 + slice_index ran.sent 2 + slice_index ran.sent 3) (is.sent 0 (omega arith))
      ∙ ap (λ (n : ℕ). saturated (sent_of 0 ps is.entries) + n + slice_index ran.sent 2 + slice_index ran.sent 3) (is.sent 1 (omega arith))
      ∙ ap (λ (n : ℕ). saturated (sent_of 0 ps is.entries) + saturated (sent_of 1 ps is.entries) + n + slice_index ran.sent 3) (is.sent 2 (omega arith))
      ∙ ap (λ (n : ℕ). saturated (sent_of 0 ps is.entries) + saturated (sent_of 1 ps is.entries) + saturated (sent_of 2 ps is.entries) + n) (is.sent 3 (omega arith)))
      ∙ counted-all (sent_of 0 ps is.entries) (sent_of 1 ps is.entries) (sent_of 2 ps is.entries) (sent_of 3 ps is.entries)
      ∙ ap counted (all-count ps is.entries is.each (are-of 4 ps (λ g high. others g (omega (arith, high, few)))))
      ∙ ap (λ (l : List Entry). counted (count_by is_sent l)) (sym journal-is);
  failed = is.failed ∙ ap counted (failed-count is.entries) ∙ ap (λ (l : List Entry). counted (count_by is_send_failed l)) (sym journal-is);
}
  where
    journal-is : after.journal ≡ is.entries
    journal-is = is.journal ∙ ap (λ (l : List Entry). l ++ is.entries) new
