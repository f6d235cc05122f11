-- The lines of a gateway determine what they tell.
use Rattle.std.proofs.Common.{◌≡◌, ℕ, ◌<◌, Bool, true, false, List, [], ◌∷◌, ◌++◌, length, Option, Some, None, refl, sym, ap, ◌∙◌, append_assoc, decimal, bytes_eq, arith}
use Rattle.std.specs.Prelude.{⊤, ◌==◌, ◌%◌, cond, codes, count_by, find, reverse, IfSome, option_and_then, option_map}
use Rattle.std.specs.List.{AllByRecursion}
use Rattle.std.proofs.lemmas.Bool.{true≢false}
use Rattle.std.proofs.lemmas.List.{append_cancel_left}
use Rattle.std.proofs.lemmas.List.Elements.{recursion_from_All}
use Rattle.std.proofs.lemmas.Slice.Eq.{bytes_eq-Decides}
use Rattle.dataset_meta.specs.declared.field.Field.{Field}
use Rattle.dataset_meta.specs.DataValues.{DataValue}
use Rattle.dataset_meta.specs.Metas.{MetaData}
use Rattle.dataset_meta.specs.Rows.{IsRow}
use Rattle.dataset_reader.specs.Kept.{Kept}
use Rattle.pubsub_model.specs.Answers.{version_of}
use Rattle.pubsub_model.specs.declared.reading.Why.{Why}
use Rattle.pubsub_model.specs.WhyWords.{why_word}
use Rattle.ps_config.specs.declared.parts.Config.{Config}
use Rattle.ps_report.specs.declared.closed.Closed.{Closed}
use Rattle.ps_report.specs.Lines.{count_text, fields_text, log_text, number_or_dash, waits_text}
use Rattle.ps_report.specs.Reports.{end_line}
use Rattle.report_laws.specs.Numbers.{IsNumber, LogHasNumbers}
use Rattle.report_laws.specs.Reported.{IsReported}
use Rattle.report_laws.proofs.Alone.{begins_tell}
use Rattle.report_laws.proofs.Cutting.{head_same, tail_same}
use Rattle.report_laws.proofs.Entries.{EntryHasNumbers, count_left, dash_cut, log_cut, number_cut}
use Rattle.report_laws.proofs.Held.{fields_cut, waits_is}
use Rattle.report_laws.proofs.Words.{why_cut}
use Rattle.writer_group.specs.Parts.{group_at}
use Rattle.writer_group.specs.Payloads.{writer_at}
use Rattle.session_model.specs.Answers.{counted}
use Rattle.session_model.specs.Closing.{MemberPlace, is_got, is_send_failed, is_sent, reader_places, writer_places}
use Rattle.session_model.specs.Deeds.{log_at}
use Rattle.session_model.specs.Events.{reader_at}
use Rattle.session_model.specs.Sends.{journal}
use Rattle.session_model.specs.Steps.{Step}
use Rattle.session_laws.specs.Reading.{IsMatchedIn}
use Rattle.session_laws.proofs.Versions.Ends.{reader-place, writer-place}
use Rattle.session_laws.proofs.Versions.Telling.{writer-index}
use Rattle.gateway_core.specs.declared.collected.StoreVersion.{StoreVersion}
use Rattle.gateway_core.specs.Lived.{plan_again}
use Rattle.cmd_relay.specs.Telling.{seat_in}
use Rattle.cmd_relay.specs.Texts.{IsReaderText, IsTextOf, IsWriterText, TextsOf, counts_text, gateway_line, held_as, link_line, link_text, reader_line, relayed_as, relayed_line, store_held, stored_text, version_held}
use Rattle.cmd_relay.specs.Numbers.{GatewayHasNumbers}
use Rattle.text_laws.specs.Gateways.{AreGatewaysAlike, AreHeldAlike, AreRelayedAlike, AreStoredAlike}
use Rattle.cmd_relay.proofs.Places.{all-at, all-back, everywhere, read-group-there, writers-all}

-- ---- the line of a writer

gateway-is : (name : List ℕ) (log : List (ℕ × ℕ)) (s : List ℕ) → gateway_line name log ++ s ≡ codes "gateway " ++ (name ++ (count_text (length log) ++ (log_text log ++ (10 ∷ s))))
unfolding gateway_line
gateway-is name log s = five (codes "gateway ") name (count_text (length log)) (log_text log) s
  where
    five : (a b c d rest : List ℕ) → a ++ b ++ c ++ d ++ (10 ∷ []) ++ rest ≡ a ++ (b ++ (c ++ (d ++ (10 ∷ rest))))
    five a b c d rest = simp append_assoc

gateway-cut : (name : List ℕ) (one other : List (ℕ × ℕ)) (s t : List ℕ) → LogHasNumbers one → LogHasNumbers other
    → gateway_line name one ++ s ≡ gateway_line name other ++ t → (one ≡ other) × (s ≡ t)
gateway-cut name one other s t in_one in_other same =
    let left = log_text one ++ (10 ∷ s) in
    let right = log_text other ++ (10 ∷ t) in
    let named = append_cancel_left (codes "gateway ") (name ++ (count_text (length one) ++ left)) (name ++ (count_text (length other) ++ right))
    (sym (gateway-is name one s) ∙ same ∙ gateway-is name other t) in
    let counts = append_cancel_left name (count_text (length one) ++ left) (count_text (length other) ++ right) named in
    log_cut one other s t (recursion_from_All EntryHasNumbers one in_one) (recursion_from_All EntryHasNumbers other in_other)
    (count_left (length one) (length other) left right counts)

-- ---- what a reader holds

stored-is : (number store version : Option ℕ) (s : List ℕ) → stored_text number store version ++ s
    ≡ codes " number " ++ (number_or_dash number ++ (codes " store " ++ (number_or_dash store ++ (codes " version " ++ (number_or_dash version ++ (58 ∷ s))))))
unfolding stored_text
stored-is number store version s = simp append_assoc

stored-cut : (m n a b v w : Option ℕ) (s t : List ℕ) → IfSome m IsNumber → IfSome n IsNumber → IfSome a IsNumber → IfSome b IsNumber → IfSome v IsNumber → IfSome w IsNumber
    → stored_text m a v ++ s ≡ stored_text n b w ++ t → ((m ≡ n) × (a ≡ b) × (v ≡ w)) × (s ≡ t)
stored-cut m n a b v w s t in_m in_n in_a in_b in_v in_w same =
    let left = number_or_dash v ++ (58 ∷ s) in
    let right = number_or_dash w ++ (58 ∷ t) in
    let mine = number_or_dash a ++ (codes " version " ++ left) in
    let theirs = number_or_dash b ++ (codes " version " ++ right) in
    let number = dash_cut m n (codes " store " ++ mine) (codes " store " ++ theirs) in_m in_n refl refl
    (append_cancel_left (codes " number ") (number_or_dash m ++ (codes " store " ++ mine)) (number_or_dash n ++ (codes " store " ++ theirs))
    (sym (stored-is m a v s) ∙ same ∙ stored-is n b w t)) in
    let store = dash_cut a b (codes " version " ++ left) (codes " version " ++ right) in_a in_b refl refl (append_cancel_left (codes " store ") mine theirs number.1) in
    let version = dash_cut v w (58 ∷ s) (58 ∷ t) in_v in_w refl refl (append_cancel_left (codes " version ") left right store.1) in
    ((number.0, store.0, version.0), tail_same 58 58 s t version.1)

letters-differ : (a b : ℕ) → a ≡ 119 → b ≡ 110 → a ≡ b → ⊥
letters-differ a b w n same = omega arith

-- a reader that waits isn't told as one that holds a row
other-words : (why : Why) (number store version : Option ℕ) (s t : List ℕ) → waits_text why ++ s ≡ stored_text number store version ++ t → ⊥
other-words why number store version s t same =
    let rest = number_or_dash number ++ (codes " store " ++ (number_or_dash store ++ (codes " version " ++ (number_or_dash version ++ (58 ∷ t))))) in
    let left : codes "waits " ++ (why_word why ++ s) ≡ codes "number " ++ rest =
    tail_same 32 32 (codes "waits " ++ (why_word why ++ s)) (codes "number " ++ rest) (sym (waits_is why s) ∙ same ∙ stored-is number store version t) in
    letters-differ 119 110 refl refl (head_same 119 110 (codes "aits " ++ (why_word why ++ s)) (codes "umber " ++ rest) left)

-- with these rows
record AreCutAlike (one other : Kept) (a b : Option (List DataValue)) (store its version theirs : Option ℕ) : Type 0 where
  row : a ≡ b
  waits : a ≡ None → one.why ≡ other.why
  holds : (held : List DataValue) → a ≡ Some held → AreStoredAlike one other store its version theirs

held-cut : (meta : MetaData) (one other : Kept) (a b : Option (List DataValue)) (store its version theirs : Option ℕ) (s t : List ℕ)
    → IfSome one.number IsNumber → IfSome other.number IsNumber → IfSome store IsNumber → IfSome its IsNumber → IfSome version IsNumber → IfSome theirs IsNumber
    → IfSome a (IsRow meta) → IfSome b (IsRow meta) → held_as meta.fields one store version a ++ 10 ∷ s ≡ held_as meta.fields other its theirs b ++ 10 ∷ t
    → AreCutAlike one other a b store its version theirs × (s ≡ t)
held-cut meta one other None None store its version theirs s t in_one in_other in_store in_its in_version in_theirs of_a of_b same =
    let parts = why_cut one.why other.why (10 ∷ s) (10 ∷ t) refl refl
    (append_cancel_left (codes " waits ") (why_word one.why ++ (10 ∷ s)) (why_word other.why ++ (10 ∷ t)) (sym (waits_is one.why (10 ∷ s)) ∙ same ∙ waits_is other.why (10 ∷ t))) in
    (record { row = refl; waits = λ none. parts.0; holds = λ held is. absurd (cc) }, tail_same 10 10 s t parts.1)
held-cut meta one other None (Some y) store its version theirs s t in_one in_other in_store in_its in_version in_theirs of_a of_b same =
    absurd (other-words one.why other.number its theirs (10 ∷ s) (fields_text meta.fields y ++ 10 ∷ t)
    (same ∙ append_assoc (stored_text other.number its theirs) (fields_text meta.fields y) (10 ∷ t)))
held-cut meta one other (Some x) None store its version theirs s t in_one in_other in_store in_its in_version in_theirs of_a of_b same =
    absurd (other-words other.why one.number store version (10 ∷ t) (fields_text meta.fields x ++ 10 ∷ s)
    (sym same ∙ append_assoc (stored_text one.number store version) (fields_text meta.fields x) (10 ∷ s)))
held-cut meta one other (Some x) (Some y) store its version theirs s t in_one in_other in_store in_its in_version in_theirs of_a of_b same =
    let stored = stored-cut one.number other.number store its version theirs (fields_text meta.fields x ++ 10 ∷ s) (fields_text meta.fields y ++ 10 ∷ t)
    in_one in_other in_store in_its in_version in_theirs
    (sym (append_assoc (stored_text one.number store version) (fields_text meta.fields x) (10 ∷ s)) ∙ same
    ∙ append_assoc (stored_text other.number its theirs) (fields_text meta.fields y) (10 ∷ t)) in
    let row = fields_cut meta.quality meta.fields x y s t of_a of_b stored.1 in (
      record {
        row = ap Some row.0;
        waits = λ none. absurd (cc);
        holds = λ held is. record { number = stored.0.0; store_is = stored.0.1; version_is = stored.0.2 };
      },
      row.1,
    )

relayed-is : (name : List ℕ) (fields : List Field) (kept : Kept) (store version : Option ℕ) (s : List ℕ)
    → relayed_line name fields kept store version ++ s ≡ codes "relayed " ++ (name ++ (relayed_as fields kept store version ++ (10 ∷ s)))
unfolding relayed_line
relayed-is name fields kept store version s = four (codes "relayed ") name (relayed_as fields kept store version) s
  where
    four : (a b c rest : List ℕ) → a ++ b ++ c ++ (10 ∷ []) ++ rest ≡ a ++ (b ++ (c ++ (10 ∷ rest)))
    four a b c rest = simp append_assoc

relayed-cut : (name : List ℕ) (meta : MetaData) (one other : Kept) (store its version theirs : Option ℕ) (s t : List ℕ)
    → IfSome one.number IsNumber → IfSome other.number IsNumber → IfSome store IsNumber → IfSome its IsNumber → IfSome version IsNumber → IfSome theirs IsNumber
    → IfSome one.row (IsRow meta) → IfSome other.row (IsRow meta)
    → relayed_line name meta.fields one store version ++ s ≡ relayed_line name meta.fields other its theirs ++ t
    → AreHeldAlike one other store its version theirs × (s ≡ t)
relayed-cut name meta one other store its version theirs s t in_one in_other in_store in_its in_version in_theirs of_one of_other same =
    let left = relayed_as meta.fields one store version ++ (10 ∷ s) in
    let right = relayed_as meta.fields other its theirs ++ (10 ∷ t) in
    let named = append_cancel_left (codes "relayed ") (name ++ left) (name ++ right)
    (sym (relayed-is name meta.fields one store version s) ∙ same ∙ relayed-is name meta.fields other its theirs t) in
    let told = held-cut meta one other one.row other.row store its version theirs s t in_one in_other in_store in_its in_version in_theirs of_one of_other
    (append_cancel_left name left right named) in
    (record { row = told.0.row; waits = told.0.waits; holds = told.0.holds }, told.1)

-- ---- the line of the link

link-is : (sent failed received : ℕ) (s : List ℕ) → link_line sent failed received ++ s
    ≡ codes "gateway " ++ (codes "link sent " ++ (decimal sent ++ (codes " failed " ++ (decimal failed ++ (codes " received " ++ (decimal received ++ (10 ∷ s)))))))
unfolding link_line counts_text
link-is sent failed received s = simp append_assoc

link-cut : (a b c m n k : ℕ) (s t : List ℕ) → IsNumber a → IsNumber b → IsNumber c → IsNumber m → IsNumber n → IsNumber k
    → link_line a b c ++ s ≡ link_line m n k ++ t → (a ≡ m) × (b ≡ n) × (c ≡ k)
link-cut a b c m n k s t in_a in_b in_c in_m in_n in_k same =
    let left = decimal c ++ (10 ∷ s) in
    let right = decimal k ++ (10 ∷ t) in
    let mine = decimal b ++ (codes " received " ++ left) in
    let theirs = decimal n ++ (codes " received " ++ right) in
    let named = append_cancel_left (codes "gateway ") (codes "link sent " ++ (decimal a ++ (codes " failed " ++ mine))) (codes "link sent " ++ (decimal m ++ (codes " failed " ++ theirs)))
    (sym (link-is a b c s) ∙ same ∙ link-is m n k t) in
    let sent = number_cut a m (codes " failed " ++ mine) (codes " failed " ++ theirs) in_a in_m refl refl
    (append_cancel_left (codes "link sent ") (decimal a ++ (codes " failed " ++ mine)) (decimal m ++ (codes " failed " ++ theirs)) named) in
    let failed = number_cut b n (codes " received " ++ left) (codes " received " ++ right) in_b in_n refl refl (append_cancel_left (codes " failed ") mine theirs sent.1) in
    let received = number_cut c k (10 ∷ s) (10 ∷ t) in_c in_k refl refl (append_cancel_left (codes " received ") left right failed.1) in
    (sent.0, failed.0, received.0)

counted-number : (n : ℕ) → IsNumber (counted n)
counted-number n = omega arith

-- ---- the store that a writer logged

-- an entry that is found, or nothing
either-number : (b : Bool) (entry : ℕ × ℕ) (rest : Option (ℕ × ℕ)) → EntryHasNumbers entry → IfSome (option_map (λ (e : ℕ × ℕ). e.1) rest) IsNumber
    → IfSome (option_map (λ (e : ℕ × ℕ). e.1) (cond b (Some entry) rest)) IsNumber
either-number true entry rest here later = here.1
either-number false entry rest here later = later

found-number : (test : ℕ × ℕ → Bool) (log : List (ℕ × ℕ)) → AllByRecursion EntryHasNumbers log → IfSome (option_map (λ (e : ℕ × ℕ). e.1) (find test log)) IsNumber
found-number test [] all = tt
found-number test (entry ∷ log) all = either-number (test entry) entry (find test log) all.0 (found-number test log all.1)

store-number : (log : List (ℕ × ℕ)) (number : Option ℕ) → LogHasNumbers log → IfSome (option_and_then (version_of log) number) IsNumber
store-number log None all = tt
store-number log (Some n) all = found-number (λ entry. entry.0 % 65536 == n) (reverse log) (all-back EntryHasNumbers log (recursion_from_All EntryHasNumbers log all))

-- ---- one text for each place

texts-cut : (One Other : MemberPlace → List ℕ → Type 0) (Has Same : MemberPlace → Type 0)
    → ((place : MemberPlace) (x y s t : List ℕ) → Has place → One place x → Other place y → x ++ s ≡ y ++ t → Same place × (s ≡ t))
    → (places : List MemberPlace) (x y s t : List ℕ) → AllByRecursion Has places → TextsOf One places x → TextsOf Other places y
    → x ++ s ≡ y ++ t → AllByRecursion Same places × (s ≡ t)
texts-cut One Other Has Same tells [] x y s t has is its same =
    (tt, ap (λ (l : List ℕ). l ++ s) (sym is) ∙ same ∙ ap (λ (l : List ℕ). l ++ t) its)
texts-cut One Other Has Same tells (place ∷ places) x y s t has is its same =
    let first = tells place is.0 its.0 (is.1 ++ s) (its.1 ++ t) has.0 is.2 its.2
    (sym (append_assoc is.0 is.1 s) ∙ ap (λ (l : List ℕ). l ++ s) (sym is.4) ∙ same ∙ ap (λ (l : List ℕ). l ++ t) its.4 ∙ append_assoc its.0 its.1 t) in
    let rest = texts-cut One Other Has Same tells places is.1 its.1 s t has.1 is.3 its.3 first.1 in
    ((first.0, rest.0), rest.1)

-- equal bytes can be told
by-decision : (s t : List ℕ) → ((s ≡ t → ⊥) → ⊥) → s ≡ t
by-decision s t hard = go (bytes_eq s t) refl
  where
    go : (b : Bool) → bytes_eq s t ≡ b → s ≡ t
    go true e = (bytes_eq-Decides s t).0 e
    go false e = absurd (hard (λ same. true≢false (sym ((bytes_eq-Decides s t).1 same) ∙ e)))

module _ (second : Config) (steps others : List Step) (kept stores : ℕ → List StoreVersion) (has : GatewayHasNumbers second steps kept) (own : GatewayHasNumbers second others stores) where
  -- the writer at a place is there
  abbrev IsThere : MemberPlace → Type 0
  IsThere place = place.1 < length (group_at second place.0).writer

  abbrev SameLog : MemberPlace → Type 0
  SameLog place = log_at (plan_again second) place.0 place.1 steps ≡ log_at (plan_again second) place.0 place.1 others

  abbrev SameReader : MemberPlace → Type 0
  SameReader place = (g w : ℕ) → g < length second.group → IsMatchedIn second place.0 place.1 g w → AreRelayedAlike second steps others kept stores place.0 place.1 g w

  abbrev Any : MemberPlace → Type 0
  Any place = ⊤

  writer-tells : (place : MemberPlace) (x y s t : List ℕ) → IsThere place → IsWriterText second steps place x → IsWriterText second others place y
      → x ++ s ≡ y ++ t → SameLog place × (s ≡ t)
  writer-tells place x y s t there is its same =
      gateway-cut (writer_at (group_at second place.0) place.1).name (log_at (plan_again second) place.0 place.1 steps) (log_at (plan_again second) place.0 place.1 others) s t
      (has.logs place.0 place.1 there) (own.logs place.0 place.1 there)
      (ap (λ (l : List ℕ). l ++ s) (sym is) ∙ same ∙ ap (λ (l : List ℕ). l ++ t) its)

  held-alike : (r i g w : ℕ) (s t : List ℕ) → g < length second.group → IsMatchedIn second r i g w
      → reader_line second steps kept r i g w ++ s ≡ reader_line second others stores r i g w ++ t → AreRelayedAlike second steps others kept stores r i g w × (s ≡ t)
  held-alike r i g w s t low matched same =
      let mine = has.readers r i g w low matched in
      let theirs = own.readers r i g w low matched in
      relayed-cut (seat_in second r i).part.name (seat_in second r i).meta (reader_at second r i steps).kept (reader_at second r i others).kept
      (store_held second steps r i g w) (store_held second others r i g w) (version_held second steps kept r i g w) (version_held second others stores r i g w) s t
      mine.number theirs.number
      (store-number (log_at (plan_again second) g w steps) (reader_at second r i steps).kept.number (has.logs g w matched.reads.within))
      (store-number (log_at (plan_again second) g w others) (reader_at second r i others).kept.number (own.logs g w matched.reads.within))
      mine.version theirs.version mine.row theirs.row same

  -- where the reader is matched to none, neither has a line
  unread : (place : MemberPlace) (x y s t : List ℕ) → IsReaderText second steps kept place x → IsReaderText second others stores place y → x ++ s ≡ y ++ t
      → ((g w : ℕ) → g < length second.group → IsMatchedIn second place.0 place.1 g w → ⊥) → s ≡ t
  unread place x y s t is its same none =
      ap (λ (l : List ℕ). l ++ s) (sym (is.unmatched none)) ∙ same ∙ ap (λ (l : List ℕ). l ++ t) (its.unmatched none)

  -- where it is matched, both have one
  read : (place : MemberPlace) (g w : ℕ) (x y s t : List ℕ) → IsReaderText second steps kept place x → IsReaderText second others stores place y → x ++ s ≡ y ++ t
      → g < length second.group → IsMatchedIn second place.0 place.1 g w → AreRelayedAlike second steps others kept stores place.0 place.1 g w × (s ≡ t)
  read place g w x y s t is its same low matched =
      held-alike place.0 place.1 g w s t low matched
      (ap (λ (l : List ℕ). l ++ s) (sym (is.matched g w low matched)) ∙ same ∙ ap (λ (l : List ℕ). l ++ t) (its.matched g w low matched))

  reader-tells : (place : MemberPlace) (x y s t : List ℕ) → Any place → IsReaderText second steps kept place x → IsReaderText second others stores place y
      → x ++ s ≡ y ++ t → SameReader place × (s ≡ t)
  reader-tells place x y s t any is its same = (
    λ g w low matched. (read place g w x y s t is its same low matched).0,
    by-decision s t (λ apart. apart (unread place x y s t is its same (λ g w low matched. apart ((read place g w x y s t is its same low matched).1)))),
  )

  lines-tell : (writers theirs readers its back again : List ℕ) → TextsOf (IsWriterText second steps) (writer_places second) writers
      → TextsOf (IsWriterText second others) (writer_places second) theirs → TextsOf (IsReaderText second steps kept) (reader_places second) readers
      → TextsOf (IsReaderText second others stores) (reader_places second) its
      → writers ++ (readers ++ back) ≡ theirs ++ (its ++ again) → (AllByRecursion SameLog (writer_places second) × AllByRecursion SameReader (reader_places second)) × (back ≡ again)
  lines-tell writers theirs readers its back again written wrote told tells same =
      let logs = texts-cut (IsWriterText second steps) (IsWriterText second others) IsThere SameLog writer-tells (writer_places second) writers theirs (readers ++ back) (its ++ again)
      (writers-all second IsThere (λ g w within. within)) written wrote same in
      let held = texts-cut (IsReaderText second steps kept) (IsReaderText second others stores) Any SameReader reader-tells (reader_places second) readers its back again
      (everywhere Any (λ place. tt) (reader_places second)) told tells logs.1 in
      ((logs.0, held.0), held.1)

  same-log : AllByRecursion SameLog (writer_places second) → (g w : ℕ) → w < length (group_at second g).writer → log_at (plan_again second) g w steps ≡ log_at (plan_again second) g w others
  same-log all g w within =
      let at = writer-place second g w (writer-index second g w within) within in
      all-at SameLog (writer_places second) at.0 (g, w) all at.1

  same-reader : AllByRecursion SameReader (reader_places second) → (r i g w : ℕ) → g < length second.group → IsMatchedIn second r i g w → AreRelayedAlike second steps others kept stores r i g w
  same-reader all r i g w low matched =
      let at = reader-place second r i (read-group-there second r i matched.within) matched.within in
      all-at SameReader (reader_places second) at.0 (r, i) all at.1 g w low matched

-- ---- the whole

five : (a b c d e : List ℕ) → a ++ b ++ c ++ d ++ e ≡ a ++ (b ++ (c ++ (d ++ e)))
five a b c d e = simp append_assoc

pub gateways-told : (first second : Config) (one other : Closed) (steps others : List Step) (kept stores : ℕ → List StoreVersion) (text : List ℕ)
    → IsReported first one → IsReported first other → GatewayHasNumbers second steps kept → GatewayHasNumbers second others stores
    → IsTextOf first one second steps kept text → IsTextOf first other second others stores text → AreGatewaysAlike second steps others kept stores
gateways-told first second one other steps others kept stores text in_one in_other has own is its =
    let entries = journal (plan_again second) steps in
    let its_entries = journal (plan_again second) others in
    let back = link_text entries ++ end_line in
    let again = link_text its_entries ++ end_line in
    let behind = begins_tell first one other is.report its.report (is.writers ++ (is.readers ++ back)) (its.writers ++ (its.readers ++ again)) in_one in_other is.report_is its.report_is
    (sym (five is.report is.writers is.readers (link_text entries) end_line) ∙ sym is.text_is ∙ its.text_is ∙ five its.report its.writers its.readers (link_text its_entries) end_line) in
    let told = lines-tell second steps others kept stores has own is.writers its.writers is.readers its.readers back again is.writers_are its.writers_are is.readers_are its.readers_are behind.1 in
    let link = link-cut (counted (count_by is_sent entries)) (counted (count_by is_send_failed entries)) (counted (count_by is_got entries))
    (counted (count_by is_sent its_entries)) (counted (count_by is_send_failed its_entries)) (counted (count_by is_got its_entries)) end_line end_line
    (counted-number (count_by is_sent entries)) (counted-number (count_by is_send_failed entries)) (counted-number (count_by is_got entries))
    (counted-number (count_by is_sent its_entries)) (counted-number (count_by is_send_failed its_entries)) (counted-number (count_by is_got its_entries)) told.1 in
    record {
      logs = same-log second steps others kept stores has own told.0.0;
      readers = same-reader second steps others kept stores has own told.0.1;
      sent = link.0;
      failed = link.1;
      received = link.2;
    }
