-- Each line of a report, whatever follows it.
use Rattle.std.proofs.Common.{◌≡◌, ℕ, List, [], ◌∷◌, ◌++◌, length, refl, sym, ap, ◌∙◌, subst, append_assoc}
use Rattle.std.specs.Prelude.{codes, nat_eq}
use Rattle.std.specs.Fmt.{decimal}
use Rattle.std.specs.List.{AllByRecursion}
use Rattle.std.proofs.lemmas.List.{append_cancel_left}
use Rattle.std.proofs.lemmas.List.Elements.{recursion_from_All}
use Rattle.pubsub_model.specs.declared.reading.Break.{Break}
use Rattle.pubsub_states.specs.declared.state.State.{State}
use Rattle.pubsub_states.specs.States.{word_of}
use Rattle.ps_report.specs.declared.closed.GroupEnd.{GroupEnd}
use Rattle.ps_report.specs.declared.closed.LinkEnd.{LinkEnd}
use Rattle.ps_report.specs.declared.closed.ReadGroupEnd.{ReadGroupEnd}
use Rattle.ps_report.specs.declared.closed.WriterEnd.{WriterEnd}
use Rattle.ps_report.specs.Lines.{component_text, count_text, numbers_text, log_text, causes_text, breaks_text, history_line, group_line, writer_line, read_group_line, gaps_line, link_line}
use Rattle.report_laws.specs.Numbers.{IsNumber, GroupHasNumbers, WriterHasNumbers, ReadGroupHasNumbers, LinkHasNumbers}
use Rattle.report_laws.proofs.Causes.{causes_cut}
use Rattle.report_laws.proofs.Cutting.{Stops, is_visible, tail_same}
use Rattle.report_laws.proofs.Entries.{number_cut, count_left, count_cut, numbers_cut, EntryHasNumbers, log_cut, BreakHasNumbers, breaks_cut}
use Rattle.report_laws.proofs.Words.{state_cut}

component_is : (word name : List ℕ) (state : State) (s : List ℕ) → component_text word name state ++ s ≡ word ++ (32 ∷ (name ++ (32 ∷ (word_of state ++ s))))
unfolding component_text
component_is word name state s = simp append_assoc

pub component_cut : (word name : List ℕ) (one other : State) (s t : List ℕ) → Stops is_visible s → Stops is_visible t
    → component_text word name one ++ s ≡ component_text word name other ++ t → (one ≡ other) × (s ≡ t)
component_cut word name one other s t end_s end_t same =
    let left = word_of one ++ s in
    let right = word_of other ++ t in
    let named = append_cancel_left word (32 ∷ (name ++ (32 ∷ left))) (32 ∷ (name ++ (32 ∷ right))) (sym (component_is word name one s) ∙ same ∙ component_is word name other t) in
    let stated = append_cancel_left name (32 ∷ left) (32 ∷ right) (tail_same 32 32 (name ++ (32 ∷ left)) (name ++ (32 ∷ right)) named) in
    state_cut one other s t end_s end_t (tail_same 32 32 left right stated)

history_is : (name threads s : List ℕ) → history_line name threads ++ s
    ≡ codes "history " ++ (name ++ (count_text (length threads) ++ (numbers_text threads ++ (10 ∷ s))))
unfolding history_line
history_is name threads s = simp append_assoc

pub history_cut : (name one other s t : List ℕ) → AllByRecursion IsNumber one → AllByRecursion IsNumber other
    → history_line name one ++ s ≡ history_line name other ++ t → (one ≡ other) × (s ≡ t)
history_cut name one other s t in_one in_other same =
    let left = numbers_text one ++ (10 ∷ s) in
    let right = numbers_text other ++ (10 ∷ t) in
    let named = append_cancel_left (codes "history ") (name ++ (count_text (length one) ++ left)) (name ++ (count_text (length other) ++ right))
    (sym (history_is name one s) ∙ same ∙ history_is name other t) in
    let counted = append_cancel_left name (count_text (length one) ++ left) (count_text (length other) ++ right) named in
    numbers_cut one other s t in_one in_other (count_left (length one) (length other) left right counted)

group_is : (name : List ℕ) (end : GroupEnd) (s : List ℕ) → group_line name end ++ s
    ≡ component_text (codes "group") name end.state ++ (codes " sent " ++ (decimal end.sent ++ (10 ∷ s)))
unfolding group_line
group_is name end s = simp append_assoc

pub group_cut : (name : List ℕ) (one other : GroupEnd) (s t : List ℕ) → GroupHasNumbers one → GroupHasNumbers other
    → group_line name one ++ s ≡ group_line name other ++ t → (one ≡ other) × (s ≡ t)
group_cut name one other s t in_one in_other same =
    let left = decimal one.sent ++ (10 ∷ s) in
    let right = decimal other.sent ++ (10 ∷ t) in
    let stated = component_cut (codes "group") name one.state other.state (codes " sent " ++ left) (codes " sent " ++ right) refl refl
    (sym (group_is name one s) ∙ same ∙ group_is name other t) in
    let sent = number_cut one.sent other.sent (10 ∷ s) (10 ∷ t) in_one in_other refl refl (append_cancel_left (codes " sent ") left right stated.1) in (
      ap (λ v. let e : GroupEnd = record { state = v; sent = one.sent } in e) stated.0 ∙ ap (λ n. let e : GroupEnd = record { state = other.state; sent = n } in e) sent.0,
      tail_same 10 10 s t sent.1,
    )

writer_is : (name : List ℕ) (end : WriterEnd) (s : List ℕ) → writer_line name end ++ s
    ≡ component_text (codes "writer") name end.state ++ (count_text (length end.log) ++ (log_text end.log ++ (10 ∷ s)))
unfolding writer_line
writer_is name end s = simp append_assoc

-- a count follows a space
counted_stop : (n : ℕ) (s : List ℕ) → Stops is_visible (count_text n ++ s)
unfolding count_text
counted_stop n s = refl

pub writer_cut : (name : List ℕ) (one other : WriterEnd) (s t : List ℕ) → WriterHasNumbers one → WriterHasNumbers other
    → writer_line name one ++ s ≡ writer_line name other ++ t → (one ≡ other) × (s ≡ t)
writer_cut name one other s t in_one in_other same =
    let left = log_text one.log ++ (10 ∷ s) in
    let right = log_text other.log ++ (10 ∷ t) in
    let stated = component_cut (codes "writer") name one.state other.state (count_text (length one.log) ++ left) (count_text (length other.log) ++ right)
    (counted_stop (length one.log) left) (counted_stop (length other.log) right) (sym (writer_is name one s) ∙ same ∙ writer_is name other t) in
    let logged = log_cut one.log other.log s t (recursion_from_All EntryHasNumbers one.log in_one) (recursion_from_All EntryHasNumbers other.log in_other)
    (count_left (length one.log) (length other.log) left right stated.1) in (
      ap (λ v. let e : WriterEnd = record { state = v; log = one.log } in e) stated.0 ∙ ap (λ l. let e : WriterEnd = record { state = other.state; log = l } in e) logged.0,
      logged.1,
    )

read_group_is : (name : List ℕ) (end : ReadGroupEnd) (s : List ℕ) → read_group_line name end ++ s
    ≡ component_text (codes "readgroup") name end.state ++ (codes " taken" ++ (count_text end.taken ++ (causes_text end.causes ++ (10 ∷ s))))
unfolding read_group_line
read_group_is name end s = simp append_assoc

pub read_group_cut : (name : List ℕ) (one other : ReadGroupEnd) (s t : List ℕ) → ReadGroupHasNumbers one → ReadGroupHasNumbers other
    → read_group_line name one ++ s ≡ read_group_line name other ++ t → (one ≡ other) × (s ≡ t)
read_group_cut name one other s t in_one in_other same =
    let left = causes_text one.causes ++ (10 ∷ s) in
    let right = causes_text other.causes ++ (10 ∷ t) in
    let stated = component_cut (codes "readgroup") name one.state other.state (codes " taken" ++ (count_text one.taken ++ left)) (codes " taken" ++ (count_text other.taken ++ right)) refl refl
    (sym (read_group_is name one s) ∙ same ∙ read_group_is name other t) in
    let taken = count_cut one.taken other.taken left right in_one.taken in_other.taken
    (append_cancel_left (codes " taken") (count_text one.taken ++ left) (count_text other.taken ++ right) stated.1) in
    let counted = causes_cut one.causes other.causes s t in_one.places in_other.places
    (recursion_from_All IsNumber one.causes in_one.causes) (recursion_from_All IsNumber other.causes in_other.causes) taken.1 in (
      ap (λ v. let e : ReadGroupEnd = record { state = v; taken = one.taken; causes = one.causes } in e) stated.0
          ∙ ap (λ n. let e : ReadGroupEnd = record { state = other.state; taken = n; causes = one.causes } in e) taken.0
          ∙ ap (λ l. let e : ReadGroupEnd = record { state = other.state; taken = other.taken; causes = l } in e) counted.0,
      counted.1,
    )

five : (a b c d s : List ℕ) → a ++ b ++ c ++ d ++ (10 ∷ []) ++ s ≡ a ++ (b ++ (c ++ (d ++ (10 ∷ s))))
five a b c d s = simp append_assoc

gaps_is : (name : List ℕ) (breaks : ℕ) (recent : List Break) (s : List ℕ) → gaps_line name breaks recent ++ s
    ≡ codes "gaps " ++ (name ++ (count_text breaks ++ (breaks_text recent ++ (10 ∷ s))))
unfolding gaps_line
gaps_is name breaks recent s = five (codes "gaps ") name (count_text breaks) (breaks_text recent) s

pub gaps_cut : (name : List ℕ) (m n : ℕ) (one other : List Break) (s t : List ℕ) → IsNumber m → IsNumber n
    → AllByRecursion BreakHasNumbers one → AllByRecursion BreakHasNumbers other
    → gaps_line name m one ++ s ≡ gaps_line name n other ++ t → ((m ≡ n) × (one ≡ other)) × (s ≡ t)
gaps_cut name m n one other s t in_m in_n in_one in_other same =
    let left = breaks_text one ++ (10 ∷ s) in
    let right = breaks_text other ++ (10 ∷ t) in
    let named = append_cancel_left (codes "gaps ") (name ++ (count_text m ++ left)) (name ++ (count_text n ++ right))
    (sym (gaps_is name m one s) ∙ same ∙ gaps_is name n other t) in
    let counted = count_cut m n left right in_m in_n (append_cancel_left name (count_text m ++ left) (count_text n ++ right) named) in
    let listed = breaks_cut one other s t in_one in_other counted.1 in
    ((counted.0, listed.0), listed.1)

link_is : (link : LinkEnd) (s : List ℕ) → link_line link ++ s
    ≡ codes "link sent " ++ (decimal link.sent ++ (codes " failed " ++ (decimal link.failed ++ (codes " received " ++ (decimal link.received
    ++ (codes " broken " ++ (decimal link.broken ++ (codes " long " ++ (decimal link.long ++ (codes " limit " ++ (decimal link.limit ++ (10 ∷ s))))))))))))
unfolding link_line
link_is link s = simp append_assoc

-- it isn't the line of a watch
pub link_begins : (link : LinkEnd) (s : List ℕ) → Stops (λ byte. nat_eq byte 119) (link_line link ++ s)
link_begins link s = subst (Stops (λ byte. nat_eq byte 119)) (sym (link_is link s)) refl

-- a number and a word behind it
named_cut : (word : List ℕ) (m n : ℕ) (s t : List ℕ) → IsNumber m → IsNumber n → decimal m ++ (codes " " ++ (word ++ s)) ≡ decimal n ++ (codes " " ++ (word ++ t)) → (m ≡ n) × (s ≡ t)
named_cut word m n s t in_m in_n same =
    let parts = number_cut m n (32 ∷ (word ++ s)) (32 ∷ (word ++ t)) in_m in_n refl refl same in
    (parts.0, append_cancel_left word s t (tail_same 32 32 (word ++ s) (word ++ t) parts.1))

abbrev link_of : ℕ → ℕ → ℕ → ℕ → ℕ → ℕ → LinkEnd
link_of sent failed received broken long limit = record { sent = sent; failed = failed; received = received; broken = broken; long = long; limit = limit }

link_same : (a b c d e f g h i j k l : ℕ) → a ≡ b → c ≡ d → e ≡ f → g ≡ h → i ≡ j → k ≡ l → link_of a c e g i k ≡ link_of b d f h j l
link_same a b c d e f g h i j k l ab cd ef gh ij kl = rw (ab, cd, ef, gh, ij, kl) refl

pub link_cut : (one other : LinkEnd) (s t : List ℕ) → LinkHasNumbers one → LinkHasNumbers other → link_line one ++ s ≡ link_line other ++ t → (one ≡ other) × (s ≡ t)
link_cut one other s t in_one in_other same =
    let sent = named_cut (codes "failed ") one.sent other.sent _ _ in_one.sent in_other.sent (append_cancel_left (codes "link sent ") _ _ (sym (link_is one s) ∙ same ∙ link_is other t)) in
    let failed = named_cut (codes "received ") one.failed other.failed _ _ in_one.failed in_other.failed sent.1 in
    let received = named_cut (codes "broken ") one.received other.received _ _ in_one.received in_other.received failed.1 in
    let broken = named_cut (codes "long ") one.broken other.broken _ _ in_one.broken in_other.broken received.1 in
    let long = named_cut (codes "limit ") one.long other.long _ _ in_one.long in_other.long broken.1 in
    let limit = number_cut one.limit other.limit (10 ∷ s) (10 ∷ t) in_one.limit in_other.limit refl refl long.1 in
    let whole : link_of one.sent one.failed one.received one.broken one.long one.limit ≡ link_of other.sent other.failed other.received other.broken other.long other.limit =
    link_same one.sent other.sent one.failed other.failed one.received other.received one.broken other.broken one.long other.long one.limit other.limit
    sent.0 failed.0 received.0 broken.0 long.0 limit.0 in
    (whole, tail_same 10 10 s t limit.1)
