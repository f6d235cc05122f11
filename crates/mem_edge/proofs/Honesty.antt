-- What a link in memory without injected datagrams tells.
use Rattle.std.proofs.Common.{◌≡◌, ℕ, ◌≤◌, List, [], ◌∷◌, length, get_or, map, drop, All, Contains, Some, ap, subst, arith, Vec, vec_len}
use Rattle.std.specs.declared.alloc.Global.{Global}
use Rattle.std.proofs.lemmas.List.{length-map}
use Rattle.std.proofs.lemmas.List.Elements.{All-cons, All-drop, All-head, All-nil, All-tail, Contains-get_or}
use Rattle.ua_base.specs.Journal.{Entry, Sent, LinkState, IsHonest, sent_list}
use Rattle.ua_base.proofs.Honest.{honest_known}
use Rattle.mem_edge.specs.declared.mark.Source.{Source}
use Rattle.mem_edge.specs.declared.mark.Source.TheVariants as place
use Rattle.mem_edge.specs.declared.memory_link.MemoryLink.{MemoryLink}
use Rattle.mem_edge.specs.Contents.{bytes_of, injections}
use Rattle.mem_edge.specs.Transits.{journal_in, waiting_in}
use Rattle.mem_edge.specs.Marks.{datagram_at, IsWithin}
use Rattle.mem_edge.specs.MemoryLinks.{told_by, injected_by}
use Rattle.mem_edge.proofs.Comes.{injected_none, told_journal, told_waiting}
use Rattle.mem_edge.proofs.Kept.{kept_sent}

pub told_honest : (link : MemoryLink) (state : LinkState) → injected_by link ≡ [] → told_by link ≡ Some state → IsHonest state.journal
told_honest link state alone told =
    let transit = link.transit in
    subst IsHonest (told_journal transit.tells (journal_in transit) (waiting_in transit) state told) (honest_known (journal_in transit) (transit.kept.honest (injected_none transit.injected.items alone)))

one_waits : (injected sent : List (List ℕ)) (journal : List Entry) (m n : ℕ) (p : Source) → sent_list journal ≡ sent → m ≡ 0 → n ≤ length sent → IsWithin m n p → Contains journal (Sent (datagram_at injected sent p))
one_waits injected sent journal m n (place.Injected i) order none le within = absurd (omega (arith, within.among_injected, none))
one_waits injected sent journal m n (place.Sent i) order none le within = kept_sent sent journal order (get_or sent i []) (Contains-get_or sent i [] (omega (arith, within.among_sent, le)))

all_wait : (injected sent : List (List ℕ)) (journal : List Entry) (m n : ℕ) (ps : List Source) → sent_list journal ≡ sent → m ≡ 0 → n ≤ length sent → All (IsWithin m n) ps → All (λ d. Contains journal (Sent d)) (map (datagram_at injected sent) ps)
all_wait injected sent journal m n [] order none le within = All-nil (λ (d : List ℕ). Contains journal (Sent d))
all_wait injected sent journal m n (p ∷ ps) order none le within =
    All-cons (λ (d : List ℕ). Contains journal (Sent d)) (datagram_at injected sent p) (map (datagram_at injected sent) ps)
    (one_waits injected sent journal m n p order none le (All-head (IsWithin m n) p ps within)) (all_wait injected sent journal m n ps order none le (All-tail (IsWithin m n) p ps within))

pub told_waits : (link : MemoryLink) (state : LinkState) → injected_by link ≡ [] → told_by link ≡ Some state → All (λ (d : List ℕ). Contains state.journal (Sent d)) state.waiting
told_waits link state alone told =
    let transit = link.transit in
    let none : vec_len transit.injected ≡ 0 = omega (arith, transit.injected.ok.0, ap (λ (l : List (ℕ × Vec ℕ Global)). length l) (injected_none transit.injected.items alone)) in
    let waits = all_wait (map (λ p. p.1) (injections transit.injected.items)) (bytes_of transit.sent.items) (journal_in transit) (vec_len transit.injected) (vec_len transit.sent) (drop transit.next transit.queue.items) transit.kept.order none
    (omega (arith, length-map transit.sent.items (λ (d : Vec ℕ Global). d.items), transit.sent.ok.0)) (All-drop (IsWithin (vec_len transit.injected) (vec_len transit.sent)) transit.next transit.queue.items transit.queued) in
    subst (λ (journal : List Entry). All (λ (d : List ℕ). Contains journal (Sent d)) state.waiting) (told_journal transit.tells (journal_in transit) (waiting_in transit) state told)
    (subst (λ (waiting : List (List ℕ)). All (λ (d : List ℕ). Contains (journal_in transit) (Sent d)) waiting) (told_waiting transit.tells (journal_in transit) (waiting_in transit) state told) waits)
