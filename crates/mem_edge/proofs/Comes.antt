-- What a send queues, from the places that it adds to the queue.
use Rattle.std.proofs.Common.{◌≡◌, ℕ, zero, suc, ◌+◌, ◌<◌, ◌≤◌, Bool, true, false, List, [], ◌∷◌, ◌++◌, length, get_or, map, drop, replicate, All, Option, Some, None, refl, sym, ap, ◌∙◌, append_assoc, arith, take, Vec, add-one}
use Rattle.std.specs.Prelude.{slice_get, unwrap_or}
use Rattle.std.specs.List.{filter_map, cons_option}
use Rattle.std.specs.Option.{option_map}
use Rattle.std.proofs.lemmas.List.{append-nil, get_or_push, map-append, drop-append-le}
use Rattle.std.proofs.lemmas.List.Elements.{All-append, All-cons, All-drop, All-head, All-map, All-nil, All-replicate, All-tail, All-weaker}
use Rattle.std.proofs.lemmas.Simd.{map-map}
use Rattle.std.proofs.Math.Seq.{drop-cons}
use Rattle.std.proofs.lemmas.List.Elements.{filter_map-append}
use Rattle.std.proofs.lemmas.List.{take_more}
use Rattle.std.specs.declared.alloc.Global.{Global}
use Rattle.ua_base.specs.Journal.{Entry, Sent, Got, Long, LinkState, Tells, told_more}
use Rattle.ua_base.specs.Net.{Receives}
use Rattle.ua_base.specs.declared.link.Received.TheVariants as received
use Rattle.mem_edge.specs.Contents.{bytes_of, injections}
use Rattle.mem_edge.specs.declared.mark.Answer.TheVariants as answer
use Rattle.mem_edge.specs.declared.mark.Mark.{Mark}
use Rattle.mem_edge.specs.declared.mark.Source.{Source}
use Rattle.mem_edge.specs.declared.mark.Source.TheVariants as place
use Rattle.mem_edge.specs.Marks.{datagram_at, held_places, reach_send, sends_at, state_of, IsWithin, IsMarkWithin}
use Rattle.mem_edge.specs.Marks.{entries, entry_of}
use Rattle.mem_edge.proofs.Kept.{datagrams_more, entries_more}

-- what is told where the journal and what waits grew
pub state_more : (tells : Bool) (journal now es : List Entry) (waiting left more : List (List ℕ)) → now ≡ journal ++ es → left ≡ waiting ++ more → state_of tells now left ≡ told_more (state_of tells journal waiting) es more
state_more true journal now es waiting left more is grew = rw (is, grew) refl
state_more false journal now es waiting left more is grew = refl

-- the journal alone
pub state_entry : (tells : Bool) (journal now es : List Entry) (waiting left : List (List ℕ)) → now ≡ journal ++ es → left ≡ waiting → state_of tells now left ≡ told_more (state_of tells journal waiting) es []
state_entry tells journal now es waiting left is same = state_more tells journal now es waiting left [] is (same ∙ sym (append-nil waiting))

-- ---- places within more lists

pub within_more : (m n k : ℕ) → n ≤ k → (p : Source) → IsWithin m n p → IsWithin m k p
within_more m n k le p h = record { among_injected = h.among_injected; among_sent = omega (arith, h.among_sent, le) }

pub mark_within_more : (m n k : ℕ) → n ≤ k → (marks : List Mark) → All (IsMarkWithin m n) marks → All (IsMarkWithin m k) marks
mark_within_more m n k le marks all = All-weaker (IsMarkWithin m n) (IsMarkWithin m k) (λ x h. record { among_injected = h.among_injected; among_sent = omega (arith, h.among_sent, le) }) marks all

pub places_more : (m n k : ℕ) → n ≤ k → (ps : List Source) → All (IsWithin m n) ps → All (IsWithin m k) ps
places_more m n k le ps all = All-weaker (IsWithin m n) (IsWithin m k) (within_more m n k le) ps all

pub numbered_more : (n k : ℕ) → n ≤ k → (places : List (Option ℕ)) → All (λ o. reach_send o ≤ n) places → All (λ o. reach_send o ≤ k) places
numbered_more n k le places all = All-weaker (λ (o : Option ℕ). reach_send o ≤ n) (λ (o : Option ℕ). reach_send o ≤ k) (λ o h. omega arith) places all

-- a place of a send is one of the list
place_in : (n : ℕ) (places : List (Option ℕ)) (i : ℕ) → All (λ o. reach_send o ≤ n) places → reach_send (unwrap_or (slice_get places i) None) ≤ n
place_in n [] i all = omega arith
place_in n (o ∷ places) zero all = All-head (λ (x : Option ℕ). reach_send x ≤ n) o places all
place_in n (o ∷ places) (suc i) all = place_in n places i (All-tail (λ (x : Option ℕ). reach_send x ≤ n) o places all)

one_held : (m n : ℕ) (o : Option ℕ) (ps : List Source) → reach_send o ≤ n → All (IsWithin m n) ps → All (IsWithin m n) (cons_option (option_map place.Sent o) ps)
one_held m n None ps le all = all
one_held m n (Some i) ps le all = All-cons (IsWithin m n) (place.Sent i) ps (record { among_injected = omega arith; among_sent = le }) all

held_within : (m n : ℕ) (places : List (Option ℕ)) (held : List (ℕ × ℕ)) → All (λ o. reach_send o ≤ n) places → All (IsWithin m n) (held_places places held)
held_within m n places [] all = All-nil (IsWithin m n)
held_within m n places (h ∷ held) all = one_held m n (unwrap_or (slice_get places h.1) None) (held_places places held) (place_in n places h.1 all) (held_within m n places held all)

-- the whole queue, after a send
pub queue_within : (m n k copies : ℕ) (queue : List Source) (places : List (Option ℕ)) (held injected : List (ℕ × ℕ)) → k ≡ n + 1 → All (IsWithin m n) queue → All (λ o. reach_send o ≤ n) places → All (λ p. p.1 < m) injected
    → All (IsWithin m k) (queue ++ replicate copies (place.Sent n) ++ held_places places held ++ map (λ p. place.Injected p.1) injected)
queue_within m n k copies queue places held injected len old small low =
    let P : Source → Type 0 = IsWithin m k in
    All-append P _ _
    (All-append P _ _
    (All-append P queue _ (places_more m n k (omega arith) queue old) (All-replicate P copies (place.Sent n) (record { among_injected = omega arith; among_sent = omega arith })))
    (places_more m n k (omega arith) _ (held_within m n places held small)))
    (All-map P (λ (p : ℕ × ℕ). place.Injected p.1) injected (All-weaker (λ (p : ℕ × ℕ). p.1 < m) (λ (p : ℕ × ℕ). P (place.Injected p.1)) (λ p lt. record { among_injected = omega arith; among_sent = omega arith }) injected low))

-- ---- and what they show

shown_copies : (f : Source → List ℕ) (p : Source) (d : List ℕ) (copies : ℕ) → f p ≡ d → map f (replicate copies p) ≡ replicate copies d
shown_copies f p d zero is = refl
shown_copies f p d (suc copies) is = rw (is, shown_copies f p d copies is) refl

one_shown : (injected sent : List (List ℕ)) (o : Option ℕ) (ps : List Source) → map (datagram_at injected sent) (cons_option (option_map place.Sent o) ps) ≡ cons_option (option_map (λ i. get_or sent i []) o) (map (datagram_at injected sent) ps)
one_shown injected sent None ps = refl
one_shown injected sent (Some i) ps = refl

-- where a send has no datagram, so has its place none
joined : (sent : List (List ℕ)) (places : List (Option ℕ)) (i : ℕ) → unwrap_or (slice_get (sends_at sent places) i) None ≡ option_map (λ i. get_or sent i []) (unwrap_or (slice_get places i) None)
joined sent [] i = refl
joined sent (o ∷ places) zero = refl
joined sent (o ∷ places) (suc i) = joined sent places i

pub held_shown : (injected sent : List (List ℕ)) (places : List (Option ℕ)) (held : List (ℕ × ℕ)) → map (datagram_at injected sent) (held_places places held) ≡ filter_map (λ h. unwrap_or (slice_get (sends_at sent places) h.1) None) held
held_shown injected sent places [] = refl
held_shown injected sent places (h ∷ held) =
    one_shown injected sent (unwrap_or (slice_get places h.1) None) (held_places places held)
    ∙ rw (held_shown injected sent places held, joined sent places h.1) refl

-- what waits after a send
pub waiting_more : (injected sent now : List (List ℕ)) (d : List ℕ) (m n next copies : ℕ) (queue later : List Source) (places : List (Option ℕ)) (sends : List (Option (List ℕ))) (held run : List (ℕ × ℕ))
    → now ≡ sent ++ d ∷ [] → n ≡ length sent → next ≤ length queue → later ≡ queue ++ replicate copies (place.Sent n) ++ held_places places held ++ map (λ p. place.Injected p.1) run
    → All (IsWithin m n) queue → All (λ o. reach_send o ≤ n) places → sends ≡ sends_at sent places
    → map (datagram_at injected now) (drop next later)
    ≡ map (datagram_at injected sent) (drop next queue) ++ (replicate copies d ++ filter_map (λ h. unwrap_or (slice_get sends h.1) None) held ++ map (λ p. datagram_at injected sent (place.Injected p.1)) run)
waiting_more injected sent now d m n next copies queue later places sends held run grew len le is within small numbered =
    let shown : Source → List ℕ = datagram_at injected (sent ++ d ∷ []) in
    let own : List Source = replicate copies (place.Sent n) in
    let heard : List Source = held_places places held in
    let others : List Source = map (λ (p : ℕ × ℕ). place.Injected p.1) run in
    let parted : drop next later ≡ drop next queue ++ (own ++ heard ++ others) =
    ap (drop next) (is ∙ ap (λ (l : List Source). l ++ others) (append_assoc queue own heard) ∙ append_assoc queue (own ++ heard) others) ∙ drop-append-le next queue (own ++ heard ++ others) le in
    let waits : map shown (drop next queue) ≡ map (datagram_at injected sent) (drop next queue) = datagrams_more injected sent d m n (drop next queue) (omega arith) (All-drop (IsWithin m n) next queue within) in
    let copied : map shown own ≡ replicate copies d = shown_copies shown (place.Sent n) d copies (get_or_push sent d [] n (sym len)) in
    let kept : map shown heard ≡ map (datagram_at injected sent) heard = datagrams_more injected sent d m n heard (omega arith) (held_within m n places held small) in
    let fed : map shown others ≡ map (λ (p : ℕ × ℕ). datagram_at injected sent (place.Injected p.1)) run = map-map shown (λ (p : ℕ × ℕ). place.Injected p.1) run in
    rw grew (ap (map shown) parted ∙ map-append shown (drop next queue) (own ++ heard ++ others) ∙ rw (map-append, map-append, waits, copied, kept, fed) (rw numbered (rw (held_shown injected sent places held) refl)))

-- ---- the lists as they are kept

-- one more datagram
pub bytes_more : (sent now : List (Vec ℕ Global)) (v : Vec ℕ Global) (d : List ℕ) → now ≡ sent ++ v ∷ [] → v.items ≡ d → bytes_of now ≡ bytes_of sent ++ d ∷ []
bytes_more sent now v d is same = ap bytes_of is ∙ map-append (λ (x : Vec ℕ Global). x.items) sent (v ∷ []) ∙ ap (λ (x : List ℕ). bytes_of sent ++ x ∷ []) same

-- the bytes of an injected datagram
pub injected_get : (injected : List (ℕ × Vec ℕ Global)) (i : ℕ) (d : ℕ × Vec ℕ Global) → i < length injected → get_or (map (λ p. p.1) (injections injected)) i [] ≡ (get_or injected i d).1.items
injected_get [] i d lt = absurd (omega arith)
injected_get (x ∷ injected) zero d lt = refl
injected_get (x ∷ injected) (suc i) d lt = injected_get injected i d (omega arith)

pub injected_none : (injected : List (ℕ × Vec ℕ Global)) → injections injected ≡ [] → injected ≡ []
injected_none [] none = refl
injected_none (x ∷ injected) none = cc

-- the journal with the entry of a datagram that is sent
pub journal_sent : (injected sent now : List (List ℕ)) (d : List ℕ) (m n first : ℕ) (marks more : List Mark) → now ≡ sent ++ d ∷ [] → n ≡ length sent → All (IsMarkWithin m n) marks
    → ((shown : Source → List ℕ) (k : ℕ) → entries shown k more ≡ entries shown k marks ++ entry_of shown (answer.Sent n) ∷ [])
    → entries (datagram_at injected now) first more ≡ entries (datagram_at injected sent) first marks ++ Sent d ∷ []
journal_sent injected sent now d m n first marks more grew len within entry =
    rw grew (entry (datagram_at injected (sent ++ d ∷ [])) first ∙ rw (entries_more injected sent d m n first marks (omega arith) within, get_or_push sent d [] n (sym len)) refl)

-- what is told is the journal that is kept, and what waits
pub told_journal : (tells : Bool) (journal : List Entry) (waiting : List (List ℕ)) (state : LinkState) → state_of tells journal waiting ≡ Some state → journal ≡ state.journal
told_journal true journal waiting state is = ap (λ (w : LinkState). w.journal) (let same : record { journal = journal; waiting = waiting } ≡ state = cc in same)
told_journal false journal waiting state is = cc

pub told_waiting : (tells : Bool) (journal : List Entry) (waiting : List (List ℕ)) (state : LinkState) → state_of tells journal waiting ≡ Some state → waiting ≡ state.waiting
told_waiting true journal waiting state is = ap (λ (w : LinkState). w.waiting) (let same : record { journal = journal; waiting = waiting } ≡ state = cc in same)
told_waiting false journal waiting state is = cc

-- nothing is told, whatever is kept
pub none_told : (tells : Bool) (journal now : List Entry) (waiting left : List (List ℕ)) → state_of tells now left ≡ None → state_of tells journal waiting ≡ None
none_told true journal now waiting left none = cc
none_told false journal now waiting left none = refl

-- the first that waits
pub waiting_taken : (shown : Source → List ℕ) (queue : List Source) (next : ℕ) (p : Source) → next < length queue → p ≡ get_or queue next p → map shown (drop next queue) ≡ shown p ∷ map shown (drop (next + 1) queue)
waiting_taken shown queue next p lt is = ap (map shown) (drop-cons queue next p lt) ∙ rw (add-one, ← is) refl

-- and is received, or dropped since it is too long
pub tells_got : (tells : Bool) (journal now : List Entry) (waiting left : List (List ℕ)) (bytes : List ℕ) (n : ℕ) (into : List ℕ) → now ≡ journal ++ Got bytes ∷ [] → waiting ≡ bytes ∷ left → take n into ≡ bytes
    → Tells (state_of tells journal waiting) (state_of tells now left) (Receives (received.Datagram n) into)
tells_got true journal now waiting left bytes n into is first same = (record { journal = journal; waiting = waiting }, refl, (rw same is, rw same first))
tells_got false journal now waiting left bytes n into is first same = tt

pub tells_long : (tells : Bool) (journal now : List Entry) (waiting left : List (List ℕ)) (bytes : List ℕ) (n : ℕ) (into : List ℕ) → now ≡ journal ++ Long (length bytes) ∷ [] → waiting ≡ bytes ∷ left → length bytes ≡ n
    → Tells (state_of tells journal waiting) (state_of tells now left) (Receives (received.Long n) into)
tells_long true journal now waiting left bytes n into is first len = (record { journal = journal; waiting = waiting }, refl, (is ∙ ap (λ (k : ℕ). journal ++ Long k ∷ []) len, bytes, len, first))
tells_long false journal now waiting left bytes n into is first len = tt

-- one more held datagram
pub held_more : (places : List (Option ℕ)) (held : List (ℕ × ℕ)) (i : ℕ) (d : ℕ × ℕ) → i < length held
    → held_places places (take (i + 1) held) ≡ held_places places (take i held) ++ cons_option (option_map place.Sent (unwrap_or (slice_get places (get_or held i d).1) None)) []
held_more places held i d lt =
    ap (held_places places) (take_more held i d lt) ∙ filter_map-append (λ (h : ℕ × ℕ). option_map place.Sent (unwrap_or (slice_get places h.1) None)) (take i held) (get_or held i d ∷ [])
