-- What the lists that a link keeps say of its journal, as it grows by one entry.
use Rattle.std.proofs.Common.{◌≡◌, ℕ, ◌<◌, ◌≤◌, List, [], ◌∷◌, ◌++◌, length, get_or, map, replicate, All, Contains, Option, Some, None, refl, sym, ap, ◌∙◌, subst, arith}
use Rattle.std.specs.List.{flat_map, filter_map}
use Rattle.std.specs.Option.{option_map}
use Rattle.std.proofs.lemmas.List.{append-nil, get_or_append_left, get_or_push, map-append}
use Rattle.std.proofs.lemmas.List.Elements.{All-head, All-push, All-same, All-tail, Contains-get_or, filter_map-append}
use Rattle.ua_base.specs.Journal.{Entry, Sent, SendFailed, Got, Empty, Long, ReceiveFailed, sent_datagram, received_datagram, sent_list}
use Rattle.ua_base.proofs.Honest.{honest_start, honest_after, sent_in}
use Rattle.mem_edge.specs.declared.mark.Answer.{Answer}
use Rattle.mem_edge.specs.declared.mark.Answer.TheVariants as answer
use Rattle.mem_edge.specs.declared.mark.Mark.{Mark}
use Rattle.mem_edge.specs.declared.mark.Source.{Source}
use Rattle.mem_edge.specs.declared.mark.Source.TheVariants as place
use Rattle.mem_edge.specs.Marks.{datagram_at, entry_of, marked, entries, reach_send, answer_injected, answer_sent, sends_at, IsWithin, IsMarkWithin, IsKept}
use Rattle.mem_edge.specs.Sends.{send_in}

-- ---- lists of what was sent that grow

-- a datagram stays where it was
pub datagram_more : (injected sent : List (List ℕ)) (d : List ℕ) (m n : ℕ) (p : Source) → n ≤ length sent → IsWithin m n p → datagram_at injected (sent ++ d ∷ []) p ≡ datagram_at injected sent p
datagram_more injected sent d m n (place.Injected i) le within = refl
datagram_more injected sent d m n (place.Sent i) le within = let lt : i < length sent = omega (arith, within.among_sent, le) in rw get_or_append_left refl

pub datagrams_more : (injected sent : List (List ℕ)) (d : List ℕ) (m n : ℕ) (ps : List Source) → n ≤ length sent → All (IsWithin m n) ps → map (datagram_at injected (sent ++ d ∷ [])) ps ≡ map (datagram_at injected sent) ps
datagrams_more injected sent d m n [] le all = refl
datagrams_more injected sent d m n (p ∷ ps) le all =
    rw (datagram_more injected sent d m n p le (All-head (IsWithin m n) p ps all), datagrams_more injected sent d m n ps le (All-tail (IsWithin m n) p ps all)) refl

send_more : (sent : List (List ℕ)) (d : List ℕ) (n : ℕ) (o : Option ℕ) → n ≤ length sent → reach_send o ≤ n → option_map (λ i. get_or (sent ++ d ∷ []) i []) o ≡ option_map (λ i. get_or sent i []) o
send_more sent d n None le within = refl
send_more sent d n (Some i) le within = let lt : i < length sent = omega arith in rw get_or_append_left refl

pub sends_more : (sent : List (List ℕ)) (d : List ℕ) (n : ℕ) (places : List (Option ℕ)) → n ≤ length sent → All (λ o. reach_send o ≤ n) places → sends_at (sent ++ d ∷ []) places ≡ sends_at sent places
sends_more sent d n [] le all = refl
sends_more sent d n (o ∷ places) le all =
    let P : Option ℕ → Type 0 = λ o. reach_send o ≤ n in
    rw (send_more sent d n o le (All-head P o places all), sends_more sent d n places le (All-tail P o places all)) refl

entry_more : (injected sent : List (List ℕ)) (d : List ℕ) (m n : ℕ) (mark : Mark) → n ≤ length sent → IsMarkWithin m n mark → entry_of (datagram_at injected (sent ++ d ∷ [])) mark.answer ≡ entry_of (datagram_at injected sent) mark.answer
entry_more injected sent d m n mark le within = at_answer mark.answer within.among_injected within.among_sent
  where
    at_answer : (a : Answer) → answer_injected a ≤ m → answer_sent a ≤ n → entry_of (datagram_at injected (sent ++ d ∷ [])) a ≡ entry_of (datagram_at injected sent) a
    at_answer (answer.Sent i) low high = let lt : i < length sent = omega arith in rw get_or_append_left refl
    at_answer answer.SendFailed low high = refl
    at_answer (answer.Got p) low high = ap (λ (x : List ℕ). Got x) (datagram_more injected sent d m n p le (record { among_injected = low; among_sent = high }))
    at_answer (answer.Long p) low high = ap (λ (x : List ℕ). Long (length x)) (datagram_more injected sent d m n p le (record { among_injected = low; among_sent = high }))
    at_answer answer.ReceiveFailed low high = refl

marks_more : (injected sent : List (List ℕ)) (d : List ℕ) (m n : ℕ) (marks : List Mark) → n ≤ length sent → All (IsMarkWithin m n) marks → flat_map (marked (datagram_at injected (sent ++ d ∷ []))) marks ≡ flat_map (marked (datagram_at injected sent)) marks
marks_more injected sent d m n [] le all = refl
marks_more injected sent d m n (mark ∷ marks) le all =
    rw (entry_more injected sent d m n mark le (All-head (IsMarkWithin m n) mark marks all), marks_more injected sent d m n marks le (All-tail (IsMarkWithin m n) mark marks all)) refl

-- the journal stays what it was where one more datagram is kept
pub entries_more : (injected sent : List (List ℕ)) (d : List ℕ) (m n first : ℕ) (marks : List Mark) → n ≤ length sent → All (IsMarkWithin m n) marks → entries (datagram_at injected (sent ++ d ∷ [])) first marks ≡ entries (datagram_at injected sent) first marks
entries_more injected sent d m n first marks le all = ap (λ (l : List Entry). replicate first Empty ++ l) (marks_more injected sent d m n marks le all)

-- a datagram that is kept was sent
pub kept_sent : (sent : List (List ℕ)) (journal : List Entry) → sent_list journal ≡ sent → (d : List ℕ) → Contains sent d → Contains journal (Sent d)
kept_sent sent journal order d there = sent_in journal d (subst (λ (l : List (List ℕ)). Contains l d) (sym order) there)

-- ---- one more entry

-- a mark whose datagram is kept
pub marked_more : (m n : ℕ) (marks more : List Mark) (a : Answer) → more ≡ marks ++ record { answer = a; nothings = 0 } ∷ [] → answer_injected a ≤ m → answer_sent a ≤ n → All (IsMarkWithin m n) marks → All (IsMarkWithin m n) more
marked_more m n marks more a is low high all =
    All-same (IsMarkWithin m n) more _ is (All-push (IsMarkWithin m n) marks (record { answer = a; nothings = 0 }) all (record { among_injected = low; among_sent = high }))

grown : {X : Type 0} (f : Entry → Option X) (before after : List Entry) (e : Entry) → after ≡ before ++ e ∷ [] → filter_map f after ≡ filter_map f before ++ filter_map f (e ∷ [])
grown f before after e is = ap (filter_map f) is ∙ filter_map-append f before (e ∷ [])

unmoved : {X : Type 0} (f : Entry → Option X) (before after : List Entry) (e : Entry) → after ≡ before ++ e ∷ [] → f e ≡ None → filter_map f after ≡ filter_map f before
unmoved f before after e is none = grown f before after e is ∙ rw none (append-nil (filter_map f before))

-- an answer that is no send, and brings no datagram
pub kept_other : (alone : Type 0) (injected sent : List (List ℕ)) (places : List (Option ℕ)) (received : List Source) (before after : List Entry) (e : Entry) → after ≡ before ++ e ∷ []
    → sent_datagram e ≡ None → send_in e ≡ None → received_datagram e ≡ None → ((d : List ℕ) → e ≡ Got d → ⊥) → IsKept alone injected sent places received before → IsKept alone injected sent places received after
kept_other alone injected sent places received before after e is no_sent no_send no_got no_entry k = record {
  order = unmoved sent_datagram before after e is no_sent ∙ k.order;
  numbered = unmoved send_in before after e is no_send ∙ k.numbered;
  got = unmoved received_datagram before after e is no_got ∙ k.got;
  honest = λ a. honest_after before after e is (λ d got. absurd (no_entry d got)) (k.honest a);
}

pub kept_empty : (alone : Type 0) (injected sent : List (List ℕ)) (places : List (Option ℕ)) (received : List Source) (before after : List Entry) → after ≡ before ++ Empty ∷ [] → IsKept alone injected sent places received before → IsKept alone injected sent places received after
kept_empty alone injected sent places received before after is k = kept_other alone injected sent places received before after Empty is refl refl refl (λ d got. cc) k

pub kept_long : (alone : Type 0) (injected sent : List (List ℕ)) (places : List (Option ℕ)) (received : List Source) (before after : List Entry) (n : ℕ) → after ≡ before ++ Long n ∷ [] → IsKept alone injected sent places received before → IsKept alone injected sent places received after
kept_long alone injected sent places received before after n is k = kept_other alone injected sent places received before after (Long n) is refl refl refl (λ d got. cc) k

pub kept_receive_failed : (alone : Type 0) (injected sent : List (List ℕ)) (places : List (Option ℕ)) (received : List Source) (before after : List Entry) → after ≡ before ++ ReceiveFailed ∷ [] → IsKept alone injected sent places received before → IsKept alone injected sent places received after
kept_receive_failed alone injected sent places received before after is k = kept_other alone injected sent places received before after ReceiveFailed is refl refl refl (λ d got. cc) k

-- a send that failed
pub kept_failed : (alone : Type 0) (injected sent : List (List ℕ)) (places more : List (Option ℕ)) (received : List Source) (before after : List Entry) → after ≡ before ++ SendFailed ∷ [] → more ≡ places ++ None ∷ []
    → IsKept alone injected sent places received before → IsKept alone injected sent more received after
kept_failed alone injected sent places more received before after is numbered k = record {
  order = unmoved sent_datagram before after SendFailed is refl ∙ k.order;
  numbered =
      grown send_in before after SendFailed is ∙ ap (λ (l : List (Option (List ℕ))). l ++ None ∷ []) k.numbered ∙ sym (ap (sends_at sent) numbered ∙ map-append (λ o. option_map (λ i. get_or sent i []) o) places (None ∷ []));
  got = unmoved received_datagram before after SendFailed is refl ∙ k.got;
  honest = λ a. honest_after before after SendFailed is (λ d got. cc) (k.honest a);
}

-- a datagram that is sent
pub kept_send : (alone : Type 0) (injected sent now : List (List ℕ)) (d : List ℕ) (m n : ℕ) (places more : List (Option ℕ)) (received : List Source) (before after : List Entry)
    → after ≡ before ++ Sent d ∷ [] → now ≡ sent ++ d ∷ [] → n ≡ length sent → more ≡ places ++ Some n ∷ [] → All (λ o. reach_send o ≤ n) places → All (IsWithin m n) received
    → IsKept alone injected sent places received before → IsKept alone injected now more received after
kept_send alone injected sent now d m n places more received before after is grew len numbered small within k = rw grew (record {
  order = grown sent_datagram before after (Sent d) is ∙ ap (λ (l : List (List ℕ)). l ++ d ∷ []) k.order;
  numbered =
      grown send_in before after (Sent d) is ∙ ap (λ (l : List (Option (List ℕ))). l ++ Some d ∷ []) (k.numbered ∙ sym (sends_more sent d n places (omega arith) small))
      ∙ sym (ap (sends_at (sent ++ d ∷ [])) numbered ∙ map-append (λ o. option_map (λ i. get_or (sent ++ d ∷ []) i []) o) places (Some n ∷ [])
      ∙ ap (λ (x : List ℕ). sends_at (sent ++ d ∷ []) places ++ Some x ∷ []) (get_or_push sent d [] n (sym len)));
  got = unmoved received_datagram before after (Sent d) is refl ∙ k.got ∙ sym (datagrams_more injected sent d m n received (omega arith) within);
  honest = λ a. honest_after before after (Sent d) is (λ e got. cc) (k.honest a);
})

-- a datagram that is received
pub kept_got : (alone : Type 0) (injected sent : List (List ℕ)) (places : List (Option ℕ)) (received more : List Source) (p : Source) (m n : ℕ) (before after : List Entry)
    → after ≡ before ++ Got (datagram_at injected sent p) ∷ [] → more ≡ received ++ p ∷ [] → IsWithin m n p → n ≤ length sent → (alone → m ≡ 0)
    → IsKept alone injected sent places received before → IsKept alone injected sent places more after
kept_got alone injected sent places received more p m n before after is grew within le none k = record {
  order = unmoved sent_datagram before after (Got (datagram_at injected sent p)) is refl ∙ k.order;
  numbered = unmoved send_in before after (Got (datagram_at injected sent p)) is refl ∙ k.numbered;
  got =
      grown received_datagram before after (Got (datagram_at injected sent p)) is ∙ ap (λ (l : List (List ℕ)). l ++ datagram_at injected sent p ∷ []) k.got
      ∙ sym (ap (λ (l : List Source). map (datagram_at injected sent) l) grew ∙ map-append (datagram_at injected sent) received (p ∷ []));
  honest = λ a. honest_after before after (Got (datagram_at injected sent p)) is (λ d got. was_sent a d p within (let same : datagram_at injected sent p ≡ d = cc in same)) (k.honest a);
}
  where
    was_sent : alone → (d : List ℕ) (q : Source) → IsWithin m n q → datagram_at injected sent q ≡ d → Contains before (Sent d)
    was_sent a d (place.Injected i) inside same = absurd (omega (arith, inside.among_injected, none a))
    was_sent a d (place.Sent i) inside same =
        kept_sent sent before k.order d (subst (λ (x : List ℕ). Contains sent x) same (Contains-get_or sent i [] (omega (arith, inside.among_sent, le))))

-- before the first entry
pub kept_none : (alone : Type 0) (injected sent : List (List ℕ)) (places : List (Option ℕ)) (received : List Source) (journal : List Entry) → sent ≡ [] → places ≡ [] → received ≡ [] → journal ≡ [] → IsKept alone injected sent places received journal
kept_none alone injected sent places received journal no_sent no_places no_received none = rw (no_sent, no_places, no_received, none) (record { order = refl; numbered = refl; got = refl; honest = λ a. ∣ honest_start ∣₁ })
