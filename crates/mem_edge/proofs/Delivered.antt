-- What was taken and what waits is what the sends queue.
use Rattle.std.proofs.Common.{◌≡◌, ℕ, Bool, true, false, List, [], ◌∷◌, ◌++◌, length, cond, Option, Some, None, refl, sym, ap, ◌∙◌, subst, append_assoc}
use Rattle.std.specs.Prelude.{nat_le, fold, map}
use Rattle.std.proofs.lemmas.List.{append-nil}
use Rattle.std.proofs.lemmas.List.Elements.{filter_map-append}
use Rattle.ua_base.specs.Journal.{Entry, Sent, SendFailed, Got, Empty, Long, ReceiveFailed, LinkState}
use Rattle.mem_edge.specs.Calls.{is_named}
use Rattle.mem_edge.specs.Queueing.{queued_by}
use Rattle.mem_edge.specs.Sends.{send_in, sends_in}
use Rattle.mem_edge.specs.Standings.{Settings, Call, Send, Unsent, Receive, Standing, after_call, at_opening, call_of, first_taken, state_sent, state_received, standing_of, IsFated, queued_from, queued_in, AreTaken, IsDelivered}

-- one entry more, which took these
taken_more : (journal : List Entry) (taken : List (List ℕ)) (entry : Entry) (more : List (List ℕ)) → AreTaken (entry ∷ []) more → AreTaken journal taken → AreTaken (journal ++ entry ∷ []) (taken ++ more)
taken_more [] taken entry more h none = subst (λ (l : List (List ℕ)). AreTaken (entry ∷ []) (l ++ more)) (sym none) h
taken_more (Got d ∷ journal) [] entry more h all = absurd all
taken_more (Got d ∷ journal) (first ∷ taken) entry more h all = (all.0, taken_more journal taken entry more h all.1)
taken_more (Long n ∷ journal) [] entry more h all = absurd all
taken_more (Long n ∷ journal) (first ∷ taken) entry more h all = (all.0, taken_more journal taken entry more h all.1)
taken_more (Sent d ∷ journal) taken entry more h all = taken_more journal taken entry more h all
taken_more (SendFailed ∷ journal) taken entry more h all = taken_more journal taken entry more h all
taken_more (Empty ∷ journal) taken entry more h all = taken_more journal taken entry more h all
taken_more (ReceiveFailed ∷ journal) taken entry more h all = taken_more journal taken entry more h all

-- one send more
queued_more : (settings : Settings) (before sends : List (Option (List ℕ))) (datagram : List ℕ)
    → queued_from settings before (sends ++ Some datagram ∷ []) ≡ queued_from settings before sends ++ queued_by settings.fates settings.making.injected (before ++ sends) datagram
queued_more settings before [] datagram =
    append-nil (queued_by settings.fates settings.making.injected before datagram) ∙ ap (λ (l : List (Option (List ℕ))). queued_by settings.fates settings.making.injected l datagram) (sym (append-nil before))
queued_more settings before (None ∷ sends) datagram =
    queued_more settings (before ++ None ∷ []) sends datagram
    ∙ ap (λ (l : List (Option (List ℕ))). queued_from settings (before ++ None ∷ []) sends ++ queued_by settings.fates settings.making.injected l datagram) (append_assoc before (None ∷ []) sends)
queued_more settings before (Some first ∷ sends) datagram =
    let own : List (List ℕ) = queued_by settings.fates settings.making.injected before first in
    let rest : List (List ℕ) = queued_from settings (before ++ Some first ∷ []) sends in
    ap (λ (l : List (List ℕ)). own ++ l) (queued_more settings (before ++ Some first ∷ []) sends datagram)
    ∙ sym (append_assoc own rest (queued_by settings.fates settings.making.injected ((before ++ Some first ∷ []) ++ sends) datagram))
    ∙ ap (λ (l : List (Option (List ℕ))). (own ++ rest) ++ queued_by settings.fates settings.making.injected l datagram) (append_assoc before (Some first ∷ []) sends)

queued_failed : (settings : Settings) (before sends : List (Option (List ℕ))) → queued_from settings before (sends ++ None ∷ []) ≡ queued_from settings before sends
queued_failed settings before [] = refl
queued_failed settings before (None ∷ sends) = queued_failed settings (before ++ None ∷ []) sends
queued_failed settings before (Some first ∷ sends) =
    ap (λ (l : List (List ℕ)). queued_by settings.fates settings.making.injected before first ++ l) (queued_failed settings (before ++ Some first ∷ []) sends)

queued_same : (settings : Settings) (journal : List Entry) (entry : Entry) → sends_in (entry ∷ []) ≡ [] → queued_in settings (journal ++ entry ∷ []) ≡ queued_in settings journal
queued_same settings journal entry none =
    ap (queued_from settings []) (filter_map-append send_in journal (entry ∷ []) ∙ ap (λ (l : List (Option (List ℕ))). sends_in journal ++ l) none ∙ append-nil (sends_in journal))

-- ---- one call more

-- an entry of no send that took nothing
delivered_quiet : (settings : Settings) (state : LinkState) (entry : Entry) → IsDelivered settings state → sends_in (entry ∷ []) ≡ [] → AreTaken (entry ∷ []) []
    → IsDelivered settings (record { journal = state.journal ++ entry ∷ []; waiting = state.waiting })
delivered_quiet settings state entry d none quiet = record {
  taken = d.taken ++ [];
  are_taken = taken_more state.journal d.taken entry [] quiet d.are_taken;
  all = ap (λ (l : List (List ℕ)). l ++ state.waiting) (append-nil d.taken) ∙ d.all ∙ sym (queued_same settings state.journal entry none);
}

-- an entry that took the first
delivered_first : (settings : Settings) (journal : List Entry) (first : List ℕ) (waiting : List (List ℕ)) (entry : Entry) → IsDelivered settings (record { journal = journal; waiting = first ∷ waiting })
    → sends_in (entry ∷ []) ≡ [] → AreTaken (entry ∷ []) (first ∷ []) → IsDelivered settings (record { journal = journal ++ entry ∷ []; waiting = waiting })
delivered_first settings journal first waiting entry d none took = record {
  taken = d.taken ++ first ∷ [];
  are_taken = taken_more journal d.taken entry (first ∷ []) took d.are_taken;
  all = append_assoc d.taken (first ∷ []) waiting ∙ d.all ∙ sym (queued_same settings journal entry none);
}

delivered_by : (settings : Settings) (journal : List Entry) (first : List ℕ) (waiting : List (List ℕ)) (fits : Bool) → IsDelivered settings (record { journal = journal; waiting = first ∷ waiting })
    → IsDelivered settings (record { journal = journal ++ cond fits (Got first) (Long (length first)) ∷ []; waiting = waiting })
delivered_by settings journal first waiting true d = delivered_first settings journal first waiting (Got first) d refl (refl, refl)
delivered_by settings journal first waiting false d = delivered_first settings journal first waiting (Long (length first)) d refl (refl, refl)

delivered_taken : (settings : Settings) (room : ℕ) (journal : List Entry) (waiting : List (List ℕ)) → IsDelivered settings (record { journal = journal; waiting = waiting }) → IsDelivered settings (first_taken room journal waiting)
delivered_taken settings room journal [] d = delivered_quiet settings (record { journal = journal; waiting = [] }) Empty d refl refl
delivered_taken settings room journal (first ∷ waiting) d = delivered_by settings journal first waiting (nat_le (length first) room) d

delivered_received : (settings : Settings) (state : LinkState) (room : ℕ) (fails : Bool) → IsDelivered settings state
    → IsDelivered settings (cond fails (record { journal = state.journal ++ ReceiveFailed ∷ []; waiting = state.waiting }) (first_taken room state.journal state.waiting))
delivered_received settings state room true d = delivered_quiet settings state ReceiveFailed d refl refl
delivered_received settings state room false d = delivered_taken settings room state.journal state.waiting d

delivered_sent : (settings : Settings) (state : LinkState) (datagram : List ℕ) (fails : Bool) → IsDelivered settings state
    → IsDelivered settings (cond fails (record { journal = state.journal ++ SendFailed ∷ []; waiting = state.waiting }) (record { journal = state.journal ++ Sent datagram ∷ []; waiting = state.waiting ++ queued_by settings.fates settings.making.injected (sends_in state.journal) datagram }))
delivered_sent settings state datagram true d = record {
  taken = d.taken ++ [];
  are_taken = taken_more state.journal d.taken SendFailed [] refl d.are_taken;
  all = ap (λ (l : List (List ℕ)). l ++ state.waiting) (append-nil d.taken) ∙ d.all
      ∙ sym (ap (queued_from settings []) (filter_map-append send_in state.journal (SendFailed ∷ [])) ∙ queued_failed settings [] (sends_in state.journal));
}
delivered_sent settings state datagram false d =
    let more : List (List ℕ) = queued_by settings.fates settings.making.injected (sends_in state.journal) datagram in
    record {
      taken = d.taken ++ [];
      are_taken = taken_more state.journal d.taken (Sent datagram) [] refl d.are_taken;
      all = ap (λ (l : List (List ℕ)). l ++ (state.waiting ++ more)) (append-nil d.taken) ∙ sym (append_assoc d.taken state.waiting more) ∙ ap (λ (l : List (List ℕ)). l ++ more) d.all
          ∙ sym (ap (queued_from settings []) (filter_map-append send_in state.journal (Sent datagram ∷ [])) ∙ queued_more settings [] (sends_in state.journal) datagram);
    }

delivered_call : (settings : Settings) (standing : Standing) (call : Call) → IsDelivered settings standing.state → IsDelivered settings (after_call settings standing call).state
delivered_call settings standing (Send datagram) d = delivered_sent settings standing.state datagram (is_named settings.making.send_fails (length (sends_in standing.state.journal))) d
delivered_call settings standing (Unsent datagram) d = d
delivered_call settings standing (Receive room) d = delivered_received settings standing.state room (is_named settings.making.receive_fails standing.receives) d

delivered_after : (settings : Settings) (calls : List Call) (standing : Standing) → IsDelivered settings standing.state → IsDelivered settings (fold (after_call settings) standing calls).state
delivered_after settings [] standing d = d
delivered_after settings (call ∷ calls) standing d = delivered_after settings calls (after_call settings standing call) (delivered_call settings standing call d)

pub fated-delivers : (settings : Settings) (state : LinkState) → IsFated settings state → IsDelivered settings state
fated-delivers settings state fated =
    subst (IsDelivered settings) fated (delivered_after settings (map call_of state.journal) at_opening (record { taken = []; are_taken = refl; all = refl }))
