-- What a link in memory tells follows from its calls.
use Rattle.std.proofs.Common.{◌≡◌, ◌≢◌, ℕ, ◌<◌, ◌≤◌, Bool, true, false, IsTrue, List, [], ◌∷◌, ◌++◌, length, take, cond, Option, Some, None, refl, sym, ap, ◌∙◌, subst, arith}
use Rattle.std.specs.Prelude.{nat_le, fold}
use Rattle.std.proofs.lemmas.Bool.Decides.{nat_tests}
use Rattle.std.proofs.lemmas.List.{append-nil, length-take-le}
use Rattle.ua_base.specs.declared.link.Fate.{Fate}
use Rattle.ua_base.specs.declared.link.Received.{Received}
use Rattle.ua_base.specs.declared.link.Received.TheVariants as received
use Rattle.ua_base.specs.declared.link.Sent.{Sent as SentEnd}
use Rattle.ua_base.specs.declared.link.Sent.TheVariants as sent
use Rattle.ua_base.specs.Journal.{Entry, Sent, SendFailed, Got, Empty, Long, ReceiveFailed, LinkState, Tells, told_more}
use Rattle.ua_base.specs.Links.{Making}
use Rattle.ua_base.specs.Net.{Receives}
use Rattle.ua_base.proofs.Told.{Tells-between, Tells-at}
use Rattle.mem_edge.specs.declared.memory_link.MemoryLink.{MemoryLink}
use Rattle.mem_edge.specs.Calls.{is_named, next_call}
use Rattle.mem_edge.specs.Transits.{journal_in, waiting_in}
use Rattle.mem_edge.specs.MemoryLinks.{told_by, journal_of, fates_of, injected_by, named_sends, made_by, receives_made, fails_receiving, SendsInMemory}
use Rattle.mem_edge.specs.Queueing.{queued_by}
use Rattle.mem_edge.specs.Runs.{settings_of, AnswersSend, AnswersReceive, Answers, AnswersAll}
use Rattle.mem_edge.specs.Standings.{Settings, Call, Send, Unsent, Receive, Standing, state_sent, state_received, first_taken, after_call}
use Rattle.mem_edge.specs.Sends.{sends_in}
use Rattle.mem_edge.proofs.Comes.{told_journal}

-- the settings stay
settings_same : (old new : MemoryLink) → made_by new ≡ made_by old → fates_of new ≡ fates_of old → settings_of new ≡ settings_of old
settings_same old new kept fates =
    ap (λ (f : List (ℕ × Fate)). record { making = made_by new; fates = f }) fates ∙ ap (λ (m : Making). record { making = m; fates = fates_of old }) kept

-- ---- a send

state_more_at : (told : Option LinkState) (state : LinkState) (es : List Entry) (more : List (List ℕ)) → told ≡ Some state → told_more told es more ≡ Some (record { journal = state.journal ++ es; waiting = state.waiting ++ more })
state_more_at told state es more is = rw is refl

one_state : (told : Option LinkState) (a b : LinkState) → told ≡ Some a → told ≡ Some b → a ≡ b
one_state told a b first second = let both : Some a ≡ Some b = sym first ∙ second in cc

state_is : (w : LinkState) (journal : List Entry) (waiting : List (List ℕ)) → w.journal ≡ journal → w.waiting ≡ waiting → w ≡ record { journal = journal; waiting = waiting }
state_is w journal waiting is same = ap (λ (j : List Entry). record { journal = j; waiting = w.waiting }) is ∙ ap (λ (l : List (List ℕ)). record { journal = journal; waiting = l }) same

is_false : (b : Bool) → (IsTrue b → ⊥) → b ≡ false
is_false true not_so = absurd (not_so refl)
is_false false not_so = refl

send_step : (result : SentEnd) (old new : MemoryLink) (datagram : List ℕ) (before after : LinkState) → told_by old ≡ Some before → told_by new ≡ Some after → result ≢ sent.Memory → AnswersSend datagram result old new → after ≡ state_sent (settings_of old) datagram before
send_step sent.Done old new datagram before after start end real a =
    let same : journal_of old ≡ before.journal = told_journal old.transit.tells (journal_in old.transit) (waiting_in old.transit) before start in
    let more : List Entry → List (List ℕ) = λ journal. queued_by (fates_of old) (injected_by old) (sends_in journal) datagram in
    let done : List Entry → LinkState = λ journal. record { journal = before.journal ++ Sent datagram ∷ []; waiting = before.waiting ++ more journal } in
    let told : told_by new ≡ Some (done (journal_of old)) = a.adds.0 ∙ state_more_at (told_by old) before (Sent datagram ∷ []) (more (journal_of old)) start in
    let test : is_named (named_sends old) (length (sends_in before.journal)) ≡ false = ap (λ (j : List Entry). is_named (named_sends old) (length (sends_in j))) (sym same) ∙ a.done refl in
    one_state (told_by new) after (done (journal_of old)) end told ∙ ap done same
    ∙ sym (ap (λ (b : Bool). cond b (record { journal = before.journal ++ SendFailed ∷ []; waiting = before.waiting }) (done before.journal)) test)
send_step sent.Failed old new datagram before after start end real a =
    let same : journal_of old ≡ before.journal = told_journal old.transit.tells (journal_in old.transit) (waiting_in old.transit) before start in
    let failed : LinkState = record { journal = before.journal ++ SendFailed ∷ []; waiting = before.waiting ++ [] } in
    let lost : LinkState = record { journal = before.journal ++ SendFailed ∷ []; waiting = before.waiting } in
    let told : told_by new ≡ Some failed = a.adds.0 ∙ state_more_at (told_by old) before (SendFailed ∷ []) [] start in
    let test : is_named (named_sends old) (length (sends_in before.journal)) ≡ true = ap (λ (j : List Entry). is_named (named_sends old) (length (sends_in j))) (sym same) ∙ a.failed refl in
    one_state (told_by new) after failed end told ∙ ap (λ (l : List (List ℕ)). record { journal = before.journal ++ SendFailed ∷ []; waiting = l }) (append-nil before.waiting)
    ∙ sym (ap (λ (b : Bool). cond b lost (record { journal = before.journal ++ Sent datagram ∷ []; waiting = before.waiting ++ queued_by (fates_of old) (injected_by old) (sends_in before.journal) datagram })) test)
send_step sent.Memory old new datagram before after start end real a = absurd (real refl)

-- ---- a receive

within_room : (n : ℕ) (into : List ℕ) → n ≤ length into → nat_le (length (take n into)) (length into) ≡ true
within_room n into le = let len : length (take n into) ≡ n = length-take-le n into le in grind (arith, nat_tests, len)

over_room : (lost into : List ℕ) (n : ℕ) → length lost ≡ n → length into < n → nat_le (length lost) (length into) ≡ false
over_room lost into n len lt = grind (arith, nat_tests)

unfailed : (settings : Settings) (number room : ℕ) (before : LinkState) → is_named settings.making.receive_fails number ≡ false → state_received settings number room before ≡ first_taken room before.journal before.waiting
unfailed settings number room before not_named = rw not_named refl

receive_step : (result : Received) (into : List ℕ) (old new : MemoryLink) (before after : LinkState) → told_by old ≡ Some before → told_by new ≡ Some after → AnswersReceive result into old new → after ≡ state_received (settings_of old) (receives_made old) (length into) before
receive_step (received.Datagram n) into old new before after start end a =
    let did : Receives (received.Datagram n) into before after = Tells-between before after (told_by old) (told_by new) (Receives (received.Datagram n) into) start end a.entry in
    let not_named : fails_receiving old ≡ false = is_false (fails_receiving old) (λ named. let is : received.Datagram n ≡ received.Failed = a.failed.1 named in cc) in
    state_is after (before.journal ++ Got (take n into) ∷ []) after.waiting did.0 refl
    ∙ sym (unfailed (settings_of old) (receives_made old) (length into) before not_named
    ∙ ap (first_taken (length into) before.journal) did.1
    ∙ ap (λ (b : Bool). record { journal = before.journal ++ cond b (Got (take n into)) (Long (length (take n into))) ∷ []; waiting = after.waiting }) (within_room n into a.sizes))
receive_step received.Nothing into old new before after start end a =
    let did : Receives received.Nothing into before after = Tells-between before after (told_by old) (told_by new) (Receives received.Nothing into) start end a.entry in
    let not_named : fails_receiving old ≡ false = is_false (fails_receiving old) (λ named. let is : received.Nothing ≡ received.Failed = a.failed.1 named in cc) in
    state_is after (before.journal ++ Empty ∷ []) [] did.0 did.2
    ∙ sym (unfailed (settings_of old) (receives_made old) (length into) before not_named ∙ ap (first_taken (length into) before.journal) did.1)
receive_step (received.Long n) into old new before after start end a =
    let did : Receives (received.Long n) into before after = Tells-between before after (told_by old) (told_by new) (Receives (received.Long n) into) start end a.entry in
    let not_named : fails_receiving old ≡ false = is_false (fails_receiving old) (λ named. let is : received.Long n ≡ received.Failed = a.failed.1 named in cc) in
    let lost : List ℕ = did.1 in
    state_is after (before.journal ++ Long (length lost) ∷ []) after.waiting (did.0 ∙ ap (λ (m : ℕ). before.journal ++ Long m ∷ []) (sym did.2)) refl
    ∙ sym (unfailed (settings_of old) (receives_made old) (length into) before not_named
    ∙ ap (first_taken (length into) before.journal) did.3
    ∙ ap (λ (b : Bool). record { journal = before.journal ++ cond b (Got lost) (Long (length lost)) ∷ []; waiting = after.waiting }) (over_room lost into n did.2 a.sizes))
receive_step received.Failed into old new before after start end a =
    let did : Receives received.Failed into before after = Tells-between before after (told_by old) (told_by new) (Receives received.Failed into) start end a.entry in
    let named : fails_receiving old ≡ true = a.failed.0 refl in
    state_is after (before.journal ++ ReceiveFailed ∷ []) before.waiting did.0 did.1
    ∙ sym (ap (λ (b : Bool). cond b (record { journal = before.journal ++ ReceiveFailed ∷ []; waiting = before.waiting }) (first_taken (length into) before.journal before.waiting)) named)

-- ---- calls in a row

-- a link that tells after its calls told before them
more_back : (told : Option LinkState) (es : List Entry) (more : List (List ℕ)) (after : LinkState) → told_more told es more ≡ Some after → (before : LinkState) × (told ≡ Some before)
more_back None es more after is = cc
more_back (Some before) es more after is = (before, refl)

send_back : (result : SentEnd) (old new : MemoryLink) (datagram : List ℕ) (after : LinkState) → told_by new ≡ Some after → result ≢ sent.Memory → SendsInMemory datagram result old new → (before : LinkState) × (told_by old ≡ Some before)
send_back sent.Done old new datagram after end real a = more_back (told_by old) _ _ after (sym a.0 ∙ end)
send_back sent.Failed old new datagram after end real a = more_back (told_by old) _ _ after (sym a.0 ∙ end)
send_back sent.Memory old new datagram after end real a = absurd (real refl)

call_back : (call : Call) (old new : MemoryLink) (after : LinkState) → told_by new ≡ Some after → Answers call old new → (before : LinkState) × (told_by old ≡ Some before)
call_back (Send datagram) old new after end a = send_back a.0 old new datagram after end a.1 a.2.adds
call_back (Unsent datagram) old new after end a = (after, sym a.adds.0 ∙ end)
call_back (Receive room) old new after end a =
    let told = Tells-at (told_by old) after (Receives a.0 a.1) (subst (λ (o : Option LinkState). Tells (told_by old) o (Receives a.0 a.1)) end a.3.entry) in
    (told.0, told.1)

calls_back : (calls : List Call) (first last : MemoryLink) (after : LinkState) → told_by last ≡ Some after → AnswersAll calls first last → (before : LinkState) × (told_by first ≡ Some before)
calls_back [] first last after end a = (after, sym (ap told_by a) ∙ end)
calls_back (call ∷ calls) first last after end a =
    let next = calls_back calls a.0 last after end a.2 in
    call_back call first a.0 next.0 next.1 a.1

-- one call
record Step (settings : Settings) (call : Call) (standing : Standing) (new : MemoryLink) (after : LinkState) : Type 0 where
  state : after ≡ (after_call settings standing call).state
  receives : receives_made new ≡ (after_call settings standing call).receives
  stays : settings_of new ≡ settings

one_step : (call : Call) (old new : MemoryLink) (standing : Standing) (after : LinkState) → told_by old ≡ Some standing.state → receives_made old ≡ standing.receives → told_by new ≡ Some after → Answers call old new → Step (settings_of old) call standing new after
one_step (Send datagram) old new standing after start number end a = record {
  state = send_step a.0 old new datagram standing.state after start end a.1 a.2;
  receives = a.2.receives ∙ number;
  stays = settings_same old new a.2.making a.2.fates;
}
one_step (Unsent datagram) old new standing after start number end a = record {
  state = one_state (told_by new) after standing.state end (a.adds.0 ∙ start);
  receives = a.receives ∙ number;
  stays = settings_same old new a.making a.fates;
}
one_step (Receive room) old new standing after start number end a = record {
  state = receive_step a.0 a.1 old new standing.state after start end a.3 ∙ ap (λ (n : ℕ). state_received (settings_of old) n (length a.1) standing.state) number ∙ ap (λ (n : ℕ). state_received (settings_of old) standing.receives n standing.state) a.2;
  receives = a.3.receives ∙ ap next_call number;
  stays = settings_same old new a.3.making a.3.fates;
}

pub run_is : (calls : List Call) (first last : MemoryLink) (standing : Standing) (state : LinkState) → told_by first ≡ Some standing.state → receives_made first ≡ standing.receives → AnswersAll calls first last → told_by last ≡ Some state
    → state ≡ (fold (after_call (settings_of first)) standing calls).state
run_is [] first last standing state start number a end = one_state (told_by first) state standing.state (sym (ap told_by a) ∙ end) start
run_is (call ∷ calls) first last standing state start number a end =
    let next = calls_back calls a.0 last state end a.2 in
    let step = one_step call first a.0 standing next.0 start number next.1 a.1 in
    run_is calls a.0 last (after_call (settings_of first) standing call) state (next.1 ∙ ap Some step.state) step.receives a.2 end
    ∙ ap (λ (s : Settings). (fold (after_call s) (after_call (settings_of first) standing call) calls).state) step.stays
