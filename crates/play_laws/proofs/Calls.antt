-- The entries of a journal, told by its own calls one after another.
use Rattle.std.proofs.Common.{◌≡◌, refl, sym, ap, ◌∙◌, arith, ℕ, zero, suc, ◌<◌, ◌≤◌, Bool, true, false, List, [], ◌∷◌, ◌++◌, length, map, All, append_assoc}
use Rattle.std.specs.Prelude.{nat_le, fold, if◌then◌else◌}
use Rattle.std.proofs.lemmas.List.{append-nil, append_cancel_left}
use Rattle.std.proofs.lemmas.List.Elements.{All-head, All-tail}
use Rattle.ua_base.specs.Journal.{Entry, Sent, SendFailed, Got, Empty, Long, ReceiveFailed, LinkState}
use Rattle.mem_edge.specs.Calls.{is_named}
use Rattle.mem_edge.specs.Queueing.{queued_by}
use Rattle.mem_edge.specs.Sends.{sends_in}
use Rattle.mem_edge.specs.Standings.{Settings, Standing, after_call, at_opening, call_of, first_taken, state_received, state_sent}
use Rattle.session_model.specs.Counts.{longest_datagram}
use Rattle.session_model.specs.Sends.{IsPump, send_entries}
use Rattle.play_laws.specs.Taking.{IsOfItsCalls, MayTakeAll, TakesAll, waiting_behind}

module _ (settings : Settings) where
  -- what the calls of these entries leave of a standing
  abbrev pub run : Standing → List Entry → Standing
  run s entries = fold (after_call settings) s (map call_of entries)

  abbrev after : Standing → Entry → Standing
  after s entry = after_call settings s (call_of entry)

  -- ---- each call writes one entry

  record WritesOne (s next : Standing) : Type 0 where
    entry : Entry
    is : next.state.journal ≡ s.state.journal ++ entry ∷ []

  sent-one : (s : Standing) (datagram : List ℕ) (b : Bool) → is_named settings.making.send_fails (length (sends_in s.state.journal)) ≡ b → WritesOne s (record { state = state_sent settings datagram s.state; receives = s.receives })
  sent-one s datagram true e = record { entry = SendFailed; is = rw e refl }
  sent-one s datagram false e = record { entry = Sent datagram; is = rw e refl }

  taken-one : (room : ℕ) (journal : List Entry) (waiting : List (List ℕ)) → (entry : Entry) × ((first_taken room journal waiting).journal ≡ journal ++ entry ∷ [])
  taken-one room journal [] = (Empty, refl)
  taken-one room journal (datagram ∷ waiting) = (if nat_le (length datagram) room then Got datagram else Long (length datagram), refl)

  received-one : (s : Standing) (room : ℕ) (b : Bool) → is_named settings.making.receive_fails s.receives ≡ b → (entry : Entry) × ((state_received settings s.receives room s.state).journal ≡ s.state.journal ++ entry ∷ [])
  received-one s room true e = (ReceiveFailed, rw e refl)
  received-one s room false e = let one = taken-one room s.state.journal s.state.waiting in (one.0, rw e one.1)

  any-one : (s : Standing) (room : ℕ) (entry : Entry) → call_of entry ≡ Rattle.mem_edge.specs.Standings.Receive room → WritesOne s (after s entry)
  any-one s room entry e =
      let one = received-one s room (is_named settings.making.receive_fails s.receives) refl in
      record { entry = one.0; is = ap (λ (c : Rattle.mem_edge.specs.Standings.Call). (after_call settings s c).state.journal) e ∙ one.1 }

  writes-one : (s : Standing) (entry : Entry) → WritesOne s (after s entry)
  writes-one s (Sent datagram) = sent-one s datagram (is_named settings.making.send_fails (length (sends_in s.state.journal))) refl
  writes-one s SendFailed = sent-one s [] (is_named settings.making.send_fails (length (sends_in s.state.journal))) refl
  writes-one s (Got datagram) = any-one s (length datagram) (Got datagram) refl
  writes-one s Empty = any-one s 0 Empty refl
  writes-one s (Long len) = any-one s 0 (Long len) refl
  writes-one s ReceiveFailed = any-one s 0 ReceiveFailed refl

  writes-all : (entries : List Entry) (s : Standing) → (made : List Entry) × ((run s entries).state.journal ≡ s.state.journal ++ made)
  writes-all [] s = ([], sym (append-nil s.state.journal))
  writes-all (entry ∷ entries) s =
      let one = writes-one s entry in
      let rest = writes-all entries (after s entry) in
      (one.entry ∷ rest.0, rest.1 ∙ ap (λ (l : List Entry). l ++ rest.0) one.is ∙ append_assoc s.state.journal (one.entry ∷ []) rest.0)

  -- ---- so a journal of its own calls is so from its beginning on

  record Goes (s : Standing) (entry : Entry) (more : List Entry) : Type 0 where
    one : (after s entry).state.journal ≡ s.state.journal ++ entry ∷ []
    rest : (run (after s entry) more).state.journal ≡ (after s entry).state.journal ++ more

  goes : (s : Standing) (entry : Entry) (more : List Entry) → (run s (entry ∷ more)).state.journal ≡ s.state.journal ++ entry ∷ more → Goes s entry more
  goes s entry more e =
      let w = writes-one s entry in
      let all = writes-all more (after s entry) in
      let both : w.entry ∷ all.0 ≡ entry ∷ more =
      append_cancel_left s.state.journal (w.entry ∷ all.0) (entry ∷ more)
      (sym (append_assoc s.state.journal (w.entry ∷ []) all.0) ∙ ap (λ (l : List Entry). l ++ all.0) (sym w.is) ∙ sym all.1 ∙ e) in
      let same : w.entry ≡ entry = cc in
      let left : all.0 ≡ more = cc in
      record {
        one = w.is ∙ ap (λ (x : Entry). s.state.journal ++ x ∷ []) same;
        rest = all.1 ∙ ap (λ (l : List Entry). (after s entry).state.journal ++ l) left;
      }

  pub record Divides (s : Standing) (first more : List Entry) : Type 0 where
    pub front : (run s first).state.journal ≡ s.state.journal ++ first
    pub back : (run (run s first) more).state.journal ≡ (run s first).state.journal ++ more

  pub divides : (first more : List Entry) (s : Standing) → (run s (first ++ more)).state.journal ≡ s.state.journal ++ (first ++ more) → Divides s first more
  divides [] more s e = record { front = sym (append-nil s.state.journal); back = e }
  divides (entry ∷ first) more s e =
      let g = goes s entry (first ++ more) e in
      let d = divides first more (after s entry) g.rest in
      record { front = d.front ∙ ap (λ (l : List Entry). l ++ first) g.one ∙ append_assoc s.state.journal (entry ∷ []) first; back = d.back }

  -- ---- receives that don't fail

  module _ (none : settings.making.receive_fails ≡ []) where
    -- where these receives fail
    abbrev received-by : Standing → ℕ → List ℕ → LinkState
    received-by s room fails =
        if is_named fails s.receives then record { journal = s.state.journal ++ ReceiveFailed ∷ []; waiting = s.state.waiting } else first_taken room s.state.journal s.state.waiting

    received-is : (s : Standing) (room : ℕ) → state_received settings s.receives room s.state ≡ first_taken room s.state.journal s.state.waiting
    received-is s room = ap (received-by s room) none

    -- what a receive with so much room leaves, where these wait
    takes-of : (s : Standing) (room : ℕ) (waiting : List (List ℕ)) → s.state.waiting ≡ waiting → state_received settings s.receives room s.state ≡ first_taken room s.state.journal waiting
    takes-of s room waiting e = received-is s room ∙ ap (first_taken room s.state.journal) e

    one-entry : (s : Standing) (x y : Entry) (now : LinkState) → now.journal ≡ s.state.journal ++ x ∷ [] → now.journal ≡ s.state.journal ++ y ∷ [] → x ≡ y
    one-entry s x y now first second =
        let both : x ∷ [] ≡ y ∷ [] = append_cancel_left s.state.journal (x ∷ []) (y ∷ []) (sym first ∙ second) in cc

    not-got : (b : Bool) (datagram bytes : List ℕ) → (if b then Got datagram else Long (length datagram)) ≡ Got bytes → datagram ≡ bytes
    not-got true datagram bytes e = cc
    not-got false datagram bytes e = absurd (cc)

    not-empty : (b : Bool) (datagram : List ℕ) → (if b then Got datagram else Long (length datagram)) ≡ Empty → ⊥
    not-empty true datagram e = cc
    not-empty false datagram e = cc

    not-failed : (b : Bool) (datagram : List ℕ) → (if b then Got datagram else Long (length datagram)) ≡ ReceiveFailed → ⊥
    not-failed true datagram e = cc
    not-failed false datagram e = cc

    not-long : (b : Bool) (datagram : List ℕ) (size : ℕ) → (if b then Got datagram else Long (length datagram)) ≡ Long size → length datagram ≡ size
    not-long true datagram size e = absurd (cc)
    not-long false datagram size e = cc

    -- a pump takes all
    takes : (left : ℕ) (ds : List (List ℕ)) (s : Standing) (entries : List Entry) → s.state.waiting ≡ ds → length ds < left → All (λ (d : List ℕ). length d ≤ longest_datagram) ds → IsPump left entries
        → (run s entries).state.journal ≡ s.state.journal ++ entries → entries ≡ map Got ds ++ Empty ∷ []
    takes zero ds s entries waits few short pump e = absurd (omega (arith, few))
    takes (suc left) ds s [] waits few short pump e = absurd pump
    takes (suc left) ds s (Sent bytes ∷ entries) waits few short pump e = absurd pump
    takes (suc left) ds s (SendFailed ∷ entries) waits few short pump e = absurd pump
    takes (suc left) [] s (Empty ∷ entries) waits few short pump e = ap (λ (l : List Entry). Empty ∷ l) pump
    takes (suc left) [] s (Got bytes ∷ entries) waits few short pump e =
        let g = goes s (Got bytes) entries e in
        let wrong : Got bytes ≡ Empty = one-entry s (Got bytes) Empty (after s (Got bytes)).state g.one (ap (λ (l : LinkState). l.journal) (takes-of s (length bytes) [] waits)) in
        absurd (cc)
    takes (suc left) [] s (Long size ∷ entries) waits few short pump e =
        let g = goes s (Long size) entries e in
        let wrong : Long size ≡ Empty = one-entry s (Long size) Empty (after s (Long size)).state g.one (ap (λ (l : LinkState). l.journal) (takes-of s 0 [] waits)) in
        absurd (cc)
    takes (suc left) [] s (ReceiveFailed ∷ entries) waits few short pump e =
        let g = goes s ReceiveFailed entries e in
        let wrong : ReceiveFailed ≡ Empty = one-entry s ReceiveFailed Empty (after s ReceiveFailed).state g.one (ap (λ (l : LinkState). l.journal) (takes-of s 0 [] waits)) in
        absurd (cc)
    takes (suc left) (d ∷ ds) s (Got bytes ∷ entries) waits few short pump e =
        let g = goes s (Got bytes) entries e in
        let b = nat_le (length d) (length bytes) in
        let is = takes-of s (length bytes) (d ∷ ds) waits in
        let same = not-got b d bytes (one-entry s (if b then Got d else Long (length d)) (Got bytes) (after s (Got bytes)).state (ap (λ (l : LinkState). l.journal) is) g.one) in
        let rest = takes left ds (after s (Got bytes)) entries (ap (λ (l : LinkState). l.waiting) is) (omega (arith, few)) (All-tail (λ (x : List ℕ). length x ≤ longest_datagram) d ds short) pump.1 g.rest in
        ap (λ (x : List ℕ). Got x ∷ entries) (sym same) ∙ ap (λ (l : List Entry). Got d ∷ l) rest
    takes (suc left) (d ∷ ds) s (Long size ∷ entries) waits few short pump e =
        let g = goes s (Long size) entries e in
        let b = nat_le (length d) 0 in
        let is = takes-of s 0 (d ∷ ds) waits in
        let same = not-long b d size (one-entry s (if b then Got d else Long (length d)) (Long size) (after s (Long size)).state (ap (λ (l : LinkState). l.journal) is) g.one) in
        let long = pump.0 in
        let head = All-head (λ (x : List ℕ). length x ≤ longest_datagram) d ds short in
        absurd (omega (arith, same, long, head))
    takes (suc left) (d ∷ ds) s (Empty ∷ entries) waits few short pump e =
        let g = goes s Empty entries e in
        let b = nat_le (length d) 0 in
        let is = takes-of s 0 (d ∷ ds) waits in
        absurd (not-empty b d (one-entry s (if b then Got d else Long (length d)) Empty (after s Empty).state (ap (λ (l : LinkState). l.journal) is) g.one))
    takes (suc left) (d ∷ ds) s (ReceiveFailed ∷ entries) waits few short pump e =
        let g = goes s ReceiveFailed entries e in
        let b = nat_le (length d) 0 in
        let is = takes-of s 0 (d ∷ ds) waits in
        absurd (not-failed b d (one-entry s (if b then Got d else Long (length d)) ReceiveFailed (after s ReceiveFailed).state (ap (λ (l : LinkState). l.journal) is) g.one))

    -- and then nothing waits
    pub emptied : (ds : List (List ℕ)) (s : Standing) → s.state.waiting ≡ ds → (run s (map Got ds ++ Empty ∷ [])).state.waiting ≡ []
    emptied [] s waits = ap (λ (l : LinkState). l.waiting) (takes-of s 0 [] waits)
    emptied (d ∷ ds) s waits = emptied ds (after s (Got d)) (ap (λ (l : LinkState). l.waiting) (takes-of s (length d) (d ∷ ds) waits))

    pub pump-takes : (left : ℕ) (ds : List (List ℕ)) (s : Standing) (entries : List Entry) → s.state.waiting ≡ ds → length ds < left → All (λ (d : List ℕ). length d ≤ longest_datagram) ds → IsPump left entries
        → (run s entries).state.journal ≡ s.state.journal ++ entries → entries ≡ map Got ds ++ Empty ∷ []
    pump-takes = takes

  -- ---- sends that don't fail

  module _ (none : settings.making.send_fails ≡ []) where
    -- where these sends fail
    abbrev sent-by : Standing → List ℕ → List ℕ → LinkState
    sent-by s datagram fails =
        if is_named fails (length (sends_in s.state.journal)) then record { journal = s.state.journal ++ SendFailed ∷ []; waiting = s.state.waiting }
        else record { journal = s.state.journal ++ Sent datagram ∷ []; waiting = s.state.waiting ++ queued_by settings.fates settings.making.injected (sends_in s.state.journal) datagram }

    sent-is : (s : Standing) (datagram : List ℕ) → state_sent settings datagram s.state ≡ sent-by s datagram []
    sent-is s datagram = ap (sent-by s datagram) none

    -- one send, which was done and queues what it queues
    pub record IsDone (s : Standing) (datagram : List ℕ) (done : List Bool) : Type 0 where
      pub all : done ≡ true ∷ []
      pub waits : (run s (Sent datagram ∷ [])).state.waiting ≡ s.state.waiting ++ queued_by settings.fates settings.making.injected (sends_in s.state.journal) datagram

    pub one-done : (s : Standing) (g : ℕ) (datagram : List ℕ) (done : List Bool) → length done ≡ 1
        → (run s (send_entries (record { group = g; datagram = datagram } ∷ []) done)).state.journal ≡ s.state.journal ++ send_entries (record { group = g; datagram = datagram } ∷ []) done → IsDone s datagram done
    one-done s g datagram [] one e = absurd (omega (arith, one))
    one-done s g datagram (b ∷ c ∷ done) one e = absurd (omega (arith, one))
    one-done s g datagram (true ∷ []) one e = record { all = refl; waits = ap (λ (l : LinkState). l.waiting) (sent-is s datagram) }
    one-done s g datagram (false ∷ []) one e =
        let wrong : SendFailed ∷ [] ≡ Sent [] ∷ [] = append_cancel_left s.state.journal (SendFailed ∷ []) (Sent [] ∷ []) (sym e ∙ ap (λ (l : LinkState). l.journal) (sent-is s [])) in
        absurd (cc)

-- ---- the law

pub takes-all : (settings : Settings) (before entries rest : List Entry) (left : ℕ) → IsOfItsCalls settings (before ++ entries ++ rest) → IsPump left entries → MayTakeAll settings before left → TakesAll settings before entries
takes-all settings before entries rest left e pump may =
    let whole = divides settings (before ++ entries) rest at_opening e in
    let own = divides settings before entries at_opening whole.front in
    pump-takes settings may.unfailing left (waiting_behind settings before) (run settings at_opening before) entries refl may.few may.short pump own.back
