-- A tick that halts where memory runs out at a send.
use Rattle.std.proofs.Common.{◌≡◌, refl, sym, ap, ◌∙◌, subst, arith, ℕ, zero, suc, ◌+◌, ◌<◌, Bool, true, false, List, [], ◌∷◌, ◌++◌, length, map, take, drop, Option, Some, append_assoc, length-append}
use Rattle.std.specs.Prelude.{◌-◌, zip}
use Rattle.std.proofs.lemmas.List.{length-map, length-take-le, map-append, append-nil, take-append-drop}
use Rattle.dataset_meta.specs.Rows.{cons_if}
use Rattle.ua_base.specs.Journal.{LinkState, Tells}
use Rattle.session_model.specs.Deeds.{Deed, TookTurn, has_turn, rekeyed, turned_on}
use Rattle.session_model.specs.Sends.{Send, last_sends, send_entry, send_entries, sends_by}
use Rattle.session_model.proofs.Sending.{entries-append}
use Rattle.session_parts.specs.declared.publisher.Publisher.{Publisher}
use Rattle.session_parts.specs.Ticking.{TickData, HaltsTickBehind, SendsHalt, TickHalts, deeds_to, now_of, turn_in}
use Rattle.session_parts.proofs.Counting.{fold-more}
use Rattle.session_parts.proofs.Passing.{has, turned-so}

-- ---- a tick's sends only become more

-- all begin with the first
record BeginWith (first all : List Send) : Type 0 where
  behind : List Send
  are : all ≡ first ++ behind

begin-same : (sends : List Send) → BeginWith sends sends
begin-same sends = record { behind = []; are = sym (append-nil sends) }

begin-then : (a b c : List Send) → BeginWith a b → BeginWith b c → BeginWith a c
begin-then a b c first second = record {
  behind = first.behind ++ second.behind;
  are = second.are ∙ ap (λ l. l ++ second.behind) first.are ∙ append_assoc a first.behind second.behind;
}

-- the next group's turn, if it has one
more-deeds : (t : TickData) (n : ℕ) → deeds_to t (n + 1) ≡ turned_on t.plan t.before (now_of t) t.closing t.samples (deeds_to t n) n
more-deeds t n = fold-more (turned_on t.plan t.before (now_of t) t.closing t.samples) (rekeyed t.plan.config (now_of t) t.account.deeds) n

begin-if : (test : Bool) (g : ℕ) (t : TickData) (so_far : List Deed)
    → BeginWith (last_sends so_far) (last_sends (cons_if test (TookTurn g (turn_in t so_far g)) so_far))
begin-if true g t so_far = record { behind = sends_by g (turn_in t so_far g).made; are = refl }
begin-if false g t so_far = begin-same (last_sends so_far)

begin-one : (t : TickData) (n : ℕ) → BeginWith (last_sends (deeds_to t n)) (last_sends (deeds_to t (n + 1)))
begin-one t n =
    subst (λ (l : List Deed). BeginWith (last_sends (deeds_to t n)) (last_sends l)) (sym (more-deeds t n))
    (begin-if (has_turn t.plan t.before (now_of t) t.closing (deeds_to t n) n) n t (deeds_to t n))

begin-all : (t : TickData) (n more all : ℕ) → n + more ≡ all → BeginWith (last_sends (deeds_to t n)) (last_sends (deeds_to t all))
begin-all t n zero all is = let same : n ≡ all = omega (arith, is) in subst (λ (m : ℕ). BeginWith (last_sends (deeds_to t n)) (last_sends (deeds_to t m))) same (begin-same (last_sends (deeds_to t n)))
begin-all t n (suc more) all is =
    begin-then (last_sends (deeds_to t n)) (last_sends (deeds_to t (n + 1))) (last_sends (deeds_to t all)) (begin-one t n) (begin-all t (n + 1) more all (omega (arith, is)))

-- ---- the sends of a turn that halts

zip-none : {A B : Type 0} (xs : List A) → zip {X = B} xs [] ≡ []
zip-none [] = refl
zip-none (x ∷ xs) = refl

zip-front : {A B : Type 0} (xs behind : List A) (us : List B) → length us ≡ length xs → zip (xs ++ behind) us ≡ zip xs us
zip-front [] behind [] same = zip-none behind
zip-front [] behind (u ∷ us) same = absurd (omega (arith, same))
zip-front (x ∷ xs) behind [] same = absurd (omega (arith, same))
zip-front (x ∷ xs) behind (u ∷ us) same = ap (λ l. (x, u) ∷ l) (zip-front xs behind us (omega (arith, same)))

entries-front : (xs front behind : List Send) (us vs : List Bool) → length us ≡ length xs → length vs ≡ length front
    → send_entries (xs ++ (front ++ behind)) (us ++ vs) ≡ send_entries xs us ++ send_entries front vs
entries-front xs front behind us vs same also =
    entries-append xs (front ++ behind) us vs same ∙ ap (λ l. send_entries xs us ++ map send_entry l) (zip-front front behind vs also)

-- the first datagrams of a turn, and the others
sends-split : (g count : ℕ) (datagrams : List (List ℕ)) → sends_by g datagrams ≡ sends_by g (take count datagrams) ++ sends_by g (drop count datagrams)
sends-split g count datagrams =
    ap (sends_by g) (sym (take-append-drop count datagrams)) ∙ map-append (λ (datagram : List ℕ). record { group = g; datagram = datagram }) (take count datagrams) (drop count datagrams)

-- of all sends of a tick, those of the groups before and the first of a turn
cut-are : (all xs : List Send) (g count : ℕ) (made : List (List ℕ)) → (begins : BeginWith (xs ++ sends_by g made) all)
    → all ≡ xs ++ (sends_by g (take count made) ++ (sends_by g (drop count made) ++ begins.behind))
cut-are all xs g count made begins =
    begins.are
    ∙ append_assoc xs (sends_by g made) begins.behind
    ∙ ap (λ (l : List Send). xs ++ (l ++ begins.behind)) (sends-split g count made)
    ∙ ap (λ (l : List Send). xs ++ l) (append_assoc (sends_by g (take count made)) (sends_by g (drop count made)) begins.behind)

cut-fewer : (all xs : List Send) (g count : ℕ) (made : List (List ℕ)) (done more : List Bool) → BeginWith (xs ++ sends_by g made) all
    → count < length made → length done ≡ length xs → length more ≡ length (sends_by g (take count made)) → length (done ++ more) < length all
cut-fewer all xs g count made done more begins fewer same also =
    let one : List ℕ → Send = λ datagram. record { group = g; datagram = datagram } in
    omega (
      arith,
      length-append done more,
      ap length begins.are,
      length-append (xs ++ sends_by g made) begins.behind,
      length-append xs (sends_by g made),
      length-map made one,
      length-map (take count made) one,
      length-take-le count made (omega (arith, fewer)),
    )

cut-entries : (all xs : List Send) (g count : ℕ) (made : List (List ℕ)) (done more : List Bool) → BeginWith (xs ++ sends_by g made) all
    → length done ≡ length xs → length more ≡ length (sends_by g (take count made))
    → send_entries all (done ++ more) ≡ send_entries xs done ++ send_entries (sends_by g (take count made)) more
cut-entries all xs g count made done more begins same also =
    ap (λ (l : List Send). send_entries l (done ++ more)) (cut-are all xs g count made begins)
    ∙ entries-front xs (sends_by g (take count made)) (sends_by g (drop count made) ++ begins.behind) done more same also

-- ---- the tick

-- behind the groups before it, the group's turn is among the deeds of the tick
begin-turn : (t : TickData) (g : ℕ) → g < length t.plan.config.group → has t (deeds_to t g) g ≡ true
    → BeginWith (last_sends (deeds_to t g) ++ sends_by g (turn_in t (deeds_to t g) g).made) (last_sends (deeds_to t (length t.plan.config.group)))
begin-turn t g within so =
    subst (λ (l : List Deed). BeginWith (last_sends l) (last_sends (deeds_to t (length t.plan.config.group)))) (more-deeds t g ∙ turned-so t (deeds_to t g) g so)
    (begin-all t (g + 1) (length t.plan.config.group - (g + 1)) (length t.plan.config.group) (omega (arith, within)))

pub halts-tick : (t : TickData) (new : Publisher) (told after : Option LinkState) → TickHalts t new told after
    → HaltsTickBehind t.plan t.before t.account t.ms t.closing t.samples told after
halts-tick t new told after h =
    let g : ℕ = h.group in
    let xs : List Send = last_sends (deeds_to t g) in
    let all : List Send = last_sends (deeds_to t (length t.plan.config.group)) in
    let made : List (List ℕ) = (turn_in t (deeds_to t g) g).made in
    let halt : SendsHalt g made h.publisher new h.between after = h.halts.sends in
    let begins : BeginWith (xs ++ sends_by g made) all = begin-turn t g h.within h.halts.has in
    record {
      done = h.passed.done ++ halt.done;
      fewer = cut-fewer all xs g halt.count made h.passed.done halt.done begins halt.fewer h.passed.at.sent halt.sent.each;
      tells = λ run link is.
          let at : (x : LinkState) × (h.between ≡ Some x) × (link.journal ≡ x.journal ++ send_entries (sends_by g (take halt.count made)) halt.done)
          = subst (λ (o : Option LinkState). Tells h.between o (λ x y. y.journal ≡ x.journal ++ send_entries (sends_by g (take halt.count made)) halt.done)) is halt.sent.tells in
          at.2
          ∙ ap (λ l. l ++ send_entries (sends_by g (take halt.count made)) halt.done) (h.passed.tells run at.0 at.1)
          ∙ append_assoc (t.account.journal) (send_entries xs h.passed.done) (send_entries (sends_by g (take halt.count made)) halt.done)
          ∙ ap (λ l. t.account.journal ++ l) (sym (cut-entries all xs g halt.count made h.passed.done halt.done begins h.passed.at.sent halt.sent.each));
    }
