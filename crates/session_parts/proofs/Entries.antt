-- The entries of one pump.
use Rattle.std.proofs.Common.{◌≡◌, refl, sym, ap, ◌∙◌, arith, ℕ, zero, suc, ◌+◌, ◌<◌, Bool, true, false, cond, ◌≢◌, ◌⊎◌, inl, inr, List, [], ◌∷◌, ◌++◌, length, append_assoc, length-append, Option}
use Rattle.std.specs.Prelude.{count_by, fold, ◌==◌, if◌then◌else◌, IsTrue}
use Rattle.std.proofs.lemmas.Bool.Decides.{eqb_tells}
use Rattle.std.proofs.lemmas.List.{append-nil}
use Rattle.std.proofs.lemmas.List.Sums.{fold_push}
use Rattle.ua_base.specs.Cause.{counted_if}
use Rattle.ua_base.specs.Journal.{Entry, Sent, SendFailed, Got, Empty, Long, ReceiveFailed, LinkState, Tells}
use Rattle.ua_base.proofs.Told.{Tells-refl, Tells-then}
use Rattle.ps_config.specs.declared.parts.Config.{Config}
use Rattle.pubsub_states.specs.Changes.{TreeValue}
use Rattle.reader_group.specs.Plain.{Event}
use Rattle.session_model.specs.Steps.{Step, moment_of}
use Rattle.session_model.specs.Sends.{IsPump}
use Rattle.session_model.specs.Events.{got_all, got_on, readers_on, receives}
use Rattle.session_model.specs.Readings.{Reading}
use Rattle.session_model.specs.Answers.{counted}
use Rattle.session_model.specs.Closing.{is_sent, is_send_failed, is_got, is_broken, is_long, is_datagram}
use Rattle.session_model.proofs.Sending.{count-append, count-cons}
use Rattle.session_parts.specs.declared.subscriber.Subscriber.{Subscriber}
use Rattle.session_parts.specs.declared.receiving.Receiving.{Receiving}
use Rattle.session_parts.specs.Pumping.{HasSwitches, Counts, HaveGot, IsReceive, PumpsTo, Receives, ReceivesOne, brought}
use Rattle.session_parts.proofs.Handing.{got-same}

-- ---- the entries so far, each a datagram

abbrev pub AreDatagrams : List Entry → Type 0
AreDatagrams [] = Unit {0}
AreDatagrams (entry ∷ entries) = (is_datagram entry ≡ true) × IsReceive entry × AreDatagrams entries

pub datagrams-push : (entries : List Entry) (entry : Entry) → AreDatagrams entries → is_datagram entry ≡ true → IsReceive entry → AreDatagrams (entries ++ entry ∷ [])
datagrams-push [] entry all e r = (e, r, tt)
datagrams-push (x ∷ entries) entry all e r = (all.0, all.1, datagrams-push entries entry all.2 e r)

pub count-datagrams : (entries : List Entry) → AreDatagrams entries → count_by is_datagram entries ≡ length entries
count-datagrams [] all = refl
count-datagrams (x ∷ entries) all =
    count-cons is_datagram x entries ∙ ap (λ (b : Bool). cond b 1 0 + count_by is_datagram entries) all.0 ∙ omega (arith, count-datagrams entries all.2)

one_on : (n : ℕ) (x : Entry) (entries : List Entry) → is_datagram x ≡ true → IsReceive x → IsPump n entries → IsPump (suc n) (x ∷ entries)
one_on n (Sent bytes) entries e r h = absurd (grind arith)
one_on n SendFailed entries e r h = absurd (grind arith)
one_on n (Got bytes) entries e r h = (r, h)
one_on n Empty entries e r h = absurd (grind arith)
one_on n (Long size) entries e r h = (r, h)
one_on n ReceiveFailed entries e r h = absurd (grind arith)

last_on : (n : ℕ) (x : Entry) → is_datagram x ≡ false → IsReceive x → IsPump (suc n) (x ∷ [])
last_on n (Sent bytes) e h = absurd h
last_on n SendFailed e h = absurd h
last_on n (Got bytes) e h = absurd (grind arith)
last_on n Empty e h = refl
last_on n (Long size) e h = absurd (grind arith)
last_on n ReceiveFailed e h = refl

-- fewer datagrams than the limit, and then a receive that brought none
pub pump-ended : (n : ℕ) (entries : List Entry) (x : Entry) → AreDatagrams entries → length entries < n → is_datagram x ≡ false → IsReceive x → IsPump n (entries ++ x ∷ [])
pump-ended zero entries x all few e h = absurd (omega arith)
pump-ended (suc n) [] x all few e h = last_on n x e h
pump-ended (suc n) (y ∷ entries) x all few e h = one_on n y (entries ++ x ∷ []) all.0 all.1 (pump-ended n entries x all.2 (omega arith) e h)

-- as many datagrams as the limit
pub pump-full : (n : ℕ) (entries : List Entry) → AreDatagrams entries → length entries ≡ n → IsPump n entries
pump-full zero [] all e = tt
pump-full zero (y ∷ entries) all e = absurd (omega arith)
pump-full (suc n) [] all e = absurd (omega arith)
pump-full (suc n) (y ∷ entries) all e = one_on n y entries all.0 all.1 (pump-full n entries all.2 (omega arith))

-- ---- a pump has no sends

receive_on : (n : ℕ) (x : Entry) (entries : List Entry) → IsPump (suc n) (x ∷ entries)
    → (IsPump n entries → (count_by is_sent entries ≡ 0) × (count_by is_send_failed entries ≡ 0)) → (is_sent x ≡ false) × (is_send_failed x ≡ false) × (count_by is_sent entries ≡ 0) × (count_by is_send_failed entries ≡ 0)
receive_on n (Sent bytes) entries h go = absurd h
receive_on n SendFailed entries h go = absurd h
receive_on n (Got bytes) entries h go = (refl, refl, (go h.1).0, (go h.1).1)
receive_on n Empty entries h go = (refl, refl, ap (count_by is_sent) h, ap (count_by is_send_failed) h)
receive_on n (Long size) entries h go = (refl, refl, (go h.1).0, (go h.1).1)
receive_on n ReceiveFailed entries h go = (refl, refl, ap (count_by is_sent) h, ap (count_by is_send_failed) h)

not_counted : (p : Entry → Bool) (x : Entry) (entries : List Entry) → p x ≡ false → count_by p entries ≡ 0 → count_by p (x ∷ entries) ≡ 0
not_counted p x entries e h = count-cons p x entries ∙ ap (λ (b : Bool). cond b 1 0 + count_by p entries) e ∙ omega (arith, h)

pub pump_sends : (n : ℕ) (entries : List Entry) → IsPump n entries → (count_by is_sent entries ≡ 0) × (count_by is_send_failed entries ≡ 0)
pump_sends zero [] h = (refl, refl)
pump_sends zero (x ∷ entries) h = absurd h
pump_sends (suc n) [] h = absurd h
pump_sends (suc n) (x ∷ entries) h =
    let r = receive_on n x entries h (pump_sends n entries) in
    (not_counted is_sent x entries r.0 r.2, not_counted is_send_failed x entries r.1 r.3)

-- ---- what befalls the read groups

brought-if : (on : Bool) (moment : ℕ) (readers : List Bool) (entries : List Entry) (entry : Entry) (befell : List Event)
    → (if on then got_on moment readers (if on then fold (got_on moment readers) befell entries else befell) entry else (if on then fold (got_on moment readers) befell entries else befell))
    ≡ (if on then fold (got_on moment readers) befell (entries ++ entry ∷ []) else befell)
brought-if true moment readers entries entry befell = sym (fold_push (got_on moment readers) befell entries entry)
brought-if false moment readers entries entry befell = refl

brought-more : (config : Config) (before : List Step) (r : ℕ) (entries : List Entry) (entry : Entry) (befell : List Event)
    → brought config before entry r (got_all config before r entries befell) ≡ got_all config before r (entries ++ entry ∷ []) befell
brought-more config before r entries entry befell = brought-if (receives config before r) (moment_of before) (readers_on config before r) entries entry befell

pub none-if : (on : Bool) (befell : List Event) → befell ≡ (if on then befell else befell)
none-if true befell = refl
none-if false befell = refl

-- ---- what a pump has received so far

counted-more : (b : Bool) (n : ℕ) → counted_if b (counted n) ≡ counted (n + cond b 1 0)
counted-more true n = omega arith
counted-more false n = omega arith

-- one receive more of a kind is counted
count-more : (p : Entry → Bool) (entries : List Entry) (entry : Entry) (old mid new : ℕ) → new ≡ counted_if (p entry) mid
    → ((n : ℕ) → old ≡ counted n → mid ≡ counted (n + count_by p entries)) → (n : ℕ) → old ≡ counted n → new ≡ counted (n + count_by p (entries ++ entry ∷ []))
count-more p entries entry old mid new is so_far n from =
    is ∙ ap (counted_if (p entry)) (so_far n from) ∙ counted-more (p entry) (n + count_by p entries)
    ∙ ap counted (omega (arith, count-append p entries (entry ∷ []), count-cons p entry []))

pub record SoFar (config : Config) (tree : TreeValue) (moment count : ℕ) (old new : Receiving) (subscriber after : Subscriber) (told later : Option LinkState) : Type 0 where
  pub entries : List Entry
  pub datagrams : AreDatagrams entries
  pub count_is : length entries ≡ count
  pub received : (n : ℕ) → old.received ≡ counted n → new.received ≡ counted (n + count_by is_got entries)
  pub broken : (n : ℕ) → old.broken ≡ counted n → new.broken ≡ counted (n + count_by is_broken entries)
  pub long : (n : ℕ) → old.long ≡ counted n → new.long ≡ counted (n + count_by is_long entries)
  pub limit : new.limit ≡ old.limit
  pub hands_on : (before : List Step) (from : ℕ → Reading) (befell : ℕ → List Event) → HasSwitches config before tree → moment ≡ moment_of before
      → HaveGot config from befell subscriber → HaveGot config from (λ r. got_all config before r entries (befell r)) after
  pub tells : Tells told later (λ x y. y.journal ≡ x.journal ++ entries)

pub so-none : (config : Config) (tree : TreeValue) (moment : ℕ) (receiving : Receiving) (subscriber : Subscriber) (told : Option LinkState)
    → SoFar config tree moment 0 receiving receiving subscriber subscriber told told
so-none config tree moment receiving subscriber told = record {
  entries = [];
  datagrams = tt;
  count_is = refl;
  received = λ n is. is ∙ ap counted (omega arith);
  broken = λ n is. is ∙ ap counted (omega arith);
  long = λ n is. is ∙ ap counted (omega arith);
  limit = refl;
  hands_on = λ before from befell switches now got.
      got-same config from befell (λ r. got_all config before r [] (befell r)) subscriber (λ r low. none-if (receives config before r) (befell r)) got;
  tells = Tells-refl told _ (λ w. sym (append-nil w.journal));
}

told-then : (a b c : Option LinkState) (xs : List Entry) (x : Entry) → Tells a b (λ x y. y.journal ≡ x.journal ++ xs) → Tells b c (λ y z. z.journal ≡ y.journal ++ x ∷ [])
    → Tells a c (λ w z. z.journal ≡ w.journal ++ (xs ++ x ∷ []))
told-then a b c xs x p q = Tells-then a b c _ _ _ (λ u v w e f. f ∙ ap (λ (l : List Entry). l ++ x ∷ []) e ∙ append_assoc u.journal xs (x ∷ [])) p q

hands-more : (config : Config) (tree : TreeValue) (moment : ℕ) (entries : List Entry) (entry : Entry) (old new : Receiving) (subscriber mid after : Subscriber)
    → Receives config entry old new mid after tree moment
    → ((before : List Step) (from : ℕ → Reading) (befell : ℕ → List Event) → HasSwitches config before tree → moment ≡ moment_of before → HaveGot config from befell subscriber
    → HaveGot config from (λ r. got_all config before r entries (befell r)) mid)
    → (before : List Step) (from : ℕ → Reading) (befell : ℕ → List Event) → HasSwitches config before tree → moment ≡ moment_of before → HaveGot config from befell subscriber
    → HaveGot config from (λ r. got_all config before r (entries ++ entry ∷ []) (befell r)) after
hands-more config tree moment entries entry old new subscriber mid after one so_far before from befell switches now got =
    got-same config from (λ r. brought config before entry r (got_all config before r entries (befell r))) (λ r. got_all config before r (entries ++ entry ∷ []) (befell r)) after
    (λ r low. brought-more config before r entries entry (befell r))
    (one.hands_on before from (λ r. got_all config before r entries (befell r)) switches now (so_far before from befell switches now got))

pub so-more : (config : Config) (tree : TreeValue) (moment count : ℕ) (old mid new : Receiving) (subscriber so_far after : Subscriber) (a b c : Option LinkState)
    → SoFar config tree moment count old mid subscriber so_far a b → ReceivesOne config tree moment true mid new so_far after b c
    → SoFar config tree moment (count + 1) old new subscriber after a c
so-more config tree moment count old mid new subscriber so_far after a b c so one = record {
  entries = so.entries ++ one.0 ∷ [];
  datagrams = datagrams-push so.entries one.0 so.datagrams (sym one.2) one.1.is_receive;
  count_is = omega (arith, so.count_is, length-append so.entries (one.0 ∷ []));
  received = count-more is_got so.entries one.0 old.received mid.received new.received one.1.counts.received so.received;
  broken = count-more is_broken so.entries one.0 old.broken mid.broken new.broken one.1.counts.broken so.broken;
  long = count-more is_long so.entries one.0 old.long mid.long new.long one.1.counts.long so.long;
  limit = one.1.counts.limit ∙ so.limit;
  hands_on = hands-more config tree moment so.entries one.0 mid new subscriber so_far after one.1 so.hands_on;
  tells = told-then a b c so.entries one.0 so.tells one.3;
}

no-limit : (n taken : ℕ) → taken < 65536 → counted n ≡ counted (n + (if taken == 65536 then 1 else 0))
no-limit n taken few = ap counted (omega (arith, ap {B = ℕ} (λ (b : Bool). if b then 1 else 0) (differ (eqb_tells taken 65536))))
  where
    differ : ((taken == 65536) ≡ true) × (taken ≡ 65536) ⊎ ((taken == 65536) ≡ false) × (taken ≢ 65536) → (taken == 65536) ≡ false
    differ (inl same) = absurd (omega (arith, same.1, few))
    differ (inr other) = other.0

pub so-ended : (config : Config) (tree : TreeValue) (moment count : ℕ) (old mid new : Receiving) (subscriber so_far after : Subscriber) (a b c : Option LinkState) → count < 65536
    → SoFar config tree moment count old mid subscriber so_far a b → ReceivesOne config tree moment false mid new so_far after b c
    → PumpsTo config tree moment count old new subscriber after a c
so-ended config tree moment count old mid new subscriber so_far after a b c few so one = record {
  entries = so.entries ++ one.0 ∷ [];
  pumps = record {
    pump = pump-ended 65536 so.entries one.0 so.datagrams (omega (arith, so.count_is, few)) (sym one.2) one.1.is_receive;
    received = count-more is_got so.entries one.0 old.received mid.received new.received one.1.counts.received so.received;
    broken = count-more is_broken so.entries one.0 old.broken mid.broken new.broken one.1.counts.broken so.broken;
    long = count-more is_long so.entries one.0 old.long mid.long new.long one.1.counts.long so.long;
    limit = λ n is. one.1.counts.limit ∙ so.limit ∙ is ∙ no-limit n count few ∙ ap (λ (k : ℕ). counted (n + (if k == 65536 then 1 else 0))) taken;
    hands_on = hands-more config tree moment so.entries one.0 mid new subscriber so_far after one.1 so.hands_on;
  };
  taken_are = taken;
  tells = told-then a b c so.entries one.0 so.tells one.3;
}
  where
    taken : count ≡ count_by is_datagram (so.entries ++ one.0 ∷ [])
    taken = omega (arith, so.count_is, count-datagrams so.entries so.datagrams, count-append is_datagram so.entries (one.0 ∷ []), not_counted is_datagram one.0 [] (sym one.2) refl)

pub so-full : (config : Config) (tree : TreeValue) (moment : ℕ) (old mid new : Receiving) (subscriber after : Subscriber) (a b : Option LinkState)
    → new ≡ record mid { limit = counted_if true mid.limit } → SoFar config tree moment 65536 old mid subscriber after a b
    → PumpsTo config tree moment 65536 old new subscriber after a b
so-full config tree moment old mid new subscriber after a b changed so = record {
  entries = so.entries;
  pumps = record {
    pump = pump-full 65536 so.entries so.datagrams so.count_is;
    received = λ n is. ap (λ (r : Receiving). r.received) changed ∙ so.received n is;
    broken = λ n is. ap (λ (r : Receiving). r.broken) changed ∙ so.broken n is;
    long = λ n is. ap (λ (r : Receiving). r.long) changed ∙ so.long n is;
    limit = λ n is.
        ap (λ (r : Receiving). r.limit) changed ∙ ap (counted_if true) (so.limit ∙ is) ∙ counted-more true n
        ∙ ap (λ (k : ℕ). counted (n + (if k == 65536 then 1 else 0))) taken;
    hands_on = so.hands_on;
  };
  taken_are = taken;
  tells = so.tells;
}
  where
    taken : 65536 ≡ count_by is_datagram so.entries
    taken = sym (count-datagrams so.entries so.datagrams ∙ so.count_is)

pub within-limit : (n : ℕ) → n < 65536 → (IsTrue false → n ≡ 65536) × (n ≡ 65536 → IsTrue false)
within-limit n few = (λ t. absurd (grind arith), λ e. absurd (omega (arith, e, few)))

-- the buffer doesn't count
pub counts-after : (entry : Entry) (old mid new : Receiving) → mid ≡ record old { buffer = mid.buffer } → Counts entry mid new → Counts entry old new
counts-after entry old mid new rest counts = record {
  received = counts.received ∙ ap (counted_if (is_got entry)) (ap (λ (r : Receiving). r.received) rest);
  broken = counts.broken ∙ ap (counted_if (is_broken entry)) (ap (λ (r : Receiving). r.broken) rest);
  long = counts.long ∙ ap (counted_if (is_long entry)) (ap (λ (r : Receiving). r.long) rest);
  limit = counts.limit ∙ ap (λ (r : Receiving). r.limit) rest;
}
