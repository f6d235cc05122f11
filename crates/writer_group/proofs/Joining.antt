-- Datagrams one behind another, and the senders that made them.
use Rattle.std.proofs.Common.{◌≡◌, ℕ, zero, suc, ◌+◌, ◌-◌, ◌<◌, ◌≤◌, List, [], ◌∷◌, ◌++◌, length, map, take, drop, get_or, refl, sym, ap, ◌∙◌, append_assoc, append-nil, arith, Option, All}
use Rattle.std.specs.Prelude.{slice_range}
use Rattle.std.proofs.lemmas.List.{length-append, length-map, map-append, take_more, take-append-drop, take_at, drop_at, length-take-le}
use Rattle.std.proofs.lemmas.List.Elements.{All-nil, All-cons}
use Rattle.message_guard.specs.declared.mode.Mode.{Mode}
use Rattle.message_guard.specs.Senders.{SenderState, IsSender}
use Rattle.writer_group.specs.declared.load.Load.{Load}
use Rattle.writer_group.specs.declared.posting.Range.{Range}
use Rattle.writer_group.specs.Holding.{CargoValue, payload_in}
use Rattle.writer_group.specs.Posting.{made_of, joined, ranges_of}
use Rattle.writer_group.specs.Sealing.{Payload, Envelope, advanced_by, datagram_at, datagrams_from}

-- ---- datagrams

from-append : (e : Envelope) (sender : Option SenderState) (index : ℕ) (xs ys : List Payload)
    → datagrams_from e sender index (xs ++ ys) ≡ datagrams_from e sender index xs ++ datagrams_from e sender (index + length xs) ys
from-append e sender index [] ys =
    let here : index ≡ index + 0 = omega arith in
    ap (λ (n : ℕ). datagrams_from e sender n ys) here
from-append e sender index (x ∷ xs) ys =
    let far : index + 1 + length xs ≡ index + suc (length xs) = omega arith in
    ap (λ (l : List (List ℕ)). datagram_at e sender index x ∷ l) (from-append e sender (index + 1) xs ys)
    ∙ ap (λ (n : ℕ). datagrams_from e sender index (x ∷ xs) ++ datagrams_from e sender n ys) far

length-made : (e : Envelope) (sender : Option SenderState) (index : ℕ) (payloads : List Payload) → length (datagrams_from e sender index payloads) ≡ length payloads
length-made e sender index [] = refl
length-made e sender index (payload ∷ payloads) = ap suc (length-made e sender (index + 1) payloads)

pub count-made : (e : Envelope) (sender : Option SenderState) (cargo : CargoValue) (loads : List Load) → length (made_of e sender cargo loads) ≡ length loads
count-made e sender cargo loads = length-made e sender 0 (map (payload_in cargo) loads) ∙ length-map loads (payload_in cargo)

pub made-count : (e : Envelope) (sender : Option SenderState) (payloads : List Payload) → length (datagrams_from e sender 0 payloads) ≡ length payloads
made-count e sender payloads = length-made e sender 0 payloads

made-append : (e : Envelope) (sender : Option SenderState) (cargo : CargoValue) (xs ys : List Load)
    → made_of e sender cargo (xs ++ ys) ≡ made_of e sender cargo xs ++ datagrams_from e sender (length xs) (map (payload_in cargo) ys)
made-append e sender cargo xs ys =
    let far : 0 + length (map (payload_in cargo) xs) ≡ length xs = omega (arith, length-map xs (payload_in cargo)) in
    ap (datagrams_from e sender 0) (map-append (payload_in cargo) xs ys)
    ∙ from-append e sender 0 (map (payload_in cargo) xs) (map (payload_in cargo) ys)
    ∙ ap (λ (n : ℕ). made_of e sender cargo xs ++ datagrams_from e sender n (map (payload_in cargo) ys)) far

-- the datagram with one load more
pub made-more : (e : Envelope) (sender : Option SenderState) (cargo : CargoValue) (loads : List Load) (index : ℕ) (d : Load) → index < length loads
    → made_of e sender cargo (take (index + 1) loads) ≡ made_of e sender cargo (take index loads) ++ datagram_at e sender index (payload_in cargo (get_or loads index d)) ∷ []
made-more e sender cargo loads index d within =
    ap (made_of e sender cargo) (take_more loads index d within)
    ∙ made-append e sender cargo (take index loads) (get_or loads index d ∷ [])
    ∙ ap (λ (n : ℕ). made_of e sender cargo (take index loads) ++ datagram_at e sender n (payload_in cargo (get_or loads index d)) ∷ [])
    (length-take-le index loads (omega arith))

-- ---- one behind another

pub joined-append : (xs ys : List (List ℕ)) → joined (xs ++ ys) ≡ joined xs ++ joined ys
joined-append [] ys = refl
joined-append (x ∷ xs) ys = ap (λ (l : List ℕ). x ++ l) (joined-append xs ys) ∙ sym (append_assoc x (joined xs) (joined ys))

pub joined-push : (xs : List (List ℕ)) (x : List ℕ) → joined (xs ++ x ∷ []) ≡ joined xs ++ x
joined-push xs x = joined-append xs (x ∷ []) ∙ ap (λ (l : List ℕ). joined xs ++ l) (append-nil x)

ranges-push-from : (start : ℕ) (xs : List (List ℕ)) (x : List ℕ)
    → ranges_of start (xs ++ x ∷ []) ≡ ranges_of start xs ++ record { start = start + length (joined xs); end = start + length (joined xs) + length x } ∷ []
ranges-push-from start [] x =
    let here : start ≡ start + 0 = omega arith in
    ap (λ (n : ℕ). let range : Range = record { start = n; end = n + length x } in range ∷ []) here
ranges-push-from start (y ∷ xs) x =
    let far : start + length y + length (joined xs) ≡ start + length (y ++ joined xs) = omega (arith, length-append y (joined xs)) in
    let one : Range = record { start = start; end = start + length y } in
    ap (λ (l : List Range). one ∷ l) (ranges-push-from (start + length y) xs x)
    ∙ ap (λ (n : ℕ). let range : Range = record { start = n; end = n + length x } in ranges_of start (y ∷ xs) ++ range ∷ []) far

pub ranges-push : (xs : List (List ℕ)) (x : List ℕ) (start end : ℕ) → start ≡ length (joined xs) → end ≡ start + length x
    → ranges_of 0 (xs ++ x ∷ []) ≡ ranges_of 0 xs ++ record { start = start; end = end } ∷ []
ranges-push xs x start end begins ends =
    let one : 0 + length (joined xs) ≡ start = omega arith in
    let two : 0 + length (joined xs) + length x ≡ end = omega arith in
    ranges-push-from 0 xs x
    ∙ ap (λ (n : ℕ). let range : Range = record { start = n; end = 0 + length (joined xs) + length x } in ranges_of 0 xs ++ range ∷ []) one
    ∙ ap (λ (n : ℕ). let range : Range = record { start = start; end = n } in ranges_of 0 xs ++ range ∷ []) two

-- the first datagrams and the next are no longer than all
pub joined-fewer : (e : Envelope) (sender : Option SenderState) (cargo : CargoValue) (loads : List Load) (index : ℕ) (d : Load) → index < length loads
    → length (joined (made_of e sender cargo (take index loads))) + length (datagram_at e sender index (payload_in cargo (get_or loads index d))) ≤ length (joined (made_of e sender cargo loads))
joined-fewer e sender cargo loads index d within =
    let front = made_of e sender cargo (take (index + 1) loads) in
    let rest = datagrams_from e sender (length (take (index + 1) loads)) (map (payload_in cargo) (drop (index + 1) loads)) in
    let split : made_of e sender cargo loads ≡ front ++ rest =
    ap (made_of e sender cargo) (sym (take-append-drop (index + 1) loads)) ∙ made-append e sender cargo (take (index + 1) loads) (drop (index + 1) loads) in
    let whole : length (joined (made_of e sender cargo loads)) ≡ length (joined front) + length (joined rest) =
    ap (λ (l : List (List ℕ)). length (joined l)) split ∙ ap length (joined-append front rest) ∙ length-append (joined front) (joined rest) in
    let next = datagram_at e sender index (payload_in cargo (get_or loads index d)) in
    let before = made_of e sender cargo (take index loads) in
    let more : length (joined front) ≡ length (joined before) + length next =
    ap (λ (l : List (List ℕ)). length (joined l)) (made-more e sender cargo loads index d within) ∙ ap length (joined-push before next) ∙ length-append (joined before) next in
    omega (arith, whole, more)

-- ---- the datagrams that stand in their bytes

abbrev range_in : List ℕ → Range → List ℕ
range_in bytes range = slice_range bytes range.start range.end

here-in : (before datagram after : List ℕ) (start : ℕ) → length before ≡ start
    → slice_range (before ++ (datagram ++ after)) start (start + length datagram) ≡ datagram
here-in before datagram after start long =
    let size : start + length datagram - start ≡ length datagram = omega arith in
    ap (λ (l : List ℕ). take (start + length datagram - start) l) (drop_at before (datagram ++ after) start long)
    ∙ ap (λ (n : ℕ). take n (datagram ++ after)) size ∙ take_at datagram after (length datagram) refl

standing : (before : List ℕ) (datagrams : List (List ℕ)) (after : List ℕ) (start : ℕ) → length before ≡ start
    → map (range_in (before ++ (joined datagrams ++ after))) (ranges_of start datagrams) ≡ datagrams
standing before [] after start long = refl
standing before (datagram ∷ datagrams) after start long =
    let rest = joined datagrams ++ after in
    let all = before ++ (joined (datagram ∷ datagrams) ++ after) in
    let next = start + length datagram in
    let bytes : all ≡ before ++ (datagram ++ rest) = ap (λ (l : List ℕ). before ++ l) (append_assoc datagram (joined datagrams) after) in
    let first : range_in all (record { start = start; end = next }) ≡ datagram =
    ap (λ (l : List ℕ). slice_range l start next) bytes ∙ here-in before datagram rest start long in
    let moved : all ≡ (before ++ datagram) ++ rest = bytes ∙ sym (append_assoc before datagram rest) in
    let far : length (before ++ datagram) ≡ next = omega (arith, length-append before datagram) in
    let others : map (range_in all) (ranges_of next datagrams) ≡ datagrams =
    ap (λ (l : List ℕ). map (range_in l) (ranges_of next datagrams)) moved ∙ standing (before ++ datagram) datagrams after next far in
    ap (λ (x : List ℕ). x ∷ map (range_in all) (ranges_of next datagrams)) first
    ∙ ap (λ (l : List (List ℕ)). datagram ∷ l) others

pub datagrams-stand : (free : List ℕ) (datagrams : List (List ℕ))
    → map (range_in ([] ++ joined datagrams ++ drop (0 + length (joined datagrams)) free)) (ranges_of 0 datagrams) ≡ datagrams
datagrams-stand free datagrams = standing [] datagrams (drop (0 + length (joined datagrams)) free) 0 refl

-- each stands within them
pub record IsRange (end : ℕ) (range : Range) : Type 0 where
  pub rising : range.start ≤ range.end
  pub within : range.end ≤ end

ranges-within-from : (end start : ℕ) (datagrams : List (List ℕ)) → start + length (joined datagrams) ≤ end → All (IsRange end) (ranges_of start datagrams)
ranges-within-from end start [] room = All-nil (IsRange end)
ranges-within-from end start (datagram ∷ datagrams) room =
    let long = length-append datagram (joined datagrams) in
    let one : Range = record { start = start; end = start + length datagram } in
    let first : IsRange end one = record { rising = omega arith; within = omega (arith, long) } in
    All-cons (IsRange end) one (ranges_of (start + length datagram) datagrams) first (ranges-within-from end (start + length datagram) datagrams (omega (arith, long)))

pub ranges-within : (end : ℕ) (datagrams : List (List ℕ)) → length (joined datagrams) ≤ end → All (IsRange end) (ranges_of 0 datagrams)
ranges-within end datagrams room = ranges-within-from end 0 datagrams (omega arith)

-- ---- senders

pub advanced-used : (mode : Mode) (s : SenderState) (count : ℕ) → (advanced_by mode s count).used ≡ s.used + count
advanced-used mode s zero = omega arith
advanced-used mode s (suc count) = omega (arith, advanced-used mode s count)

pub advanced-random : (mode : Mode) (s : SenderState) (count : ℕ) → (advanced_by mode s count).random ≡ s.random
advanced-random mode s zero = refl
advanced-random mode s (suc count) = advanced-random mode s count

pub advanced-sender : (mode : Mode) (s : SenderState) (count : ℕ) → IsSender s → s.used + count ≤ 4294967295 → IsSender (advanced_by mode s count)
advanced-sender mode s count is few =
    record {
      random = ap length (advanced-random mode s count) ∙ is.random;
      used = omega (arith, advanced-used mode s count, few);
    }
