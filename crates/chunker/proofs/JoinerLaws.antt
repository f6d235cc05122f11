-- What a joiner's bits and bytes are after one more chunk, and once its message is whole.
use Rattle.std.proofs.Common.{◌≡◌, refl, sym, ap, ◌∙◌, subst, arith, ℕ, ◌+◌, ◌-◌, ◌/◌, ◌%◌, ◌<◌, ◌≤◌, ◌⊎◌, inl, inr, Bool, true, false, ◌||◌, cond, List, [], ◌∷◌, ◌++◌, length, take, drop, get_or, replicate, Option, Some, None}
use Rattle.std.specs.Prelude.{◌==◌, find, option_map}
use Rattle.std.specs.Option.{option_map_or}
use Rattle.std.specs.Int.{bit_at}
use Rattle.std.specs.List.{list_any, list_all, range_with_len}
use Rattle.std.proofs.Math.Dec.{eqb}
use Rattle.std.proofs.lemmas.Bool.{eq-eqb, cases_lt}
use Rattle.std.proofs.lemmas.Bool.Decides.{nat_tests}
use Rattle.std.proofs.lemmas.List.{get_or_append_left, get_or-append_right, get_or-take, get_or-drop, length-take, length-replicate, get_or-replicate, get_or_past}
use Rattle.std.proofs.lemmas.List.FromFn.{fill_by_all}
use Rattle.std.proofs.lemmas.Nat.Bits.{bit_at-zero}
use borrow.Rule.Slice.PartMut.{put_mid, post_of}
use Rattle.chunker.specs.declared.joiner.Joiner.{Joiner}
use Rattle.chunker.specs.declared.joiner.Message.{Message}
use Rattle.chunker.specs.Cover.{has_offset, is_between}
use Rattle.chunker.specs.Chunks.{Chunk, is_at, byte_in, cover, message_of}
use Rattle.chunker.specs.Joining.{Joining, chunk_of, is_joined, joined_bytes}
use Rattle.chunker.specs.Joiners.{HasLaid, HasCurrent, IsJoinerOf, is_whole_in}
use Rattle.chunker.proofs.RangeLaws.{all_same, all_below}

-- ---- bytes written over others

put_inside : (a k o : ℕ) (xs ys : List ℕ) → a ≤ length xs → a ≤ o → o < a + length ys → get_or (put_mid a k xs ys) o 0 ≡ get_or ys (o - a) 0
put_inside a k o xs ys within low high =
    get_or-append_right (take a xs) (ys ++ post_of a k xs) a o 0 (omega (arith, length-take a xs)) low
    ∙ get_or_append_left ys (post_of a k xs) 0 (o - a) (omega (arith, low, high))

put_below : (a k o : ℕ) (xs ys : List ℕ) → a ≤ length xs → o < a → get_or (put_mid a k xs ys) o 0 ≡ get_or xs o 0
put_below a k o xs ys within below =
    get_or_append_left (take a xs) (ys ++ post_of a k xs) 0 o (omega (arith, length-take a xs, within, below)) ∙ get_or-take a xs o 0 below

put_above : (a k o : ℕ) (xs ys : List ℕ) → a ≤ length xs → k ≡ length ys → a + length ys ≤ o → get_or (put_mid a k xs ys) o 0 ≡ get_or xs o 0
put_above a k o xs ys within long above =
    let back : a + (k + (o - a - length ys)) ≡ o = omega (arith, long, above) in
    get_or-append_right (take a xs) (ys ++ post_of a k xs) a o 0 (omega (arith, length-take a xs, within)) (omega (arith, above))
    ∙ get_or-append_right ys (post_of a k xs) (length ys) (o - a) 0 refl (omega (arith, above))
    ∙ get_or-drop k (drop a xs) (o - a - length ys) 0 ∙ get_or-drop a xs (k + (o - a - length ys)) 0 ∙ ap (λ i. get_or xs i 0) back

-- ---- one more chunk

same_number : (n : ℕ) → (n == n) ≡ true
same_number n = eq-eqb n n refl

-- where a chunk of this number has an offset
at-between : (n offset total o : ℕ) (part : List ℕ) → is_at n o (chunk_of n offset total part) ≡ is_between offset (offset + length part) o
at-between n offset total o part = rw (same_number n) refl

outside : (a b o : ℕ) → is_between a b o ≡ false → (o < a) ⊎ (b ≤ o)
outside a b o e = outside_on (cases_lt o a)
  where
    past : (a b o : ℕ) → is_between a b o ≡ false → a ≤ o → b ≤ o
    past a b o e low = grind (arith, nat_tests)

    outside_on : (o < a) ⊎ (a ≤ o) → (o < a) ⊎ (b ≤ o)
    outside_on (inl less) = inl less
    outside_on (inr more) = inr (past a b o e more)

inside : (a b o : ℕ) → is_between a b o ≡ true → (a ≤ o) × (o < b)
inside a b o e = (grind (arith, nat_tests), grind (arith, nat_tests))

pub HasLaid-laid : (n offset total k : ℕ) (part ys : List ℕ) (chunks : List Chunk) (words words' bytes : List ℕ)
    → offset + length part ≤ length bytes → k ≡ length part → ys ≡ part
    → ((x : ℕ) → has_offset words' x ≡ (is_between offset (offset + length part) x || has_offset words x)) → HasLaid n total chunks words bytes
    → HasLaid n total (chunk_of n offset total part ∷ chunks) words' (put_mid offset k bytes ys)
HasLaid-laid n offset total k part ys chunks words words' bytes within long is marked has =
    let c = chunk_of n offset total part in
    record {
      marks = λ o less. marked o ∙ ap (λ b. is_between offset (offset + length part) o || b) (has.marks o less) ∙ ap (λ b. b || list_any (is_at n o) chunks) (sym (at-between n offset total o part));
      bytes_are = λ o less e. byte_on o less (is_between offset (offset + length part) o) refl (sym (marked o) ∙ e);
    }
  where
    byte_on : (o : ℕ) → o < total → (b : Bool) → is_between offset (offset + length part) o ≡ b → (is_between offset (offset + length part) o || has_offset words o) ≡ true
        → get_or (put_mid offset k bytes ys) o 0 ≡ byte_in o (cond (is_at n o (chunk_of n offset total part)) (Some (chunk_of n offset total part)) (find (is_at n o) chunks))
    byte_on o less true t e =
        let at = inside offset (offset + length part) o t in
        let here : is_at n o (chunk_of n offset total part) ≡ true = at-between n offset total o part ∙ t in
        put_inside offset k o bytes ys (omega (arith, within)) at.0 (omega (arith, at.1, ap length is)) ∙ ap (λ l. get_or l (o - offset) 0) is
        ∙ sym (ap (λ b. byte_in o (cond b (Some (chunk_of n offset total part)) (find (is_at n o) chunks))) here)
    byte_on o less false t e =
        let elsewhere : is_at n o (chunk_of n offset total part) ≡ false = at-between n offset total o part ∙ t in
        let old : has_offset words o ≡ true = sym (ap (λ b. b || has_offset words o) t) ∙ e in
        kept_byte (outside offset (offset + length part) o t) ∙ has.bytes_are o less old
        ∙ sym (ap (λ b. byte_in o (cond b (Some (chunk_of n offset total part)) (find (is_at n o) chunks))) elsewhere)
      where
        kept_byte : (o < offset) ⊎ (offset + length part ≤ o) → get_or (put_mid offset k bytes ys) o 0 ≡ get_or bytes o 0
        kept_byte (inl below) = put_below offset k o bytes ys (omega (arith, within)) below
        kept_byte (inr above) = put_above offset k o bytes ys (omega (arith, within)) (omega (arith, long, ap length is)) (omega (arith, above, ap length is))

pub HasLaid-full : (n total : ℕ) (chunks : List Chunk) (words bytes : List ℕ) → HasLaid n total chunks words bytes → list_all (has_offset words) (range_with_len 0 total) ≡ cover chunks n total
HasLaid-full n total chunks words bytes has =
    all_same (has_offset words) (λ o. list_any (is_at n o) chunks) total 0
    (λ o less. let same : 0 + o ≡ o = omega arith in ap (has_offset words) same ∙ has.marks o less ∙ sym (ap (λ o. list_any (is_at n o) chunks) same))

-- no bit is set, and no chunk is laid in
pub HasLaid-none : (n total : ℕ) (bytes : List ℕ) → HasLaid n total [] (replicate 64 0) bytes
HasLaid-none n total bytes = record {
  marks = λ o less. unmarked o;
  bytes_are = λ o less e. absurd (let wrong : false ≡ true = sym (unmarked o) ∙ e in cc);
}
  where
    zero_at : (i : ℕ) → get_or {A = ℕ} (replicate 64 0) i 0 ≡ 0
    zero_at i = elim (cases_lt i 64) [
      | inl less ↦ get_or-replicate 64 i 0 0 less
      | inr more ↦ get_or_past (replicate 64 0) i 0 (let long : length {A = ℕ} (replicate 64 0) ≡ 64 = length-replicate {A = ℕ} 64 0 in omega (arith, long))
    ]

    unmarked : (o : ℕ) → has_offset (replicate 64 0) o ≡ false
    unmarked o = ap (λ w. eqb (bit_at w (o % 64)) 1) (zero_at (o / 64)) ∙ ap (λ b. eqb b 1) (bit_at-zero (o % 64))

-- ---- a message that is whole

pub whole-bytes : (kept : Joining) (joiner : Joiner) (message : Message) → joiner.message ≡ Some message → message.is_whole ≡ true → message.total ≤ length joiner.bytes
    → IsJoinerOf kept joiner → take message.total joiner.bytes ≡ joined_bytes kept
whole-bytes kept joiner message is whole within of =
    let n = message.number in
    let t = message.total in
    let current : kept.current ≡ Some (n, t) = sym of.current_is ∙ ap (option_map (λ (m : Message). (m.number, m.total))) is in
    let joined : is_joined kept ≡ true = sym of.whole_is ∙ ap (λ (o : Option Message). option_map_or (λ m. m.is_whole) o false) is ∙ whole in
    let covered : cover kept.chunks n t ≡ true = sym (ap (λ (o : Option (ℕ × ℕ)). option_map_or (λ now. cover kept.chunks now.0 now.1) o false) current) ∙ joined in
    let has : HasLaid n t kept.chunks joiner.cover joiner.bytes = subst (λ (o : Option (ℕ × ℕ)). HasCurrent o kept.chunks joiner.cover joiner.bytes) current of.has in
    let bytes : take t joiner.bytes ≡ message_of kept.chunks n t =
    fill_by_all (λ o. byte_in o (find (is_at n o) kept.chunks)) (take t joiner.bytes) t 0 (omega (arith, length-take t joiner.bytes))
    (λ o less. get_or-take t joiner.bytes o 0 less ∙ has.bytes_are o less (has.marks o less ∙ all_below (λ o. list_any (is_at n o) kept.chunks) t o covered less)) in
    bytes ∙ sym (
    ap (λ (o : Option (ℕ × ℕ)). option_map_or (λ now. cond (cover kept.chunks now.0 now.1) (message_of kept.chunks now.0 now.1) []) o []) current
    ∙ ap (λ b. cond b (message_of kept.chunks n t) []) covered)

-- the current message isn't whole, or there is none
pub part-bytes : (kept : Joining) (joiner : Joiner) → is_whole_in joiner ≡ false → IsJoinerOf kept joiner → [] ≡ joined_bytes kept
part-bytes kept joiner part of = part_on kept.current (sym of.whole_is ∙ part)
  where
    part_on : (o : Option (ℕ × ℕ)) → option_map_or (λ now. cover kept.chunks now.0 now.1) o false ≡ false → [] ≡ option_map_or (λ now. cond (cover kept.chunks now.0 now.1) (message_of kept.chunks now.0 now.1) []) o []
    part_on None e = refl
    part_on (Some now) e = sym (ap (λ b. cond b (message_of kept.chunks now.0 now.1) []) e)
