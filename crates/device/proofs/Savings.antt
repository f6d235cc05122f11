-- The numbers of a state that is saved, place by place.
use Rattle.std.proofs.Common.{◌≡◌, ℕ, zero, suc, ◌+◌, ◌-◌, ◌%◌, ◌/◌, ◌<◌, ◌≤◌, ◌⊎◌, inl, inr, List, [], ◌∷◌, length, get_or, set, refl, sym, ap, subst, arith, length-append, ◌∙◌}
use Rattle.std.specs.Prelude.{flat_map}
use Rattle.std.specs.List.{HoldsAt}
use Rattle.std.proofs.lemmas.Bool.{cases_eq}
use Rattle.std.proofs.lemmas.List.{get_or-set_other, get_or-set_same, get_or_read}
use Rattle.ps_config.specs.declared.parts.GroupPart.{GroupPart}
use Rattle.writer_group.specs.Standing.{index_of, writer_count}
use Rattle.device.specs.Sides.{IsPublisher}
use Rattle.device.specs.Storing.{AreMessagesSaved, ArePairsSaved, AreWords, IsMessageAt, IsPairAt, IsWordAt, message_place, saved_pair}
use Rattle.device.specs.declared.publisher.Publisher.{Publisher}

-- ---- one place more

pub more-places : (P : ℕ → ℕ → Type 0) (words : List ℕ) (i x : ℕ) → i < length words → P i x → ((place : ℕ) → place < i → P place (get_or words place 0))
    → (place : ℕ) → place < i + 1 → P place (get_or (set words i x) place 0)
more-places P words i x low own before place below = by_place (cases_eq place i)
  where
    by_place : (place ≡ i) ⊎ (place ≡ i → ⊥) → P place (get_or (set words i x) place 0)
    by_place (inl here) = subst (λ (k : ℕ). P k (get_or (set words i x) k 0)) (sym here) (subst (P i) (sym (get_or-set_same words i x 0 low)) own)
    by_place (inr differs) = subst (P place) (sym (get_or-set_other words i place x 0 differs)) (before place (omega (arith, below, differs)))

pub more-held : {X : Type 0} (P : ℕ → X → Type 0) (list : List X) (i : ℕ) (x : X) → i < length list → x ≡ get_or list i x → P i x → ((k : ℕ) → k < i → HoldsAt (P k) list k)
    → (k : ℕ) → k < i + 1 → HoldsAt (P k) list k
more-held {X} P list i x low is own before k below = by_place (cases_eq k i)
  where
    by_place : (k ≡ i) ⊎ (k ≡ i → ⊥) → HoldsAt (P k) list k
    by_place (inl here) = subst (λ (n : ℕ). HoldsAt (P n) list n) (sym here) (λ d. subst (P i) (get_or_read list i x low is d) own)
    by_place (inr differs) = before k (omega (arith, below, differs))

-- ---- by the kind of a place

pub token-word : (ahead : ℕ) (publisher : Publisher) (place word : ℕ) (pair : ℕ × ℕ) → place < 4 → IsPairAt ahead publisher place pair → word ≡ pair.0 → IsWordAt ahead publisher place word
token-word ahead publisher place word pair low is word_is = record {
  token = λ _. (pair, (is, word_is));
  number = λ keygroup few same. absurd (omega (arith, low, same));
  message = λ group writer few same. absurd (omega (arith, low, same));
}

pub number-word : (ahead : ℕ) (publisher : Publisher) (place keygroup word : ℕ) (pair : ℕ × ℕ) → 4 ≤ place → place < 8 → keygroup ≡ place - 4 → IsPairAt ahead publisher keygroup pair → word ≡ pair.1
    → IsWordAt ahead publisher place word
number-word ahead publisher place keygroup word pair high low at is word_is = record {
  token = λ few. absurd (omega (arith, high, few));
  number = λ k few same. (pair, (subst (λ (n : ℕ). IsPairAt ahead publisher n pair) (omega (arith, at, same)) is, word_is));
  message = λ group writer few same. absurd (omega (arith, low, same));
}

pub message-word : (ahead : ℕ) (publisher : Publisher) (place group writer word : ℕ) → 8 ≤ place → group ≡ (place - 8) / 16 → writer ≡ (place - 8) % 16 → IsMessageAt ahead publisher group writer word
    → IsWordAt ahead publisher place word
message-word ahead publisher place group writer word high group_is writer_is is = record {
  token = λ few. absurd (omega (arith, high, few));
  number = λ k few same. absurd (omega (arith, high, few, same));
  message = λ g w few same.
      subst (λ (n : ℕ). IsMessageAt ahead publisher n w word) (omega (arith, group_is, few, same))
      (subst (λ (n : ℕ). IsMessageAt ahead publisher group n word) (omega (arith, writer_is, few, same)) is);
}

-- ---- all places

same-pair : (a b : ℕ) (pair : ℕ × ℕ) → a ≡ pair.0 → b ≡ pair.1 → (a, b) ≡ pair
same-pair a b pair first second = ap (λ (n : ℕ). (n, b)) first ∙ ap (λ (n : ℕ). (pair.0, n)) second

pub pairs-saved : (ahead : ℕ) (publisher : Publisher) (words : List ℕ) → IsPublisher publisher → AreWords ahead publisher words → ArePairsSaved ahead publisher words
pairs-saved ahead publisher words is are = λ keygroup within d.
    let few : keygroup < 4 = omega (arith, within, is.senders_count, is.good.sound.few.keygroups) in
    let token = (are keygroup (omega (arith, few))).token few in
    let number = (are (4 + keygroup) (omega (arith, few))).number keygroup few refl in
    same-pair (get_or words keygroup 0) (get_or words (4 + keygroup) 0) (saved_pair ahead publisher.store keygroup (get_or publisher.senders.items keygroup d))
    (token.1.1 ∙ ap (λ (p : ℕ × ℕ). p.0) (token.1.0 within d)) (number.1.1 ∙ ap (λ (p : ℕ × ℕ). p.1) (number.1.0 within d))

flat-part : (parts : List GroupPart) (i : ℕ) (d : GroupPart) → i < length parts → length (get_or parts i d).writer ≤ length (flat_map (λ (group : GroupPart). group.writer) parts)
flat-part [] i d low = absurd (omega (arith, low))
flat-part (part ∷ parts) zero d low = omega (arith, length-append part.writer (flat_map (λ (group : GroupPart). group.writer) parts))
flat-part (part ∷ parts) (suc i) d low =
    omega (arith, flat-part parts i d (omega (arith, low)), length-append part.writer (flat_map (λ (group : GroupPart). group.writer) parts))

some-group : (parts : List GroupPart) (i : ℕ) → i < length parts → GroupPart
some-group [] i low = absurd (omega (arith, low))
some-group (part ∷ parts) i low = part

pub messages-saved : (ahead : ℕ) (publisher : Publisher) (words : List ℕ) → IsPublisher publisher → AreWords ahead publisher words → AreMessagesSaved ahead publisher words
messages-saved ahead publisher words is are = λ group writer within d has.
    let side = is.sides_are group d within in
    let at : index_of (get_or publisher.sides.items group d).group ≡ group = side.index ∙ is.places group d within in
    let config = publisher.config in
    let there : group < length config.group = omega (arith, side.keeps_to.index, at) in
    let part = some-group config.group group there in
    let made = side.keeps_to.made part in
    let writers = subst (λ (k : ℕ). writer_count (get_or publisher.sides.items group d).group ≡ length (get_or config.group k part).writer) at made.writers in
    let few : writer < 16 = omega (arith, has, writers, flat-part config.group group part there, is.good.sound.few.writers) in
    let low : group < 4 = omega (arith, there, is.good.sound.few.groups) in
    (are (message_place group writer) (omega (arith, few, low))).message group writer few refl within d has
