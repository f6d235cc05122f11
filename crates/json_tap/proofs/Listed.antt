-- The frames of a payload, one after another.
use Rattle.std.proofs.Common.{◌≡◌, ℕ, zero, suc, ◌*◌, ◌/◌, ◌<◌, ◌≤◌, Bool, true, false, List, [], ◌∷◌, ◌++◌, length, take, drop, get_or, map, length-take, Option, Some, None, refl, sym, ap, ◌∙◌, arith, append-nil, append_assoc}
use Rattle.std.specs.Prelude.{zip, option_map, nat_lt, if◌then◌else◌}
use Rattle.std.specs.Int.{w16, from_le_bytes}
use Rattle.std.proofs.lemmas.Bool.{ltb-false}
use Rattle.std.proofs.lemmas.Bool.Decides.{nat_tests}
use Rattle.std.specs.List.{All}
use Rattle.std.proofs.lemmas.List.{length-map, map-append}
use Rattle.std.proofs.lemmas.List.Elements.{All-push}
use Rattle.uadp_header.specs.Headers.{ids_of}
use Rattle.uadp_header.proofs.IdLaws.{ids-count, ids-at}
use Rattle.payload_layout.specs.declared.parts.Part.{Part as Place}
use Rattle.payload_layout.specs.Payloads.{frame_at, frames_of, sizes_of, cut_by, parts_of, HasBadSizes}
use Rattle.ps_config.specs.declared.parts.Config.{Config}
use Rattle.json_frames.specs.declared.message.JsonPart.{JsonPart}
use Rattle.json_frames.specs.Parts.{Part, IsPartOf, part_in, parts_in}
use Rattle.json_tap.specs.Transcoding.{part_of, all_of, are_past, listed}
use Rattle.json_tap.specs.Parts.{ArePartsIf}

-- ---- two lists side by side

pub side_by_side : {A B C : Type 0} (f : B → C) (xs : List A) (ys : List B) (i : ℕ) (d : A) (e : B) → i < length xs → i < length ys → drop i (zip xs (map f ys)) ≡ (get_or xs i d, f (get_or ys i e)) ∷ drop (suc i) (zip xs (map f ys))
side_by_side f [] ys i d e one other = absurd (omega (arith, one))
side_by_side f (x ∷ xs) [] i d e one other = absurd (omega (arith, other))
side_by_side f (x ∷ xs) (y ∷ ys) zero d e one other = refl
side_by_side f (x ∷ xs) (y ∷ ys) (suc i) d e one other = side_by_side f xs ys i d e (omega (arith, one)) (omega (arith, other))

pub no_further : {A B C : Type 0} (f : B → C) (xs : List A) (ys : List B) (i : ℕ) → length ys ≤ i → drop i (zip xs (map f ys)) ≡ []
no_further f [] [] zero past = refl
no_further f [] [] (suc i) past = refl
no_further f [] (y ∷ ys) zero past = refl
no_further f [] (y ∷ ys) (suc i) past = refl
no_further f (x ∷ xs) [] zero past = refl
no_further f (x ∷ xs) [] (suc i) past = refl
no_further f (x ∷ xs) (y ∷ ys) zero past = absurd (omega (arith, past))
no_further f (x ∷ xs) (y ∷ ys) (suc i) past = no_further f xs ys i (omega (arith, past))

-- ---- all that are there

behind_nothing : {X : Type 0} (xs : Option (List X)) → xs ≡ option_map (λ others. [] ++ others) xs
behind_nothing None = refl
behind_nothing (Some xs) = refl

behind_one : {X : Type 0} (before : List X) (x : X) (xs : Option (List X)) → option_map (λ others. before ++ others) (option_map (λ others. x ∷ others) xs) ≡ option_map (λ others. (before ++ x ∷ []) ++ others) xs
behind_one before x None = refl
behind_one before x (Some xs) = ap Some (sym (append_assoc before (x ∷ []) xs))

-- The messages so far are these parts, each of which can be written.
pub record SoFar (config : Config) (messages : List (ℕ × List ℕ)) (index : ℕ) (parts : List JsonPart) : Type 0 where
  pub all : all_of (map (part_of config) messages) ≡ option_map (λ others. parts_in config.dataset parts ++ others) (all_of (map (part_of config) (drop index messages)))
  pub written : All (IsPartOf config.dataset) parts

pub so_far-none : (config : Config) (messages : List (ℕ × List ℕ)) → SoFar config messages 0 []
so_far-none config messages = record {
  all = behind_nothing (all_of (map (part_of config) messages));
  written = λ i d below. absurd (omega (arith, below));
}

pub so_far-more : (config : Config) (messages : List (ℕ × List ℕ)) (index : ℕ) (message : ℕ × List ℕ) (parts : List JsonPart) (part : JsonPart) → drop index messages ≡ message ∷ drop (suc index) messages → part_of config message ≡ Some (part_in config.dataset part) → IsPartOf config.dataset part → SoFar config messages index parts → SoFar config messages (suc index) (parts ++ part ∷ [])
so_far-more config messages index message parts part here is written far =
    let metas = config.dataset in
    let behind = map (part_of config) (drop (suc index) messages) in
    record {
      all = far.all ∙ ap (λ (l : List (ℕ × List ℕ)). option_map (λ others. parts_in metas parts ++ others) (all_of (map (part_of config) l))) here
          ∙ ap (λ (p : Option Part). option_map (λ others. parts_in metas parts ++ others) (all_of (p ∷ behind))) is
          ∙ behind_one (parts_in metas parts) (part_in metas part) (all_of behind)
          ∙ ap (λ (l : List Part). option_map (λ others. l ++ others) (all_of behind)) (sym (map-append (part_in metas) parts (part ∷ [])));
      written = All-push (IsPartOf metas) parts part far.written written;
    }

-- a message that is no part leaves none
pub so_far-missing : (config : Config) (messages : List (ℕ × List ℕ)) (index : ℕ) (message : ℕ × List ℕ) (parts : List JsonPart) → drop index messages ≡ message ∷ drop (suc index) messages → part_of config message ≡ None → SoFar config messages index parts → all_of (map (part_of config) messages) ≡ None
so_far-missing config messages index message parts here is far =
    let metas = config.dataset in
    far.all ∙ ap (λ (l : List (ℕ × List ℕ)). option_map (λ others. parts_in metas parts ++ others) (all_of (map (part_of config) l))) here
    ∙ ap (λ (p : Option Part). option_map (λ others. parts_in metas parts ++ others) (all_of (p ∷ map (part_of config) (drop (suc index) messages)))) is

pub so_far-all : (config : Config) (messages : List (ℕ × List ℕ)) (index : ℕ) (parts : List JsonPart) → drop index messages ≡ [] → SoFar config messages index parts → ArePartsIf config (Some parts) (all_of (map (part_of config) messages))
so_far-all config messages index parts ends far =
    let metas = config.dataset in
    let all : all_of (map (part_of config) messages) ≡ Some (parts_in metas parts) =
    far.all ∙ ap (λ (l : List (ℕ × List ℕ)). option_map (λ others. parts_in metas parts ++ others) (all_of (map (part_of config) l))) ends
    ∙ ap Some (append-nil (parts_in metas parts)) in (all, far.written)

-- ---- the messages of a payload

-- the messages at these places, with the ids of their writers
abbrev pub messages_at : List ℕ → List ℕ → List Place → List (ℕ × List ℕ)
messages_at ids payload places = zip (ids_of ids) (map (frame_at payload) places)

pub message_here : (ids payload : List ℕ) (places : List Place) (i : ℕ) (place : Place) (id : ℕ) (bytes : List ℕ) → length ids ≡ 2 * length places → i < length places → id ≡ from_le_bytes w16 (take 2 (drop (2 * i) ids)) → bytes ≡ frame_at payload (get_or places i place) → drop i (messages_at ids payload places) ≡ (id, bytes) ∷ drop (suc i) (messages_at ids payload places)
message_here ids payload places i place id bytes even inside id_is bytes_are =
    let count = ids-count ids in
    let low : i < length (ids_of ids) = omega (arith, count, even, inside) in
    let half : i < length ids / 2 = omega (arith, even, inside) in
    let rest = drop (suc i) (messages_at ids payload places) in
    side_by_side (frame_at payload) (ids_of ids) places i 0 place low inside
    ∙ ap (λ (n : ℕ). (n, frame_at payload (get_or places i place)) ∷ rest) (ids-at ids i half ∙ sym id_is)
    ∙ ap (λ (l : List ℕ). (id, l) ∷ rest) (sym bytes_are)

bad-past : (count : ℕ) (payload : List ℕ) → are_past count payload ≡ true → HasBadSizes count payload
bad-past count payload e = record { several = grind (arith, nat_tests); past = grind (arith, nat_tests) }

past-bad : (count : ℕ) (payload : List ℕ) → HasBadSizes count payload → are_past count payload ≡ true
past-bad count payload bad = grind (arith, nat_tests, bad.several, bad.past)

none_if : {X : Type 0} (b : Bool) (x : Option X) → b ≡ true → (if b then None else x) ≡ None
none_if true x e = refl
none_if false x e = absurd cc

some_if : {X : Type 0} (b : Bool) (x : Option X) → (b ≡ true → ⊥) → (if b then None else x) ≡ x
some_if true x not = absurd (not refl)
some_if false x not = refl

pub listed-refused : (config : Config) (ids payload : List ℕ) → HasBadSizes (length ids / 2) payload → listed config ids payload ≡ None
listed-refused config ids payload bad =
    none_if (are_past (length (ids_of ids)) payload) (all_of (map (part_of config) (parts_of (ids_of ids) payload)))
    (ap (λ (n : ℕ). are_past n payload) (ids-count ids) ∙ past-bad (length ids / 2) payload bad)

pub listed-found : (config : Config) (ids payload : List ℕ) (places : List Place) → (HasBadSizes (length ids / 2) payload → ⊥) → map (frame_at payload) places ≡ frames_of (length ids / 2) payload → listed config ids payload ≡ all_of (map (part_of config) (messages_at ids payload places))
listed-found config ids payload places good frames =
    some_if (are_past (length (ids_of ids)) payload) (all_of (map (part_of config) (parts_of (ids_of ids) payload)))
    (λ past. good (bad-past (length ids / 2) payload (sym (ap (λ (n : ℕ). are_past n payload) (ids-count ids)) ∙ past)))
    ∙ ap (λ (n : ℕ). all_of (map (part_of config) (zip (ids_of ids) (frames_of n payload)))) (ids-count ids)
    ∙ ap (λ (l : List (List ℕ)). all_of (map (part_of config) (zip (ids_of ids) l))) (sym frames)

pieces-count : (sizes bytes : List ℕ) → length (cut_by sizes bytes) ≡ length sizes
pieces-count [] bytes = refl
pieces-count (size ∷ sizes) bytes = ap suc (pieces-count sizes (drop size bytes))

sizes-count : (count : ℕ) (payload : List ℕ) → length (sizes_of count payload) ≡ count
sizes-count zero payload = refl
sizes-count (suc count) payload = ap suc (sizes-count count (drop 2 payload))

frames-count : (count : ℕ) (payload : List ℕ) → length (frames_of count payload) ≡ count
frames-count count payload = by_test (nat_lt 1 count) refl
  where
    by_test : (b : Bool) → nat_lt 1 count ≡ b → length (if b then cut_by (sizes_of count payload) (drop (2 * count) payload) else take count (payload ∷ [])) ≡ count
    by_test true several = pieces-count (sizes_of count payload) (drop (2 * count) payload) ∙ sizes-count count payload
    by_test false few =
        let one : count ≤ 1 = ltb-false 1 count few in
        omega (arith, length-take count (payload ∷ []), one)

-- there is a place for each id
pub places-count : (ids payload : List ℕ) (places : List Place) → 2 * (length ids / 2) ≡ length ids → map (frame_at payload) places ≡ frames_of (length ids / 2) payload → length ids ≡ 2 * length places
places-count ids payload places even frames =
    let count : length places ≡ length ids / 2 = sym (length-map places (frame_at payload)) ∙ ap length frames ∙ frames-count (length ids / 2) payload in
    omega (arith, even, count)
