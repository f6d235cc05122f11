-- The lines of datagrams, one datagram after another.
use Rattle.std.proofs.Common.{◌≡◌, ℕ, ◌+◌, List, [], ◌∷◌, ◌++◌, length, Option, Some, None, refl, sym, ap, ◌∙◌, append-nil, arith}
use Rattle.std.specs.Prelude.{is_none, cond, option_map, option_to_list}
use Rattle.std.specs.List.{cons_option, sum_by}
use Rattle.std.proofs.lemmas.List.Elements.{filter_map-append}
use Rattle.std.proofs.lemmas.List.Sums.{sum_by-append}
use Rattle.ps_config.specs.declared.parts.Config.{Config}
use Rattle.json_tap.specs.Transcoding.{Message, transcoded, line, lines_from, messages_of, skipped_of}
use Rattle.json_tap.specs.Keeping.{IsOf, line_for, Keeps}

lines-more : (config : Config) (number : ℕ) (one other : List Message) → lines_from config number (one ++ other) ≡ lines_from config number one ++ lines_from config (number + length one) other
lines-more config number [] other =
    let same : number ≡ number + 0 = omega arith in
    ap (λ (n : ℕ). lines_from config n other) same
lines-more config number (message ∷ one) other =
    let same : number + 1 + length one ≡ number + length (message ∷ one) = omega arith in
    ap (λ (l : List (List ℕ)). line config number message ∷ l) (lines-more config (number + 1) one other ∙ ap (λ (n : ℕ). lines_from config (number + 1) one ++ lines_from config n other) same)

pub lines-count : (config : Config) (number : ℕ) (messages : List Message) → length (lines_from config number messages) ≡ length messages
lines-count config number [] = refl
lines-count config number (message ∷ messages) =
    let more = lines-count config (number + 1) messages in
    let step : length (lines_from config number (message ∷ messages)) ≡ length (message ∷ messages) = omega (arith, more) in step

pub messages-more : (config : Config) (sent : List (List ℕ)) (datagram : List ℕ) (m : Option Message) → transcoded config datagram ≡ m → messages_of config (sent ++ datagram ∷ []) ≡ messages_of config sent ++ option_to_list m
messages-more config sent datagram None e =
    filter_map-append (transcoded config) sent (datagram ∷ []) ∙ ap (λ (x : Option Message). messages_of config sent ++ cons_option x []) e
messages-more config sent datagram (Some message) e =
    filter_map-append (transcoded config) sent (datagram ∷ []) ∙ ap (λ (x : Option Message). messages_of config sent ++ cons_option x []) e

skipped-more : (config : Config) (sent : List (List ℕ)) (datagram : List ℕ) (m : Option Message) → transcoded config datagram ≡ m → skipped_of config (sent ++ datagram ∷ []) ≡ skipped_of config sent + cond (is_none m) 1 0
skipped-more config sent datagram m e =
    let skips : List ℕ → ℕ = λ d. cond (is_none (transcoded config d)) 1 0 in
    let last : sum_by skips (datagram ∷ []) ≡ cond (is_none (transcoded config datagram)) 1 0 = omega arith in
    sum_by-append skips sent (datagram ∷ []) ∙ ap (λ (n : ℕ). skipped_of config sent + n) (last ∙ ap (λ (x : Option Message). cond (is_none x) 1 0) e)

kept-of : (config : Config) (sent : List (List ℕ)) (datagram : List ℕ) (lines after : List (List ℕ)) (skipped left : ℕ) (m : Option Message) → transcoded config datagram ≡ m → IsOf config sent lines skipped → Keeps (option_map (line config (length lines)) m) lines after skipped left → IsOf config (sent ++ datagram ∷ []) after left
kept-of config sent datagram lines after skipped left None e is keeps =
    let messages = messages-more config sent datagram None e ∙ append-nil (messages_of config sent) in
    let one_more = skipped-more config sent datagram None e in
    let before = is.others in
    let now = keeps.others in
    record {
      lines_are = keeps.lines_are ∙ append-nil lines ∙ is.lines_are ∙ ap (lines_from config 0) (sym messages);
      others = omega (arith, one_more, before, now);
    }
kept-of config sent datagram lines after skipped left (Some message) e is keeps =
    let messages = messages-more config sent datagram (Some message) e in
    let none_more = skipped-more config sent datagram (Some message) e in
    let before = is.others in
    let now = keeps.others in
    let from_zero : length (messages_of config sent) ≡ 0 + length (messages_of config sent) = omega arith in
    let count : length lines ≡ 0 + length (messages_of config sent) = ap length is.lines_are ∙ lines-count config 0 (messages_of config sent) ∙ from_zero in
    record {
      lines_are = keeps.lines_are ∙ ap (λ (n : ℕ). lines ++ line config n message ∷ []) count ∙ ap (λ (l : List (List ℕ)). l ++ line config (0 + length (messages_of config sent)) message ∷ []) is.lines_are ∙ sym (lines-more config 0 (messages_of config sent) (message ∷ [])) ∙ ap (lines_from config 0) (sym messages);
      others = omega (arith, none_more, before, now);
    }

-- one datagram more was sent, and gave a line or was counted
pub kept-more : (config : Config) (sent : List (List ℕ)) (datagram : List ℕ) (lines after : List (List ℕ)) (skipped left : ℕ) → IsOf config sent lines skipped → Keeps (line_for config (length lines) datagram) lines after skipped left → IsOf config (sent ++ datagram ∷ []) after left
kept-more config sent datagram lines after skipped left is keeps =
    kept-of config sent datagram lines after skipped left (transcoded config datagram) refl is keeps
