-- Lines read one after another.
use Rattle.std.proofs.Common.{◌≡◌, ℕ, ◌+◌, ◌<◌, List, [], ◌∷◌, ◌++◌, length, get_or, take, Err, refl, sym, ap, ◌∙◌, subst, append_assoc}
use Rattle.std.specs.Prelude.{All, IsOk, is_ok}
use Rattle.std.proofs.lemmas.Bool.{false≢true}
use Rattle.std.proofs.lemmas.List.{append-nil, map-append, take_more}
use Rattle.std.proofs.lemmas.List.Elements.{All-append}
use Rattle.ps_config.specs.declared.parts.Config.{Config}
use Rattle.json_frames.specs.declared.message.JsonPart.{JsonPart}
use Rattle.json_frames.specs.Parts.{Part, IsPartOf, part_in, parts_in}
use Rattle.json_frames.specs.declared.json_end.JsonEnd.{JsonEnd}
use Rattle.json_frames.specs.Documents.{document}
use Rattle.json_tap.specs.Reading.{AreReadAs}
use Rattle.json_tap.specs.Transcoding.{Message, lines_from}
use Rattle.json_text.specs.Parts.{AddsLine}
use Rattle.json_text.specs.Reading.{ReadsLine, ReadsLines, parts_of}

reads_more : (config : Config) (lines : List (List ℕ)) (line : List ℕ) (parts added : List Part) → ReadsLines config lines parts → ReadsLine config line added
    → ReadsLines config (lines ++ line ∷ []) (parts ++ added)
reads_more config [] line parts added none read = (added, [], read, refl, ap (λ (l : List Part). l ++ added) none ∙ sym (append-nil added))
reads_more config (first ∷ lines) line parts added so read =
    (so.0, so.1 ++ added, so.2, reads_more config lines line so.1 added so.3 read, ap (λ (l : List Part). l ++ added) so.4 ∙ append_assoc so.0 so.1 added)

pub line_more : (config : Config) (lines : List (List ℕ)) (line : List ℕ) (old new : List JsonPart) → ReadsLines config lines (parts_in config.dataset old)
    → AddsLine config line old new → ReadsLines config (lines ++ line ∷ []) (parts_in config.dataset new)
line_more config lines line old new so adds =
    subst (ReadsLines config (lines ++ line ∷ []))
    (sym (ap (parts_in config.dataset) adds.new_is ∙ map-append (part_in config.dataset) old adds.added))
    (reads_more config lines line (parts_in config.dataset old) (parts_in config.dataset adds.added) so adds.read)

-- the lines up to a place, one line more
pub lines_more : (config : Config) (lines : List (List ℕ)) (i : ℕ) (line bytes : List ℕ) (old new : List JsonPart) → i < length lines → line ≡ get_or lines i line → bytes ≡ line
    → ReadsLines config (take i lines) (parts_in config.dataset old) → AddsLine config bytes old new → ReadsLines config (take (i + 1) lines) (parts_in config.dataset new)
lines_more config lines i line bytes old new below is same so adds =
    subst (λ (l : List (List ℕ)). ReadsLines config l (parts_in config.dataset new))
    (ap (λ (v : List ℕ). take i lines ++ v ∷ []) is ∙ sym (take_more lines i line below))
    (line_more config (take i lines) line old new so (subst (λ (b : List ℕ). AddsLine config b old new) same adds))

pub writable_more : (config : Config) (line : List ℕ) (old new : List JsonPart) → All (IsPartOf config.dataset) old → AddsLine config line old new → All (IsPartOf config.dataset) new
writable_more config line old new each adds =
    subst (All (IsPartOf config.dataset)) (sym adds.new_is) (All-append (IsPartOf config.dataset) old adds.added each adds.writable)

-- ---- and what they were written of

read-from : (config : Config) (number : ℕ) (messages : List Message) (parts : List Part) → AreReadAs config number messages → ReadsLines config (lines_from config number messages) parts
    → parts ≡ parts_of messages
read-from config number [] parts are is = is
read-from config number (message ∷ messages) parts are is =
    let first = is.2 in
    is.4 ∙ ap (λ (l : List Part). l ++ is.1) (first.2 ∙ (are.0 first.0 first.1).same_parts)
    ∙ ap (λ (l : List Part). message.parts ++ l) (read-from config (number + 1) messages is.1 are.1 is.3)

pub read-all : (config : Config) (messages : List Message) (parts : List Part) → AreReadAs config 0 messages → ReadsLines config (lines_from config 0 messages) parts → parts ≡ parts_of messages
read-all config messages parts are is = read-from config 0 messages parts are is

pub not-refused : (line : List ℕ) (end : JsonEnd) → IsOk (document line) → document line ≡ Err end → ⊥
not-refused line end ok refused = false≢true (sym (ap is_ok refused) ∙ ok)
