-- Documents that show a table.
use Rattle.std.proofs.Common.{◌≡◌, ℕ, ◌≤◌, Bool, true, false, ◌||◌, cond, List, [], ◌∷◌, length, map, Some, None, refl, sym, ap, ◌∙◌}
use Rattle.std.proofs.lemmas.List.Sums.{count_by-le-length}
use Rattle.std.proofs.lemmas.Str.{IsUtf8-from_is_utf8, is_utf8-from_IsUtf8}
use Rattle.std.specs.Str.{IsUtf8, bytes_eq, is_utf8}
use Rattle.std.specs.List.{list_any}
use Rattle.toml.specs.Data.{Members}
use Rattle.toml.specs.Parse.{parse_document}
use Rattle.config_tables.specs.declared.document.Placed.{Placed}
use Rattle.config_tables.specs.Paths.{path_text}
use Rattle.config_tables.specs.Seen.{seen}
use Rattle.config_tables.specs.Tables.{Located, tables}
use Rattle.uapubsub_c.specs.Places.{line_feeds, shows, shows_in}

pub few_feeds : (text : List ℕ) → line_feeds text ≤ length text
few_feeds text = count_by-le-length _ text

any_seen : (p : Located → Bool) (ts : List Placed) → list_any p (map seen ts) ≡ list_any (λ t. p (seen t)) ts
any_seen p [] = refl
any_seen p (t ∷ ts) = ap (λ rest. p (seen t) || rest) (any_seen p ts)

-- the tables that are listed show what the document does
pub listed : (path : List ℕ) (document : Members) (ts : List Placed) → map seen ts ≡ tables document
    → list_any (λ placed. bytes_eq (path_text placed.place) path) ts ≡ shows_in path (Some document)
listed path document ts e = sym (any_seen (λ t. bytes_eq (path_text t.place) path) ts) ∙ ap (list_any (λ t. bytes_eq (path_text t.place) path)) e

not_shown : (path text : List ℕ) (b : Bool) → is_utf8 text ≡ b → (IsUtf8 text → parse_document text ≡ None)
    → shows_in path (cond b (parse_document text) None) ≡ false
not_shown path text true e none = ap (shows_in path) (none (IsUtf8-from_is_utf8 text e))
not_shown path text false e none = refl

pub no_document : (path text : List ℕ) → (IsUtf8 text → parse_document text ≡ None) → shows path text ≡ false
no_document path text none = not_shown path text (is_utf8 text) refl none

pub a_document : (path text : List ℕ) (document : Members) → IsUtf8 text → parse_document text ≡ Some document
    → shows path text ≡ shows_in path (Some document)
a_document path text document utf8 e = rw (is_utf8-from_IsUtf8 text utf8, e)
