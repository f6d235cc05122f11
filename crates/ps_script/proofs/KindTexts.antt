-- The name of a kind is a text.
use Rattle.std.proofs.Common.{◌≡◌, ℕ, Bool, false, cond, List, [], ◌∷◌, Some, None, find, refl, sym, ap, ◌∙◌, subst}
use Rattle.std.specs.Prelude.{codes}
use Rattle.std.specs.Str.{bytes_eq, IsUtf8}
use Rattle.std.proofs.lemmas.Bool.{false_from_ne_true}
use Rattle.std.proofs.lemmas.Slice.Eq.{bytes_eq-Decides}
use Rattle.ua_values.specs.declared.kind.Kind.{Kind}
use Rattle.ua_values.specs.declared.kind.Kind.TheVariants as kinds
use Rattle.config_tables.specs.Words.{kind_text, kind_named, kinds as all_kinds}

is_text : (kind : Kind) → IsUtf8 (kind_text kind)
unfolding lib.Utf8.encode
is_text kinds.Boolean = (codes "Boolean", (refl, refl))
is_text kinds.SByte = (codes "SByte", (refl, refl))
is_text kinds.Byte = (codes "Byte", (refl, refl))
is_text kinds.Int16 = (codes "Int16", (refl, refl))
is_text kinds.UInt16 = (codes "UInt16", (refl, refl))
is_text kinds.Int32 = (codes "Int32", (refl, refl))
is_text kinds.UInt32 = (codes "UInt32", (refl, refl))
is_text kinds.Int64 = (codes "Int64", (refl, refl))
is_text kinds.UInt64 = (codes "UInt64", (refl, refl))
is_text kinds.Float = (codes "Float", (refl, refl))
is_text kinds.Double = (codes "Double", (refl, refl))
is_text kinds.String = (codes "String", (refl, refl))
is_text kinds.DateTime = (codes "DateTime", (refl, refl))
is_text kinds.Guid = (codes "Guid", (refl, refl))
is_text kinds.ByteString = (codes "ByteString", (refl, refl))
is_text kinds.StatusCode = (codes "StatusCode", (refl, refl))

not_named : (word : List ℕ) → ¬ IsUtf8 word → (kind : Kind) → bytes_eq word (kind_text kind) ≡ false
not_named word bad kind =
    false_from_ne_true (bytes_eq word (kind_text kind))
    (λ same. bad (subst IsUtf8 (sym ((bytes_eq-Decides word (kind_text kind)).0 same)) (is_text kind)))

none_found : (p : Kind → Bool) → ((kind : Kind) → p kind ≡ false) → (ks : List Kind) → find p ks ≡ None
none_found p none [] = refl
none_found p none (kind ∷ ks) = ap (λ (v : Bool). cond v (Some kind) (find p ks)) (none kind) ∙ none_found p none ks

-- so bytes that aren't UTF-8 name none
pub names_no_kind : (word : List ℕ) → ¬ IsUtf8 word → None ≡ kind_named word
names_no_kind word bad = sym (none_found (λ kind. bytes_eq word (kind_text kind)) (not_named word bad) all_kinds)
