-- The words of which one stands at a key.
use Rattle.std.specs.Prelude.{ℕ, List, [], ◌∷◌, Option, Some, None, codes, if◌then◌else◌}
use Rattle.std.specs.List.{find}
use Rattle.std.specs.Str.{bytes_eq}
use Rattle.ua_values.specs.declared.kind.Kind.{Kind}
use Rattle.ua_values.specs.declared.kind.Kind.TheVariants as kind
use Rattle.config_tables.specs.declared.words.Policy.{Policy}
use Rattle.config_tables.specs.declared.words.Policy.TheVariants as policy
use Rattle.config_tables.specs.declared.words.Layout.{Layout}
use Rattle.config_tables.specs.declared.words.Layout.TheVariants as layout
use Rattle.config_tables.specs.declared.words.Security.{Security}
use Rattle.config_tables.specs.declared.words.Security.TheVariants as security
use Rattle.config_tables.specs.declared.words.NumberingWord.{NumberingWord}
use Rattle.config_tables.specs.declared.words.NumberingWord.TheVariants as numbering

abbrev pub policy_named : List ℕ → Option Policy
policy_named word =
    if bytes_eq word (codes "aes128") then Some policy.Aes128
    else if bytes_eq word (codes "aes256") then Some policy.Aes256
    else None

abbrev pub layout_named : List ℕ → Option Layout
layout_named word =
    if bytes_eq word (codes "dynamic") then Some layout.Dynamic
    else if bytes_eq word (codes "fixed") then Some layout.Fixed
    else None

abbrev pub security_named : List ℕ → Option Security
security_named word =
    if bytes_eq word (codes "none") then Some security.None
    else if bytes_eq word (codes "sign") then Some security.Sign
    else if bytes_eq word (codes "encrypt") then Some security.Encrypt
    else None

abbrev pub numbering_named : List ℕ → Option NumberingWord
numbering_named word =
    if bytes_eq word (codes "message") then Some numbering.Message
    else if bytes_eq word (codes "none") then Some numbering.None
    else None

abbrev pub kinds : List Kind
kinds =
    kind.Boolean ∷ kind.SByte ∷ kind.Byte ∷ kind.Int16 ∷ kind.UInt16 ∷ kind.Int32 ∷ kind.UInt32 ∷ kind.Int64
    ∷ kind.UInt64 ∷ kind.Float ∷ kind.Double ∷ kind.String ∷ kind.DateTime ∷ kind.Guid ∷ kind.ByteString ∷ kind.StatusCode ∷ []

abbrev pub kind_text : Kind → List ℕ
kind_text kind.Boolean = codes "Boolean"
kind_text kind.SByte = codes "SByte"
kind_text kind.Byte = codes "Byte"
kind_text kind.Int16 = codes "Int16"
kind_text kind.UInt16 = codes "UInt16"
kind_text kind.Int32 = codes "Int32"
kind_text kind.UInt32 = codes "UInt32"
kind_text kind.Int64 = codes "Int64"
kind_text kind.UInt64 = codes "UInt64"
kind_text kind.Float = codes "Float"
kind_text kind.Double = codes "Double"
kind_text kind.String = codes "String"
kind_text kind.DateTime = codes "DateTime"
kind_text kind.Guid = codes "Guid"
kind_text kind.ByteString = codes "ByteString"
kind_text kind.StatusCode = codes "StatusCode"

abbrev pub kind_named : List ℕ → Option Kind
kind_named word = find (λ kind. bytes_eq word (kind_text kind)) kinds
