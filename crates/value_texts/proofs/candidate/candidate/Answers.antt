use Rattle.std.proofs.Common.{◌≡◌, Some, ap, subst, ◌∙◌, arith}
use Rattle.std.specs.Int.{w8, w16, w32, w64}
use Rattle.std.proofs.lemmas.Grind.{common_steps}
use Rattle.ua_values.specs.declared.value.Value.TheVariants as values
use Rattle.ua_values.specs.Values.{IsValue}
use Rattle.value_texts.specs.Texts.{value_text_of}
use Rattle.value_texts.proofs.Candidates.{unsigned_read, signed_read}
use Rattle.value_texts.proofs.OfKinds.{of_boolean, of_sbyte, of_byte, of_int16, of_uint16, of_int32, of_uint32, of_int64, of_uint64, of_float, of_double, of_date_time, of_guid, of_byte_string, of_status_code}
use Rattle.value_texts.proofs.candidate.candidate.Goals as goal

pub returns-in-Boolean : goal.returns-in-Boolean
unfolding value_text_of
returns-in-Boolean c = λ value valid same is.
    let o = of_boolean value (same ∙ c.in-Boolean.is) in
    let e : value ≡ values.Boolean o.0 = o.1 in
    let v : IsValue (values.Boolean o.0) = subst IsValue o.1 valid in
    let t : c.args.word.now ≡ value_text_of (values.Boolean o.0) = is ∙ ap value_text_of o.1 in
    let found : c.truth.result ≡ Some o.0 = c.truth.ensures o.0 t in
    grind (arith, common_steps)

pub returns-in-SByte : goal.returns-in-SByte
unfolding value_text_of
returns-in-SByte c = λ value valid same is.
    let o = of_sbyte value (same ∙ c.in-SByte.is) in
    let e : value ≡ values.SByte o.0 = o.1 in
    let v : IsValue (values.SByte o.0) = subst IsValue o.1 valid in
    let t : c.args.word.now ≡ value_text_of (values.SByte o.0) = is ∙ ap value_text_of o.1 in
    let found : c.number.result ≡ Some o.0 = signed_read w8 o.0 c.args.word.now c.number.result v (omega arith) t (λ utf8. let r = c.number.ensures utf8 in (r.0, (r.1.0.0, r.1.1))) in
    grind (arith, common_steps)

pub returns-in-Byte : goal.returns-in-Byte
unfolding value_text_of
returns-in-Byte c = λ value valid same is.
    let o = of_byte value (same ∙ c.in-Byte.is) in
    let e : value ≡ values.Byte o.0 = o.1 in
    let v : IsValue (values.Byte o.0) = subst IsValue o.1 valid in
    let t : c.args.word.now ≡ value_text_of (values.Byte o.0) = is ∙ ap value_text_of o.1 in
    let found : c.number-in-Byte.result ≡ Some o.0 = unsigned_read 8 o.0 c.args.word.now c.number-in-Byte.result v (omega arith) t (λ utf8. let r = c.number-in-Byte.ensures utf8 in (r.0, (r.1.0.0, r.1.1))) in
    grind (arith, common_steps)

pub returns-in-Int16 : goal.returns-in-Int16
unfolding value_text_of
returns-in-Int16 c = λ value valid same is.
    let o = of_int16 value (same ∙ c.in-Int16.is) in
    let e : value ≡ values.Int16 o.0 = o.1 in
    let v : IsValue (values.Int16 o.0) = subst IsValue o.1 valid in
    let t : c.args.word.now ≡ value_text_of (values.Int16 o.0) = is ∙ ap value_text_of o.1 in
    let found : c.number-in-Int16.result ≡ Some o.0 = signed_read w16 o.0 c.args.word.now c.number-in-Int16.result v (omega arith) t (λ utf8. let r = c.number-in-Int16.ensures utf8 in (r.0, (r.1.0.0, r.1.1))) in
    grind (arith, common_steps)

pub returns-in-UInt16 : goal.returns-in-UInt16
unfolding value_text_of
returns-in-UInt16 c = λ value valid same is.
    let o = of_uint16 value (same ∙ c.in-UInt16.is) in
    let e : value ≡ values.UInt16 o.0 = o.1 in
    let v : IsValue (values.UInt16 o.0) = subst IsValue o.1 valid in
    let t : c.args.word.now ≡ value_text_of (values.UInt16 o.0) = is ∙ ap value_text_of o.1 in
    let found : c.number-in-UInt16.result ≡ Some o.0 = unsigned_read 16 o.0 c.args.word.now c.number-in-UInt16.result v (omega arith) t (λ utf8. let r = c.number-in-UInt16.ensures utf8 in (r.0, (r.1.0.0, r.1.1))) in
    grind (arith, common_steps)

pub returns-in-Int32 : goal.returns-in-Int32
unfolding value_text_of
returns-in-Int32 c = λ value valid same is.
    let o = of_int32 value (same ∙ c.in-Int32.is) in
    let e : value ≡ values.Int32 o.0 = o.1 in
    let v : IsValue (values.Int32 o.0) = subst IsValue o.1 valid in
    let t : c.args.word.now ≡ value_text_of (values.Int32 o.0) = is ∙ ap value_text_of o.1 in
    let found : c.number-in-Int32.result ≡ Some o.0 = signed_read w32 o.0 c.args.word.now c.number-in-Int32.result v (omega arith) t (λ utf8. let r = c.number-in-Int32.ensures utf8 in (r.0, (r.1.0.0, r.1.1))) in
    grind (arith, common_steps)

pub returns-in-UInt32 : goal.returns-in-UInt32
unfolding value_text_of
returns-in-UInt32 c = λ value valid same is.
    let o = of_uint32 value (same ∙ c.in-UInt32.is) in
    let e : value ≡ values.UInt32 o.0 = o.1 in
    let v : IsValue (values.UInt32 o.0) = subst IsValue o.1 valid in
    let t : c.args.word.now ≡ value_text_of (values.UInt32 o.0) = is ∙ ap value_text_of o.1 in
    let found : c.number-in-UInt32.result ≡ Some o.0 = unsigned_read 32 o.0 c.args.word.now c.number-in-UInt32.result v (omega arith) t (λ utf8. let r = c.number-in-UInt32.ensures utf8 in (r.0, (r.1.0.0, r.1.1))) in
    grind (arith, common_steps)

pub returns-in-Int64 : goal.returns-in-Int64
unfolding value_text_of
returns-in-Int64 c = λ value valid same is.
    let o = of_int64 value (same ∙ c.in-Int64.is) in
    let e : value ≡ values.Int64 o.0 = o.1 in
    let v : IsValue (values.Int64 o.0) = subst IsValue o.1 valid in
    let t : c.args.word.now ≡ value_text_of (values.Int64 o.0) = is ∙ ap value_text_of o.1 in
    let found : c.number-in-Int64.result ≡ Some o.0 = signed_read w64 o.0 c.args.word.now c.number-in-Int64.result v (omega arith) t (λ utf8. let r = c.number-in-Int64.ensures utf8 in (r.0, (r.1.0.0, r.1.1))) in
    grind (arith, common_steps)

pub returns-in-UInt64 : goal.returns-in-UInt64
unfolding value_text_of
returns-in-UInt64 c = λ value valid same is.
    let o = of_uint64 value (same ∙ c.in-UInt64.is) in
    let e : value ≡ values.UInt64 o.0 = o.1 in
    let v : IsValue (values.UInt64 o.0) = subst IsValue o.1 valid in
    let t : c.args.word.now ≡ value_text_of (values.UInt64 o.0) = is ∙ ap value_text_of o.1 in
    let found : c.number-in-UInt64.result ≡ Some o.0 = unsigned_read 64 o.0 c.args.word.now c.number-in-UInt64.result v (omega arith) t (λ utf8. let r = c.number-in-UInt64.ensures utf8 in (r.0, (r.1.0.0, r.1.1))) in
    grind (arith, common_steps)

pub returns-in-Float : goal.returns-in-Float
unfolding value_text_of
returns-in-Float c = λ value valid same is.
    let o = of_float value (same ∙ c.in-Float.is) in
    let e : value ≡ values.Float o.0 = o.1 in
    let v : IsValue (values.Float o.0) = subst IsValue o.1 valid in
    let t : c.args.word.now ≡ value_text_of (values.Float o.0) = is ∙ ap value_text_of o.1 in
    let found : c.bits_32.result ≡ Some o.0 = c.bits_32.ensures o.0 v t in
    grind (arith, common_steps)

pub returns-in-Double : goal.returns-in-Double
unfolding value_text_of
returns-in-Double c = λ value valid same is.
    let o = of_double value (same ∙ c.in-Double.is) in
    let e : value ≡ values.Double o.0 = o.1 in
    let v : IsValue (values.Double o.0) = subst IsValue o.1 valid in
    let t : c.args.word.now ≡ value_text_of (values.Double o.0) = is ∙ ap value_text_of o.1 in
    let found : c.bits_64.result ≡ Some o.0 = c.bits_64.ensures o.0 v t in
    grind (arith, common_steps)

pub returns-in-String : goal.returns-in-String
returns-in-String c = absurd (c.requires c.in-String.is)

pub returns-in-DateTime : goal.returns-in-DateTime
unfolding value_text_of
returns-in-DateTime c = λ value valid same is.
    let o = of_date_time value (same ∙ c.in-DateTime.is) in
    let e : value ≡ values.DateTime o.0 = o.1 in
    let v : IsValue (values.DateTime o.0) = subst IsValue o.1 valid in
    let t : c.args.word.now ≡ value_text_of (values.DateTime o.0) = is ∙ ap value_text_of o.1 in
    let found : c.number-in-DateTime.result ≡ Some o.0 = signed_read w64 o.0 c.args.word.now c.number-in-DateTime.result v (omega arith) t (λ utf8. let r = c.number-in-DateTime.ensures utf8 in (r.0, (r.1.0.0, r.1.1))) in
    grind (arith, common_steps)

pub returns-in-Guid : goal.returns-in-Guid
unfolding value_text_of
returns-in-Guid c = λ value valid same is.
    let o = of_guid value (same ∙ c.in-Guid.is) in
    let e : value ≡ values.Guid o.0 = o.1 in
    let v : IsValue (values.Guid o.0) = subst IsValue o.1 valid in
    let t : c.args.word.now ≡ value_text_of (values.Guid o.0) = is ∙ ap value_text_of o.1 in
    let found : c.guid.result ≡ Some o.0 = c.guid.ensures o.0 v.0 v.1 t in
    grind (arith, common_steps)

pub returns-in-ByteString : goal.returns-in-ByteString
unfolding value_text_of
returns-in-ByteString c = λ value valid same is.
    let o = of_byte_string value (same ∙ c.in-ByteString.is) in
    let e : value ≡ values.ByteString o.0 = o.1 in
    let v : IsValue (values.ByteString o.0) = subst IsValue o.1 valid in
    let t : c.args.word.now ≡ value_text_of (values.ByteString o.0) = is ∙ ap value_text_of o.1 in
    let found : c.blob.result ≡ Some o.0 = c.blob.ensures o.0 v t in
    grind (arith, common_steps)

pub returns-in-StatusCode : goal.returns-in-StatusCode
unfolding value_text_of
returns-in-StatusCode c = λ value valid same is.
    let o = of_status_code value (same ∙ c.in-StatusCode.is) in
    let e : value ≡ values.StatusCode o.0 = o.1 in
    let v : IsValue (values.StatusCode o.0) = subst IsValue o.1 valid in
    let t : c.args.word.now ≡ value_text_of (values.StatusCode o.0) = is ∙ ap value_text_of o.1 in
    let found : c.bits_32-in-StatusCode.result ≡ Some o.0 = c.bits_32-in-StatusCode.ensures o.0 v t in
    grind (arith, common_steps)
