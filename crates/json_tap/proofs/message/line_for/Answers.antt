use Rattle.std.proofs.Common.{◌≡◌, ◌<◌, ℕ, List, Option, Some, ap, ◌∙◌, subst, arith}
use Rattle.std.proofs.lemmas.List.Elements.{All-from_get_or}
use Rattle.dataset_meta.specs.Metas.{MetaData}
use Rattle.serde_json.specs.Written.{compact_text}
use Rattle.ua_binary.specs.Wire.{AreBytes}
use Rattle.json_frames.specs.Documents.{value_of}
use Rattle.json_frames.specs.Parts.{parts_in}
use Rattle.json_frames.specs.Written.{message_json}
use Rattle.json_tap.specs.Parts.{IsMessageIf, meant}
use Rattle.json_tap.specs.Transcoding.{line, transcoded}
use Rattle.json_tap.proofs.Named.{line-accepted, line-back}
use Rattle.json_tap.proofs.message.line_for.Goals as goal

pub new-requires : goal.new-requires
new-requires c =
    let config = c.args.config.now in
    let number = c.args.number in
    let message = c.in-Some.message in
    let is = subst (λ found. IsMessageIf config number found (transcoded config c.args.datagram.now)) c.in-Some.is c.in_ok-message_of.ensures in
    let value : value_of c.in_ok-bytes-in-Some.bytes.items ≡ Some (message_json config.dataset number message.publisher (parts_in config.dataset message.parts)) =
    c.in_ok-bytes-in-Some.ensures.value ∙ ap (λ (metas : List MetaData). Some (message_json metas message.id message.publisher (parts_in metas message.parts))) c.as_slice.ensures
    ∙ ap (λ (n : ℕ). Some (message_json config.dataset n message.publisher (parts_in config.dataset message.parts))) is.1 in
    line-accepted config number c.args.datagram.now c.in_ok-bytes-in-Some.bytes.items (meant config message) is.0 value

pub returns-in_ok-bytes-in-Some-clause-read : goal.returns-in_ok-bytes-in-Some-clause-read
returns-in_ok-bytes-in-Some-clause-read c =
    let config = c.args.config.now in
    let number = c.args.number in
    let message = c.in-Some.message in
    let are : AreBytes c.args.datagram.now = All-from_get_or (λ byte. byte < 256) c.args.datagram.now 0 (λ i below. omega (arith, c.type_inv.datagram i)) in
    let is = subst (λ found. IsMessageIf config number found (transcoded config c.args.datagram.now)) c.in-Some.is c.in_ok-message_of.ensures in
    let value : value_of c.in_ok-bytes-in-Some.bytes.items ≡ Some (message_json config.dataset number message.publisher (parts_in config.dataset message.parts)) =
    c.in_ok-bytes-in-Some.ensures.value ∙ ap (λ (metas : List MetaData). Some (message_json metas message.id message.publisher (parts_in metas message.parts))) c.as_slice.ensures
    ∙ ap (λ (n : ℕ). Some (message_json config.dataset n message.publisher (parts_in config.dataset message.parts))) is.1 in
    let text : c.in_ok-bytes-in-Some.bytes.items ≡ line config number (meant config message) =
    c.in_ok-bytes-in-Some.ensures.text ∙ ap (λ (metas : List MetaData). compact_text (message_json metas message.id message.publisher (parts_in metas message.parts))) c.as_slice.ensures
    ∙ ap (λ (n : ℕ). compact_text (message_json config.dataset n message.publisher (parts_in config.dataset message.parts))) is.1 in
    line-back config number c.args.datagram.now c.in_ok-bytes-in-Some.bytes.items (meant config message) are is.0 text value
