-- What is written of a message is read as that message.
use Rattle.std.proofs.Common.{◌≡◌, ◌≤◌, ℕ, List, length, cond, Bool, false, Some, None, Ok, ap, ◌∙◌, subst, arith}
use Rattle.std.specs.Prelude.{nat_lt}
use Rattle.std.specs.List.{AllByRecursion}
use Rattle.std.proofs.lemmas.Bool.Decides.{nat_tests}
use Rattle.serde_json.specs.Data.{Items}
use Rattle.dataset_meta.specs.Metas.{MetaData}
use Rattle.json_values.proofs.Results.{same_ok}
use Rattle.json_frames.specs.declared.message.JsonRead.{JsonRead}
use Rattle.json_frames.specs.Parts.{Part, parts_in}
use Rattle.json_frames.specs.Written.{elements_json, message_json}
use Rattle.json_frames.specs.Reading.{IsNamedPart, ReadAs}
use Rattle.json_frames.specs.Documents.{published, judged, judged_read, value_of, document, IsRead, HasMessage}
use Rattle.json_frames.proofs.WrittenElements.{parts_are}
use Rattle.json_frames.proofs.ReadOnce.{elements_once}

judged_message : (metas : List MetaData) (id : ℕ) (publisher : List ℕ) (parts : List Part) → length publisher ≤ 256
    → judged (message_json metas id publisher parts) ≡ Ok (publisher, elements_json metas parts)
unfolding judged message_json
judged_message metas id publisher parts short =
    let low : nat_lt 256 (length publisher) ≡ false = grind (arith, nat_tests) in
    ap (λ (b : Bool). published (cond b None (Some publisher)) (message_json metas id publisher parts)) low

pub message_is_document : (metas : List MetaData) (id : ℕ) (publisher : List ℕ) (parts : List Part) (bytes : List ℕ) → length publisher ≤ 256
    → value_of bytes ≡ Some (message_json metas id publisher parts) → document bytes ≡ Ok (publisher, elements_json metas parts)
message_is_document metas id publisher parts bytes short at = ap judged_read at ∙ judged_message metas id publisher parts short

pub message_is_read : (metas : List MetaData) (sets : List (ℕ × ℕ)) (id : ℕ) (publisher : List ℕ) (parts : List Part) (bytes : List ℕ) (found : JsonRead) → length publisher ≤ 256
    → AllByRecursion (IsNamedPart metas sets) parts → value_of bytes ≡ Some (message_json metas id publisher parts) → IsRead metas sets bytes found → HasMessage metas publisher parts found
message_is_read metas sets id publisher parts bytes found short each at is =
    let elements = elements_json metas parts in
    let whole : document bytes ≡ Ok (publisher, elements) = message_is_document metas id publisher parts bytes short at in
    let pair : ◌≡◌ {A = List ℕ × Items} (found.publisher, is.items) (publisher, elements) = same_ok (document bytes) (found.publisher, is.items) (publisher, elements) is.judged whole in
    let items : is.items ≡ elements = ap (λ (p : List ℕ × Items). p.1) pair in
    let here : ReadAs metas sets elements (parts_in metas found.parts) is.bad = subst (λ (i : Items). ReadAs metas sets i (parts_in metas found.parts) is.bad) items is.parts in
    let once = elements_once metas sets elements (parts_in metas found.parts) parts is.bad 0 here (parts_are metas sets parts each) in
    let none : is.bad ≡ 0 = once.1 in
    let count = is.count in
    record { same_publisher = ap (λ (p : List ℕ × Items). p.0) pair; same_parts = once.0; none_bad = omega arith }
