-- How long headers are: as long as with other numbers.
use Rattle.std.proofs.Common.{◌≡◌, ℕ, ◌+◌, Bool, true, false, [], ◌∷◌, is_some, refl, sym, ◌∙◌, arith}
use Rattle.uadp_header.specs.Headers.{PublisherValue, IdsValue}
use Rattle.uadp_header.specs.Spelling.{header_len, ids_len, is_chunk}
use Rattle.uadp_header.proofs.Lengths.{alike-len}
use Rattle.config_tables.specs.declared.publisher.Publisher.{Publisher}
use Rattle.ps_config.specs.declared.header.HeaderSettings.{HeaderSettings}
use Rattle.ps_config.specs.declared.parts.GroupPart.{GroupPart}
use Rattle.ps_config.specs.Headers.{publisher_value, header_of, zero_if}
use Rattle.ps_config.specs.Rooms.{frame_header}
use Rattle.writer_group.specs.Payloads.{fixed_header}
use Rattle.writer_group.specs.Envelopes.{Numbering, IsSecuredAs, number_if, numbered_header}

-- a list of one writer takes three bytes
pub one-writer : (publisher : Publisher) (group : GroupPart) → frame_header publisher group (0 ∷ 0 ∷ []) ≡ fixed_header publisher group + 3
unfolding header_len
one-writer publisher group = omega arith

number-same : (holds : Bool) (number : ℕ) → is_some (number_if holds number) ≡ is_some (zero_if holds)
number-same true number = refl
number-same false number = refl

pub numbered-len : (publisher : Publisher) (settings : HeaderSettings) (n : Numbering) (ids other : IdsValue) → IsSecuredAs settings n.security → is_chunk ids ≡ is_chunk other → ids_len ids ≡ ids_len other
    → header_len (numbered_header (publisher_value publisher) settings n ids) ≡ header_len (header_of publisher settings other)
numbered-len publisher settings n ids other secured chunk long =
    alike-len (numbered_header (publisher_value publisher) settings n ids) (header_of publisher settings other) (record {
      type = refl;
      publisher = refl;
      class_id = refl;
      group = refl;
      version = refl;
      message_number = number-same settings.message_number n.message;
      sequence = number-same settings.sequence n.sequence;
      chunk = chunk;
      ids = long;
      secured = secured.there;
      security = secured.long;
    })

number-alike : (holds : Bool) (m n : ℕ) → is_some (number_if holds m) ≡ is_some (number_if holds n)
number-alike true m n = refl
number-alike false m n = refl

-- numbers don't count
pub numbers-len : (publisher : PublisherValue) (settings : HeaderSettings) (n m : Numbering) (ids : IdsValue) → IsSecuredAs settings n.security → IsSecuredAs settings m.security
    → header_len (numbered_header publisher settings n ids) ≡ header_len (numbered_header publisher settings m ids)
numbers-len publisher settings n m ids one two =
    alike-len (numbered_header publisher settings n ids) (numbered_header publisher settings m ids) (record {
      type = refl;
      publisher = refl;
      class_id = refl;
      group = refl;
      version = refl;
      message_number = number-alike settings.message_number n.message m.message;
      sequence = number-alike settings.sequence n.sequence m.sequence;
      chunk = refl;
      ids = refl;
      secured = one.there ∙ sym two.there;
      security = one.long ∙ sym two.long;
    })
