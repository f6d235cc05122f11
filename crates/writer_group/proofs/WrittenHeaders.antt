-- The headers of a turn's datagrams can be written.
use Rattle.std.proofs.Common.{◌≡◌, ◌≢◌, refl, sym, ap, ◌∙◌, subst, arith, ℕ, zero, suc, ◌+◌, ◌<◌, ◌^◌, Bool, true, false, List, [], ◌∷◌, length, All, Contains, Option, Some, None, IfSome, mod-lt}
use Rattle.std.specs.Prelude.{◌==◌, if◌then◌else◌}
use Rattle.std.proofs.lemmas.Bool.Decides.{nat_tests}
use Rattle.std.proofs.lemmas.List.Elements.{All-head, All-tail}
use Rattle.std.proofs.lemmas.Option.{none-some}
use Rattle.uadp_header.specs.Headers.{IdsValue}
use Rattle.uadp_header.specs.Spelling.{IsShortText, IsWritten, AreIds, IsIds}
use Rattle.message_guard.specs.declared.mode.Mode.{Mode}
use Rattle.message_guard.specs.Senders.{SenderState}
use Rattle.message_guard.proofs.Restoring.{length-nonce}
use Rattle.config_tables.specs.declared.publisher.Publisher.{Publisher}
use Rattle.config_tables.specs.declared.publisher.Publisher.TheVariants as publishers
use Rattle.ps_config.specs.declared.parts.Config.{Config}
use Rattle.ps_config.specs.declared.parts.GroupPart.{GroupPart}
use Rattle.ps_config.specs.Headers.{IsShortId, publisher_value, version_value, mode_of}
use Rattle.ps_config.specs.Sound.{IsGroup, IsSound}
use Rattle.writer_group.specs.Envelopes.{number_if}
use Rattle.writer_group.specs.Payloads.{payloads_of}
use Rattle.writer_group.specs.Sealing.{AreWritten, advanced_by, envelope_with, header_at, Payload}
use Rattle.writer_group.specs.Turning.{HasHeaderTypes, CanGiveFronts}
use Rattle.writer_group.specs.Turns.{GroupDeed, TurnInput, envelope_of, frames_in, made_in}
use Rattle.writer_group.proofs.Joining.{advanced-random}
use Rattle.writer_group.proofs.NamedPayloads.{CanBeNamed, payloads-named}
use Rattle.writer_group.proofs.SmallIds.{group-sound, turn-small}

short-text : (publisher : Publisher) → IsShortId publisher → IsShortText (publisher_value publisher)
short-text (publishers.U8 id) short = tt
short-text (publishers.U16 id) short = tt
short-text (publishers.U32 id) short = tt
short-text (publishers.U64 id) short = tt
short-text (publishers.Text text) short = omega (arith, short)

version-some : (version : ℕ) → version_value version ≢ Some 0
version-some version = on (version == 0) refl
  where
    on : (b : Bool) → (version == 0) ≡ b → (if b then None else Some version) ≢ Some 0
    on true is = none-some 0
    on false is = λ e. let zero_is : version ≡ 0 = cc in let no : ⊥ = grind (arith, nat_tests) in no

version-fits : (version : ℕ) → version < 2 ^ 32 → IfSome (version_value version) (λ n. n < 2 ^ 32)
version-fits version fits = on (version == 0)
  where
    on : (b : Bool) → IfSome (if b then None else Some version) (λ n. n < 2 ^ 32)
    on true = tt
    on false = fits

number-fits : (holds : Bool) (number : ℕ) → IfSome (number_if holds number) (λ n. n < 2 ^ 16)
number-fits true number = mod-lt number {m = 65536} (omega arith)
number-fits false number = tt

-- ---- without security

header-written : (config : Config) (group : GroupPart) (made index : ℕ) (ids : IdsValue) → IsShortId config.publisher.id → IsGroup config group → HasHeaderTypes config group
    → AreIds ids → IsIds ids → IsWritten (header_at (envelope_with config group made) None index ids)
header-written config group made index ids short is types are fit = record {
  senders = record {
    publisher = refl;
    text = short-text config.publisher.id short;
    group = refl;
    version = version-some group.version;
    ids = are;
    security = tt;
  };
  header = record {
    publisher = types.publisher;
    class_id = types.class_id;
    group = omega (arith, is.id.1);
    version = version-fits group.version types.version;
    message_number = number-fits group.message_number (index + 1);
    sequence = number-fits group.sequence (made + index);
    ids = fit;
    security = tt;
  };
}

pub headers-written : (config : Config) (group : GroupPart) (made index : ℕ) (payloads : List Payload) → IsShortId config.publisher.id → IsGroup config group → HasHeaderTypes config group
    → All CanBeNamed payloads → AreWritten (envelope_with config group made) None index payloads
headers-written config group made index [] short is types named = tt
headers-written config group made index (payload ∷ payloads) short is types named =
    let here = All-head CanBeNamed payload payloads named in
    (header-written config group made index payload.0 short is types here.ids here.numbers, headers-written config group made (index + 1) payloads short is types (All-tail CanBeNamed payload payloads named))

-- ---- with a sender's fronts

advanced-token : (mode : Mode) (s : SenderState) (count : ℕ) → (advanced_by mode s count).keys.token ≡ s.keys.token
advanced-token mode s zero = refl
advanced-token mode s (suc count) = advanced-token mode s count

-- the header without security, and the sender's front
secured-written : (config : Config) (group : GroupPart) (made index : ℕ) (s : SenderState) (payload : Payload) → IsShortId config.publisher.id → IsGroup config group → HasHeaderTypes config group → CanGiveFronts s
    → CanBeNamed payload → IsWritten (header_at (envelope_with config group made) (Some s) index payload.0)
secured-written config group made index s payload short is types gives named =
    let open_is = header-written config group made index payload.0 short is types named.ids named.numbers in
    let mode = mode_of group.security in
    let now = advanced_by mode s (suc index) in
    let random : length now.random ≡ 4 = ap (λ (l : List ℕ). length l) (advanced-random mode s (suc index)) ∙ gives.random in
    record {
      senders = record {
        publisher = refl;
        text = open_is.senders.text;
        group = refl;
        version = open_is.senders.version;
        ids = named.ids;
        security = record { no_footer = refl; no_reset = refl; nonce = length-nonce now.random now.used random };
      };
      header = record {
        publisher = open_is.header.publisher;
        class_id = open_is.header.class_id;
        group = open_is.header.group;
        version = open_is.header.version;
        message_number = open_is.header.message_number;
        sequence = open_is.header.sequence;
        ids = named.numbers;
        security = subst (λ (n : ℕ). n < 2 ^ 32) (sym (advanced-token mode s (suc index))) gives.token;
      };
    }

all-written : (config : Config) (group : GroupPart) (made index : ℕ) (s : SenderState) (payloads : List Payload) → IsShortId config.publisher.id → IsGroup config group → HasHeaderTypes config group → CanGiveFronts s
    → All CanBeNamed payloads → AreWritten (envelope_with config group made) (Some s) index payloads
all-written config group made index s [] short is types gives named = tt
all-written config group made index s (payload ∷ payloads) short is types gives named =
    let here = All-head CanBeNamed payload payloads named in
    (secured-written config group made index s payload short is types gives here, all-written config group made (index + 1) s payloads short is types gives (All-tail CanBeNamed payload payloads named))

-- ---- those of a turn

pub turn-written : (config : Config) (part : GroupPart) (past : List GroupDeed) (input : TurnInput) → IsSound config → Contains config.group part → HasHeaderTypes config part → IfSome input.sender CanGiveFronts
    → AreWritten (envelope_of config part past) input.sender 0 (payloads_of config part (frames_in part past input))
turn-written config part past input sound there types gives =
    let is = group-sound config part sound there in
    by-sender input.sender gives (payloads_of config part (frames_in part past input)) (payloads-named part.layout config part (frames_in part past input) (turn-small config part past input is)) is
  where
    by-sender : (o : Option SenderState) → IfSome o CanGiveFronts → (payloads : List Payload) → All CanBeNamed payloads → IsGroup config part → AreWritten (envelope_of config part past) o 0 payloads
    by-sender None gives payloads named is = headers-written config part (made_in past) 0 payloads sound.publisher is types named
    by-sender (Some s) gives payloads named is = all-written config part (made_in past) 0 s payloads sound.publisher is types gives named
