-- A datagram whose header isn't the one that a read group asks for, and one whose header is.
use Rattle.std.proofs.Common.{◌≡◌, ◌≢◌, refl, sym, ap, ◌∙◌, ℕ, ◌-◌, Bool, true, false, not, ◌&&◌, List, [], ◌∷◌, ◌++◌, length, Option, Some, None, Result, Ok, Err}
use Rattle.std.specs.Prelude.{◌==◌, drop, bytes_eq}
use Rattle.std.proofs.lemmas.Bool.{eq-eqb, eqb-true, ne_eqb}
use Rattle.std.proofs.lemmas.Slice.Eq.{bytes_eq-Decides}
use Rattle.uadp_header.specs.Headers.{PublisherValue, U8, U16, U32, U64, Text, HeaderValue}
use Rattle.uadp_header.specs.Layout.{header_at}
use Rattle.message_guard.specs.declared.open_fault.OpenFault.{OpenFault}
use Rattle.message_guard.specs.Opening as guards
use Rattle.message_guard.specs.Opening.{judged}
use Rattle.config_tables.specs.declared.publisher.Publisher.{Publisher}
use Rattle.config_tables.specs.declared.publisher.Publisher.TheVariants as publisher
use Rattle.ps_config.specs.declared.parts.ReadGroupPart.{ReadGroupPart}
use Rattle.ps_config.specs.Headers.{publisher_value}
use Rattle.reader_group.specs.declared.refusal.Refusal.{Refusal}
use Rattle.reader_group.specs.declared.refusal.Refusal.TheVariants as refusals
use Rattle.reader_group.specs.Filter.{is_publisher, is_any_or, has_class, is_ours}
use Rattle.reader_group.specs.Opening.{Refusals, decrypted, guard_refusals, payload_refusals, opened_as, verdict_of}
use Rattle.reader_group.specs.Asked.{HasOtherPublisher, HasOtherGroup, HasOtherVersion, HasOtherClass, IsNotOurs, RefusesOthers, IsAskedFor, PassesAsked}

-- ---- the tests of the filter, one by one

tells-false : (b : Bool) → b ≢ true → b ≡ false
tells-false true differs = absurd (let same : Path Bool true true = refl in differs same)
tells-false false differs = refl

same-text : (text other : List ℕ) → bytes_eq text other ≡ true → Some (Text other) ≡ Some (Text text)
same-text text other e = ap (λ (t : List ℕ). Some (Text t)) (sym ((bytes_eq-Decides text other).0 e))

same-number : (make : ℕ → PublisherValue) (id other : ℕ) → (id == other) ≡ true → Some (make other) ≡ Some (make id)
same-number make id other e = ap (λ (n : ℕ). Some (make n)) (sym (eqb-true id other e))

same-publisher : (asked : Publisher) (carried : Option PublisherValue) → is_publisher asked carried ≡ true → carried ≡ Some (publisher_value asked)
same-publisher (publisher.U8 id) (Some (U8 other)) e = same-number U8 id other e
same-publisher (publisher.U16 id) (Some (U16 other)) e = same-number U16 id other e
same-publisher (publisher.U32 id) (Some (U32 other)) e = same-number U32 id other e
same-publisher (publisher.U64 id) (Some (U64 other)) e = same-number U64 id other e
same-publisher (publisher.Text text) (Some (Text other)) e = same-text text other e
same-publisher asked carried e = absurd (cc)

pub publisher-same : (asked : Publisher) → is_publisher asked (Some (publisher_value asked)) ≡ true
publisher-same (publisher.U8 id) = eq-eqb id id refl
publisher-same (publisher.U16 id) = eq-eqb id id refl
publisher-same (publisher.U32 id) = eq-eqb id id refl
publisher-same (publisher.U64 id) = eq-eqb id id refl
publisher-same (publisher.Text text) = (bytes_eq-Decides text text).1 refl

other-number : (asked : ℕ) (carried : Option ℕ) → asked ≢ 0 → carried ≢ Some asked → is_any_or asked carried ≡ false
other-number asked None some other = rw (ne_eqb asked 0 some) refl
other-number asked (Some number) some other = rw (ne_eqb asked 0 some, ne_eqb number asked (λ same. other (ap (λ (n : ℕ). Some n) same))) refl

asked-number : (asked : ℕ) (carried : Option ℕ) → (asked ≢ 0 → carried ≡ Some asked) → is_any_or asked carried ≡ true
asked-number asked carried is = on (asked == 0) refl
  where
    carries : (asked : ℕ) (carried : Option ℕ) → carried ≡ Some asked → (asked == 0) ≡ false → is_any_or asked carried ≡ true
    carries asked None same e = absurd (cc)
    carries asked (Some number) same e = let eq : number ≡ asked = cc in rw (e, eq-eqb number asked eq) refl

    on : (b : Bool) → (asked == 0) ≡ b → is_any_or asked carried ≡ true
    on true e = rw e refl
    on false e = carries asked carried (is (λ zero. absurd (let wrong : Path Bool false true = sym e ∙ eq-eqb asked 0 zero in cc))) e

pub class-same : (class_id : Option (List ℕ)) → has_class class_id class_id ≡ true
class-same None = refl
class-same (Some id) = (bytes_eq-Decides id id).1 refl

other-class : (asked carried : Option (List ℕ)) (id : List ℕ) → asked ≡ Some id → carried ≢ Some id → has_class asked carried ≡ false
other-class None carried id is other = absurd (cc)
other-class (Some asked) None id is other = refl
other-class (Some asked) (Some carried) id is other =
    let same : asked ≡ id = cc in
    tells-false (bytes_eq asked carried) (λ e. other (ap (λ (t : List ℕ). Some t) (sym ((bytes_eq-Decides asked carried).0 e) ∙ same)))

asked-class : (asked carried : Option (List ℕ)) → ((id : List ℕ) → asked ≡ Some id → carried ≡ Some id) → has_class asked carried ≡ true
asked-class None carried is = refl
asked-class (Some asked) None is = absurd (let none = is asked refl in cc)
asked-class (Some asked) (Some carried) is = (bytes_eq-Decides asked carried).1 (let same = is asked refl in cc)

-- ---- one test that fails is enough

not-first : (a b c d : Bool) → a ≡ false → (a && b && c && d) ≡ false
not-first a b c d is = ap (λ (t : Bool). t && b && c && d) is

not-second : (a b c d : Bool) → b ≡ false → (a && b && c && d) ≡ false
not-second true b c d is = ap (λ (t : Bool). t && c && d) is
not-second false b c d is = refl

not-third : (a b c d : Bool) → c ≡ false → (a && b && c && d) ≡ false
not-third true true c d is = ap (λ (t : Bool). t && d) is
not-third true false c d is = refl
not-third false b c d is = refl

not-fourth : (a b c d : Bool) → d ≡ false → (a && b && c && d) ≡ false
not-fourth true true true d is = is
not-fourth true true false d is = refl
not-fourth true false c d is = refl
not-fourth false b c d is = refl

all-four : (a b c d : Bool) → a ≡ true → b ≡ true → c ≡ true → d ≡ true → (a && b && c && d) ≡ true
all-four a b c d first second third fourth = rw (first, second, third, fourth) refl

-- ---- the verdict

first-refused : {X : Type 0} (ours : Bool) (list : Refusals) (x : X) → ours ≡ false → judged ((not ours, refusals.NotOurs) ∷ list) x ≡ Err refusals.NotOurs
first-refused false list x is = refl
first-refused true list x is = absurd (let wrong : Path Bool true false = is in cc)

pub not-ours : (group : ReadGroupPart) (datagram : List ℕ) (header : HeaderValue) (rest : List ℕ) → header_at datagram ≡ Ok (header, rest) → is_ours group header ≡ false → IsNotOurs group datagram
not-ours group datagram header rest read is setup accepted =
    let payload = length datagram - length rest in
    let pass = guards.pass_of setup.mode header.security datagram in
    let behind = guard_refusals (guards.refusals setup.mode setup.keys accepted header.security datagram payload) ++ payload_refusals group.layout header.ids (drop payload (decrypted setup pass payload datagram)) in
    ap (verdict_of group setup accepted datagram) read ∙ first-refused (is_ours group header) behind (opened_as group setup datagram header payload) is

pub other-publisher-refused : RefusesOthers HasOtherPublisher
other-publisher-refused group datagram header rest read other =
    not-ours group datagram header rest read
    (not-first _ _ _ _ (tells-false (is_publisher group.publisher header.publisher) (λ e. other (same-publisher group.publisher header.publisher e))))

pub other-group-refused : RefusesOthers HasOtherGroup
other-group-refused group datagram header rest read is =
    not-ours group datagram header rest read (not-second (is_publisher group.publisher header.publisher) _ _ _ (other-number group.group header.group is.asked is.other))

pub other-version-refused : RefusesOthers HasOtherVersion
other-version-refused group datagram header rest read is =
    not-ours group datagram header rest read
    (not-third (is_publisher group.publisher header.publisher) (is_any_or group.group header.group) _ _ (other-number group.version header.version is.asked is.other))

pub other-class-refused : RefusesOthers HasOtherClass
other-class-refused group datagram header rest read is =
    not-ours group datagram header rest read
    (not-fourth (is_publisher group.publisher header.publisher) (is_any_or group.group header.group) (is_any_or group.version header.version) _
    (other-class group.class_id header.class_id is.id is.asked is.other))

-- ---- what is asked for

guard-other : {X : Type 0} (fault : OpenFault) → Path (Result X Refusal) (Err (refusals.Guard fault)) (Err refusals.NotOurs) → ⊥
guard-other fault e = cc

payload-other : {X : Type 0} (a b : Bool) (x : X) → judged ((a, refusals.NoIds) ∷ (b, refusals.BadSizes) ∷ []) x ≡ Err refusals.NotOurs → ⊥
payload-other true b x e = cc
payload-other false true x e = cc
payload-other false false x e = cc

behind-other : {X : Type 0} (G : List (Bool × OpenFault)) (a b : Bool) (x : X) → judged (guard_refusals G ++ ((a, refusals.NoIds) ∷ (b, refusals.BadSizes) ∷ [])) x ≡ Err refusals.NotOurs → ⊥
behind-other [] a b x e = payload-other a b x e
behind-other ((true, fault) ∷ G) a b x e = guard-other fault e
behind-other ((false, fault) ∷ G) a b x e = behind-other G a b x e

first-passed : {X : Type 0} (ours : Bool) (list : Refusals) (x : X) → ours ≡ true → judged ((not ours, refusals.NotOurs) ∷ list) x ≡ judged list x
first-passed true list x is = refl
first-passed false list x is = absurd (let wrong : Path Bool false true = is in cc)

ours : (group : ReadGroupPart) (header : HeaderValue) → IsAskedFor group header → is_ours group header ≡ true
ours group header is =
    all-four _ _ _ _ (ap (is_publisher group.publisher) is.publisher ∙ publisher-same group.publisher) (asked-number group.group header.group is.group_is)
    (asked-number group.version header.version is.version) (asked-class group.class_id header.class_id is.class_id)

pub asked-passes : PassesAsked
asked-passes group datagram header rest read is setup accepted e =
    let payload = length datagram - length rest in
    let pass = guards.pass_of setup.mode header.security datagram in
    let G = guards.refusals setup.mode setup.keys accepted header.security datagram payload in
    let x = opened_as group setup datagram header payload in
    let behind = guard_refusals G ++ payload_refusals group.layout header.ids (drop payload (decrypted setup pass payload datagram)) in
    behind-other G _ _ x (sym (first-passed (is_ours group header) behind x (ours group header is)) ∙ sym (ap (verdict_of group setup accepted datagram) read) ∙ e)
