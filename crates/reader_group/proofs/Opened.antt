-- A datagram is refused for the first test that holds, or opened.
use Rattle.std.proofs.Common.{◌≡◌, refl, sym, ap, ◌∙◌, arith, ℕ, zero, suc, ◌+◌, ◌-◌, ◌*◌, ◌/◌, ◌≤◌, Bool, true, false, not, List, [], ◌∷◌, ◌++◌, length, take, drop, map, length-drop, length-take, Option, Some, None}
use Rattle.std.specs.Prelude.{nat_lt, zip, All, Result, Ok, Err, slice_range, if◌then◌else◌}
use Rattle.std.specs.Borrow.{Bor}
use Rattle.std.specs.Option.{option_copied}
use Rattle.std.proofs.lemmas.Bool.{ltb-false}
use Rattle.std.proofs.lemmas.Bool.Decides.{nat_tests}
use Rattle.std.proofs.lemmas.List.{drop-take, length-map}
use Rattle.uadp_header.specs.declared.header.SecurityPart.{SecurityPart}
use Rattle.uadp_header.specs.Headers.{IdsValue, ListOf, HeaderValue, ids_of, if_there, security_in}
use Rattle.uadp_header.specs.Layout.{header_at}
use Rattle.uadp_header.specs.Spelling.{AreIds}
use Rattle.uadp_header.proofs.IdLaws.{ids-count}
use Rattle.payload_layout.specs.Payloads.{frame_at, frames_of, sizes_of, cut_by, HasBadSizes, IsWithin}
use Rattle.message_guard.specs.declared.open_fault.OpenFault.{OpenFault}
use Rattle.message_guard.specs.declared.pass.Pass1.{Pass1}
use Rattle.message_guard.specs.Acceptance.{Accepted}
use Rattle.message_guard.specs.Guards.{Setup, security_told}
use Rattle.message_guard.specs.Opening as guards
use Rattle.message_guard.specs.Opening.{judged}
use Rattle.message_guard.proofs.Judged.{judged-value, judged_as-before, judged_as-behind}
use Rattle.config_tables.specs.declared.words.Layout.{Layout}
use Rattle.config_tables.specs.declared.words.Layout.TheVariants as layouts
use Rattle.ps_config.specs.declared.parts.ReadGroupPart.{ReadGroupPart}
use Rattle.reader_group.specs.declared.begun.Carried.{Carried}
use Rattle.reader_group.specs.declared.begun.Carried.TheVariants as carrieds
use Rattle.reader_group.specs.declared.begun.Begun.{Begun}
use Rattle.reader_group.specs.declared.opening.Buffers.{Buffers}
use Rattle.reader_group.specs.declared.refusal.Refusal.{Refusal}
use Rattle.reader_group.specs.declared.refusal.Refusal.TheVariants as refusals
use Rattle.reader_group.specs.Filter.{is_ours}
use Rattle.reader_group.specs.Payloads as payloads
use Rattle.reader_group.specs.Payloads.{Payload, dynamic_payload, payload_of}
use Rattle.reader_group.specs.Opening.{Opened, Refusals, are_past, decrypted, guard_refusals, payload_refusals, list_of, opened_as, verdict, verdict_of}
use Rattle.reader_group.specs.Begun.{ids_carried, HasBegun, HasListed, HasFound, payload_in, Finds, FindsMessages, listed_in, payload_held, Opens}

-- ---- the header

-- a security part that is lent is the header's
pub security-lent : (lent : Option (Bor SecurityPart)) (security : Option SecurityPart) → option_copied lent ≡ security → security_told lent ≡ if_there security_in security
security-lent None security is = ap (if_there security_in) is
security-lent (Some part) security is = ap (if_there security_in) is

payload-at : (datagram : List ℕ) (payload : ℕ) → payload ≤ length datagram → length datagram - length (drop payload datagram) ≡ payload
payload-at datagram payload within = omega (arith, length-drop payload datagram, within)

-- where the header is read, the tests behind it are looked at
pub verdict-read : (group : ReadGroupPart) (setup : Setup) (accepted : Accepted) (datagram : List ℕ) (header : HeaderValue) (payload : ℕ)
    → header_at datagram ≡ Ok (header, drop payload datagram) → payload ≤ length datagram
    → verdict group setup accepted datagram ≡ judged (list_of group setup accepted datagram header payload) (opened_as group setup datagram header payload)
verdict-read group setup accepted datagram header payload read within =
    ap (verdict_of group setup accepted datagram) read
    ∙ ap (λ (n : ℕ). judged (list_of group setup accepted datagram header n) (opened_as group setup datagram header n)) (payload-at datagram payload within)

abbrev pub behind_filter : ReadGroupPart → Setup → Accepted → List ℕ → HeaderValue → ℕ → Refusals
behind_filter group setup accepted datagram header payload =
    let pass = guards.pass_of setup.mode header.security datagram in
    guard_refusals (guards.refusals setup.mode setup.keys accepted header.security datagram payload)
    ++ payload_refusals group.layout header.ids (drop payload (decrypted setup pass payload datagram))

judged-filter : (ours : Bool) (P : Refusals) (x : Opened) → ours ≡ true → judged ((not ours, refusals.NotOurs) ∷ P) x ≡ judged P x
judged-filter true P x e = refl
judged-filter false P x e = absurd (let wrong : Path Bool false true = e in cc)

pub refused-guard : (group : ReadGroupPart) (setup : Setup) (accepted : Accepted) (datagram : List ℕ) (header : HeaderValue) (payload : ℕ) (fault : OpenFault)
    → header_at datagram ≡ Ok (header, drop payload datagram) → payload ≤ length datagram → is_ours group header ≡ true
    → guards.verdict setup.mode setup.keys accepted header.security datagram payload ≡ Err fault → verdict group setup accepted datagram ≡ Err (refusals.Guard fault)
refused-guard group setup accepted datagram header payload fault read within ours refused =
    let value = opened_as group setup datagram header payload in
    let pass = guards.pass_of setup.mode header.security datagram in
    verdict-read group setup accepted datagram header payload read within
    ∙ judged-filter (is_ours group header) (behind_filter group setup accepted datagram header payload) value ours
    ∙ judged_as-before refusals.Guard (guards.refusals setup.mode setup.keys accepted header.security datagram payload)
    (payload_refusals group.layout header.ids (drop payload (decrypted setup pass payload datagram))) value pass fault refused

-- ---- the payload

-- what stands between the header and the signature, as a part of the datagram
between : (bytes : List ℕ) (at end : ℕ) → at ≤ end → drop at (take end bytes) ≡ slice_range bytes at end
between bytes at end order =
    let whole : at + (end - at) ≡ end = omega (arith, order) in
    ap (λ (n : ℕ). drop at (take n bytes)) (sym whole) ∙ drop-take at (end - at) bytes

listed-is : (carried : Carried) (room : Buffers) (payload : List ℕ) → HasListed carried payload room → dynamic_payload (ids_carried carried room.ids.items) payload ≡ listed_in carried room payload
listed-is carrieds.None room payload has = absurd has
listed-is carrieds.List room payload has =
    ap (λ (n : ℕ). payloads.Messages (zip (ids_of room.ids.items) (frames_of n payload))) (ids-count room.ids.items)
    ∙ ap (λ (l : List (List ℕ)). payloads.Messages (zip (ids_of room.ids.items) l)) (sym has.frames)
listed-is (carrieds.Chunk writer) room payload has = refl

held-is : (layout : Layout) (begun : Begun) (room : Buffers) (bytes : List ℕ) → begun.payload ≤ begun.pass.end → HasFound layout begun.carried (payload_in begun bytes) room
    → payload_of layout (ids_carried begun.carried room.ids.items) begun.payload (take begun.pass.end bytes) ≡ payload_held layout begun room bytes
held-is layouts.Fixed begun room bytes order has = refl
held-is layouts.Dynamic begun room bytes order has =
    ap (dynamic_payload (ids_carried begun.carried room.ids.items)) (between bytes begun.payload begun.pass.end order)
    ∙ listed-is begun.carried room (payload_in begun bytes) has

abbrev opened_with : Pass1 → Payload → Opened
opened_with pass payload = record { pass = pass; payload = payload }

abbrev opened_ok : Pass1 → Payload → Result Opened Refusal
opened_ok pass payload = Ok (opened_with pass payload)

-- the bytes once they are decrypted
abbrev is_opened : Setup → Begun → List ℕ → List ℕ
is_opened setup begun datagram = guards.opened setup.mode setup.keys setup.first_block begun.pass begun.payload datagram

-- a datagram that the guard passes is judged by its payload
judged-begun : (group : ReadGroupPart) (setup : Setup) (accepted : Accepted) (datagram : List ℕ) (begun : Begun) (kept : List ℕ) → begun.payload ≤ begun.pass.end
    → HasBegun group setup accepted datagram begun kept
    → verdict group setup accepted datagram ≡ judged (payload_refusals group.layout (ids_carried begun.carried kept) (payload_in begun (is_opened setup begun datagram)))
    (opened_with begun.pass (payload_of group.layout (ids_carried begun.carried kept) begun.payload (take begun.pass.end (is_opened setup begun datagram))))
judged-begun group setup accepted datagram begun kept order h =
    let header = h.header in
    let payload = begun.payload in
    let found = guards.pass_of setup.mode header.security datagram in
    let value = opened_as group setup datagram header payload in
    let list = guards.refusals setup.mode setup.keys accepted header.security datagram payload in
    let passed = judged_as-behind refusals.Guard list
    (payload_refusals group.layout header.ids (drop payload (decrypted setup found payload datagram))) value found begun.pass h.passed in
    let judged_with : Pass1 → IdsValue → Result Opened Refusal = λ pass ids.
    judged (payload_refusals group.layout ids (drop payload (decrypted setup pass payload datagram)))
    (opened_with pass (payload_of group.layout ids payload (decrypted setup pass payload datagram))) in
    verdict-read group setup accepted datagram header payload h.read h.within
    ∙ judged-filter (is_ours group header) (behind_filter group setup accepted datagram header payload) value h.ours
    ∙ passed
    ∙ ap (λ (pass : Pass1). judged_with pass header.ids) (judged-value list found begun.pass h.passed)
    ∙ ap (λ (ids : IdsValue). judged_with begun.pass ids) (sym h.ids)
    ∙ ap (λ (l : List ℕ). judged (payload_refusals group.layout (ids_carried begun.carried kept) l)
    (opened_with begun.pass (payload_of group.layout (ids_carried begun.carried kept) payload (take begun.pass.end (is_opened setup begun datagram)))))
    (between (is_opened setup begun datagram) payload begun.pass.end order)

-- what opening answers, once the messages were looked for
pub opens-found : (group : ReadGroupPart) (setup : Setup) (accepted : Accepted) (datagram bytes : List ℕ) (begun : Begun) (old new : Buffers) → begun.payload ≤ begun.pass.end
    → HasBegun group setup accepted datagram begun old.ids.items → bytes ≡ is_opened setup begun datagram
    → Finds group.layout begun.carried (payload_in begun bytes) old new → Opens group (verdict group setup accepted datagram) (Ok begun) new bytes
opens-found group setup accepted datagram bytes begun old new order h is found =
    let x = opened_with begun.pass (payload_of group.layout (ids_carried begun.carried old.ids.items) begun.payload (take begun.pass.end bytes)) in
    judged-begun group setup accepted datagram begun old.ids.items order h
    ∙ ap (λ (l : List ℕ). judged (payload_refusals group.layout (ids_carried begun.carried old.ids.items) (payload_in begun l))
    (opened_with begun.pass (payload_of group.layout (ids_carried begun.carried old.ids.items) begun.payload (take begun.pass.end l)))) (sym is)
    ∙ found.good x
    ∙ ap (λ (kept : List ℕ). opened_ok begun.pass (payload_of group.layout (ids_carried begun.carried kept) begun.payload (take begun.pass.end bytes))) (sym found.ids)
    ∙ ap (λ (held : Payload). opened_ok begun.pass held) (held-is group.layout begun new bytes order found.found)

pub opens-refused : (group : ReadGroupPart) (setup : Setup) (accepted : Accepted) (datagram bytes : List ℕ) (begun : Begun) (old new : Buffers) (refusal : Refusal) → begun.payload ≤ begun.pass.end
    → HasBegun group setup accepted datagram begun old.ids.items → bytes ≡ is_opened setup begun datagram
    → FindsMessages group.layout begun.carried (payload_in begun bytes) old new (Err refusal) → verdict group setup accepted datagram ≡ Err refusal
opens-refused group setup accepted datagram bytes begun old new refusal order h is refused =
    judged-begun group setup accepted datagram begun old.ids.items order h
    ∙ ap (λ (l : List ℕ). judged (payload_refusals group.layout (ids_carried begun.carried old.ids.items) (payload_in begun l))
    (opened_with begun.pass (payload_of group.layout (ids_carried begun.carried old.ids.items) begun.payload (take begun.pass.end l)))) (sym is)
    ∙ refused (opened_with begun.pass (payload_of group.layout (ids_carried begun.carried old.ids.items) begun.payload (take begun.pass.end bytes)))

-- ---- the sizes of the messages

past-bad : (count : ℕ) (payload : List ℕ) → HasBadSizes count payload → are_past count payload ≡ true
past-bad count payload bad = grind (arith, nat_tests, bad.several, bad.past)

bad-past : (count : ℕ) (payload : List ℕ) → are_past count payload ≡ true → HasBadSizes count payload
bad-past count payload e = record { several = grind (arith, nat_tests); past = grind (arith, nat_tests) }

-- the refusals of the payload of a list of ids
abbrev listed_judged : List ℕ → List ℕ → Opened → Result Opened Refusal
listed_judged kept payload x = judged (payload_refusals layouts.Dynamic (ListOf kept) payload) x

past_judged : (b : Bool) (x : Opened) → b ≡ true → judged ((b, refusals.BadSizes) ∷ []) x ≡ Err refusals.BadSizes
past_judged true x e = refl
past_judged false x e = absurd (let wrong : Path Bool false true = e in cc)

good_judged : (b : Bool) (x : Opened) → (b ≡ true → ⊥) → judged ((b, refusals.BadSizes) ∷ []) x ≡ Ok x
good_judged true x good = let same : Path Bool true true = refl in absurd (good same)
good_judged false x good = refl

pub listed-refused : (kept payload : List ℕ) (count : ℕ) (x : Opened) → count ≡ length kept / 2 → HasBadSizes count payload → listed_judged kept payload x ≡ Err refusals.BadSizes
listed-refused kept payload count x is bad =
    let past : are_past (length (ids_of kept)) payload ≡ true = ap (λ (n : ℕ). are_past n payload) (ids-count kept ∙ sym is) ∙ past-bad count payload bad in
    past_judged (are_past (length (ids_of kept)) payload) x past

pub listed-good : (kept payload : List ℕ) (count : ℕ) (x : Opened) → count ≡ length kept / 2 → (HasBadSizes count payload → ⊥) → listed_judged kept payload x ≡ Ok x
listed-good kept payload count x is good =
    good_judged (are_past (length (ids_of kept)) payload) x
    (λ past. good (bad-past count payload (sym (ap (λ (n : ℕ). are_past n payload) (ids-count kept ∙ sym is)) ∙ past)))

-- ---- the places of the messages

pieces-count : (sizes bytes : List ℕ) → length (cut_by sizes bytes) ≡ length sizes
pieces-count [] bytes = refl
pieces-count (size ∷ sizes) bytes = ap suc (pieces-count sizes (drop size bytes))

sizes-count : (count : ℕ) (payload : List ℕ) → length (sizes_of count payload) ≡ count
sizes-count zero payload = refl
sizes-count (suc count) payload = ap suc (sizes-count count (drop 2 payload))

-- there is a frame for each that is asked for
frames-count : (count : ℕ) (payload : List ℕ) → length (frames_of count payload) ≡ count
frames-count count payload = by_test (nat_lt 1 count) refl
  where
    by_test : (b : Bool) → nat_lt 1 count ≡ b → length (if b then cut_by (sizes_of count payload) (drop (2 * count) payload) else take count (payload ∷ [])) ≡ count
    by_test true several = pieces-count (sizes_of count payload) (drop (2 * count) payload) ∙ sizes-count count payload
    by_test false few =
        let one : count ≤ 1 = ltb-false 1 count few in
        omega (arith, length-take count (payload ∷ []), one)

-- the messages of a list of ids were found
pub listed-found : (payload : List ℕ) (count : ℕ) (old new : Buffers) → AreIds (ListOf old.ids.items) → count ≡ length old.ids.items / 2 → (HasBadSizes count payload → ⊥)
    → new.ids.items ≡ old.ids.items → map (frame_at payload) new.parts.items ≡ frames_of count payload → All (IsWithin payload) new.parts.items
    → Finds layouts.Dynamic carrieds.List payload old new
listed-found payload count old new ids is good same frames within =
    let asked : count ≡ length new.ids.items / 2 = is ∙ ap (λ (l : List ℕ). length l / 2) (sym same) in
    let found : length new.parts.items ≡ count = sym (length-map new.parts.items (frame_at payload)) ∙ ap length frames ∙ frames-count count payload in
    record {
      good = λ x. listed-good old.ids.items payload count x is good;
      ids = same;
      found = record {
        frames = frames ∙ ap (λ (n : ℕ). frames_of n payload) asked;
        count = ap length same ∙ sym ids.1 ∙ ap (λ (n : ℕ). 2 * n) (sym is ∙ sym found);
        within = within;
      };
    }
