-- Each datagram of a turn is taken as what its group had for it.
use Rattle.std.proofs.Common.{◌≡◌, refl, sym, ap, ◌∙◌, subst, arith, ℕ, zero, suc, ◌+◌, ◌<◌, ◌^◌, Bool, true, false, length, Option, Some, None, Ok, IfSome, is_some}
use Rattle.uadp_header.specs.Spelling.{IsWritten}
use Rattle.message_guard.specs.declared.keys.TokenKeys.{TokenKeys}
use Rattle.message_guard.specs.declared.mode.Mode.{Mode}
use Rattle.message_guard.specs.declared.mode.Mode.TheVariants as modes
use Rattle.message_guard.specs.Acceptance.{Accepted, is_acceptable}
use Rattle.message_guard.specs.Modes as modes_of
use Rattle.message_guard.specs.Protection.{keys_with}
use Rattle.message_guard.specs.Senders.{SenderState, IsSender, front_value}
use Rattle.config_tables.specs.declared.words.Layout.{Layout}
use Rattle.config_tables.specs.declared.words.Security.{Security}
use Rattle.config_tables.specs.declared.words.Security.TheVariants as security
use Rattle.ps_config.specs.declared.parts.Config.{Config}
use Rattle.ps_config.specs.declared.parts.GroupPart.{GroupPart}
use Rattle.ps_config.specs.declared.parts.ReadGroupPart.{ReadGroupPart}
use Rattle.ps_config.specs.Headers.{is_secured, mode_of}
use Rattle.ps_config.specs.Sound.{IsSound, IsGroup}
use Rattle.writer_group.specs.Envelopes.{Numbering}
use Rattle.writer_group.specs.Sealing.{Payload, Envelope, envelope_with, advanced_by, header_at, datagram_at}
use Rattle.reader_group.specs.Filter.{is_ours}
use Rattle.reader_group.specs.Opening.{verdict}
use Rattle.reader_group.specs.Settings.{setup_by, keygroup_at}
use Rattle.group_laws.specs.Matching.{IsMatched, IsSenderOf}
use Rattle.group_laws.specs.TurnOpened.{sender_at, opened_at, IsNumberRefusal}
use Rattle.group_laws.proofs.Matched.{matched-ours}
use Rattle.group_laws.proofs.PayloadsGood.{IsGood}
use Rattle.group_laws.proofs.Taking.{IsSecured, taken-open, taken-secured, late-secured}

-- ---- the sender within a turn

pub advanced-keys : (mode : Mode) (s : SenderState) (count : ℕ) → (advanced_by mode s count).keys ≡ s.keys
advanced-keys mode s zero = refl
advanced-keys mode s (suc count) = advanced-keys mode s count

pub advanced-random : (mode : Mode) (s : SenderState) (count : ℕ) → (advanced_by mode s count).random ≡ s.random
advanced-random mode s zero = refl
advanced-random mode s (suc count) = advanced-random mode s count

pub advanced-block : (mode : Mode) (s : SenderState) (count : ℕ) → (advanced_by mode s count).first_block ≡ s.first_block
advanced-block mode s zero = refl
advanced-block mode s (suc count) = advanced-block mode s count

pub advanced-used : (mode : Mode) (s : SenderState) (count : ℕ) → (advanced_by mode s count).used ≡ s.used + count
advanced-used mode s zero = omega arith
advanced-used mode s (suc count) = let before = advanced-used mode s count in omega (arith, before)

advanced-sender : (mode : Mode) (s : SenderState) (count : ℕ) → IsSender s → s.used + count < 2 ^ 32 → IsSender (advanced_by mode s count)
advanced-sender mode s count is fits = record {
  random = ap length (advanced-random mode s count) ∙ is.random;
  used = let used = advanced-used mode s count in omega (arith, used, fits);
}

-- ---- the mode of a group

mode-secured : (s : Security) → is_secured s ≡ true → modes_of.is_secured (mode_of s) ≡ true
mode-secured security.None secured = absurd (let wrong : Path Bool false true = secured in cc)
mode-secured security.Sign secured = refl
mode-secured security.Encrypt secured = refl

mode-open : (s : Security) → is_secured s ≡ false → mode_of s ≡ modes.None
mode-open security.None unsecured = refl
mode-open security.Sign unsecured = absurd (let wrong : Path Bool true false = unsecured in cc)
mode-open security.Encrypt unsecured = absurd (let wrong : Path Bool true false = unsecured in cc)

setup-mode : (config : Config) (group : ReadGroupPart) (keygroup : Option ℕ) → (setup_by config group keygroup).mode ≡ mode_of group.security
setup-mode config group None = refl
setup-mode config group (Some index) = refl

-- ---- one datagram

-- what is asked of a payload and of the group beside it
pub record IsOne (config : Config) (group : GroupPart) (reads : ReadGroupPart) (payload : Payload) : Type 0 where
  pub sound : IsSound config
  pub is : IsGroup config group
  pub matched : IsMatched config group reads
  pub good : IsGood group.layout payload

good-there : (reads : ReadGroupPart) (layout : Layout) (payload : Payload) → reads.layout ≡ layout → IsGood layout payload → IsGood reads.layout payload
good-there reads layout payload same good = subst (λ (l : Layout). IsGood l payload) (sym same) good

pub setup-open : (config : Config) (group : GroupPart) (reads : ReadGroupPart) (payload : Payload) → IsOne config group reads payload → is_secured group.security ≡ false → (setup_by config reads reads.keygroup).mode ≡ modes.None
setup-open config group reads payload one unsecured =
    setup-mode config reads reads.keygroup ∙ ap mode_of one.matched.security ∙ mode-open group.security unsecured

pub open-one : (config : Config) (group : GroupPart) (reads : ReadGroupPart) (accepted : Accepted) (made index : ℕ) (payload : Payload) → IsOne config group reads payload
    → IsWritten (header_at (envelope_with config group made) None index payload.0) → is_secured group.security ≡ false
    → (let e = envelope_with config group made in
    verdict reads (setup_by config reads reads.keygroup) accepted (datagram_at e None index payload) ≡ Ok (opened_at group.layout e None index payload))
open-one config group reads accepted made index payload one written unsecured =
    let e = envelope_with config group made in
    let setup = setup_by config reads reads.keygroup in
    let header = header_at e None index payload.0 in
    let mode_is : setup.mode ≡ modes.None = setup-open config group reads payload one unsecured in
    let numbering : Numbering = record { sequence = made + index; message = index + 1; security = None } in
    taken-open reads setup accepted header payload.1 mode_is refl written (matched-ours config group reads numbering payload.0 one.matched) (good-there reads group.layout payload one.matched.layout one.good)
    ∙ ap (λ (l : Layout). Ok (opened_at l e None index payload)) one.matched.layout

-- the guard of a matched read group has the sender's keys
guard-of : (config : Config) (group : GroupPart) (reads : ReadGroupPart) (s : SenderState) (count : ℕ) (keygroup : Option ℕ) → is_secured group.security ≡ true → is_some keygroup ≡ true → group.keygroup ≡ keygroup
    → reads.keygroup ≡ keygroup → reads.security ≡ group.security → s.used + count < 2 ^ 32 → IfSome keygroup (λ index. IsSenderOf (keygroup_at config index) s)
    → IsSecured (setup_by config reads reads.keygroup) (mode_of group.security) (advanced_by (mode_of group.security) s count)
guard-of config group reads s count None secured there has reads_has same fits is = absurd (let wrong : Path Bool false true = there in cc)
guard-of config group reads s count (Some index) secured there has reads_has same fits is =
    let mode = mode_of group.security in
    let setup = setup_by config reads (Some index) in
    let here : IsSecured setup mode (advanced_by mode s count) = record {
      mode_is = ap mode_of same;
      secured = mode-secured group.security secured;
      sender = advanced-sender mode s count is.sender_is fits;
      known = ap (λ (k : TokenKeys). keys_with setup.keys k.token) (advanced-keys mode s count) ∙ is.keys ∙ ap Some (sym (advanced-keys mode s count));
      first_block = sym is.first_block ∙ sym (advanced-block mode s count);
    } in
    subst (λ (k : Option ℕ). IsSecured (setup_by config reads k) mode (advanced_by mode s count)) (sym reads_has) here

pub guard-is : (config : Config) (group : GroupPart) (reads : ReadGroupPart) (payload : Payload) (index : ℕ) (s : SenderState) → IsOne config group reads payload → is_secured group.security ≡ true → s.used + suc index < 2 ^ 32
    → IfSome group.keygroup (λ index. IsSenderOf (keygroup_at config index) s) → IsSecured (setup_by config reads reads.keygroup) (mode_of group.security) (advanced_by (mode_of group.security) s (suc index))
guard-is config group reads payload index s one secured fits is =
    guard-of config group reads s (suc index) group.keygroup secured (sym one.is.keys.keyed ∙ secured) refl one.matched.keygroup one.matched.security fits is

module _ (config : Config) (group : GroupPart) (reads : ReadGroupPart) (accepted : Accepted) (made index : ℕ) (payload : Payload) (s : SenderState) (one : IsOne config group reads payload)
    (written : IsWritten (header_at (envelope_with config group made) (Some s) index payload.0)) (secured : is_secured group.security ≡ true) (fits : s.used + suc index < 2 ^ 32) (is : IfSome group.keygroup (λ index. IsSenderOf (keygroup_at config index) s)) where
  abbrev e : Envelope
  e = envelope_with config group made

  abbrev mode : Mode
  mode = mode_of group.security

  abbrev now : SenderState
  now = sender_at e s index

  guard : IsSecured (setup_by config reads reads.keygroup) mode now
  guard = guard-is config group reads payload index s one secured fits is

  ours : is_ours reads (header_at e (Some s) index payload.0) ≡ true
  ours = matched-ours config group reads (record { sequence = made + index; message = index + 1; security = Some (front_value mode now) }) payload.0 one.matched

  pub secured-one : is_acceptable (setup_by config reads reads.keygroup).keys accepted now.keys.token now.used ≡ true
      → verdict reads (setup_by config reads reads.keygroup) accepted (datagram_at e (Some s) index payload) ≡ Ok (opened_at group.layout e (Some s) index payload)
  secured-one acceptable =
      taken-secured reads (setup_by config reads reads.keygroup) accepted (header_at e (Some s) index payload.0) mode now payload.1 guard refl written ours (good-there reads group.layout payload one.matched.layout one.good) acceptable
      ∙ ap (λ (l : Layout). Ok (opened_at l e (Some s) index payload)) one.matched.layout

  pub late-one : is_acceptable (setup_by config reads reads.keygroup).keys accepted now.keys.token now.used ≡ false
      → IsNumberRefusal (verdict reads (setup_by config reads reads.keygroup) accepted (datagram_at e (Some s) index payload))
  late-one not_acceptable =
      late-secured reads (setup_by config reads reads.keygroup) accepted (header_at e (Some s) index payload.0) mode now payload.1 guard refl written ours not_acceptable
