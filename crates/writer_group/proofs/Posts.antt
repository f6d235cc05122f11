-- Datagrams that are made one behind another, and sealed.
use Rattle.std.proofs.Common.{◌≡◌, ℕ, suc, ◌+◌, ◌<◌, ◌≤◌, true, false, List, [], ◌∷◌, ◌++◌, length, map, take, get_or, is_some, refl, sym, ap, subst, ◌∙◌, arith, Option, Some, None, All}
use Rattle.std.proofs.lemmas.Bool.{false≢true}
use Rattle.std.proofs.lemmas.List.{length-append, length-map, length-take-le, map-append, take_all, take_more}
use Rattle.std.proofs.lemmas.List.Elements.{All-cons, All-nil}
use Rattle.ua_binary.specs.Writing.{laid}
use Rattle.ua_binary.proofs.Laying.{laid-laid}
use Rattle.uadp_header.specs.Headers.{SecurityValue}
use Rattle.uadp_header.specs.Spelling.{IsSendersSecurity, IsWritten, len_if, security_len}
use Rattle.message_guard.specs.declared.mode.Mode.{Mode}
use Rattle.message_guard.specs.Modes.{is_secured}
use Rattle.message_guard.specs.Senders.{IsSender, SenderState, advanced, front_value}
use Rattle.message_guard.proofs.Carrying.{front_is_senders}
use Rattle.config_tables.specs.declared.words.Security.{Security}
use Rattle.config_tables.specs.declared.words.Security.TheVariants as security
use Rattle.ps_config.specs.declared.header.HeaderSettings.{HeaderSettings}
use Rattle.ps_config.specs.Headers.{security_value, mode_of, is_secured as is_kind_secured}
use Rattle.writer_group.specs.declared.laying.Cargo.{Cargo}
use Rattle.writer_group.specs.declared.load.Load.{Load}
use Rattle.writer_group.specs.declared.posting.Range.{Range}
use Rattle.writer_group.specs.Envelopes.{IsSecuredAs}
use Rattle.writer_group.specs.Holding.{CargoValue, cargo_in, payload_in}
use Rattle.writer_group.specs.Loading.{IsLoad}
use Rattle.writer_group.specs.Posting.{MayPost, joined, made_of, ranges_of, secured_load}
use Rattle.writer_group.specs.Sealing.{AreWritten, Envelope, Payload, advanced_by, datagram_at, header_at, secured_header}
use Rattle.writer_group.proofs.Joining.{count-made, joined-fewer, joined-push, made-more, ranges-push}

-- ---- one of the loads

pub post-one : (e : Envelope) (cargo : Cargo) (loads : List Load) (index : ℕ) (load : Load) → MayPost e cargo loads → index < length loads → load ≡ get_or loads index load
    → MayPost e cargo (load ∷ [])
post-one e cargo loads index load may within is =
    let here : Path Load load (get_or loads index load) = is in
    record {
      cargo_is = may.cargo_is;
      loads_are = All-one load (may.loads_are index load within) here;
      few = omega arith;
      start = may.start;
      publisher = may.publisher;
      leads = may.leads;
    }
  where
    All-one : (x : Load) → IsLoad (cargo_in cargo) (get_or loads index load) → x ≡ get_or loads index load → All (IsLoad (cargo_in cargo)) (x ∷ [])
    All-one x own same = All-cons (IsLoad (cargo_in cargo)) x [] (subst (IsLoad (cargo_in cargo)) (sym same) own) (All-nil (IsLoad (cargo_in cargo)))

-- ---- the datagrams so far

pub record PostedSoFar (e : Envelope) (sender : Option SenderState) (cargo : CargoValue) (loads : List Load) (index : ℕ) (old free : List ℕ) (start : ℕ) (ranges : List Range) : Type 0 where
  pub laid_is : free ≡ laid old 0 (joined (made_of e sender cargo (take index loads)))
  pub ranges_are : ranges ≡ ranges_of 0 (made_of e sender cargo (take index loads))
  pub start_is : start ≡ length (joined (made_of e sender cargo (take index loads)))
  pub written : AreWritten e sender 0 (map (payload_in cargo) (take index loads))

pub posted-none : (e : Envelope) (sender : Option SenderState) (cargo : CargoValue) (loads : List Load) (free : List ℕ) (ranges : List Range) → ranges ≡ []
    → PostedSoFar e sender cargo loads 0 free free 0 ranges
posted-none e sender cargo loads free ranges none = record { laid_is = refl; ranges_are = none; start_is = refl; written = tt }

written-push : (e : Envelope) (sender : Option SenderState) (index : ℕ) (payloads : List Payload) (payload : Payload) → AreWritten e sender index payloads
    → IsWritten (header_at e sender (index + length payloads) payload.0) → AreWritten e sender index (payloads ++ payload ∷ [])
written-push e sender index [] payload are is =
    let here : index + 0 ≡ index = omega arith in
    (subst (λ (n : ℕ). IsWritten (header_at e sender n payload.0)) here is, tt)
written-push e sender index (first ∷ payloads) payload are is =
    let far : index + suc (length payloads) ≡ index + 1 + length payloads = omega arith in
    (are.0, written-push e sender (index + 1) payloads payload are.1 (subst (λ (n : ℕ). IsWritten (header_at e sender n payload.0)) far is))

written-more : (e : Envelope) (sender : Option SenderState) (cargo : CargoValue) (loads : List Load) (index : ℕ) (load : Load) → index < length loads → load ≡ get_or loads index load
    → AreWritten e sender 0 (map (payload_in cargo) (take index loads)) → IsWritten (header_at e sender index (payload_in cargo load).0)
    → AreWritten e sender 0 (map (payload_in cargo) (take (index + 1) loads))
written-more e sender cargo loads index load within is are own =
    let before = map (payload_in cargo) (take index loads) in
    let next = payload_in cargo (get_or loads index load) in
    let count : length before ≡ index = length-map (take index loads) (payload_in cargo) ∙ length-take-le index loads (omega arith) in
    let place : index ≡ 0 + length before = omega (arith, count) in
    let more : map (payload_in cargo) (take (index + 1) loads) ≡ before ++ next ∷ [] =
    ap (map (payload_in cargo)) (take_more loads index load within) ∙ map-append (payload_in cargo) (take index loads) (get_or loads index load ∷ []) in
    let here : IsWritten (header_at e sender (0 + length before) next.0) =
    subst (λ (n : ℕ). IsWritten (header_at e sender n next.0)) place (subst (λ (l : Load). IsWritten (header_at e sender index (payload_in cargo l).0)) is own) in
    subst (λ (l : List Payload). AreWritten e sender 0 l) (sym more) (written-push e sender 0 before next are here)

-- the next one has room
pub next-room : (e : Envelope) (sender : Option SenderState) (cargo : CargoValue) (loads : List Load) (index : ℕ) (old free : List ℕ) (start : ℕ) (ranges : List Range) (load : Load)
    → PostedSoFar e sender cargo loads index old free start ranges → index < length loads → load ≡ get_or loads index load
    → length (joined (made_of e sender cargo loads)) ≤ length old → start + length (datagram_at e sender index (payload_in cargo load)) ≤ length old
next-room e sender cargo loads index old free start ranges load so_far within is room =
    let next : length (datagram_at e sender index (payload_in cargo load)) ≡ length (datagram_at e sender index (payload_in cargo (get_or loads index load))) =
    ap (λ (x : Load). length (datagram_at e sender index (payload_in cargo x))) is in
    omega (arith, next, so_far.start_is, joined-fewer e sender cargo loads index load within)

pub posted-next : (e : Envelope) (sender : Option SenderState) (cargo : CargoValue) (loads : List Load) (index : ℕ) (old free after : List ℕ) (start end : ℕ) (ranges more : List Range) (load : Load) (text : List ℕ)
    → PostedSoFar e sender cargo loads index old free start ranges → index < length loads → load ≡ get_or loads index load
    → text ≡ datagram_at e sender index (payload_in cargo load) → after ≡ laid free start text → end ≡ start + length text
    → more ≡ ranges ++ record { start = start; end = end } ∷ [] → IsWritten (header_at e sender index (payload_in cargo load).0)
    → PostedSoFar e sender cargo loads (index + 1) old after end more
posted-next e sender cargo loads index old free after start end ranges more load text so_far within is text_is laid_on ends pushed header =
    let before = made_of e sender cargo (take index loads) in
    let text_at : text ≡ datagram_at e sender index (payload_in cargo (get_or loads index load)) = text_is ∙ ap (λ (x : Load). datagram_at e sender index (payload_in cargo x)) is in
    let all : made_of e sender cargo (take (index + 1) loads) ≡ before ++ text ∷ [] =
    made-more e sender cargo loads index load within ∙ ap (λ (x : List ℕ). before ++ x ∷ []) (sym text_at) in
    let front : joined (made_of e sender cargo (take (index + 1) loads)) ≡ joined before ++ text = ap joined all ∙ joined-push before text in
    let place : start ≡ 0 + length (joined before) = omega (arith, so_far.start_is) in
    record {
      laid_is = laid_on ∙ ap (λ (l : List ℕ). laid l start text) so_far.laid_is ∙ ap (λ (n : ℕ). laid (laid old 0 (joined before)) n text) place
          ∙ laid-laid old 0 (joined before) text (omega arith) ∙ ap (laid old 0) (sym front);
      ranges_are = pushed ∙ ap (λ (l : List Range). l ++ record { start = start; end = end } ∷ []) so_far.ranges_are
          ∙ sym (ranges-push before text start end so_far.start_is ends) ∙ ap (ranges_of 0) (sym all);
      start_is = omega (arith, ends, so_far.start_is, ap length front, length-append (joined before) text);
      written = written-more e sender cargo loads index load within is so_far.written header;
    }

length-ranges : (start : ℕ) (datagrams : List (List ℕ)) → length (ranges_of start datagrams) ≡ length datagrams
length-ranges start [] = refl
length-ranges start (datagram ∷ datagrams) = ap suc (length-ranges (start + length datagram) datagrams)

pub posted-count : (e : Envelope) (sender : Option SenderState) (cargo : CargoValue) (loads : List Load) (index : ℕ) (old free : List ℕ) (start : ℕ) (ranges : List Range)
    → PostedSoFar e sender cargo loads index old free start ranges → index ≤ length loads → length ranges ≡ index
posted-count e sender cargo loads index old free start ranges so_far within =
    ap length so_far.ranges_are ∙ length-ranges 0 (made_of e sender cargo (take index loads))
    ∙ count-made e sender cargo (take index loads) ∙ length-take-le index loads within

pub record ArePosted (e : Envelope) (sender : Option SenderState) (cargo : CargoValue) (loads : List Load) (old free : List ℕ) (ranges : List Range) : Type 0 where
  pub laid_is : free ≡ laid old 0 (joined (made_of e sender cargo loads))
  pub ranges_are : ranges ≡ ranges_of 0 (made_of e sender cargo loads)
  pub written : AreWritten e sender 0 (map (payload_in cargo) loads)

pub posted-all : (e : Envelope) (sender : Option SenderState) (cargo : CargoValue) (loads : List Load) (index : ℕ) (old free : List ℕ) (start : ℕ) (ranges : List Range) → length loads ≤ index
    → PostedSoFar e sender cargo loads index old free start ranges → ArePosted e sender cargo loads old free ranges
posted-all e sender cargo loads index old free start ranges all so_far =
    let whole : take index loads ≡ loads = take_all index loads all in
    record {
      laid_is = so_far.laid_is ∙ ap (λ (l : List Load). laid old 0 (joined (made_of e sender cargo l))) whole;
      ranges_are = so_far.ranges_are ∙ ap (λ (l : List Load). ranges_of 0 (made_of e sender cargo l)) whole;
      written = subst (λ (l : List Load). AreWritten e sender 0 (map (payload_in cargo) l)) whole so_far.written;
    }

-- the datagram of the sender's next front
pub secured-at : (e : Envelope) (mode : Mode) (s now : SenderState) (index : ℕ) (cargo : CargoValue) (load : Load) → mode ≡ mode_of e.settings.security → now ≡ advanced_by mode s index
    → secured_load e (advanced mode now) index cargo load ≡ datagram_at e (Some s) index (payload_in cargo load)
secured-at e mode s now index cargo load same is =
    ap (λ (t : SenderState). secured_load e (advanced mode t) index cargo load) is
    ∙ ap (λ (m : Mode). secured_load e (advanced_by m s (suc index)) index cargo load) same

pub header-at : (e : Envelope) (mode : Mode) (s now : SenderState) (index : ℕ) (cargo : CargoValue) (load : Load) → mode ≡ mode_of e.settings.security → now ≡ advanced_by mode s index
    → IsWritten (secured_header e (advanced mode now) index (payload_in cargo load).0) → IsWritten (header_at e (Some s) index (payload_in cargo load).0)
header-at e mode s now index cargo load same is written =
    subst (λ (m : Mode). IsWritten (secured_header e (advanced_by m s (suc index)) index (payload_in cargo load).0)) same
    (subst (λ (t : SenderState). IsWritten (secured_header e (advanced mode t) index (payload_in cargo load).0)) is written)

-- ---- a security header as the group's settings say

pub secured-mode : (kind : Security) → true ≡ is_kind_secured kind → is_secured (mode_of kind) ≡ true
secured-mode security.None there = absurd (false≢true (sym there))
secured-mode security.Sign there = refl
secured-mode security.Encrypt there = refl

secured-there : (kind : Security) → is_secured (mode_of kind) ≡ true → is_some (security_value kind) ≡ true
secured-there security.None secured = absurd (false≢true secured)
secured-there security.Sign secured = refl
secured-there security.Encrypt secured = refl

secured-long : (kind : Security) → is_secured (mode_of kind) ≡ true → len_if security_len (security_value kind) ≡ 14
secured-long security.None secured = absurd (false≢true secured)
secured-long security.Sign secured = refl
secured-long security.Encrypt secured = refl

pub fronted-as : (settings : HeaderSettings) (front : SecurityValue) → is_secured (mode_of settings.security) ≡ true → length front.nonce ≡ 8 → IsSecuredAs settings (Some front)
fronted-as settings front secured nonce =
    record {
      there = sym (secured-there settings.security secured);
      long = omega (arith, nonce, secured-long settings.security secured);
    }

unsecured : (kind : Security) → is_secured (mode_of kind) ≡ false → (security_value kind ≡ None)
unsecured security.None bare = refl
unsecured security.Sign bare = absurd (false≢true (sym bare))
unsecured security.Encrypt bare = absurd (false≢true (sym bare))

pub open-as : (settings : HeaderSettings) → is_secured (mode_of settings.security) ≡ false → IsSecuredAs settings None
open-as settings bare =
    record {
      there = ap (λ (o : Option SecurityValue). is_some o) (sym (unsecured settings.security bare));
      long = ap (λ (o : Option SecurityValue). len_if security_len o) (sym (unsecured settings.security bare));
    }

pub front-senders : (mode : Mode) (s : SenderState) → IsSender s → s.used < 4294967295 → IsSendersSecurity (front_value mode (advanced mode s))
front-senders mode s is room = front_is_senders mode (advanced mode s) (record { random = is.random; used = omega arith })
