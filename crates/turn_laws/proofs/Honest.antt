-- A link over which all that is sent comes, and nothing else, is honest: so there are signed sessions.
use Rattle.std.proofs.Common.{◌≡◌, refl, sym, ap, ◌∙◌, subst, arith, ℕ, zero, suc, ◌<◌, ◌^◌, lit<, Bool, true, false, List, [], ◌∷◌, ◌++◌, length, map, Some, inl, inr, Contains}
use Rattle.std.specs.Prelude.{◌⊎◌, ◌≢◌, slice_index}
use Rattle.std.proofs.lemmas.List.Elements.{All-append, All-cons, All-nil, Contains-append_left, Contains-append_right}
use Rattle.ua_base.specs.Journal.{Entry, Sent, Got, Empty}
use Rattle.group_keys.specs.KeySets.{LengthsFit, encrypting_length, encrypting_lengths}
use Rattle.group_keys.specs.declared.key_set.KeySet.{KeySet}
use Rattle.group_laws.specs.Witness.{signed_group, signed_readers, three_config, three_key, three_keys}
use Rattle.message_guard.specs.declared.keys.TokenKeys.{TokenKeys}
use Rattle.message_guard.specs.Modes.{is_secured}
use Rattle.message_guard.specs.Protection.{keys_in}
use Rattle.ps_config.specs.Configs.{is_long}
use Rattle.ps_config.specs.Rings.{key_set}
use Rattle.reader_group.specs.Arrivals.{is_numbered}
use Rattle.reader_group.specs.Members.{seat_at}
use Rattle.reader_group.specs.Plain.{Setting}
use Rattle.reader_group.specs.Settings.{keygroup_at, setting_of}
use Rattle.reader_group.specs.Signed.{IsSignedBy, TakesSignedAlone}
use Rattle.writer_group.specs.declared.sampled.Sampled.{Sampled}
use Rattle.writer_group.specs.Parts.{group_at}
use Rattle.session_model.specs.Counts.{most_ticks}
use Rattle.session_model.specs.Lives.{Renewed, Stepped, TurnsHoldIn, account_in}
use Rattle.session_model.specs.Sends.{Send, journal, send_entries, sends_of}
use Rattle.session_model.specs.Steps.{Plan, Step}
use Rattle.session_model.specs.Turns.{TurnsHold}
use Rattle.session_laws.specs.Delivered.{all_got, delivered_on, sent_on}
use Rattle.session_laws.specs.Headline.{InSession}
use Rattle.session_laws.specs.Sessions.{IsHonestFor}
use Rattle.session_laws.specs.Witness.{three_plan, three_session}
use Rattle.session_laws.specs.Renewals.{HasShortTokens, HaveShortTokens}
use Rattle.turn_laws.specs.Lives.{AreSentIfSigned, IsSignedLife, TokensNameKeys, between_life, later_ring, later_set, sets_in_life, three_sent}
use Rattle.turn_laws.specs.Makers.{IsSignedSession}
use Rattle.turn_laws.proofs.LifeRecords.{honest-takes-in}

-- ---- an entry of two lists is one of the first, or behind it

-- behind these, in the first list
abbrev IsInFirst : List Entry → List Entry → Entry → Type 0
IsInFirst first before entry = (rest : List Entry) × (first ≡ before ++ entry ∷ rest)

-- behind the first list
abbrev IsBehindFirst : List Entry → List Entry → List Entry → Entry → List Entry → Type 0
IsBehindFirst first second before entry after = (more : List Entry) × (before ≡ first ++ more) × (second ≡ more ++ entry ∷ after)

split-cases : (first second before : List Entry) (entry : Entry) (after : List Entry) → first ++ second ≡ before ++ entry ∷ after → IsInFirst first before entry ⊎ IsBehindFirst first second before entry after
split-cases [] second before entry after e = inr (before, refl, e)
split-cases (x ∷ first) second [] entry after e = let same : x ≡ entry = cc in inl (first, ap (λ (y : Entry). y ∷ first) same)
split-cases (x ∷ first) second (y ∷ before) entry after e =
    let same : x ≡ y = cc in
    let tail : first ++ second ≡ before ++ entry ∷ after = cc in
    on same (split-cases first second before entry after tail)
  where
    on : x ≡ y → IsInFirst first before entry ⊎ IsBehindFirst first second before entry after → IsInFirst (x ∷ first) (y ∷ before) entry ⊎ IsBehindFirst (x ∷ first) second (y ∷ before) entry after
    on same (inl (rest, is)) = inl (rest, subst (λ (z : Entry). x ∷ first ≡ z ∷ before ++ entry ∷ rest) same (ap (λ (l : List Entry). x ∷ l) is))
    on same (inr (more, is, behind)) = inr (more, subst (λ (z : Entry). z ∷ before ≡ x ∷ first ++ more) same (ap (λ (l : List Entry). x ∷ l) is), behind)

-- ---- sends and their receives

abbrev pub done : List Send → List Bool
done sends = map (λ send. true) sends

no-got : (sends : List Send) (first behind : List Entry) (datagram : List ℕ) → send_entries sends (done sends) ≡ first ++ Got datagram ∷ behind → ⊥
no-got [] [] behind datagram e = cc
no-got [] (entry ∷ first) behind datagram e = cc
no-got (send ∷ sends) [] behind datagram e = cc
no-got (send ∷ sends) (entry ∷ first) behind datagram e = no-got sends first behind datagram (let tail : send_entries sends (done sends) ≡ first ++ Got datagram ∷ behind = cc in tail)

gets-sent : (sends : List Send) (first behind : List Entry) (datagram : List ℕ) → map (λ send. Got send.datagram) sends ++ Empty ∷ [] ≡ first ++ Got datagram ∷ behind → Contains (send_entries sends (done sends)) (Sent datagram)
gets-sent [] [] behind datagram e = absurd (cc)
gets-sent [] (entry ∷ []) behind datagram e = absurd (cc)
gets-sent [] (entry ∷ other ∷ first) behind datagram e = absurd (cc)
gets-sent (send ∷ sends) [] behind datagram e = let same : send.datagram ≡ datagram = cc in (0, omega arith, ap (λ (d : List ℕ). Sent d) same)
gets-sent (send ∷ sends) (entry ∷ first) behind datagram e =
    let rest = gets-sent sends first behind datagram (let tail : map (λ (send : Send). Got send.datagram) sends ++ Empty ∷ [] ≡ first ++ Got datagram ∷ behind = cc in tail) in
    (suc rest.0, let lt = rest.1 in omega (arith, lt), rest.2)

pub got-sent : (sends : List Send) (datagram : List ℕ) → Contains (map (λ (send : Send). Got send.datagram) sends ++ Empty ∷ []) (Got datagram) → Contains (send_entries sends (done sends)) (Sent datagram)
got-sent [] datagram (zero, below, same) = absurd (cc)
got-sent [] datagram (suc k, below, same) = absurd (omega (arith, below))
got-sent (send ∷ sends) datagram (zero, below, same) = let is : send.datagram ≡ datagram = cc in (0, omega arith, ap (λ (d : List ℕ). Sent d) is)
got-sent (send ∷ sends) datagram (suc k, below, same) = let rest = got-sent sends datagram (k, omega (arith, below), same) in (suc rest.0, let lt = rest.1 in omega (arith, lt), rest.2)

-- ---- the journal

pub honest-none : (setting : Setting) → IsHonestFor setting []
honest-none setting = λ before after datagram e signed. none before after datagram e
  where
    none : (before after : List Entry) (datagram : List ℕ) → [] ≡ before ++ Got datagram ∷ after → Contains before (Sent datagram)
    none [] after datagram e = absurd (cc)
    none (entry ∷ before) after datagram e = absurd (cc)

pub honest-delivered : (setting : Setting) (p : Plan) (ms : ℕ) (closing : Bool) (samples : List Sampled) (before : List Step) → IsHonestFor setting (journal p before) → IsHonestFor setting (journal p (delivered_on p ms closing samples before))
honest-delivered setting p ms closing samples before honest = λ earlier after datagram e signed. on earlier after datagram signed (split-cases (old ++ sent) got earlier (Got datagram) after e)
  where
    old : List Entry
    old = journal p before

    sends : List Send
    sends = sends_of p (sent_on p ms closing samples before)

    sent : List Entry
    sent = send_entries sends (done sends)

    got : List Entry
    got = all_got p (sent_on p ms closing samples before)

    at-first : (earlier after : List Entry) (datagram : List ℕ) → (is_secured setting.setup.mode ≡ true → IsSignedBy setting.setup.keys datagram)
        → IsInFirst old earlier (Got datagram) ⊎ IsBehindFirst old sent earlier (Got datagram) after → Contains earlier (Sent datagram)
    at-first earlier after datagram signed (inl (rest, is)) = honest earlier rest datagram is signed
    at-first earlier after datagram signed (inr (more, is, behind)) = absurd (no-got sends more after datagram behind)

    on : (earlier after : List Entry) (datagram : List ℕ) → (is_secured setting.setup.mode ≡ true → IsSignedBy setting.setup.keys datagram)
        → IsInFirst (old ++ sent) earlier (Got datagram) ⊎ IsBehindFirst (old ++ sent) got earlier (Got datagram) after → Contains earlier (Sent datagram)
    on earlier after datagram signed (inl (rest, is)) = at-first earlier rest datagram signed (split-cases old sent earlier (Got datagram) rest is)
    on earlier after datagram signed (inr (more, is, behind)) =
        subst (λ (l : List Entry). Contains l (Sent datagram)) (sym is)
        (Contains-append_left (old ++ sent) more (Sent datagram) (Contains-append_right old sent (Sent datagram) (gets-sent sends more after datagram behind)))

-- ---- the session of three groups

pub three-keyed : (group_at three_plan.config 0).keygroup ≡ Some 0
unfolding three_plan three_config signed_group
three-keyed = refl

pub three-numbered : is_numbered (seat_at (setting_of three_plan.config 0).seats 0).part.numbering ≡ true
unfolding three_plan three_config signed_readers
three-numbered = refl

pub three-signed : InSession three_plan 0 0 0 0 three_session → TurnsHold three_plan three_session → IsSignedSession most_ticks three_plan 0 0 0 0 0 three_session
three-signed is hold = record {
  plan = is.plan;
  steps_are = is.steps_are;
  turns = hold;
  run = is.run;
  under = record { there = is.there; within = is.matched.reads.within; keyed = three-keyed };
  matched = is.matched;
  numbered = three-numbered;
  takes = is.honest;
}

-- ---- a life of it, which a ring renews

between-honest : (keys : List TokenKeys) → AreSentIfSigned keys (account_in three_plan (map Stepped three_sent)).journal (all_got three_plan three_sent)
between-honest keys datagram has signed = got-sent (sends_of three_plan three_sent) datagram has

-- a ring of two sets, behind one of the first alone
one-of : (a b one : KeySet) → Contains (a ∷ b ∷ a ∷ []) one → (a ≡ one) ⊎ (b ≡ one)
one-of a b one (zero, below, same) = inl same
one-of a b one (suc zero, below, same) = inr same
one-of a b one (suc (suc zero), below, same) = inl same
one-of a b one (suc (suc (suc k)), below, same) = absurd (omega (arith, below))

pub two-named : (a b : KeySet) → a.token ≢ b.token → TokensNameKeys (a ∷ b ∷ a ∷ [])
two-named a b apart = λ one other has_one has_other token. on one other (one-of a b one has_one) (one-of a b other has_other) token
  where
    on : (one other : KeySet) → (a ≡ one) ⊎ (b ≡ one) → (a ≡ other) ⊎ (b ≡ other) → one.token ≡ other.token → keys_in one ≡ keys_in other
    on one other (inl is) (inl also) token = ap keys_in (sym is ∙ also)
    on one other (inl is) (inr also) token = absurd (apart (ap (λ (set : KeySet). set.token) is ∙ token ∙ sym (ap (λ (set : KeySet). set.token) also)))
    on one other (inr is) (inl also) token = absurd (apart (ap (λ (set : KeySet). set.token) also ∙ sym token ∙ sym (ap (λ (set : KeySet). set.token) is)))
    on one other (inr is) (inr also) token = ap keys_in (sym is ∙ also)

pub three-named : TokensNameKeys (sets_in_life three_plan.config 0 between_life)
unfolding three_plan three_config three_keys three_key
three-named = two-named (key_set three_key) later_set (λ same. omega (arith, same))

fits-two : (a b : KeySet) → length a.encrypting.items ≡ 16 → length b.encrypting.items ≡ 16 → (index : ℕ) → index < length (a ∷ b ∷ []) → slice_index (encrypting_lengths (a ∷ b ∷ [])) index ≡ encrypting_length false
fits-two a b is also zero below = is
fits-two a b is also (suc zero) below = also
fits-two a b is also (suc (suc index)) below = absurd (omega (arith, below))

pub three-fit : LengthsFit (is_long (keygroup_at three_plan.config 0).policy) later_ring
unfolding three_plan three_config three_keys three_key
three-fit = fits-two (key_set three_key) later_set refl refl

pub three-short : HaveShortTokens (map key_set three_keys.key) → HasShortTokens between_life
three-short short =
    (All-append (λ (set : KeySet). set.token < 2 ^ 32) (map key_set three_keys.key) (later_set ∷ []) short (All-cons (λ (set : KeySet). set.token < 2 ^ 32) later_set [] (lit< tt) (All-nil (λ (set : KeySet). set.token < 2 ^ 32))), tt)

pub three-secured : is_secured (setting_of three_plan.config 0).setup.mode ≡ true
unfolding three_plan three_config signed_readers
three-secured = refl

pub three-renewed : TakesSignedAlone → InSession three_plan 0 0 0 0 three_session → TurnsHoldIn three_plan between_life → IsSignedLife most_ticks three_plan 0 0 0 0 0 between_life
three-renewed signed is hold = record {
  plan = is.plan;
  steps_are = is.steps_are;
  turns = hold;
  run = is.run;
  under = record { there = is.there; within = is.matched.reads.within; keyed = three-keyed };
  matched = is.matched;
  numbered = three-numbered;
  takes = honest-takes-in signed three_plan 0 between_life three-secured (between-honest ((account_in three_plan (Renewed 0 later_ring ∷ map Stepped three_sent)).readings 0).keys, (tt, tt));
  named = three-named;
  lengths = ((λ same. three-fit), tt);
}
