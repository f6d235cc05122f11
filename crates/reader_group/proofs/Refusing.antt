-- The sender of a datagram that is refused.
use Rattle.std.proofs.Common.{◌≡◌, refl, sym, ◌∙◌, subst, ℕ, Bool, true, false, List, [], ◌∷◌, None}
use Rattle.std.specs.Prelude.{◌&&◌, not, Result, Ok, Err}
use Rattle.message_guard.specs.Opening.{judged}
use Rattle.config_tables.specs.declared.words.Layout.{Layout}
use Rattle.uadp_header.specs.Headers.{IdsValue}
use Rattle.reader_group.specs.declared.refusal.Refusal.{Refusal}
use Rattle.reader_group.specs.declared.refusal.Refusal.TheVariants as refusals
use Rattle.ps_config.specs.Rooms.{is_fixed}
use Rattle.uadp_header.specs.Spelling.{has_ids}
use Rattle.reader_group.specs.Opening.{Opened, has_bad_sizes, payload_refusals}
use Rattle.reader_group.specs.Refused.{sender_of, KeepsSender}

-- a refusal for the payload tells of none
payload_sender : (none bad : Bool) (x : Opened) (refusal : Refusal) (bytes : List ℕ) → judged ((none, refusals.NoIds) ∷ (bad, refusals.BadSizes) ∷ []) x ≡ Err refusal
    → sender_of refusal bytes ≡ None
payload_sender true bad x refusal bytes e = let same : refusals.NoIds ≡ refusal = cc in subst (λ (r : Refusal). sender_of r bytes ≡ None) same refl
payload_sender false true x refusal bytes e = let same : refusals.BadSizes ≡ refusal = cc in subst (λ (r : Refusal). sender_of r bytes ≡ None) same refl
payload_sender false false x refusal bytes e = absurd (no e)
  where
    no : Path (Result Opened Refusal) (Ok x) (Err refusal) → ⊥
    no e = cc

pub payload-keeps : (layout : Layout) (ids : IdsValue) (payload : List ℕ) (x : Opened) (refusal : Refusal) (datagram bytes : List ℕ)
    → judged (payload_refusals layout ids payload) x ≡ Err refusal → KeepsSender datagram bytes refusal
payload-keeps layout ids payload x refusal datagram bytes e =
    let none = not (is_fixed layout) && not (has_ids ids) in
    let bad = not (is_fixed layout) && has_bad_sizes ids payload in
    payload_sender none bad x refusal bytes e ∙ sym (payload_sender none bad x refusal datagram e)
