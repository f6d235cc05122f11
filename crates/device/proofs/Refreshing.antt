-- Groups whose writers are refreshed.
use Rattle.std.proofs.Common.{◌≡◌, refl, sym, ap, ◌∙◌, subst, arith, ℕ, zero, suc, ◌+◌, ◌<◌, ◌≤◌, ◌≢◌, ◌⊎◌, inl, inr, true, false, Bool, List, length, get_or, replicate, set}
use Rattle.std.specs.Prelude.{Option, Some, None, IsTrue, ◌↔◌, ◌==◌, not}
use Rattle.std.specs.List.{AllZip}
use Rattle.std.proofs.lemmas.Bool.{cases_lt, false≢true}
use Rattle.std.proofs.lemmas.Bool.Decides.{eqb_tells}
use Rattle.std.proofs.lemmas.List.{get_or-set_other, get_or-set_same, get_or_read}
use Rattle.std.proofs.lemmas.Option.{none-some, same_Some, slice_get-get_or, slice_get_past}
use Rattle.message_guard.specs.Senders.{SenderState}
use Rattle.ps_config.specs.declared.parts.Config.{Config}
use Rattle.writer_group.specs.Parts.{group_at}
use Rattle.writer_group.specs.Standing.{IsGroup, IsRefreshed}
use Rattle.writer_group.specs.declared.group.Group.{Group}
use Rattle.device.specs.Coming.{AreRefreshed, HasNewToken, HasOtherToken, IsRefreshedFor, refreshed_first}
use Rattle.device.specs.Raising.{AreRaised, IsRefreshedBy, IsRefreshedIf, is_raised}
use Rattle.device.specs.Resuming.{IsRefreshedWith}
use Rattle.device.specs.Sides.{nth_sender, sender_for}
use Rattle.device.specs.declared.side.Side.{Side}
use Rattle.device.proofs.Firsts.{zip-then}
use Rattle.device.proofs.Sending.{no_sender}

-- one writer more is refreshed
pub refreshed-more : (count : ℕ) (old mid : Side) (group : Group) → IsRefreshed count mid.group group → AreRefreshed count old mid
    → AreRefreshed (count + 1) old (record mid { group = group })
refreshed-more count old mid group stands are = record {
  group = λ metas part past is.
      let next : suc count ≡ count + 1 = omega arith in
      subst (λ (n : ℕ). IsGroup metas part (refreshed_first n past) group) next
      (stands metas metas part (refreshed_first count past) (λ writer low other. refl) (are.group metas part past is));
  on = are.on;
  index = are.index;
}

-- none is told at first
pub none-raised : (n j : ℕ) → get_or (replicate n false) j false ≡ false
none-raised zero j = refl
none-raised (suc n) zero = refl
none-raised (suc n) (suc j) = none-raised n j

-- one truth value more is told
pub raised-more : (now : ℕ) (senders : List SenderState) (raised : List Bool) (k : ℕ) (x : SenderState) (is : Bool) → k < length raised → k < length senders → x ≡ get_or senders k x
    → (IsTrue is ↔ HasNewToken now x)
    → ((j : ℕ) (d : SenderState) → j < k → j < length senders → IsTrue (get_or raised j false) ↔ HasNewToken now (get_or senders j d))
    → (j : ℕ) (d : SenderState) → j < k + 1 → j < length senders → IsTrue (get_or (set raised k is) j false) ↔ HasNewToken now (get_or senders j d)
raised-more now senders raised k x is room low at tells each j d below there = by_case (eqb_tells k j)
  where
    own : IsTrue (get_or (set raised k is) k false) ↔ HasNewToken now (get_or senders k d)
    own =
        subst (λ (b : Bool). IsTrue b ↔ HasNewToken now (get_or senders k d)) (sym (get_or-set_same raised k is false room))
        (subst (λ (s : SenderState). IsTrue is ↔ HasNewToken now s) (get_or_read senders k x low at d) tells)

    by_case : ((k == j) ≡ true) × (k ≡ j) ⊎ ((k == j) ≡ false) × (k ≢ j) → IsTrue (get_or (set raised k is) j false) ↔ HasNewToken now (get_or senders j d)
    by_case (inl same) = subst (λ (i : ℕ). IsTrue (get_or (set raised k is) i false) ↔ HasNewToken now (get_or senders i d)) same.1 own
    by_case (inr other) =
        subst (λ (b : Bool). IsTrue b ↔ HasNewToken now (get_or senders j d)) (sym (get_or-set_other raised k j is false (λ e. other.1 (sym e))))
        (each j d (omega (arith, below, other.1)) there)

module _ (config : Config) (now : ℕ) (senders : List SenderState) (was is : Side) where
  -- without a sender a group stays
  unraised : sender_for config senders was.index ≡ None → is ≡ was → IsRefreshedFor config now senders was is
  unraised none stays = record {
    refreshed = λ sender at new. absurd (none-some sender (sym none ∙ at));
    stays = λ all. stays;
  }

  raised-by : (sender : SenderState) (raised : Bool) → sender_for config senders was.index ≡ Some sender → (IsTrue raised ↔ HasNewToken now sender) → IsRefreshedIf config raised was is
      → IsRefreshedFor config now senders was is
  raised-by sender true own tells does = record {
    refreshed = λ other at new. does;
    stays = λ none. absurd (none sender own (tells.0 refl));
  }
  raised-by sender false own tells does = record {
    refreshed = λ other at new. absurd (false≢true (tells.1 (subst (λ (s : SenderState). HasNewToken now s) (same_Some other sender (sym at ∙ own)) new)));
    stays = λ none. does;
  }

  raised-at : (raised : List Bool) (keygroup : Option ℕ) → AreRaised now senders raised → (group_at config was.index).keygroup ≡ keygroup → IsRefreshedIf config (is_raised raised keygroup) was is
      → IsRefreshedFor config now senders was is
  raised-at raised None are keyed does = unraised (ap (λ (k : Option ℕ). nth_sender senders k) keyed) does
  raised-at raised (Some k) are keyed does = by_case (cases_lt k (length senders))
    where
      by_case : (k < length senders) ⊎ (length senders ≤ k) → IsRefreshedFor config now senders was is
      by_case (inl low) =
          raised-by (get_or senders k no_sender) (get_or raised k false) (ap (λ (o : Option ℕ). nth_sender senders o) keyed ∙ slice_get-get_or senders k no_sender low)
          (are.each k no_sender low) does
      by_case (inr past) =
          unraised (ap (λ (o : Option ℕ). nth_sender senders o) keyed ∙ slice_get_past senders k past)
          (subst (λ (b : Bool). IsRefreshedIf config b was is) (are.others k past) does)

-- a group is refreshed for its key group's new token
pub refreshed-for : (config : Config) (now : ℕ) (senders : List SenderState) (raised : List Bool) → AreRaised now senders raised → (was is : Side)
    → IsRefreshedBy config raised was is → IsRefreshedFor config now senders was is
refreshed-for config now senders raised are was is does = raised-at config now senders was is raised (group_at config was.index).keygroup are refl does

-- ---- one key group alone

-- among these truth values that of the one alone may be told
module _ (config : Config) (keygroup : ℕ) (was is : Side) where
  own-alone : (changed : Bool) → (group_at config was.index).keygroup ≡ Some keygroup → IsRefreshedIf config changed was is → IsRefreshedWith config keygroup (IsTrue changed) was is
  own-alone true keyed does = record { refreshed = λ own yes. does; stays = λ none. absurd (none keyed refl) }
  own-alone false keyed does = record { refreshed = λ own yes. absurd (false≢true yes); stays = λ none. does }

  other-alone : (changed : Bool) → ¬ ((group_at config was.index).keygroup ≡ Some keygroup) → is ≡ was → IsRefreshedWith config keygroup (IsTrue changed) was is
  other-alone changed other stays = record { refreshed = λ own yes. absurd (other own); stays = λ none. stays }

  keyed-alone : (changed : Bool) (keyed : Option ℕ) → keygroup < 4 → (group_at config was.index).keygroup ≡ keyed
      → IsRefreshedIf config (is_raised (set (replicate 4 false) keygroup changed) keyed) was is → IsRefreshedWith config keygroup (IsTrue changed) was is
  keyed-alone changed None low at does = other-alone changed (λ own. none-some keygroup (sym at ∙ own)) does
  keyed-alone changed (Some k) low at does = by_case (eqb_tells keygroup k)
    where
      by_case : ((keygroup == k) ≡ true) × (keygroup ≡ k) ⊎ ((keygroup == k) ≡ false) × (keygroup ≢ k) → IsRefreshedWith config keygroup (IsTrue changed) was is
      by_case (inl same) =
          own-alone changed (at ∙ ap (λ (j : ℕ). Some j) (sym same.1))
          (subst (λ (b : Bool). IsRefreshedIf config b was is)
          (ap (λ (j : ℕ). get_or (set (replicate 4 false) keygroup changed) j false) (sym same.1) ∙ get_or-set_same (replicate 4 false) keygroup changed false low) does)
      by_case (inr other) =
          other-alone changed (λ own. other.1 (same_Some keygroup k (sym own ∙ at)))
          (subst (λ (b : Bool). IsRefreshedIf config b was is) (get_or-set_other (replicate 4 false) keygroup k changed false (λ e. other.1 (sym e)) ∙ none-raised 4 k) does)

-- a group is refreshed where the one key group's token changed
pub refreshed-alone : (config : Config) (keygroup : ℕ) (changed : Bool) → keygroup < 4 → (was is : Side) → IsRefreshedBy config (set (replicate 4 false) keygroup changed) was is
    → IsRefreshedWith config keygroup (IsTrue changed) was is
refreshed-alone config keygroup changed low was is does = keyed-alone config keygroup was is changed (group_at config was.index).keygroup low refl does

-- the same under a condition that means the same
refreshed-where : (config : Config) (keygroup : ℕ) (one other : Type 0) → (one → other) → (other → one) → (was is : Side)
    → IsRefreshedWith config keygroup one was is → IsRefreshedWith config keygroup other was is
refreshed-where config keygroup one other to from was is does = record {
  refreshed = λ own yes. does.refreshed own (from yes);
  stays = λ none. does.stays (λ own yes. none own (to yes));
}

-- ---- tokens that are compared

module _ (now was : ℕ × ℕ) (old new : SenderState) where
  told-other : now ≡ (new.keys.token, new.used) → was ≡ (old.keys.token, old.used) → IsTrue (not (now.0 == was.0)) → HasOtherToken old new
  told-other now_is was_is differ = by_case (eqb_tells now.0 was.0)
    where
      by_case : ((now.0 == was.0) ≡ true) × (now.0 ≡ was.0) ⊎ ((now.0 == was.0) ≡ false) × (now.0 ≢ was.0) → HasOtherToken old new
      by_case (inl same) = absurd (false≢true (sym (ap not same.0) ∙ differ))
      by_case (inr other) = λ same. other.1 (ap (λ (p : ℕ × ℕ). p.0) now_is ∙ same ∙ sym (ap (λ (p : ℕ × ℕ). p.0) was_is))

  other-told : now ≡ (new.keys.token, new.used) → was ≡ (old.keys.token, old.used) → HasOtherToken old new → IsTrue (not (now.0 == was.0))
  other-told now_is was_is other = by_case (eqb_tells now.0 was.0)
    where
      by_case : ((now.0 == was.0) ≡ true) × (now.0 ≡ was.0) ⊎ ((now.0 == was.0) ≡ false) × (now.0 ≢ was.0) → IsTrue (not (now.0 == was.0))
      by_case (inl same) = absurd (other (sym (ap (λ (p : ℕ × ℕ). p.0) now_is) ∙ same.1 ∙ ap (λ (p : ℕ × ℕ). p.0) was_is))
      by_case (inr other_token) = ap not other_token.0

-- groups that are refreshed where the first of two standings has another token are refreshed where the sender has
pub refreshed-told : (config : Config) (keygroup : ℕ) (now was : ℕ × ℕ) (old new : SenderState) → now ≡ (new.keys.token, new.used) → was ≡ (old.keys.token, old.used)
    → (before behind : List Side) → AllZip (IsRefreshedWith config keygroup (IsTrue (not (now.0 == was.0)))) before behind
    → AllZip (IsRefreshedWith config keygroup (HasOtherToken old new)) before behind
refreshed-told config keygroup now was old new now_is was_is before behind zip =
    zip-then (IsRefreshedWith config keygroup (IsTrue (not (now.0 == was.0)))) (IsRefreshedWith config keygroup (HasOtherToken old new))
    (refreshed-where config keygroup (IsTrue (not (now.0 == was.0))) (HasOtherToken old new) (told-other now was old new now_is was_is) (other-told now was old new now_is was_is))
    before behind zip
