-- A group's turn: what it makes of the parts of a publisher, and of what they have to do with the deeds.
use Rattle.std.proofs.Common.{◌≡◌, refl, sym, ap, ◌∙◌, subst, arith, ℕ, ◌+◌, ◌<◌, ◌≢◌, ◌⊎◌, inl, inr, Bool, true, false, cond, List, [], ◌∷◌, ◌++◌, length, Option, Some, None, get_or, append_assoc}
use Rattle.std.specs.Prelude.{zip, count_by, not, ◌==◌, ◌&&◌, if◌then◌else◌, nat_lt, slice_set, option_map}
use Rattle.std.specs.Option.{option_map_or}
use Rattle.std.specs.List.{HoldsAt}
use Rattle.std.proofs.lemmas.Bool.{eq-eqb}
use Rattle.std.proofs.lemmas.Bool.Decides.{eqb_tells}
use Rattle.std.proofs.lemmas.List.{get_or-set_other, get_or-set_same}
use Rattle.dataset_meta.specs.Metas.{MetaData}
use Rattle.dataset_meta.specs.Rows.{cons_if}
use Rattle.ua_base.specs.Journal.{LinkState, Entry, Tells}
use Rattle.message_guard.specs.Senders.{SenderState, numbers_left}
use Rattle.ps_config.specs.declared.parts.Config.{Config}
use Rattle.writer_group.specs.declared.group.Group.{Group}
use Rattle.ps_config.specs.Headers.{mode_of}
use Rattle.writer_group.specs.Sealing.{advanced_by}
use Rattle.writer_group.specs.Standing.{IsGroup, metas_for}
use Rattle.writer_group.specs.Turns.{GroupTurn, GroupDeed, HadGroupTurn}
use Rattle.session_model.specs.Deeds.{Deed, TookTurn, advanced_if, group_past, is_spent, sender_after}
use Rattle.writer_group.specs.Parts.{group_at}
use Rattle.session_model.specs.Sends.{last_sends, sends_by, send_entries, is_done_by, failing_after, last_failed}
use Rattle.session_model.specs.Answers.{counted}
use Rattle.session_model.proofs.Sending.{zip-append, entries-append, count-append, count-cons, failed-append}
use Rattle.session_parts.specs.declared.sends.GroupSends.{GroupSends}
use Rattle.session_parts.specs.declared.sends.LinkSends.{LinkSends}
use Rattle.session_parts.specs.Standing.{HavePast, HaveSent, IsOfGroup, AreSendsIn}
use Rattle.session_parts.specs.Ticking.{TickData, Noted, OthersStay, NoneFailedFrom, TellsSoFar, is_spent_by, no_sender}

-- ---- the groups

past-here : (config : Config) (g : ℕ) (turn : GroupTurn) (so_far : List Deed)
    → group_past config g (TookTurn g turn ∷ so_far) ≡ HadGroupTurn turn ∷ group_past config g so_far
past-here config g turn so_far = ap (λ b. cons_if b (HadGroupTurn turn) (group_past config g so_far)) (eq-eqb g g refl)

past-there : (config : Config) (g h : ℕ) (turn : GroupTurn) (so_far : List Deed) → (g == h) ≡ false
    → group_past config h (TookTurn g turn ∷ so_far) ≡ group_past config h so_far
past-there config g h turn so_far other = ap (λ b. cons_if b (HadGroupTurn turn) (group_past config h so_far)) other

-- the groups after the turn of one
pub past-turned : (config : Config) (metas : List MetaData) (so_far : List Deed) (g : ℕ) (turn : GroupTurn) (old new : List Group) → OthersStay g old new
    → HoldsAt (IsGroup (metas_for (group_at config g) metas) (group_at config g) (HadGroupTurn turn ∷ group_past config g so_far)) new g
    → HavePast config metas so_far old → HavePast config metas (TookTurn g turn ∷ so_far) new
past-turned config metas so_far g turn old new stay here past h within = by_case (eqb_tells g h)
  where
    Stands : ℕ → Type 0
    Stands k = HoldsAt (IsGroup (metas_for (group_at config k) metas) (group_at config k) (group_past config k (TookTurn g turn ∷ so_far))) new k

    own : Stands g
    own = λ d. subst (λ (x : List GroupDeed). IsGroup (metas_for (group_at config g) metas) (group_at config g) x (get_or new g d)) (sym (past-here config g turn so_far)) (here d)

    stays : (g ≢ h) → (d : Group) → get_or new h d ≡ get_or old h d
    stays other d = ap (λ (l : List Group). get_or l h d) (stay d) ∙ get_or-set_other old g h (get_or new g d) d (λ same. other (sym same))

    by_case : ((g == h) ≡ true) × (g ≡ h) ⊎ ((g == h) ≡ false) × (g ≢ h) → Stands h
    by_case (inl is) = subst Stands is.1 own
    by_case (inr is) = λ d.
        subst (λ (x : Group). IsGroup (metas_for (group_at config h) metas) (group_at config h) (group_past config h (TookTurn g turn ∷ so_far)) x) (sym (stays is.1 d))
        (subst (λ (x : List GroupDeed). IsGroup (metas_for (group_at config h) metas) (group_at config h) x (get_or old h d)) (sym (past-there config g h turn so_far is.0)) (past h within d))

-- ---- the senders

-- a group without a key group uses none
pub senders-open : (config : Config) (so_far : List Deed) (g : ℕ) (turn : GroupTurn) (senders : List SenderState) → (group_at config g).keygroup ≡ None
    → HaveSent config so_far senders → HaveSent config (TookTurn g turn ∷ so_far) senders
senders-open config so_far g turn senders none sent k within d =
    sent k within d
    ∙ sym (ap (λ (o : Option ℕ). advanced_if (option_map_or (λ other. other == k) o false) (mode_of (group_at config g).security) (length turn.made) (sender_after config k so_far)) none)

-- one with a key group uses its sender alone
pub senders-secured : (config : Config) (so_far : List Deed) (g j : ℕ) (turn : GroupTurn) (old new : List SenderState) (s : SenderState)
    → (group_at config g).keygroup ≡ Some j → j < length old → new ≡ slice_set old j s
    → s ≡ advanced_by (mode_of (group_at config g).security) (sender_after config j so_far) (length turn.made)
    → HaveSent config so_far old → HaveSent config (TookTurn g turn ∷ so_far) new
senders-secured config so_far g j turn old new s keyed there changed is sent k within d = by_case (eqb_tells j k)
  where
    after : ℕ → Bool → SenderState
    after m b = advanced_if b (mode_of (group_at config g).security) (length turn.made) (sender_after config m so_far)

    used : sender_after config k (TookTurn g turn ∷ so_far) ≡ after k (j == k)
    used = ap (λ (o : Option ℕ). after k (option_map_or (λ other. other == k) o false)) keyed

    by_case : ((j == k) ≡ true) × (j ≡ k) ⊎ ((j == k) ≡ false) × (j ≢ k) → get_or new k d ≡ sender_after config k (TookTurn g turn ∷ so_far)
    by_case (inl same) =
        ap (λ (l : List SenderState). get_or l k d) changed
        ∙ ap (λ (m : ℕ). get_or (slice_set old j s) m d) (sym same.1)
        ∙ get_or-set_same old j s d there
        ∙ is
        ∙ ap (λ (m : ℕ). after m true) same.1
        ∙ sym (used ∙ ap (after k) same.0)
    by_case (inr other) =
        ap (λ (l : List SenderState). get_or l k d) changed
        ∙ get_or-set_other old j k s d (λ same. other.1 (sym same))
        ∙ sent k within d
        ∙ sym (used ∙ ap (after k) other.0)

-- ---- the sends

other-count : (h g : ℕ) (datagrams : List (List ℕ)) (done : List Bool) → (g == h) ≡ false → count_by (is_done_by h) (zip (sends_by g datagrams) done) ≡ 0
other-count h g [] done other = refl
other-count h g (datagram ∷ datagrams) [] other = refl
other-count h g (datagram ∷ datagrams) (d ∷ done) other =
    omega (
      arith,
      count-cons (is_done_by h) (record { group = g; datagram = datagram }, d) (zip (sends_by g datagrams) done),
      ap (λ (b : Bool). cond (b && d) 1 0 + count_by (is_done_by h) (zip (sends_by g datagrams) done)) other,
      other-count h g datagrams done other,
    )

pub other-failing : (h g : ℕ) (was : Bool) (datagrams : List (List ℕ)) (done : List Bool) → (g == h) ≡ false → failing_after h was (zip (sends_by g datagrams) done) ≡ was
other-failing h g was [] done other = refl
other-failing h g was (datagram ∷ datagrams) [] other = refl
other-failing h g was (datagram ∷ datagrams) (d ∷ done) other =
    ap (λ (b : Bool). failing_after h (if b then not d else was) (zip (sends_by g datagrams) done)) other
    ∙ other-failing h g was datagrams done other

-- the sends of a tick with those of a turn more
pub sends-turned : (g : ℕ) (turn : GroupTurn) (so_far : List Deed) (done more : List Bool) → length done ≡ length (last_sends so_far)
    → zip (last_sends (TookTurn g turn ∷ so_far)) (done ++ more) ≡ zip (last_sends so_far) done ++ zip (sends_by g turn.made) more
sends-turned g turn so_far done more sent = zip-append (last_sends so_far) (sends_by g turn.made) done more sent

-- what a group's count says then
pub outcomes-turned : (g h n : ℕ) (turn : GroupTurn) (so_far : List Deed) (done more : List Bool) (old new : GroupSends) → length done ≡ length (last_sends so_far)
    → Noted (zip (sends_by g turn.made) more) h old new
    → IsOfGroup (n + count_by (is_done_by h) (zip (last_sends so_far) done)) (last_failed h (zip (last_sends so_far) done)) old
    → IsOfGroup (n + count_by (is_done_by h) (zip (last_sends (TookTurn g turn ∷ so_far)) (done ++ more))) (last_failed h (zip (last_sends (TookTurn g turn ∷ so_far)) (done ++ more))) new
outcomes-turned g h n turn so_far done more old new sent noted is =
    let all = sends-turned g turn so_far done more sent in
    let xs = zip (last_sends so_far) done in
    let ys = zip (sends_by g turn.made) more in record {
      done_are = noted.done (n + count_by (is_done_by h) xs) is.done_are
          ∙ ap counted (omega (arith, ap (count_by (is_done_by h)) all ∙ count-append (is_done_by h) xs ys));
      failing_is = noted.failing ∙ ap (λ (b : Bool). failing_after h b ys) is.failing_is ∙ sym (ap (last_failed h) all ∙ failed-append h xs ys);
    }

-- no group behind this one has a failed send
pub none-failed-turned : (g : ℕ) (turn : GroupTurn) (so_far : List Deed) (done more : List Bool) → length done ≡ length (last_sends so_far)
    → NoneFailedFrom g so_far done → NoneFailedFrom (g + 1) (TookTurn g turn ∷ so_far) (done ++ more)
none-failed-turned g turn so_far done more sent none h behind =
    let xs = zip (last_sends so_far) done in
    let ys = zip (sends_by g turn.made) more in
    ap (last_failed h) (sends-turned g turn so_far done more sent)
    ∙ failed-append h xs ys
    ∙ other-failing h g (last_failed h xs) turn.made more (unlike (eqb_tells g h))
    ∙ none h (omega (arith, behind))
  where
    unlike : ((g == h) ≡ true) × (g ≡ h) ⊎ ((g == h) ≡ false) × (g ≢ h) → (g == h) ≡ false
    unlike (inl same) = absurd (omega (arith, same.1, behind))
    unlike (inr other) = other.0

-- the entries of a tick with those of a turn more
entries-turned : (earlier : List Entry) (g : ℕ) (turn : GroupTurn) (so_far : List Deed) (done more : List Bool) → length done ≡ length (last_sends so_far)
    → (earlier ++ send_entries (last_sends so_far) done) ++ send_entries (sends_by g turn.made) more
    ≡ earlier ++ send_entries (last_sends (TookTurn g turn ∷ so_far)) (done ++ more)
entries-turned earlier g turn so_far done more sent =
    append_assoc earlier (send_entries (last_sends so_far) done) (send_entries (sends_by g turn.made) more)
    ∙ ap (λ l. earlier ++ l) (sym (entries-append (last_sends so_far) (sends_by g turn.made) done more sent))

pub link-turned : (earlier : List Entry) (g : ℕ) (turn : GroupTurn) (so_far : List Deed) (done more : List Bool) (old new : LinkSends) → length done ≡ length (last_sends so_far)
    → ((entries : List Entry) → AreSendsIn entries old → AreSendsIn (entries ++ send_entries (sends_by g turn.made) more) new)
    → AreSendsIn (earlier ++ send_entries (last_sends so_far) done) old
    → AreSendsIn (earlier ++ send_entries (last_sends (TookTurn g turn ∷ so_far)) (done ++ more)) new
link-turned earlier g turn so_far done more old new sent adds are =
    subst (λ (l : List Entry). AreSendsIn l new) (entries-turned earlier g turn so_far done more sent) (adds (earlier ++ send_entries (last_sends so_far) done) are)

pub tells-turned : (t : TickData) (g : ℕ) (turn : GroupTurn) (so_far : List Deed) (done more : List Bool) (told after : Option LinkState) → length done ≡ length (last_sends so_far)
    → Tells told after (λ x y. y.journal ≡ x.journal ++ send_entries (sends_by g turn.made) more)
    → TellsSoFar t so_far done told → TellsSoFar t (TookTurn g turn ∷ so_far) (done ++ more) after
tells-turned t g turn so_far done more told after sent tells so link is =
    let at : Tells told (Some link) (λ x y. y.journal ≡ x.journal ++ send_entries (sends_by g turn.made) more)
    = subst (λ (o : Option LinkState). Tells told o (λ x y. y.journal ≡ x.journal ++ send_entries (sends_by g turn.made) more)) is tells in
    at.2 ∙ ap (λ l. l ++ send_entries (sends_by g turn.made) more) (so at.0 at.1) ∙ entries-turned t.account.journal g turn so_far done more sent

-- ---- spent senders

pub spent-is : (config : Config) (g : ℕ) (deeds : List Deed) (senders : List SenderState) (keygroup : Option ℕ) → (group_at config g).keygroup ≡ keygroup
    → ((k : ℕ) → keygroup ≡ Some k → k < length config.keygroup) → HaveSent config deeds senders
    → is_spent_by senders keygroup ≡ is_spent config g deeds
spent-is config g deeds senders None keyed there sent = sym (ap (λ (o : Option ℕ). option_map_or (λ s. nat_lt (numbers_left s) 1024) (option_map (λ k. sender_after config k deeds) o) false) keyed)
spent-is config g deeds senders (Some k) keyed there sent =
    ap (λ (s : SenderState). nat_lt (numbers_left s) 1024) (sent k (there k refl) no_sender)
    ∙ sym (ap (λ (o : Option ℕ). option_map_or (λ s. nat_lt (numbers_left s) 1024) (option_map (λ k. sender_after config k deeds) o) false) keyed)
