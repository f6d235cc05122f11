use Rattle.std.proofs.Common.{◌≡◌, ℕ, ◌<◌, List, length, refl, set, sym, subst, ap, ◌∙◌, arith}
use Rattle.std.specs.Prelude.{All, IsTrue, not, ◌==◌}
use Rattle.std.specs.List.{AllZip, HoldsAt}
use Rattle.std.specs.Vec.{with_items}
use Rattle.std.proofs.lemmas.Bool.{false≢true}
use Rattle.std.proofs.lemmas.List.{length-set, with_items_is}
use Rattle.std.proofs.lemmas.List.Elements.{All-set}
use Rattle.group_keys.specs.Ring.{key_sets}
use Rattle.message_guard.specs.Senders.{IsSender, SenderState}
use Rattle.ps_config.specs.declared.parts.KeyGroupPart.{KeyGroupPart}
use Rattle.device.specs.Coming.{HasOtherToken}
use Rattle.device.specs.Resuming.{IsRefreshedWith, WouldRepeat}
use Rattle.device.specs.Sides.{ArePlaced, IsNoLess, IsNoLower, IsResumed, IsSide}
use Rattle.device.specs.declared.side.Side.{Side}
use Rattle.device.proofs.Places.{holds-at, put-at}
use Rattle.device.proofs.Placing.{placed-with}
use Rattle.device.proofs.Refreshing.{refreshed-told}
use Rattle.device.proofs.Rings.{rings-count, rings-set}
use Rattle.device.proofs.publisher.Publisher.go_on.Goals as goal
use Rattle.device.proofs.publisher.Publisher.go_on.Goals.{After-refresh_with}

sides-kept : (c : After-refresh_with) → (with_items c.args.self.now.sides c.refresh_with.new.sides).items ≡ c.refresh_with.new.sides
sides-kept c =
    with_items_is c.args.self.now.sides c.refresh_with.new.sides
    (omega (arith, c.refresh_with.auto.sides, c.args.self.now.sides.ok.0, ap (λ (l : List Side). length l) c.deref_mut.ensures.value))

pub index_mut-requires-2 : goal.index_mut-requires-2
index_mut-requires-2 c =
    let self = c.args.self.now in
    omega (arith, c.if-index-len.false, c.len.ensures, self.senders.ok.0, self.rings.ok.0, rings-count self.senders.items self.rings.items c.requires.rings_are)

pub refresh_with-requires-clause-sides : goal.refresh_with-requires-clause-sides
refresh_with-requires-clause-sides c = subst (λ (l : List Side). All (IsSide c.args.self.now.config) l) (sym c.deref_mut.ensures.value) c.requires.sides_are

pub returns-then-index-len-clause-refused : goal.returns-then-index-len-clause-refused
returns-then-index-len-clause-refused c = λ within there. absurd (omega (arith, within, c.if-index-len.true, c.len.ensures, c.args.self.now.senders.ok.0, c.from-index.ensures))

pub returns-then-index-keygroups-clause-refused : goal.returns-then-index-keygroups-clause-refused
returns-then-index-keygroups-clause-refused c =
    λ within there. absurd (omega (arith, there, c.if-index-keygroups.true, c.from-index.ensures, ap (λ (l : List KeyGroupPart). length l) c.as_slice-keygroups.ensures))

pub returns-then-not-is_behind-clause-refused : goal.returns-then-not-is_behind-clause-refused
returns-then-not-is_behind-clause-refused c =
    let senders = c.args.self.now.senders.items in
    let keygroups = c.as_slice-keygroups.result.now in
    let index = c.from-index.result in
    let part = c.index-keygroups-index.result in
    let sender = c.index.result.now in
    let sets = key_sets c.args.ring in
    let resumed = c.sender_with-sender.result in
    let low : index < length senders = omega (arith, c.if-index-len.false, c.len.ensures, c.args.self.now.senders.ok.0) in
    let would : WouldRepeat part sets c.args.now c.args.used sender = record {
      resumed = resumed;
      is = c.sender_with-sender.ensures.resumed;
      repeats = λ no_lower. false≢true (c.if-not-is_behind.ensures.1
          (subst (λ (standing : ℕ × ℕ). IsNoLower standing c.standing-new.result) (sym c.standing-old.ensures)
          (subst (λ (standing : ℕ × ℕ). IsNoLower (sender.keys.token, sender.used) standing) (sym c.standing-new.ensures) no_lower)));
    } in
    λ within there.
    holds-at (λ (p : KeyGroupPart). HoldsAt (WouldRepeat p sets c.args.now c.args.used) senders c.args.keygroup) keygroups c.args.self.now.config.keygroup index c.args.keygroup part
    c.as_slice-keygroups.ensures c.from-index.ensures (omega (arith, c.if-index-keygroups.false)) c.index-keygroups-index.is
    (holds-at (WouldRepeat part sets c.args.now c.args.used) senders senders index c.args.keygroup sender refl c.from-index.ensures low c.index.ensures would)

pub returns-clause-behind : goal.returns-clause-behind
returns-clause-behind c =
    let senders = c.args.self.now.senders.items in
    let keygroups = c.as_slice-keygroups.result.now in
    let index = c.from-index.result in
    let part = c.index-keygroups-index.result in
    let sender = c.index.result.now in
    let sets = key_sets c.args.ring in
    let resumed = c.sender_with-sender.result in
    let at = c.from-index.ensures in
    let low : index < length senders = omega (arith, c.if-index-len.false, c.len.ensures, c.args.self.now.senders.ok.0) in
    let there : index < length keygroups = omega (arith, c.if-index-keygroups.false) in
    let no_lower : IsNoLess sender resumed =
    subst (λ (standing : ℕ × ℕ). IsNoLower standing (resumed.keys.token, resumed.used)) c.standing-old.ensures
    (subst (λ (standing : ℕ × ℕ). IsNoLower c.standing-old.result standing) c.standing-new.ensures (c.if-not-is_behind.ensures.0 refl)) in
    let config = c.args.self.now.config in
    let sides = c.args.self.now.sides.items in
    let left = (with_items c.args.self.now.sides c.refresh_with.new.sides).items in
    let refreshed : AllZip (IsRefreshedWith config c.args.keygroup (HasOtherToken sender resumed)) sides left =
    refreshed-told config c.args.keygroup c.standing-new.result c.standing-old.result sender resumed c.standing-new.ensures c.standing-old.ensures sides left
    (subst (λ (l : List Side). AllZip (IsRefreshedWith config c.args.keygroup (IsTrue (not (c.standing-new.result.0 == c.standing-old.result.0)))) sides l)
    (sym (sides-kept (goal.at.returns-clause-behind c).After-refresh_with))
    (subst (λ (l : List Side). AllZip (IsRefreshedWith config c.args.keygroup (IsTrue (not (c.standing-new.result.0 == c.standing-old.result.0)))) l c.refresh_with.new.sides)
    c.deref_mut.ensures.value c.refresh_with.ensures.refreshed)) in
    record {
      within = omega (arith, low, at);
      there = omega (arith, there, at, ap (λ (l : List KeyGroupPart). length l) c.as_slice-keygroups.ensures);
      is_resumed = holds-at (λ (p : KeyGroupPart). HoldsAt (IsResumed p sets c.args.now c.args.used) (set senders index resumed) c.args.keygroup) keygroups c.args.self.now.config.keygroup index
          c.args.keygroup part c.as_slice-keygroups.ensures at there c.index-keygroups-index.is
          (put-at (IsResumed part sets c.args.now c.args.used) senders index c.args.keygroup resumed at low c.sender_with-sender.ensures.resumed);
      no_lower = holds-at (λ (was : SenderState). HoldsAt (IsNoLess was) (set senders index resumed) c.args.keygroup)
          senders senders index c.args.keygroup sender refl at low c.index.ensures
          (put-at (IsNoLess sender) senders index c.args.keygroup resumed at low no_lower);
      others = put-at (λ (is : SenderState). set senders index resumed ≡ set senders c.args.keygroup is) senders index c.args.keygroup resumed at low (ap (λ (k : ℕ). set senders k resumed) at);
      refreshed = holds-at (λ (was : SenderState). HoldsAt (λ (is : SenderState). AllZip (IsRefreshedWith config c.args.keygroup (HasOtherToken was is)) sides left) (set senders index resumed)
          c.args.keygroup) senders senders index c.args.keygroup sender refl at low c.index.ensures
          (put-at (λ (is : SenderState). AllZip (IsRefreshedWith config c.args.keygroup (HasOtherToken sender is)) sides left) senders index c.args.keygroup resumed at low refreshed);
      rest = refl;
    }

pub returns-clause-publisher : goal.returns-clause-publisher
returns-clause-publisher c =
    let r = c.requires in
    record {
      good = r.good;
      rows_are = r.rows_are;
      rows_count = r.rows_count;
      senders_are = All-set IsSender c.args.self.now.senders.items c.from-index.result c.sender_with-sender.result c.sender_with-sender.ensures.sender r.senders_are;
      senders_count = length-set c.args.self.now.senders.items c.from-index.result c.sender_with-sender.result ∙ r.senders_count;
      rings_are = rings-set c.args.self.now.senders.items c.args.self.now.rings.items c.from-index.result c.sender_with-sender.result c.copy_of-copy.result
          (c.copy_of-copy.ensures ∙ sym c.sender_with-sender.ensures.resumed.sets_are) r.rings_are;
      sides_are = subst (λ (l : List Side). All (IsSide c.args.self.now.config) l) (sym (sides-kept (goal.at.returns-clause-publisher c).After-refresh_with)) c.refresh_with.ensures.sides;
      places = subst ArePlaced (sym (sides-kept (goal.at.returns-clause-publisher c).After-refresh_with))
          (placed-with c.args.self.now.config c.args.keygroup (IsTrue (not (c.standing-new.result.0 == c.standing-old.result.0))) c.deref_mut.result.now c.refresh_with.new.sides c.refresh_with.ensures.refreshed
          (subst ArePlaced (sym c.deref_mut.ensures.value) r.places));
      reserved = r.reserved;
      made_is = r.made_is;
      handed_is = r.handed_is;
    }
