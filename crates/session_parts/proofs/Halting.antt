-- Sends of a group that halt where memory runs out.
use Rattle.std.proofs.Common.{◌≡◌, sym, ◌∙◌, subst, ℕ, ◌<◌, Bool, true, List, ◌∷◌, ◌++◌, length, Option, get_or}
use Rattle.std.specs.Prelude.{zip, Vec}
use Rattle.std.specs.declared.alloc.Global.{Global}
use Rattle.ua_base.specs.Journal.{LinkState}
use Rattle.ua_base.proofs.Told.{Tells-then}
use Rattle.message_guard.specs.Senders.{SenderState}
use Rattle.pubsub_states.specs.Changes.{TreeValue}
use Rattle.writer_group.specs.declared.group.Group.{Group}
use Rattle.writer_group.specs.Standing.{datagrams_in}
use Rattle.session_model.specs.Sets.{metas_at}
use Rattle.session_model.specs.Deeds.{Deed, TookTurn}
use Rattle.session_model.specs.Sends.{Send, send_entries}
use Rattle.session_parts.specs.declared.publisher.Publisher.{Publisher}
use Rattle.session_parts.specs.declared.sends.GroupSends.{GroupSends}
use Rattle.session_parts.specs.declared.sends.LinkSends.{LinkSends}
use Rattle.session_parts.specs.Standing.{AreSendsIn, HavePast, HaveSent}
use Rattle.session_parts.specs.Ticking.{TickData, HasTurned, HaveBeenSent, IsAt, IsUnsent, Noted, OthersStay, SendsHalt, TurnHalts}
use Rattle.session_parts.proofs.Turning.{past-turned}
use Rattle.session_parts.proofs.Passing.{has, turn_in}

-- what is unsent adds nothing
pub been-unsent : (xs : List Send) (done : List Bool) (one two three : Publisher) (told mid after : Option LinkState)
    → HaveBeenSent xs done one two told mid → IsUnsent two three mid after → HaveBeenSent xs done one three told after
been-unsent xs done one two three told mid after been unsent =
    subst (λ (p : Publisher). HaveBeenSent xs done one p told after) (sym unsent.publisher) (record {
      each = been.each;
      groups = been.groups;
      link = been.link;
      tells = Tells-then told mid after (λ x y. y.journal ≡ x.journal ++ send_entries xs done) (λ x y. y.journal ≡ x.journal)
          (λ x y. y.journal ≡ x.journal ++ send_entries xs done) (λ x y z p q. q ∙ p) been.tells unsent.tells;
    })

-- of a publisher that has the same sends
been-of : (xs : List Send) (done : List Bool) (zero one two : Publisher) (told after : Option LinkState) → one.sends ≡ zero.sends → one.link ≡ zero.link
    → HaveBeenSent xs done one two told after → HaveBeenSent xs done zero two told after
been-of xs done zero one two told after same_sends same_link been = record {
  each = been.each;
  groups = λ h low d.
      subst (λ (v : Vec GroupSends Global). Noted (zip xs done) h (get_or v.items h d) (get_or two.sends.items h d)) same_sends
      (been.groups h (subst (λ (v : Vec GroupSends Global). h < length v.items) (sym same_sends) low) d);
  link = λ entries are. been.link entries (subst (λ (l : LinkSends). AreSendsIn entries l) (sym same_link) are);
  tells = been.tells;
}

-- zero is the publisher before, one behind the group's turn, two where its sends halted
pub turn-halts : (t : TickData) (g : ℕ) (so_far : List Deed) (done : List Bool) (zero one two : Publisher) (tree : TreeValue) (told after : Option LinkState)
    (d : Group) → has t so_far g ≡ true → IsAt t so_far done zero tree → HasTurned t g so_far one
    → OthersStay g zero.groups.items one.groups.items → one.sends ≡ zero.sends → one.link ≡ zero.link
    → SendsHalt g (datagrams_in one.out) one two told after → two.groups ≡ one.groups → two.senders ≡ one.senders
    → TurnHalts t g so_far zero two told after
turn-halts t g so_far done zero one two tree told after d so at turned others same_sends same_link halt same_groups same_senders = record {
  has = so;
  groups = subst (λ (v : Vec Group Global). HavePast t.plan.config (metas_at t.plan.config t.before) (TookTurn g (turn_in t so_far g) ∷ so_far) v.items) (sym same_groups)
      (past-turned t.plan.config (metas_at t.plan.config t.before) so_far g (turn_in t so_far g) zero.groups.items one.groups.items others (λ e. (turned.ticked e).stands) at.groups);
  senders = subst (λ (v : Vec SenderState Global). HaveSent t.plan.config (TookTurn g (turn_in t so_far g) ∷ so_far) v.items) (sym same_senders) turned.senders;
  sends = subst (λ (l : List (List ℕ)). SendsHalt g l zero two told after) (turned.ticked d).datagrams (record {
    count = halt.count;
    fewer = halt.fewer;
    done = halt.done;
    sent = been-of _ halt.done zero one two told after same_sends same_link halt.sent;
  });
}
